-- The references of a unit resolved from offsets to entries, its graph and its marks.
use Rattle.std.specs.Prelude.{ℕ, suc, ◌≤◌, List, [], ◌∷◌, ◌++◌, length, eqb, None, Ok, Option, Some, Err, Result}
use Rattle.readers.specs.Choice.{pick}
use Rattle.marking.specs.Graph.{Graph, graph}
use Rattle.marking.specs.Marks.{marks_of, kept_count}
use Rattle.marking.specs.Analysis.{EntryRow, Analysed, analysed, refused}
use Rattle.marking.specs.Columns.{offsets_in, parents_in, roots_in}
use Rattle.marking.specs.declared.units.UnitMarks.{UnitMarks}

-- the entry that starts at an offset: the offsets from entry k on
unfoldable pub entry_from : ℕ → List ℕ → ℕ → Option ℕ
entry_from k [] t = None
entry_from k (o ∷ os) t = pick (eqb o t) (Some k) (entry_from (suc k) os t)

-- a pair for a reference that names an entry; one that names none marks nothing
unfoldable pub pair_for : ℕ → Option ℕ → List ℕ
pair_for i None = []
pair_for i (Some t) = i ∷ t ∷ []

unfoldable pub pairs_of_entry : List ℕ → ℕ → List ℕ → List ℕ
pairs_of_entry os i [] = []
pairs_of_entry os i (t ∷ ts) = pair_for i (entry_from 0 os t) ++ pairs_of_entry os i ts

unfoldable pub pairs_from : List ℕ → ℕ → List EntryRow → List ℕ
pairs_from os i [] = []
pairs_from os i (r ∷ rs) = pairs_of_entry os i r.names ++ pairs_from os (suc i) rs

unfoldable pub pairs_in : List EntryRow → List ℕ
pairs_in rows = pairs_from (offsets_in rows) 0 rows

-- THE graph of a unit
unfoldable pub graph_of : List EntryRow → Graph
graph_of rows = graph (parents_in rows) (pairs_in rows) (roots_in rows)

-- its marks, and what marking a unit answers
unfoldable pub marks_in : List EntryRow → List ℕ
marks_in rows = marks_of (graph_of rows)

abbrev pub unit_marked : ℕ → ℕ → Result UnitMarks ℕ
unit_marked entries kept = Ok (record { entries = entries; kept = kept })

unfoldable pub unit_marks : Analysed → Result UnitMarks ℕ
unit_marks (analysed rows) = unit_marked (length rows) (kept_count (marks_in rows))
unit_marks (refused n) = Err n

-- offsets from `low` on, in strictly ascending order
unfoldable pub Ascending : ℕ → List ℕ → Type 0
Ascending low [] = Unit {0}
Ascending low (o ∷ os) = (low ≤ o) × Ascending (suc o) os
