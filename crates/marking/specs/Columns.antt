-- The rows of a unit in lent columns: an entry each in stream order, zeros after them.
use Rattle.std.specs.Prelude.{ℕ, ◌+◌, ◌-◌, ◌/◌, List, [], ◌∷◌, ◌++◌, length, leb, Err, None, Ok, Option, Result, Some}
use Rattle.readers.specs.Choice.{pick, zeros}
use Rattle.readers.specs.Abbreviations.{index_of}
use Rattle.readers.specs.declared.header.UnitHeader.{UnitHeader}
use Rattle.marking.specs.Analysis.{Rooms, rooms, EntryRow, Analysed, analysed, refused}
use Rattle.marking.specs.declared.analysis.Analysis.{Analysis}

unfoldable pub offsets_in : List EntryRow → List ℕ
offsets_in [] = []
offsets_in (r ∷ rs) = r.offset ∷ offsets_in rs

unfoldable pub parents_in : List EntryRow → List ℕ
parents_in [] = []
parents_in (r ∷ rs) = r.parent ∷ parents_in rs

unfoldable pub roots_in : List EntryRow → List ℕ
roots_in [] = []
roots_in (r ∷ rs) = r.root ∷ roots_in rs

-- all references, in stream order
unfoldable pub names_in : List EntryRow → List ℕ
names_in [] = []
names_in (r ∷ rs) = r.names ++ names_in rs

-- for each entry the number of references up to and with its own, m before them
unfoldable pub ends_in : ℕ → List EntryRow → List ℕ
ends_in m [] = []
ends_in m (r ∷ rs) = (m + length r.names) ∷ ends_in (m + length r.names) rs

-- a column of n numbers
unfoldable pub pad_to : ℕ → List ℕ → List ℕ
pad_to n xs = xs ++ zeros (n - length xs)

unfoldable pub column : (List EntryRow → List ℕ) → ℕ → Analysed → List ℕ
column f n (analysed rows) = pad_to n (f rows)
column f n (refused k) = zeros n

-- the least of two lengths: a table is as long as its shortest column
unfoldable pub least : ℕ → ℕ → ℕ
least a b = pick (leb a b) a b

unfoldable pub rooms_of : ℕ → ℕ → ℕ → ℕ → ℕ → ℕ → ℕ → Rooms
rooms_of entries references offsets parents roots ends targets =
    rooms (least entries (least (least offsets parents) (least roots ends))) (least references targets)

-- with the marks in the entry table, and the pairs in the reference table
unfoldable pub unit_rooms : ℕ → ℕ → ℕ → ℕ → ℕ → ℕ → ℕ → Rooms
unit_rooms marks pairs offsets parents roots ends targets = rooms_of marks (pairs / 2) offsets parents roots ends targets

-- the index of the unit's declarations, zeros where there is no unit
unfoldable pub index_after : List ℕ → Result (Option UnitHeader) ℕ → ℕ → List ℕ
index_after abbreviations (Ok None) n = zeros n
index_after abbreviations (Err k) n = zeros n
index_after abbreviations (Ok (Some h)) n = index_of abbreviations h.abbreviations n

-- as the code answers it
abbrev pub entries_counted : ℕ → ℕ → Result Analysis ℕ
entries_counted entries references = Ok (record { entries = entries; references = references })

unfoldable pub answer_of : Analysed → Result Analysis ℕ
answer_of (analysed rows) = entries_counted (length rows) (length (names_in rows))
answer_of (refused n) = Err n
