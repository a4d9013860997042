-- What the parts of `mark_unit` ask of the lent columns.
use Rattle.std.specs.Prelude.{◌≡◌, ℕ, ◌+◌, ◌*◌, ◌-◌, ◌≤◌, true, List, length, take, None, Option, Some}
use Rattle.readers.specs.Choice.{zeros}
use Rattle.marking.specs.Graph.{takes}
use Rattle.marking.specs.Analysis.{EntryRow}
use Rattle.marking.specs.Columns.{offsets_in, parents_in, roots_in, names_in, ends_in}
use Rattle.readers.specs.declared.offsets.EntryIndex.{EntryIndex}
use Rattle.marking.specs.Resolution.{Ascending, graph_of}

-- as the code answers it
unfoldable pub as_entry : Option ℕ → Option EntryIndex
as_entry None = None
as_entry (Some i) = Some (record { 0 = i })

-- the offsets of n entries that can be searched by halves
pub record Searched (offsets : List ℕ) (n : ℕ) : Type 0 where
  pub inside : n ≤ length offsets
  pub ascending : Ascending 0 (take n offsets)

-- the references from one place to another, and room for their pairs
pub record ResolveInput (offsets : List ℕ) (n : ℕ) (targets : List ℕ) (from to : ℕ) (pairs : List ℕ) (at : ℕ) : Type 0 where
  pub searched : Searched offsets n
  pub forward : from ≤ to
  pub inside : to ≤ length targets
  pub room : 2 * (at + (to - from)) ≤ length pairs

-- columns that hold rows, and a cleared table with room for their pairs
pub record ReferenceColumns (rows : List EntryRow) (offsets ends : List ℕ) (n : ℕ) (targets pairs : List ℕ) : Type 0 where
  pub count : length rows ≡ n
  pub searched : Searched offsets n
  pub starts : take n offsets ≡ offsets_in rows
  pub stops : take n ends ≡ ends_in 0 rows
  pub named : take (length (names_in rows)) targets ≡ names_in rows
  pub room : 2 * length (names_in rows) ≤ length pairs
  pub cleared : pairs ≡ zeros (length pairs)

pub record Resolvable (offsets ends : List ℕ) (n : ℕ) (targets pairs : List ℕ) : Type 0 where
  pub rows : List EntryRow
  pub held : ReferenceColumns rows offsets ends n targets pairs

-- all columns of rows, cleared tables with room for their marks and pairs, and a graph that marking takes
pub record UnitColumns (rows : List EntryRow) (offsets parents roots ends : List ℕ) (n : ℕ)
    (marks targets pairs : List ℕ) : Type 0 where
  pub held : ReferenceColumns rows offsets ends n targets pairs
  pub parented : take n parents ≡ parents_in rows
  pub rooted : take n roots ≡ roots_in rows
  pub parents_inside : n ≤ length parents
  pub roots_inside : n ≤ length roots
  pub marks_inside : n ≤ length marks
  pub unmarked : marks ≡ zeros (length marks)
  pub fits : takes (graph_of rows) n ≡ true

pub record Markable (offsets parents roots ends : List ℕ) (n : ℕ) (marks targets pairs : List ℕ) : Type 0 where
  pub rows : List EntryRow
  pub laid : UnitColumns rows offsets parents roots ends n marks targets pairs
