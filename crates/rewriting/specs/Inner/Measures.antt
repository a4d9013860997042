-- What the passes through the kept items of a unit find: how many there are, and how many bytes they take.
use Rattle.std.specs.Prelude.{ℕ, ◌+◌, ◌≤◌, ◌≡◌, List, [], length}
use Rattle.readers.specs.Stream.{Item}
use Rattle.rewriting.specs.Places.{NestedItem, kept_from, size_from}
use Rattle.rewriting.specs.Inner.Parents.{parents_from, HoldsFrom}
use Rattle.rewriting.specs.Inner.Ends.{EndsHeld}
use Rattle.rewriting.specs.declared.offset_pass.Size.{Size}

module _ (items : ℕ → List Item) where
  -- the columns hold the parents and the ends of the entries, from the first on
  abbrev pub ColumnsHeld : List ℕ → List ℕ → ℕ → Type 0
  ColumnsHeld parents ends first = HoldsFrom parents 0 (parents_from 0 [] (items first)) × EndsHeld ends 0 (items first)

  -- what is kept of a unit whose first entry stands at a place
  abbrev pub kept_of_unit : List ℕ → ℕ → List NestedItem
  kept_of_unit marks first = kept_from marks 0 [] (items first)

  -- each place takes a byte at least, and what is written is no longer than the unit
  pub record Measures (unit parents ends marks : List ℕ) (first : ℕ) (z : Size) : Type 0 where
    pub room : first + z.places ≤ z.bytes
    pub inside : first ≤ length unit → z.bytes ≤ length unit
    pub found : ColumnsHeld parents ends first
        → (z.places ≡ length (kept_of_unit marks first)) × (z.bytes ≡ first + size_from (kept_of_unit marks first))
