-- What `next_kept` answers: the next kept item of a unit, and how the pass through the kept items goes on.
use Rattle.std.specs.Prelude.{ℕ, ◌≤◌, ◌<◌, ◌≡◌, Bool, true, false, List, [], ◌∷◌, length, eqb, None, Option, Some}
use Rattle.readers.specs.Choice.{pick}
use Rattle.readers.specs.Nesting.{nesting_of}
use Rattle.readers.specs.Inner.Nesting.{Chain}
use Rattle.readers.specs.Abbreviations.{find_at}
use Rattle.readers.specs.Stream.{Item, entry, terminator, items_from}
use Rattle.readers.specs.declared.entries.Nesting.{Nesting}
use Rattle.marking.specs.Marks.{is_kept}
use Rattle.rewriting.specs.Places.{NestedItem, kept_from}
use Rattle.rewriting.specs.Inner.Parents.{parents_from, HoldsFrom}
use Rattle.rewriting.specs.Inner.Ends.{EndsHeld}
use Rattle.rewriting.specs.declared.kept_items.Reading.{Reading}
use Rattle.rewriting.specs.declared.kept_items.PassPosition.{PassPosition}
use Rattle.rewriting.specs.declared.kept_items.KeptItem.{KeptItem}

-- whether each open entry is kept
unfoldable pub open_kept : List ℕ → List ℕ → List Bool
open_kept marks [] = []
open_kept marks (k ∷ stack) = is_kept marks k ∷ open_kept marks stack

-- whether a terminator closes the children of a kept entry, by what is kept of the open entries
unfoldable pub closes_kept : List ℕ → Nesting → Bool
closes_kept marks n = pick (eqb n.depth 0) false (is_kept marks n.parent.0)

-- the items from a place on, as the code reads them
abbrev pub items_by : Reading → List ℕ → List ℕ → List ℕ → ℕ → List Item
items_by r abbreviations index unit at = (items_from r.encoding abbreviations (find_at abbreviations r.from index) unit at).0

-- what an answer shows of an item
unfoldable pub ShowsItem : KeptItem → Item → Type 0
ShowsItem x (entry y) =
    (x.is_entry ≡ true) × (x.start.0 ≡ y.offset.0) × (x.end.at ≡ y.next.at)
    × (x.specs ≡ y.declaration.attributes) × (x.values ≡ y.values)
ShowsItem x (terminator a b) = (x.is_entry ≡ false) × (x.start.0 ≡ a) × (x.end.at ≡ b)

-- an item takes some bytes of the unit, and the pass goes on after it
unfoldable pub Forward : List ℕ → ℕ → Option KeptItem → Type 0
Forward unit at (Some x) = (at ≤ x.start.0) × (x.start.0 < x.end.at) × (x.end.at ≤ length unit) × (x.next.at.at ≡ x.end.at)
Forward unit at None = Unit {0}

module _ (items : ℕ → List Item) (parents ends : List ℕ) where
  -- a pass stands where these entries are open, the innermost first, and the columns hold the parents and the ends from here on
  pub record Stood (s : PassPosition) (stack : List ℕ) : Type 0 where
    pub nested : s.nesting ≡ nesting_of stack
    pub chained : Chain parents stack
    pub counted : length stack ≤ s.count.0
    pub passed : s.count.0 ≤ s.at.at
    pub holds : HoldsFrom parents s.count.0 (parents_from s.count.0 stack (items s.at.at))
    pub ends_hold : EndsHeld ends s.count.0 (items s.at.at)

  module _ (marks : List ℕ) where
    -- what is kept from here on
    abbrev pub kept_at : PassPosition → List ℕ → List NestedItem
    kept_at s stack = kept_from marks s.count.0 (open_kept marks stack) (items s.at.at)

    -- the next kept item, and where the pass stands after it
    pub record NextItem (s : PassPosition) (stack : List ℕ) (x : KeptItem) : Type 0 where
      pub standing : NestedItem
      pub after : List ℕ
      pub whole : kept_at s stack ≡ standing ∷ kept_at x.next after
      pub shows : ShowsItem x standing.item
      pub deep : x.depth ≡ standing.depth
      pub low : x.depth ≤ x.start.0
      pub stood : Stood x.next after

    unfoldable pub Next : PassPosition → List ℕ → Option KeptItem → Type 0
    Next s stack (Some x) = NextItem s stack x
    Next s stack None = kept_at s stack ≡ []

    -- THE answer
    pub record Answers (unit : List ℕ) (s : PassPosition) (r : Option KeptItem) : Type 0 where
      pub forward : Forward unit s.at.at r
      pub next : (stack : List ℕ) → Stood s stack → Next s stack r
