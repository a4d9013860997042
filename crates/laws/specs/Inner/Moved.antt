-- Kept items one after another at their new places.
use Rattle.std.specs.Prelude.{ℕ, suc, ◌+◌, ◌-◌, ◌<◌, Bool, List, [], ◌∷◌, length, T, None, Option, Some}
use Rattle.readers.specs.Cursors.{cursor}
use Rattle.readers.specs.declared.entries.Step.{Step}
use Rattle.readers.specs.declared.entries.Step.TheVariants.{Entry as Entry', Terminator, End}
use Rattle.marking.specs.Marks.{is_kept}
use Rattle.readers.specs.Stream.{Item, entry, terminator}
use Rattle.readers.specs.Nesting.{opened, closed}
use Rattle.rewriting.specs.Places.{NestedItem, innermost, size_of}
use Rattle.laws.specs.Moved.{moved_entry, moved_item}

-- a step from one place, as a step from another
unfoldable pub moved_step : ℕ → ℕ → Option Step → Option Step
moved_step at n (Some (Entry' x)) = Some (Entry' (moved_entry n x))
moved_step at n (Some (Terminator c)) = Some (Terminator (cursor (n + (c.at - at))))
moved_step at n (Some End) = Some End
moved_step at n None = None

-- the kept items one after the other from a new place on
unfoldable pub moved_from : ℕ → List NestedItem → List Item
moved_from n [] = []
moved_from n (x ∷ xs) = moved_item n x.item ∷ moved_from (n + size_of x.item) xs

-- marks that keep, of each kept entry, the parent: the innermost open entry, if one is open
unfoldable pub ParentsKept : List ℕ → ℕ → List Bool → List Item → Type 0
ParentsKept marks k stack [] = Unit {0}
ParentsKept marks k stack (entry x ∷ rest) =
    (T (is_kept marks k) → 0 < length stack → T (innermost stack)) × ParentsKept marks (suc k) (opened x.declaration.children (is_kept marks k) stack) rest
ParentsKept marks k stack (terminator a b ∷ rest) = ParentsKept marks k (closed stack) rest
