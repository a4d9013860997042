-- What is kept of a unit, at its new places: the offset is new, and where its values start and where it ends moves with it.
use Rattle.std.specs.Prelude.{ℕ, suc, ◌+◌, ◌-◌, List, [], ◌∷◌, length}
use Rattle.readers.specs.Cursors.{cursor}
use Rattle.readers.specs.Nesting.{opened, closed}
use Rattle.readers.specs.declared.entries.Entry.{Entry}
use Rattle.readers.specs.Stream.{Item, entry, terminator}

unfoldable pub moved_entry : ℕ → Entry → Entry
moved_entry n x =
    record {
      offset = record { 0 = n };
      declaration = x.declaration;
      values = cursor (n + (x.values.at - x.offset.0));
      next = cursor (n + (x.next.at - x.offset.0));
    }

unfoldable pub moved_item : ℕ → Item → Item
moved_item n (entry x) = entry (moved_entry n x)
moved_item n (terminator a b) = terminator n (n + (b - a))

-- ---- how deep

-- how many entries are open around each item (DWARF 5, 2.3), from entry number k on, given the open ones
unfoldable pub depths_from : ℕ → List ℕ → List Item → List ℕ
depths_from k stack [] = []
depths_from k stack (entry x ∷ rest) = length stack ∷ depths_from (suc k) (opened x.declaration.children k stack) rest
depths_from k stack (terminator a b ∷ rest) = length stack ∷ depths_from k (closed stack) rest
