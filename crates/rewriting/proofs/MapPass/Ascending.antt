-- The items of a unit, and the places of kept ones, stand in ascending order.
use mathlib.Core.Path.{◌≡◌}
use Prim.Native.Nat.{ℕ, suc, ◌≤◌, ◌<◌, ◌+◌}
use native.Mathlib.Omega.{arith}
use mathlib.Core.Bool.{true, false, Bool}
use mathlib.Core.List.{List, [], ◌∷◌}
use lib.ListN.{length}
use Rattle.readers.specs.Entries.{step_at}
use Rattle.readers.specs.declared.cursor.Encoding.{Encoding}
use Rattle.readers.specs.declared.cursor.Cursor.{Cursor}
use Rattle.std.specs.Prelude.{Option, Some}
use Rattle.readers.specs.declared.abbreviations.Declaration.{Declaration}
use Rattle.readers.specs.declared.entries.Entry.{Entry}
use Rattle.readers.specs.declared.entries.Step.TheVariants.{Entry as Entry', Terminator}
use Rattle.readers.specs.Stream.{entry, terminator, Items, push, items_from, Item}
use Rattle.rewriting.specs.Places.{offset_of, NestedItem, innermost, with_if, kept_from, size_of, places_from, old_offsets}
use Rattle.marking.specs.Resolution.{Ascending as From}
use Rattle.rewriting.specs.Ascending.{Ascending}
use Rattle.rewriting.proofs.ListPass.Sorted.{from_less}
use Rattle.readers.proofs.Streams.{EntryInside}
use Rattle.readers.specs.Nesting.{opened, closed}
use Rattle.rewriting.proofs.KeptPass.Items.{items-by}
use Rattle.marking.specs.Marks.{is_kept}

-- ---- the items of a unit

unfoldable pub offsets_of : List Item → List ℕ
offsets_of [] = []
offsets_of (i ∷ rest) = offset_of i ∷ offsets_of rest

module _ (e : Encoding) (abbreviations : List ℕ) (look : ℕ → Option Declaration) (unit : List ℕ) where
  abbrev pub from : ℕ → Items
  from = items_from e abbreviations look unit

  -- ---- in ascending order

  abbrev OffsetsFrom : ℕ → Items → Type 0
  OffsetsFrom at r = From at (offsets_of r.0)

  follow-entry : (at : ℕ) (x : Entry) → step_at e abbreviations look unit at ≡ Some (Entry' x) → EntryInside unit at x → OffsetsFrom x.next.at (from x.next.at)
      → OffsetsFrom at (push (entry x) (from x.next.at))
  unfolding push offsets_of offset_of From
  follow-entry at x q i f =
      (omega (arith, i.here), from_less (suc x.offset.0) x.next.at (offsets_of (from x.next.at).0) (omega (arith, i.here, i.coded, i.ahead)) f)

  follow-terminator : (at : ℕ) (c : Cursor) → step_at e abbreviations look unit at ≡ Some (Terminator c) → at < c.at → c.at ≤ length unit → OffsetsFrom c.at (from c.at)
      → OffsetsFrom at (push (terminator at c.at) (from c.at))
  unfolding push offsets_of offset_of From
  follow-terminator at c q lo hi f = (omega arith, from_less (suc at) c.at (offsets_of (from c.at).0) lo f)

  follow-end : (at : ℕ) → length unit ≤ at → OffsetsFrom at ([], true)
  unfolding offsets_of From
  follow-end at l = tt

  follow-unreadable : (at : ℕ) → OffsetsFrom at ([], false)
  unfolding offsets_of From
  follow-unreadable at = tt

  pub items-from : (at : ℕ) → From at (offsets_of (from at).0)
  items-from at = items-by e abbreviations look unit OffsetsFrom follow-entry follow-terminator follow-end follow-unreadable at

  pub items-ascending : (at : ℕ) → Ascending (offsets_of (from at).0)
  items-ascending at = from_less 0 at (offsets_of (from at).0) (omega arith) (items-from at)

with-from : (b : Bool) (low n : ℕ) (x : NestedItem) (xs : List NestedItem) → low ≤ offset_of x.item
    → ((m : ℕ) → From (suc (offset_of x.item)) (old_offsets (places_from m xs))) → From low (old_offsets (places_from n (with_if b x xs)))
unfolding with_if places_from old_offsets From
with-from true low n x xs h f = (h, f (n + size_of x.item))
with-from false low n x xs h f = from_less low (suc (offset_of x.item)) (old_offsets (places_from n xs)) (omega arith) (f n)

olds-from : (marks : List ℕ) (low k n : ℕ) (stack : List Bool) (items : List Item) → From low (offsets_of items) → From low (old_offsets (places_from n (kept_from marks k stack items)))
unfolding kept_from places_from old_offsets offsets_of From
olds-from marks low k n stack [] f = tt
olds-from marks low k n stack (entry x ∷ rest) f =
    with-from (is_kept marks k) low n (record { item = entry x; depth = length stack }) _ f.0
    (λ m. olds-from marks (suc (offset_of (entry x))) (suc k) m (opened x.declaration.children (is_kept marks k) stack) rest f.1)
olds-from marks low k n stack (terminator a b ∷ rest) f =
    with-from (innermost stack) low n (record { item = terminator a b; depth = length stack }) _ f.0
    (λ m. olds-from marks (suc (offset_of (terminator a b))) k m (closed stack) rest f.1)

-- the old offsets of the kept items ascend where those of the items do
pub olds-ascending : (marks : List ℕ) (k n : ℕ) (stack : List Bool) (items : List Item) → Ascending (offsets_of items)
    → Ascending (old_offsets (places_from n (kept_from marks k stack items)))
olds-ascending marks k n stack items f = olds-from marks 0 k n stack items f
