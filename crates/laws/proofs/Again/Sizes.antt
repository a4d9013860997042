-- Sizes: of the kept items and of those left out; the items of a unit fill it, and each takes some bytes.
use mathlib.Core.Path.{◌≡◌, refl}
use Prim.Native.Nat.{ℕ, suc, ◌+◌, ◌≤◌, ◌<◌}
use native.Mathlib.Omega.{arith}
use mathlib.Core.Bool.{Bool, true, false, not}
use mathlib.Core.List.{List, [], ◌∷◌}
use lib.ListN.{length}
use Rattle.marking.specs.Marks.{is_kept}
use Rattle.readers.specs.Entries.{step_at}
use Rattle.readers.specs.declared.cursor.Encoding.{Encoding}
use Rattle.readers.specs.declared.cursor.Cursor.{Cursor}
use Rattle.std.specs.Prelude.{Option, Some}
use Rattle.readers.specs.declared.abbreviations.Declaration.{Declaration}
use Rattle.readers.specs.declared.entries.Entry.{Entry}
use Rattle.readers.specs.declared.entries.Step.TheVariants.{Entry as Entry', Terminator}
use Rattle.readers.specs.Stream.{Item, entry, terminator, Items, push, items_from}
use Rattle.rewriting.specs.Places.{NestedItem, innermost, with_if, kept_from, offset_of, size_of, size_from}
use Rattle.marking.specs.Members.{Member, here, there}
use Rattle.laws.specs.Inner.Maps.{Sized}
use Rattle.laws.specs.LeftOut.{left_from, sizes_of}
use Rattle.marking.proofs.Members.{nothing-in}
use Rattle.readers.proofs.Streams.{EntryInside}
use Rattle.readers.specs.Nesting.{opened, closed}
use Rattle.rewriting.proofs.KeptPass.Items.{items-by}

-- ---- kept and left out

with-sizes : (b : Bool) (x : NestedItem) (xs ys : List NestedItem) (n : ℕ) → n ≡ size_from xs + size_from ys
    → size_of x.item + n ≡ size_from (with_if b x xs) + size_from (with_if (not b) x ys)
unfolding with_if size_from
with-sizes true x xs ys n h = omega arith
with-sizes false x xs ys n h = omega arith

pub sizes-divided : (marks : List ℕ) (k : ℕ) (stack : List Bool) (items : List Item)
    → sizes_of items ≡ size_from (kept_from marks k stack items) + size_from (left_from marks k stack items)
unfolding sizes_of kept_from left_from size_from
sizes-divided marks k stack [] = refl
sizes-divided marks k stack (entry x ∷ rest) =
    with-sizes (is_kept marks k) (record { item = entry x; depth = length stack }) _ _ _ (sizes-divided marks (suc k) (opened x.declaration.children (is_kept marks k) stack) rest)
sizes-divided marks k stack (terminator a b ∷ rest) =
    with-sizes (innermost stack) (record { item = terminator a b; depth = length stack }) _ _ _ (sizes-divided marks k (closed stack) rest)

-- an item from a place on takes some bytes of the unit
pub record Inside (unit : List ℕ) (at : ℕ) (i : Item) : Type 0 where
  pub after : at ≤ offset_of i
  pub sized : 0 < size_of i
  pub within : offset_of i + size_of i ≤ length unit

abbrev AllInside : List ℕ → ℕ → List Item → Type 0
AllInside unit at items = (i : Item) → Member i items → Inside unit at i

inside-less : (unit : List ℕ) (at n : ℕ) (i : Item) → at ≤ n → Inside unit n i → Inside unit at i
inside-less unit at n i h j = record { after = omega (arith, j.after); sized = j.sized; within = j.within }

inside_on : (unit : List ℕ) (at n : ℕ) (i : Item) (items : List Item) → Inside unit at i → at ≤ n → AllInside unit n items → AllInside unit at (i ∷ items)
inside_on unit at n i items j h k x (here e) = rw e j
inside_on unit at n i items j h k x (there m) = inside-less unit at n x h (k x m)

module _ (e : Encoding) (abbreviations : List ℕ) (look : ℕ → Option Declaration) (unit : List ℕ) where
  abbrev from : ℕ → Items
  from = items_from e abbreviations look unit

  abbrev Fills : ℕ → Items → Type 0
  Fills at r = r.1 ≡ true → at ≤ length unit → at + sizes_of r.0 ≡ length unit

  fills-entry : (at : ℕ) (x : Entry) → step_at e abbreviations look unit at ≡ Some (Entry' x) → EntryInside unit at x → Fills x.next.at (from x.next.at)
      → Fills at (push (entry x) (from x.next.at))
  unfolding push sizes_of size_of
  fills-entry at x q i f t h =
      let s : x.next.at + sizes_of (from x.next.at).0 ≡ length unit = f t i.within in
      omega (arith, i.here, i.coded, i.ahead)

  fills-terminator : (at : ℕ) (c : Cursor) → step_at e abbreviations look unit at ≡ Some (Terminator c) → at < c.at → c.at ≤ length unit → Fills c.at (from c.at)
      → Fills at (push (terminator at c.at) (from c.at))
  unfolding push sizes_of size_of
  fills-terminator at c q lo hi f t h =
      let s : c.at + sizes_of (from c.at).0 ≡ length unit = f t hi in
      omega arith

  fills-end : (at : ℕ) → length unit ≤ at → Fills at ([], true)
  unfolding sizes_of
  fills-end at l t h = omega arith

  fills-unreadable : (at : ℕ) → Fills at ([], false)
  fills-unreadable at t h = let z : ◌≡◌ {A = ℕ} 0 1 = cc in absurd (omega arith)

  -- items up to the unit's end fill it
  pub items-fill : (at : ℕ) → (from at).1 ≡ true → at ≤ length unit → at + sizes_of (from at).0 ≡ length unit
  items-fill at = items-by e abbreviations look unit Fills fills-entry fills-terminator fills-end fills-unreadable at

  -- a unit is its kept items and those left out
  pub kept-and-left : (marks : List ℕ) (k : ℕ) (stack : List Bool) (at : ℕ) → (from at).1 ≡ true → at ≤ length unit
      → at + size_from (kept_from marks k stack (from at).0) + size_from (left_from marks k stack (from at).0) ≡ length unit
  kept-and-left marks k stack at t h = omega (arith, items-fill at t h, sizes-divided marks k stack (from at).0)

  -- ---- each inside the unit, and of some bytes

  abbrev Insides : ℕ → Items → Type 0
  Insides at r = AllInside unit at r.0

  insides-entry : (at : ℕ) (x : Entry) → step_at e abbreviations look unit at ≡ Some (Entry' x) → EntryInside unit at x → Insides x.next.at (from x.next.at)
      → Insides at (push (entry x) (from x.next.at))
  unfolding push offset_of size_of
  insides-entry at x q i f =
      inside_on unit at x.next.at (entry x) (from x.next.at).0
      (record { after = omega (arith, i.here); sized = omega (arith, i.here, i.coded, i.ahead); within = omega (arith, i.here, i.coded, i.ahead, i.within) })
      (omega (arith, i.here, i.coded, i.ahead)) f

  insides-terminator : (at : ℕ) (c : Cursor) → step_at e abbreviations look unit at ≡ Some (Terminator c) → at < c.at → c.at ≤ length unit → Insides c.at (from c.at)
      → Insides at (push (terminator at c.at) (from c.at))
  unfolding push offset_of size_of
  insides-terminator at c q lo hi f =
      inside_on unit at c.at (terminator at c.at) (from c.at).0
      (record { after = omega arith; sized = omega arith; within = omega arith })
      (omega arith) f

  insides-end : (at : ℕ) → length unit ≤ at → Insides at ([], true)
  insides-end at l i m = absurd (nothing-in i m)

  insides-unreadable : (at : ℕ) → Insides at ([], false)
  insides-unreadable at i m = absurd (nothing-in i m)

  pub items-inside : (at : ℕ) (i : Item) → Member i (from at).0 → Inside unit at i
  items-inside at = items-by e abbreviations look unit Insides insides-entry insides-terminator insides-end insides-unreadable at

  pub items-sized : (at : ℕ) → Sized (from at).0
  items-sized at i m = (items-inside at i m).sized
