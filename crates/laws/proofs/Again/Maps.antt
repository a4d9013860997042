-- The map: a place for each kept item, in the order of old offsets and of new ones, and where an old offset leads to.
use Prim.Native.Nat.{ℕ, suc, ◌+◌, ◌≤◌, ◌<◌}
use mathlib.Core.Path.{◌≡◌, refl, sym, ap, ◌∙◌}
use mathlib.Core.Bool.{Bool, true, false}
use mathlib.Core.List.{List, [], ◌∷◌}
use mathlib.Core.Logic.{◌⊎◌, inr, ⊎_elim}
use Rattle.std.specs.Prelude.{Option, Some}
use native.Mathlib.Omega.{arith}
use lib.ListN.{length}
use lib.Dec.{eqb}
use mir.Facts.{yes_eqb, no_eqb}
use Rattle.readers.proofs.Choice.{pick-either, pick_yes, pick_no}
use Rattle.marking.specs.Marks.{is_kept}
use Rattle.readers.specs.Stream.{Item, entry, terminator}
use Rattle.readers.specs.Nesting.{opened, closed}
use Rattle.rewriting.specs.Places.{NestedItem, Place, innermost, with_if, kept_from, offset_of, size_of, places_from, new_of, old_offsets}
use Rattle.rewriting.specs.Rewriting.{is_some}
use Rattle.marking.specs.Resolution.{Ascending as From}
use Rattle.marking.specs.Members.{Member, here, there}
use Rattle.rewriting.specs.Ascending.{Ascending}
use Rattle.laws.specs.Inner.Maps.{MappedTo, Sized, KeptSized}
use Rattle.laws.specs.Thinned.{new_offsets}
use Rattle.marking.proofs.Members.{nothing-in, in-cases, from_member}
use Rattle.rewriting.proofs.ListPass.Sorted.{from_less}

-- ---- one place for each item

pub places-length : (n : ℕ) (xs : List NestedItem) → length (places_from n xs) ≡ length xs
unfolding places_from
places-length n [] = refl
places-length n (x ∷ xs) = ap suc (places-length (n + size_of x.item) xs)

-- ---- kept items are items

with-member : (b : Bool) (s x : NestedItem) (xs : List NestedItem) → Member s (with_if b x xs) → (s ≡ x) ⊎ Member s xs
unfolding with_if
with-member true s x xs m = in-cases m
with-member false s x xs m = inr m

pub kept-member : (marks : List ℕ) (k : ℕ) (stack : List Bool) (items : List Item) (s : NestedItem) → Member s (kept_from marks k stack items) → Member s.item items
unfolding kept_from
kept-member marks k stack [] s m = absurd (nothing-in s m)
kept-member marks k stack (entry x ∷ rest) s m =
    ⊎_elim
    (λ (e : s ≡ record { item = entry x; depth = length stack }). here (ap (λ (y : NestedItem). y.item) e))
    (λ (n : Member s (kept_from marks (suc k) (opened x.declaration.children (is_kept marks k) stack) rest)).
    there (kept-member marks (suc k) (opened x.declaration.children (is_kept marks k) stack) rest s n))
    (with-member (is_kept marks k) s _ _ m)
kept-member marks k stack (terminator a b ∷ rest) s m =
    ⊎_elim
    (λ (e : s ≡ record { item = terminator a b; depth = length stack }). here (ap (λ (y : NestedItem). y.item) e))
    (λ (n : Member s (kept_from marks k (closed stack) rest)). there (kept-member marks k (closed stack) rest s n))
    (with-member (innermost stack) s _ _ m)

pub kept-sized : (marks : List ℕ) (k : ℕ) (stack : List Bool) (items : List Item) → Sized items → KeptSized (kept_from marks k stack items)
kept-sized marks k stack items h s m = h s.item (kept-member marks k stack items s m)

-- ---- ascending

pub news-from : (n : ℕ) (xs : List NestedItem) → KeptSized xs → From n (new_offsets (places_from n xs))
unfolding places_from new_offsets From
news-from n [] h = tt
news-from n (x ∷ xs) h =
    let p : 0 < size_of x.item = h x (here refl) in
    (omega arith, from_less (suc n) (n + size_of x.item) (new_offsets (places_from (n + size_of x.item) xs)) (omega arith) (news-from (n + size_of x.item) xs (λ s m. h s (there m))))

-- the new offsets ascend where every item takes some bytes
pub news-ascending : (n : ℕ) (xs : List NestedItem) → KeptSized xs → Ascending (new_offsets (places_from n xs))
news-ascending n xs h = from_less 0 n (new_offsets (places_from n xs)) (omega arith) (news-from n xs h)

-- ---- where an old offset leads to

pub mapped-on : (p : Place) (map : List Place) (v n : ℕ) → MappedTo map v n → MappedTo (p ∷ map) v n
mapped-on p map v n l = record { place = l.place; within = there l.within; old = l.old; new = l.new }

old-member : (p : Place) (map : List Place) → Member p map → Member p.old (old_offsets map)
unfolding old_offsets
old-member p [] m = absurd (nothing-in p m)
old-member p (q ∷ ps) (here e) = here (ap (λ (x : Place). x.old) e)
old-member p (q ∷ ps) (there m) = there (old-member p ps m)

new-of : (low : ℕ) (p : Place) (map : List Place) → From low (old_offsets map) → Member p map → new_of map p.old ≡ Some p.new
unfolding new_of old_offsets From
new-of low p [] f m = absurd (nothing-in p m)
new-of low p (q ∷ ps) f (here e) =
    pick_yes _ _ _ (yes_eqb {a = q.old} {b = p.old} (ap (λ (x : Place). x.old) (sym e))) ∙ ap (λ (x : Place). Some x.new) (sym e)
new-of low p (q ∷ ps) f (there m) =
    let h : suc q.old ≤ p.old = from_member (suc q.old) p.old (old_offsets ps) f.1 (old-member p ps m) in
    pick_no _ _ _ (no_eqb {a = q.old} {b = p.old} (omega arith)) ∙ new-of (suc q.old) p ps f.1 m

-- in an ascending map an old offset has the new one that a place in it gives
pub mapped_in : (map : List Place) (v n : ℕ) → Ascending (old_offsets map) → MappedTo map v n → new_of map v ≡ Some n
mapped_in map v n f l = ap (new_of map) (sym l.old) ∙ new-of 0 l.place map f l.within ∙ ap (λ (x : ℕ). Some x) l.new

-- ---- every kept item has its place

pub has_new : (n : ℕ) (kept : List NestedItem) (x : NestedItem) → Member x kept → is_some (new_of (places_from n kept) (offset_of x.item)) ≡ true
unfolding places_from new_of is_some
has_new n [] x m = absurd (nothing-in x m)
has_new n (y ∷ kept) x (here e) = ap is_some (pick_yes _ _ _ (yes_eqb {a = offset_of y.item} {b = offset_of x.item} (ap (λ (z : NestedItem). offset_of z.item) (sym e))))
has_new n (y ∷ kept) x (there m) =
    pick-either (λ (o : Option ℕ). is_some o ≡ true) (eqb (offset_of y.item) (offset_of x.item)) (Some n) _ (λ t. refl) (λ t. has_new (n + size_of y.item) kept x m)
