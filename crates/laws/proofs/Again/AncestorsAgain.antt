-- The nesting of the kept items: around each stand, at their new places, the same open entries as before. Assumes nothing.
use mathlib.Core.Path.{◌≡◌, refl}
use Prim.Native.Nat.{ℕ, suc, ◌+◌}
use mathlib.Core.Bool.{Bool, true, false}
use mathlib.Core.List.{List, [], ◌∷◌}
use Rattle.std.specs.Prelude.{Some}
use lib.ListN.{length}
use lib.Dec.{T}
use Rattle.readers.specs.Choice.{pick}
use Rattle.readers.specs.Nesting.{opened, closed}
use Rattle.readers.specs.Stream.{Item, entry, terminator}
use Rattle.readers.specs.declared.entries.Entry.{Entry}
use Rattle.marking.specs.Marks.{is_kept}
use Rattle.rewriting.specs.Places.{NestedItem, innermost, with_if, kept_from, offset_of, size_of, Place, places_from, new_of, old_offsets}
use Rattle.marking.specs.Members.{here}
use Rattle.rewriting.specs.Ascending.{Ascending}
use Rattle.laws.specs.Inner.Maps.{MappedTo}
use Rattle.laws.specs.Moved.{moved_entry, moved_item}
use Rattle.laws.specs.Inner.Moved.{moved_from, ParentsKept}
use Rattle.laws.specs.Ancestors.{ancestors_from}
use Rattle.laws.specs.Inner.Ancestors.{kept_ancestors, MapTo, AllMapTo}
use Rattle.laws.proofs.Again.Maps.{mapped-on, mapped_in}
use Rattle.laws.proofs.Again.Depths.{AllKept, Nested, all-by, nested-open, nested-close}

module _ (map : List Place) where
  -- the kept ones of the open entries, at their new places
  unfoldable Thinned : List Bool → List ℕ → List ℕ → Type 0
  Thinned [] [] [] = Unit {0}
  Thinned [] [] (n ∷ ns) = ⊥
  Thinned [] (v ∷ vs) ns = ⊥
  Thinned (b ∷ bs) [] ns = ⊥
  Thinned (true ∷ bs) (v ∷ vs) [] = ⊥
  Thinned (true ∷ bs) (v ∷ vs) (n ∷ ns) = (new_of map v ≡ Some n) × Thinned bs vs ns
  Thinned (false ∷ bs) (v ∷ vs) ns = Thinned bs vs ns

  all-thinned : (bs : List Bool) (vs ns : List ℕ) → AllKept bs → Thinned bs vs ns → MapTo map vs ns
  unfolding AllKept Thinned MapTo
  all-thinned [] [] [] a t = tt
  all-thinned [] [] (n ∷ ns) a t = t
  all-thinned [] (v ∷ vs) ns a t = absurd t
  all-thinned (b ∷ bs) [] ns a t = absurd t
  all-thinned (true ∷ bs) (v ∷ vs) [] a t = t
  all-thinned (true ∷ bs) (v ∷ vs) (n ∷ ns) a t = (t.0, all-thinned bs vs ns a.1 t.1)
  all-thinned (false ∷ bs) (v ∷ vs) ns a t = absurd a.0

  thinned-kept : (children : Bool) (v n : ℕ) (bs : List Bool) (vs ns : List ℕ) → new_of map v ≡ Some n → Thinned bs vs ns
      → Thinned (opened children true bs) (opened children v vs) (opened children n ns)
  unfolding opened Thinned
  thinned-kept true v n bs vs ns q t = (q, t)
  thinned-kept false v n bs vs ns q t = t

  thinned-left : (children : Bool) (v : ℕ) (bs : List Bool) (vs ns : List ℕ) → Thinned bs vs ns → Thinned (opened children false bs) (opened children v vs) ns
  unfolding opened Thinned
  thinned-left true v bs vs ns t = t
  thinned-left false v bs vs ns t = t

  -- places that the map holds
  abbrev Placed : ℕ → List NestedItem → Type 0
  Placed n kept = (v m : ℕ) → MappedTo (places_from n kept) v m → new_of map v ≡ Some m

  placed_first : (n : ℕ) (s : NestedItem) (kept : List NestedItem) → Placed n (s ∷ kept) → new_of map (offset_of s.item) ≡ Some n
  unfolding places_from
  placed_first n s kept h = h (offset_of s.item) n (record { place = record { old = offset_of s.item; new = n; depth = s.depth }; within = here refl; old = refl; new = refl })

  placed-next : (n : ℕ) (s : NestedItem) (kept : List NestedItem) → Placed n (s ∷ kept) → Placed (n + size_of s.item) kept
  unfolding places_from
  placed-next n s kept h v m l = h v m (mapped-on _ (places_from (n + size_of s.item) kept) v m l)

  -- the kept items of a stretch, and around each what leads
  abbrev Nests : List Bool → List ℕ → List (List ℕ) → List NestedItem → Type 0
  Nests bs vs olds kept = (n : ℕ) (ns : List ℕ) → Thinned bs vs ns → Placed n kept → AllMapTo map olds (ancestors_from ns (moved_from n kept))

  entry-nests : (x : Entry) (b : Bool) (bs : List Bool) (vs : List ℕ) (olds : List (List ℕ)) (kept : List NestedItem) → (T b → AllKept bs)
      → Nests (opened x.declaration.children b bs) (opened x.declaration.children x.offset.0 vs) olds kept
      → Nests bs vs (pick b (vs ∷ olds) olds) (with_if b (record { item = entry x; depth = length bs }) kept)
  unfolding with_if pick moved_from moved_item moved_entry ancestors_from AllMapTo offset_of
  entry-nests x true bs vs olds kept all ih n ns t h = (
    all-thinned bs vs ns (all tt) t,
    ih (n + size_of (entry x)) (opened x.declaration.children n ns)
        (thinned-kept x.declaration.children x.offset.0 n bs vs ns (placed_first n (record { item = entry x; depth = length bs }) kept h) t)
        (placed-next n (record { item = entry x; depth = length bs }) kept h),
  )
  entry-nests x false bs vs olds kept all ih n ns t h = ih n ns (thinned-left x.declaration.children x.offset.0 bs vs ns t) h

  terminator-nests : (a b : ℕ) (bs : List Bool) (vs : List ℕ) (olds : List (List ℕ)) (kept : List NestedItem) → Nested bs
      → Nests (closed bs) (closed vs) olds kept
      → Nests bs vs (pick (innermost bs) (vs ∷ olds) olds) (with_if (innermost bs) (record { item = terminator a b; depth = length bs }) kept)
  unfolding with_if pick innermost closed Nested AllKept Thinned moved_from moved_item ancestors_from AllMapTo
  terminator-nests a b [] [] olds kept h ih n ns t p = ih n ns t p
  terminator-nests a b [] (v ∷ vs) olds kept h ih n ns t p = absurd t
  terminator-nests a b (c ∷ bs) [] olds kept h ih n ns t p = absurd t
  terminator-nests a b (true ∷ bs) (v ∷ vs) olds kept h ih n [] t p = absurd t
  terminator-nests a b (true ∷ bs) (v ∷ vs) olds kept h ih n (m ∷ ns) t p = (
    all-thinned (true ∷ bs) (v ∷ vs) (m ∷ ns) (tt, h.0 tt) t,
    ih (n + size_of (terminator a b)) ns t.1 (placed-next n (record { item = terminator a b; depth = length (true ∷ bs) }) kept p),
  )
  terminator-nests a b (false ∷ bs) (v ∷ vs) olds kept h ih n ns t p = ih n ns t p

  nests-from : (marks : List ℕ) (k : ℕ) (bs : List Bool) (vs : List ℕ) (items : List Item) → Nested bs → ParentsKept marks k bs items
      → Nests bs vs (kept_ancestors marks k bs vs items) (kept_from marks k bs items)
  unfolding kept_from kept_ancestors ParentsKept moved_from ancestors_from AllMapTo
  nests-from marks k bs vs [] h c = λ n ns t p. tt
  nests-from marks k bs vs (entry x ∷ rest) h c =
      let all : T (is_kept marks k) → AllKept bs = (λ t. all-by bs h (c.0 t)) in
      entry-nests x (is_kept marks k) bs vs _ _ all
      (nests-from marks (suc k) (opened x.declaration.children (is_kept marks k) bs) (opened x.declaration.children x.offset.0 vs) rest
      (nested-open x.declaration.children (is_kept marks k) bs h all) c.1)
  nests-from marks k bs vs (terminator a b ∷ rest) h c =
      terminator-nests a b bs vs _ _ h (nests-from marks k (closed bs) (closed vs) rest (nested-close bs h) c)

-- THE nesting again
pub ancestors_again : (marks : List ℕ) (items : List Item) → ParentsKept marks 0 [] items → (n : ℕ) → Ascending (old_offsets (places_from n (kept_from marks 0 [] items)))
    → AllMapTo (places_from n (kept_from marks 0 [] items)) (kept_ancestors marks 0 [] [] items) (ancestors_from [] (moved_from n (kept_from marks 0 [] items)))
unfolding Nested Thinned
ancestors_again marks items c n f =
    nests-from (places_from n (kept_from marks 0 [] items)) marks 0 [] [] items tt c n [] tt (λ v m l. mapped_in (places_from n (kept_from marks 0 [] items)) v m f l)
