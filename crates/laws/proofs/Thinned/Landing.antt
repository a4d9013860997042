-- Where nothing is refused, every number of a kept item that may change has a place and fits.
use Prim.Native.Nat.{ℕ}
use mathlib.Core.Path.{◌≡◌, refl, sym, ap, ◌∙◌}
use mathlib.Core.Bool.{Bool, true, false, false≢true}
use mathlib.Core.List.{List, [], ◌∷◌}
use Rattle.std.specs.Prelude.{None, Option, Some}
use lib.Dec.{T, eqb}
use borrow.Author.Tests.{ne_eqb}
use Rattle.readers.specs.Choice.{pick, ◌or◌}
use Rattle.readers.specs.Layout.{Encoded, Role, reference, type_reference, sibling, Piece, patchable, Read}
use Rattle.marking.specs.Analysis.{Sections}
use Rattle.rewriting.specs.Places.{NestedItem, offset_of, Place, new_of, sibling_of}
use Rattle.rewriting.specs.Rewriting.{Unit as Unit', reads_at, Lists, or_self, is_some, new_value, has_place, piece_refusal, pieces_refusal, reads_refusal, refusal_from}
use Rattle.marking.specs.Members.{Member, here, there}
use Rattle.laws.specs.Inner.Landing.{Lands}
use Rattle.marking.proofs.Members.{nothing-in}
use Rattle.laws.proofs.Again.Fitting.{link_fits, next-none}

-- ---- one number

some-self : (v : ℕ) (o : Option ℕ) → is_some o ≡ true → o ≡ Some (or_self v o)
unfolding is_some or_self
some-self v None t = absurd (false≢true t)
some-self v (Some n) t = refl

so-is : (b : Bool) → T b → b ≡ true
so-is true t = refl
so-is false t = absurd t

module _ (lists : Lists) (map : List Place) (depth : ℕ) where
  link-lands : (e : Encoded) (role : Role) (v : ℕ) → piece_refusal lists map depth (patchable e role v) ≡ 0 → Lands lists map depth e role v
  link-lands e role v h = let p = link_fits lists map depth e role v h in record { placed = so-is (has_place lists map depth role v) p.0; fit = p.1 }

  -- a reference leads to its new value
  pub reference-lands : (v : ℕ) → has_place lists map depth reference v ≡ true → new_of map v ≡ Some (new_value lists map depth reference v)
  unfolding has_place new_value
  reference-lands v h = some-self v (new_of map v) h

  pub type-lands : (v : ℕ) → (v ≡ 0 → ⊥) → has_place lists map depth type_reference v ≡ true → new_of map v ≡ Some (new_value lists map depth type_reference v)
  unfolding has_place new_value pick ◌or◌
  type-lands v n h =
      let z : eqb v 0 ≡ false = ne_eqb v 0 n in
      let t : is_some (new_of map v) ≡ true = rw z at h in
      some-self v (new_of map v) t ∙ ap (λ (b : Bool). Some (pick b 0 (or_self v (new_of map v)))) (sym z)

  -- no type stays no type
  pub no-type : new_value lists map depth type_reference 0 ≡ 0
  unfolding new_value pick
  no-type = refl

  pub sibling-lands : (v : ℕ) → has_place lists map depth sibling v ≡ true → sibling_of map depth v ≡ Some (new_value lists map depth sibling v)
  unfolding has_place new_value
  sibling-lands v h = some-self v (sibling_of map depth v) h

  -- ---- what was read of an item

  pieces-land : (ps : List Piece) → pieces_refusal lists map depth ps ≡ 0 → (e : Encoded) (role : Role) (v : ℕ) → Member (patchable e role v) ps → Lands lists map depth e role v
  unfolding pieces_refusal
  pieces-land [] h e role v m = absurd (nothing-in (patchable e role v) m)
  pieces-land (p ∷ ps) h e role v (here q) =
      link-lands e role v (ap (piece_refusal lists map depth) q ∙ (next-none (piece_refusal lists map depth p) (pieces_refusal lists map depth ps) h).0)
  pieces-land (p ∷ ps) h e role v (there m) = pieces-land ps (next-none (piece_refusal lists map depth p) (pieces_refusal lists map depth ps) h).1 e role v m

  read-clean : (rs : List Read) → reads_refusal lists map depth rs ≡ 0 → (r : Read) → Member r rs → pieces_refusal lists map depth r.pieces ≡ 0
  unfolding reads_refusal
  read-clean [] h r m = absurd (nothing-in r m)
  read-clean (q ∷ rs) h r (here e) =
      ap (λ (y : Read). pieces_refusal lists map depth y.pieces) e ∙ (next-none (pieces_refusal lists map depth q.pieces) (reads_refusal lists map depth rs) h).0
  read-clean (q ∷ rs) h r (there m) = read-clean rs (next-none (pieces_refusal lists map depth q.pieces) (reads_refusal lists map depth rs) h).1 r m

-- ---- the kept items

module _ (x : Sections) (u : Unit') (lists : Lists) (map : List Place) where
  pub clean_at : (kept : List NestedItem) → refusal_from x u lists map kept ≡ 0 → (s : NestedItem) → Member s kept
      → reads_refusal lists map s.depth (reads_at x u (offset_of s.item)) ≡ 0
  unfolding refusal_from
  clean_at [] h s m = absurd (nothing-in s m)
  clean_at (y ∷ kept) h s (here e) =
      ap (λ (z : NestedItem). reads_refusal lists map z.depth (reads_at x u (offset_of z.item))) e
      ∙ (next-none (reads_refusal lists map y.depth (reads_at x u (offset_of y.item))) (refusal_from x u lists map kept) h).0
  clean_at (y ∷ kept) h s (there m) =
      clean_at kept (next-none (reads_refusal lists map y.depth (reads_at x u (offset_of y.item))) (refusal_from x u lists map kept) h).1 s m

  module _ (kept : List NestedItem) (h : refusal_from x u lists map kept ≡ 0) (s : NestedItem) (m : Member s kept) where
    module _ (r : Read) (i : Member r (reads_at x u (offset_of s.item))) (e : Encoded) where
      -- each number has a place and fits
      pub number-lands : (role : Role) (v : ℕ) → Member (patchable e role v) r.pieces → Lands lists map s.depth e role v
      number-lands role v p = pieces-land lists map s.depth r.pieces (read-clean lists map s.depth (reads_at x u (offset_of s.item)) (clean_at kept h s m) r i) e role v p

      pub item-reference : (v : ℕ) → Member (patchable e reference v) r.pieces → new_of map v ≡ Some (new_value lists map s.depth reference v)
      item-reference v p = reference-lands lists map s.depth v (number-lands reference v p).placed

      pub item-type : (v : ℕ) → (v ≡ 0 → ⊥) → Member (patchable e type_reference v) r.pieces → new_of map v ≡ Some (new_value lists map s.depth type_reference v)
      item-type v n p = type-lands lists map s.depth v n (number-lands type_reference v p).placed

      pub item-sibling : (v : ℕ) → Member (patchable e sibling v) r.pieces → sibling_of map s.depth v ≡ Some (new_value lists map s.depth sibling v)
      item-sibling v p = sibling-lands lists map s.depth v (number-lands sibling v p).placed
