-- What the refusals 8 and 9 of collect mean, and that a unit without their causes is accepted. Assumes nothing.
use Prim.Native.Nat.{ℕ, ◌+◌, ◌≤◌, ◌<◌}
use mathlib.Core.Path.{◌≡◌, refl, sym, ap, ◌∙◌, subst}
use mathlib.Core.Bool.{Bool, true, false, not, false≢true}
use mathlib.Core.List.{List, [], ◌∷◌}
use mathlib.Core.Logic.{◌⊎◌, inl, inr, ⊎_elim, ◌↔◌}
use Rattle.std.specs.Prelude.{None, Option, Some}
use native.Mathlib.Omega.{arith}
use lib.Dec.{T, leb, eqb}
use mir.Facts.{eqb_yes, eqb_no, yes_eqb, no_eqb, leb_yes, yes_leb}
use Rattle.readers.specs.Choice.{pick, ◌and◌, ◌or◌}
use Rattle.readers.proofs.Choice.{pick-either, pick_yes, pick_no, and_both, both-and}
use Rattle.readers.specs.Layout.{Encoded, Role, reference, type_reference, sibling, index, absolute, Piece, verbatim, patchable, Read, fits, Fit}
use Rattle.marking.specs.Analysis.{Sections}
use Rattle.marking.specs.Members.{Member, here, there}
use Rattle.marking.proofs.Members.{nothing-in}
use Rattle.rewriting.specs.Places.{NestedItem, offset_of, size_of, Place, places_from, new_of, first_from, or_else, sibling_of}
use Rattle.rewriting.specs.Rewriting.{Unit as Unit', reads_at, Lists, is_some, new_value, has_place, piece_refusal, or_next, pieces_refusal, reads_refusal, refusal_from}
use Rattle.laws.specs.ValueRefusals.{Each, First, this, next, KeptAt, KeptAfter, HasPlace, NoPlace, Fine, Unplaced, TooWide, FineRead, FineItem, BadRead, BadItem, AllFine, FirstUnplaced, FirstTooWide, NumberOf}
use Rattle.laws.proofs.Again.Maps.{has_new}

-- ---- the first refusal of a list, by that of each

-- a number is 0 where a thing is fine, n where it is bad
record Means {A : Type 0} (g : A → ℕ) (Good Bad : A → Type 0) (n : ℕ) : Type 0 where
  clean : (a : A) → (g a ≡ 0) ↔ Good a
  spoiled : (a : A) → (g a ≡ n) ↔ Bad a

module _ {A : Type 0} (g : A → ℕ) (total : List A → ℕ) (none_is : total [] ≡ 0)
    (more-is : (a : A) (xs : List A) → total (a ∷ xs) ≡ pick (eqb (g a) 0) (total xs) (g a)) where
  goes_on : (a : A) (xs : List A) → g a ≡ 0 → total (a ∷ xs) ≡ total xs
  goes_on a xs q = more-is a xs ∙ pick_yes _ _ _ (yes_eqb {a = g a} {b = 0} q)

  halves : (a : A) (xs : List A) → total (a ∷ xs) ≡ 0 → (g a ≡ 0) × (total xs ≡ 0)
  halves a xs q =
      pick-either (λ (z : ℕ). z ≡ 0 → (g a ≡ 0) × (total xs ≡ 0)) (eqb (g a) 0) (total xs) (g a)
      (λ t e. (eqb_yes {a = g a} {b = 0} t, e)) (λ t e. absurd (eqb_no {a = g a} {b = 0} t e)) (sym (more-is a xs) ∙ q)

  module _ (Good Bad : A → Type 0) (n : ℕ) (Some-number : 0 < n) (m : Means g Good Bad n) where
    clean-in : (xs : List A) → total xs ≡ 0 → Each Good xs
    clean-in [] q a i = absurd (nothing-in a i)
    clean-in (b ∷ xs) q a (here e) = subst Good (sym e) ((m.clean b).0 (halves b xs q).0)
    clean-in (b ∷ xs) q a (there i) = clean-in xs (halves b xs q).1 a i

    clean-out : (xs : List A) → Each Good xs → total xs ≡ 0
    clean-out [] h = none_is
    clean-out (b ∷ xs) h = goes_on b xs ((m.clean b).1 (h b (here refl))) ∙ clean-out xs (λ a i. h a (there i))

    bad-in : (xs : List A) → total xs ≡ n → First Good Bad xs
    bad-in [] q = absurd (let z : 0 ≡ n = sym none_is ∙ q in omega arith)
    bad-in (b ∷ xs) q =
        pick-either (λ (z : ℕ). z ≡ n → First Good Bad (b ∷ xs)) (eqb (g b) 0) (total xs) (g b)
        (λ t e. next ((m.clean b).0 (eqb_yes {a = g b} {b = 0} t)) (bad-in xs e)) (λ t e. this ((m.spoiled b).0 e)) (sym (more-is b xs) ∙ q)

    bad-out : (xs : List A) → First Good Bad xs → total xs ≡ n
    bad-out [] f = elim f [ ]
    bad-out (b ∷ xs) (this h) =
        let q : g b ≡ n = (m.spoiled b).1 h in
        more-is b xs ∙ pick_no _ _ _ (no_eqb {a = g b} {b = 0} (λ z. let y : n ≡ 0 = sym q ∙ z in omega arith)) ∙ q
    bad-out (b ∷ xs) (next h f) = goes_on b xs ((m.clean b).1 h) ∙ bad-out xs f

    all-mean : Means total (Each Good) (First Good Bad) n
    all-mean = record { clean = λ xs. (clean-in xs, clean-out xs); spoiled = λ xs. (bad-in xs, bad-out xs) }

-- ---- places

at_next : (y : NestedItem) (kept : List NestedItem) (v : ℕ) → KeptAt kept v → KeptAt (y ∷ kept) v
at_next y kept v k = record { s = k.s; in_kept = there k.in_kept; named = k.named }

after_next : (y : NestedItem) (kept : List NestedItem) (depth v : ℕ) → KeptAfter kept depth v → KeptAfter (y ∷ kept) depth v
after_next y kept depth v k = record { s = k.s; in_kept = there k.in_kept; after = k.after; no_deeper = k.no_deeper }

new_in : (n : ℕ) (kept : List NestedItem) (v : ℕ) → is_some (new_of (places_from n kept) v) ≡ true → KeptAt kept v
unfolding places_from new_of is_some
new_in n [] v = λ q. absurd (false≢true q)
new_in n (y ∷ kept) v =
    pick-either (λ (o : Option ℕ). is_some o ≡ true → KeptAt (y ∷ kept) v) (eqb (offset_of y.item) v) (Some n) (new_of (places_from (n + size_of y.item) kept) v)
    (λ t _. record { s = y; in_kept = here refl; named = eqb_yes {a = offset_of y.item} {b = v} t })
    (λ _ q. at_next y kept v (new_in (n + size_of y.item) kept v q))

pub new-out : (n : ℕ) (kept : List NestedItem) (v : ℕ) → KeptAt kept v → is_some (new_of (places_from n kept) v) ≡ true
new-out n kept v k = subst (λ (z : ℕ). is_some (new_of (places_from n kept) z) ≡ true) k.named (has_new n kept k.s k.in_kept)

after-in : (n : ℕ) (kept : List NestedItem) (depth v : ℕ) → is_some (first_from (places_from n kept) depth v) ≡ true → KeptAfter kept depth v
unfolding places_from first_from is_some
after-in n [] depth v = λ q. absurd (false≢true q)
after-in n (y ∷ kept) depth v =
    pick-either (λ (o : Option ℕ). is_some o ≡ true → KeptAfter (y ∷ kept) depth v) (leb v (offset_of y.item) and leb y.depth depth) (Some n)
    (first_from (places_from (n + size_of y.item) kept) depth v)
    (λ t _. let p = and_both (leb v (offset_of y.item)) (leb y.depth depth) t in
    record { s = y; in_kept = here refl; after = leb_yes {a = v} {b = offset_of y.item} p.0; no_deeper = leb_yes {a = y.depth} {b = depth} p.1 })
    (λ _ q. after_next y kept depth v (after-in (n + size_of y.item) kept depth v q))

after-by : (n : ℕ) (kept : List NestedItem) (depth v : ℕ) (s : NestedItem) → Member s kept → v ≤ offset_of s.item → s.depth ≤ depth
    → is_some (first_from (places_from n kept) depth v) ≡ true
unfolding places_from first_from is_some
after-by n [] depth v s m a d = absurd (nothing-in s m)
after-by n (y ∷ kept) depth v s (here e) a d =
    ap is_some (pick_yes _ _ _ (both-and (leb v (offset_of y.item)) (leb y.depth depth)
    (yes_leb {a = v} {b = offset_of y.item} (subst (λ (z : NestedItem). v ≤ offset_of z.item) e a))
    (yes_leb {a = y.depth} {b = depth} (subst (λ (z : NestedItem). z.depth ≤ depth) e d))))
after-by n (y ∷ kept) depth v s (there m) a d =
    pick-either (λ (o : Option ℕ). is_some o ≡ true) (leb v (offset_of y.item) and leb y.depth depth) (Some n) _
    (λ _. refl) (λ _. after-by (n + size_of y.item) kept depth v s m a d)

after-out : (n : ℕ) (kept : List NestedItem) (depth v : ℕ) → KeptAfter kept depth v → is_some (first_from (places_from n kept) depth v) ≡ true
after-out n kept depth v k = after-by n kept depth v k.s k.in_kept k.after k.no_deeper

or-in : (a b : Option ℕ) → is_some (or_else a b) ≡ true → (is_some a ≡ true) ⊎ (is_some b ≡ true)
unfolding or_else is_some
or-in None b q = inr q
or-in (Some v) b q = inl refl

or_left : (a b : Option ℕ) → is_some a ≡ true → is_some (or_else a b) ≡ true
unfolding or_else is_some
or_left None b q = absurd (false≢true q)
or_left (Some v) b q = refl

or_right : (a b : Option ℕ) → is_some b ≡ true → is_some (or_else a b) ≡ true
unfolding or_else is_some
or_right None b q = q
or_right (Some v) b q = refl

one_in : (a b : Bool) → (a or b) ≡ true → T a ⊎ (b ≡ true)
unfolding ◌or◌
one_in true b q = inl tt
one_in false b q = inr q

one_left : (a b : Bool) → T a → (a or b) ≡ true
unfolding ◌or◌
one_left true b t = refl
one_left false b t = absurd t

one_right : (a b : Bool) → b ≡ true → (a or b) ≡ true
unfolding ◌or◌
one_right true b q = refl
one_right false b q = q

module _ (lists : Lists) (first : ℕ) (kept : List NestedItem) (depth : ℕ) where
  abbrev map : List Place
  map = places_from first kept

  place_in : (role : Role) (v : ℕ) → has_place lists map depth role v ≡ true → HasPlace kept depth role v
  unfolding has_place HasPlace sibling_of
  place_in reference v q = new_in first kept v q
  place_in type_reference v q =
      ⊎_elim (λ t. inl (eqb_yes {a = v} {b = 0} t)) (λ e. inr (new_in first kept v e)) (one_in (eqb v 0) (is_some (new_of map v)) q)
  place_in sibling v q =
      ⊎_elim (λ e. inl (new_in first kept v e)) (λ e. inr (after-in first kept depth v e)) (or-in (new_of map v) (first_from map depth v) q)
  place_in (index k) v q = tt
  place_in absolute v q = tt

  pub place_out : (role : Role) (v : ℕ) → HasPlace kept depth role v → has_place lists map depth role v ≡ true
  unfolding has_place HasPlace sibling_of
  place_out reference v k = new-out first kept v k
  place_out type_reference v (inl e) = one_left (eqb v 0) (is_some (new_of map v)) (yes_eqb {a = v} {b = 0} e)
  place_out type_reference v (inr k) = one_right (eqb v 0) (is_some (new_of map v)) (new-out first kept v k)
  place_out sibling v (inl k) = or_left (new_of map v) (first_from map depth v) (new-out first kept v k)
  place_out sibling v (inr k) = or_right (new_of map v) (first_from map depth v) (after-out first kept depth v k)
  place_out (index k) v h = refl
  place_out absolute v h = refl

  -- no place is not to have one
  without : (role : Role) (v : ℕ) → (HasPlace kept depth role v → ⊥) → NoPlace kept depth role v
  unfolding HasPlace NoPlace
  without reference v h = h
  without type_reference v h = (λ e. h (inl e), λ k. h (inr k))
  without sibling v h = (λ k. h (inl k), λ k. h (inr k))
  without (index k) v h = h tt
  without absolute v h = h tt

  pub never_both : (role : Role) (v : ℕ) → NoPlace kept depth role v → HasPlace kept depth role v → ⊥
  unfolding HasPlace NoPlace
  never_both reference v n h = n h
  never_both type_reference v n (inl e) = n.0 e
  never_both type_reference v n (inr k) = n.1 k
  never_both sibling v n (inl k) = n.0 k
  never_both sibling v n (inr k) = n.1 k
  never_both (index k) v n h = n
  never_both absolute v n h = n

  -- ---- one number

  is-so : (b : Bool) → b ≡ true → T b
  is-so true q = tt
  is-so false q = absurd (false≢true q)

  so-is : (b : Bool) → T b → b ≡ true
  so-is true t = refl
  so-is false t = absurd t

  never : (b : Bool) → T (not b) → T b → ⊥
  never true n t = n
  never false n t = t

  isnt : (b : Bool) → (T b → ⊥) → T (not b)
  isnt true h = h tt
  isnt false h = tt

  module _ (e : Encoded) (role : Role) (v : ℕ) where
    abbrev placed : Bool
    placed = has_place lists map depth role v

    abbrev wide : Bool
    wide = fits e (new_value lists map depth role v)

    abbrev Told : ℕ → Type 0
    Told z =
        (z ≡ 0 → HasPlace kept depth role v × Fit e (new_value lists map depth role v)) × (z ≡ 8 → NoPlace kept depth role v)
        × (z ≡ 9 → HasPlace kept depth role v × (Fit e (new_value lists map depth role v) → ⊥))

    link-told : Told (piece_refusal lists map depth (patchable e role v))
    unfolding piece_refusal
    link-told =
        pick-either Told placed (pick wide 0 9) 8
        (λ p. pick-either Told wide 0 9
        (λ w. (λ _. (place_in role v (so-is placed p), w), λ q. absurd (omega arith), λ q. absurd (omega arith)))
        (λ w. (
          λ q. absurd (omega arith),
          λ q. absurd (omega arith),
          λ _. (place_in role v (so-is placed p), λ f. never wide w f),
        )))
        (λ p. (λ q. absurd (omega arith), λ _. without role v (λ h. never placed p (is-so placed (place_out role v h))), λ q. absurd (omega arith)))

    link-fine : HasPlace kept depth role v → Fit e (new_value lists map depth role v) → piece_refusal lists map depth (patchable e role v) ≡ 0
    unfolding piece_refusal
    link-fine h f = pick_yes placed _ _ (is-so placed (place_out role v h)) ∙ pick_yes wide _ _ f

    link-unplaced : NoPlace kept depth role v → piece_refusal lists map depth (patchable e role v) ≡ 8
    unfolding piece_refusal
    link-unplaced n = pick_no placed _ _ (isnt placed (λ t. never_both role v n (place_in role v (so-is placed t))))

    link-wide : HasPlace kept depth role v → (Fit e (new_value lists map depth role v) → ⊥) → piece_refusal lists map depth (patchable e role v) ≡ 9
    unfolding piece_refusal
    link-wide h n = pick_yes placed _ _ (is-so placed (place_out role v h)) ∙ pick_no wide _ _ (isnt wide n)

  piece-fine : (p : Piece) → (piece_refusal lists map depth p ≡ 0) ↔ Fine lists first kept depth p
  unfolding piece_refusal Fine
  piece-fine (verbatim l) = (λ _. tt, λ _. refl)
  piece-fine (patchable e role v) = ((link-told e role v).0, λ h. link-fine e role v h.0 h.1)

  piece-eight : (p : Piece) → (piece_refusal lists map depth p ≡ 8) ↔ Unplaced lists first kept depth p
  unfolding piece_refusal Unplaced
  piece-eight (verbatim l) = (λ q. absurd (omega arith), λ h. absurd h)
  piece-eight (patchable e role v) = ((link-told e role v).1, link-unplaced e role v)

  piece-nine : (p : Piece) → (piece_refusal lists map depth p ≡ 9) ↔ TooWide lists first kept depth p
  unfolding piece_refusal TooWide
  piece-nine (verbatim l) = (λ q. absurd (omega arith), λ h. absurd h)
  piece-nine (patchable e role v) = ((link-told e role v).2, λ h. link-wide e role v h.0 h.1)

-- ---- what is read of an item, and the kept items

module _ (x : Sections) (u : Unit') (lists : Lists) (first : ℕ) (kept : List NestedItem) (Bad : ℕ → Piece → Type 0) (n : ℕ) (Some-number : 0 < n)
    (piece : (depth : ℕ) (p : Piece) → (piece_refusal lists (places_from first kept) depth p ≡ n) ↔ Bad depth p) where
  abbrev places : List Place
  places = places_from first kept

  pieces-mean : (depth : ℕ) → Means (pieces_refusal lists places depth) (Each (Fine lists first kept depth)) (First (Fine lists first kept depth) (Bad depth)) n
  unfolding pieces_refusal or_next
  pieces-mean depth =
      all-mean (piece_refusal lists places depth) (pieces_refusal lists places depth) refl (λ a xs. refl) (Fine lists first kept depth) (Bad depth) n Some-number
      (record { clean = piece-fine lists first kept depth; spoiled = piece depth })

  reads-mean : (depth : ℕ) → Means (reads_refusal lists places depth) (Each (FineRead x u lists first kept depth))
      (First (FineRead x u lists first kept depth) (BadRead x u lists first kept Bad depth)) n
  unfolding reads_refusal or_next
  reads-mean depth =
      all-mean (λ (r : Read). pieces_refusal lists places depth r.pieces) (reads_refusal lists places depth) refl (λ a xs. refl)
      (FineRead x u lists first kept depth) (BadRead x u lists first kept Bad depth) n Some-number
      (record { clean = λ r. (pieces-mean depth).clean r.pieces; spoiled = λ r. (pieces-mean depth).spoiled r.pieces })

  items-mean : Means (refusal_from x u lists places) (Each (FineItem x u lists first kept))
      (First (FineItem x u lists first kept) (BadItem x u lists first kept Bad)) n
  unfolding refusal_from or_next
  items-mean =
      all-mean (λ (s : NestedItem). reads_refusal lists places s.depth (reads_at x u (offset_of s.item))) (refusal_from x u lists places) refl (λ a xs. refl)
      (FineItem x u lists first kept) (BadItem x u lists first kept Bad) n Some-number
      (record {
        clean = λ s. (reads-mean s.depth).clean (reads_at x u (offset_of s.item));
        spoiled = λ s. (reads-mean s.depth).spoiled (reads_at x u (offset_of s.item));
      })

module _ (x : Sections) (u : Unit') (lists : Lists) (first : ℕ) (kept : List NestedItem) where
  -- 8: the first number in stream order that is refused has no place
  pub eight-means : (refusal_from x u lists (places_from first kept) kept ≡ 8) ↔ FirstUnplaced x u lists first kept
  eight-means = (items-mean x u lists first kept (Unplaced lists first kept) 8 (omega arith) (λ d p. piece-eight lists first kept d p)).spoiled kept

  -- 9: it has one, and its new value does not fit
  pub nine-means : (refusal_from x u lists (places_from first kept) kept ≡ 9) ↔ FirstTooWide x u lists first kept
  nine-means = (items-mean x u lists first kept (TooWide lists first kept) 9 (omega arith) (λ d p. piece-nine lists first kept d p)).spoiled kept

  -- nothing is refused where every number has a place and fits, and only there
  pub none-means : (refusal_from x u lists (places_from first kept) kept ≡ 0) ↔ AllFine x u lists first kept
  none-means = (items-mean x u lists first kept (Unplaced lists first kept) 8 (omega arith) (λ d p. piece-eight lists first kept d p)).clean kept

-- ---- the number that is refused

record FirstBad {A : Type 0} (Bad : A → Type 0) (xs : List A) : Type 0 where
  it : A
  among : Member it xs
  bad : Bad it

found : {A : Type 0} (Good Bad : A → Type 0) (xs : List A) → First Good Bad xs → FirstBad Bad xs
found Good Bad [] f = elim f [ ]
found Good Bad (a ∷ xs) (this b) = record { it = a; among = here refl; bad = b }
found Good Bad (a ∷ xs) (next g f) = let r : FirstBad Bad xs = found Good Bad xs f in record { it = r.it; among = there r.among; bad = r.bad }

pub refused-number : (x : Sections) (u : Unit') (lists : Lists) (first : ℕ) (kept : List NestedItem) (Bad : ℕ → Piece → Type 0)
    → First (FineItem x u lists first kept) (BadItem x u lists first kept Bad) kept → NumberOf x u lists first kept Bad
refused-number x u lists first kept Bad f =
    let i : FirstBad (BadItem x u lists first kept Bad) kept = found (FineItem x u lists first kept) (BadItem x u lists first kept Bad) kept f in
    let s : NestedItem = i.it in
    let j : FirstBad (BadRead x u lists first kept Bad s.depth) (reads_at x u (offset_of s.item)) =
    found (FineRead x u lists first kept s.depth) (BadRead x u lists first kept Bad s.depth) (reads_at x u (offset_of s.item)) i.bad in
    let k : FirstBad (Bad s.depth) j.it.pieces = found (Fine lists first kept s.depth) (Bad s.depth) j.it.pieces j.bad in
    record { s = s; r = j.it; p = k.it; in_kept = i.among; among = j.among; operand = k.among; bad = k.bad }
