-- What the new value of a number with a place is, also in a unit that is refused. Assumes nothing.
use Prim.Native.Nat.{ℕ, zero, suc, ◌+◌, ◌≤◌, ◌<◌}
use mathlib.Core.Path.{◌≡◌, refl, sym, ap, ◌∙◌, subst}
use mathlib.Core.Bool.{Bool, true, false, not, false≢true}
use mathlib.Core.List.{List, [], ◌∷◌}
use mathlib.Core.Logic.{◌⊎◌, inl, inr}
use Rattle.std.specs.Prelude.{None, Option, Some}
use native.Mathlib.Omega.{arith}
use native.Mathlib.Nat.{add-zero, add_assoc}
use lib.ListN.{length, get_or, drop}
use lib.Dec.{T, leb, eqb}
use mir.Facts.{eqb_yes, leb_yes, leb_no, yes_leb}
use Rattle.readers.specs.Choice.{◌and◌}
use Rattle.readers.proofs.Choice.{pick-either, and_both}
use Rattle.readers.specs.Layout.{Encoded, Role, reference, type_reference, sibling, index, absolute, patchable, Read, RunOf}
use Rattle.readers.specs.Abbreviations.{declared_in}
use Rattle.marking.specs.Analysis.{Sections}
use Rattle.marking.specs.Members.{Member, here, there, Nth, now, later}
use Rattle.marking.proofs.Members.{nothing-in}
use Rattle.rewriting.specs.Places.{NestedItem, offset_of, size_of, Place, places_from, size_from, new_of, first_from, or_else, sibling_of}
use Rattle.rewriting.specs.Indices.{rank_or}
use Rattle.rewriting.specs.Rewriting.{Unit as Unit', reads_or, reads_at, lists_of, Lists, list_at, is_some, new_value}
use Rattle.laws.specs.ValueRefusals.{KeptAt, HasPlace, NewAt, NewAfter, IsNew}
use Rattle.laws.proofs.Thinned.Roles.{index-kind}
use Rattle.laws.proofs.Again.CollectLaws.{ListLaw, listed-law}
use Rattle.laws.proofs.Thinned.Landing.{reference-lands, type-lands, no-type, sibling-lands}
use Rattle.laws.proofs.Again.Ranks.{rank-inside, rank-place}
use Rattle.laws.proofs.Refusals.ValueRefusals.{place_out, new-out}

-- ---- where a kept item comes to stand

at_on : (first : ℕ) (kept : List NestedItem) (y : NestedItem) (v n : ℕ) → NewAt (first + size_of y.item) kept v n → NewAt first (y ∷ kept) v n
unfolding size_from
at_on first kept y v n r =
    record {
      s = r.s;
      split = record { before = y ∷ r.split.before; after = r.split.after; whole = ap (λ (l : List NestedItem). y ∷ l) r.split.whole };
      named = r.named;
      new_is = r.new_is ∙ add_assoc first (size_of y.item) (size_from r.split.before);
    }

pub at-by : (first : ℕ) (kept : List NestedItem) (v n : ℕ) → new_of (places_from first kept) v ≡ Some n → NewAt first kept v n
unfolding places_from new_of size_from
at-by first [] v n = λ e. let z : ◌≡◌ {A = ℕ} 0 1 = cc in absurd (omega arith)
at-by first (y ∷ kept) v n =
    pick-either (λ (o : Option ℕ). o ≡ Some n → NewAt first (y ∷ kept) v n) (eqb (offset_of y.item) v) (Some first)
    (new_of (places_from (first + size_of y.item) kept) v)
    (λ t e.
    let q : first ≡ n = cc in
    record {
      s = y;
      split = record { before = []; after = kept; whole = refl };
      named = eqb_yes {a = offset_of y.item} {b = v} t;
      new_is = sym q ∙ sym (add-zero first);
    })
    (λ _ e. at_on first kept y v n (at-by (first + size_of y.item) kept v n e))

not-and : (a b : Bool) → T (not (a and b)) → T a → T (not b)
unfolding ◌and◌
not-and true b h t = h
not-and false b h t = absurd t

passed : (depth v : ℕ) (y : NestedItem) (before : List NestedItem) → T (not (leb v (offset_of y.item) and leb y.depth depth))
    → ((t : NestedItem) → Member t before → v ≤ offset_of t.item → depth < t.depth)
    → (t : NestedItem) → Member t (y ∷ before) → v ≤ offset_of t.item → depth < t.depth
passed depth v y before h f t (here e) l =
    subst (λ (z : NestedItem). depth < z.depth) (sym e)
    (leb_no {a = y.depth} {b = depth} (not-and (leb v (offset_of y.item)) (leb y.depth depth) h
    (yes_leb {a = v} {b = offset_of y.item} (subst (λ (z : NestedItem). v ≤ offset_of z.item) e l))))
passed depth v y before h f t (there m) l = f t m l

after_on : (first : ℕ) (kept : List NestedItem) (y : NestedItem) (depth v n : ℕ) → T (not (leb v (offset_of y.item) and leb y.depth depth))
    → NewAfter (first + size_of y.item) kept depth v n → NewAfter first (y ∷ kept) depth v n
unfolding size_from
after_on first kept y depth v n h r =
    record {
      s = r.s;
      split = record { before = y ∷ r.split.before; after = r.split.after; whole = ap (λ (l : List NestedItem). y ∷ l) r.split.whole };
      after = r.after;
      no_deeper = r.no_deeper;
      new_is = r.new_is ∙ add_assoc first (size_of y.item) (size_from r.split.before);
      first_one = passed depth v y r.split.before h r.first_one;
    }

pub after-by : (first : ℕ) (kept : List NestedItem) (depth v n : ℕ) → first_from (places_from first kept) depth v ≡ Some n → NewAfter first kept depth v n
unfolding places_from first_from size_from
after-by first [] depth v n = λ e. let z : ◌≡◌ {A = ℕ} 0 1 = cc in absurd (omega arith)
after-by first (y ∷ kept) depth v n =
    pick-either (λ (o : Option ℕ). o ≡ Some n → NewAfter first (y ∷ kept) depth v n) (leb v (offset_of y.item) and leb y.depth depth) (Some first)
    (first_from (places_from (first + size_of y.item) kept) depth v)
    (λ t e.
    let p = and_both (leb v (offset_of y.item)) (leb y.depth depth) t in
    let q : first ≡ n = cc in
    record {
      s = y;
      split = record { before = []; after = kept; whole = refl };
      after = leb_yes {a = v} {b = offset_of y.item} p.0;
      no_deeper = leb_yes {a = y.depth} {b = depth} p.1;
      new_is = sym q ∙ sym (add-zero first);
      first_one = (λ z m. absurd (nothing-in z m));
    })
    (λ t e. after_on first kept y depth v n t (after-by (first + size_of y.item) kept depth v n e))

-- ---- what a number becomes

nth-at : (xs : List ℕ) (v n : ℕ) → n < length xs → get_or xs n 0 ≡ v → Nth v n xs
nth-at [] v n h q = absurd (omega arith)
nth-at (x ∷ xs) v zero h q = now (sym q)
nth-at (x ∷ xs) v (suc n) h q = later (nth-at xs v n (omega arith) q)

module _ (lists : Lists) (first : ℕ) (kept : List NestedItem) (depth : ℕ) where
  abbrev map : List Place
  map = places_from first kept

  sibling-by : (v n : ℕ) (o : Option ℕ) → new_of map v ≡ o → or_else o (first_from map depth v) ≡ Some n
      → NewAt first kept v n ⊎ ((KeptAt kept v → ⊥) × NewAfter first kept depth v n)
  unfolding or_else is_some
  sibling-by v n (Some k) h q = inl (at-by first kept v n (h ∙ q))
  sibling-by v n None h q =
      inr (λ k. absurd (false≢true (sym (ap is_some h) ∙ new-out first kept v k)), after-by first kept depth v n q)

  -- THE new value of a number that has a place
  pub new-value-law : (role : Role) (v : ℕ) → HasPlace kept depth role v
      → IsNew first kept lists depth role v (new_value lists (places_from first kept) depth role v)
  unfolding IsNew sibling_of new_value rank_or
  new-value-law reference v h = at-by first kept v _ (reference-lands lists map depth v (place_out lists first kept depth reference v h))
  new-value-law type_reference v h = (
    λ z. ap (new_value lists map depth type_reference) z ∙ no-type lists map depth,
    λ n. at-by first kept v _ (type-lands lists map depth v n (place_out lists first kept depth type_reference v h)),
  )
  new-value-law sibling v h = sibling-by v _ (new_of map v) refl (sibling-lands lists map depth v (place_out lists first kept depth sibling v h))
  new-value-law (index k) v h = (
    λ q. ap (λ (o : Option (List ℕ)). rank_or o v) q,
    λ xs q f m.
        subst (λ (j : ℕ). Nth v j xs) (sym (ap (λ (o : Option (List ℕ)). rank_or o v) q)) (nth-at xs v _ (rank-inside xs v f m) (rank-place xs v f m)),
  )
  new-value-law absolute v h = refl

-- ---- an index of a kept item is in its list

record ReadBy (o : Option RunOf) (r : Read) : Type 0 where
  run : RunOf
  is : o ≡ Some run
  among : Member r run.0

read_by : (x : Sections) (u : Unit') (o : Option RunOf) (r : Read) → Member r (reads_or x u o) → ReadBy o r
unfolding reads_or
read_by x u None r m = absurd (nothing-in r m)
read_by x u (Some run) r m = record { run = run; is = refl; among = m }

module _ (x : Sections) (u : Unit') (type_units : Bool) (first : ℕ) (kept : List NestedItem) where
  -- so its new value is its place in the list
  pub new-index-law : (s : NestedItem) → Member s kept → (r : Read) → Member r (reads_at x u (offset_of s.item)) → (e : Encoded) (k v : ℕ)
      → Member (patchable e (index k) v) r.pieces → (xs : List ℕ) → list_at (lists_of x u type_units kept) k ≡ Some xs
      → Nth v (new_value (lists_of x u type_units kept) (places_from first kept) s.depth (index k) v) xs
  unfolding reads_at new_value rank_or
  new-index-law s m r i e k v p xs q =
      let o : ReadBy _ r = read_by x u _ r i in
      let h : k < 3 = index-kind u.header.encoding x.abbreviations (declared_in u.declared) (drop (offset_of s.item) u.bytes) o.run o.is r o.among e k v p in
      let l : ListLaw x u kept k xs = listed-law x u type_units kept xs (lists_of x u type_units kept) refl k h q in
      let n : Member v xs = (l.members v).1 (record { standing = s; among = m; operand = record { read = r; among = i; operand = record { encoded = e; within = p } } }) in
      subst (λ (j : ℕ). Nth v j xs) (sym (ap (λ (o : Option (List ℕ)). rank_or o v) q)) (nth-at xs v _ (l.ranks v n).inside (l.ranks v n).placed)
