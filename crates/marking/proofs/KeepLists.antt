-- A keep list: the tags in its bytes, which lists are taken, the search of a tag by halves, what a treatment does.
-- Assumes nothing.
use mathlib.Core.Path.{◌≡◌, refl, ap₂, sym, ◌∙◌}
use Prim.Native.Nat.{ℕ, zero, suc, ◌+◌, ◌*◌, ◌/◌, ◌≤◌, ◌<◌}
use native.Mathlib.Nat.{eq-or-lt_of_le}
use native.Mathlib.Numerals.{add-one}
use native.Mathlib.Omega.{arith}
use mathlib.Core.Bool.{Bool, true, false, ◌&&◌}
use mathlib.Core.List.{List, [], ◌∷◌}
use mathlib.Core.Logic.{⊎_elim}
use lib.ListN.{length, get_or, drop, drop_of_length-le}
use lib.Seq.{drop-cons}
use borrow.Author.Tests.{leb-true, le-leb, lt-leb, eqb-true, eq-eqb, ne_eqb}
use Rattle.std.specs.List.{list_all, HoldsAt}
use Rattle.std.specs.List.Sorted.{IsBinarySearchResult, IsNonDecreasingBy}
use Rattle.std.specs.Ordering.{nat_cmp}
use Rattle.std.specs.Simd.{first_chunks}
use Rattle.std.proofs.Common.{Equal, Err}
use Rattle.std.proofs.lemmas.List.{get_or_default}
use Rattle.readers.specs.Choice.{pick, ◌and◌}
use Rattle.readers.proofs.Lebs.{Bytes}
use Rattle.marking.specs.KeepList.{KeepList, tags_in, keep_in, is_treatment, each_treats, ascends, keep_refusal, list_answer}
use Rattle.marking.specs.KeepList.{treatment_in, treated}
use Rattle.marking.specs.Resolution.{Ascending}
use Rattle.std.specs.Prelude.{Ok, Result}
use Rattle.marking.specs.declared.addresses.Verdict.{Verdict}
use Rattle.marking.specs.declared.addresses.Verdict.TheVariants.{Live, Dead}
use Rattle.marking.proofs.Tests.{and-out}
use Rattle.marking.proofs.Twos.{two_first, two_second}
use Rattle.marking.proofs.Searches.{key-found, key-missing}
use Rattle.marking.proofs.Rows.{ascending-from, ascending-at}

-- ---- the tags in their bytes

pub tags-count : (s : List ℕ) → length (tags_in s) ≡ length s / 2
unfolding tags_in
tags-count [] = refl
tags-count (a ∷ []) = refl
tags-count (a ∷ b ∷ s) = omega (arith, tags-count s)

pub tag_in : (s : List ℕ) (i : ℕ) → i < length s / 2
    → 256 * get_or s (2 * i) 0 + get_or s (2 * i + 1) 0 ≡ get_or (tags_in s) i 0
unfolding tags_in
tag_in [] i h = absurd (omega arith)
tag_in (a ∷ []) i h = absurd (omega arith)
tag_in (a ∷ b ∷ s) zero h = refl
tag_in (a ∷ b ∷ s) (suc i) h =
    let y : 2 * suc i + 1 ≡ suc (suc (2 * i + 1)) = omega arith in
    let z : 2 * suc i ≡ suc (suc (2 * i)) = omega arith in
    rw (y, z) (tag_in s i (omega arith))

pub tag_below : (s : List ℕ) → Bytes s → (i t : ℕ) → t ≡ get_or (tags_in s) i 0 → i < length s / 2 → t < 65536
tag_below s b i t q h = omega (arith, tag_in s i h, b (2 * i), b (2 * i + 1))

-- the bytes of a tag
abbrev pub tag_worth : List ℕ → ℕ
tag_worth q = 256 * get_or q 0 0 + get_or q 1 0

module _ (ws : List (List ℕ)) (s : List ℕ) (e : ws ≡ first_chunks 2 (length s / 2) s) where
  pub tag_listed : (i : ℕ) → i < length s / 2 → tag_worth (get_or ws i []) ≡ get_or (tags_in s) i 0
  tag_listed i h = rw (two_first ws _ s i e h, two_second ws _ s i e h) (tag_in s i h)

-- ---- treatments

pub treats-list : (ks : List ℕ) → list_all is_treatment ks ≡ each_treats ks
unfolding each_treats ◌and◌
treats-list [] = refl
treats-list (k ∷ ks) = both (is_treatment k) (treats-list ks)
  where
    both : (b : Bool) {x y : Bool} → x ≡ y → (b && x) ≡ (b and y)
    both true e = e
    both false e = refl

-- ---- tags that ascend

module _ (s : List ℕ) (low i : ℕ) (so : ascends 0 (tags_in s) ≡ ascends low (drop i (tags_in s))) where
  pub ascends-end : length s / 2 ≤ i → true ≡ ascends 0 (tags_in s)
  unfolding ascends
  ascends-end h = rw (so, drop_of_length-le (tags_in s) {i = i} (rw (tags-count s) h))

  module _ (h : i < length s / 2) (t : ℕ) (here : t ≡ get_or (tags_in s) i 0) where
    first : drop i (tags_in s) ≡ t ∷ drop (i + 1) (tags_in s)
    first = rw (here, add-one) (drop-cons (tags_in s) i 0 (rw (tags-count s) h))

    pub ascends-no : t < low → false ≡ ascends 0 (tags_in s)
    unfolding ascends ◌and◌
    ascends-no l = rw (so, first, lt-leb low t l)

    pub ascends-more : low ≤ t → ascends 0 (tags_in s) ≡ ascends (t + 1) (drop (i + 1) (tags_in s))
    unfolding ascends ◌and◌
    ascends-more l = rw (so, first, le-leb low t l, add-one t)

pub ascends-ascending : (low : ℕ) (ts : List ℕ) → ascends low ts ≡ true → Ascending low ts
unfolding ascends Ascending
ascends-ascending low [] q = tt
ascends-ascending low (t ∷ ts) q =
    let b = and-out _ _ q in
    (leb-true low t b.0, ascends-ascending (suc t) ts b.1)

-- ---- a list that is taken

module _ (tags ks : List ℕ) where
  pub refused-count : (length ks ≡ length tags / 2 → ⊥) → Err 19 ≡ list_answer (keep_refusal (keep_in tags ks))
  unfolding list_answer keep_refusal pick ◌and◌
  refused-count h = rw (tags-count tags, ne_eqb (length ks) (length tags / 2) h)

  module _ (counted : length ks ≡ length tags / 2) (b : Bool) (told : b ≡ each_treats ks) where
    judged : keep_refusal (keep_in tags ks) ≡ pick b (pick (ascends 0 (tags_in tags)) 0 20) 19
    unfolding keep_refusal ◌and◌
    judged = rw (tags-count tags, eq-eqb (length ks) (length tags / 2) counted, told)

    pub refused-treatment : b ≡ false → Err 19 ≡ list_answer (keep_refusal (keep_in tags ks))
    unfolding list_answer pick
    refused-treatment q = rw (judged, q)

    module _ (treats : b ≡ true) (o : Bool) (ordered : o ≡ ascends 0 (tags_in tags)) where
      pub refused-order : o ≡ false → Err 20 ≡ list_answer (keep_refusal (keep_in tags ks))
      unfolding list_answer pick
      refused-order q = rw (judged, treats, sym ordered, q)

      pub refused_none : o ≡ true → Ok tt ≡ list_answer (keep_refusal (keep_in tags ks))
      unfolding list_answer pick
      refused_none q = rw (judged, treats, sym ordered, q)

pub record Taken (keep : KeepList) : Type 0 where
  pub counted : length keep.treatments ≡ length keep.tags
  pub treats : each_treats keep.treatments ≡ true
  pub ascending : ascends 0 keep.tags ≡ true

no-refusal : (a b c : Bool) → ◌≡◌ {A = ℕ} (pick (a and b) (pick c 0 20) 19) 0 → (a ≡ true) × (b ≡ true) × (c ≡ true)
unfolding pick ◌and◌
no-refusal true true true q = (refl, refl, refl)
no-refusal true true false q = absurd (omega arith)
no-refusal true false c q = absurd (omega arith)
no-refusal false b c q = absurd (omega arith)

pub taken : (keep : KeepList) → keep_refusal keep ≡ 0 → Taken keep
unfolding keep_refusal
taken keep q =
    let t = no-refusal _ _ _ q in
    record { counted = eqb-true _ _ t.0; treats = t.1; ascending = t.2 }

-- ---- the treatment of a tag

pub treatment-at : (low : ℕ) (ts ks : List ℕ) (tag : ℕ) → Ascending low ts → length ks ≡ length ts → (i : ℕ) → i < length ks
    → get_or ts i 0 ≡ tag → get_or ks i 0 ≡ treatment_in ts ks tag
unfolding treatment_in Ascending pick
treatment-at low [] ks tag a c i h q = absurd (omega arith)
treatment-at low (t ∷ ts) [] tag a c i h q = absurd (omega arith)
treatment-at low (t ∷ ts) (k ∷ ks) tag a c zero h q = rw (eq-eqb t tag q)
treatment-at low (t ∷ ts) (k ∷ ks) tag a c (suc i) h q =
    let p : get_or ts i 0 ≡ tag = q in
    let above : suc t ≤ get_or ts i 0 = ascending-from (suc t) ts a.1 i (omega arith) in
    rw (ne_eqb t tag (λ e. absurd (omega arith)))
    (treatment-at (suc t) ts ks tag a.1 (omega arith) i (omega arith) q)

pub treatment-none : (ts ks : List ℕ) (tag : ℕ) → ((i : ℕ) → i < length ts → get_or ts i 0 ≡ tag → ⊥)
    → 0 ≡ treatment_in ts ks tag
unfolding treatment_in pick
treatment-none [] ks tag h = refl
treatment-none (t ∷ ts) [] tag h = refl
treatment-none (t ∷ ts) (k ∷ ks) tag h =
    rw (ne_eqb t tag (h 0 (omega arith))) (treatment-none ts ks tag (λ i l. h (suc i) (omega arith)))

module _ (tags ks : List ℕ) (ok : keep_refusal (keep_in tags ks) ≡ 0) where
  pub taken-count : length ks ≡ length tags / 2
  taken-count = (taken _ ok).counted ∙ tags-count tags

  ascending : Ascending 0 (tags_in tags)
  ascending = ascends-ascending 0 (tags_in tags) (taken _ ok).ascending

  module _ (ws : List (List ℕ)) (e : ws ≡ first_chunks 2 (length tags / 2) tags) (l : length ws ≡ length tags / 2) where
    listed-rise : IsNonDecreasingBy tag_worth ws
    listed-rise i j d h k =
        let a : tag_worth (get_or ws i []) ≡ get_or (tags_in tags) i 0 = tag_listed ws tags e i (omega arith) in
        let b : tag_worth (get_or ws j []) ≡ get_or (tags_in tags) j 0 = tag_listed ws tags e j (omega arith) in
        rw (get_or_default ws i d [] (omega arith), get_or_default ws j d [] k)
        (⊎_elim
        (λ (q : i ≡ j). rw q (omega arith))
        (λ (w : i < j). omega (arith, ascending-at 0 (tags_in tags) ascending i j w (omega (arith, tags-count tags))))
        (eq-or-lt_of_le h))

    pub listed-inside : (i : ℕ) → i < length ws → i < length ks
    listed-inside i h = omega (arith, taken-count)

    pub treatment-found : (tag i : ℕ) → i < length ws → HoldsAt (λ y. nat_cmp (tag_worth y) tag ≡ Equal) ws i
        → get_or ks i 0 ≡ treatment_in (tags_in tags) ks tag
    treatment-found tag i h q =
        treatment-at 0 (tags_in tags) ks tag ascending (taken _ ok).counted i (listed-inside i h)
        (sym (tag_listed ws tags e i (omega arith)) ∙ key-found tag_worth ws tag i [] q)

    pub treatment-missing : (tag i : ℕ) → IsBinarySearchResult (λ y. nat_cmp (tag_worth y) tag) ws (Err i)
        → 0 ≡ treatment_in (tags_in tags) ks tag
    treatment-missing tag i h =
        treatment-none (tags_in tags) ks tag (λ k m q.
        let m' : k < length tags / 2 = omega (arith, tags-count tags) in
        key-missing tag_worth ws tag i h listed-rise k [] (omega arith) (tag_listed ws tags e k m' ∙ q))

-- ---- what a treatment does

module _ (k : ℕ) (v : Result Verdict ℕ) where
  pub never-live : v ≡ Ok Live → k ≡ 2 → Ok Dead ≡ treated k v
  unfolding treated pick
  never-live p q = rw (p, eq-eqb k 2 q)

  pub still-live : v ≡ Ok Live → (k ≡ 2 → ⊥) → Ok Live ≡ treated k v
  unfolding treated pick
  still-live p q = rw (p, ne_eqb k 2 q)

  pub always-live : v ≡ Ok Dead → k ≡ 1 → Ok Live ≡ treated k v
  unfolding treated pick
  always-live p q = rw (p, eq-eqb k 1 q)

  pub still-dead : v ≡ Ok Dead → (k ≡ 1 → ⊥) → Ok Dead ≡ treated k v
  unfolding treated pick
  still-dead p q = rw (p, ne_eqb k 1 q)

  pub still-refused : (n : ℕ) → v ≡ Err n → Err n ≡ treated k v
  unfolding treated
  still-refused n p = rw p

-- a tag that is not listed is judged as before
pub untreated : (v : Result Verdict ℕ) → treated 0 v ≡ v
unfolding treated pick
untreated (Ok Live) = refl
untreated (Ok Dead) = refl
untreated (Err n) = refl

pub treated-by : {r v v' : Result Verdict ℕ} {k k' : ℕ} → r ≡ treated k v → k ≡ k' → v ≡ v' → r ≡ treated k' v'
treated-by r p q = r ∙ ap₂ treated p q
