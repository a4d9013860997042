-- Which keep lists are refused (document 02, Point 10), by positions. Assumes nothing.
use mathlib.Core.Path.{◌≡◌, refl}
use Prim.Native.Nat.{ℕ, zero, suc, ◌≤◌, ◌<◌}
use native.Mathlib.Omega.{arith}
use mathlib.Core.Bool.{Bool, true, false, true≢false}
use mathlib.Core.List.{List, [], ◌∷◌}
use mathlib.Core.Logic.{◌⊎◌, inl, inr, ⊎_elim, ◌↔◌}
use lib.ListN.{length, get_or}
use lib.Dec.{eqb}
use borrow.Author.Tests.{leb-false, eqb-true, eqb-false, eq-eqb}
use Rattle.readers.specs.Choice.{pick, ◌and◌}
use Rattle.marking.specs.KeepList.{KeepList, always_root, never_root, is_treatment, each_treats, ascends, keep_refusal}
use Rattle.marking.proofs.Rows.{ascending-at}
use Rattle.marking.proofs.Tests.{and-out, or-out, or_inl, or_inr, not-both}
use Rattle.marking.proofs.KeepLists.{ascends-ascending}
use Rattle.laws.specs.KeepLists.{Untreated, not_each, another, Unordered}

and-fails : (a b : Bool) → (a and b) ≡ false → (a ≡ false) ⊎ (b ≡ false)
unfolding ◌and◌
and-fails true b q = inr q
and-fails false b q = inl refl

-- a test fails where A is so, and only there
abbrev FailsBy : Bool → Type 0 → Type 0
FailsBy b A = (b ≡ false → A) × (b ≡ true → A → ⊥)

-- ---- treatments

-- a place with a treatment other than 1 or 2
abbrev Another : List ℕ → Type 0
Another ks = (i : ℕ) × (i < length ks) × (get_or ks i 0 ≡ always_root → ⊥) × (get_or ks i 0 ≡ never_root → ⊥)

another-after : (k : ℕ) (ks : List ℕ) → Another ks → Another (k ∷ ks)
another-after k ks a = (suc a.0, omega (arith, a.1), a.2, a.3)

no-treatment : (k : ℕ) → is_treatment k ≡ false → (k ≡ always_root → ⊥) × (k ≡ never_root → ⊥)
unfolding is_treatment
no-treatment k q = (
  λ z. not-both (or_inl (eqb k never_root) (eq-eqb k always_root z)) q,
  λ z. not-both (or_inr (eqb k always_root) (eq-eqb k never_root z)) q,
)

a-treatment : (k : ℕ) → is_treatment k ≡ true → (k ≡ always_root) ⊎ (k ≡ never_root)
unfolding is_treatment
a-treatment k q = ⊎_elim (λ t. inl (eqb-true _ _ t)) (λ t. inr (eqb-true _ _ t)) (or-out (eqb k always_root) (eqb k never_root) q)

some-other : (ks : List ℕ) → each_treats ks ≡ false → Another ks
unfolding each_treats
some-other [] q = absurd (true≢false q)
some-other (k ∷ ks) q =
    ⊎_elim
    (λ t. (zero, omega arith, (no-treatment k t).0, (no-treatment k t).1)) (λ t. another-after k ks (some-other ks t))
    (and-fails (is_treatment k) (each_treats ks) q)

none_other : (ks : List ℕ) → each_treats ks ≡ true → (i : ℕ) → i < length ks → (get_or ks i 0 ≡ always_root) ⊎ (get_or ks i 0 ≡ never_root)
unfolding each_treats
none_other [] q i h = absurd (omega arith)
none_other (k ∷ ks) q zero h = a-treatment k (and-out _ _ q).0
none_other (k ∷ ks) q (suc i) h = none_other ks (and-out _ _ q).1 i (omega arith)

-- ---- tags

-- a tag not above the one before it
abbrev Falls : List ℕ → Type 0
Falls ts = (i : ℕ) × (suc i < length ts) × (get_or ts (suc i) 0 ≤ get_or ts i 0)

falls-after : (t : ℕ) (ts : List ℕ) → Falls ts → Falls (t ∷ ts)
falls-after t ts f = (suc f.0, omega (arith, f.1), f.2)

falls-behind : (t : ℕ) (ts : List ℕ) → ascends (suc t) ts ≡ false → Falls (t ∷ ts)
unfolding ascends
falls-behind t [] q = absurd (true≢false q)
falls-behind t (u ∷ ts) q =
    ⊎_elim
    (λ l. (zero, omega arith, omega (arith, leb-false (suc t) u l))) (λ l. falls-after t (u ∷ ts) (falls-behind u ts l))
    (and-fails _ (ascends (suc u) ts) q)

falls : (ts : List ℕ) → ascends 0 ts ≡ false → Falls ts
unfolding ascends
falls [] q = absurd (true≢false q)
falls (t ∷ ts) q =
    ⊎_elim (λ l. absurd (omega (arith, leb-false 0 t l))) (λ l. falls-behind t ts l) (and-fails _ (ascends (suc t) ts) q)

-- ---- the refusals

module _ (keep : KeepList) where
  abbrev treats : Bool
  treats = eqb (length keep.treatments) (length keep.tags) and each_treats keep.treatments

  abbrev ordered : Bool
  ordered = ascends 0 keep.tags

  by-another : Another keep.treatments → Untreated keep
  by-another a = another a.0 a.1 a.2 a.3

  some-untreated : treats ≡ false → Untreated keep
  some-untreated q =
      ⊎_elim (λ c. not_each (eqb-false _ _ c)) (λ t. by-another (some-other keep.treatments t))
      (and-fails _ (each_treats keep.treatments) q)

  none-untreated : treats ≡ true → Untreated keep → ⊥
  none-untreated q (not_each n) = n (eqb-true _ _ (and-out _ _ q).0)
  none-untreated q (another i h a n) = ⊎_elim a n (none_other keep.treatments (and-out _ _ q).1 i h)

  some-unordered : ordered ≡ false → Unordered keep
  some-unordered q =
      let f = falls keep.tags q in
      record { before = f.0; inside = f.1; not_above = f.2 }

  none-unordered : ordered ≡ true → Unordered keep → ⊥
  none-unordered q u =
      let above = ascending-at 0 keep.tags (ascends-ascending 0 keep.tags q) u.before (suc u.before) (omega arith) u.inside in
      omega (arith, u.not_above)

abbrev refusal : Bool → Bool → ℕ
refusal a b = pick a (pick b 0 20) 19

is-nineteen : {A : Type 0} (a b : Bool) → FailsBy a A → (refusal a b ≡ 19) ↔ A
unfolding pick
is-nineteen true true f = (λ q. absurd (omega arith), λ x. absurd (f.1 refl x))
is-nineteen true false f = (λ q. absurd (omega arith), λ x. absurd (f.1 refl x))
is-nineteen false b f = (λ q. f.0 refl, λ x. refl)

module _ {A B : Type 0} where
  is-twenty : (a b : Bool) → FailsBy a A → FailsBy b B → (refusal a b ≡ 20) ↔ ((A → ⊥) × B)
  unfolding pick
  is-twenty true true f g = (λ q. absurd (omega arith), λ x. absurd (g.1 refl x.1))
  is-twenty true false f g = (λ q. (f.1 refl, g.0 refl), λ x. refl)
  is-twenty false b f g = (λ q. absurd (omega arith), λ x. absurd (x.0 (f.0 refl)))

  is_none : (a b : Bool) → FailsBy a A → FailsBy b B → (refusal a b ≡ 0) ↔ ((A → ⊥) × (B → ⊥))
  unfolding pick
  is_none true true f g = (λ q. (f.1 refl, g.1 refl), λ x. refl)
  is_none true false f g = (λ q. absurd (omega arith), λ x. absurd (x.1 (g.0 refl)))
  is_none false b f g = (λ q. absurd (omega arith), λ x. absurd (x.0 (f.0 refl)))

module _ (keep : KeepList) where
  abbrev untreated : FailsBy (treats keep) (Untreated keep)
  untreated = (some-untreated keep, none-untreated keep)

  abbrev unordered : FailsBy (ordered keep) (Unordered keep)
  unordered = (some-unordered keep, none-unordered keep)

  -- "19, a treatment other than 1 or 2, or not one for each tag", whatever the tags: "19 first over the whole list"
  pub nineteen-law : (keep_refusal keep ≡ 19) ↔ Untreated keep
  unfolding keep_refusal
  nineteen-law = is-nineteen (treats keep) (ordered keep) untreated

  -- "20, a tag not above the one before it"
  pub twenty-law : (keep_refusal keep ≡ 20) ↔ ((Untreated keep → ⊥) × Unordered keep)
  unfolding keep_refusal
  twenty-law = is-twenty (treats keep) (ordered keep) untreated unordered

  -- every other list is taken
  pub taken-law : (keep_refusal keep ≡ 0) ↔ ((Untreated keep → ⊥) × (Unordered keep → ⊥))
  unfolding keep_refusal
  taken-law = is_none (treats keep) (ordered keep) untreated unordered
