-- Laws of the tests that the definitions compute with, and of the loops that look for a number with a test.
use Prim.Native.Nat.{ℕ, zero, suc, ◌+◌, ◌≤◌, ◌<◌}
use mathlib.Core.Path.{◌≡◌, refl, sym, subst, ◌∙◌}
use mathlib.Core.Logic.{◌⊎◌, inl, inr, ⊎_elim}
use mathlib.Core.Bool.{Bool, true, false, true≢false, false≢true}
use native.Mathlib.Nat.{not-suc-le-zero, le_of_suc-le-suc, eq-or-lt_of_le, le_antisymm}
use native.Mathlib.Numerals.{add-one}
use native.Mathlib.Omega.{arith}
use mathlib.Core.List.{List}
use lib.Dec.{ltb}
use lib.ListN.{length, get_or}
use borrow.Author.Tests.{ltb-true, ltb-false}
use Rattle.std.specs.List.{list_all}
use Rattle.std.proofs.lemmas.List.Recursion.{and_at, and_from_places}
use Rattle.readers.specs.Choice.{◌and◌, ◌or◌}
use Rattle.marking.specs.Below.{any, every}

pub and-out : (a b : Bool) → (a and b) ≡ true → (a ≡ true) × (b ≡ true)
unfolding ◌and◌
and-out true b e = (refl, e)
and-out false b e = absurd (false≢true e)

pub and_in : {a b : Bool} → a ≡ true → b ≡ true → (a and b) ≡ true
unfolding ◌and◌
and_in p q = rw (p, q)

pub or-out : (a b : Bool) → (a or b) ≡ true → (a ≡ true) ⊎ (b ≡ true)
unfolding ◌or◌
or-out true b e = inl refl
or-out false b e = inr e

pub or_inl : {a : Bool} (b : Bool) → a ≡ true → (a or b) ≡ true
unfolding ◌or◌
or_inl b p = rw p

pub or_inr : (a : Bool) {b : Bool} → b ≡ true → (a or b) ≡ true
unfolding ◌or◌
or_inr true p = refl
or_inr false p = p

pub not-both : {b : Bool} → b ≡ true → b ≡ false → ⊥
not-both p q = true≢false (sym p ∙ q)

pub either : (b : Bool) → (b ≡ true) ⊎ (b ≡ false)
either true = inl refl
either false = inr refl

pub by-false : (b : Bool) → (b ≡ false → ⊥) → b ≡ true
by-false true h = refl
by-false false h = absurd (h refl)

pub by-true : (b : Bool) → (b ≡ true → ⊥) → b ≡ false
by-true true h = absurd (h refl)
by-true false h = refl

pub same_test : (a b : Bool) → (a ≡ true → b ≡ true) → (b ≡ true → a ≡ true) → a ≡ b
same_test true b f h = sym (f refl)
same_test false b f h = sym (by-true b (λ e. false≢true (h e)))

pub split : (i n : ℕ) → (i < n) ⊎ (n ≤ i)
split i n = ⊎_elim (λ e. inl (ltb-true i n e)) (λ e. inr (ltb-false i n e)) (either (ltb i n))

-- ---- some number below n

pub any-in : (n : ℕ) (f : ℕ → Bool) (k : ℕ) → k < n → f k ≡ true → any n f ≡ true
unfolding any
any-in zero f k h e = absurd (not-suc-le-zero h)
any-in (suc n) f k h e =
    ⊎_elim (λ (q : k ≡ n). or_inl (any n f) (subst (λ (x : ℕ). f x ≡ true) q e)) (λ (l : k < n). or_inr (f n) (any-in n f k l e))
    (eq-or-lt_of_le (le_of_suc-le-suc h))

pub record Some (n : ℕ) (f : ℕ → Bool) : Type 0 where
  pub at : ℕ
  pub inside : at < n
  pub holds : f at ≡ true

pub any_out : (n : ℕ) (f : ℕ → Bool) → any n f ≡ true → Some n f
unfolding any
any_out zero f e = absurd (false≢true e)
any_out (suc n) f e =
    ⊎_elim (λ (p : f n ≡ true). record { at = n; inside = omega arith; holds = p }) (λ (p : any n f ≡ true). up (any_out n f p)) (or-out (f n) (any n f) e)
  where
    up : Some n f → Some (suc n) f
    up s = record { at = s.at; inside = omega (arith, s.inside); holds = s.holds }

pub any_none : (f : ℕ → Bool) → any 0 f ≡ false
unfolding any
any_none f = refl

pub any-more : (f : ℕ → Bool) (i : ℕ) → any i f ≡ false → f i ≡ false → any (i + 1) f ≡ false
unfolding any ◌or◌
any-more f i p q = rw (add-one, p, q)

pub any_found : (f : ℕ → Bool) (n i : ℕ) → i < n → f i ≡ true → true ≡ any n f
any_found f n i h e = sym (any-in n f i h e)

pub any-never : (f : ℕ → Bool) (n i : ℕ) → any i f ≡ false → i ≤ n → n ≤ i → false ≡ any n f
any-never f n i e h k = rw (← le_antisymm h k) (sym e)

-- ---- every number below n

pub every-at : (n : ℕ) (f : ℕ → Bool) → every n f ≡ true → (k : ℕ) → k < n → f k ≡ true
unfolding every
every-at zero f e k h = absurd (not-suc-le-zero h)
every-at (suc n) f e k h =
    let b = and-out (f n) (every n f) e in
    ⊎_elim (λ (q : k ≡ n). rw q b.0) (λ (l : k < n). every-at n f b.1 k l) (eq-or-lt_of_le (le_of_suc-le-suc h))

pub every_in : (n : ℕ) (f : ℕ → Bool) → ((k : ℕ) → k < n → f k ≡ true) → every n f ≡ true
unfolding every
every_in zero f h = refl
every_in (suc n) f h = and_in (h n (omega arith)) (every_in n f (λ k l. h k (omega arith)))

-- what `all` answers over a list, where f is what its test says of each element
pub every-list : {A : Type 0} (p : A → Bool) (d : A) (xs : List A) (n : ℕ) (f : ℕ → Bool) → length xs ≡ n → ((i : ℕ) → i < n → p (get_or xs i d) ≡ f i) → list_all p xs ≡ every n f
every-list p d xs n f l h =
    same_test _ _
    (λ e. every_in n f (λ i k. sym (h i k) ∙ and_at (list_all p) p refl (λ _ _. refl) xs i d (omega arith) e))
    (λ e. and_from_places (list_all p) p refl (λ _ _. refl) xs d (λ i k. h i (omega arith) ∙ every-at n f e i (omega arith)))
