-- Laws of `tab` and `count`, and of the loops that write or count every element.
use Prim.Native.Nat.{ℕ, zero, suc, ◌+◌, ◌≤◌, ◌<◌}
use mathlib.Core.Path.{◌≡◌, refl, sym, ap, subst, ◌∙◌}
use mathlib.Core.List.{List, ◌∷◌}
use mathlib.Core.Bool.{Bool, true, false, cond}
use mathlib.Core.Logic.{⊎_elim}
use native.Mathlib.Nat.{not-suc-le-zero, le_of_suc-le-suc, eq-or-lt_of_le}
use native.Mathlib.Omega.{arith}
use lib.ListN.{length, get_or, set}
use lib.Seq.{get_or-set_same, get_or-set_other, ext_get_or}
use Rattle.std.specs.List.{count_by}
use Rattle.std.proofs.lemmas.List.Recursion.{is_count_by}
use Rattle.readers.specs.Choice.{pick}
use Rattle.marking.specs.Below.{tab, count, Number, no_more, one_more, not_this}
use Rattle.marking.proofs.Tests.{either, not-both}

-- ---- f of each place

pub length-tab : (n : ℕ) (f : ℕ → ℕ) → length (tab n f) ≡ n
unfolding tab
length-tab zero f = refl
length-tab (suc n) f = ap suc (length-tab n (λ k. f (suc k)))

pub get_or-tab : (n : ℕ) (f : ℕ → ℕ) (i : ℕ) → i < n → get_or (tab n f) i 0 ≡ f i
unfolding tab
get_or-tab zero f i h = absurd (not-suc-le-zero h)
get_or-tab (suc n) f zero h = refl
get_or-tab (suc n) f (suc i) h = get_or-tab n (λ k. f (suc k)) i (le_of_suc-le-suc h)

-- the first i elements of m are f's
abbrev pub Made : (ℕ → ℕ) → List ℕ → ℕ → Type 0
Made f m i = (k : ℕ) → k < i → get_or m k 0 ≡ f k

pub made_more : (f : ℕ → ℕ) (m : List ℕ) (i v : ℕ) → Made f m i → i < length m → v ≡ f i → Made f (set m i v) (i + 1)
made_more f m i v s h e k l =
    ⊎_elim (λ (q : k ≡ i). rw q (get_or-set_same m i v 0 h ∙ e)) (λ (q : k < i). get_or-set_other m i k v 0 (omega arith) ∙ s k q) (eq-or-lt_of_le (omega arith))

pub made_all : (f : ℕ → ℕ) (m : List ℕ) (n i : ℕ) → Made f m i → length m ≡ n → length m ≤ i → m ≡ tab n f
made_all f m n i s l h = ext_get_or 0 m (tab n f) (l ∙ sym (length-tab n f)) (λ k p. s k (omega arith) ∙ sym (get_or-tab n f k (omega arith)))

-- ---- counting

pub count_none : (f : ℕ → Bool) → 0 ≡ count 0 f
unfolding count
count_none f = refl

count-front : (n : ℕ) (f : ℕ → Bool) → count (suc n) f ≡ pick (f 0) 1 0 + count n (λ k. f (suc k))
unfolding count
count-front zero f = refl
count-front (suc n) f = let e : count (suc n) f ≡ pick (f 0) 1 0 + count n (λ k. f (suc k)) = count-front n f in omega arith

chosen : (b : Bool) (n : ℕ) → pick b 1 0 + n ≡ cond b (1 + n) n
unfolding pick
chosen true n = refl
chosen false n = omega arith

-- how many elements of a list pass
pub count-list : (p : ℕ → Bool) (xs : List ℕ) → count_by p xs ≡ count (length xs) (λ i. p (get_or xs i 0))
count-list p xs =
    sym (is_count_by (λ (ys : List ℕ). count (length ys) (λ i. p (get_or ys i 0))) p (sym (count_none _)) (λ y ys. count-front (length ys) (λ i. p (get_or (y ∷ ys) i 0)) ∙ chosen (p y) _) xs)

-- a test that says whether P holds counts the numbers with P
pub counted : (P : ℕ → Type 0) (f : ℕ → Bool) (n : ℕ) → ((i : ℕ) → i < n → f i ≡ true → P i) → ((i : ℕ) → i < n → P i → f i ≡ true) → Number P n (count n f)
unfolding count pick
counted P f zero a b = no_more
counted P f (suc n) a b =
    let rest : Number P n (count n f) = counted P f n (λ i h. a i (omega arith)) (λ i h. b i (omega arith)) in
    let one : 1 + count n f ≡ suc (count n f) = omega arith in
    let same : 0 + count n f ≡ count n f = omega arith in
    ⊎_elim (λ e. rw e (subst (Number P (suc n)) (sym one) (one_more (a n (omega arith) e) rest))) (λ e. rw e (subst (Number P (suc n)) (sym same) (not_this (λ p. not-both (b n (omega arith) p) e) rest))) (either (f n))
