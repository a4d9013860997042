-- The rounds of `kept_of` end at the survivors.
use Prim.Native.Nat.{ℕ, zero, suc, ◌+◌, ◌≤◌, ◌<◌}
use mathlib.Core.Path.{◌≡◌, refl, sym, ◌∙◌}
use mathlib.Core.List.{List, [], ◌∷◌}
use mathlib.Core.Bool.{Bool, true, false, not}
use mathlib.Core.Logic.{◌⊎◌, inl, inr, ⊎_elim}
use native.Mathlib.Omega.{arith}
use lib.ListN.{length, get_or, replicate, length-replicate, get_or-eq_default}
use lib.Seq.{ext_get_or}
use lib.Dec.{eqb}
use borrow.Author.Tests.{eqb-true, eqb-false, not-true}
use Rattle.readers.specs.Choice.{pick, ◌and◌, ◌or◌}
use Rattle.marking.specs.Below.{any}
use Rattle.marking.specs.Graph.{Graph, size}
use Rattle.marking.specs.Survivors.{Survivor}
use Rattle.marking.specs.Markings.{justified}
use Rattle.marking.specs.Marks.{has, round, rounds, kept_of}
use Rattle.marking.specs.Inner.Passes.{sum}
use Rattle.marking.proofs.Tests.{and-out, and_in, or-out, or_inl, or_inr, any_out, any-in, by-false, by-true, not-both, either, split}
use Rattle.marking.proofs.Tables.{length-tab, get_or-tab}
use Rattle.marking.proofs.Graphs.{WellFormed}
use Rattle.marking.proofs.Survivors.{kept-least}
use Rattle.marking.proofs.Markings.{reason-out, reason-in, reason_kept, reasons-closed}

get_or-zeros : (n i : ℕ) → ◌≡◌ {A = ℕ} (get_or (replicate n 0) i 0) 0
get_or-zeros zero i = refl
get_or-zeros (suc n) zero = refl
get_or-zeros (suc n) (suc i) = get_or-zeros n i

-- what is marked is an element
has-inside : (M : List ℕ) (i : ℕ) → has M i ≡ true → i < length M
unfolding has
has-inside M i e =
    ⊎_elim (λ h. h) (λ h. absurd (omega (arith, eqb-true (get_or M i 0) 1 e, get_or-eq_default M 0 h))) (split i (length M))

bit : (b : Bool) → eqb (pick b 1 0) 1 ≡ b
unfolding pick
bit true = refl
bit false = refl

round-at : (g : Graph) (M : List ℕ) (i : ℕ) → i < size g → get_or (round g M) i 0 ≡ pick (has M i or justified g (has M) i) 1 0
unfolding round
round-at g M i h = get_or-tab (size g) (λ k. pick (has M k or justified g (has M) k) 1 0) i h

has-round : (g : Graph) (M : List ℕ) (i : ℕ) → i < size g → has (round g M) i ≡ (has M i or justified g (has M) i)
unfolding has
has-round g M i h = rw (round-at g M i h) (bit _)

length-round : (g : Graph) (M : List ℕ) → length (round g M) ≡ size g
unfolding round
length-round g M = length-tab _ _

-- only survivors
round-sound : (g : Graph) (M : List ℕ) → ((i : ℕ) → has M i ≡ true → Survivor g i) → (i : ℕ) → has (round g M) i ≡ true → Survivor g i
round-sound g M s i e =
    let h : i < size g = omega (arith, has-inside (round g M) i e, length-round g M) in
    ⊎_elim (λ p. s i p) (λ p. reason_kept g (has M) s i h (reason-out g (has M) i p)) (or-out (has M i) (justified g (has M) i) (sym (has-round g M i h) ∙ e))

rounds-sound : (g : Graph) (k : ℕ) (M : List ℕ) → ((i : ℕ) → has M i ≡ true → Survivor g i) → (i : ℕ) → has (rounds g k M) i ≡ true → Survivor g i
unfolding rounds
rounds-sound g zero M s i e = s i e
rounds-sound g (suc k) M s i e = rounds-sound g k (round g M) (round-sound g M s) i e

-- lists of 0 and 1
record Bits (g : Graph) (M : List ℕ) : Type 0 where
  long : length M ≡ size g
  most : (i : ℕ) → get_or M i 0 ≤ 1

bit-most : (b : Bool) → pick b 1 0 ≤ 1
unfolding pick
bit-most true = omega arith
bit-most false = omega arith

round-bits : (g : Graph) (M : List ℕ) → Bits g (round g M)
round-bits g M = record { long = length-round g M; most = λ i. most i (split i (size g)) }
  where
    most : (i : ℕ) → (i < size g) ⊎ (size g ≤ i) → get_or (round g M) i 0 ≤ 1
    most i (inl h) = rw (round-at g M i h) (bit-most (has M i or justified g (has M) i))
    most i (inr h) = omega (arith, get_or-eq_default (round g M) 0 {n = i} (omega (arith, length-round g M)))

sum-most : (M : List ℕ) → ((i : ℕ) → get_or M i 0 ≤ 1) → sum M ≤ length M
unfolding sum
sum-most [] f = omega arith
sum-most (x ∷ M) f = omega (arith, sum-most M (λ i. f (suc i)), f 0)

sum_mono : (M N : List ℕ) → length M ≡ length N → ((i : ℕ) → get_or M i 0 ≤ get_or N i 0) → sum M ≤ sum N
unfolding sum
sum_mono [] N e f = omega arith
sum_mono (x ∷ M) [] e f = absurd (omega arith)
sum_mono (x ∷ M) (y ∷ N) e f = omega (arith, sum_mono M N (omega arith) (λ i. f (suc i)), f 0)

sum-grows : (M N : List ℕ) (k : ℕ) → length M ≡ length N → ((i : ℕ) → get_or M i 0 ≤ get_or N i 0) → get_or M k 0 < get_or N k 0 → sum M < sum N
unfolding sum
sum-grows [] [] k e f h = absurd (omega arith)
sum-grows [] (y ∷ N) k e f h = absurd (omega arith)
sum-grows (x ∷ M) [] k e f h = absurd (omega arith)
sum-grows (x ∷ M) (y ∷ N) zero e f h = omega (arith, sum_mono M N (omega arith) (λ i. f (suc i)))
sum-grows (x ∷ M) (y ∷ N) (suc k) e f h = omega (arith, sum-grows M N k (omega arith) (λ i. f (suc i)) h, f 0)

-- a round takes no mark away
round_keeps : (g : Graph) (M : List ℕ) → Bits g M → (i : ℕ) → get_or M i 0 ≤ get_or (round g M) i 0
unfolding has pick
round_keeps g M b i = go (split i (size g))
  where
    in-range : i < size g → (has M i ≡ true) ⊎ (has M i ≡ false) → get_or M i 0 ≤ get_or (round g M) i 0
    in-range h (inl e) = rw (round-at g M i h, or_inl (justified g (has M) i) e) (omega (arith, b.most i))
    in-range h (inr e) = let z : get_or M i 0 ≡ 1 → ⊥ = eqb-false (get_or M i 0) 1 e in omega (arith, b.most i)

    go : (i < size g) ⊎ (size g ≤ i) → get_or M i 0 ≤ get_or (round g M) i 0
    go (inl h) = in-range h (either (has M i))
    go (inr h) = omega (arith, get_or-eq_default M 0 {n = i} (omega (arith, b.long)))

-- one that may be marked and is not makes the sum grow
round-grows : (g : Graph) (M : List ℕ) → Bits g M → (i : ℕ) → i < size g → justified g (has M) i ≡ true → has M i ≡ false → sum M < sum (round g M)
unfolding has pick
round-grows g M b i h j n =
    let z : get_or M i 0 ≡ 1 → ⊥ = eqb-false (get_or M i 0) 1 n in
    let o : get_or (round g M) i 0 ≡ 1 = rw (round-at g M i h, or_inr (has M i) j) in
    sum-grows M (round g M) i (b.long ∙ sym (length-round g M)) (round_keeps g M b) (omega (arith, b.most i))

-- nothing more may be marked
abbrev Fixed : Graph → List ℕ → Type 0
Fixed g M = (i : ℕ) → i < size g → justified g (has M) i ≡ true → has M i ≡ true

bits-ext : (g : Graph) (M N : List ℕ) → Bits g M → Bits g N → ((i : ℕ) → i < size g → has M i ≡ has N i) → M ≡ N
unfolding has
bits-ext g M N b c f = ext_get_or 0 M N (b.long ∙ sym c.long) (λ i h. go i (f i (omega (arith, b.long))) (either (has M i)))
  where
    go : (i : ℕ) → has M i ≡ has N i → (has M i ≡ true) ⊎ (has M i ≡ false) → get_or M i 0 ≡ get_or N i 0
    go i e (inl t) = eqb-true (get_or M i 0) 1 t ∙ sym (eqb-true (get_or N i 0) 1 (sym e ∙ t))
    go i e (inr t) = let z : get_or M i 0 ≡ 1 → ⊥ = eqb-false (get_or M i 0) 1 t in let w : get_or N i 0 ≡ 1 → ⊥ = eqb-false (get_or N i 0) 1 (sym e ∙ t) in omega (arith, b.most i, c.most i)

fixed-round : (g : Graph) (M : List ℕ) → Bits g M → Fixed g M → round g M ≡ M
fixed-round g M b f = bits-ext g (round g M) M (round-bits g M) b (λ i h. has-round g M i h ∙ same i h (either (has M i)))
  where
    same : (i : ℕ) → i < size g → (has M i ≡ true) ⊎ (has M i ≡ false) → (has M i or justified g (has M) i) ≡ has M i
    same i h (inl e) = or_inl _ e ∙ sym e
    same i h (inr e) = by-true _ (λ p. ⊎_elim (λ q. not-both q e) (λ q. not-both (f i h q) e) (or-out _ _ p)) ∙ sym e

fixed-rounds : (g : Graph) (k : ℕ) (M : List ℕ) → Bits g M → Fixed g M → Fixed g (rounds g k M)
unfolding rounds
fixed-rounds g zero M b f = f
fixed-rounds g (suc k) M b f = rw (fixed-round g M b f) (fixed-rounds g k M b f)

-- some entry may be marked and is not
open_at : Graph → List ℕ → ℕ → Bool
open_at g M i = justified g (has M) i and not (has M i)

grown : (g : Graph) (k : ℕ) (M : List ℕ) → Bits g M → size g < sum M + suc k → any (size g) (open_at g M) ≡ true → size g < sum (round g M) + k
unfolding open_at
grown g k M b h e =
    let w = any_out (size g) (open_at g M) e in
    let a = and-out (justified g (has M) w.at) (not (has M w.at)) w.holds in
    omega (arith, round-grows g M b w.at w.inside a.0 (not-true (has M w.at) a.1))

still : (g : Graph) (M : List ℕ) → any (size g) (open_at g M) ≡ false → Fixed g M
unfolding open_at
still g M e i h j = by-false (has M i) (λ n. not-both (any-in (size g) (open_at g M) i h (and_in j (rw n))) e)

rounds-fixed : (g : Graph) (k : ℕ) (M : List ℕ) → Bits g M → size g < sum M + k → Fixed g (rounds g k M)
unfolding rounds
rounds-fixed g zero M b h = absurd (omega (arith, sum-most M b.most, b.long))
rounds-fixed g (suc k) M b h =
    ⊎_elim (λ e. rounds-fixed g k (round g M) (round-bits g M) (grown g k M b h e)) (λ e. fixed-rounds g (suc k) M b (still g M e)) (either (any (size g) (open_at g M)))

module _ (g : Graph) where
  zeros-bits : Bits g (replicate (size g) 0)
  zeros-bits = record { long = length-replicate (size g) 0; most = λ i. omega (arith, get_or-zeros (size g) i) }

  -- the list marks the survivors and no others
  pub kept_out : (i : ℕ) → has (kept_of g) i ≡ true → Survivor g i
  unfolding kept_of has
  kept_out i e = rounds-sound g (suc (size g)) (replicate (size g) 0) (λ j h. absurd (omega (arith, eqb-true (get_or (replicate (size g) 0) j 0) 1 h, get_or-zeros (size g) j))) i e

  kept_fixed : Fixed g (kept_of g)
  unfolding kept_of
  kept_fixed = rounds-fixed g (suc (size g)) (replicate (size g) 0) zeros-bits (omega arith)

  pub kept_in_lem : WellFormed g → (i : ℕ) → Survivor g i → has (kept_of g) i ≡ true
  kept_in_lem v = kept-least g (λ i. has (kept_of g) i ≡ true) (reasons-closed g v (has (kept_of g)) (λ i h r. kept_fixed i h (reason-in g v (has (kept_of g)) i r)))
