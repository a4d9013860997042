-- A rank by binary search.
use Prim.Native.Nat.{ℕ, zero, suc, ◌+◌, ◌-◌, ◌/◌, ◌≤◌, ◌<◌}
use mathlib.Core.Path.{◌≡◌, refl, ap, sym, ◌∙◌}
use mathlib.Core.List.{List, [], ◌∷◌}
use mathlib.Core.Logic.{⊎_elim}
use native.Mathlib.Omega.{arith}
use lib.ListN.{length, get_or}
use lib.Dec.{ltb}
use mir.Facts.{ltb_yes, ltb_no, yes_ltb, no_ltb}
use Rattle.readers.specs.Choice.{pick}
use Rattle.readers.proofs.Choice.{pick-either, pick_yes, pick_no, either}
use Rattle.marking.specs.Resolution.{Ascending as From}
use Rattle.rewriting.specs.Ascending.{Ascending}
use Rattle.rewriting.specs.Indices.{rank_in}
use Rattle.rewriting.specs.Written.{halved}

pub rank_most : (xs : List ℕ) (v : ℕ) → rank_in xs v ≤ length xs
unfolding rank_in
rank_most [] v = omega arith
rank_most (x ∷ xs) v = let h : rank_in xs v ≤ length xs = rank_most xs v in pick-either (λ n. n ≤ suc (length xs)) (ltb x v) (suc (rank_in xs v)) 0 (λ t. omega arith) (λ t. omega arith)

pub from_at : (low : ℕ) (xs : List ℕ) (i : ℕ) → From low xs → i < length xs → low ≤ get_or xs i 0
unfolding From
from_at low [] i f h = absurd (omega arith)
from_at low (x ∷ xs) zero f h = f.0
from_at low (x ∷ xs) (suc i) f h = let k : low ≤ x = f.0 in let l : suc x ≤ get_or xs i 0 = from_at (suc x) xs i f.1 (omega arith) in omega arith

above_from : (low : ℕ) (xs : List ℕ) (v i : ℕ) → From low xs → i < length xs → get_or xs i 0 < v → i < rank_in xs v
unfolding From rank_in
above_from low [] v i f h l = absurd (omega arith)
above_from low (x ∷ xs) v zero f h l = pick-either (λ n. 0 < n) (ltb x v) (suc (rank_in xs v)) 0 (λ t. omega arith) (λ t. absurd (omega (arith, ltb_no {a = x} {b = v} t)))
above_from low (x ∷ xs) v (suc i) f h l =
    let k : suc x ≤ get_or xs i 0 = from_at (suc x) xs i f.1 (omega arith) in
    let r : i < rank_in xs v = above_from (suc x) xs v i f.1 (omega arith) l in
    pick-either (λ n. suc i < n) (ltb x v) (suc (rank_in xs v)) 0 (λ t. omega arith) (λ t. absurd (omega (arith, ltb_no {a = x} {b = v} t)))

-- a number at a place below the rank is below, one at a place from it on is not
pub rank-above : (xs : List ℕ) (v i : ℕ) → Ascending xs → i < length xs → get_or xs i 0 < v → i < rank_in xs v
rank-above xs v i f h l = above_from 0 xs v i f h l

pub rank_below : (xs : List ℕ) (v i : ℕ) → i < length xs → v ≤ get_or xs i 0 → rank_in xs v ≤ i
unfolding rank_in
rank_below [] v i h l = absurd (omega arith)
rank_below (x ∷ xs) v zero h l = pick-either (λ n. n ≤ 0) (ltb x v) (suc (rank_in xs v)) 0 (λ t. absurd (omega (arith, ltb_yes {a = x} {b = v} t))) (λ t. omega arith)
rank_below (x ∷ xs) v (suc i) h l =
    let r : rank_in xs v ≤ i = rank_below xs v i (omega arith) l in
    pick-either (λ n. n ≤ suc i) (ltb x v) (suc (rank_in xs v)) 0 (λ t. omega arith) (λ t. omega arith)

is-from : (low : ℕ) (xs : List ℕ) (v i : ℕ) → From low xs → i < length xs → get_or xs i 0 ≡ v → rank_in xs v ≡ i
unfolding From rank_in
is-from low [] v i f h e = absurd (omega arith)
is-from low (x ∷ xs) v zero f h e = pick_no _ _ _ (no_ltb {a = x} {b = v} (omega arith))
is-from low (x ∷ xs) v (suc i) f h e =
    let k : suc x ≤ get_or xs i 0 = from_at (suc x) xs i f.1 (omega arith) in
    pick_yes _ _ _ (yes_ltb {a = x} {b = v} (omega arith)) ∙ ap suc (is-from (suc x) xs v i f.1 (omega arith) e)

-- the rank of a number that is in the list is its place
pub rank_is : (xs : List ℕ) (v i : ℕ) → Ascending xs → i < length xs → get_or xs i 0 ≡ v → rank_in xs v ≡ i
rank_is xs v i f h e = is-from 0 xs v i f h e

-- ---- the search

module _ (at : ℕ → ℕ) (v : ℕ) where
  halved-over : (n low high : ℕ) → high ≤ low → halved n at v low high ≡ low
  unfolding halved
  halved-over zero low high l = refl
  halved-over (suc n) low high l = pick_no _ _ _ (no_ltb {a = low} {b = high} l)

  module _ (n low high middle : ℕ) (l : low < high) (m : middle ≡ low + (high - low) / 2) where
    opened : halved (suc n) at v low high ≡ pick (ltb (at middle) v) (halved n at v (middle + 1) high) (halved n at v low middle)
    unfolding halved
    opened = pick_yes _ _ _ (yes_ltb {a = low} {b = high} l) ∙ ap (λ k. pick (ltb (at k) v) (halved n at v (k + 1) high) (halved n at v low k)) (sym m)

    halved-right : at middle < v → halved (suc n) at v low high ≡ halved n at v (middle + 1) high
    halved-right h = opened ∙ pick_yes _ _ _ (yes_ltb {a = at middle} {b = v} h)

    halved-left : v ≤ at middle → halved (suc n) at v low high ≡ halved n at v low middle
    halved-left h = opened ∙ pick_no _ _ _ (no_ltb {a = at middle} {b = v} h)

  halved-enough : (n m low high : ℕ) → high - low ≤ n → high - low ≤ m → halved n at v low high ≡ halved m at v low high
  halved-enough zero m low high a b = halved-over 0 low high (omega arith) ∙ sym (halved-over m low high (omega arith))
  halved-enough (suc n) zero low high a b = halved-over (suc n) low high (omega arith) ∙ sym (halved-over 0 low high (omega arith))
  halved-enough (suc n) (suc m) low high a b =
      ⊎_elim
      (λ t.
      let l : low < high = ltb_yes {a = low} {b = high} t in
      let middle : ℕ = low + (high - low) / 2 in
      ⊎_elim
      (λ u. let h : at middle < v = ltb_yes {a = at middle} {b = v} u in
      halved-right n low high middle l refl h ∙ halved-enough n m (middle + 1) high (omega arith) (omega arith) ∙ sym (halved-right m low high middle l refl h))
      (λ u. let h : v ≤ at middle = ltb_no {a = at middle} {b = v} u in
      halved-left n low high middle l refl h ∙ halved-enough n m low middle (omega arith) (omega arith) ∙ sym (halved-left m low high middle l refl h))
      (either (ltb (at middle) v)))
      (λ t. let l : high ≤ low = ltb_no {a = low} {b = high} t in halved-over (suc n) low high l ∙ sym (halved-over (suc m) low high l))
      (either (ltb low high))

  -- after some turns
  pub record Halving (n from to low high : ℕ) : Type 0 where
    pub order : from ≤ to → low ≤ high
    pub top : high ≤ to
    pub found : (m : ℕ) → high - low ≤ m → halved n at v from to ≡ halved m at v low high

  pub halving-start : (n from to : ℕ) → to - from ≤ n → Halving n from to from to
  halving-start n from to h = record { order = λ o. o; top = omega arith; found = λ m k. halved-enough n m from to h k }

  module _ (n from to low high middle r : ℕ) (p : Halving n from to low high) (l : low < high) (m : middle ≡ low + (high - low) / 2) (is : r ≡ at middle) where
    pub halving-right : r < v → Halving n from to (middle + 1) high
    halving-right h =
        record {
          order = λ _. omega arith;
          top = p.top;
          found = λ k e. p.found (suc (high - low)) (omega arith) ∙ halved-right (high - low) low high middle l m (omega arith) ∙ halved-enough (high - low) k (middle + 1) high (omega arith) e;
        }

    pub halving-left : v ≤ r → Halving n from to low middle
    halving-left h =
        record {
          order = λ _. omega arith;
          top = omega (arith, p.top);
          found = λ k e. p.found (suc (high - low)) (omega arith) ∙ halved-left (high - low) low high middle l m (omega arith) ∙ halved-enough (high - low) k low middle (omega arith) e;
        }

  pub halving-done : (n from to low high : ℕ) → Halving n from to low high → high ≤ low → low ≡ halved n at v from to
  halving-done n from to low high p l = sym (p.found 0 (omega arith) ∙ halved-over 0 low high l)

  -- where the numbers ascend it is the rank
  pub halved-rank : (xs : List ℕ) → Ascending xs → ((i : ℕ) → i < length xs → at i ≡ get_or xs i 0) → (n low high : ℕ) → high - low ≤ n → low ≤ rank_in xs v → rank_in xs v ≤ high → high ≤ length xs
      → halved n at v low high ≡ rank_in xs v
  halved-rank xs f is zero low high a b c d = halved-over 0 low high (omega arith) ∙ (let e : low ≡ rank_in xs v = omega arith in e)
  halved-rank xs f is (suc n) low high a b c d =
      ⊎_elim
      (λ t.
      let l : low < high = ltb_yes {a = low} {b = high} t in
      let middle : ℕ = low + (high - low) / 2 in
      let s : at middle ≡ get_or xs middle 0 = is middle (omega arith) in
      ⊎_elim
      (λ u. let h : at middle < v = ltb_yes {a = at middle} {b = v} u in
      let k : middle < rank_in xs v = rank-above xs v middle f (omega arith) (omega arith) in
      halved-right n low high middle l refl h ∙ halved-rank xs f is n (middle + 1) high (omega arith) (omega arith) c d)
      (λ u. let h : v ≤ at middle = ltb_no {a = at middle} {b = v} u in
      let k : rank_in xs v ≤ middle = rank_below xs v middle (omega arith) (omega arith) in
      halved-left n low high middle l refl h ∙ halved-rank xs f is n low middle (omega arith) b k (omega arith))
      (either (ltb (at middle) v)))
      (λ t. let l : high ≤ low = ltb_no {a = low} {b = high} t in halved-over (suc n) low high l ∙ (let e : low ≡ rank_in xs v = omega arith in e))
      (either (ltb low high))

  -- what a row that was read says of the rank
  module _ (xs : List ℕ) (f : Ascending xs) (count : ℕ) (e : count ≡ length xs) (is : (i : ℕ) → i < length xs → at i ≡ get_or xs i 0) where
    pub rank-here : (i r : ℕ) → i < count → r ≡ at i → r ≡ v → i ≡ rank_in xs v
    rank-here i r l s q = sym (rank_is xs v i f (omega arith) (sym (is i (omega arith)) ∙ sym s ∙ q))

    pub rank-first : (i r : ℕ) → i < count → i ≡ 0 → r ≡ at i → v < r → i ≡ rank_in xs v
    rank-first i r l z s q =
        let g : at i ≡ get_or xs i 0 = is i (omega arith) in
        let k : rank_in xs v ≤ i = rank_below xs v i (omega arith) (omega arith) in
        omega arith

    pub rank_between : (i r p : ℕ) → i < count → r ≡ at i → v < r → p ≡ at (i - 1) → p < v → i ≡ rank_in xs v
    rank_between i r p l s q t b =
        let g : at i ≡ get_or xs i 0 = is i (omega arith) in
        let h : at (i - 1) ≡ get_or xs (i - 1) 0 = is (i - 1) (omega arith) in
        let k : rank_in xs v ≤ i = rank_below xs v i (omega arith) (omega arith) in
        let m : i - 1 < rank_in xs v = rank-above xs v (i - 1) f (omega arith) (omega arith) in
        omega arith

    pub rank-halved : (r : ℕ) → r ≡ halved (count - 0) at v 0 count → r ≡ rank_in xs v
    rank-halved r q =
        q ∙ halved-rank xs f is (count - 0) 0 count (omega arith) (omega arith) (omega (arith, rank_most xs v)) (omega arith)
