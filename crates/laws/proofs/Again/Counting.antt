-- Of numbers that some have a property: fewer than all, and one has it not; all, and each has it. Assumes nothing.
use mathlib.Core.Path.{◌≡◌}
use Prim.Native.Nat.{ℕ, ◌≤◌, ◌<◌}
use native.Mathlib.Omega.{arith}
use mathlib.Core.Logic.{⊎_elim}
use Rattle.marking.specs.Below.{Number, no_more, one_more, not_this}
pub use Rattle.laws.specs.Thinned.{Without}
use Rattle.marking.proofs.Tests.{split}

module _ (P : ℕ → Type 0) where
  number-most : (n k : ℕ) → Number P n k → k ≤ n
  number-most n k no_more = omega arith
  number-most n k (one_more p q) = let h = number-most _ _ q in omega arith
  number-most n k (not_this p q) = let h = number-most _ _ q in omega arith

  pub some-without : (n k : ℕ) → Number P n k → k < n → Without P n
  some-without n k no_more h = absurd (omega arith)
  some-without n k (one_more {n = m} {k = j} p q) h =
      let w : Without P m = some-without m j q (omega arith) in
      record { at = w.at; inside = omega (arith, w.inside); not_there = w.not_there }
  some-without n k (not_this {n = m} p q) h = record { at = m; inside = omega arith; not_there = p }

  pub all-with : (n k : ℕ) → Number P n k → k ≡ n → (i : ℕ) → i < n → P i
  all-with n k no_more h i l = absurd (omega arith)
  all-with n k (one_more {n = m} {k = j} p q) h i l =
      ⊎_elim (λ (t : i < m). all-with m j q (omega arith) i t) (λ (t : m ≤ i). let e : m ≡ i = omega arith in rw (← e) p) (split i m)
  all-with n k (not_this {n = m} {k = j} p q) h i l = let t = number-most m j q in absurd (omega arith)
