-- One step of a walk after another.
use mathlib.Core.Path.{◌≡◌, refl}
use Prim.Native.Nat.{ℕ, zero, suc, ◌+◌, ◌-◌, ◌≤◌, ◌<◌}
use native.Mathlib.Omega.{arith}
use Rattle.marking.specs.Walking.{Next, go, on_next, stop, walk, walk_within}

module _ {S B : Type 0} where
  unfoldable pub Forward : (S → ℕ) → ℕ → S → Next S B → Type 0
  Forward place end s (go t) = (place s < place t) × (place t ≤ end)
  Forward place end s (stop b) = Unit {0}

  module _ (place : S → ℕ) (end : ℕ) (f : S → Next S B) (d : B) (forward : (s : S) → Forward place end s (f s)) where
    next-same : (s : S) (n : Next S B) → Forward place end s n → (j k : S → B)
        → ((t : S) → place s < place t → place t ≤ end → j t ≡ k t) → on_next n j ≡ on_next n k
    unfolding on_next Forward
    next-same s (go t) g j k h = h t g.0 g.1
    next-same s (stop b) g j k h = refl

    within_same : (j k : ℕ) (s : S) → end < place s + j → end < place s + k → 0 < j → 0 < k
        → walk_within j f d s ≡ walk_within k f d s
    unfolding walk_within
    within_same zero k s h h' p q = absurd (omega arith)
    within_same (suc j) zero s h h' p q = absurd (omega arith)
    within_same (suc j) (suc k) s h h' p q =
        next-same s (f s) (forward s) _ _
        (λ t lo hi. within_same j k t (omega arith) (omega arith) (omega arith) (omega arith))

    pub walk_step : (s : S) → walk place end f d s ≡ on_next (f s) (walk place end f d)
    unfolding walk walk_within
    walk_step s =
        next-same s (f s) (forward s) _ _
        (λ t lo hi. within_same (end - place s) (suc (end - place t)) t (omega arith) (omega arith) (omega arith) (omega arith))
