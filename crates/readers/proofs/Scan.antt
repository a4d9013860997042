-- One turn of a scan after another.
use mathlib.Core.Path.{◌≡◌, refl, ap, ◌∙◌}
use Prim.Native.Nat.{ℕ, zero, suc, ◌+◌, ◌-◌, ◌≤◌, ◌<◌}
use native.Mathlib.Omega.{arith}
use Rattle.std.specs.Prelude.{None, Option, Some}
use mathlib.Core.List.{[]}
use Rattle.readers.specs.Choice.{bind}
use Rattle.readers.specs.Scan.{Scanned, Turn, bad, more, on_turn, push, scan, scan_within, stop}

module _ {A B : Type 0} where
  unfoldable pub Goes : ℕ → ℕ → Turn A B → Type 0
  Goes end at (more a n) = (at < n) × (n ≤ end)
  Goes end at (stop b) = Unit {0}
  Goes end at bad = Unit {0}

  module _ (end : ℕ) (f : ℕ → Turn A B) (goes : (at : ℕ) → Goes end at (f at)) where
    turn-same : (at : ℕ) (t : Turn A B) → Goes end at t → (j k : A → ℕ → Option (Scanned A B))
        → ((a : A) (n : ℕ) → at < n → n ≤ end → j a n ≡ k a n) → on_turn t j ≡ on_turn t k
    unfolding on_turn Goes
    turn-same at (more a n) g j k h = h a n g.0 g.1
    turn-same at (stop b) g j k h = refl
    turn-same at bad g j k h = refl

    within_same : (j k at : ℕ) → end < at + j → end < at + k → 0 < j → 0 < k → scan_within j f at ≡ scan_within k f at
    unfolding scan_within
    within_same zero k at h h' p q = absurd (omega arith)
    within_same (suc j) zero at h h' p q = absurd (omega arith)
    within_same (suc j) (suc k) at h h' p q =
        turn-same at (f at) (goes at) _ _
        (λ a n lo hi. ap (λ o. bind o (push a)) (within_same j k n (omega arith) (omega arith) (omega arith) (omega arith)))

    pub scan_step : (at : ℕ) → scan end f at ≡ on_turn (f at) (λ a n. bind (scan end f n) (push a))
    unfolding scan scan_within
    scan_step at =
        turn-same at (f at) (goes at) _ _
        (λ a n lo hi. ap (λ o. bind o (push a)) (within_same (end - at) (suc (end - n)) n (omega arith) (omega arith) (omega arith) (omega arith)))

    pub scan-stop : (at : ℕ) (b : B) → f at ≡ stop b → scan end f at ≡ Some ([], b)
    unfolding on_turn
    scan-stop at b e = scan_step at ∙ ap (λ t. on_turn t (λ a n. bind (scan end f n) (push a))) e

    pub scan-bad : (at : ℕ) → f at ≡ bad → scan end f at ≡ None
    unfolding on_turn
    scan-bad at e = scan_step at ∙ ap (λ t. on_turn t (λ a n. bind (scan end f n) (push a))) e

    pub scan-more : (at : ℕ) (a : A) (n : ℕ) → f at ≡ more a n → scan end f at ≡ bind (scan end f n) (push a)
    unfolding on_turn
    scan-more at a n e = scan_step at ∙ ap (λ t. on_turn t (λ a n. bind (scan end f n) (push a))) e
