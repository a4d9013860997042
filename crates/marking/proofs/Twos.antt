-- A list of numbers read two at a time. Assumes nothing.
use Prim.Native.Nat.{ℕ, zero, suc, ◌+◌, ◌*◌, ◌<◌}
use mathlib.Core.Path.{◌≡◌, refl, ap, ◌∙◌}
use mathlib.Core.List.{List, [], ◌∷◌}
use native.Mathlib.Omega.{arith}
use lib.ListN.{get_or, take, drop}
use lib.Seq.{get_or-drop}
use Rattle.std.specs.Simd.{first_chunks}

within : (xs : List ℕ) (i : ℕ) → i < 2 → get_or (take 2 xs) i 0 ≡ get_or xs i 0
within [] zero h = refl
within [] (suc i) h = refl
within (x ∷ xs) zero h = refl
within (x ∷ []) (suc i) h = refl
within (x ∷ y ∷ xs) (suc zero) h = refl
within (x ∷ y ∷ xs) (suc (suc i)) h = absurd (omega arith)

-- number i of two at j
in_two : (k : ℕ) (xs : List ℕ) (j i : ℕ) → j < k → i < 2 → get_or (get_or (first_chunks 2 k xs) j []) i 0 ≡ get_or xs (2 * j + i) 0
in_two zero xs j i h l = absurd (omega arith)
in_two (suc k) xs zero i h l = within xs i l ∙ ap (λ (n : ℕ). get_or xs n 0) (let e : i ≡ 2 * 0 + i = omega arith in e)
in_two (suc k) xs (suc j) i h l =
    in_two k (drop 2 xs) j i (omega arith) l ∙ get_or-drop 2 xs (2 * j + i) 0 ∙ ap (λ (n : ℕ). get_or xs n 0) (let e : 2 + (2 * j + i) ≡ 2 * suc j + i = omega arith in e)

module _ (ws : List (List ℕ)) (k : ℕ) (xs : List ℕ) (j : ℕ) (e : ws ≡ first_chunks 2 k xs) (h : j < k) where
  pub two_first : get_or (get_or ws j []) 0 0 ≡ get_or xs (2 * j) 0
  two_first = rw e (in_two k xs j 0 h (omega arith) ∙ ap (λ (n : ℕ). get_or xs n 0) (let z : 2 * j + 0 ≡ 2 * j = omega arith in z))

  pub two_second : get_or (get_or ws j []) 1 0 ≡ get_or xs (2 * j + 1) 0
  two_second = rw e (in_two k xs j 1 h (omega arith))
