-- An answer that a walk ends with, by what each of its steps ends with. Assumes nothing.
use Prim.Native.Nat.{ℕ, zero, suc}
use Rattle.marking.specs.Walking.{Next, go, stop, on_next, walk_within, walk}

module _ {S B : Type 0} (P : B → Type 0) where
  unfoldable pub NextNumbered : Next S B → Type 0
  NextNumbered (go s) = Unit {0}
  NextNumbered (stop b) = P b

  next-numbered : (n : Next S B) → NextNumbered n → (k : S → B) → ((s : S) → P (k s)) → P (on_next n k)
  unfolding NextNumbered on_next
  next-numbered (go s) q k h = h s
  next-numbered (stop b) q k h = q

  within-numbered : (f : S → Next S B) (d : B) → ((s : S) → NextNumbered (f s)) → P d → (k : ℕ) (s : S) → P (walk_within k f d s)
  unfolding walk_within
  within-numbered f d each end zero s = end
  within-numbered f d each end (suc k) s = next-numbered (f s) (each s) _ (λ t. within-numbered f d each end k t)

  pub walk-numbered : (f : S → Next S B) (d : B) → ((s : S) → NextNumbered (f s)) → P d → (at : S → ℕ) (n : ℕ) (s : S) → P (walk at n f d s)
  unfolding walk
  walk-numbered f d each end at n s = within-numbered f d each end _ s
