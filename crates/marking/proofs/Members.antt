-- What is in a list: nothing in an empty one, the first or one of the rest, and in an ascending one nothing below its bound.
use Prim.Native.Nat.{ℕ, suc, ◌≤◌}
use mathlib.Core.Path.{◌≡◌}
use mathlib.Core.List.{List, [], ◌∷◌, ◌++◌}
use mathlib.Core.Logic.{◌⊎◌, inl, inr, ⊎_elim}
use native.Mathlib.Omega.{arith}
use Rattle.marking.specs.Members.{Member, here, there}
use Rattle.marking.specs.Resolution.{Ascending}

module _ {A : Type 0} where
  pub nothing-in : (a : A) → Member a [] → ⊥
  nothing-in a m = elim m [ ]

  pub in-cases : {a x : A} {xs : List A} → Member a (x ∷ xs) → (a ≡ x) ⊎ Member a xs
  in-cases (here e) = inl e
  in-cases (there m) = inr m

pub from_member : (low v : ℕ) (xs : List ℕ) → Ascending low xs → Member v xs → low ≤ v
unfolding Ascending
from_member low v [] f m = absurd (nothing-in v m)
from_member low v (x ∷ xs) f (here e) = let k : low ≤ x = f.0 in omega arith
from_member low v (x ∷ xs) f (there m) = let k : low ≤ x = f.0 in let l : suc x ≤ v = from_member (suc x) v xs f.1 m in omega arith

-- ---- members of two lists

module _ {A : Type 0} where
  pub in_left : (a : A) (xs ys : List A) → Member a xs → Member a (xs ++ ys)
  in_left a [] ys m = absurd (nothing-in a m)
  in_left a (x ∷ xs) ys (here e) = here e
  in_left a (x ∷ xs) ys (there m) = there (in_left a xs ys m)

  pub in_right : (a : A) (xs ys : List A) → Member a ys → Member a (xs ++ ys)
  in_right a [] ys m = m
  in_right a (x ∷ xs) ys m = there (in_right a xs ys m)

  pub in_either : (a : A) (xs ys : List A) → Member a (xs ++ ys) → Member a xs ⊎ Member a ys
  in_either a [] ys m = inr m
  in_either a (x ∷ xs) ys (here e) = inl (here e)
  in_either a (x ∷ xs) ys (there m) = ⊎_elim (λ n. inl (there n)) (λ n. inr n) (in_either a xs ys m)
