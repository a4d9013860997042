-- The rank of a number in an ascending list is its place there.
use Prim.Native.Nat.{ℕ, suc, ◌<◌}
use mathlib.Core.Path.{◌≡◌, sym}
use mathlib.Core.List.{List, [], ◌∷◌}
use native.Mathlib.Omega.{arith}
use lib.ListN.{length, get_or}
use lib.Dec.{ltb}
use mir.Facts.{ltb_yes, ltb_no}
use Rattle.readers.proofs.Choice.{pick-either}
use Rattle.marking.specs.Resolution.{Ascending as From}
use Rattle.marking.specs.Members.{Member, here, there}
use Rattle.marking.proofs.Members.{nothing-in, from_member}
use Rattle.rewriting.specs.Ascending.{Ascending}
use Rattle.rewriting.specs.Indices.{rank_in}

-- ---- ranks

-- a number's rank is its place
pub record Ranked (xs : List ℕ) (v : ℕ) (n : ℕ) : Type 0 where
  pub inside : n < length xs
  pub placed : get_or xs n 0 ≡ v

ranked-from : (low v : ℕ) (xs : List ℕ) → From low xs → Member v xs → Ranked xs v (rank_in xs v)
unfolding From rank_in
ranked-from low v [] f m = absurd (nothing-in v m)
ranked-from low v (x ∷ xs) f (here e) =
    pick-either (Ranked (x ∷ xs) v) (ltb x v) (suc (rank_in xs v)) 0
    (λ t. absurd (omega (arith, ltb_yes {a = x} {b = v} t)))
    (λ t. record { inside = omega arith; placed = sym e })
ranked-from low v (x ∷ xs) f (there m) =
    let r : Ranked xs v (rank_in xs v) = ranked-from (suc x) v xs f.1 m in
    pick-either (Ranked (x ∷ xs) v) (ltb x v) (suc (rank_in xs v)) 0
    (λ t. record { inside = omega (arith, r.inside); placed = r.placed })
    (λ t. absurd (omega (arith, ltb_no {a = x} {b = v} t, from_member (suc x) v xs f.1 m)))

module _ (xs : List ℕ) (v : ℕ) (f : Ascending xs) (m : Member v xs) where
  pub rank-inside : rank_in xs v < length xs
  rank-inside = (ranked-from 0 v xs f m).inside

  pub rank-place : get_or xs (rank_in xs v) 0 ≡ v
  rank-place = (ranked-from 0 v xs f m).placed
