-- A constant table of n entries that lists a rule f is `listed f n`, by computing: so its entries are those of the rule.
use Prim.Native.Nat.{ℕ, zero, suc, ◌+◌, ◌≤◌, ◌<◌}
use mathlib.Core.Path.{◌≡◌, refl, ap, ◌∙◌}
use mathlib.Core.List.{List, [], ◌∷◌}
use mathlib.Core.Logic.{⊎_elim}
use native.Mathlib.Omega.{arith}
use lib.Dec.{ltb}
use lib.ListN.{get_or, length, get_or-eq_default}
use mir.Facts.{ltb_yes, ltb_no}
use Rattle.readers.proofs.Choice.{either}

-- the rule's entries from i on
unfoldable pub listed_from : {X : Type 0} → (ℕ → X) → ℕ → ℕ → List X
listed_from f i zero = []
listed_from f i (suc n) = f i ∷ listed_from f (suc i) n

unfoldable pub listed : {X : Type 0} → (ℕ → X) → ℕ → List X
listed f n = listed_from f 0 n

from : {X : Type 0} (f : ℕ → X) (d : X) (i n k : ℕ) → k < n → get_or (listed_from f i n) k d ≡ f (i + k)
unfolding listed_from
from f d i zero k h = absurd (omega arith)
from f d i (suc n) zero h = ap f (let e : i ≡ i + 0 = omega arith in e)
from f d i (suc n) (suc k) h = from f d (suc i) n k (omega arith) ∙ ap f (let e : suc i + k ≡ i + suc k = omega arith in e)

pub entry_of : {X : Type 0} (f : ℕ → X) (d : X) (n k : ℕ) → k < n → get_or (listed f n) k d ≡ f k
unfolding listed
entry_of f d n k h = from f d 0 n k h ∙ ap f (let e : 0 + k ≡ k = omega arith in e)

pub entry : (f : ℕ → ℕ) (n k : ℕ) → k < n → get_or (listed f n) k 0 ≡ f k
entry f = entry_of f 0

length-listed : (f : ℕ → ℕ) (i n : ℕ) → length (listed_from f i n) ≡ n
unfolding listed_from
length-listed f i zero = refl
length-listed f i (suc n) = ap (λ (k : ℕ). suc k) (length-listed f (suc i) n)

-- the entry at k, or 0 past the table
pub entry-or : (f : ℕ → ℕ) (n k r : ℕ) → (k < n → f k ≡ r) → (n ≤ k → 0 ≡ r) → get_or (listed f n) k 0 ≡ r
unfolding listed
entry-or f n k r inside past =
    ⊎_elim
    (λ t. entry f n k (ltb_yes t) ∙ inside (ltb_yes t))
    (λ t. let h : n ≤ k = ltb_no t in get_or-eq_default (listed_from f 0 n) 0 (omega (arith, length-listed f 0 n)) ∙ past h)
    (either (ltb k n))
