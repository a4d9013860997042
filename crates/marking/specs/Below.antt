-- Tests, counts and lists over the numbers below a bound.
use Rattle.std.specs.Prelude.{ℕ, zero, suc, ◌+◌, List, [], ◌∷◌, Bool, true, false}
use Rattle.readers.specs.Choice.{pick, ◌and◌, ◌or◌}

-- some number below n has f
unfoldable pub any : ℕ → (ℕ → Bool) → Bool
any zero f = false
any (suc n) f = f n or any n f

-- every number below n has f
unfoldable pub every : ℕ → (ℕ → Bool) → Bool
every zero f = true
every (suc n) f = f n and every n f

-- how many numbers below n have f
unfoldable pub count : ℕ → (ℕ → Bool) → ℕ
count zero f = 0
count (suc n) f = pick (f n) 1 0 + count n f

-- the same for a property that need not be a test: k of the numbers below n have P
pub data Number (P : ℕ → Type 0) : ℕ → ℕ → Type 0 where
  no_more : Number P 0 0
  one_more : {n k : ℕ} → P n → Number P n k → Number P (suc n) (suc k)
  not_this : {n k : ℕ} → (P n → ⊥) → Number P n k → Number P (suc n) k

-- f 0, f 1, .. : n of them
unfoldable pub tab : ℕ → (ℕ → ℕ) → List ℕ
tab zero f = []
tab (suc n) f = f 0 ∷ tab n (λ k. f (suc k))
