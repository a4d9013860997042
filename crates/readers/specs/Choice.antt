-- What the definitions are written with: a choice by a Bool, a test that must hold, one reading after another, zeros,
-- numbers put into a list.
use Rattle.std.specs.Prelude.{Bool, true, false, List, ◌++◌, ℕ, ◌+◌, replicate, length, take, drop, None, Option, Some}

infixr 30 ◌and◌
infixr 25 ◌or◌
unfoldable pub pick {ℓ} : {X : Type ℓ} → Bool → X → X → X
pick true x y = x
pick false x y = y

unfoldable pub ◌and◌ : Bool → Bool → Bool
◌and◌ true b = b
◌and◌ false b = false

unfoldable pub ◌or◌ : Bool → Bool → Bool
◌or◌ true b = true
◌or◌ false b = b

-- a test that must hold
unfoldable pub check : {X : Type 0} → Bool → Option X → Option X
check true x = x
check false x = None

-- one reading, and then another
unfoldable pub bind : {A : Type 0} {B : Type 0} → Option A → (A → Option B) → Option B
bind None f = None
bind (Some a) f = f a

-- what a lent table holds where no answer stands
abbrev pub zeros : ℕ → List ℕ
zeros n = replicate n 0

-- numbers in place of those from n on
unfoldable pub put : List ℕ → ℕ → List ℕ → List ℕ
put xs n ys = take n xs ++ (ys ++ drop (n + length ys) xs)
