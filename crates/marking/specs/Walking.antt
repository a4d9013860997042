-- Going on from one state to the next until an answer: a list or an expression that is read up to what decides. A count
-- bounds how often; the equation `walk_step` is free of it.
use Rattle.std.specs.Prelude.{ℕ, zero, suc, ◌-◌}

pub data Next (S B : Type 0) : Type 0 where
  go : S → Next S B
  stop : B → Next S B

module _ {S B : Type 0} where
  unfoldable pub on_next : Next S B → (S → B) → B
  on_next (go s) k = k s
  on_next (stop b) k = b

  unfoldable pub walk_within : ℕ → (S → Next S B) → B → S → B
  walk_within zero f d s = d
  walk_within (suc k) f d s = on_next (f s) (λ t. walk_within k f d t)

  -- from a state on, whose place never passes `end`
  unfoldable pub walk : (S → ℕ) → ℕ → (S → Next S B) → B → S → B
  walk place end f d s = walk_within (suc (end - place s)) f d s
