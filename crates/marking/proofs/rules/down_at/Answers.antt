-- `down_at` meets its contract: there is no parent, or its mark asks for one. Assumes nothing.
use Rattle.marking.proofs.Passes.{parent-before, down-none, down-pass}
use Rattle.marking.proofs.rules.down_at.Goals as goal

pub raise-requires-clause-s_in_bounds : goal.raise-requires-clause-s_in_bounds
raise-requires-clause-s_in_bounds c = search parent-before

pub returns-then-p : goal.returns-then-p
returns-then-p c = search down-pass

pub returns-else-p : goal.returns-else-p
returns-else-p c = search down-none
