-- `up_at` meets its contract: the entry is not kept, there is no parent, or it gets the mark that is asked. Assumes nothing.
use Rattle.marking.proofs.Passes.{parent-before, up_none, up-low, up-pass}
use Rattle.marking.proofs.rules.up_at.Goals as goal

pub returns-then-marks-i-lt2 : goal.returns-then-marks-i-lt2
returns-then-marks-i-lt2 c = search up-low

pub raise-requires-clause-t_in_bounds : goal.raise-requires-clause-t_in_bounds
raise-requires-clause-t_in_bounds c = search parent-before

pub returns-then-p : goal.returns-then-p
returns-then-p c = search up-pass

pub returns-else-p : goal.returns-else-p
returns-else-p c = search up_none
