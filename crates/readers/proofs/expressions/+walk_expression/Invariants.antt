-- `walk_expression` meets its contract: each nested expression is shorter than the one that holds it. Assumes nothing.
use Prim.Native.Nat.{◌-◌}
use lib.ListN.{length}
use Rattle.readers.proofs.Walks.{Walking}
use Rattle.readers.proofs.expressions.+walk_expression.Given as goal

abbrev pub decreases-walk_expression : goal.decreases-walk_expression
decreases-walk_expression l = length l.s.now

abbrev pub invariant-loop-c : goal.invariant-loop-c
invariant-loop-c l = Walking l.e l.s l.c.at l.references l.absolute

abbrev pub decreases-loop-c : goal.decreases-loop-c
decreases-loop-c l = length l.s - l.c.at
