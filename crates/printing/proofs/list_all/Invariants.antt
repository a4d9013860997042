-- `printing::list_all` ends: the measure is the number of bytes left, since no bundle that is printed is empty.
use Rattle.std.proofs.Common.{length, ◌≤◌}
use Rattle.printing.proofs.list_all.Given as goal

abbrev pub invariant-loop-rest : goal.invariant-loop-rest
invariant-loop-rest g l = length l.rest ≤ length l.s

abbrev pub decreases-loop-rest : goal.decreases-loop-rest
decreases-loop-rest g l = length l.rest
