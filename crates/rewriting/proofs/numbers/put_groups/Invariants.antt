-- `put_groups` meets its contract.
use Rattle.rewriting.proofs.WritePass.Putting.{Grouping}
use Rattle.rewriting.proofs.numbers.put_groups.Given as goal

abbrev pub invariant-loop-i : goal.invariant-loop-i
invariant-loop-i l = Grouping l.value l.last l.initial.out l.rest l.i l.out
