-- `put_little_endian` meets its contract.
use Rattle.rewriting.proofs.WritePass.Putting.{Fixing}
use Rattle.rewriting.proofs.numbers.put_little_endian.Given as goal

abbrev pub invariant-loop-i : goal.invariant-loop-i
invariant-loop-i l = Fixing l.value l.width l.initial.out l.rest l.i l.out
