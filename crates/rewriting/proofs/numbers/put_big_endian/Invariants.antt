-- `put_big_endian` meets its contract: the last byte is written first.
use Rattle.rewriting.proofs.WritePass.Putting.{Backing}
use Rattle.rewriting.proofs.numbers.put_big_endian.Given as goal

abbrev pub invariant-loop-i : goal.invariant-loop-i
invariant-loop-i l = Backing l.value l.at l.width l.initial.s l.s l.rest l.i
