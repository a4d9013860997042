-- `put_bytes` meets its contract.
use lib.ListN.{drop}
use Rattle.rewriting.proofs.WritePass.Putting.{Putting}
use Rattle.rewriting.proofs.numbers.put_bytes.Given as goal

abbrev pub invariant-loop-i : goal.invariant-loop-i
invariant-loop-i l = Putting l.bytes l.initial.out (drop l.i l.bytes) l.out l.i
