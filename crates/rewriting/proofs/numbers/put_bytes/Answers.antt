-- `put_bytes` meets its contract.
use native.Mathlib.Omega.{arith}
use Rattle.rewriting.proofs.WritePass.Putting.{putting-start, copy_more, copy_done, over_none, over-all}
use Rattle.rewriting.proofs.numbers.put_bytes.Goals as goal

pub returns-else-bytes-out : goal.returns-else-bytes-out
returns-else-bytes-out c = over_none _ _ c.if-bytes-out.false

pub loop-i-init : goal.loop-i-init
loop-i-init c = putting-start _ _

pub loop-i-preserved : goal.loop-i-preserved
loop-i-preserved c = copy_more _ _ _ _ (omega arith) (omega arith) c.loop-i.invariant

pub returns-after-loop-i : goal.returns-after-loop-i
returns-after-loop-i c = over-all _ _ _ (omega arith) (copy_done _ _ _ _ (omega arith) c.loop-i.invariant)
