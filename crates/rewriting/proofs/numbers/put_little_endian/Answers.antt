-- `put_little_endian` meets its contract.
use native.Mathlib.Omega.{arith}
use Rattle.rewriting.proofs.WritePass.Putting.{fixing-start, fixing-more, fixing-done}
use Rattle.rewriting.proofs.numbers.put_little_endian.Goals as goal

pub loop-i-init : goal.loop-i-init
loop-i-init c = fixing-start _ _ _

pub loop-i-preserved : goal.loop-i-preserved
loop-i-preserved c = fixing-more _ _ _ _ _ _ (omega arith) (omega arith) c.loop-i.invariant

pub returns : goal.returns
returns c = fixing-done _ _ _ _ _ _ (omega arith) c.loop-i.invariant
