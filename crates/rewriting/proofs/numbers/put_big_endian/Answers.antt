-- `put_big_endian` meets its contract: the last byte is written first.
use native.Mathlib.Omega.{arith}
use Rattle.rewriting.proofs.WritePass.Putting.{backing-start, backing-more, backing-done, put-none, put_all}
use Rattle.rewriting.proofs.numbers.put_big_endian.Goals as goal
use Rattle.rewriting.proofs.numbers.put_big_endian.Goals.{then-at-s-via-then-at-s, then-at-s-via-else-at-s+then-width-s}

pub returns-then-at-s : goal.returns-then-at-s
returns-then-at-s c = put-none _ _ _ _ (elim c.then-at-s.branch [ then-at-s-via-then-at-s w ↦ omega arith | then-at-s-via-else-at-s+then-width-s w ↦ omega arith ])

pub loop-i-init : goal.loop-i-init
loop-i-init c = backing-start _ _ _ _ (omega arith)

pub loop-i-preserved : goal.loop-i-preserved
loop-i-preserved c = backing-more _ _ _ _ _ _ _ (omega arith) c.loop-i.invariant

pub returns : goal.returns
returns c = put_all _ _ _ _ _ c.loop-i.invariant.room (backing-done _ _ _ _ _ _ _ (omega arith) c.loop-i.invariant)
