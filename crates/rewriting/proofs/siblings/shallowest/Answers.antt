-- `shallowest` meets its contract.
use native.Mathlib.Omega.{arith}
use Rattle.rewriting.proofs.MapPass.Bounded.{least_more}
use Rattle.rewriting.proofs.MapPass.Places.{depth-there}
use Rattle.rewriting.proofs.siblings.shallowest.Goals as goal

pub loop-i-preserved : goal.loop-i-preserved
loop-i-preserved c = least_more _ _ _ _ _ _ _ c.loop-i.invariant (omega arith) (depth-there _ _ _ c.depth_at.ensures) (omega arith) (omega arith)
