-- `fits` meets its contract: each turn takes a digit away.
use native.Mathlib.Omega.{arith}
use Rattle.rewriting.proofs.WritePass.Putting.{shortened-more}
use Rattle.rewriting.proofs.numbers.fits.Goals as goal

pub loop-i-preserved : goal.loop-i-preserved
loop-i-preserved c = shortened-more _ _ _ _ _ (omega arith) (omega arith) c.loop-i.invariant
