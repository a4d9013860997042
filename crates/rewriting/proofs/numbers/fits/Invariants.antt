-- `fits` meets its contract: each turn takes a digit away.
use Rattle.rewriting.proofs.WritePass.Putting.{Shortened}
use Rattle.rewriting.proofs.numbers.fits.Given as goal

abbrev pub invariant-loop-i : goal.invariant-loop-i
invariant-loop-i l = Shortened l.base l.value l.width l.rest l._i
