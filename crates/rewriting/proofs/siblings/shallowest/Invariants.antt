-- `shallowest` meets its contract.
use Rattle.rewriting.proofs.MapPass.Bounded.{Least}
use Rattle.rewriting.proofs.siblings.shallowest.Given as goal

abbrev pub invariant-loop-i : goal.invariant-loop-i
invariant-loop-i l = Least l.map l.places l.from l.i l.least
