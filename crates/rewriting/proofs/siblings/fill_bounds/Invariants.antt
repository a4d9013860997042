-- `fill_bounds` meets its contract: the blocks from the loop's on have bounds.
use Rattle.rewriting.proofs.MapPass.Bounded.{Filling}
use Rattle.rewriting.proofs.siblings.fill_bounds.Given as goal

abbrev pub invariant-loop-k : goal.invariant-loop-k
invariant-loop-k l = Filling l.map l.places l.initial.bounds l.bounds l.k
