-- `visit_all` meets its contract: the marks so far are sound where those at the start were. Assumes nothing.
use Rattle.marking.specs.Inner.Passes.{WithBoth, Spread}
use Rattle.marking.proofs.spread.visit_all.Given as goal

abbrev pub invariant-loop : goal.invariant-loop
invariant-loop l = Spread (WithBoth l.parents l.pairs) l.initial.marks l.marks
