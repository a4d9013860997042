-- `follow` meets its contract: the marks so far are sound where those at the start were. Assumes nothing.
use Rattle.marking.specs.Inner.Passes.{WithBoth, Spread}
use Rattle.marking.proofs.spread.follow.Given as goal

abbrev pub invariant-loop-j : goal.invariant-loop-j
invariant-loop-j l = Spread (WithBoth l.parents l.pairs) l.initial.marks l.marks
