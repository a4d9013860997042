-- `start` meets its contract: the first i marks are made. Assumes nothing.
use Rattle.marking.specs.Inner.Passes.{start_mark}
use Rattle.marking.proofs.Tables.{Made}
use Rattle.marking.proofs.marks.start.Given as goal

abbrev pub invariant-loop-i : goal.invariant-loop-i
invariant-loop-i l = Made (start_mark l.roots) l.marks l.i
