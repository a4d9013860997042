-- `start` meets its contract: the first i marks are made. Assumes nothing.
use native.Mathlib.Omega.{arith}
use Rattle.marking.specs.Inner.Passes.{start_mark}
use Rattle.marking.proofs.Tables.{made_more, made_all}
use Rattle.marking.proofs.Starts.{start-root, start_first, start-rest}
use Rattle.marking.proofs.marks.start.Goals as goal
use Rattle.marking.proofs.marks.start.Goals.{in-1-default, in_default-eq0, in_default}

pub loop-i-preserved : goal.loop-i-preserved
loop-i-preserved c =
    made_more (start_mark c.args.roots.now) c.loop-i.marks c.loop-i.i c.match-roots-i.mark c.loop-i.invariant (omega arith)
    (elim c.match-roots-i.branch [
      | in-1-default w ↦ start-root _ _ _ w.in-1-default.is-0 w.mark-is
      | in_default-eq0 w ↦ start_first _ _ _ w.in_default-eq0.is-0.1 w.in_default-eq0.is-1 w.mark-is
      | in_default w ↦ start-rest _ _ _ w.in_default.is-0.1 w.in_default.is-1.1 w.mark-is
    ])

pub returns : goal.returns
returns c = made_all _ _ _ _ c.loop-i.invariant (omega arith) (omega arith)
