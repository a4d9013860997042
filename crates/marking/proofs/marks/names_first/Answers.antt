-- `names_first` meets its contract: no pair before is one. Assumes nothing.
use mathlib.Core.Path.{sym, ◌∙◌}
use native.Mathlib.Omega.{arith}
use Rattle.marking.specs.Inner.Passes.{names_first}
use Rattle.marking.proofs.Tests.{any_none, any-more, any_found, any-never}
use Rattle.marking.proofs.Passes.{pair_inside}
use Rattle.marking.proofs.Settled.{first-other, first-low, first-yes}
use Rattle.marking.proofs.Twos.{two_first, two_second}
use Rattle.marking.proofs.marks.names_first.Goals as goal
use Rattle.marking.proofs.marks.names_first.Goals.{else-pair-eq0-via-then-pair-eq0+else-marks-pair-ge2, else-pair-eq0-via-else-pair-eq0}

pub loop-pair-init : goal.loop-pair-init
loop-pair-init c = any_none _

pub bounds-marks-pair : goal.bounds-marks-pair
bounds-marks-pair c =
    let h = pair_inside c.args.pairs.now c.args.marks.now c.loop-pair.pair-index c.requires (omega arith) in
    rw (two_first _ _ c.args.pairs.now c.loop-pair.pair-index c.as_chunks.ensures.front (omega arith)) h.0

pub returns-then-marks-pair-ge2 : goal.returns-then-marks-pair-ge2
unfolding names_first
returns-then-marks-pair-ge2 c =
    let a = two_first _ _ c.args.pairs.now c.loop-pair.pair-index c.as_chunks.ensures.front (omega arith) in
    let b = two_second _ _ c.args.pairs.now c.loop-pair.pair-index c.as_chunks.ensures.front (omega arith) in
    any_found _ _ c.loop-pair.pair-index (omega arith) (first-yes _ _ _ (sym b ∙ c.if-pair-eq0.true) (rw a at c.if-marks-pair-ge2.true))

pub loop-pair-preserved : goal.loop-pair-preserved
loop-pair-preserved c =
    let a = two_first _ _ c.args.pairs.now c.loop-pair.pair-index c.as_chunks.ensures.front (omega arith) in
    let b = two_second _ _ c.args.pairs.now c.loop-pair.pair-index c.as_chunks.ensures.front (omega arith) in
    any-more _ _ c.loop-pair.invariant
    (elim c.else-pair-eq0.branch [
      | else-pair-eq0-via-then-pair-eq0+else-marks-pair-ge2 w ↦ first-low _ _ _ (rw a at w.if-marks-pair-ge2.false)
      | else-pair-eq0-via-else-pair-eq0 w ↦ first-other _ _ _ (λ e. w.if-pair-eq0.false (b ∙ e))
    ])

pub returns : goal.returns
unfolding names_first
returns c = any-never _ _ _ c.loop-pair.invariant (omega arith) (omega arith)
