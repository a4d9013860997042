-- `mark_with` meets its contract: the first marks are sound, and after a round the marks are sound still. Assumes nothing.
use mathlib.Core.Path.{refl, sym, ap, ◌∙◌}
use native.Mathlib.Omega.{arith}
use lib.ListN.{length}
use Rattle.marking.specs.Graph.{graph}
use Rattle.marking.specs.Inner.Passes.{end_first}
use Rattle.marking.proofs.Starts.{start-sound}
use Rattle.marking.proofs.Answers.{taken, parents-fit, pairs-fit, sound-sum, refused-answer, refused-marks, marked-answer, marked-marks}
use Rattle.marking.proofs.marks.mark_with.Goals as goal

pub returns-then-not-takes : goal.returns-then-not-takes
returns-then-not-takes c =
    let no = sym c.takes.ensures ∙ c.if-not-takes.true in
    (refused-answer (graph c.args.parents.now c.args.pairs.now c.args.roots.now) (length c.args.marks.now) no, refused-marks (graph c.args.parents.now c.args.pairs.now c.args.roots.now) (length c.args.marks.now) _ no c.clear_bytes.ensures)

pub start-requires : goal.start-requires
start-requires c =
    let k = taken (graph c.args.parents.now c.args.pairs.now c.args.roots.now) (length c.args.marks.now) (sym c.takes.ensures ∙ c.if-not-takes.false) in
    k.long ∙ sym k.form.same-roots

pub spread-requires : goal.spread-requires
spread-requires c =
    let g = graph c.args.parents.now c.args.pairs.now c.args.roots.now in
    let v = (taken g (length c.args.marks.now) (sym c.takes.ensures ∙ c.if-not-takes.false)).form in
    let started = start-sound g v c.start.new.marks c.start.ensures in
    record { parents_fit = parents-fit g c.start.new.marks v started; pairs_fit = pairs-fit g c.start.new.marks v started }

pub loop-init : goal.loop-init
loop-init c =
    let g = graph c.args.parents.now c.args.pairs.now c.args.roots.now in
    let v = (taken g (length c.args.marks.now) (sym c.takes.ensures ∙ c.if-not-takes.false)).form in
    c.spread.ensures.sound g (refl, refl) (start-sound g v c.start.new.marks c.start.ensures)

pub round-requires : goal.round-requires
round-requires c =
    let g = graph c.args.parents.now c.args.pairs.now c.args.roots.now in
    let v = (taken g (length c.args.marks.now) (sym c.takes.ensures ∙ c.if-not-takes.false)).form in
    record { parents_fit = parents-fit g c.loop.marks v c.loop.invariant; pairs_fit = pairs-fit g c.loop.marks v c.loop.invariant }

pub loop-smaller : goal.loop-smaller
loop-smaller c =
    let g = graph c.args.parents.now c.args.pairs.now c.args.roots.now in
    omega (arith, c.round.ensures.more c.loop-test.true, sound-sum _ _ (c.round.ensures.spread.sound g (refl, refl) c.loop.invariant))

pub loop-preserved : goal.loop-preserved
loop-preserved c = c.round.ensures.spread.sound (graph c.args.parents.now c.args.pairs.now c.args.roots.now) (refl, refl) c.loop.invariant

pub end_first-requires : goal.end_first-requires
end_first-requires c =
    let g = graph c.args.parents.now c.args.pairs.now c.args.roots.now in
    let v = (taken g (length c.args.marks.now) (sym c.takes.ensures ∙ c.if-not-takes.false)).form in
    pairs-fit g c.round.new.marks v (c.round.ensures.spread.sound g (refl, refl) c.loop.invariant)

pub returns : goal.returns
returns c =
    let g = graph c.args.parents.now c.args.pairs.now c.args.roots.now in
    let n = length c.args.marks.now in
    let no = c.loop-test.false in
    let yes = sym c.takes.ensures ∙ c.if-not-takes.false in
    let ends = c.end_first.ensures ∙ ap (end_first g.pairs) (c.round.ensures.same no) in (
      marked-answer g n c.loop.marks c.end_first.new.marks yes c.loop.invariant (c.round.ensures.done no) ends c.count_kept.result c.count_kept.ensures,
      marked-marks g n c.loop.marks c.end_first.new.marks yes c.loop.invariant (c.round.ensures.done no) ends,
    )
