-- `mark_unit` clears the marks, the pairs and the work column, analyses the unit, and marks its rows. Assumes nothing.
use mathlib.Core.Path.{sym, ap, ◌∙◌}
use lib.ListN.{length}
use Rattle.readers.specs.Choice.{zeros}
use Rattle.marking.proofs.UnitMarkings.{with-last, unit-refused, unit-markable, unit-marked}
use Rattle.marking.proofs.units.mark_unit.Goals as goal

pub mark_rows-answer-requires : goal.mark_rows-answer-requires
mark_rows-answer-requires c = unit-markable _ _ (length c.args.marks.now) (length c.args.pairs.now) _ _ _ _ _ _ _ _ _ _ _ _ _ _
    c.clear_bytes.ensures c.clear.ensures
    c.analyse-unit.auto.offsets c.analyse-unit.auto.parents c.analyse-unit.auto.roots c.analyse-unit.auto.reference_ends c.analyse-unit.auto.targets _ _
    (sym c.in-Ok.is ∙ c.analyse-unit.ensures.0.1, c.analyse-unit.ensures.1)

pub returns-in-Err : goal.returns-in-Err
returns-in-Err c = let w =
    with-last
    (unit-refused _ _ (length c.args.marks.now) (length c.args.pairs.now) _ _ _ _ _ _ _ _ _ _ _ _ _ _
    c.clear_bytes.ensures c.clear.ensures _
    (sym c.in-Err.is ∙ c.analyse-unit.ensures.0.1, c.analyse-unit.ensures.1))
    c.clear_indexes.ensures in
    ((c.analyse-unit.ensures.0.0, w.0), w.1)

pub returns-in-Ok : goal.returns-in-Ok
returns-in-Ok c = let w =
    with-last
    (unit-marked _ _ (length c.args.marks.now) (length c.args.pairs.now) _ _ _ _ _ _ _ _ _ _ _ _ _ _
    c.clear_bytes.ensures c.clear.ensures
    c.analyse-unit.auto.offsets c.analyse-unit.auto.parents c.analyse-unit.auto.roots c.analyse-unit.auto.reference_ends c.analyse-unit.auto.targets _ _
    (sym c.in-Ok.is ∙ c.analyse-unit.ensures.0.1, c.analyse-unit.ensures.1)
    _ _ _ c.mark_rows-answer.ensures.answer c.mark_rows-answer.ensures.marks c.mark_rows-answer.ensures.pairs)
    (c.mark_rows-answer.ensures.work ∙ ap zeros c.clear_indexes.auto.table) in
    ((c.analyse-unit.ensures.0.0, w.0), w.1)
