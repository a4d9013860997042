-- `collect_unit` clears, marks, and answers for what was marked. Assumes nothing.
use Rattle.rewriting.proofs.Whole.Answering.{ends-enough, unit-answers}
use Rattle.rewriting.proofs.collect.collect_unit.Goals as goal

pub returns : goal.returns
returns c = unit-answers _ _ _ _ _ _ _ _ _ _ _ _ _ _ _ _ _ _ _ _ _ _ _ _ _ _ _ _ _ _ _
    c.task_of-task.ensures c.mark_unit-marked.ensures.0.0 c.mark_unit-marked.ensures.0.1 c.mark_unit-marked.ensures.1.0 c.mark_unit-marked.auto.index c.mark_unit-marked.ensures.1.1.1.0 c.mark_unit-marked.auto.parents
    c.mark_unit-marked.auto.reference_ends (ends-enough _ _ _ _ _ _ _) c.mark_unit-marked.ensures.1.1.1.1.1.1.0 c.mark_unit-marked.auto.marks
    c.clear_outputs.ensures.map c.clear_outputs.auto.map
    c.clear_outputs.ensures.ranges c.clear_outputs.auto.ranges
    c.clear_outputs.ensures.locations c.clear_outputs.auto.locations
    c.clear_outputs.ensures.strings c.clear_outputs.auto.strings
    c.clear_outputs.ensures.out c.clear_outputs.auto.out
    c.collect_marked.ensures
