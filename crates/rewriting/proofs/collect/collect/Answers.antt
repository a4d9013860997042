-- `collect` leaves zeros in the tables, and after a refusal in map, lists and output. Assumes nothing.
use mathlib.Core.Path.{◌∙◌}
use Rattle.rewriting.proofs.Whole.Answering.{cleared, outputs-left}
use Rattle.rewriting.proofs.collect.collect.Goals as goal

pub returns : goal.returns
returns c = let l =
    outputs-left _ _ _ _ _ _ _ _ _ _ _ _ c.collect_unit-answer.ensures
    c.collect_unit-answer.auto.map
    c.collect_unit-answer.auto.range_list
    c.collect_unit-answer.auto.location_list
    c.collect_unit-answer.auto.string_list
    c.collect_unit-answer.auto.out in (
      c.collect_unit-answer.ensures.told,
      c.clear_refused.ensures.0 ∙ l.0,
      c.clear_refused.ensures.1 ∙ l.1,
      c.clear_refused.ensures.2 ∙ l.2,
      c.clear_refused.ensures.3 ∙ l.3,
      c.clear_refused.ensures.4 ∙ l.4,
      cleared _ _ _ c.clear_tables.ensures.index c.collect_unit-answer.auto.index,
      cleared _ _ _ c.clear_tables.ensures.offsets c.collect_unit-answer.auto.offsets,
      cleared _ _ _ c.clear_tables.ensures.parents c.collect_unit-answer.auto.parents,
      cleared _ _ _ c.clear_tables.ensures.roots c.collect_unit-answer.auto.roots,
      cleared _ _ _ c.clear_tables.ensures.ends c.collect_unit-answer.auto.ends,
      cleared _ _ _ c.clear_tables.ensures.marks c.collect_unit-answer.auto.marks,
      cleared _ _ _ c.clear_tables.ensures.targets c.collect_unit-answer.auto.targets,
      cleared _ _ _ c.clear_tables.ensures.pairs c.collect_unit-answer.auto.pairs,
      cleared _ _ _ c.clear_tables.ensures.work c.collect_unit-answer.auto.work,
    )
