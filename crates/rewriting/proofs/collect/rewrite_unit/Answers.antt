-- `rewrite_unit` makes the lists, and writes where something is dead. Assumes nothing.
use Rattle.readers.proofs.Refusing.{refused-none, read_some}
use Rattle.rewriting.proofs.Whole.UnitAnswers.{short-unit, untouched-unit, written-unit}
use Rattle.rewriting.proofs.collect.rewrite_unit.Goals as goal

pub returns-then-kept-entries : goal.returns-then-kept-entries
returns-then-kept-entries c = untouched-unit _ _ _ _ _ _ _ _ _ _ _ _ _ _ _ _ c.unit_part-unit.ensures _ c.fill_ends.ensures _ _ _ _ c.index_lists.ensures _ _ _ (read_some _ _ _ _ c.ok_or.ensures.value c.in_ok-ranges.was) c.if-kept-entries.true

pub returns-in_err-ranges : goal.returns-in_err-ranges
returns-in_err-ranges c = let n = refused-none _ _ _ _ _ c.ok_or.ensures.value c.in_err-ranges.was c.from_residual.ensures.1 in rw n.1 (short-unit _ _ _ _ _ _ _ _ _ _ _ _ _ _ _ _ c.unit_part-unit.ensures _ c.fill_ends.ensures _ _ _ _ c.index_lists.ensures n.0)

pub returns : goal.returns
returns c = written-unit _ _ _ _ _ _ _ _ _ _ _ _ _ _ _ _ c.unit_part-unit.ensures _ c.fill_ends.ensures _ _ _ _ c.index_lists.ensures _ _ _ (read_some _ _ _ _ c.ok_or.ensures.value c.in_ok-ranges.was) c.if-kept-entries.false _ _ _ c.write_unit.ensures
