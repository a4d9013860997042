-- `mark_rows` resolves the references, then marks the graph of the rows. Assumes nothing.
use Rattle.readers.proofs.Refusing.{passed-on}
use mathlib.Core.Path.{sym, ap, ◌∙◌}
use native.Mathlib.Omega.{arith}
use Rattle.readers.specs.Choice.{zeros}
use Rattle.marking.proofs.UnitMarkings.{take_within, pairs-room, pairs-inside, rows-kept, rows_taken, rows-marks}
use Rattle.marking.proofs.units.mark_rows.Goals as goal

pub overflow_mul-m : goal.overflow_mul-m
overflow_mul-m c = omega (arith, pairs-room c.requires.rows c.requires.laid _ (c.resolve_by_hints-n.ensures.answer c.requires.rows c.requires.laid.held) (c.resolve_by_hints-n.ensures.filled c.requires.rows c.requires.laid.held))

pub slice_bounds-mark_with-end : goal.slice_bounds-mark_with-end
slice_bounds-mark_with-end c = take_within _ _ c.requires.laid.parents_inside

pub slice_bounds-mark_with-end-2 : goal.slice_bounds-mark_with-end-2
slice_bounds-mark_with-end-2 c = pairs-inside c.requires.rows c.requires.laid _ (c.resolve_by_hints-n.ensures.answer c.requires.rows c.requires.laid.held) (c.resolve_by_hints-n.ensures.filled c.requires.rows c.requires.laid.held)

pub slice_bounds-mark_with-end-3 : goal.slice_bounds-mark_with-end-3
slice_bounds-mark_with-end-3 c = take_within _ _ (pairs-inside c.requires.rows c.requires.laid _ (c.resolve_by_hints-n.ensures.answer c.requires.rows c.requires.laid.held) (c.resolve_by_hints-n.ensures.filled c.requires.rows c.requires.laid.held))

pub slice_bounds-mark_with-end-4 : goal.slice_bounds-mark_with-end-4
slice_bounds-mark_with-end-4 c = take_within _ _ c.requires.laid.roots_inside

pub slice_bounds-mark_with-end-6 : goal.slice_bounds-mark_with-end-6
slice_bounds-mark_with-end-6 c = take_within _ _ c.requires.laid.marks_inside

pub returns : goal.returns
returns c = record {
  answer = λ rows k. rows-kept rows k _ (c.resolve_by_hints-n.ensures.answer rows k.held) (c.resolve_by_hints-n.ensures.filled rows k.held) _ (sym c.in_ok-kept.was ∙ c.mark_with-marked.ensures.0);
  marks = λ rows k. rows-marks rows k _ (c.resolve_by_hints-n.ensures.answer rows k.held) (c.resolve_by_hints-n.ensures.filled rows k.held) _ c.mark_with-marked.ensures.1;
  pairs = λ rows k. c.resolve_by_hints-n.ensures.filled rows k.held;
  work = c.clear_indexes.ensures ∙ ap zeros (c.mark_with-marked.auto.work ∙ c.resolve_by_hints-n.auto.work);
}

pub returns-in_err-kept : goal.returns-in_err-kept
returns-in_err-kept c = record {
  answer = λ rows k. passed-on _ _ c.from_residual.ensures.1 ∙ rows_taken rows k _ (c.resolve_by_hints-n.ensures.answer rows k.held) (c.resolve_by_hints-n.ensures.filled rows k.held) _ (sym c.in_err-kept.was ∙ c.mark_with-marked.ensures.0);
  marks = λ rows k. rows-marks rows k _ (c.resolve_by_hints-n.ensures.answer rows k.held) (c.resolve_by_hints-n.ensures.filled rows k.held) _ c.mark_with-marked.ensures.1;
  pairs = λ rows k. c.resolve_by_hints-n.ensures.filled rows k.held;
  work = c.clear_indexes.ensures ∙ ap zeros (c.mark_with-marked.auto.work ∙ c.resolve_by_hints-n.auto.work);
}
