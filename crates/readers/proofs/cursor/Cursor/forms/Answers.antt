-- `Cursor::forms` meets its contract: whatever was passed, the answer from here on is the whole answer. Each number takes bytes, so what is left falls.
-- Assumes nothing.
use mathlib.Core.Path.{sym, ◌∙◌}
use native.Mathlib.Omega.{arith}
use Rattle.readers.proofs.Lebs.{short-inside, forms-more, forms-last, forms-none}
use Rattle.readers.proofs.cursor.Cursor.forms.Goals as goal

pub returns-then-form-ne-DW_FORM_indirect : goal.returns-then-form-ne-DW_FORM_indirect
returns-then-form-ne-DW_FORM_indirect c = forms-last _ _ _ _ (sym c.short.ensures ∙ c.in_ok-form.was) c.if-form-ne-DW_FORM_indirect.true ∙ sym c.loop-form.invariant

pub loop-form-smaller : goal.loop-form-smaller
loop-form-smaller c = omega (arith, short-inside _ _ _ _ (sym c.short.ensures ∙ c.in_ok-form.was))

pub loop-form-preserved : goal.loop-form-preserved
loop-form-preserved c = c.loop-form.invariant ∙ forms-more _ _ _ _ (sym c.short.ensures ∙ c.in_ok-form.was) c.if-form-ne-DW_FORM_indirect.false

pub returns-in_err-form : goal.returns-in_err-form
returns-in_err-form c = c.from_residual.ensures ∙ forms-none _ _ (sym c.short.ensures ∙ c.in_err-form.was) ∙ sym c.loop-form.invariant
