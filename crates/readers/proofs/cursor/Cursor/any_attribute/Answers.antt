-- `Cursor::any_attribute` meets its contract, by what is read of its form and its value. Assumes nothing.
use mathlib.Core.Path.{◌∙◌}
use Rattle.readers.proofs.Values.{direct-none, direct-read, forms-none, indirect-none, indirect-read}
use Rattle.readers.proofs.cursor.Cursor.any_attribute.Goals as goal

pub returns-in_err-field : goal.returns-in_err-field
returns-in_err-field c = c.from_residual.ensures ∙ direct-none _ _ _ _ _ _ c.if-form-ne-DW_FORM_indirect.true c.value.ensures c.in_err-field.was

pub returns-then-form-ne-DW_FORM_indirect : goal.returns-then-form-ne-DW_FORM_indirect
returns-then-form-ne-DW_FORM_indirect c = direct-read _ _ _ _ _ _ _ c.if-form-ne-DW_FORM_indirect.true c.value.ensures c.in_ok-field.was

pub returns-in_err-found : goal.returns-in_err-found
returns-in_err-found c = c.from_residual-in_err-found.ensures ∙ forms-none _ _ _ _ _ _ c.if-form-ne-DW_FORM_indirect.false c.forms.ensures c.in_err-found.was

pub returns-in_err-field-2 : goal.returns-in_err-field-2
returns-in_err-field-2 c = c.from_residual-in_err-field-2.ensures
    ∙ indirect-none _ _ _ _ _ _ c.if-form-ne-DW_FORM_indirect.false c.forms.ensures _ _ c.in_ok-found.was _ c.value-2.ensures c.in_err-field-2.was

pub returns : goal.returns
returns c = indirect-read _ _ _ _ _ _ c.if-form-ne-DW_FORM_indirect.false c.forms.ensures _ _ c.in_ok-found.was _ c.value-2.ensures _ c.in_ok-field-2.was
