-- `past_field` meets its contract. Assumes nothing.
use mathlib.Core.Path.{◌∙◌}
use Rattle.readers.proofs.ShortValues.{field_past, field-nowhere}
use Rattle.readers.proofs.attributes.past_field.Goals as goal

pub returns : goal.returns
returns c = field_past _ _ _ c.in_ok-field.was c.next.ensures

pub returns-in_err-field : goal.returns-in_err-field
returns-in_err-field c = c.from_residual.ensures ∙ field-nowhere _ c.in_err-field.was
