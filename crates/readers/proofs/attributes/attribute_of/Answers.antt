-- `attribute_of` meets its contract. Assumes nothing.
use mathlib.Core.Path.{◌∙◌}
use Rattle.readers.proofs.ShortValues.{value_read, value-unread}
use Rattle.readers.proofs.attributes.attribute_of.Goals as goal

pub returns : goal.returns
returns c = value_read _ _ _ c.in_ok-field.was

pub returns-in_err-field : goal.returns-in_err-field
returns-in_err-field c = c.from_residual.ensures ∙ value-unread _ _ c.in_err-field.was
