-- `number_field` meets its contract.
use mathlib.Core.Path.{◌∙◌}
use Rattle.readers.proofs.Tokens.{number_read, number-unread}
use Rattle.readers.proofs.fields.number_field.Goals as goal

pub returns : goal.returns
returns c = number_read _ _ _ _ c.in_ok-value.was

pub returns-in_err-value : goal.returns-in_err-value
returns-in_err-value c = c.from_residual.ensures ∙ number-unread _ _ c.in_err-value.was
