-- `moved_field` meets its contract.
use mathlib.Core.Path.{◌∙◌}
use Rattle.readers.proofs.Tokens.{moved-read, moved-unread}
use Rattle.readers.proofs.fields.moved_field.Goals as goal

pub returns : goal.returns
returns c = moved-read _ _ _ c.in_ok-next.was

pub returns-in_err-next : goal.returns-in_err-next
returns-in_err-next c = c.from_residual.ensures ∙ moved-unread _ _ c.in_err-next.was
