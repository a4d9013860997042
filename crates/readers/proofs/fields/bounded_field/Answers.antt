-- `bounded_field` meets its contract.
use mathlib.Core.Path.{◌∙◌}
use Rattle.readers.proofs.Tokens.{bounded-read, bounded-over, bounded-unread}
use Rattle.readers.proofs.fields.bounded_field.Goals as goal

pub returns-then-value-le65535 : goal.returns-then-value-le65535
returns-then-value-le65535 c = bounded-read _ _ _ _ c.in_ok-value.was c.if-value-le65535.true

pub returns-else-value-le65535 : goal.returns-else-value-le65535
returns-else-value-le65535 c = bounded-over _ _ _ _ c.in_ok-value.was c.if-value-le65535.false

pub returns-in_err-value : goal.returns-in_err-value
returns-in_err-value c = c.from_residual.ensures ∙ bounded-unread _ _ c.in_err-value.was
