-- `block_field` meets its contract.
use mathlib.Core.Path.{◌∙◌}
use Rattle.readers.proofs.Tokens.{block_read, block-over, block-unread}
use native.Mathlib.Omega.{arith}
use Rattle.readers.proofs.fields.block_field.Goals as goal

pub returns-then-length-left : goal.returns-then-length-left
returns-then-length-left c = block_read _ _ _ _ c.in_ok-length.was (omega arith)

pub returns-else-length-left : goal.returns-else-length-left
returns-else-length-left c = block-over _ _ _ _ c.in_ok-length.was (omega arith)

pub returns-in_err-length : goal.returns-in_err-length
returns-in_err-length c = c.from_residual.ensures ∙ block-unread _ _ c.in_err-length.was
