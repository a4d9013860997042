-- `one_operand` meets its contract. Assumes nothing.
use mathlib.Core.Path.{◌∙◌}
use Rattle.readers.proofs.ShortRows.{operand_read, operand-unread}
use Rattle.readers.proofs.operations.one_operand.Goals as goal

pub returns : goal.returns
returns c = operand_read _ _ _ c.in_ok-first.was

pub returns-in_err-first : goal.returns-in_err-first
returns-in_err-first c = c.from_residual.ensures ∙ operand-unread _ _ c.in_err-first.was
