-- `third_operand` meets its contract. Assumes nothing.
use mathlib.Core.Path.{◌∙◌}
use Rattle.readers.proofs.ShortRows.{third-read, third-unread}
use Rattle.readers.proofs.operations.third_operand.Goals as goal

pub returns : goal.returns
returns c = third-read _ _ _ _ _ _ c.in_ok-third.was c.next.ensures

pub returns-in_err-third : goal.returns-in_err-third
returns-in_err-third c = c.from_residual.ensures ∙ third-unread _ _ _ _ c.in_err-third.was
