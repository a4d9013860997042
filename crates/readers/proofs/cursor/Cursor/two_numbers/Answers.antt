-- `Cursor::two_numbers` meets its contract. Assumes nothing.
use mathlib.Core.Path.{◌∙◌}
use Rattle.readers.proofs.ShortRows.{two_none, two-half, two-expression, two-only}
use Rattle.readers.proofs.cursor.Cursor.two_numbers.Goals as goal

pub returns-in_err-a : goal.returns-in_err-a
returns-in_err-a c = λ e. c.from_residual.ensures ∙ two_none e _ _ _ _ _ c.uleb.ensures c.in_err-a.was

pub returns-in_err-b : goal.returns-in_err-b
returns-in_err-b c = λ e. c.from_residual-in_err-b.ensures ∙ two-half e _ _ _ _ _ c.uleb.ensures _ _ c.in_ok-a.was _ c.uleb-2.ensures c.in_err-b.was

pub returns-then-expression : goal.returns-then-expression
returns-then-expression c = λ e. c.third_operand.ensures ∙ two-expression e _ _ _ _ _ c.uleb.ensures _ _ c.in_ok-a.was _ c.uleb-2.ensures _ _ c.in_ok-b.was c.if-expression.true _ c.exprloc.ensures

pub returns : goal.returns
returns c = λ e. c.third_operand-2.ensures ∙ two-only e _ _ _ _ _ c.uleb.ensures _ _ c.in_ok-a.was _ c.uleb-2.ensures _ _ c.in_ok-b.was c.if-expression.false
