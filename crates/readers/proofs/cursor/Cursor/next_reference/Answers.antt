use mathlib.Core.Path.{◌∙◌}
use Rattle.readers.proofs.Yields.{onward-end, onward-none, onward-entry, less-entry, less-next, onward-own, onward-pass}
use Rattle.readers.proofs.cursor.Cursor.next_reference.Goals as goal

pub returns-in_err-op : goal.returns-in_err-op
returns-in_err-op c = c.from_residual.ensures ∙ onward-none _ _ _ _ c.loop-c.invariant c.loop-c-test.true _ c.operation.ensures c.in_err-op.was

pub loop-c-smaller-then-row-eq-ROW_EXPRESSION : goal.loop-c-smaller-then-row-eq-ROW_EXPRESSION
loop-c-smaller-then-row-eq-ROW_EXPRESSION c = less-entry _ _ _ _ c.loop-c.invariant c.loop-c-test.true _ c.operation.ensures _ c.in_ok-op.was

pub loop-c-preserved-then-row-eq-ROW_EXPRESSION : goal.loop-c-preserved-then-row-eq-ROW_EXPRESSION
loop-c-preserved-then-row-eq-ROW_EXPRESSION c = onward-entry _ _ _ _ c.loop-c.invariant c.loop-c-test.true _ c.operation.ensures _ c.in_ok-op.was c.if-row-eq-ROW_EXPRESSION.true

pub returns-in-Some : goal.returns-in-Some
returns-in-Some c = onward-own _ _ _ _ c.loop-c.invariant c.loop-c-test.true _ c.operation.ensures _ c.in_ok-op.was c.if-row-eq-ROW_EXPRESSION.false _ c.reference_of.ensures _ c.in-Some.is

pub loop-c-smaller : goal.loop-c-smaller
loop-c-smaller c = less-next _ _ _ _ c.loop-c.invariant c.loop-c-test.true _ c.operation.ensures _ c.in_ok-op.was

pub loop-c-preserved : goal.loop-c-preserved
loop-c-preserved c = onward-pass _ _ _ _ c.loop-c.invariant c.loop-c-test.true _ c.operation.ensures _ c.in_ok-op.was c.if-row-eq-ROW_EXPRESSION.false _ c.reference_of.ensures c.in-None.is

pub returns : goal.returns
returns c = onward-end _ _ _ _ c.loop-c.invariant c.loop-c-test.false
