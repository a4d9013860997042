-- `walk_expression` meets its contract: each nested expression is shorter than the one that holds it. Assumes nothing.
use mathlib.Core.Path.{◌∙◌}
use native.Mathlib.Omega.{arith}
use Rattle.readers.proofs.Walks.{walking_start, walking-none, within, part-less, walking-entry, entry-fall, walking-own, own-fall, walking-end}
use Rattle.readers.proofs.OwnReferences.{or-is}
use Rattle.readers.proofs.expressions.+walk_expression.Goals as goal

pub loop-c-init : goal.loop-c-init
loop-c-init t c = walking_start _ _

pub returns-in_err-op : goal.returns-in_err-op
returns-in_err-op t c = c.from_residual.ensures ∙ walking-none _ _ _ _ _ c.loop-c.invariant c.loop-c-test.true _ c.operation.ensures c.in_err-op.was

pub walk_expression-requires : goal.walk_expression-requires
walk_expression-requires t c = (omega (arith, part-less _ _ _ _ _ c.loop-c.invariant c.loop-c-test.true _ c.operation.ensures _ c.in_ok-op.was _ c.expression.ensures), tt)

pub returns-in_err-more : goal.returns-in_err-more
returns-in_err-more t c = c.from_residual-in_err-more.ensures ∙ entry-fall _ _ _ _ _ c.loop-c.invariant c.loop-c-test.true _ c.operation.ensures _ c.in_ok-op.was c.if-row-eq-ROW_EXPRESSION.true _ c.expression.ensures _ c.walk_expression.ensures c.in_err-more.was

pub overflow_add-references : goal.overflow_add-references
overflow_add-references t c = let w = walking-entry _ _ _ _ _ c.loop-c.invariant c.loop-c-test.true _ c.operation.ensures _ c.in_ok-op.was c.if-row-eq-ROW_EXPRESSION.true _ c.expression.ensures _ c.walk_expression.ensures _ _ _ c.in_ok-more.was (or-is _ _) in omega (arith, w.few, w.inside)

pub loop-c-smaller-in_ok-more : goal.loop-c-smaller-in_ok-more
loop-c-smaller-in_ok-more t c = let i = within _ _ _ _ _ c.loop-c.invariant c.loop-c-test.true _ c.operation.ensures _ c.in_ok-op.was in omega (arith, i.0)

pub loop-c-preserved-in_ok-more : goal.loop-c-preserved-in_ok-more
loop-c-preserved-in_ok-more t c = walking-entry _ _ _ _ _ c.loop-c.invariant c.loop-c-test.true _ c.operation.ensures _ c.in_ok-op.was c.if-row-eq-ROW_EXPRESSION.true _ c.expression.ensures _ c.walk_expression.ensures _ _ _ c.in_ok-more.was (or-is _ _)

pub returns-in_err-more-2 : goal.returns-in_err-more-2
returns-in_err-more-2 t c = c.from_residual-in_err-more-2.ensures ∙ own-fall _ _ _ _ _ c.loop-c.invariant c.loop-c-test.true _ c.operation.ensures _ c.in_ok-op.was c.if-row-eq-ROW_EXPRESSION.false _ c.own_walk.ensures c.in_err-more-2.was

pub overflow_add-references-else-row-eq-ROW_EXPRESSION : goal.overflow_add-references-else-row-eq-ROW_EXPRESSION
overflow_add-references-else-row-eq-ROW_EXPRESSION t c = let w = walking-own _ _ _ _ _ c.loop-c.invariant c.loop-c-test.true _ c.operation.ensures _ c.in_ok-op.was c.if-row-eq-ROW_EXPRESSION.false _ c.own_walk.ensures _ _ _ c.in_ok-more-2.was (or-is _ _) in omega (arith, w.few, w.inside)

pub loop-c-smaller : goal.loop-c-smaller
loop-c-smaller t c = let i = within _ _ _ _ _ c.loop-c.invariant c.loop-c-test.true _ c.operation.ensures _ c.in_ok-op.was in omega (arith, i.0)

pub loop-c-preserved : goal.loop-c-preserved
loop-c-preserved t c = walking-own _ _ _ _ _ c.loop-c.invariant c.loop-c-test.true _ c.operation.ensures _ c.in_ok-op.was c.if-row-eq-ROW_EXPRESSION.false _ c.own_walk.ensures _ _ _ c.in_ok-more-2.was (or-is _ _)

pub returns : goal.returns
returns t c = walking-end _ _ _ _ _ c.loop-c.invariant c.loop-c-test.false
