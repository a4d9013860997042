-- `next_plan` answers by what is read of the specification, and of the value or of its end. Assumes nothing.
use Rattle.std.specs.Prelude.{Some}
use mathlib.Core.Path.{ap, ◌∙◌}
use Rattle.rewriting.proofs.WritePass.Plans.{plan-last, plan-bad, plan-none, plan-change, plan-nowhere, plan-copy}
use Rattle.rewriting.proofs.emit_entry.next_plan.Goals as goal

pub returns-in_err-a : goal.returns-in_err-a
returns-in_err-a c = rw c.from_residual.ensures (plan-bad _ _ _ _ _ _ c.attribute_spec.ensures c.in_err-a.was)

pub returns-in_default : goal.returns-in_default
returns-in_default c = plan-last _ _ _ _ _ _ c.attribute_spec.ensures _ (c.in_ok-a.was ∙ ap Some c.in_default.is)

pub returns-in_err-past : goal.returns-in_err-past
returns-in_err-past c = rw c.from_residual-in_err-past.ensures (plan-nowhere _ _ _ _ _ _ c.attribute_spec.ensures _ (c.in_ok-a.was ∙ ap Some c.in-Attribute.is) _ c.past_attribute.ensures c.in_err-past.was)

pub returns-then-copies : goal.returns-then-copies
returns-then-copies c = plan-copy _ _ _ _ _ _ c.attribute_spec.ensures _ (c.in_ok-a.was ∙ ap Some c.in-Attribute.is) _ c.past_attribute.ensures _ c.copies.ensures c.if-copies.true _ c.in_ok-past.was

pub returns-in_err-value : goal.returns-in_err-value
returns-in_err-value c = rw c.from_residual-in_err-value.ensures (plan-none _ _ _ _ _ _ c.attribute_spec.ensures _ (c.in_ok-a.was ∙ ap Some c.in-Attribute.is) _ c.attribute.ensures c.in_err-value.was)

pub returns : goal.returns
returns c = plan-change _ _ _ _ _ _ c.attribute_spec.ensures _ (c.in_ok-a.was ∙ ap Some c.in-Attribute.is) _ c.attribute.ensures _ c.in_ok-value.was _ c.next-past.ensures
