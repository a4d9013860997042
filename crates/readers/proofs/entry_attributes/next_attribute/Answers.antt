-- `next_attribute` answers by what is read of the specification and of the value. Assumes nothing.
use mathlib.Core.Path.{ap, ◌∙◌}
use Rattle.std.specs.Prelude.{Some}
use Rattle.readers.proofs.EntryAttributes.{taken_none, taken_more, taken-last, taken-bad}
use Rattle.readers.proofs.entry_attributes.next_attribute.Goals as goal

pub returns-in_err-a : goal.returns-in_err-a
returns-in_err-a c = c.from_residual.ensures ∙ taken-bad _ _ _ _ _ _ c.attribute_spec.ensures c.in_err-a.was

pub returns-in_err-value-in-Attribute : goal.returns-in_err-value-in-Attribute
returns-in_err-value-in-Attribute c = c.from_residual-in_err-value-in-Attribute.ensures
    ∙ taken_none _ _ _ _ _ _ c.attribute_spec.ensures _ (c.in_ok-a.was ∙ ap Some c.in-Attribute.is) _ c.attribute.ensures c.in_err-value-in-Attribute.was

pub returns-in_ok-value-in-Attribute : goal.returns-in_ok-value-in-Attribute
returns-in_ok-value-in-Attribute c = taken_more _ _ _ _ _ _ c.attribute_spec.ensures _ (c.in_ok-a.was ∙ ap Some c.in-Attribute.is) _ c.attribute.ensures
    _ c.in_ok-value-in-Attribute.was _ c.next-values.ensures

pub returns-in-Last : goal.returns-in-Last
returns-in-Last c = taken-last _ _ _ _ _ _ c.attribute_spec.ensures _ (c.in_ok-a.was ∙ ap Some c.in-Last.is)
