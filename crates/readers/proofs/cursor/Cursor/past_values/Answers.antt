-- `Cursor::past_values` meets its contract: whatever was passed, the answer from here on is the whole answer. Each specification takes bytes, so what is
-- left of the abbreviations falls. Assumes nothing.
use Rattle.std.specs.Prelude.{Some}
use mathlib.Core.Path.{ap, refl, sym, ◌∙◌}
use native.Mathlib.Omega.{arith}
use Rattle.readers.proofs.Specs.{attribute-inside}
use Rattle.readers.proofs.Values.{values-past, values-stuck, values-last, values-bad}
use Rattle.readers.proofs.cursor.Cursor.past_values.Goals as goal

pub returns-in_err-past-in-Attribute : goal.returns-in_err-past-in-Attribute
returns-in_err-past-in-Attribute c = c.from_residual-in_err-past-in-Attribute.ensures ∙ values-stuck _ _ _ _ _ _
    (sym c.attribute_spec.ensures ∙ (c.in_ok-a.was ∙ ap Some c.in-Attribute.is))
    _ refl _ c.past_attribute.ensures c.in_err-past-in-Attribute.was
    ∙ sym c.loop-a.invariant

pub loop-a-smaller : goal.loop-a-smaller
loop-a-smaller c = omega (
  arith,
  attribute-inside _ _ _
      (sym c.attribute_spec.ensures ∙ (c.in_ok-a.was ∙ ap Some c.in-Attribute.is)),
)

pub loop-a-preserved : goal.loop-a-preserved
loop-a-preserved c = c.loop-a.invariant
    ∙ values-past _ _ _ _ _ _
    (sym c.attribute_spec.ensures ∙ (c.in_ok-a.was ∙ ap Some c.in-Attribute.is))
    _ refl _ c.past_attribute.ensures _ c.in_ok-past-in-Attribute.was

pub returns-in-Last : goal.returns-in-Last
returns-in-Last c = values-last _ _ _ _ _ _ (sym c.attribute_spec.ensures ∙ (c.in_ok-a.was ∙ ap Some c.in-Last.is)) ∙ sym c.loop-a.invariant

pub returns-in_err-a : goal.returns-in_err-a
returns-in_err-a c = c.from_residual.ensures ∙ values-bad _ _ _ _ _ (sym c.attribute_spec.ensures ∙ c.in_err-a.was) ∙ sym c.loop-a.invariant
