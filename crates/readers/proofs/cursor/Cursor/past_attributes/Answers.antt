-- `Cursor::past_attributes` meets its contract. The invariant: past the specifications from here on is past them all. Assumes nothing.
use Rattle.std.specs.Prelude.{Some}
use mathlib.Core.Path.{ap, sym, ◌∙◌}
use native.Mathlib.Omega.{arith}
use Rattle.readers.proofs.Specs.{attribute-inside, past_more, past-last, past-bad}
use Rattle.readers.proofs.cursor.Cursor.past_attributes.Goals as goal

pub loop-a-smaller : goal.loop-a-smaller
loop-a-smaller c = omega (arith, attribute-inside _ _ _ (sym c.any_spec.ensures ∙ (c.in_ok-a.was ∙ ap Some c.in-Attribute.is)))

pub loop-a-preserved : goal.loop-a-preserved
loop-a-preserved c = c.loop-a.invariant ∙ past_more _ _ _ (sym c.any_spec.ensures ∙ (c.in_ok-a.was ∙ ap Some c.in-Attribute.is))

pub returns-in-Last : goal.returns-in-Last
returns-in-Last c = past-last _ _ _ (sym c.any_spec.ensures ∙ (c.in_ok-a.was ∙ ap Some c.in-Last.is)) ∙ sym c.loop-a.invariant

pub returns-in_err-a : goal.returns-in_err-a
returns-in_err-a c = c.from_residual.ensures ∙ past-bad _ _ (sym c.any_spec.ensures ∙ c.in_err-a.was) ∙ sym c.loop-a.invariant
