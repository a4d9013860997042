-- `specs_declare`: what all specifications declare is what those from here on do. Assumes nothing.
use Rattle.std.specs.Prelude.{Some}
use mathlib.Core.Path.{ap, ◌∙◌}
use Rattle.rewriting.proofs.ListPass.Declaring.{specs-last, specs-bad, specs-less, specs-yes, specs-form, specs-name}
use Rattle.rewriting.proofs.indices.specs_declare.Goals as goal
use Rattle.rewriting.proofs.indices.specs_declare.Goals.{else-a-name-via-then-a-name+else-a-eq-DW_FORM_sec_offset, else-a-name-via-else-a-name}

pub returns-then-a-eq-DW_FORM_sec_offset : goal.returns-then-a-eq-DW_FORM_sec_offset
returns-then-a-eq-DW_FORM_sec_offset c = let r = c.in-Some.is ∙ ap Some c.in-Attribute.is in search specs-yes

pub loop-step-smaller : goal.loop-step-smaller
loop-step-smaller c = let r = c.in-Some.is ∙ ap Some c.in-Attribute.is in search specs-less

pub loop-step-preserved : goal.loop-step-preserved
loop-step-preserved c = let r = c.in-Some.is ∙ ap Some c.in-Attribute.is in elim c.else-a-name.branch [
  | else-a-name-via-then-a-name+else-a-eq-DW_FORM_sec_offset w ↦ search specs-form
  | else-a-name-via-else-a-name w ↦ search specs-name
]

pub returns-in-Last : goal.returns-in-Last
returns-in-Last c = let r = c.in-Some.is ∙ ap Some c.in-Last.is in search specs-last

pub returns-in_default : goal.returns-in_default
returns-in_default c = search specs-bad
