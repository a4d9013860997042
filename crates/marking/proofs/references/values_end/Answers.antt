-- `values_end` answers by what the specification there is. Assumes nothing.
use Rattle.std.specs.Prelude.{Some}
use mathlib.Core.Path.{ap, ◌∙◌}
use Rattle.readers.proofs.EntryAttributes.{end_more, end-last, end-bad}
use Rattle.marking.proofs.references.values_end.Goals as goal

pub returns-in-Attribute : goal.returns-in-Attribute
returns-in-Attribute c = let q = c.in_ok-attribute_spec.was ∙ ap Some c.in-Attribute.is in search end_more

pub returns-in-Last : goal.returns-in-Last
returns-in-Last c = let q = c.in_ok-attribute_spec.was ∙ ap Some c.in-Last.is in search end-last

pub returns-in_err-attribute_spec : goal.returns-in_err-attribute_spec
returns-in_err-attribute_spec c = c.from_residual.ensures ∙ let q = c.in_err-attribute_spec.was in search end-bad
