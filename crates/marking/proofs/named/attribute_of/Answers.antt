-- `attribute_of` answers by what is read of the value. Assumes nothing.
use mathlib.Core.Path.{◌∙◌}
use Rattle.marking.proofs.NamedAttributes.{of_none, of-more}
use Rattle.marking.proofs.named.attribute_of.Goals as goal

pub returns-in_err-value : goal.returns-in_err-value
returns-in_err-value c = c.from_residual.ensures ∙ let q = c.in_err-value.was in search of_none

pub returns : goal.returns
returns c = let q = c.in_ok-value.was in search of-more
