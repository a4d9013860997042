-- `past_number` meets its contract. Assumes nothing.
use mathlib.Core.Path.{◌∙◌}
use Rattle.readers.proofs.ShortValues.{number_past, number-nowhere}
use Rattle.readers.proofs.attributes.past_number.Goals as goal

pub returns : goal.returns
returns c = number_past _ _ _ c.in_ok-next.was

pub returns-in_err-next : goal.returns-in_err-next
returns-in_err-next c = c.from_residual.ensures ∙ number-nowhere _ c.in_err-next.was
