-- `past_value` meets its contract. Assumes nothing.
use mathlib.Core.Path.{ap, ◌∙◌}
use Rattle.std.specs.Prelude.{Some}
use Rattle.readers.proofs.Values.{end_read, end_none}
use Rattle.readers.proofs.attributes.past_value.Goals as goal

pub returns : goal.returns
returns c = ap Some c.next.ensures ∙ end_read _ _ c.in_ok-a.was

pub returns-in_err-a : goal.returns-in_err-a
returns-in_err-a c = c.from_residual.ensures ∙ end_none _ c.in_err-a.was
