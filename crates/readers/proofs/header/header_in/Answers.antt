-- `header_in` meets its contract: the unit is the part of the section that its length says. Assumes nothing.
use mathlib.Core.Path.{sym, ◌∙◌}
use native.Mathlib.Omega.{arith}
use Rattle.readers.proofs.Headers.{in-over, in-there}
use Rattle.readers.proofs.header.header_in.Goals as goal

pub returns-then-unit_length-left : goal.returns-then-unit_length-left
returns-then-unit_length-left c = sym (in-over _ _ _ _ c.length_bytes-from.ensures _ (omega arith))

pub returns : goal.returns
returns c = c.header_fields.ensures ∙ sym (in-there _ _ _ _ c.length_bytes-from.ensures _ (omega arith))
