-- `Cursor::number` meets its contract: each kind of number by its method.
use mathlib.Core.Path.{◌∙◌, sym}
use Rattle.readers.proofs.Tokens.{number-fixed, number-address, number-offset, number-leb}
use native.Mathlib.Omega.{arith}
use Rattle.readers.proofs.cursor.Cursor.number.Goals as goal

pub returns-in-0-to-8 : goal.returns-in-0-to-8
returns-in-0-to-8 c = c.fixed.ensures ∙ sym (number-fixed _ _ _ _ (omega arith))

pub returns-in-9 : goal.returns-in-9
returns-in-9 c = c.address.ensures ∙ sym (number-address _ _ _ _ c.in-9.is)

pub returns-in-10 : goal.returns-in-10
returns-in-10 c = c.offset.ensures ∙ sym (number-offset _ _ _ _ c.in-10.is)

pub returns-in_default : goal.returns-in_default
returns-in_default c = c.uleb.ensures ∙ sym (number-leb _ _ _ _ (omega arith))
