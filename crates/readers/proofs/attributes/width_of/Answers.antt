-- `width_of` meets its contract. Assumes nothing.
use native.Mathlib.Omega.{arith}
use Rattle.readers.proofs.ShortValues.{width-bytes, width-address, width-offset}
use Rattle.readers.proofs.attributes.width_of.Goals as goal

pub returns-in-0-to-8 : goal.returns-in-0-to-8
returns-in-0-to-8 c = width-bytes _ _ (omega arith)

pub returns-in-9 : goal.returns-in-9
returns-in-9 c = width-address _ _ c.in-9.is

pub returns-in_default : goal.returns-in_default
returns-in_default c = width-offset _ _ (omega arith) (λ h. omega arith)
