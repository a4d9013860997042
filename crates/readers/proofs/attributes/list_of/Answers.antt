-- `list_of`: by each form that is an index. Assumes nothing.
use native.Mathlib.Omega.{arith}
use Rattle.readers.proofs.FormKinds.{list-ranges, list-locations, list-strings, list-gnu, list-fixed, list-low, list-high}
use Rattle.readers.proofs.attributes.list_of.Goals as goal

pub returns-in-35 : goal.returns-in-35
returns-in-35 c = list-ranges _ c.in-35.is

pub returns-in-34 : goal.returns-in-34
returns-in-34 c = list-locations _ c.in-34.is

pub returns-in-26 : goal.returns-in-26
returns-in-26 c = grind (arith, list-strings, list-gnu, list-fixed)

pub returns-in_default : goal.returns-in_default
returns-in_default c = grind (arith, list-low, list-high)
