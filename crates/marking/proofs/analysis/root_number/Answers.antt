-- `root_number` meets its contract.
use mathlib.Core.Path.{ap, sym}
use Rattle.marking.specs.Inner.Columns.{root_number}
use Rattle.marking.proofs.analysis.root_number.Goals as goal

pub returns-in-Live : goal.returns-in-Live
unfolding root_number
returns-in-Live c = sym (ap root_number c.in-Live.is)

pub returns-in-Dead : goal.returns-in-Dead
unfolding root_number
returns-in-Dead c = sym (ap root_number c.in-Dead.is)
