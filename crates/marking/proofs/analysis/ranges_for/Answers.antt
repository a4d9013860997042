-- `ranges_for` chooses by the version. Assumes nothing.
use Rattle.marking.proofs.RangeSections.{debug-ranges-for, rnglists-for}
use Rattle.marking.proofs.analysis.ranges_for.Goals as goal

pub returns-then-e-eq4 : goal.returns-then-e-eq4
returns-then-e-eq4 c = debug-ranges-for _ _ _ c.if-e-eq4.true

pub returns : goal.returns
returns c = rnglists-for _ _ _ c.if-e-eq4.false
