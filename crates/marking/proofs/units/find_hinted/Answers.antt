-- `find_hinted`: a hint that holds is the entry, since the offsets ascend; else it is searched. Assumes nothing.
use native.Mathlib.Omega.{arith}
use Rattle.marking.proofs.Searches.{entry-at}
use Rattle.marking.proofs.units.find_hinted.Goals as goal

pub returns-then-offsets-i : goal.returns-then-offsets-i
returns-then-offsets-i c = entry-at _ _ c.requires _ (omega arith) c.if-offsets-i.true
