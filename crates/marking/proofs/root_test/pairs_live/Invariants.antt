-- `pairs_live` answers by the list's pairs. The invariant: the answer from the start is the answer from here on. Assumes nothing.
use mathlib.Core.Path.{◌≡◌}
use Prim.Native.Nat.{◌-◌}
use lib.ListN.{length}
use Rattle.marking.specs.Roots.{pairs_live}
use Rattle.std.specs.Prelude.{Some}
use Rattle.marking.proofs.RangePairs.{pairs_from}
use Rattle.marking.proofs.root_test.pairs_live.Given as goal

abbrev pub invariant-loop-c : goal.invariant-loop-c
invariant-loop-c l = pairs_live l.e l.ranges (Some l.initial.c) ≡ pairs_from l.e l.ranges l.c.at l.base_dead

abbrev pub decreases-loop-c : goal.decreases-loop-c
decreases-loop-c l = length l.ranges - l.c.at
