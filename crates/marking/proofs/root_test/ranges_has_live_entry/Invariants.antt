-- `ranges_has_live_entry` answers by the list's entries. The invariant: the answer from the start is the answer from here on. Assumes nothing.
use mathlib.Core.Path.{◌≡◌}
use Prim.Native.Nat.{◌-◌}
use lib.ListN.{length}
use Rattle.marking.proofs.Lists.{older_from}
use Rattle.marking.proofs.root_test.ranges_has_live_entry.Given as goal

abbrev pub invariant-loop-x : goal.invariant-loop-x
invariant-loop-x l = older_from l.e l.ranges l.initial.c.at ≡ older_from l.e l.ranges l.c.at

abbrev pub decreases-loop-x : goal.decreases-loop-x
decreases-loop-x l = length l.ranges - l.c.at
