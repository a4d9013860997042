-- `location_expr_live` answers by the operations. The invariant: the answer is that from here on, with the flag so far. Assumes nothing.
use mathlib.Core.Path.{◌≡◌}
use Prim.Native.Nat.{◌-◌}
use lib.ListN.{length}
use Rattle.marking.specs.Roots.{location_live}
use Rattle.marking.proofs.Lists.{location_from}
use Rattle.marking.proofs.root_test.location_expr_live.Given as goal

abbrev pub invariant-loop-c : goal.invariant-loop-c
invariant-loop-c l = location_live l.e l.fixed_addresses l.table l.s ≡ location_from l.e l.fixed_addresses l.table l.s l.c.at l.live

abbrev pub decreases-loop-c : goal.decreases-loop-c
decreases-loop-c l = length l.s - l.c.at
