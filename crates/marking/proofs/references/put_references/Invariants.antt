-- `put_references`: the invariant is that what is put, and what is named from here on, is the whole. Assumes nothing.
use Prim.Native.Nat.{◌-◌}
use lib.ListN.{length}
use Rattle.marking.proofs.NextOffsets.{Putting}
use Rattle.marking.proofs.references.put_references.Given as goal

abbrev pub invariant-loop-r : goal.invariant-loop-r
invariant-loop-r l = Putting l.e l.s l.initial.targets l.at l.targets l.c.at l.to

abbrev pub decreases-loop-r : goal.decreases-loop-r
decreases-loop-r l = length l.s - l.c.at
