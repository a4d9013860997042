-- `scan_loclist_for_refs`: the invariant is that the whole is what is found from here on, after what is in the table. Assumes nothing.
use Prim.Native.Nat.{◌-◌}
use lib.ListN.{length}
use Rattle.marking.proofs.LocationLists.{Listing}
use Rattle.marking.proofs.references.scan_loclist_for_refs.Given as goal

abbrev pub invariant-loop-x : goal.invariant-loop-x
invariant-loop-x l = Listing l.e l.s l.initial.targets l.initial.c.at l.at l.targets l.c.at l.to

abbrev pub decreases-loop-x : goal.decreases-loop-x
decreases-loop-x l = length l.s - l.c.at
