-- `gather` meets its contract. The invariant: the slots hold the declarations before this place, as far as there is room. Assumes nothing.
use Prim.Native.Nat.{◌-◌}
use lib.ListN.{length}
use Rattle.readers.proofs.Declarations.{Gathering}
use Rattle.readers.proofs.abbreviations.gather.Given as goal

abbrev pub invariant-loop-next : goal.invariant-loop-next
invariant-loop-next l = Gathering l.s l.start l.initial.index l.index l.c.at l.count

abbrev pub decreases-loop-next : goal.decreases-loop-next
decreases-loop-next l = length l.s - l.c.at
