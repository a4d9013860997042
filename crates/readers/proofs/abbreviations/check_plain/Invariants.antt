-- `check_plain` meets its contract. The invariant: the declarations before this place have no code twice. Assumes nothing.
use Prim.Native.Nat.{◌-◌}
use lib.ListN.{length}
use Rattle.readers.proofs.Declarations.{Checking}
use Rattle.readers.proofs.abbreviations.check_plain.Given as goal

abbrev pub invariant-loop-d : goal.invariant-loop-d
invariant-loop-d l = Checking l.s l.start l.c.at

abbrev pub decreases-loop-d : goal.decreases-loop-d
decreases-loop-d l = length l.s - l.c.at
