-- `guess` is safe: the place is inside the offsets. Assumes nothing.
use Prim.Native.Nat.{◌<◌}
use lib.ListN.{length}
use Rattle.marking.proofs.units.guess.Given as goal

abbrev pub invariant-loop : goal.invariant-loop
invariant-loop l = l.i < length l.offsets
