-- `table_declares`: what all declarations declare is what those from here on do. Assumes nothing.
use Prim.Native.Nat.{◌-◌}
use lib.ListN.{length}
use Rattle.rewriting.proofs.ListPass.Declaring.{Declaring}
use Rattle.rewriting.proofs.indices.table_declares.Given as goal

abbrev pub invariant-loop-step : goal.invariant-loop-step
invariant-loop-step l = Declaring l.abbreviations l.name l.from l.at.at

abbrev pub decreases-loop-step : goal.decreases-loop-step
decreases-loop-step l = length l.abbreviations - l.at.at
