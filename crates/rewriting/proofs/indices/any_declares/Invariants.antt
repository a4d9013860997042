-- `any_declares`: what the items from the start on declare is what those from here on do. Assumes nothing.
use Prim.Native.Nat.{◌-◌}
use lib.ListN.{length}
use Rattle.rewriting.proofs.ListPass.IndexTurns.{SameFrom}
use Rattle.rewriting.proofs.indices.any_declares.Given as goal

abbrev pub invariant-loop-step : goal.invariant-loop-step
invariant-loop-step l = SameFrom l.r l.abbreviations l.index l.unit l.name l.initial.at.at l.at.at

abbrev pub decreases-loop-step : goal.decreases-loop-step
decreases-loop-step l = length l.unit - l.at.at
