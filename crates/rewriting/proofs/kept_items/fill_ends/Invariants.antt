-- `fill_ends`: what the column will hold from here on makes it hold all. Assumes nothing.
use Prim.Native.Nat.{◌-◌}
use lib.ListN.{length}
use Rattle.rewriting.proofs.KeptPass.EndsFilled.{Ending}
use Rattle.rewriting.proofs.kept_items.fill_ends.Given as goal

abbrev pub invariant-loop-step : goal.invariant-loop-step
invariant-loop-step l = Ending l.r l.abbreviations l.index l.unit l.initial.at.at l.initial.ends l.ends l.at.at l.count.0

abbrev pub decreases-loop-step : goal.decreases-loop-step
decreases-loop-step l = length l.unit - l.at.at
