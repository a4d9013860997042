-- `fill_runs` is safe and ends. Assumes nothing.
use Prim.Native.Nat.{◌+◌, ◌-◌, ◌<◌}
use Rattle.rewriting.proofs.hints.fill_runs.Given as goal

abbrev pub invariant-loop-at : goal.invariant-loop-at
invariant-loop-at l = l.from < l.at

abbrev pub decreases-loop-at : goal.decreases-loop-at
decreases-loop-at l = (l.count - l.i) + (l.to - l.at)
