-- `descend` meets its contract: the marks so far are sound where those at the start were. Assumes nothing.
use Prim.Native.Nat.{◌≤◌, ◌-◌}
use mathlib.Core.Path.{◌≡◌}
use lib.ListN.{length}
use Rattle.marking.specs.Inner.Passes.{WithParents, Spread}
use Rattle.marking.proofs.spread.descend.Given as goal

abbrev pub invariant-loop-k : goal.invariant-loop-k
invariant-loop-k l = (l.end.0 ≤ length l.initial.marks) × (l.k.0 ≤ l.end.0) × (length l.marks ≡ length l.initial.marks) × (length l.work ≡ length l.initial.work) × Spread (WithParents l.parents) l.initial.marks l.marks

abbrev pub decreases-loop-k : goal.decreases-loop-k
decreases-loop-k l = l.end.0 - l.k.0
