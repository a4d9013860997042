-- `mark_with` meets its contract. The loop's invariant: the marks are sound; their sum rises. At the end they are settled. Assumes nothing.
use Prim.Native.Nat.{◌*◌, ◌-◌}
use lib.ListN.{length}
use Rattle.marking.specs.Graph.{graph}
use Rattle.marking.specs.Inner.Passes.{sum, Sound}
use Rattle.marking.proofs.marks.mark_with.Given as goal

abbrev pub invariant-loop : goal.invariant-loop
invariant-loop l = Sound (graph l.parents l.pairs l.roots) l.marks

abbrev pub decreases-loop : goal.decreases-loop
decreases-loop l = 3 * length l.parents - sum l.marks
