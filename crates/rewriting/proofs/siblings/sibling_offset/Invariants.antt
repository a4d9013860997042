-- `sibling_offset` meets its contract: the places from the start on are deeper, or over.
use Prim.Native.Nat.{◌-◌}
use Rattle.rewriting.proofs.MapPass.Bounded.{Seeking}
use Rattle.rewriting.proofs.siblings.sibling_offset.Given as goal

abbrev pub invariant-loop-i : goal.invariant-loop-i
invariant-loop-i l = Seeking l.map l.places l.bounds l.fn.old.0 l.depth l.i

abbrev pub decreases-loop-i : goal.decreases-loop-i
decreases-loop-i l = l.places - l.i
