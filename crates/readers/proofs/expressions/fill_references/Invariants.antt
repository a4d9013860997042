use Prim.Native.Nat.{◌-◌}
use Rattle.readers.proofs.ReferenceTables.{Filling}
use Rattle.readers.proofs.expressions.fill_references.Given as goal

abbrev pub invariant-loop-i : goal.invariant-loop-i
invariant-loop-i l = Filling l.e l.s l.initial.table l.count l.table l.c.at l.i

abbrev pub decreases-loop-i : goal.decreases-loop-i
decreases-loop-i l = l.count - l.i
