use Prim.Native.Nat.{◌-◌}
use mathlib.Core.Path.{◌≡◌}
use lib.ListN.{length}
use Rattle.readers.specs.References.{next_reference}
use Rattle.readers.proofs.cursor.Cursor.next_reference.Given as goal

abbrev pub invariant-loop-c : goal.invariant-loop-c
invariant-loop-c l = next_reference l.e l.s l.initial.c.at ≡ next_reference l.e l.s l.c.at

abbrev pub decreases-loop-c : goal.decreases-loop-c
decreases-loop-c l = length l.s - l.c.at
