-- `Cursor::past_attributes` meets its contract. The invariant: past the specifications from here on is past them all. Assumes nothing.
use Prim.Native.Nat.{◌-◌}
use mathlib.Core.Path.{◌≡◌}
use lib.ListN.{length}
use Rattle.readers.specs.Abbreviations.{past_attributes}
use Rattle.readers.proofs.cursor.Cursor.past_attributes.Given as goal

abbrev pub invariant-loop-a : goal.invariant-loop-a
invariant-loop-a l = past_attributes l.s l.initial.c.at ≡ past_attributes l.s l.c.at

abbrev pub decreases-loop-a : goal.decreases-loop-a
decreases-loop-a l = length l.s - l.c.at
