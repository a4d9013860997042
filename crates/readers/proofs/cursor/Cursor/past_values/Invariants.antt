-- `Cursor::past_values` meets its contract: whatever was passed, the answer from here on is the whole answer. Each specification takes bytes, so what is
use mathlib.Core.Path.{◌≡◌}
use Prim.Native.Nat.{◌-◌}
use lib.ListN.{length}
use Rattle.readers.specs.Entries.{values_at}
use Rattle.readers.proofs.cursor.Cursor.past_values.Given as goal

abbrev pub invariant-loop-a : goal.invariant-loop-a
invariant-loop-a l = values_at l.e l.abbreviations l.initial.p.at l.unit l.initial.c.at ≡ values_at l.e l.abbreviations l.p.at l.unit l.c.at

abbrev pub decreases-loop-a : goal.decreases-loop-a
decreases-loop-a l = length l.abbreviations - l.p.at
