-- `Cursor::string` meets its contract. The invariant: the string from here on ends where the whole one does.
use Rattle.readers.specs.Cursors.{string_at}
use mathlib.Core.Path.{◌≡◌}
use Prim.Native.Nat.{◌-◌}
use lib.ListN.{length}
use Rattle.readers.proofs.cursor.Cursor.string.Given as goal

abbrev pub invariant-loop-at : goal.invariant-loop-at
invariant-loop-at l = string_at l.s l.initial.at ≡ string_at l.s l.at

abbrev pub decreases-loop-at : goal.decreases-loop-at
decreases-loop-at l = length l.s - l.at
