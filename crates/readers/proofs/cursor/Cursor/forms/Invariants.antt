-- `Cursor::forms` meets its contract: whatever was passed, the answer from here on is the whole answer. Each number takes bytes, so what is left falls.
use mathlib.Core.Path.{◌≡◌}
use Prim.Native.Nat.{◌-◌}
use lib.ListN.{length}
use Rattle.readers.specs.Cursors.{forms_at}
use Rattle.readers.proofs.cursor.Cursor.forms.Given as goal

abbrev pub invariant-loop-form : goal.invariant-loop-form
invariant-loop-form l = forms_at l.s l.initial.c.at ≡ forms_at l.s l.c.at

abbrev pub decreases-loop-form : goal.decreases-loop-form
decreases-loop-form l = length l.s - l.c.at
