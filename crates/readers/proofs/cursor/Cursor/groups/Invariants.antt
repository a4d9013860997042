-- `Cursor::groups` meets its contract: the loop's invariant is `Reading`. Assumes nothing.
use Rattle.readers.proofs.Lebs.{Reading}
use Rattle.readers.proofs.cursor.Cursor.groups.Given as goal

abbrev pub invariant-loop-k : goal.invariant-loop-k
invariant-loop-k l = Reading l.s l.at l.low l.weight l.k
