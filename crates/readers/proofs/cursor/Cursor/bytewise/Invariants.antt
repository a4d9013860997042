-- `Cursor::bytewise` meets its contract. The invariant: the value is that of the bytes that were read, the most significant ones of the number.
use Rattle.readers.proofs.Widths.{Partial}
use Rattle.readers.proofs.cursor.Cursor.bytewise.Given as goal

abbrev pub invariant-loop-i : goal.invariant-loop-i
invariant-loop-i l = Partial l.big_endian l.width l.s l.at l.value l.i
