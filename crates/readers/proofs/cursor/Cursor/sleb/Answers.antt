-- `Cursor::sleb` meets its contract: one byte that says that none follows, or groups. Assumes nothing.
use native.Mathlib.Omega.{arith}
use Rattle.readers.proofs.Lebs.{sleb-one, sleb-one-minus}
use Rattle.readers.proofs.cursor.Cursor.sleb.Goals as goal

pub returns-then-b-lt64 : goal.returns-then-b-lt64
returns-then-b-lt64 c = sleb-one _ _ c.if-at-s.true (omega arith) c.if-b-lt64.true

pub returns-then-b-lt128 : goal.returns-then-b-lt128
returns-then-b-lt128 c = sleb-one-minus _ _ c.if-at-s.true c.if-b-lt128.true c.if-b-lt64.false
