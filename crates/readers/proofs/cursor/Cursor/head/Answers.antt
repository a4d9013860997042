-- `Cursor::head` meets its contract: three bytes that are a code, a tag and a children byte, or numbers. Assumes nothing.
use native.Mathlib.Omega.{arith}
use Rattle.readers.proofs.ShortHeads.{head_plain}
use Rattle.readers.proofs.cursor.Cursor.head.Goals as goal

pub returns-then-plain_head : goal.returns-then-plain_head
returns-then-plain_head c = head_plain _ _ (omega arith) (c.plain_head.ensures c.if-plain_head.true)
