-- `Cursor::bytes` meets its contract: it goes on where that many bytes are left.
use native.Mathlib.Omega.{arith}
use Rattle.readers.proofs.Widths.{skip-over, skip-to}
use Rattle.readers.proofs.cursor.Cursor.bytes.Goals as goal

pub returns-then-n-left : goal.returns-then-n-left
returns-then-n-left c = skip-over _ _ _ (omega arith)

pub returns : goal.returns
returns c = skip-to _ _ _ (omega arith)
