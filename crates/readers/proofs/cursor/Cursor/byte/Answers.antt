-- `Cursor::byte` meets its contract, whatever the byte order. Assumes nothing.
use mathlib.Core.Path.{sym}
use native.Mathlib.Omega.{arith}
use Rattle.readers.proofs.Widths.{fixed-one, fixed-none}
use Rattle.readers.proofs.cursor.Cursor.byte.Goals as goal

pub returns-then-at-s : goal.returns-then-at-s
returns-then-at-s c = λ big. sym (fixed-one big _ _ (omega arith))

pub returns : goal.returns
returns c = λ big. fixed-none big _ _ (omega arith)
