-- `Cursor::four` meets its contract, in either byte order. Assumes nothing.
use mathlib.Core.Path.{sym, ◌∙◌}
use native.Mathlib.Omega.{arith}
use Rattle.readers.proofs.Widths.{fixed-short, four-little, four-big}
use Rattle.readers.proofs.cursor.Cursor.four.Goals as goal
use Rattle.readers.proofs.cursor.Cursor.four.Goals.{then-big_endian, else-big_endian}

pub returns-then-left-lt4 : goal.returns-then-left-lt4
returns-then-left-lt4 c = sym (fixed-short _ _ _ _ (omega arith))

pub returns : goal.returns
returns c =
    elim c.if-big_endian.branch [
      | then-big_endian w ↦ four-big _ _ (omega arith) _ _ w.if-big_endian.true (c.from.ensures ∙ w.value-is ∙ w.from_be_bytes-value.ensures)
      | else-big_endian w ↦ four-little _ _ (omega arith) _ _ w.if-big_endian.false (c.from.ensures ∙ w.value-is ∙ w.from_le_bytes-value.ensures)
    ]
