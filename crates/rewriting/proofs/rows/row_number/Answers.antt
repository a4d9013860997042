-- `row_number` meets its contract: a row that is there is in the table, so nothing wraps.
use native.Mathlib.Omega.{arith}
use Rattle.rewriting.proofs.ListPass.Tables.{there-row, no_row, row_inside}
use Rattle.rewriting.proofs.WritePass.Putting.{big-endian-there}
use Rattle.rewriting.proofs.rows.row_number.Goals as goal

pub returns-then-i-table : goal.returns-then-i-table
returns-then-i-table c = no_row _ _ _ _ _ c.if-i-table.true

pub returns : goal.returns
returns c = there-row _ _ _ _ _ _ c.if-i-table.false
    (big-endian-there _ _ _ _ c.big_endian_at.ensures (omega arith) (omega (arith, row_inside _ _ _ c.if-i-table.false (omega arith))))
