-- `first_row` meets its contract: the halving of all rows ends where that of those from low to high does.
use Prim.Native.Nat.{◌-◌}
use Rattle.rewriting.specs.Written.{row_number}
use Rattle.rewriting.proofs.ListPass.Ranks.{Halving}
use Rattle.rewriting.proofs.rows.first_row.Given as goal

abbrev pub invariant-loop-low : goal.invariant-loop-low
invariant-loop-low l = Halving (row_number l.row 0 l.width l.table) l.value (l.to - l.from) l.from l.to l.low l.high

abbrev pub decreases-loop-low : goal.decreases-loop-low
decreases-loop-low l = l.high - l.low
