-- `first_row` meets its contract: the halving of all rows ends where that of those from low to high does.
use mathlib.Core.Path.{refl}
use native.Mathlib.Omega.{arith}
use Rattle.rewriting.proofs.ListPass.Ranks.{halving-start, halving-right, halving-left, halving-done}
use Rattle.rewriting.proofs.rows.first_row.Goals as goal

pub loop-low-init : goal.loop-low-init
loop-low-init c = halving-start _ _ _ _ _ (omega arith)

pub loop-low-preserved-then-row_number-value : goal.loop-low-preserved-then-row_number-value
loop-low-preserved-then-row_number-value c = halving-right _ _ _ _ _ _ _ _ _ c.loop-low.invariant (omega arith) refl c.row_number.ensures c.if-row_number-value.true

pub loop-low-preserved : goal.loop-low-preserved
loop-low-preserved c = halving-left _ _ _ _ _ _ _ _ _ c.loop-low.invariant (omega arith) refl c.row_number.ensures c.if-row_number-value.false

pub returns : goal.returns
returns c = (halving-done _ _ _ _ _ _ _ c.loop-low.invariant c.loop-low-test.false, λ h. omega (arith, c.loop-low.invariant.order h, c.loop-low.invariant.top))
