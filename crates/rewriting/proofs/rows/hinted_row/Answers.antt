-- `hinted_row` meets its contract: what it reads at a row and before it shows the rank, whatever the guess was.
use native.Mathlib.Omega.{arith}
use Rattle.rewriting.proofs.ListPass.Ranks.{rank-here, rank-first, rank_between, rank-halved}
use Rattle.rewriting.proofs.rows.hinted_row.Goals as goal
use Rattle.rewriting.proofs.rows.hinted_row.Goals.{then-i-eq0-via-then-i-eq0, then-i-eq0-via-else-i-eq0+then-row_number-value}

pub returns-then-number-value : goal.returns-then-number-value
returns-then-number-value c = λ xs f e is. rank-here _ _ xs f _ e is _ _ (omega arith) c.row_number-number.ensures c.if-number-value.true

pub returns-then-i-eq0 : goal.returns-then-i-eq0
returns-then-i-eq0 c = λ xs f e is.
    elim c.then-i-eq0.branch [
      | then-i-eq0-via-then-i-eq0 w ↦ rank-first _ _ xs f _ e is _ _ (omega arith) w.if-i-eq0.true c.row_number-number.ensures c.if-number-value-2.true
      | then-i-eq0-via-else-i-eq0+then-row_number-value w ↦ rank_between _ _ xs f _ e is _ _ _ (omega arith) c.row_number-number.ensures c.if-number-value-2.true w.row_number.ensures w.if-row_number-value.true
    ]

pub returns : goal.returns
returns c = λ xs f e is. rank-halved _ _ xs f _ e is _ c.first_row.ensures.0
