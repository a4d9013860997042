-- `accepted` meets its contract.
use native.Mathlib.Omega.{arith}
use Rattle.collector.proofs.Counting.{uncounted-number, counted-number, uncounted-counts, counted-counts}
use Rattle.collector.proofs.answers.accepted.Goals as goal

pub returns-then-counts-lt-COUNTS : goal.returns-then-counts-lt-COUNTS
returns-then-counts-lt-COUNTS c = record {
  answer = uncounted-number _ _ _ (omega arith);
  counts = λ z. uncounted-counts _ _ _ (omega arith) z;
}

pub returns : goal.returns
returns c = record {
  answer = counted-number _ _ _ (omega arith);
  counts = λ z. counted-counts _ _ _ (omega arith) (c.put_counts.ensures (omega arith) z);
}
