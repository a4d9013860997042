-- `clear_columns` clears one column after the other. Assumes nothing.
use Rattle.marking.proofs.analysis.clear_columns.Goals as goal

pub returns : goal.returns
returns c = (
  c.clear.ensures,
  (
    c.clear-2.ensures,
    (
      c.clear_bytes.ensures,
      (
        c.clear-3.ensures,
        c.clear-4.ensures,
      ),
    ),
  ),
)
