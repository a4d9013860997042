-- `end_first` meets its contract. Assumes nothing.
use Rattle.marking.proofs.Settled.{end_none, end_live, end_kept}
use Rattle.marking.proofs.marks.end_first.Goals as goal
use Rattle.marking.proofs.marks.end_first.Goals.{then-names_first, else-names_first}

pub returns-after-names_first : goal.returns-after-names_first
returns-after-names_first c =
    elim c.if-names_first.branch [
      | then-names_first w ↦ search end_live
      | else-names_first w ↦ search end_kept
    ]

pub returns-else-marks-gt0 : goal.returns-else-marks-gt0
returns-else-marks-gt0 c = search end_none
