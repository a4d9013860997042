-- `clear_refused` clears the columns after a refusal, and leaves them otherwise. Assumes nothing.
use mathlib.Core.Path.{sym}
use Rattle.marking.proofs.UnitAnalyses.{left-same, left-zeros}
use Rattle.marking.proofs.analysis.clear_refused.Goals as goal

pub returns-in-Ok : goal.returns-in-Ok
returns-in-Ok c = let e = c.in-Ok.is in
    (sym e, (left-same e _, (left-same e _, (left-same e _, (left-same e _, left-same e _)))))

pub returns-in-Err : goal.returns-in-Err
returns-in-Err c = let e = c.in-Err.is in
    let z = c.clear_columns.ensures in (
      sym e,
      (
        left-zeros e _ _ z.0,
        (
          left-zeros e _ _ z.1.0,
          (left-zeros e _ _ z.1.1.0, (left-zeros e _ _ z.1.1.1.0, left-zeros e _ _ z.1.1.1.1)),
        ),
      ),
    )
