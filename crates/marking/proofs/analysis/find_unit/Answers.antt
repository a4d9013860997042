-- `find_unit` answers by the header and the check of the declarations. Assumes nothing.
use Rattle.std.specs.Prelude.{Ok}
use mathlib.Core.Path.{sym, ◌∙◌, ap}
use Rattle.readers.proofs.Refusing.{passed-on}
use Rattle.marking.specs.Inner.Columns.{unit_checked}
use Rattle.marking.proofs.UnitAnalyses.{found_none, found-refused, found-checked}
use Rattle.marking.proofs.analysis.find_unit.Goals as goal

pub returns-in_err-check_abbreviations-in-Some : goal.returns-in_err-check_abbreviations-in-Some
unfolding unit_checked
returns-in_err-check_abbreviations-in-Some c =
    let q = found-checked _ _ _ (c.in-Ok.is ∙ ap Ok c.in-Some.is) _
    (sym c.check_abbreviations.ensures.answer ∙ c.in_err-check_abbreviations-in-Some.was)
    _ _ c.clear.auto.table _ c.check_abbreviations.ensures.filled in
    (passed-on _ _ c.from_residual.ensures.1 ∙ q.0, q.1)

pub returns-in-None : goal.returns-in-None
returns-in-None c = found_none _ _ (c.in-Ok.is ∙ ap Ok c.in-None.is) _ _ c.clear.ensures

pub returns-in-Err : goal.returns-in-Err
returns-in-Err c = found-refused _ _ _ c.in-Err.is _ _ c.clear.ensures

pub returns-in_ok-check_abbreviations-in-Some : goal.returns-in_ok-check_abbreviations-in-Some
unfolding unit_checked
returns-in_ok-check_abbreviations-in-Some c = found-checked _ _ _ (c.in-Ok.is ∙ ap Ok c.in-Some.is) _
    (sym c.check_abbreviations.ensures.answer ∙ c.in_ok-check_abbreviations-in-Some.was)
    _ _ c.clear.auto.table _ c.check_abbreviations.ensures.filled
