-- `head_in_lem` meets its contract. Assumes nothing.
use Rattle.std.specs.Prelude.{Some}
use mathlib.Core.Path.{ap, sym, ◌∙◌}
use Rattle.readers.specs.Abbreviations.{declaration_found}
use Rattle.readers.proofs.Declarations.{head_in_lem}
use Rattle.readers.proofs.abbreviations.head_in.Goals as goal

pub returns-in-Declaration : goal.returns-in-Declaration
unfolding declaration_found
returns-in-Declaration c = head_in_lem _ _ _ c.number_before-at.ensures _ (sym c.head.ensures ∙ (c.in_ok-d.was ∙ ap Some c.in-Declaration.is))

pub returns-in-Last : goal.returns-in-Last
unfolding declaration_found
returns-in-Last c = head_in_lem _ _ _ c.number_before-at.ensures _ (sym c.head.ensures ∙ (c.in_ok-d.was ∙ ap Some c.in-Last.is))

pub returns-in_err-d : goal.returns-in_err-d
unfolding declaration_found
returns-in_err-d c = c.from_residual.ensures ∙ head_in_lem _ _ _ c.number_before-at.ensures _ (sym c.head.ensures ∙ c.in_err-d.was)
