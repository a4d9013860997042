-- `implicit_spec` meets its contract. Assumes nothing.
use mathlib.Core.Path.{sym, ◌∙◌}
use Rattle.readers.proofs.Specs.{implicit-plain, implicit-none, implicit-value}
use Rattle.readers.proofs.abbreviations.implicit_spec.Goals as goal

pub returns-then-form-ne-DW_FORM_implicit_const : goal.returns-then-form-ne-DW_FORM_implicit_const
returns-then-form-ne-DW_FORM_implicit_const c = implicit-plain _ _ _ _ c.if-form-ne-DW_FORM_implicit_const.true

pub returns-in_err-implicit : goal.returns-in_err-implicit
returns-in_err-implicit c = c.from_residual.ensures ∙ implicit-none _ _ _ _ c.if-form-ne-DW_FORM_implicit_const.false (sym c.sleb.ensures ∙ c.in_err-implicit.was)

pub returns : goal.returns
returns c = implicit-value _ _ _ _ _ _ c.if-form-ne-DW_FORM_implicit_const.false (sym c.sleb.ensures ∙ c.in_ok-implicit.was)
