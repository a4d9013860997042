-- `in_version`: by the version, and the forms that are not of every version. Assumes nothing.
use mathlib.Core.Path.{ap, sym, ◌∙◌}
use mathlib.Core.Bool.{not}
use borrow.Author.Tests.{eq-eqb}
use Rattle.readers.proofs.Values.{in_four, out-of-four, in-other}
use Rattle.readers.proofs.attributes.in_version.Goals as goal

pub returns-then-form-ne-DW_FORM_rnglistx : goal.returns-then-form-ne-DW_FORM_rnglistx
returns-then-form-ne-DW_FORM_rnglistx c = sym (in_four _ _ c.if-version-eq4.true c.if-form-ne-DW_FORM_rnglistx.true)

pub returns-else-form-ne-DW_FORM_rnglistx : goal.returns-else-form-ne-DW_FORM_rnglistx
returns-else-form-ne-DW_FORM_rnglistx c = ap not (eq-eqb _ _ c.if-form-ne-DW_FORM_rnglistx.false) ∙ sym (out-of-four _ _ c.if-version-eq4.true c.if-form-ne-DW_FORM_rnglistx.false)

pub returns-else-version-eq4 : goal.returns-else-version-eq4
returns-else-version-eq4 c = sym (in-other _ _ c.if-version-eq4.false)
