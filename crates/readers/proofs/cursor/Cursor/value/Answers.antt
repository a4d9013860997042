-- `Cursor::value` meets its contract: what is refused is as the definition says, and any other value is read by the token of its form. Assumes nothing.
use mathlib.Core.Path.{◌≡◌, ap, sym, ◌∙◌, subst}
use mathlib.Core.Bool.{true, false}
use lib.Dec.{T}
use Rattle.readers.specs.Fields.{field_at}
use Rattle.readers.proofs.Values.{value-sibling, value-implicit, value-foreign, value-other}
use Rattle.readers.proofs.cursor.Cursor.value.Goals as goal
use Rattle.readers.proofs.cursor.Cursor.value.Goals.{else-name-eq-DW_AT_sibling-via-then-name-eq-DW_AT_sibling+else-form-eq-DW_FORM_exprloc, else-name-eq-DW_AT_sibling-via-else-name-eq-DW_AT_sibling, else-indirect-via-then-indirect+else-form-eq-DW_FORM_implicit_const, else-indirect-via-else-indirect}

pub returns-then-form-eq-DW_FORM_exprloc : goal.returns-then-form-eq-DW_FORM_exprloc
returns-then-form-eq-DW_FORM_exprloc c = search value-sibling

pub returns-then-form-eq-DW_FORM_implicit_const : goal.returns-then-form-eq-DW_FORM_implicit_const
returns-then-form-eq-DW_FORM_implicit_const c = search value-implicit

pub returns-then-not-in_version : goal.returns-then-not-in_version
returns-then-not-in_version c = value-foreign _ _ _ _ _ _ (sym c.in_version.ensures ∙ c.if-not-in_version.true)

pub returns : goal.returns
returns c = c.field.ensures
    ∙ ap (field_at _ _ _) c.form_token.ensures
    ∙ sym (value-other _ _ _ _ _ _ (sym c.in_version.ensures ∙ c.if-not-in_version.false)
    (elim c.else-name-eq-DW_AT_sibling.branch [
      | else-name-eq-DW_AT_sibling-via-then-name-eq-DW_AT_sibling+else-form-eq-DW_FORM_exprloc w ↦ λ h k. w.if-form-eq-DW_FORM_exprloc.false k
      | else-name-eq-DW_AT_sibling-via-else-name-eq-DW_AT_sibling w ↦ λ h k. w.if-name-eq-DW_AT_sibling.false h
    ])
    (elim c.else-indirect.branch [
      | else-indirect-via-then-indirect+else-form-eq-DW_FORM_implicit_const w ↦ λ h k. w.if-form-eq-DW_FORM_implicit_const.false k
      | else-indirect-via-else-indirect w ↦ λ h k. let z : true ≡ false = sym h ∙ w.if-indirect.false in absurd (subst T z tt)
    ]))
