-- `Cursor::any_spec` meets its contract. Assumes nothing.
use mathlib.Core.Path.{sym, ◌∙◌}
use Rattle.readers.proofs.Specs.{spec-no-name, spec-no-form, spec-last, spec-half, spec-unformed, spec-whole}
use Rattle.readers.proofs.cursor.Cursor.any_spec.Goals as goal
use Rattle.readers.proofs.cursor.Cursor.any_spec.Goals.{then-name-eq0-2-via-then-name-eq0-2, then-name-eq0-2-via-else-name-eq0-2+then-form-eq0-2, else-name-eq0-via-then-name-eq0+else-form-eq0, else-name-eq0-via-else-name-eq0}

pub returns-in_err-name : goal.returns-in_err-name
returns-in_err-name c = c.from_residual.ensures ∙ spec-no-name _ _ (sym c.short.ensures ∙ c.in_err-name.was)

pub returns-in_err-form : goal.returns-in_err-form
returns-in_err-form c = c.from_residual-in_err-form.ensures ∙ spec-no-form _ _ _ _ (sym c.short.ensures ∙ c.in_ok-name.was) (sym c.short-2.ensures ∙ c.in_err-form.was)

pub returns-then-form-eq0 : goal.returns-then-form-eq0
returns-then-form-eq0 c = spec-last _ _ _ _ (sym c.short.ensures ∙ c.in_ok-name.was) _ _ (sym c.short-2.ensures ∙ c.in_ok-form.was) c.if-name-eq0.true c.if-form-eq0.true

pub returns-then-name-eq0-2 : goal.returns-then-name-eq0-2
returns-then-name-eq0-2 c =
    elim c.then-name-eq0-2.branch [
      | then-name-eq0-2-via-then-name-eq0-2 w ↦
          spec-half _ _ _ _ (sym c.short.ensures ∙ c.in_ok-name.was) _ _ (sym c.short-2.ensures ∙ c.in_ok-form.was) w.if-name-eq0-2.true
          (elim c.else-name-eq0.branch [ else-name-eq0-via-then-name-eq0+else-form-eq0 v ↦ v.if-form-eq0.false | else-name-eq0-via-else-name-eq0 v ↦ λ h. absurd (v.if-name-eq0.false w.if-name-eq0-2.true) ])
      | then-name-eq0-2-via-else-name-eq0-2+then-form-eq0-2 w ↦
          spec-unformed _ _ _ _ (sym c.short.ensures ∙ c.in_ok-name.was) _ _ (sym c.short-2.ensures ∙ c.in_ok-form.was) w.if-name-eq0-2.false w.if-form-eq0-2.true
    ]

pub returns : goal.returns
returns c = c.implicit_spec.ensures ∙ spec-whole _ _ _ _ (sym c.short.ensures ∙ c.in_ok-name.was) _ _ (sym c.short-2.ensures ∙ c.in_ok-form.was) c.if-name-eq0-2.false c.if-form-eq0-2.false
