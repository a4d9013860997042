-- `is_leb`: by each form that is so. Assumes nothing.
use mathlib.Core.Path.{◌≡◌}
use mathlib.Core.Bool.{true}
use mathlib.Core.Logic.{⊎_elim}
use lib.Dec.{eqb}
use borrow.Author.Tests.{eqb-true}
use Rattle.rewriting.proofs.WritePass.FormKinds.{leb-reference, leb-string, leb-location, leb-range, leb-last}
use Rattle.rewriting.proofs.emit_entry.is_leb.Goals as goal
use Rattle.rewriting.proofs.emit_entry.is_leb.Goals.{then-form-eq-DW_FORM_loclistx, else-form-eq-DW_FORM_loclistx}

pub returns-then-form-eq-DW_FORM_rnglistx : goal.returns-then-form-eq-DW_FORM_rnglistx
returns-then-form-eq-DW_FORM_rnglistx c =
    let f = c.args.form in
    elim c.if-form-eq-DW_FORM_loclistx.branch [
      | then-form-eq-DW_FORM_loclistx w ↦ cc (⊎_elim (leb-reference f) (λ h. ⊎_elim (λ k. leb-string f k.1) (λ k. leb-location f k.2) h) w.if-form-eq-DW_FORM_loclistx.either)
      | else-form-eq-DW_FORM_loclistx w ↦ (let q : eqb f 0x23 ≡ true = cc in cc (leb-range f (eqb-true f 0x23 q)))
    ]

pub returns-else-form-eq-DW_FORM_rnglistx : goal.returns-else-form-eq-DW_FORM_rnglistx
returns-else-form-eq-DW_FORM_rnglistx c = let h = c.if-form-eq-DW_FORM_rnglistx.false in leb-last _ h.0 h.1 h.2 h.3
