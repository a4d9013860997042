-- `copies` meets its contract.
use mathlib.Core.Path.{ap, sym, ◌∙◌}
use mathlib.Core.Logic.{⊎_elim}
use native.Mathlib.Omega.{arith}
use mathlib.Core.Bool.{not}
use Rattle.readers.proofs.FormKinds.{number-none, is-none}
use Rattle.marking.proofs.AttributeScans.{form-below, form-above}
use Rattle.rewriting.proofs.emit_entry.copies.Goals as goal

pub returns-then-form-ne-DW_FORM_exprloc : goal.returns-then-form-ne-DW_FORM_exprloc
returns-then-form-ne-DW_FORM_exprloc c = λ q.
    record {
      no_expression = λ z. omega (arith, z);
      no_reference = ⊎_elim (λ h. form-below _ h.0) (λ h. form-above c.args.form (omega arith)) c.if-form-ne-DW_FORM_exprloc.either;
      no_indirect = λ z. omega (arith, z);
      no_index = sym c.list_of.ensures ∙ number-none _ _ c.is_none.view_is (is-none _ (c.is_none-then-form-ne-DW_FORM_exprloc.ensures ∙ ap not q));
    }
