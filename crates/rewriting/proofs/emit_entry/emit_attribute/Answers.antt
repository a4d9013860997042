-- `emit_attribute`: by the form. Assumes nothing.
use mathlib.Core.Path.{◌≡◌, refl, ◌∙◌}
use mathlib.Core.Logic.{⊎_elim}
use native.Mathlib.Omega.{arith}
use Rattle.marking.proofs.AttributeScans.{form-below, form-above}
use Rattle.readers.proofs.FormKinds.{number-some, number-none}
use Rattle.rewriting.proofs.MapPass.Exact.{are-bytes}
use Rattle.rewriting.proofs.WritePass.Emissions.{from_start, within_on, within-after, inside, copied-front, copied-within, copied_on, emits-on, after_small, emits-after}
use Rattle.rewriting.proofs.WritePass.AttributeEmits.{attribute-expression, attribute-sibling, attribute-reference, attribute-ranges, attribute-locations, attribute-strings, attribute-copied}
use Rattle.rewriting.proofs.emit_entry.emit_attribute.Goals as goal
use Rattle.rewriting.proofs.emit_entry.emit_attribute.Goals.{then-a-eq-DW_AT_sibling, else-a-eq-DW_AT_sibling, in-Ranges, in-Locations, in-Strings}

pub slice_bounds-part-count : goal.slice_bounds-part-count
slice_bounds-part-count c = omega (arith, inside _ _ _ (copied-within _ _ _ _ c.emit_bytes-to.ensures.count c.emit_bytes-to.ensures.part))

pub slice_bounds-part-start : goal.slice_bounds-part-start
slice_bounds-part-start c = omega (arith, inside _ _ _ (copied-within _ _ _ _ c.emit_bytes-to.ensures.count c.emit_bytes-to.ensures.part))

pub returns-then-form-eq-DW_FORM_exprloc : goal.returns-then-form-eq-DW_FORM_exprloc
returns-then-form-eq-DW_FORM_exprloc c = record {
  within = within-after _ _ _ (copied-within _ _ _ _ c.emit_bytes-to.ensures.count c.emit_bytes-to.ensures.part) _ _ c.emit_expression.ensures.within _ c.after.ensures;
  bytes = λ lists ps rs rest m n w lent i a d. emits-after c.after.ensures (attribute-expression _ _ _ _ _ _ (are-bytes c.args.unit.now c.type_inv.unit) i a rs rest d _ _ _ _ (λ _ _. copied-front _ _ _ _ c.emit_bytes-to.ensures.count c.emit_bytes-to.ensures.part _ c.bytes_between.ensures) lists ps _ c.if-form-eq-DW_FORM_exprloc.true _ c.expression.ensures _ _ (λ pieces q. emits-on _ _ _ (copied-within _ _ _ _ c.emit_bytes-to.ensures.count c.emit_bytes-to.ensures.part) (c.emit_expression.ensures.bytes lists ps _ pieces m n q)));
}

pub returns-then-form-le-DW_FORM_ref_udata : goal.returns-then-form-le-DW_FORM_ref_udata
returns-then-form-le-DW_FORM_ref_udata c = record {
  within = within-after _ _ _ (copied-within _ _ _ _ c.emit_bytes-to.ensures.count c.emit_bytes-to.ensures.part) _ _ c.emit_offset.ensures.within _ c.after-then-form-le-DW_FORM_ref_udata.ensures;
  bytes = λ lists ps rs rest m n w lent i a d. elim c.if-a-eq-DW_AT_sibling.branch [
    | then-a-eq-DW_AT_sibling s ↦ emits-after c.after-then-form-le-DW_FORM_ref_udata.ensures (attribute-sibling _ _ _ _ _ _ (are-bytes c.args.unit.now c.type_inv.unit) i a rs rest d _ _ _ _ (λ _ _. copied-front _ _ _ _ c.emit_bytes-to.ensures.count c.emit_bytes-to.ensures.part _ c.bytes_between.ensures) lists ps _ _ c.is_leb-leb.ensures _ c.width.ensures _ _ c.if-form-ge-DW_FORM_ref1.true c.if-form-le-DW_FORM_ref_udata.true s.if-a-eq-DW_AT_sibling.true _ (s.new-is ∙ s.sibling_offset-new.ensures ps m n w) (λ o v x y. emits-on _ _ _ (copied-within _ _ _ _ c.emit_bytes-to.ensures.count c.emit_bytes-to.ensures.part) (c.emit_offset.ensures.bytes o v x y)))
    | else-a-eq-DW_AT_sibling s ↦ emits-after c.after-then-form-le-DW_FORM_ref_udata.ensures (attribute-reference _ _ _ _ _ _ (are-bytes c.args.unit.now c.type_inv.unit) i a rs rest d _ _ _ _ (λ _ _. copied-front _ _ _ _ c.emit_bytes-to.ensures.count c.emit_bytes-to.ensures.part _ c.bytes_between.ensures) lists ps _ _ c.is_leb-leb.ensures _ c.width.ensures _ _ c.if-form-ge-DW_FORM_ref1.true c.if-form-le-DW_FORM_ref_udata.true s.if-a-eq-DW_AT_sibling.false _ (s.new-is ∙ s.hinted_offset-new.ensures ps m n) (λ o v x y. emits-on _ _ _ (copied-within _ _ _ _ c.emit_bytes-to.ensures.count c.emit_bytes-to.ensures.part) (c.emit_offset.ensures.bytes o v x y)))
  ];
}

pub overflow_add-result : goal.overflow_add-result
overflow_add-result c = record { fits = after_small _ _ _ (copied-within _ _ _ _ c.emit_bytes-to.ensures.count c.emit_bytes-to.ensures.part) _ _ (copied-within _ _ _ _ c.emit_bytes-n.ensures.count c.emit_bytes-n.ensures.part) (omega arith) _ refl }

pub returns-in_default : goal.returns-in_default
returns-in_default c =
    let k : c.list_of-list.result ≡ 3 = number-none _ _ c.list.view_is c.in_default.is in
    record {
      within = within_on _ _ _ (copied-within _ _ _ _ c.emit_bytes-to.ensures.count c.emit_bytes-to.ensures.part) _ _ (copied-within _ _ _ _ c.emit_bytes-n.ensures.count c.emit_bytes-n.ensures.part) _ refl;
      bytes = λ lists ps rs rest m n w lent i a d. from_start (attribute-copied _ _ _ _ _ _ (are-bytes c.args.unit.now c.type_inv.unit) i a rs rest d _ _ _ _ (λ _ _. copied-front _ _ _ _ c.emit_bytes-to.ensures.count c.emit_bytes-to.ensures.part _ c.bytes_between.ensures) lists ps _ c.if-form-eq-DW_FORM_exprloc.false (⊎_elim (λ f. form-above _ f.1) (λ f. form-below _ f) c.else-form-ge-DW_FORM_ref1.either) _ c.list_of-list.ensures (λ z. omega arith) (λ z. omega arith) (λ z. omega arith) _ _ (λ _ _. copied_on _ _ _ (copied-within _ _ _ _ c.emit_bytes-to.ensures.count c.emit_bytes-to.ensures.part) _ _ _ c.emit_bytes-n.ensures.count c.emit_bytes-n.ensures.part _ c.bytes_between-in_default.ensures));
    }

pub returns : goal.returns
returns c = record {
  within = within-after _ _ _ (copied-within _ _ _ _ c.emit_bytes-to.ensures.count c.emit_bytes-to.ensures.part) _ _ c.emit_number.ensures.within _ c.after-2.ensures;
  bytes = λ lists ps rs rest m n w lent i a d. elim c.match-kind.branch [
    | in-Ranges s ↦ emits-after c.after-2.ensures (attribute-ranges _ _ _ _ _ _ (are-bytes c.args.unit.now c.type_inv.unit) i a rs rest d _ _ _ _ (λ _ _. copied-front _ _ _ _ c.emit_bytes-to.ensures.count c.emit_bytes-to.ensures.part _ c.bytes_between.ensures) lists ps _ _ c.is_leb-leb.ensures _ c.width-2.ensures _ _ _ _ _ (λ o l. s.index-is ∙ s.new_index-index.ensures o l) _ c.list_of-list.ensures (λ y. emits-on _ _ _ (copied-within _ _ _ _ c.emit_bytes-to.ensures.count c.emit_bytes-to.ensures.part) (c.emit_number.ensures.bytes y)) (number-some _ _ c.list.view_is _ _ c.in-Some.is s.in-Ranges.is) lent.those_ranges)
    | in-Locations s ↦ emits-after c.after-2.ensures (attribute-locations _ _ _ _ _ _ (are-bytes c.args.unit.now c.type_inv.unit) i a rs rest d _ _ _ _ (λ _ _. copied-front _ _ _ _ c.emit_bytes-to.ensures.count c.emit_bytes-to.ensures.part _ c.bytes_between.ensures) lists ps _ _ c.is_leb-leb.ensures _ c.width-2.ensures _ _ _ _ _ (λ o l. s.index-is ∙ s.new_index-index-in-Locations.ensures o l) _ c.list_of-list.ensures (λ y. emits-on _ _ _ (copied-within _ _ _ _ c.emit_bytes-to.ensures.count c.emit_bytes-to.ensures.part) (c.emit_number.ensures.bytes y)) (number-some _ _ c.list.view_is _ _ c.in-Some.is s.in-Locations.is) lent.those_locations)
    | in-Strings s ↦ emits-after c.after-2.ensures (attribute-strings _ _ _ _ _ _ (are-bytes c.args.unit.now c.type_inv.unit) i a rs rest d _ _ _ _ (λ _ _. copied-front _ _ _ _ c.emit_bytes-to.ensures.count c.emit_bytes-to.ensures.part _ c.bytes_between.ensures) lists ps _ _ c.is_leb-leb.ensures _ c.width-2.ensures _ _ _ _ _ (λ o l. s.index-is ∙ s.new_index-index-in-Strings.ensures o l) _ c.list_of-list.ensures (λ y. emits-on _ _ _ (copied-within _ _ _ _ c.emit_bytes-to.ensures.count c.emit_bytes-to.ensures.part) (c.emit_number.ensures.bytes y)) (number-some _ _ c.list.view_is _ _ c.in-Some.is s.in-Strings.is) lent.those_strings)
  ];
}
