-- `scan_attribute`: by the name and the form. Assumes nothing.
use Rattle.marking.proofs.AttributeScans.{form-below, form-above, attribute-sibling, attribute-absolute, attribute-expression, attribute-reference, attribute-other, attribute-index, attribute-offset, attribute-plain}
use Rattle.marking.proofs.references.scan_attribute.Goals as goal
use Rattle.marking.proofs.references.scan_attribute.Goals.{else-form-ge-DW_FORM_ref1-via-then-form-ge-DW_FORM_ref1+else-form-le-DW_FORM_ref_udata, else-form-ge-DW_FORM_ref1-via-else-form-ge-DW_FORM_ref1}

pub returns-then-a-eq-DW_AT_sibling : goal.returns-then-a-eq-DW_AT_sibling
returns-then-a-eq-DW_AT_sibling c = attribute-sibling _ _ _ _ _ c.if-a-eq-DW_AT_sibling.true

pub returns-then-a-eq-DW_FORM_ref_addr : goal.returns-then-a-eq-DW_FORM_ref_addr
returns-then-a-eq-DW_FORM_ref_addr c = attribute-absolute _ _ _ _ _ c.if-a-eq-DW_AT_sibling.false c.if-a-eq-DW_FORM_ref_addr.true

pub returns-then-form-eq-DW_FORM_exprloc : goal.returns-then-form-eq-DW_FORM_exprloc
returns-then-form-eq-DW_FORM_exprloc c = attribute-expression _ _ _ _ _ c.if-a-eq-DW_AT_sibling.false c.if-a-eq-DW_FORM_ref_addr.false c.if-form-eq-DW_FORM_exprloc.true _ c.expression.ensures _ _ c.scan_expression.ensures

pub returns-then-form-le-DW_FORM_ref_udata : goal.returns-then-form-le-DW_FORM_ref_udata
returns-then-form-le-DW_FORM_ref_udata c = attribute-reference _ _ _ _ _ c.if-a-eq-DW_AT_sibling.false c.if-a-eq-DW_FORM_ref_addr.false c.if-form-ge-DW_FORM_ref1.true c.if-form-le-DW_FORM_ref_udata.true _ _ (c.put.ensures.place, c.put.ensures.table)

pub returns-then-a-ne-DW_AT_location : goal.returns-then-a-ne-DW_AT_location
returns-then-a-ne-DW_AT_location c = attribute-other _ _ _ _ _ c.if-a-eq-DW_AT_sibling.false c.if-a-eq-DW_FORM_ref_addr.false c.if-form-eq-DW_FORM_exprloc.false (elim c.else-form-ge-DW_FORM_ref1.branch [ else-form-ge-DW_FORM_ref1-via-then-form-ge-DW_FORM_ref1+else-form-le-DW_FORM_ref_udata w ↦ form-above _ w.if-form-le-DW_FORM_ref_udata.false | else-form-ge-DW_FORM_ref1-via-else-form-ge-DW_FORM_ref1 w ↦ form-below _ w.if-form-ge-DW_FORM_ref1.false ]) c.if-a-ne-DW_AT_location.true

pub returns-then-form-eq-DW_FORM_loclistx : goal.returns-then-form-eq-DW_FORM_loclistx
returns-then-form-eq-DW_FORM_loclistx c = attribute-index _ _ _ _ _ c.if-a-eq-DW_AT_sibling.false c.if-a-eq-DW_FORM_ref_addr.false c.if-form-eq-DW_FORM_exprloc.false (elim c.else-form-ge-DW_FORM_ref1.branch [ else-form-ge-DW_FORM_ref1-via-then-form-ge-DW_FORM_ref1+else-form-le-DW_FORM_ref_udata w ↦ form-above _ w.if-form-le-DW_FORM_ref_udata.false | else-form-ge-DW_FORM_ref1-via-else-form-ge-DW_FORM_ref1 w ↦ form-below _ w.if-form-ge-DW_FORM_ref1.false ]) c.if-a-ne-DW_AT_location.false _ _ _ c.scan_loclist_at.ensures c.if-form-eq-DW_FORM_loclistx.true c.list_offset.ensures

pub returns-then-form-eq-DW_FORM_sec_offset : goal.returns-then-form-eq-DW_FORM_sec_offset
returns-then-form-eq-DW_FORM_sec_offset c = attribute-offset _ _ _ _ _ c.if-a-eq-DW_AT_sibling.false c.if-a-eq-DW_FORM_ref_addr.false c.if-form-eq-DW_FORM_exprloc.false (elim c.else-form-ge-DW_FORM_ref1.branch [ else-form-ge-DW_FORM_ref1-via-then-form-ge-DW_FORM_ref1+else-form-le-DW_FORM_ref_udata w ↦ form-above _ w.if-form-le-DW_FORM_ref_udata.false | else-form-ge-DW_FORM_ref1-via-else-form-ge-DW_FORM_ref1 w ↦ form-below _ w.if-form-ge-DW_FORM_ref1.false ]) c.if-a-ne-DW_AT_location.false _ _ _ c.scan_loclist_at-then-form-eq-DW_FORM_sec_offset.ensures c.if-form-eq-DW_FORM_loclistx.false c.if-form-eq-DW_FORM_sec_offset.true c.list_start.ensures

pub returns : goal.returns
returns c = attribute-plain _ _ _ _ _ c.if-a-eq-DW_AT_sibling.false c.if-a-eq-DW_FORM_ref_addr.false c.if-form-eq-DW_FORM_exprloc.false (elim c.else-form-ge-DW_FORM_ref1.branch [ else-form-ge-DW_FORM_ref1-via-then-form-ge-DW_FORM_ref1+else-form-le-DW_FORM_ref_udata w ↦ form-above _ w.if-form-le-DW_FORM_ref_udata.false | else-form-ge-DW_FORM_ref1-via-else-form-ge-DW_FORM_ref1 w ↦ form-below _ w.if-form-ge-DW_FORM_ref1.false ]) c.if-a-ne-DW_AT_location.false c.if-form-eq-DW_FORM_loclistx.false c.if-form-eq-DW_FORM_sec_offset.false
