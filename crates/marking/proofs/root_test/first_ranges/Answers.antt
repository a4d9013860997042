-- `first_ranges` answers by the first ranges. The outer invariant: the answer over all attributes is that over those from here on, and no verdict is found yet.
-- The inner one: the answer of the list from its start is that from its place on. Assumes nothing.
use Rattle.std.specs.Prelude.{Ok, Some}
use Rattle.readers.proofs.Refusing.{refused-none, read_some, passed-on}
use mathlib.Core.Path.{refl, ◌∙◌, ap}
use Rattle.marking.proofs.RootTests.{first-last, first-bad, first-less, first-unpassed, first_past, first-unread, first-form, first-unresolved, first-decided}
use Rattle.marking.proofs.Lists.{range-less, range-on, range-decided, range-refused, range-end, range_none}
use borrow.Author.Rules.{rules}
use Rattle.marking.proofs.root_test.first_ranges.Goals as goal

pub attributes-init : goal.attributes-init
attributes-init c = (refl, refl)

pub returns-then-v-ne-DW_FORM_rnglistx : goal.returns-then-v-ne-DW_FORM_rnglistx
returns-then-v-ne-DW_FORM_rnglistx c = let r = c.in-Some.is ∙ ap Some c.in-Attribute.is in search first-form

pub returns-in_default-list_offset : goal.returns-in_default-list_offset
returns-in_default-list_offset c = let r = c.in-Some.is ∙ ap Some c.in-Attribute.is in search first-unresolved

pub loop-x-init : goal.loop-x-init
loop-x-init c = refl

pub loop-x-smaller : goal.loop-x-smaller
loop-x-smaller c = let s = read_some _ _ _ _ c.ok_or.ensures.value c.in_ok-x-in-Attribute.was ∙ ap Some c.in-Entry.is in search range-less

pub loop-x-preserved : goal.loop-x-preserved
loop-x-preserved c = c.loop-x.invariant ∙ (let s = read_some _ _ _ _ c.ok_or.ensures.value c.in_ok-x-in-Attribute.was ∙ ap Some c.in-Entry.is in let f = c.in_ok-flag-in-Entry.was ∙ ap Ok c.in-On.is in search range-on)

pub returns-in-End : goal.returns-in-End
returns-in-End c = first-decided _ _ _ _ _ _ _ _ _ _ _ c.attributes.invariant.0 _ c.attribute_spec.ensures _ (c.in-Some.is ∙ ap Some c.in-Attribute.is) c.if-a-eq-DW_AT_ranges.true
    _ c.attribute.ensures _ c.in-Some-attribute.is c.if-v-ne-DW_FORM_rnglistx.false _ c.list_offset.ensures
    _ c.in-Some-list_offset.is _ _ c.loop-x.invariant _
    (range-end _ _ _ _ _ _ c.list_entry.ensures (read_some _ _ _ _ c.ok_or.ensures.value c.in_ok-x-in-Attribute.was ∙ ap Some c.in-End.is))

pub returns-in_err-x-in-Attribute : goal.returns-in_err-x-in-Attribute
returns-in_err-x-in-Attribute c = let n = refused-none _ _ _ _ _ c.ok_or.ensures.value c.in_err-x-in-Attribute.was c.from_residual.ensures.1 in n.1 ∙ first-decided _ _ _ _ _ _ _ _ _ _ _ c.attributes.invariant.0 _ c.attribute_spec.ensures _ (c.in-Some.is ∙ ap Some c.in-Attribute.is) c.if-a-eq-DW_AT_ranges.true
    _ c.attribute.ensures _ c.in-Some-attribute.is c.if-v-ne-DW_FORM_rnglistx.false _ c.list_offset.ensures
    _ c.in-Some-list_offset.is _ _ c.loop-x.invariant _
    (range_none _ _ _ _ _ _ c.list_entry.ensures n.0)

pub attributes-smaller : goal.attributes-smaller
attributes-smaller c = let r = c.in-Some.is ∙ ap Some c.in-Attribute.is in search first-less

pub attributes-preserved : goal.attributes-preserved
attributes-preserved c = (let r = c.in-Some.is ∙ ap Some c.in-Attribute.is in search first_past, search rules)

pub returns-in_default : goal.returns-in_default
returns-in_default c = search first-bad

pub returns-in-Decided : goal.returns-in-Decided
returns-in-Decided c = first-decided _ _ _ _ _ _ _ _ _ _ _ c.attributes.invariant.0 _ c.attribute_spec.ensures _ (c.in-Some.is ∙ ap Some c.in-Attribute.is) c.if-a-eq-DW_AT_ranges.true
    _ c.attribute.ensures _ c.in-Some-attribute.is c.if-v-ne-DW_FORM_rnglistx.false _ c.list_offset.ensures
    _ c.in-Some-list_offset.is _ _ c.loop-x.invariant _
    (range-decided _ _ _ _ _ _ c.list_entry.ensures _ (read_some _ _ _ _ c.ok_or.ensures.value c.in_ok-x-in-Attribute.was ∙ ap Some c.in-Entry.is) _ c.range_entry.ensures _ (c.in_ok-flag-in-Entry.was ∙ ap Ok c.in-Decided.is))

pub returns-in_err-flag-in-Entry : goal.returns-in_err-flag-in-Entry
returns-in_err-flag-in-Entry c = passed-on _ _ c.from_residual-in_err-flag-in-Entry.ensures.1 ∙ first-decided _ _ _ _ _ _ _ _ _ _ _ c.attributes.invariant.0 _ c.attribute_spec.ensures _ (c.in-Some.is ∙ ap Some c.in-Attribute.is) c.if-a-eq-DW_AT_ranges.true
    _ c.attribute.ensures _ c.in-Some-attribute.is c.if-v-ne-DW_FORM_rnglistx.false _ c.list_offset.ensures
    _ c.in-Some-list_offset.is _ _ c.loop-x.invariant _
    (range-refused _ _ _ _ _ _ c.list_entry.ensures _ (read_some _ _ _ _ c.ok_or.ensures.value c.in_ok-x-in-Attribute.was ∙ ap Some c.in-Entry.is) _ c.range_entry.ensures _ c.in_err-flag-in-Entry.was)

pub returns-in_default-past_attribute : goal.returns-in_default-past_attribute
returns-in_default-past_attribute c = let r = c.in-Some.is ∙ ap Some c.in-Attribute.is in search first-unpassed

pub returns-in-Last : goal.returns-in-Last
returns-in-Last c = let r = c.in-Some.is ∙ ap Some c.in-Last.is in search first-last

pub returns-in_default-attribute : goal.returns-in_default-attribute
returns-in_default-attribute c = let r = c.in-Some.is ∙ ap Some c.in-Attribute.is in search first-unread
