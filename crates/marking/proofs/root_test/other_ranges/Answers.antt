-- `other_ranges` meets its contract: a sum within the section is no larger than 64 bits. Assumes nothing.
use native.Mathlib.Omega.{arith}
use Rattle.marking.proofs.RootTests.{other-form, other-past, other-unresolved, other-pairs, other-older}
use Rattle.marking.proofs.root_test.other_ranges.Goals as goal

pub returns-then-v-ne-DW_FORM_sec_offset : goal.returns-then-v-ne-DW_FORM_sec_offset
returns-then-v-ne-DW_FORM_sec_offset c = search other-form

pub returns-then-ranges_base-len : goal.returns-then-ranges_base-len
returns-then-ranges_base-len c = other-past _ _ _ _ c.if-v-ne-DW_FORM_sec_offset.false (omega arith)

pub returns-then-field-len : goal.returns-then-field-len
returns-then-field-len c = other-past _ _ _ _ c.if-v-ne-DW_FORM_sec_offset.false (omega arith)

pub returns-in_default : goal.returns-in_default
returns-in_default c = search other-unresolved

pub returns-then-e-eq4 : goal.returns-then-e-eq4
returns-then-e-eq4 c = search other-pairs

pub returns : goal.returns
returns c = search other-older
