-- `base_after` takes each base in turn. The invariant: the base after all attributes is that after those from here on, from the latest. Assumes nothing.
use mathlib.Core.Path.{refl}
use Rattle.marking.proofs.RootTests.{attributes-less, base-end, base-form, base-met, base_kept}
use Rattle.marking.proofs.root_test.base_after.Goals as goal

pub returns-then-tag-ne-DW_TAG_compile_unit : goal.returns-then-tag-ne-DW_TAG_compile_unit
returns-then-tag-ne-DW_TAG_compile_unit c = search base_kept

pub loop-a-init : goal.loop-a-init
loop-a-init c = refl

pub returns-in_default : goal.returns-in_default
returns-in_default c = search base-end

pub loop-a-smaller-then-v-eq-DW_FORM_sec_offset : goal.loop-a-smaller-then-v-eq-DW_FORM_sec_offset
loop-a-smaller-then-v-eq-DW_FORM_sec_offset c = search attributes-less

pub loop-a-preserved-then-v-eq-DW_FORM_sec_offset : goal.loop-a-preserved-then-v-eq-DW_FORM_sec_offset
loop-a-preserved-then-v-eq-DW_FORM_sec_offset c = search base-met

pub loop-a-smaller : goal.loop-a-smaller
loop-a-smaller c = search attributes-less

pub loop-a-preserved : goal.loop-a-preserved
loop-a-preserved c = search base-form
