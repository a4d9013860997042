-- `ranges_has_live_entry` answers by the list's entries. The invariant: the answer from the start is the answer from here on. Assumes nothing.
use Rattle.std.specs.Prelude.{Some}
use Rattle.readers.proofs.Refusing.{refused-none, read_some}
use mathlib.Core.Path.{refl, ap, ◌∙◌}
use Rattle.marking.proofs.Lists.{older-on, older-less, older-other, older-end, older-none}
use Rattle.marking.proofs.root_test.ranges_has_live_entry.Goals as goal

pub loop-x-init : goal.loop-x-init
loop-x-init c = refl

pub returns-then-x-ne-DW_RLE_base_address : goal.returns-then-x-ne-DW_RLE_base_address
returns-then-x-ne-DW_RLE_base_address c = let r = read_some _ _ _ _ c.ok_or.ensures.value c.in_ok-x.was ∙ ap Some c.in-Entry.is in search older-other

pub loop-x-smaller : goal.loop-x-smaller
loop-x-smaller c = let r = read_some _ _ _ _ c.ok_or.ensures.value c.in_ok-x.was ∙ ap Some c.in-Entry.is in search older-less

pub loop-x-preserved : goal.loop-x-preserved
loop-x-preserved c = let r = read_some _ _ _ _ c.ok_or.ensures.value c.in_ok-x.was ∙ ap Some c.in-Entry.is in search older-on

pub returns-in-End : goal.returns-in-End
returns-in-End c = let r = read_some _ _ _ _ c.ok_or.ensures.value c.in_ok-x.was ∙ ap Some c.in-End.is in search older-end

pub returns-in_err-x : goal.returns-in_err-x
returns-in_err-x c = let n = refused-none _ _ _ _ _ c.ok_or.ensures.value c.in_err-x.was c.from_residual.ensures.1 in n.1 ∙ let q = n.0 in search older-none
