-- `is_root` answers by the tag and the tests of its attributes. Assumes nothing.
use Rattle.std.specs.Prelude.{Ok}
use mathlib.Core.Path.{ap, ◌∙◌}
use Rattle.readers.proofs.Refusing.{passed-on}
use Rattle.marking.proofs.RootTests.{subprogram-live, subprogram-refused, subprogram-ranges, variable-is, other_tag}
use Rattle.marking.proofs.root_test.is_root.Goals as goal

pub returns-in-Live : goal.returns-in-Live
returns-in-Live c = let v = c.in_ok-low_pcs.was ∙ ap Ok c.in-Live.is in search subprogram-live

pub returns-in-Dead : goal.returns-in-Dead
returns-in-Dead c = let v = c.in_ok-low_pcs.was ∙ ap Ok c.in-Dead.is in search subprogram-ranges

pub returns-in_err-low_pcs : goal.returns-in_err-low_pcs
returns-in_err-low_pcs c = passed-on _ _ c.from_residual.ensures.1 ∙ let v = c.in_err-low_pcs.was in search subprogram-refused

pub returns-then-tag-eq-DW_TAG_variable : goal.returns-then-tag-eq-DW_TAG_variable
returns-then-tag-eq-DW_TAG_variable c = search variable-is

pub returns : goal.returns
returns c = search other_tag
