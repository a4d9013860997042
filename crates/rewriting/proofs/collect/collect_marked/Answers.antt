-- `collect_marked` answers at once, or by `rewrite_unit`. Assumes nothing.
use mathlib.Core.Path.{ap, ◌∙◌}
use Rattle.std.specs.Prelude.{Ok}
use Rattle.readers.proofs.Refusing.{passed-on}
use Rattle.rewriting.proofs.Whole.Answering.{marked-refused, marked-done, marked-rewrite}
use Rattle.rewriting.proofs.collect.collect_marked.Goals as goal

pub returns-in_err-header : goal.returns-in_err-header
returns-in_err-header c = marked-refused _ _ _ _ _ _ _ _ _ _ _ _ _ _ _ c.in_err-header.was (passed-on _ _ c.from_residual.ensures.1)

pub returns-in_default : goal.returns-in_default
returns-in_default c = marked-done _ _ _ _ _ _ _ _ _ _ _ _ _ _ (c.in_ok-header.was ∙ ap Ok c.in_default.is) c.nothing.ensures

pub returns : goal.returns
returns c = marked-rewrite _ _ _ _ _ _ _ _ _ _ _ _ _ _ _ _ (c.in_ok-header.was ∙ ap Ok c.in-Some.is) _ _ _ _ _ _ c.rewrite_unit.ensures
