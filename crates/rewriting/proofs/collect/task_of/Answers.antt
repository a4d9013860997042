-- `task_of` goes by the marks, then by the header. Assumes nothing.
use mathlib.Core.Path.{ap, ◌∙◌}
use Rattle.std.specs.Prelude.{Ok}
use Rattle.readers.proofs.Refusing.{passed-on}
use Rattle.rewriting.proofs.Whole.Answering.{task-refused, task-none, task-some, task-no-header, task-empty, task-header}
use Rattle.rewriting.proofs.collect.task_of.Goals as goal

pub returns-in_err-entries : goal.returns-in_err-entries
returns-in_err-entries c = task-refused _ _ _ _ c.in_err-entries.was (passed-on _ _ c.from_residual.ensures.1)

pub returns-then-entries-eq0 : goal.returns-then-entries-eq0
returns-then-entries-eq0 c = task-none _ _ _ _ c.in_ok-entries.was c.if-entries-eq0.true

pub returns-in_err-header : goal.returns-in_err-header
returns-in_err-header c = task-some _ _ _ _ _ c.in_ok-entries.was c.if-entries-eq0.false (task-no-header _ _ _ _ _ c.in_err-header.was (passed-on _ _ c.from_residual-in_err-header.ensures.1))

pub returns-in_default : goal.returns-in_default
returns-in_default c = task-some _ _ _ _ _ c.in_ok-entries.was c.if-entries-eq0.false (task-empty _ _ _ (c.in_ok-header.was ∙ ap Ok c.in_default.is))

pub returns : goal.returns
returns c = task-some _ _ _ _ _ c.in_ok-entries.was c.if-entries-eq0.false (task-header _ _ _ _ (c.in_ok-header.was ∙ ap Ok c.in-Some.is))
