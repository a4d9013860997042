-- `treat` changes what is live or dead, and no refusal. Assumes nothing.
use Rattle.std.specs.Prelude.{Ok}
use mathlib.Core.Path.{◌∙◌, ap}
use Rattle.readers.proofs.Refusing.{passed-on}
use Rattle.marking.proofs.KeepLists.{never-live, still-live, always-live, still-dead, still-refused}
use Rattle.marking.proofs.keep_list.treat.Goals as goal

pub returns-then-k-eq-NEVER_ROOT : goal.returns-then-k-eq-NEVER_ROOT
returns-then-k-eq-NEVER_ROOT c = let v = c.in_ok-verdict.was ∙ ap Ok c.in-Live.is in search never-live

pub returns-then-k-eq-ALWAYS_ROOT : goal.returns-then-k-eq-ALWAYS_ROOT
returns-then-k-eq-ALWAYS_ROOT c = let v = c.in_ok-verdict.was ∙ ap Ok c.in-Dead.is in search always-live

pub returns-else-k-eq-NEVER_ROOT : goal.returns-else-k-eq-NEVER_ROOT
returns-else-k-eq-NEVER_ROOT c = let v = c.in_ok-verdict.was ∙ ap Ok c.in-Live.is in search still-live

pub returns-else-k-eq-ALWAYS_ROOT : goal.returns-else-k-eq-ALWAYS_ROOT
returns-else-k-eq-ALWAYS_ROOT c = let v = c.in_ok-verdict.was ∙ ap Ok c.in-Dead.is in search still-dead

pub returns-in_err-verdict : goal.returns-in_err-verdict
returns-in_err-verdict c = passed-on _ _ c.from_residual.ensures.1 ∙ still-refused _ _ _ c.in_err-verdict.was
