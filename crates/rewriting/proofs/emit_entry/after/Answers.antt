-- `after`: the count goes on, a refusal stays. Assumes nothing.
use Rattle.readers.proofs.Refusing.{passed-on}
use mathlib.Core.Path.{sym, ◌∙◌}
use Rattle.rewriting.proofs.WritePass.Emissions.{onward-to, onward-no}
use Rattle.rewriting.proofs.emit_entry.after.Goals as goal

pub returns : goal.returns
returns c = sym (onward-to _ _ _ c.in_ok-n.was)

pub returns-in_err-n : goal.returns-in_err-n
returns-in_err-n c = passed-on _ _ c.from_residual.ensures.1 ∙ sym (onward-no _ _ _ c.in_err-n.was)
