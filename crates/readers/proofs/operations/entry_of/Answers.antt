-- `entry_of` meets its contract. Assumes nothing.
use mathlib.Core.Path.{◌∙◌}
use Rattle.readers.proofs.ShortRows.{entry-made, entry-unmade}
use Rattle.readers.proofs.operations.entry_of.Goals as goal

pub returns : goal.returns
returns c = entry-made _ _ _ _ c.in_ok-first.was c.next.ensures

pub returns-in_err-first : goal.returns-in_err-first
returns-in_err-first c = c.from_residual.ensures ∙ entry-unmade _ _ c.in_err-first.was
