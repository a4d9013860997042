-- `operation_of` meets its contract. Assumes nothing.
use mathlib.Core.Path.{◌∙◌}
use Rattle.readers.proofs.ShortRows.{operation-made, operation-unmade}
use Rattle.readers.proofs.operations.operation_of.Goals as goal

pub returns : goal.returns
returns c = operation-made _ _ _ _ c.in_ok-first.was c.next.ensures

pub returns-in_err-first : goal.returns-in_err-first
returns-in_err-first c = c.from_residual.ensures ∙ operation-unmade _ _ c.in_err-first.was
