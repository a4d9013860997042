-- `bytes_between`: nothing, what the slice has, or all. Assumes nothing.
use mathlib.Core.Logic.{⊎_elim}
use Rattle.rewriting.proofs.WritePass.Emissions.{between-nothing, between-past, between-least}
use Rattle.rewriting.proofs.emit_entry.bytes_between.Goals as goal

pub returns-then-from-to : goal.returns-then-from-to
returns-then-from-to c = ⊎_elim (λ h. between-nothing _ _ _ h) (λ h. between-past _ _ _ h.1) c.then-from-to.either

pub returns : goal.returns
returns c = between-least _ _ _ _ c.min.ensures
