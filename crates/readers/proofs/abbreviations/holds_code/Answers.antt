-- `holds_code` meets its contract. Assumes nothing.
use mathlib.Core.Path.{ap, ◌∙◌}
use mathlib.Core.Bool.{not}
use borrow.Author.Tests.{eq-eqb}
use Rattle.readers.proofs.Declarations.{holds-none, holds-some}
use Rattle.readers.proofs.abbreviations.holds_code.Goals as goal

pub returns-then-slot-ne0 : goal.returns-then-slot-ne0
returns-then-slot-ne0 c = holds-some _ _ _ c.if-slot-ne0.true _ c.slot_code.ensures

pub returns-else-slot-ne0 : goal.returns-else-slot-ne0
returns-else-slot-ne0 c = ap not (eq-eqb _ _ c.if-slot-ne0.false) ∙ holds-none _ _ _ c.if-slot-ne0.false
