-- `is_kept` meets its contract. Assumes nothing.
use mathlib.Core.Path.{◌∙◌}
use borrow.Author.Tests.{le-ltb}
use Rattle.rewriting.proofs.KeptPass.KeptSteps.{kept_there, kept-outside}
use Rattle.rewriting.proofs.kept_items.is_kept.Goals as goal

pub returns-then-k-marks : goal.returns-then-k-marks
returns-then-k-marks c = search kept_there

pub returns-else-k-marks : goal.returns-else-k-marks
returns-else-k-marks c = le-ltb _ _ c.if-k-marks.false ∙ kept-outside _ _ _ c.place-k.ensures c.if-k-marks.false
