-- `closes_kept` meets its contract. Assumes nothing.
use mathlib.Core.Path.{ap, ◌∙◌}
use mathlib.Core.Bool.{not}
use borrow.Author.Tests.{eq-eqb}
use Rattle.rewriting.proofs.KeptPass.KeptSteps.{closes-outside, closes-inside}
use Rattle.rewriting.proofs.kept_items.closes_kept.Goals as goal

pub returns-then-nesting-ne0 : goal.returns-then-nesting-ne0
returns-then-nesting-ne0 c = search closes-inside

pub returns-else-nesting-ne0 : goal.returns-else-nesting-ne0
returns-else-nesting-ne0 c = ap not (eq-eqb _ 0 c.if-nesting-ne0.false) ∙ closes-outside _ _ c.if-nesting-ne0.false
