-- `size_known` meets its contract. Assumes nothing.
use mathlib.Core.Path.{◌∙◌}
use borrow.Author.Tests.{eq-eqb}
use Rattle.readers.proofs.Answers.{known-4, known-8}
use Rattle.readers.proofs.header.size_known.Goals as goal

pub returns-then-n-eq4 : goal.returns-then-n-eq4
returns-then-n-eq4 c = eq-eqb _ _ c.if-n-eq4.true ∙ known-4 _ c.if-n-eq4.true

pub returns-else-n-eq4 : goal.returns-else-n-eq4
returns-else-n-eq4 c = known-8 _ c.if-n-eq4.false
