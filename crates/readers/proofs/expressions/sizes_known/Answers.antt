-- `sizes_known` meets its contract. Assumes nothing.
use mathlib.Core.Path.{◌∙◌}
use Rattle.readers.proofs.Answers.{both-known, one-unknown}
use Rattle.readers.proofs.expressions.sizes_known.Goals as goal

pub returns-then-size_known : goal.returns-then-size_known
returns-then-size_known c = search both-known

pub returns-else-size_known : goal.returns-else-size_known
returns-else-size_known c = c.if-size_known.false ∙ one-unknown _ _ _ c.size_known.ensures c.if-size_known.false
