-- `nothing` is untouched, without entries. Assumes nothing.
use mathlib.Core.Path.{refl}
use Rattle.rewriting.specs.Outputs.{list_count, answer_for}
use Rattle.rewriting.proofs.collect.nothing.Goals as goal

pub returns : goal.returns
unfolding answer_for list_count
returns c = refl
