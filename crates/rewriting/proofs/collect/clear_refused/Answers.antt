-- `clear_refused` clears after a refusal alone. Assumes nothing.
use mathlib.Core.Path.{sym, ◌∙◌}
use Rattle.rewriting.proofs.Whole.Answering.{left-accepted, left-refused}
use Rattle.rewriting.proofs.collect.clear_refused.Goals as goal

pub returns-then-is_err : goal.returns-then-is_err
returns-then-is_err c = let n = left-refused _ (sym c.is_err.ensures.value ∙ c.if-is_err.true) in
    (n _ _ c.clear_outputs.ensures.map, n _ _ c.clear_outputs.ensures.ranges, n _ _ c.clear_outputs.ensures.locations, n _ _ c.clear_outputs.ensures.strings, n _ _ c.clear_outputs.ensures.out)

pub returns-else-is_err : goal.returns-else-is_err
returns-else-is_err c = let a = left-accepted _ (sym c.is_err.ensures.value ∙ c.if-is_err.false) in (a _, a _, a _, a _, a _)
