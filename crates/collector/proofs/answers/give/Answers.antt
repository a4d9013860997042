-- `give` meets its contract.
use mathlib.Core.Path.{ap, ◌∙◌}
use Rattle.std.specs.Prelude.{Ok}
use Rattle.collector.proofs.Counting.{give-untouched, give-rewritten, give-refused}
use Rattle.collector.proofs.answers.give.Goals as goal

pub returns-in-Untouched : goal.returns-in-Untouched
returns-in-Untouched c = let p = give-untouched _ _ c.args.counts.now _ _ _ (c.in-Ok.is ∙ ap Ok c.in-Untouched.is) c.clear_bytes.ensures
    c.accepted.ensures.answer c.accepted.ensures.counts in record { answer = p.0; counts = p.1 }

pub returns-in-Rewritten : goal.returns-in-Rewritten
returns-in-Rewritten c = let p = give-rewritten _ _ c.args.counts.now _ _ _ (c.in-Ok.is ∙ ap Ok c.in-Rewritten.is) c.clear_bytes.ensures
    c.accepted-in-Rewritten.ensures.answer c.accepted-in-Rewritten.ensures.counts in record { answer = p.0; counts = p.1 }

pub returns-in-Err : goal.returns-in-Err
returns-in-Err c = let p = give-refused _ c.args.counts.now _ _ c.in-Err.is c.clear_bytes.ensures in record { answer = c.from.ensures ∙ c.number.ensures ∙ p.0; counts = p.1 }
