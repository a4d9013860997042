-- `collector_collect_lent` meets its contract: what collect and the counts leave. Assumes nothing.
use mathlib.Core.Path.{ap, ◌∙◌}
use Rattle.collector.specs.Call.{number_for, counts_for}
use Rattle.collector.proofs.calls.collector_collect_lent.Goals as goal

pub returns : goal.returns
returns c = (
  c.give.ensures.answer ∙ ap (number_for _) c.collect-answer.ensures.0,
  c.give.ensures.counts ∙ ap (counts_for _) c.collect-answer.ensures.0,
  c.collect-answer.ensures.1,
  c.collect-answer.ensures.2,
  c.collect-answer.ensures.3,
  c.collect-answer.ensures.4,
  c.collect-answer.ensures.5,
  c.collect-answer.ensures.6,
  c.collect-answer.ensures.7,
  c.collect-answer.ensures.8,
  c.collect-answer.ensures.9,
  c.collect-answer.ensures.10,
  c.collect-answer.ensures.11,
  c.collect-answer.ensures.12,
  c.collect-answer.ensures.13,
  c.collect-answer.ensures.14,
)
