-- `is_full` asks for 10, then for 11. Assumes nothing.
use Rattle.collector.proofs.Tiers.{ten-full, others-full}
use Rattle.collector.proofs.own_tables.is_full.Goals as goal

pub returns-then-answer-eq-FULL : goal.returns-then-answer-eq-FULL
returns-then-answer-eq-FULL c = search ten-full

pub returns-else-answer-eq-FULL : goal.returns-else-answer-eq-FULL
returns-else-answer-eq-FULL c = search others-full
