-- `settle` meets its contract. Assumes nothing.
use Rattle.rewriting.proofs.ListPass.ListAnswers.{settle-absent, settle-empty, settle-present}
use Rattle.rewriting.proofs.indices.settle.Goals as goal

pub returns-then-count-gt0 : goal.returns-then-count-gt0
returns-then-count-gt0 c = λ x u ys list₀ w v z f. settle-absent ys list₀ _ _ z f _ _ (c.is_absent.ensures x u w v) c.if-is_absent.true _ c.clear_bytes.ensures

pub returns-else-count-gt0 : goal.returns-else-count-gt0
returns-else-count-gt0 c = λ x u ys list₀ w v z f. settle-empty ys list₀ _ _ z f _ _ (c.is_absent.ensures x u w v) c.if-is_absent.true c.if-count-gt0.false

pub returns : goal.returns
returns c = λ x u ys list₀ w v z f. settle-present ys list₀ _ _ z f _ _ (c.is_absent.ensures x u w v) c.if-is_absent.false
