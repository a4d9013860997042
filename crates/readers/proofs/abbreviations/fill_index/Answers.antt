-- `fill_index` meets its contract. Assumes nothing.
use mathlib.Core.Path.{sym, ◌∙◌}
use Rattle.readers.proofs.Refusing.{refused-none, read_some}
use Rattle.readers.proofs.Declarations.{refused-not, unreadable-refused, over-filled, filled-index}
use Rattle.readers.proofs.abbreviations.fill_index.Goals as goal

pub returns-in_err-count : goal.returns-in_err-count
returns-in_err-count c =
    let q = refused-none _ _ _ _ _ c.ok_or.ensures.value c.in_err-count.was c.from_residual.ensures.1 in record {
      answer = q.1 ∙ unreadable-refused _ _ (sym q.0 ∙ c.gather.ensures.counted);
      filled = λ a. absurd (refused-not _ (sym q.1 ∙ a));
    }

pub returns-then-count-index : goal.returns-then-count-index
returns-then-count-index c = record {
  answer = c.check_plain.ensures;
  filled = λ _. over-filled _ _ _ c.args.index.now c.gather.new.index c.gather.auto.index (sym (read_some _ _ _ _ c.ok_or.ensures.value c.in_ok-count.was) ∙ c.gather.ensures.counted) _ c.if-count-index.true c.clear.ensures;
}

pub returns : goal.returns
returns c = let p = filled-index _ _ _ c.args.index.now c.gather.new.index c.gather.auto.index (sym (read_some _ _ _ _ c.ok_or.ensures.value c.in_ok-count.was) ∙ c.gather.ensures.counted) _ _ _ c.requires c.gather.ensures.gathered c.if-count-index.false c.order.ensures c.accept.ensures in record { answer = p.0; filled = p.1 }
