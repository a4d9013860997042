-- `put_counts` meets its contract.
use Rattle.collector.proofs.Counting.{numbers-are, presences-are, counts-are}
use Rattle.collector.proofs.answers.put_counts.Goals as goal

pub returns : goal.returns
returns c = λ h z.
    counts-are c.args.c c.args.counts.now c.put_run.new.counts _ _ _
    (numbers-are c.args.c _ _ _ c.count_of.ensures c.count_of-2.ensures c.count_of-3.ensures)
    (presences-are c.args.c _ _ _ c.presence.ensures c.presence-2.ensures c.presence-3.ensures)
    h z c.put_run.ensures c.put_run-2.ensures
