-- `put_run` meets its contract. The invariant: the numbers so far stand from the place on.
use Rattle.collector.proofs.Runs.{Run}
use Rattle.collector.proofs.answers.put_run.Given as goal

abbrev pub invariant-loop-number : goal.invariant-loop-number
invariant-loop-number l = Run l.numbers l.width l.at l.initial.counts l.counts l.to l.number-index
