-- `count_of` meets its contract.
use Rattle.collector.specs.Call.{count_of}
use borrow.Author.Rules.{rules}
use Rattle.collector.proofs.answers.count_of.Goals as goal

pub returns-in-Some : goal.returns-in-Some
unfolding count_of
returns-in-Some c = search rules

pub returns-in-None : goal.returns-in-None
unfolding count_of
returns-in-None c = search rules
