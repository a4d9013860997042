-- `presence` meets its contract.
use Rattle.collector.specs.Call.{presence_of}
use borrow.Author.Rules.{rules}
use Rattle.collector.proofs.answers.presence.Goals as goal

pub returns-in-Some : goal.returns-in-Some
unfolding presence_of
returns-in-Some c = search rules

pub returns-in-None : goal.returns-in-None
unfolding presence_of
returns-in-None c = search rules
