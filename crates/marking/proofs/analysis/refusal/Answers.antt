-- `refusal` answers 4 where the values can't be read. Assumes nothing.
use Rattle.marking.proofs.EntryAnswers.{refusal-same, refusal-four}
use Rattle.marking.proofs.analysis.refusal.Goals as goal

pub returns-in-Some : goal.returns-in-Some
returns-in-Some c = search refusal-same

pub returns-in-None : goal.returns-in-None
returns-in-None c = search refusal-four
