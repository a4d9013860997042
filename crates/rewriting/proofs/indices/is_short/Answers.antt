-- `is_short` meets its contract. Assumes nothing.
use Rattle.rewriting.proofs.ListPass.IndexTurns.{short-present, short-absent}
use Rattle.rewriting.proofs.indices.is_short.Goals as goal

pub returns-in-Some : goal.returns-in-Some
returns-in-Some c = search short-present

pub returns-in-None : goal.returns-in-None
returns-in-None c = search short-absent
