-- `new_index`: by its rank, or as it is. Assumes nothing.
use Rattle.rewriting.proofs.WritePass.Emissions.{index-rank, index-self}
use Rattle.rewriting.proofs.emit_entry.new_index.Goals as goal

pub returns-in-Some : goal.returns-in-Some
returns-in-Some c = index-rank _ _ _ _ c.in-Some.is _ c.hinted_rank.ensures

pub returns-in-None : goal.returns-in-None
returns-in-None c = index-self _ _ _ c.in-None.is
