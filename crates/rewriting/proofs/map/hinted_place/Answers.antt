-- `hinted_place` meets its contract.
use Rattle.rewriting.proofs.MapPass.Places.{hinted-held}
use Rattle.rewriting.proofs.map.hinted_place.Goals as goal

pub returns : goal.returns
returns c = hinted-held _ _ _ _ c.hinted_row.ensures
