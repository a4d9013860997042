-- `end_number` by its cases. Assumes nothing.
use Rattle.rewriting.proofs.KeptPass.EndsFilled.{number-is}
use Rattle.rewriting.proofs.kept_items.end_number.Goals as goal

pub returns : goal.returns
returns c = λ h. number-is _ _ _ c.from.ensures
