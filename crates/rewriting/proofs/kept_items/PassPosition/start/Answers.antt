-- `start` meets its contract.
use mathlib.Core.Path.{ap}
use Rattle.rewriting.proofs.KeptPass.KeptSteps.{stand}
use Rattle.rewriting.proofs.kept_items.PassPosition.start.Goals as goal

pub returns : goal.returns
returns c = ap (stand c.args.first.0 0) c.outside.ensures
