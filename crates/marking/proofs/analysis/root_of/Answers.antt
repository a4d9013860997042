-- `root_of` treats the verdict of the root test. Assumes nothing.
use Rattle.marking.proofs.KeepLists.{treated-by}
use Rattle.marking.proofs.analysis.root_of.Goals as goal

pub returns : goal.returns
returns c = search treated-by
