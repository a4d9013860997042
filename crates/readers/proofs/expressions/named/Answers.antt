use Rattle.readers.proofs.OwnReferences.{named-is}
use Rattle.readers.proofs.expressions.named.Goals as goal

pub returns : goal.returns
returns c = named-is _ _ _ _ c.width.ensures
