use Rattle.readers.proofs.OwnReferences.{type-none, type-some}
use Rattle.readers.proofs.expressions.named_type.Goals as goal

pub returns-then-f-eq0 : goal.returns-then-f-eq0
returns-then-f-eq0 c = type-none _ _ c.if-f-eq0.true

pub returns-else-f-eq0 : goal.returns-else-f-eq0
returns-else-f-eq0 c = type-some _ _ _ c.if-f-eq0.false c.named.ensures
