-- `Field::expression`: the bytes of a field. Assumes nothing.
use Rattle.readers.proofs.Tokens.{part-cut}
use Rattle.readers.proofs.fields.Field.expression.Goals as goal

pub returns : goal.returns
returns c = part-cut _ _ _ _ c.min.ensures c.min-end.ensures
