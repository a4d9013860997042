-- `Cursor::past_fixed` meets its contract, whatever the byte order. Assumes nothing.
use Rattle.readers.proofs.ShortValues.{fixed-past, fixed-far}
use Rattle.readers.proofs.cursor.Cursor.past_fixed.Goals as goal

pub returns-then-width-gt8 : goal.returns-then-width-gt8
returns-then-width-gt8 c = λ big. fixed-far big _ _ _ c.if-width-gt8.true

pub returns : goal.returns
returns c = λ big. fixed-past big _ _ _ _ c.if-width-gt8.false c.bytes.ensures
