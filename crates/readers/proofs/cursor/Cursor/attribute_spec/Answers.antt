-- `Cursor::attribute_spec` meets its contract: two bytes that are a name and a form, or numbers. Assumes nothing.
use native.Mathlib.Omega.{arith}
use Rattle.readers.proofs.Specs.{spec-plain, spec-zeros}
use Rattle.readers.proofs.cursor.Cursor.attribute_spec.Goals as goal

pub returns-then-plain_spec : goal.returns-then-plain_spec
returns-then-plain_spec c = spec-plain _ _ (omega arith) (c.plain_spec.ensures c.if-plain_spec.true)

pub returns-then-name-form-eq0 : goal.returns-then-name-form-eq0
returns-then-name-form-eq0 c = spec-zeros _ _ (omega arith) (omega arith) (omega arith)
