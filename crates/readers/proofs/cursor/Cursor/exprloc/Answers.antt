-- `Cursor::exprloc` meets its contract.
use mathlib.Core.Path.{◌∙◌, ap}
use Rattle.readers.specs.Fields.{block_field, exprloc_at}
use Rattle.readers.proofs.cursor.Cursor.exprloc.Goals as goal

pub returns : goal.returns
unfolding exprloc_at
returns c = c.block_field.ensures ∙ ap (block_field _) c.uleb.ensures
