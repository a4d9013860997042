-- `bundle::section` reads a section's token. Assumes nothing.
use Rattle.bundle.specs.Bundle.{part, big_endian}
use Rattle.bundle.proofs.section.Goals as goal

-- src/lib.rt:28:1
pub returns : goal.returns
unfolding part big_endian
returns c = c.field.ensures
