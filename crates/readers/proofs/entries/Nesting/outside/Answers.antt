-- `Nesting::outside` is the nesting of no open entry. Assumes nothing.
use mathlib.Core.Path.{refl}
use Rattle.readers.specs.Nesting.{nesting_of, top}
use Rattle.readers.proofs.entries.Nesting.outside.Goals as goal

pub returns : goal.returns
unfolding nesting_of top
returns c = refl
