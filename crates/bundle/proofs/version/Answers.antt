-- `bundle::version` is the byte behind the length. Assumes nothing.
use Rattle.std.proofs.Common.{arith}
use Rattle.std.proofs.lemmas.Grind.{common_steps}
use Rattle.bundle.specs.Bundle.{version_of}
use Rattle.bundle.proofs.version.Goals as goal

pub returns : goal.returns
unfolding version_of
returns c = grind (arith, common_steps)
