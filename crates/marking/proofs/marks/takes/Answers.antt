-- `takes` meets its contract: its tests are those of the definition. Assumes nothing.
use native.Mathlib.Omega.{arith}
use borrow.Author.Tests.{tests}
use Rattle.std.proofs.lemmas.Bool.Decides.{nat_tests}
use Rattle.readers.specs.Choice.{◌and◌}
use Rattle.marking.specs.Graph.{takes, well_formed, references}
use Rattle.marking.proofs.marks.takes.Goals as goal

pub returns-then-pairs_fit : goal.returns-then-pairs_fit
unfolding takes well_formed references ◌and◌
returns-then-pairs_fit c = grind (arith, nat_tests, tests)

pub returns-else-pairs_fit : goal.returns-else-pairs_fit
unfolding takes well_formed references ◌and◌
returns-else-pairs_fit c = grind (arith, nat_tests, tests)
