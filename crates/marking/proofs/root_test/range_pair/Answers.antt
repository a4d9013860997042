-- `range_pair` answers by the pair's numbers and the base. Assumes nothing.
use native.Mathlib.Omega.{arith}
use borrow.Author.Tests.{tests}
use Rattle.std.proofs.lemmas.Bool.Decides.{nat_tests}
use Rattle.readers.specs.Choice.{pick, ◌and◌, ◌or◌}
use Rattle.marking.specs.Roots.{range_pair, turn_of}
use Rattle.marking.proofs.root_test.range_pair.Goals as goal

pub returns-then-end-eq0 : goal.returns-then-end-eq0
unfolding range_pair turn_of pick ◌and◌ ◌or◌
returns-then-end-eq0 c = grind (arith, nat_tests, tests)

pub returns-then-begin_dead : goal.returns-then-begin_dead
unfolding range_pair turn_of pick ◌and◌ ◌or◌
returns-then-begin_dead c = grind (arith, nat_tests, tests)

pub returns-then-dead : goal.returns-then-dead
unfolding range_pair turn_of pick ◌and◌ ◌or◌
returns-then-dead c = grind (arith, nat_tests, tests)

pub returns : goal.returns
unfolding range_pair turn_of pick ◌and◌ ◌or◌
returns c = grind (arith, nat_tests, tests)
