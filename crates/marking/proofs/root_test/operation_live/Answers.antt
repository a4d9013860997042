-- `operation_live` answers by the row. Assumes nothing.
use native.Mathlib.Omega.{arith}
use borrow.Author.Tests.{tests}
use Rattle.std.proofs.lemmas.Bool.Decides.{nat_tests}
use Rattle.readers.specs.Choice.{pick, ◌and◌}
use Rattle.marking.specs.Roots.{operation_live}
use Rattle.marking.proofs.root_test.operation_live.Goals as goal

pub returns-then-op-eq-ROW_ADDRESS_INDEX : goal.returns-then-op-eq-ROW_ADDRESS_INDEX
unfolding operation_live pick ◌and◌
returns-then-op-eq-ROW_ADDRESS_INDEX c = grind (arith, nat_tests, tests)

pub returns-then-not-is_tombstone : goal.returns-then-not-is_tombstone
unfolding operation_live pick ◌and◌
returns-then-not-is_tombstone c = grind (arith, nat_tests, tests)

pub returns : goal.returns
unfolding operation_live pick ◌and◌
returns c = grind (arith, nat_tests, tests)
