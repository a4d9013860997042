-- `is_tombstone` answers by size and address. Assumes nothing.
use native.Mathlib.Omega.{arith}
use Rattle.std.proofs.lemmas.Bool.Decides.{nat_tests}
use Rattle.readers.specs.Choice.{pick, ◌or◌}
use Rattle.marking.specs.Addresses.{is_tombstone}
use Rattle.marking.proofs.addresses.is_tombstone.Goals as goal

pub returns-in-0 : goal.returns-in-0
unfolding is_tombstone pick ◌or◌
returns-in-0 c = grind (arith, nat_tests)

pub returns-in_default-matches : goal.returns-in_default-matches
unfolding is_tombstone pick ◌or◌
returns-in_default-matches c = grind (arith, nat_tests)

pub returns-in-0-matches : goal.returns-in-0-matches
unfolding is_tombstone pick ◌or◌
returns-in-0-matches c = grind (arith, nat_tests)

pub returns-in_default-matches-2 : goal.returns-in_default-matches-2
unfolding is_tombstone pick ◌or◌
returns-in_default-matches-2 c = grind (arith, nat_tests)

pub returns-in_default : goal.returns-in_default
unfolding is_tombstone pick ◌or◌
returns-in_default c = grind (arith, nat_tests)
