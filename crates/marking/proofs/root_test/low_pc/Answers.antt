-- `low_pc` answers by the form. Assumes nothing.
use Rattle.marking.proofs.Lookups.{looked}
use native.Mathlib.Omega.{arith}
use borrow.Author.Tests.{tests}
use Rattle.std.proofs.lemmas.Bool.Decides.{nat_tests}
use Rattle.readers.specs.Choice.{pick, ◌and◌, ◌or◌}
use Rattle.marking.specs.Roots.{low_pc}
use Rattle.marking.proofs.root_test.low_pc.Goals as goal

pub returns-then-is_tombstone : goal.returns-then-is_tombstone
unfolding low_pc pick ◌and◌ ◌or◌
returns-then-is_tombstone c = grind (arith, nat_tests, tests)

pub returns-then-form-eq-DW_FORM_addr : goal.returns-then-form-eq-DW_FORM_addr
unfolding low_pc pick ◌and◌ ◌or◌
returns-then-form-eq-DW_FORM_addr c = grind (arith, nat_tests, tests)

pub returns-then-not-indexed : goal.returns-then-not-indexed
unfolding low_pc pick ◌and◌ ◌or◌
returns-then-not-indexed c = grind (arith, nat_tests, tests)

pub returns : goal.returns
unfolding low_pc pick ◌and◌ ◌or◌
returns c = let z = looked c.lookup.result in grind (arith, nat_tests, tests)
