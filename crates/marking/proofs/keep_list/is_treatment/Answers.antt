-- `is_treatment` asks for 1 and for 2. Assumes nothing.
use native.Mathlib.Omega.{arith}
use Rattle.std.proofs.lemmas.Bool.Decides.{nat_tests}
use Rattle.readers.specs.Choice.{◌or◌}
use Rattle.marking.specs.KeepList.{is_treatment}
use Rattle.marking.proofs.keep_list.is_treatment.Goals as goal

pub returns-then-k-eq-ALWAYS_ROOT : goal.returns-then-k-eq-ALWAYS_ROOT
unfolding is_treatment ◌or◌
returns-then-k-eq-ALWAYS_ROOT c = grind (arith, nat_tests)

pub returns-else-k-eq-ALWAYS_ROOT : goal.returns-else-k-eq-ALWAYS_ROOT
unfolding is_treatment ◌or◌
returns-else-k-eq-ALWAYS_ROOT c = grind (arith, nat_tests)
