-- `names_first` meets its contract: no pair before is one. Assumes nothing.
use mathlib.Core.Path.{◌≡◌}
use mathlib.Core.Bool.{false}
use Rattle.marking.specs.Below.{any}
use Rattle.marking.specs.Inner.Passes.{names_first_at}
use Rattle.marking.proofs.marks.names_first.Given as goal

abbrev pub invariant-loop-pair : goal.invariant-loop-pair
invariant-loop-pair l = any l.pair-index (names_first_at l.pairs l.marks) ≡ false
