-- `along` meets its contract: the turns so far are one pass, and find nothing to do where none of them did. Assumes nothing.
use Prim.Native.Nat.{ℕ, ◌<◌}
use Rattle.marking.specs.Inner.Passes.{Pass, WithPairs, AlongAt}
use Rattle.marking.proofs.marks.along.Given as goal

abbrev pub invariant-loop-j : goal.invariant-loop-j
invariant-loop-j l = Pass (WithPairs l.pairs) ((k : ℕ) → k < l.j → AlongAt l.pairs l.initial.marks k) l.initial.marks l.marks l.changed
