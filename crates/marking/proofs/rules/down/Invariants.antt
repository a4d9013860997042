-- `down` meets its contract: the turns so far are one pass, and find nothing to do where none of them did. Assumes nothing.
use Prim.Native.Nat.{ℕ, ◌<◌}
use Rattle.marking.specs.Inner.Passes.{Pass, WithParents, DownAt}
use Rattle.marking.proofs.rules.down.Given as goal

abbrev pub invariant-loop-i : goal.invariant-loop-i
invariant-loop-i l = Pass (WithParents l.parents) ((k : ℕ) → k < l.i → DownAt l.parents l.initial.marks k) l.initial.marks l.marks l.changed
