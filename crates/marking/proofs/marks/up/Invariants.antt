-- `up` meets its contract: the turns so far are one pass, and find nothing to do where none of them did. Assumes nothing.
use Prim.Native.Nat.{ℕ, ◌≤◌, ◌<◌}
use lib.ListN.{length}
use Rattle.marking.specs.Inner.Passes.{Pass, WithParents, UpAt}
use Rattle.marking.proofs.marks.up.Given as goal

abbrev pub invariant-loop-i : goal.invariant-loop-i
invariant-loop-i l = Pass (WithParents l.parents) ((k : ℕ) → l.i ≤ k → k < length l.initial.marks → UpAt l.parents l.initial.marks k) l.initial.marks l.marks l.changed
