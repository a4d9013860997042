-- `emit_expression`: the invariant is that the answer from here on is that of the whole. Assumes nothing.
use mathlib.Core.Path.{◌≡◌}
use Prim.Native.Nat.{ℕ, ◌-◌, ◌≤◌}
use mathlib.Core.List.{List}
use Rattle.std.specs.Prelude.{Some, Ok}
use lib.ListN.{length}
use Rattle.readers.specs.Layout.{Piece}
use Rattle.readers.specs.Expression.{expression_in}
use Rattle.rewriting.specs.Places.{Place}
use Rattle.rewriting.specs.Rewriting.{Lists}
use Rattle.rewriting.specs.Inner.Written.{MapHeld}
use Rattle.rewriting.specs.Inner.Emission.{Within}
use Rattle.rewriting.proofs.WritePass.Splices.{Going}
use Rattle.rewriting.proofs.emit_entry.emit_expression.Given as goal

abbrev pub invariant-loop-r : goal.invariant-loop-r
invariant-loop-r l = Within l.initial.out (Ok l.to) l.out × (l.copied ≤ l.from.at) × (l.from.at ≤ length l.s)
    × ((lists : Lists) (ps : List Place) (depth : ℕ) (pieces : List Piece) → MapHeld ps l.map → l.places ≡ length ps → expression_in l.e l.s ≡ Some pieces
    → Going lists ps depth pieces l.e l.s l.initial.out 0 l.out l.from.at l.copied l.to)

abbrev pub decreases-loop-r : goal.decreases-loop-r
decreases-loop-r l = length l.s - l.from.at
