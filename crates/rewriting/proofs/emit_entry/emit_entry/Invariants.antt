-- `emit_entry`: the invariant is that the answer from here on is that of all attributes. Assumes nothing.
use mathlib.Core.Path.{◌≡◌}
use Prim.Native.Nat.{ℕ, ◌-◌, ◌≤◌}
use mathlib.Core.List.{List}
use Rattle.std.specs.Prelude.{Some, Ok}
use lib.ListN.{length, drop}
use Rattle.readers.specs.Layout.{Read, read_in}
use Rattle.readers.specs.Expression.{expression_in}
use Rattle.readers.specs.Abbreviations.{attributes_from}
use Rattle.readers.specs.Entries.{specs_layout}
use Rattle.rewriting.specs.Places.{Place}
use Rattle.rewriting.specs.Rewriting.{Lists}
use Rattle.rewriting.specs.Inner.Written.{MapHeld}
use Rattle.rewriting.specs.Inner.Bounds.{Bounds}
use Rattle.rewriting.specs.Inner.Emission.{Within, ListsLent}
use Rattle.rewriting.proofs.WritePass.EntryEmits.{Entering}
use Rattle.rewriting.proofs.emit_entry.emit_entry.Given as goal

abbrev pub invariant-loop-past : goal.invariant-loop-past
invariant-loop-past l = Within l.initial.out (Ok l.to) l.out
    × ((lists : Lists) (ps : List Place) (whole : List Read) (rest : List ℕ) → MapHeld ps l.map → l.places ≡ length ps → Bounds ps l.bounds
    → ListsLent lists l.ranges l.ranges_count l.locations l.locations_count l.strings l.strings_count → l.initial.from.at ≤ length l.unit
    → read_in l.e.big_endian (expression_in l.e) (specs_layout l.e (attributes_from l.abbreviations l.initial.p.at)) (drop l.initial.from.at l.unit) ≡ Some (whole, rest)
    → Entering lists ps l.depth l.e l.abbreviations l.unit whole l.initial.out l.initial.to l.out l.p.at l.from.at l.to)

abbrev pub decreases-loop-past : goal.decreases-loop-past
decreases-loop-past l = length l.abbreviations - l.p.at
