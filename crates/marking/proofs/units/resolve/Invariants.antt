use mathlib.Core.List.{List}
use mathlib.Core.Path.{◌≡◌}
use Rattle.marking.specs.Analysis.{EntryRow}
use Rattle.marking.specs.Inner.Resolution.{ReferenceColumns}
use Rattle.marking.proofs.Columned.{Turning}
use Rattle.marking.proofs.units.resolve.Given as goal

abbrev pub invariant-loop-i : goal.invariant-loop-i
invariant-loop-i l =
    (goal.iterator-loop-i).can_next l.i-iterator × (goal.iterator-loop-i).is_finite l.i-iterator × (l.i-iterator.iter.end ≡ l.entries)
    × ((rows : List EntryRow) → ReferenceColumns rows l.offsets l.reference_ends l.entries l.targets l.initial.pairs → Turning rows l.initial.pairs l.pairs l.place l.from l.i-iterator.iter.start)
