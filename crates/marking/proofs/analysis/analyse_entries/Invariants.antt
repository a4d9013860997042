-- `analyse_entries` writes the rows one after the other, and answers what is analysed from the first entry on. The measure is what is left of the unit. Assumes nothing.
use Prim.Native.Nat.{◌-◌}
use lib.ListN.{length}
use Rattle.readers.specs.Abbreviations.{find_at}
use Rattle.marking.specs.Analysis.{rooms, unit_analysed}
use Rattle.marking.specs.Inner.Lent.{sections_of}
use Rattle.marking.proofs.Stages.{Stage}
use Rattle.marking.proofs.analysis.analyse_entries.Given as goal

abbrev pub invariant-loop-x : goal.invariant-loop-x
invariant-loop-x l = Stage l.e (sections_of l.lent) l.unit (rooms l.entry_room l.reference_room) (find_at l.lent.abbreviations.now l.from l.index)
    (unit_analysed l.e (sections_of l.lent) l.unit (rooms l.entry_room l.reference_room) l.from l.initial.c.at)
    l.initial.offsets l.initial.parents l.initial.roots l.initial.reference_ends l.initial.targets l.offsets l.parents l.roots l.reference_ends l.targets l.c.at l.count l.to l.nesting l.rnglists_base l.loclists_base

abbrev pub decreases-loop-x : goal.decreases-loop-x
decreases-loop-x l = length l.unit - l.c.at
