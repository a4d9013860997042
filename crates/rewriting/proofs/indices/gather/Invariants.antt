-- `gather`: each list has the indices of the kept items so far, and is to get those of the items from here on. Assumes nothing.
use Prim.Native.Nat.{◌-◌}
use lib.ListN.{length}
use Rattle.rewriting.proofs.Whole.CollectTurns.{Collecting}
use Rattle.rewriting.proofs.indices.gather.Given as goal

abbrev pub invariant-loop-x : goal.invariant-loop-x
invariant-loop-x l = Collecting l.r l.abbreviations l.index l.unit 0 l.parents l.ends l.marks l.fn.first.0 l.initial.range_list l.s l.range_list l.g.ranges
    × Collecting l.r l.abbreviations l.index l.unit 1 l.parents l.ends l.marks l.fn.first.0 l.initial.location_list l.s l.location_list l.g.locations
    × Collecting l.r l.abbreviations l.index l.unit 2 l.parents l.ends l.marks l.fn.first.0 l.initial.string_list l.s l.string_list l.g.strings

abbrev pub decreases-loop-x : goal.decreases-loop-x
decreases-loop-x l = length l.unit - l.s.at.at
