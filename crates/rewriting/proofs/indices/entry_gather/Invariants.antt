-- `entry_gather`: each list has the entry's indices so far, and is to get those from here on. Assumes nothing.
use Prim.Native.Nat.{◌-◌}
use lib.ListN.{length}
use Rattle.rewriting.proofs.ListPass.IndexTurns.{Indices}
use Rattle.rewriting.proofs.ListPass.Holdings.{Filling}
use Rattle.rewriting.proofs.indices.entry_gather.Given as goal

abbrev pub invariant-loop-a : goal.invariant-loop-a
invariant-loop-a l = Filling (Indices 0 l.e l.abbreviations l.unit l.initial.p.at l.initial.from.at) l.initial.g.ranges l.initial.range_list (Indices 0 l.e l.abbreviations l.unit l.p.at l.from.at) l.g.ranges l.range_list
    × Filling (Indices 1 l.e l.abbreviations l.unit l.initial.p.at l.initial.from.at) l.initial.g.locations l.initial.location_list (Indices 1 l.e l.abbreviations l.unit l.p.at l.from.at) l.g.locations l.location_list
    × Filling (Indices 2 l.e l.abbreviations l.unit l.initial.p.at l.initial.from.at) l.initial.g.strings l.initial.string_list (Indices 2 l.e l.abbreviations l.unit l.p.at l.from.at) l.g.strings l.string_list

abbrev pub decreases-loop-a : goal.decreases-loop-a
decreases-loop-a l = length l.abbreviations - l.p.at
