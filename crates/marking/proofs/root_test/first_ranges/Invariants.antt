-- `first_ranges` answers by the first ranges. The outer invariant: the answer over all attributes is that over those from here on, and no verdict is found yet.
use Rattle.std.specs.Prelude.{Ok}
use mathlib.Core.Path.{◌≡◌}
use Prim.Native.Nat.{◌-◌}
use lib.ListN.{length}
use Rattle.marking.specs.Roots.{ranges_by, first_ranges}
use Rattle.readers.specs.EntryAttributes.{entry_values}
use Rattle.marking.specs.declared.addresses.Verdict.TheVariants.{Dead as is_dead}
use Rattle.marking.proofs.Lists.{ranges_from}
use Rattle.marking.proofs.root_test.first_ranges.Given as goal

abbrev pub invariant-loop-x : goal.invariant-loop-x
invariant-loop-x l = ranges_from l.e l.table l.ranges l.initial.place.at l.initial.dead ≡ ranges_from l.e l.table l.ranges l.place.at l.dead

abbrev pub decreases-loop-x : goal.decreases-loop-x
decreases-loop-x l = length l.ranges - l.place.at

abbrev pub invariant-attributes : goal.invariant-attributes
invariant-attributes l = (first_ranges l.e (ranges_by l.ranges l.table l.ranges_base l.rnglists_base) (entry_values l.e l.abbreviations l.initial.p.at l.unit l.initial.c.at)
    ≡ first_ranges l.e (ranges_by l.ranges l.table l.ranges_base l.rnglists_base) (entry_values l.e l.abbreviations l.p.at l.unit l.c.at))
    × (l.verdict ≡ Ok is_dead)

abbrev pub decreases-attributes : goal.decreases-attributes
decreases-attributes l = length l.abbreviations - l.p.at
