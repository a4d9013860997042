-- `locations_live` asks each location in turn. The invariant: the answer over all attributes is that over those from here on. Assumes nothing.
use mathlib.Core.Path.{◌≡◌}
use Prim.Native.Nat.{◌-◌}
use lib.ListN.{length}
use Rattle.marking.specs.Roots.{locations}
use Rattle.readers.specs.EntryAttributes.{entry_values}
use Rattle.marking.proofs.root_test.locations_live.Given as goal

abbrev pub invariant-loop-a : goal.invariant-loop-a
invariant-loop-a l = locations l.e l.fixed_addresses l.table l.unit (entry_values l.e l.abbreviations l.initial.p.at l.unit l.initial.c.at)
    ≡ locations l.e l.fixed_addresses l.table l.unit (entry_values l.e l.abbreviations l.p.at l.unit l.c.at)

abbrev pub decreases-loop-a : goal.decreases-loop-a
decreases-loop-a l = length l.abbreviations - l.p.at
