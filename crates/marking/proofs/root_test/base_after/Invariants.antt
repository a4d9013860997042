-- `base_after` takes each base in turn. The invariant: the base after all attributes is that after those from here on, from the latest. Assumes nothing.
use mathlib.Core.Path.{◌≡◌}
use Prim.Native.Nat.{◌-◌}
use lib.ListN.{length}
use Rattle.marking.specs.Roots.{base_from}
use Rattle.readers.specs.EntryAttributes.{entry_values}
use Rattle.marking.proofs.root_test.base_after.Given as goal

abbrev pub invariant-loop-a : goal.invariant-loop-a
invariant-loop-a l = base_from l.name l.initial.latest (entry_values l.e l.abbreviations l.initial.p.at l.unit l.initial.c.at) ≡ base_from l.name l.latest (entry_values l.e l.abbreviations l.p.at l.unit l.c.at)

abbrev pub decreases-loop-a : goal.decreases-loop-a
decreases-loop-a l = length l.abbreviations - l.p.at
