-- `next_named`: the invariant is that those of the name from the start are those from here on. Assumes nothing.
use mathlib.Core.Path.{◌≡◌}
use Prim.Native.Nat.{◌-◌, ◌≤◌}
use lib.ListN.{length}
use Rattle.readers.specs.EntryAttributes.{entry_values}
use Rattle.marking.specs.Inner.Named.{of_name}
use Rattle.marking.proofs.named.next_named.Given as goal

abbrev pub invariant-loop-a : goal.invariant-loop-a
invariant-loop-a l = (of_name l.name (entry_values l.e l.abbreviations l.initial.p.at l.unit l.initial.c.at) ≡ of_name l.name (entry_values l.e l.abbreviations l.p.at l.unit l.c.at)) × (l.initial.p.at ≤ l.p.at)

abbrev pub decreases-loop-a : goal.decreases-loop-a
decreases-loop-a l = length l.abbreviations - l.p.at
