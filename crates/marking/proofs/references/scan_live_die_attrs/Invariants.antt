-- `scan_live_die_attrs`: the invariant is that the whole is what the attributes from here on name, after what is in the table. Assumes nothing.
use Prim.Native.Nat.{◌-◌}
use lib.ListN.{length}
use Rattle.marking.specs.EntryReferences.{locations_by}
use Rattle.marking.proofs.AttributeScans.{Scanning}
use Rattle.marking.proofs.references.scan_live_die_attrs.Given as goal

abbrev pub invariant-loop-a : goal.invariant-loop-a
invariant-loop-a l = Scanning l.e (locations_by l.unit l.locations l.loclists_base) l.abbreviations l.initial.targets l.initial.p.at l.initial.c.at l.at l.targets l.p.at l.c.at l.to

abbrev pub decreases-loop-a : goal.decreases-loop-a
decreases-loop-a l = length l.abbreviations - l.p.at
