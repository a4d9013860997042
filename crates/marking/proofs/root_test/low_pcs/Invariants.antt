-- `low_pcs` asks each low_pc in turn. The invariant: the answer over all attributes is that over those from here on. Each specification takes bytes, so what
use mathlib.Core.Path.{◌≡◌}
use Prim.Native.Nat.{◌-◌}
use lib.ListN.{length}
use Rattle.marking.specs.Roots.{low_pcs}
use Rattle.readers.specs.EntryAttributes.{entry_values}
use Rattle.marking.proofs.root_test.low_pcs.Given as goal

abbrev pub invariant-loop-a : goal.invariant-loop-a
invariant-loop-a l = low_pcs l.e l.table (entry_values l.e l.abbreviations l.initial.p.at l.unit l.initial.c.at) ≡ low_pcs l.e l.table (entry_values l.e l.abbreviations l.p.at l.unit l.c.at)

abbrev pub decreases-loop-a : goal.decreases-loop-a
decreases-loop-a l = length l.abbreviations - l.p.at
