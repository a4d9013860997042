-- `entry_declares`: what all attributes declare is what those from here on do. Assumes nothing.
use mathlib.Core.Path.{◌≡◌}
use Prim.Native.Nat.{◌-◌}
use lib.ListN.{length}
use Rattle.readers.specs.EntryAttributes.{entry_values}
use Rattle.rewriting.specs.Indices.{declares}
use Rattle.rewriting.proofs.indices.entry_declares.Given as goal

abbrev pub invariant-loop-a : goal.invariant-loop-a
invariant-loop-a l = declares l.name (entry_values l.e l.abbreviations l.initial.p.at l.unit l.initial.from.at) ≡ declares l.name (entry_values l.e l.abbreviations l.p.at l.unit l.from.at)

abbrev pub decreases-loop-a : goal.decreases-loop-a
decreases-loop-a l = length l.abbreviations - l.p.at
