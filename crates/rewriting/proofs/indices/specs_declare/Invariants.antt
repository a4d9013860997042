-- `specs_declare`: what all specifications declare is what those from here on do. Assumes nothing.
use mathlib.Core.Path.{◌≡◌}
use Prim.Native.Nat.{◌-◌}
use lib.ListN.{length}
use Rattle.readers.specs.EntryAttributes.{specs_from}
use Rattle.rewriting.specs.Inner.Indices.{specs_declare}
use Rattle.rewriting.proofs.indices.specs_declare.Given as goal

abbrev pub invariant-loop-step : goal.invariant-loop-step
invariant-loop-step l = specs_declare l.name (specs_from l.abbreviations l.initial.p.at) ≡ specs_declare l.name (specs_from l.abbreviations l.p.at)

abbrev pub decreases-loop-step : goal.decreases-loop-step
decreases-loop-step l = length l.abbreviations - l.p.at
