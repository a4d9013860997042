-- `place_items` counts each kept item and puts its place: what is done, and what is kept from here on, is the whole. Assumes nothing.
use Prim.Native.Nat.{◌-◌}
use lib.ListN.{length}
use Rattle.rewriting.specs.Inner.NextKept.{items_by}
use Rattle.rewriting.proofs.MapPass.MapFills.{Placing}
use Rattle.rewriting.proofs.offset_pass.place_items.Given as goal

abbrev pub invariant-loop-x : goal.invariant-loop-x
invariant-loop-x l = Placing (items_by l.r l.abbreviations l.index l.unit) l.parents l.ends l.marks l.unit l.fn.first.0 l.initial.map l.map l.s l.places l.new.0

abbrev pub decreases-loop-x : goal.decreases-loop-x
decreases-loop-x l = length l.unit - l.s.at.at
