-- `place_items` counts each kept item and puts its place: what is done, and what is kept from here on, is the whole. Assumes nothing.
use mathlib.Core.Path.{refl}
use Prim.Native.Nat.{◌+◌, ◌-◌, ◌≤◌, ◌<◌}
use native.Mathlib.Omega.{arith}
use borrow.Author.Rules.{rules}
use lib.ListN.{length}
use Rattle.rewriting.proofs.KeptPass.KeptPasses.{measuring-end, measuring-fits, next-less}
use Rattle.rewriting.proofs.MapPass.MapFills.{placing-start, placing-end, placing-more}
use Rattle.rewriting.proofs.offset_pass.place_items.Goals as goal

pub loop-x-init : goal.loop-x-init
loop-x-init c = rw c.start-s.ensures (placing-start _ _ _ _ _ _ _ _ refl)

pub returns-in_default : goal.returns-in_default
returns-in_default c = (search measuring-end, search placing-end)

pub overflow_sub-new : goal.overflow_sub-new
overflow_sub-new c = (measuring-fits _ _ _ _ _ _ _ _ _ c.loop-x.invariant.measuring _ c.next_kept.ensures _ c.in-Item.is).1

pub overflow_add-new : goal.overflow_add-new
overflow_add-new c = let f = measuring-fits _ _ _ _ _ _ _ _ _ c.loop-x.invariant.measuring _ c.next_kept.ensures _ c.in-Item.is in
    let g : c.loop-x.new.0 + (c.in-Item.x.end.at - c.in-Item.x.start.0) ≤ c.in-Item.x.end.at = f.2 in
    let h : c.in-Item.x.end.at ≤ length c.args.unit.now = f.3 in
    let z : c.loop-x.new.0 + (c.in-Item.x.end.at - c.in-Item.x.start.0) < 18446744073709551616 = omega (arith, g, h, c.well_formed.0.1) in
    record { fits = z }

pub loop-x-smaller : goal.loop-x-smaller
loop-x-smaller c = search next-less

pub loop-x-preserved : goal.loop-x-preserved
loop-x-preserved c = placing-more _ _ _ _ _ _ _ _ _ _ _ c.loop-x.invariant _ c.next_kept.ensures _ c.in-Item.is _ (search rules) c.put_place.ensures
