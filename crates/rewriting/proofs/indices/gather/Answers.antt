-- `gather`: each list has the indices of the kept items so far, and is to get those of the items from here on. Assumes nothing.
use mathlib.Core.Path.{refl}
use native.Mathlib.Omega.{arith}
use Rattle.rewriting.proofs.Whole.CollectTurns.{collecting-start, collect-end, collect-less, collect-terminator, collect-entry}
use Rattle.rewriting.proofs.indices.gather.Goals as goal

pub loop-x-init : goal.loop-x-init
loop-x-init c = rw c.start-s.ensures (collecting-start _ _ _ _ 0 _ _ _ _ _ _ refl, collecting-start _ _ _ _ 1 _ _ _ _ _ _ refl, collecting-start _ _ _ _ 2 _ _ _ _ _ _ refl)

pub returns-in_default : goal.returns-in_default
returns-in_default c = (
  collect-end _ _ _ _ 0 _ _ _ _ _ _ c.next_kept.ensures _ _ _ c.loop-x.invariant.0 c.in_default.is (omega arith),
  (
    collect-end _ _ _ _ 1 _ _ _ _ _ _ c.next_kept.ensures _ _ _ c.loop-x.invariant.1 c.in_default.is (omega arith),
    collect-end _ _ _ _ 2 _ _ _ _ _ _ c.next_kept.ensures _ _ _ c.loop-x.invariant.2 c.in_default.is (omega arith),
  ),
)

pub loop-x-smaller-then-x : goal.loop-x-smaller-then-x
loop-x-smaller-then-x c = collect-less _ _ _ _ 0 _ _ _ 0 _ _ c.next_kept.ensures c.in-Item.x c.in-Item.is

pub loop-x-preserved-then-x : goal.loop-x-preserved-then-x
loop-x-preserved-then-x c = (
  collect-entry _ _ _ _ 0 _ _ _ _ _ _ c.next_kept.ensures _ _ _ c.loop-x.invariant.0 c.in-Item.x c.in-Item.is c.if-x.true _ _ c.entry_gather-g.auto.range_list c.entry_gather-g.ensures.0,
  collect-entry _ _ _ _ 1 _ _ _ _ _ _ c.next_kept.ensures _ _ _ c.loop-x.invariant.1 c.in-Item.x c.in-Item.is c.if-x.true _ _ c.entry_gather-g.auto.location_list c.entry_gather-g.ensures.1.0,
  collect-entry _ _ _ _ 2 _ _ _ _ _ _ c.next_kept.ensures _ _ _ c.loop-x.invariant.2 c.in-Item.x c.in-Item.is c.if-x.true _ _ c.entry_gather-g.auto.string_list c.entry_gather-g.ensures.1.1,
)

pub loop-x-smaller : goal.loop-x-smaller
loop-x-smaller c = collect-less _ _ _ _ 0 _ _ _ 0 _ _ c.next_kept.ensures c.in-Item.x c.in-Item.is

pub loop-x-preserved : goal.loop-x-preserved
loop-x-preserved c = (
  collect-terminator _ _ _ _ 0 _ _ _ _ _ _ c.next_kept.ensures _ _ _ c.loop-x.invariant.0 c.in-Item.x c.in-Item.is c.if-x.false,
  collect-terminator _ _ _ _ 1 _ _ _ _ _ _ c.next_kept.ensures _ _ _ c.loop-x.invariant.1 c.in-Item.x c.in-Item.is c.if-x.false,
  collect-terminator _ _ _ _ 2 _ _ _ _ _ _ c.next_kept.ensures _ _ _ c.loop-x.invariant.2 c.in-Item.x c.in-Item.is c.if-x.false,
)
