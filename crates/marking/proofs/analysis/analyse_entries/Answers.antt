-- `analyse_entries` writes the rows one after the other, and answers what is analysed from the first entry on. The measure is what is left of the unit. Assumes nothing.
use Rattle.std.specs.Prelude.{Some}
use Rattle.readers.proofs.Refusing.{refused-none, read_some, passed-on}
use mathlib.Core.Path.{ap, refl, sym, ◌∙◌}
use Prim.Native.Nat.{◌^◌, ◌<◌}
use native.Mathlib.Omega.{arith}
use Rattle.marking.specs.Analysis.{values_of_entry, base_of}
use Rattle.readers.proofs.Streams.{terminator-inside}
use Rattle.readers.proofs.Values.{entry-headed, headed as head_step, headed-terminator, headed-end, headed-none}
use Rattle.marking.proofs.Stages.{stage-start, stage-terminator, stage-end, stage-unreadable, head-full, head-refused, head-ahead, head-over, head-entry}
use Rattle.marking.proofs.analysis.analyse_entries.Goals as goal

pub loop-x-init : goal.loop-x-init
loop-x-init c = stage-start _ _ _ _ _ _ _ _ _ _ _ _ _ _ _ c.outside-nesting.ensures c.list_base-rnglists_base.ensures c.list_base-loclists_base.ensures
    c.well_formed.1.1.1.1.1.1.1.1.0.1
    c.requires

pub returns-then-count-entry_room : goal.returns-then-count-entry_room
returns-then-count-entry_room c = head-full c.loop-x.invariant _ _ (head_step _ _ _ _ _ _ (entry-headed _ _ _ _ _ _ _ c.entry_head.ensures) _ (read_some _ _ _ _ c.ok_or.ensures.value c.in_ok-x.was ∙ ap Some c.in-Entry.is) _ refl) _ c.refusal.ensures c.if-count-entry_room.true

pub analyse_entry-requires : goal.analyse_entry-requires
analyse_entry-requires c = c.requires.listed

pub returns-in_err-root-in-Entry : goal.returns-in_err-root-in-Entry
unfolding values_of_entry base_of
returns-in_err-root-in-Entry c = let e = passed-on _ _ c.from_residual-in_err-root-in-Entry.ensures.1 in let h = head-refused c.loop-x.invariant _ _ (head_step _ _ _ _ _ _ (entry-headed _ _ _ _ _ _ _ c.entry_head.ensures) _ (read_some _ _ _ _ c.ok_or.ensures.value c.in_ok-x.was ∙ ap Some c.in-Entry.is) _ refl) c.if-count-entry_room.false _ _ c.base_after-rnglists_base.ensures c.base_after-loclists_base.ensures _ c.analyse_entry.ensures.1 _ (sym c.in_err-root-in-Entry.was ∙ c.analyse_entry.ensures.0)
    in (e ∙ h.0, h.1)

pub returns-then-place-reference_room : goal.returns-then-place-reference_room
unfolding values_of_entry base_of
returns-then-place-reference_room c = head-over c.loop-x.invariant _ _ (head_step _ _ _ _ _ _ (entry-headed _ _ _ _ _ _ _ c.entry_head.ensures) _ (read_some _ _ _ _ c.ok_or.ensures.value c.in_ok-x.was ∙ ap Some c.in-Entry.is) _ refl) c.if-count-entry_room.false _ _ c.base_after-rnglists_base.ensures c.base_after-loclists_base.ensures _ c.analyse_entry.ensures.1 _ _ _ (sym c.in_ok-root-in-Entry.was ∙ c.analyse_entry.ensures.0) c.if-place-reference_room.true

pub offset_bounds-offsets-count : goal.offset_bounds-offsets-count
offset_bounds-offsets-count c = omega (arith, (let z : c.loop-x.count < 2 ^ 60 = omega (arith, c.if-count-entry_room.false, c.loop-x.invariant.few) in z))

pub bounds-offsets-count : goal.bounds-offsets-count
bounds-offsets-count c = omega (arith, c.loop-x.invariant.offsets_are.size, c.loop-x.invariant.offsets_room, c.if-count-entry_room.false)

pub offset_bounds-parents-count : goal.offset_bounds-parents-count
offset_bounds-parents-count c = omega (arith, (let z : c.loop-x.count < 2 ^ 60 = omega (arith, c.if-count-entry_room.false, c.loop-x.invariant.few) in z))

pub bounds-parents-count : goal.bounds-parents-count
bounds-parents-count c = omega (arith, c.loop-x.invariant.parents_are.size, c.loop-x.invariant.parents_room, c.if-count-entry_room.false)

pub bounds-roots-count : goal.bounds-roots-count
bounds-roots-count c = omega (arith, c.loop-x.invariant.roots-are.size, c.loop-x.invariant.roots_room, c.if-count-entry_room.false)

pub offset_bounds-reference_ends-count : goal.offset_bounds-reference_ends-count
offset_bounds-reference_ends-count c = omega (arith, (let z : c.loop-x.count < 2 ^ 60 = omega (arith, c.if-count-entry_room.false, c.loop-x.invariant.few) in z))

pub bounds-reference_ends-count : goal.bounds-reference_ends-count
bounds-reference_ends-count c = omega (arith, c.loop-x.invariant.ends-are.size, c.loop-x.invariant.ends_room, c.if-count-entry_room.false)

pub overflow_add-count : goal.overflow_add-count
overflow_add-count c = omega (arith, (let z : c.loop-x.count < 2 ^ 60 = omega (arith, c.if-count-entry_room.false, c.loop-x.invariant.few) in z))

pub loop-x-smaller-in-Entry : goal.loop-x-smaller-in-Entry
unfolding values_of_entry base_of
loop-x-smaller-in-Entry c = let a = head-ahead c.loop-x.invariant _ _ (head_step _ _ _ _ _ _ (entry-headed _ _ _ _ _ _ _ c.entry_head.ensures) _ (read_some _ _ _ _ c.ok_or.ensures.value c.in_ok-x.was ∙ ap Some c.in-Entry.is) _ refl) c.if-count-entry_room.false _ _ c.base_after-rnglists_base.ensures c.base_after-loclists_base.ensures _ c.analyse_entry.ensures.1 _ _ _ (sym c.in_ok-root-in-Entry.was ∙ c.analyse_entry.ensures.0) in omega (arith, a.0, a.1)

pub loop-x-preserved-in-Entry : goal.loop-x-preserved-in-Entry
unfolding values_of_entry base_of
loop-x-preserved-in-Entry c = head-entry c.loop-x.invariant _ _ (head_step _ _ _ _ _ _ (entry-headed _ _ _ _ _ _ _ c.entry_head.ensures) _ (read_some _ _ _ _ c.ok_or.ensures.value c.in_ok-x.was ∙ ap Some c.in-Entry.is) _ refl) c.if-count-entry_room.false _ _ c.base_after-rnglists_base.ensures c.base_after-loclists_base.ensures _ c.analyse_entry.ensures.1 _ _ _ (sym c.in_ok-root-in-Entry.was ∙ c.analyse_entry.ensures.0) c.if-place-reference_room.false _ c.after_entry-nesting.ensures

pub loop-x-smaller : goal.loop-x-smaller
loop-x-smaller c = let a = terminator-inside c.args.e _ _ _ _ _ (sym (headed-terminator c.args.e _ _ _ _ _ (entry-headed _ _ _ _ _ _ _ c.entry_head.ensures) _ (read_some _ _ _ _ c.ok_or.ensures.value c.in_ok-x.was ∙ ap Some c.in-Terminator.is))) in omega (arith, a.0, a.1)

pub loop-x-preserved : goal.loop-x-preserved
loop-x-preserved c = stage-terminator c.loop-x.invariant _ (headed-terminator _ _ _ _ _ _ (entry-headed _ _ _ _ _ _ _ c.entry_head.ensures) _ (read_some _ _ _ _ c.ok_or.ensures.value c.in_ok-x.was ∙ ap Some c.in-Terminator.is)) _ c.after_terminator-nesting.ensures

pub returns-in-End : goal.returns-in-End
returns-in-End c = stage-end c.loop-x.invariant (headed-end _ _ _ _ _ _ (entry-headed _ _ _ _ _ _ _ c.entry_head.ensures) (read_some _ _ _ _ c.ok_or.ensures.value c.in_ok-x.was ∙ ap Some c.in-End.is))

pub returns-in_err-x : goal.returns-in_err-x
returns-in_err-x c = let e = refused-none _ _ _ _ _ c.ok_or.ensures.value c.in_err-x.was c.from_residual.ensures.1 in let h = stage-unreadable c.loop-x.invariant (headed-none _ _ _ _ _ _ (entry-headed _ _ _ _ _ _ _ c.entry_head.ensures) e.0)
    in (e.1 ∙ h.0, h.1)
