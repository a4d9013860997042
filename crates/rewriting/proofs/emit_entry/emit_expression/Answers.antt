-- `emit_expression`: the invariant is that the answer from here on is that of the whole. Assumes nothing.
use Rattle.readers.proofs.Refusing.{passed-on}
use mathlib.Core.Path.{refl}
use native.Mathlib.Omega.{arith}
use Rattle.rewriting.proofs.MapPass.Exact.{are-bytes}
use Rattle.marking.proofs.NextOffsets.{next-less}
use Rattle.rewriting.proofs.WritePass.Yielded.{next-placed, next_small}
use Rattle.rewriting.proofs.WritePass.Emissions.{from_start, within-start, within_on, within-stop, inside, between-whole, copied-within, copied_on, emits-on, after_small, onward-to, onward-no}
use Rattle.rewriting.proofs.WritePass.Splices.{going_start, going_end, going-refused, going_on}
use Rattle.rewriting.proofs.emit_entry.emit_expression.Goals as goal

pub loop-r-init : goal.loop-r-init
loop-r-init c = (within-start _, omega arith, omega arith, λ lists ps depth pieces h p q. going_start lists ps depth pieces _ _ _ _ (are-bytes c.args.s.now c.type_inv.s) q)

pub overflow_add-result : goal.overflow_add-result
overflow_add-result c = record { fits = after_small _ _ _ c.loop-r.invariant.0 _ _ (copied-within _ _ _ _ c.emit_bytes-n.ensures.count c.emit_bytes-n.ensures.part) c.well_formed.1.1.1.1.0.0 _ refl }

pub returns-in_default : goal.returns-in_default
returns-in_default c = record {
  within = within_on _ _ _ c.loop-r.invariant.0 _ _ (copied-within _ _ _ _ c.emit_bytes-n.ensures.count c.emit_bytes-n.ensures.part) _ refl;
  bytes = λ lists ps depth pieces h p q. from_start (going_end lists ps depth pieces _ _ _ _ _ _ _ _ (c.loop-r.invariant.3 lists ps depth pieces h p q) _ c.next_reference.ensures c.in_default.is _ _ (λ _ _. copied_on _ _ _ c.loop-r.invariant.0 _ _ _ c.emit_bytes-n.ensures.count c.emit_bytes-n.ensures.part _ (between-whole _ _ _)));
}

pub slice_bounds-emit_bytes-count-in-loop-r : goal.slice_bounds-emit_bytes-count-in-loop-r
slice_bounds-emit_bytes-count-in-loop-r c = omega (arith, c.loop-r.invariant.1, (next-placed _ _ _ _ c.next_reference.ensures _ c.in-Some.is).0, (next-placed _ _ _ _ c.next_reference.ensures _ c.in-Some.is).1, (next-placed _ _ _ _ c.next_reference.ensures _ c.in-Some.is).2)

pub slice_bounds-emit_bytes-start-in-loop-r : goal.slice_bounds-emit_bytes-start-in-loop-r
slice_bounds-emit_bytes-start-in-loop-r c = omega (arith, c.loop-r.invariant.1, (next-placed _ _ _ _ c.next_reference.ensures _ c.in-Some.is).0, (next-placed _ _ _ _ c.next_reference.ensures _ c.in-Some.is).1, (next-placed _ _ _ _ c.next_reference.ensures _ c.in-Some.is).2)

pub slice_bounds-emit_bytes-end-in-loop-r : goal.slice_bounds-emit_bytes-end-in-loop-r
slice_bounds-emit_bytes-end-in-loop-r c = omega (arith, c.loop-r.invariant.1, (next-placed _ _ _ _ c.next_reference.ensures _ c.in-Some.is).0, (next-placed _ _ _ _ c.next_reference.ensures _ c.in-Some.is).1, (next-placed _ _ _ _ c.next_reference.ensures _ c.in-Some.is).2)

pub overflow_add-to : goal.overflow_add-to
overflow_add-to c = record { fits = after_small _ _ _ c.loop-r.invariant.0 _ _ (copied-within _ _ _ _ c.emit_bytes-n-in-loop-r.ensures.count c.emit_bytes-n-in-loop-r.ensures.part) c.well_formed.1.1.1.1.0.0 _ refl }

pub slice_bounds-emit_offset-count : goal.slice_bounds-emit_offset-count
slice_bounds-emit_offset-count c = omega (arith, inside _ _ _ (within_on _ _ _ c.loop-r.invariant.0 _ _ (copied-within _ _ _ _ c.emit_bytes-n-in-loop-r.ensures.count c.emit_bytes-n-in-loop-r.ensures.part) _ refl))

pub slice_bounds-emit_offset-start : goal.slice_bounds-emit_offset-start
slice_bounds-emit_offset-start c = omega (arith, inside _ _ _ (within_on _ _ _ c.loop-r.invariant.0 _ _ (copied-within _ _ _ _ c.emit_bytes-n-in-loop-r.ensures.count c.emit_bytes-n-in-loop-r.ensures.part) _ refl))

pub overflow_add-to-in-loop-r : goal.overflow_add-to-in-loop-r
overflow_add-to-in-loop-r c = record { fits = after_small _ _ _ (within_on _ _ _ c.loop-r.invariant.0 _ _ (copied-within _ _ _ _ c.emit_bytes-n-in-loop-r.ensures.count c.emit_bytes-n-in-loop-r.ensures.part) _ refl) _ _ c.emit_offset.ensures.within c.well_formed.1.1.1.1.0.0 _ c.in_ok-to.was }

pub returns-in_err-to : goal.returns-in_err-to
returns-in_err-to c = rw (passed-on _ _ c.from_residual.ensures.1) (record {
  within = within-stop _ _ _ (within_on _ _ _ c.loop-r.invariant.0 _ _ (copied-within _ _ _ _ c.emit_bytes-n-in-loop-r.ensures.count c.emit_bytes-n-in-loop-r.ensures.part) _ refl) _ _ c.emit_offset.ensures.within _;
  bytes = λ lists ps depth pieces h p q. from_start (going-refused lists ps depth pieces _ _ _ _ _ _ _ _ (c.loop-r.invariant.3 lists ps depth pieces h p q) _ c.next_reference.ensures _ c.in-Some.is _ _ (λ _ _. copied_on _ _ _ c.loop-r.invariant.0 _ _ _ c.emit_bytes-n-in-loop-r.ensures.count c.emit_bytes-n-in-loop-r.ensures.part _ (between-whole _ _ _)) _ (c.hinted_offset.ensures ps h p) _ _ (λ o v m w. emits-on _ _ _ (within_on _ _ _ c.loop-r.invariant.0 _ _ (copied-within _ _ _ _ c.emit_bytes-n-in-loop-r.ensures.count c.emit_bytes-n-in-loop-r.ensures.part) _ refl) (c.emit_offset.ensures.bytes o v m w)) _ (onward-no _ _ _ c.in_err-to.was));
})

pub overflow_add-copied : goal.overflow_add-copied
overflow_add-copied c = record { fits = next_small _ _ _ _ c.next_reference.ensures _ c.in-Some.is c.well_formed.0.0 }

pub loop-r-smaller : goal.loop-r-smaller
loop-r-smaller c = search next-less

pub loop-r-preserved : goal.loop-r-preserved
loop-r-preserved c = (within_on _ _ _ (within_on _ _ _ c.loop-r.invariant.0 _ _ (copied-within _ _ _ _ c.emit_bytes-n-in-loop-r.ensures.count c.emit_bytes-n-in-loop-r.ensures.part) _ refl) _ _ c.emit_offset.ensures.within _ c.in_ok-to.was, (next-placed _ _ _ _ c.next_reference.ensures _ c.in-Some.is).1, (next-placed _ _ _ _ c.next_reference.ensures _ c.in-Some.is).2, λ lists ps depth pieces h p q. going_on lists ps depth pieces _ _ _ _ _ _ _ _ (c.loop-r.invariant.3 lists ps depth pieces h p q) _ c.next_reference.ensures _ c.in-Some.is _ _ (λ _ _. copied_on _ _ _ c.loop-r.invariant.0 _ _ _ c.emit_bytes-n-in-loop-r.ensures.count c.emit_bytes-n-in-loop-r.ensures.part _ (between-whole _ _ _)) _ (c.hinted_offset.ensures ps h p) _ _ (λ o v m w. emits-on _ _ _ (within_on _ _ _ c.loop-r.invariant.0 _ _ (copied-within _ _ _ _ c.emit_bytes-n-in-loop-r.ensures.count c.emit_bytes-n-in-loop-r.ensures.part) _ refl) (c.emit_offset.ensures.bytes o v m w)) _ (onward-to _ _ _ c.in_ok-to.was) _ (λ _. refl))
