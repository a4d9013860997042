-- `emit_dies`: what is said of the items from here on is said of all. Assumes nothing.
use Rattle.readers.proofs.Refusing.{passed-on}
use mathlib.Core.Path.{refl}
use Rattle.rewriting.proofs.KeptPass.KeptPasses.{next-less}
use Rattle.rewriting.proofs.WritePass.Emissions.{from_start, within-start, within_on, within-stop, copied-within, copied_on, emits-on, after_small, onward-to, onward-no}
use Rattle.rewriting.proofs.WritePass.ItemEmits.{writing_start, writing-end, writing-refused, writing-entry, writing-terminator}
use Rattle.rewriting.proofs.emit_unit.emit_dies.Goals as goal

pub loop-x-init : goal.loop-x-init
loop-x-init c = rw c.start-s.ensures (within-start _, λ x u lists ps p q h k b g. writing_start _ _ _ _ _ _ _ _ x u lists ps p q _ _ refl)

pub returns-in_default : goal.returns-in_default
returns-in_default c = record {
  within = c.loop-x.invariant.0;
  bytes = λ x u lists ps p q h k b g. from_start (writing-end _ _ _ _ _ _ _ _ x u lists ps p _ _ _ _ (c.loop-x.invariant.1 x u lists ps p q h k b g) _ c.next_kept.ensures c.in_default.is);
}

pub loop-x-smaller-then-x : goal.loop-x-smaller-then-x
loop-x-smaller-then-x c = search next-less

pub loop-x-preserved-then-x : goal.loop-x-preserved-then-x
loop-x-preserved-then-x c = (within_on _ _ _ c.loop-x.invariant.0 _ _ c.emit_entry.ensures.within _ c.in_ok-to.was, λ x u lists ps p q h k b g. writing-entry _ _ _ _ _ _ _ _ x u lists ps p _ _ _ _ (c.loop-x.invariant.1 x u lists ps p q h k b g) _ c.next_kept.ensures c.in-Some.x c.in-Some.is c.if-x.true _ _ (λ look z rs rest s t v d. emits-on _ _ _ c.loop-x.invariant.0 (c.emit_entry.ensures.bytes lists ps look z rs rest h k b g s t v d)) _ (onward-to _ _ _ c.in_ok-to.was))

pub returns-in_err-to : goal.returns-in_err-to
returns-in_err-to c = rw (passed-on _ _ c.from_residual.ensures.1) (record {
  within = within-stop _ _ _ c.loop-x.invariant.0 _ _ c.emit_entry.ensures.within _;
  bytes = λ x u lists ps p q h k b g. from_start (writing-refused _ _ _ _ _ _ _ _ x u lists ps p _ _ _ _ (c.loop-x.invariant.1 x u lists ps p q h k b g) _ c.next_kept.ensures c.in-Some.x c.in-Some.is c.if-x.true _ _ (λ look z rs rest s t v d. emits-on _ _ _ c.loop-x.invariant.0 (c.emit_entry.ensures.bytes lists ps look z rs rest h k b g s t v d)) _ (onward-no _ _ _ c.in_err-to.was));
})

pub overflow_add-to-else-x : goal.overflow_add-to-else-x
overflow_add-to-else-x c = record { fits = after_small _ _ _ c.loop-x.invariant.0 _ _ (copied-within _ _ _ _ c.emit_bytes-n.ensures.count c.emit_bytes-n.ensures.part) c.well_formed.1.1.1.1.1.1.1.1.1.1.1.1.1.1.1.1.1.0.0 _ refl }

pub loop-x-smaller : goal.loop-x-smaller
loop-x-smaller c = search next-less

pub loop-x-preserved : goal.loop-x-preserved
loop-x-preserved c = (within_on _ _ _ c.loop-x.invariant.0 _ _ (copied-within _ _ _ _ c.emit_bytes-n.ensures.count c.emit_bytes-n.ensures.part) _ refl, λ x u lists ps p q h k b g. writing-terminator _ _ _ _ _ _ _ _ x u lists ps p _ _ _ _ (c.loop-x.invariant.1 x u lists ps p q h k b g) _ c.next_kept.ensures c.in-Some.x c.in-Some.is c.if-x.false _ _ (λ _ _. copied_on _ _ _ c.loop-x.invariant.0 _ _ _ c.emit_bytes-n.ensures.count c.emit_bytes-n.ensures.part _ c.bytes_between.ensures))
