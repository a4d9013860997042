-- `emit_entry`: the invariant is that the answer from here on is that of all attributes. Assumes nothing.
use Rattle.readers.proofs.Refusing.{passed-on}
use mathlib.Core.Path.{refl, ap, ◌∙◌}
use Rattle.std.specs.Prelude.{Some}
use Rattle.readers.specs.declared.cursor.Cursor.{Cursor}
use Rattle.rewriting.proofs.WritePass.Emissions.{from_start, within-self, within_on, copied-front, copied-within, copied_on, emits-on, size_small, after_small, onward-to, onward-no}
use Rattle.rewriting.proofs.WritePass.EntryEmits.{entering-begin, entry_done, entering-less, entering-end, entering-refused, entering-on}
use Rattle.rewriting.proofs.MapPass.Exact.{are-bytes}
use Rattle.rewriting.proofs.WritePass.Plans.{plan-over, plan-more, plan-copied, copied-less, entering-copied}
use Rattle.rewriting.proofs.emit_entry.emit_entry.Goals as goal

pub loop-past-init : goal.loop-past-init
loop-past-init c = (within-self (copied-within _ _ _ _ c.emit_bytes-to.ensures.count c.emit_bytes-to.ensures.part), λ lists ps whole rest m n b lent i d. entering-begin lists ps _ _ _ _ whole _ _ _ _ rest i d)

pub overflow_add-to : goal.overflow_add-to
overflow_add-to c = record { fits = after_small _ _ _ c.loop-past.invariant.0 _ _ (copied-within _ _ _ _ c.emit_bytes-n.ensures.count c.emit_bytes-n.ensures.part) (size_small (copied-within _ _ _ _ c.emit_bytes-to.ensures.count c.emit_bytes-to.ensures.part) c.well_formed.1.1.1.1.1.1.1.1.1.1.1.1.1.1.1.1.0.0) _ refl }

pub loop-past-smaller-in-Some-Copy : goal.loop-past-smaller-in-Some-Copy
loop-past-smaller-in-Some-Copy c = copied-less _ _ _ _ _ _ _ (plan-copied _ _ c.next_plan.ensures _ _ (c.in-Some-Copy.is ∙ ap Some c.in-Some-Copy.field-0-is))

pub loop-past-preserved-in-Some-Copy : goal.loop-past-preserved-in-Some-Copy
loop-past-preserved-in-Some-Copy c = (
  within_on _ _ _ c.loop-past.invariant.0 _ _ (copied-within _ _ _ _ c.emit_bytes-n.ensures.count c.emit_bytes-n.ensures.part) _ refl,
  λ lists ps reads after m n b lent i k.
      entering-copied _ _ _ _ _ _ _ (plan-copied _ _ c.next_plan.ensures _ _ (c.in-Some-Copy.is ∙ ap Some c.in-Some-Copy.field-0-is)) lists ps _ reads _ _ _ _ (are-bytes c.args.unit.now c.type_inv.unit)
      (c.loop-past.invariant.1 lists ps reads after m n b lent i k) _ _
      (copied_on _ _ _ c.loop-past.invariant.0 _ _ _ c.emit_bytes-n.ensures.count c.emit_bytes-n.ensures.part _ c.bytes_between-in-Some-Copy.ensures),
)

pub returns-in_err-to-in-Some-Change-clause-bytes : goal.returns-in_err-to-in-Some-Change-clause-bytes
returns-in_err-to-in-Some-Change-clause-bytes c = rw (passed-on _ _ c.from_residual.ensures.1) (λ lists ps look x rs rest m n b lent step sp va d. from_start (entry_done _ _ look _ _ x step rs rest d _ _ (ap (λ (k : Cursor). k.at) sp) (ap (λ (k : Cursor). k.at) va) lists ps _ _ _ _ _ (λ _ _. copied-front _ _ _ _ c.emit_bytes-to.ensures.count c.emit_bytes-to.ensures.part _ c.bytes_between.ensures) _ _ (λ reads after i k. entering-refused lists ps _ _ _ _ reads _ _ _ _ _ _ (c.loop-past.invariant.1 lists ps reads after m n b lent i k) _ (plan-more _ _ c.next_plan.ensures _ (c.in-Some-Change.is ∙ ap Some c.in-Some-Change.field-0-is)) _ refl _ _ (λ one mid j v e. emits-on _ _ _ c.loop-past.invariant.0 (c.emit_attribute.ensures.bytes lists ps one mid m n b lent j v e)) _ (onward-no _ _ _ c.in_err-to-in-Some-Change.was))))

pub loop-past-smaller : goal.loop-past-smaller
loop-past-smaller c = entering-less _ _ _ _ _ _ _ (plan-more _ _ c.next_plan.ensures _ (c.in-Some-Change.is ∙ ap Some c.in-Some-Change.field-0-is)) refl

pub loop-past-preserved : goal.loop-past-preserved
loop-past-preserved c = (within_on _ _ _ c.loop-past.invariant.0 _ _ c.emit_attribute.ensures.within _ c.in_ok-to-in-Some-Change.was, λ lists ps reads after m n b lent i k. entering-on lists ps _ _ _ _ reads _ _ _ _ _ _ (c.loop-past.invariant.1 lists ps reads after m n b lent i k) _ (plan-more _ _ c.next_plan.ensures _ (c.in-Some-Change.is ∙ ap Some c.in-Some-Change.field-0-is)) _ refl _ _ (λ one mid j v e. emits-on _ _ _ c.loop-past.invariant.0 (c.emit_attribute.ensures.bytes lists ps one mid m n b lent j v e)) _ (onward-to _ _ _ c.in_ok-to-in-Some-Change.was))

pub returns-in-None-clause-bytes : goal.returns-in-None-clause-bytes
returns-in-None-clause-bytes c = λ lists ps look x rs rest m n b lent step sp va d. from_start (entry_done _ _ look _ _ x step rs rest d _ _ (ap (λ (k : Cursor). k.at) sp) (ap (λ (k : Cursor). k.at) va) lists ps _ _ _ _ _ (λ _ _. copied-front _ _ _ _ c.emit_bytes-to.ensures.count c.emit_bytes-to.ensures.part _ c.bytes_between.ensures) _ _ (λ reads after i k. entering-end lists ps _ _ _ _ reads _ _ _ _ _ _ (c.loop-past.invariant.1 lists ps reads after m n b lent i k) _ (plan-over _ _ c.next_plan.ensures c.in-None.is) refl))
