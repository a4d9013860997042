-- `next_kept`: what is kept from the start on is what is kept from here on. Assumes nothing.
use mathlib.Core.Path.{sym, ◌∙◌}
use native.Mathlib.Omega.{arith}
use Rattle.readers.proofs.Declarations.{found_at}
use Rattle.readers.proofs.Values.{step_end}
use Rattle.rewriting.proofs.KeptPass.KeptSteps.{stand, end-end, stop-none, at-terminator, stop-unknown, stop-past, stop-low, stop-high, ends-less, ends_on, ends-item, terminator-less, terminator-item, terminator-on}
use Rattle.rewriting.proofs.KeptPass.EndsFilled.{end-there}
use Rattle.rewriting.proofs.kept_items.next_kept.Goals as goal
use Rattle.rewriting.proofs.kept_items.next_kept.Goals.{then-end-values-via-then-end-values, then-end-values-via-else-end-values+then-end-unit}

pub returns-then-at-unit : goal.returns-then-at-unit
returns-then-at-unit c = end-end _ _ _ _ _ _ _ c.args.s (stand c.loop-at.at.at c.loop-at.count.0 c.loop-at.nesting) c.loop-at.invariant (sym (step_end _ _ _ _ _ c.if-at-unit.true))

pub returns-in_err-code : goal.returns-in_err-code
returns-in_err-code c = rw c.from_residual.ensures (stop-none _ _ _ _ _ _ _ c.args.s (stand c.loop-at.at.at c.loop-at.count.0 c.loop-at.nesting) c.loop-at.invariant c.if-at-unit.false _ c.uleb.ensures c.in_err-code.was)

pub returns-then-kept : goal.returns-then-kept
returns-then-kept c = terminator-item _ _ _ _ _ _ _ c.args.s (stand c.loop-at.at.at c.loop-at.count.0 c.loop-at.nesting) c.loop-at.invariant _ (at-terminator _ _ _ _ _ _ _ c.args.s (stand c.loop-at.at.at c.loop-at.count.0 c.loop-at.nesting) c.loop-at.invariant c.if-at-unit.false _ c.uleb.ensures _ _ c.in_ok-code.was c.if-code-eq0.true) _ c.after_terminator-nesting.ensures (sym c.closes_kept-kept.ensures ∙ c.if-kept.true)

pub loop-at-smaller-else-kept : goal.loop-at-smaller-else-kept
loop-at-smaller-else-kept c = terminator-less _ _ _ _ _ _ _ c.args.s (stand c.loop-at.at.at c.loop-at.count.0 c.loop-at.nesting) c.loop-at.invariant _ (at-terminator _ _ _ _ _ _ _ c.args.s (stand c.loop-at.at.at c.loop-at.count.0 c.loop-at.nesting) c.loop-at.invariant c.if-at-unit.false _ c.uleb.ensures _ _ c.in_ok-code.was c.if-code-eq0.true)

pub loop-at-preserved-else-kept : goal.loop-at-preserved-else-kept
loop-at-preserved-else-kept c = terminator-on _ _ _ _ _ _ _ c.args.s (stand c.loop-at.at.at c.loop-at.count.0 c.loop-at.nesting) c.loop-at.invariant _ (at-terminator _ _ _ _ _ _ _ c.args.s (stand c.loop-at.at.at c.loop-at.count.0 c.loop-at.nesting) c.loop-at.invariant c.if-at-unit.false _ c.uleb.ensures _ _ c.in_ok-code.was c.if-code-eq0.true) _ c.after_terminator-nesting.ensures (sym c.closes_kept-kept.ensures ∙ c.if-kept.false)

pub returns-then-k-ends : goal.returns-then-k-ends
returns-then-k-ends c = stop-past _ _ _ _ _ _ _ c.args.s (stand c.loop-at.at.at c.loop-at.count.0 c.loop-at.nesting) c.loop-at.invariant c.if-at-unit.false _ c.uleb.ensures _ _ c.in_ok-code.was c.if-code-eq0.false _ c.place-k.ensures c.if-k-ends.true

pub returns-then-end-values : goal.returns-then-end-values
returns-then-end-values c = elim c.then-end-values.branch [
  | then-end-values-via-then-end-values w ↦ stop-low _ _ _ _ _ _ _ c.args.s (stand c.loop-at.at.at c.loop-at.count.0 c.loop-at.nesting) c.loop-at.invariant c.if-at-unit.false _ c.uleb.ensures _ _ c.in_ok-code.was c.if-code-eq0.false _ (end-there c.args.ends.now _ _ c.place-k.ensures) w.if-end-values.true
  | then-end-values-via-else-end-values+then-end-unit w ↦ stop-high _ _ _ _ _ _ _ c.args.s (stand c.loop-at.at.at c.loop-at.count.0 c.loop-at.nesting) c.loop-at.invariant c.if-at-unit.false _ c.uleb.ensures _ _ c.in_ok-code.was c.if-code-eq0.false _ (end-there c.args.ends.now _ _ c.place-k.ensures) w.if-end-unit.true
]

pub returns-in_err-d : goal.returns-in_err-d
returns-in_err-d c = rw c.from_residual-in_err-d.ensures (stop-unknown _ _ _ _ _ _ _ c.args.s (stand c.loop-at.at.at c.loop-at.count.0 c.loop-at.nesting) c.loop-at.invariant c.if-at-unit.false _ c.uleb.ensures _ _ c.in_ok-code.was c.if-code-eq0.false _ (found_at _ _ _ _ _ c.find_declaration.ensures) c.in_err-d.was)

pub returns-then-kept-2 : goal.returns-then-kept-2
returns-then-kept-2 c = ends-item _ _ _ _ _ _ _ c.args.s (stand c.loop-at.at.at c.loop-at.count.0 c.loop-at.nesting) c.loop-at.invariant c.if-at-unit.false _ c.uleb.ensures _ _ c.in_ok-code.was c.if-code-eq0.false _ (end-there c.args.ends.now _ _ c.place-k.ensures) c.if-end-values.false c.if-end-unit.false _ c.after_entry-nesting.ensures (omega (arith, c.place-k.ensures, c.if-k-ends.false, c.well_formed.1.1.1.1.1.0.0)) _ (found_at _ _ _ _ _ c.find_declaration.ensures) _ c.in_ok-d.was (sym c.is_kept-kept.ensures ∙ c.if-kept-2.true)

pub loop-at-smaller : goal.loop-at-smaller
loop-at-smaller c = ends-less _ _ _ _ _ _ _ c.args.s (stand c.loop-at.at.at c.loop-at.count.0 c.loop-at.nesting) c.loop-at.invariant c.if-at-unit.false _ c.uleb.ensures _ _ c.in_ok-code.was c.if-code-eq0.false _ (end-there c.args.ends.now _ _ c.place-k.ensures) c.if-end-values.false c.if-end-unit.false

pub loop-at-preserved : goal.loop-at-preserved
loop-at-preserved c = ends_on _ _ _ _ _ _ _ c.args.s (stand c.loop-at.at.at c.loop-at.count.0 c.loop-at.nesting) c.loop-at.invariant c.if-at-unit.false _ c.uleb.ensures _ _ c.in_ok-code.was c.if-code-eq0.false _ (end-there c.args.ends.now _ _ c.place-k.ensures) c.if-end-values.false c.if-end-unit.false _ c.after_entry-nesting.ensures (omega (arith, c.place-k.ensures, c.if-k-ends.false, c.well_formed.1.1.1.1.1.0.0)) (sym c.is_kept-kept.ensures ∙ c.if-kept-2.false)
