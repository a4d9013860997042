-- `gather` meets its contract. The invariant: the slots hold the declarations before this place, as far as there is room. Assumes nothing.
use Rattle.std.specs.Prelude.{Some}
use mathlib.Core.Path.{ap, sym, ◌∙◌}
use native.Mathlib.Omega.{arith}
use Rattle.readers.proofs.Declarations.{declaration-ahead, gathering-none, gathering-count, gathering-more, gathering-over, gathering-last, gathering-bad}
use Rattle.readers.proofs.abbreviations.gather.Goals as goal
use Rattle.readers.proofs.abbreviations.gather.Goals.{then-count-index, else-count-index}

pub loop-next-init : goal.loop-next-init
loop-next-init c = gathering-none _ _ _

pub overflow_add-index : goal.overflow_add-index
overflow_add-index c = omega (arith, declaration-ahead _ _ _ _ (sym c.declaration.ensures ∙ (c.in_ok-next.was ∙ ap Some c.in-Declaration.is)))

pub overflow_add-count : goal.overflow_add-count
overflow_add-count c = omega (arith, declaration-ahead _ _ _ _ (sym c.declaration.ensures ∙ (c.in_ok-next.was ∙ ap Some c.in-Declaration.is)), gathering-count _ _ _ _ _ _ c.loop-next.invariant)

pub loop-next-smaller : goal.loop-next-smaller
loop-next-smaller c = omega (arith, declaration-ahead _ _ _ _ (sym c.declaration.ensures ∙ (c.in_ok-next.was ∙ ap Some c.in-Declaration.is)))

pub loop-next-preserved : goal.loop-next-preserved
loop-next-preserved c =
    elim c.if-count-index.branch [
      | then-count-index w ↦ rw w.index-is (gathering-more _ _ _ _ _ _ c.loop-next.invariant _ _ (sym c.declaration.ensures ∙ (c.in_ok-next.was ∙ ap Some c.in-Declaration.is)) w.if-count-index.true)
      | else-count-index w ↦ rw w.index-is (gathering-over _ _ _ _ _ _ c.loop-next.invariant _ _ (sym c.declaration.ensures ∙ (c.in_ok-next.was ∙ ap Some c.in-Declaration.is)) w.if-count-index.false)
    ]

pub returns-in-Last : goal.returns-in-Last
returns-in-Last c = let p = gathering-last _ _ _ _ _ _ c.loop-next.invariant _ (sym c.declaration.ensures ∙ (c.in_ok-next.was ∙ ap Some c.in-Last.is)) in record { counted = p.0; gathered = p.1 }

pub returns-in_err-next : goal.returns-in_err-next
returns-in_err-next c = let p = gathering-bad _ _ _ _ _ _ c.loop-next.invariant (sym c.declaration.ensures ∙ c.in_err-next.was) in record { counted = c.from_residual.ensures ∙ p.0; gathered = p.1 }
