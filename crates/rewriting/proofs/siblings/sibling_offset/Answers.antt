-- `sibling_offset` meets its contract: the places from the start on are deeper, or over.
use mathlib.Core.Path.{refl, sym, ◌∙◌}
use native.Mathlib.Omega.{arith}
use Rattle.rewriting.proofs.MapPass.Places.{old-there, new-there, depth-there, found-new, other_none, beyond-none, sibling-to}
use Rattle.rewriting.proofs.MapPass.Bounded.{seeking-start, seeking-skip, seeking-here, seeking-more, seeking-done}
use borrow.Author.Tests.{eqb-true, eqb-false}
use Rattle.rewriting.proofs.siblings.sibling_offset.Goals as goal
use Rattle.rewriting.proofs.siblings.sibling_offset.Goals.{else-start-places-via-then-start-places+else-has_old, else-start-places-via-else-start-places}

pub returns-then-has_old : goal.returns-then-has_old
returns-then-has_old c = λ ps h e b. sibling-to _ _ _ _ (found-new ps _ _ _ _ _ h e c.if-start-places.true (old-there _ _ _ refl) _ (eqb-true _ _ (sym c.has_old.ensures ∙ c.if-has_old.true)) (new-there _ _ _ c.new_at.ensures))

pub loop-i-init : goal.loop-i-init
loop-i-init c = seeking-start _ _ _ _ _ _ (λ ps h e. (
  elim c.else-start-places.branch [
    | else-start-places-via-then-start-places+else-has_old w ↦ other_none ps _ _ _ _ _ h e w.if-start-places.true (old-there _ _ _ refl) (c.hinted_place-start.ensures ps h e) (eqb-false _ _ (sym w.has_old.ensures ∙ w.if-has_old.false))
    | else-start-places-via-else-start-places w ↦ beyond-none ps _ _ _ _ 0 h e w.if-start-places.false (c.hinted_place-start.ensures ps h e)
  ],
  c.hinted_place-start.ensures ps h e,
))

pub loop-i-preserved-then-past-i : goal.loop-i-preserved-then-past-i
loop-i-preserved-then-past-i c = seeking-skip _ _ _ _ _ _ c.loop-i.invariant _ c.past_deeper-past.ensures c.if-past-i.true

pub returns-then-depth_at-depth : goal.returns-then-depth_at-depth
returns-then-depth_at-depth c = seeking-here _ _ _ _ _ _ c.loop-i.invariant _ (omega arith) (depth-there _ _ _ c.depth_at.ensures) _ c.if-depth_at-depth.true (new-there _ _ _ c.new_at-then-depth_at-depth.ensures)

pub loop-i-preserved : goal.loop-i-preserved
loop-i-preserved c = seeking-more _ _ _ _ _ _ c.loop-i.invariant _ (omega arith) (depth-there _ _ _ c.depth_at.ensures) c.if-depth_at-depth.false

pub returns : goal.returns
returns c = seeking-done _ _ _ _ _ _ c.loop-i.invariant c.loop-i-test.false
