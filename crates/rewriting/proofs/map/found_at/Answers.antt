-- `found_at` meets its contract.
use mathlib.Core.Path.{sym, ◌∙◌}
use borrow.Author.Tests.{eqb-true, eqb-false}
use Rattle.rewriting.proofs.MapPass.Places.{found-there, found-other, found-beyond}
use Rattle.rewriting.proofs.map.found_at.Goals as goal
use Rattle.rewriting.proofs.map.found_at.Goals.{else-i-places-via-then-i-places+else-has_old, else-i-places-via-else-i-places}

pub returns-then-has_old : goal.returns-then-has_old
returns-then-has_old c = found-there _ _ _ _ _ c.if-i-places.true (eqb-true _ _ (sym c.has_old.ensures ∙ c.if-has_old.true)) c.new_at.ensures

pub returns : goal.returns
returns c = elim c.else-i-places.branch [
  | else-i-places-via-then-i-places+else-has_old w ↦ found-other _ _ _ _ w.if-i-places.true (eqb-false _ _ (sym w.has_old.ensures ∙ w.if-has_old.false))
  | else-i-places-via-else-i-places w ↦ found-beyond _ _ _ _ w.if-i-places.false
]
