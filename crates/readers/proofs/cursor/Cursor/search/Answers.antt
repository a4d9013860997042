-- `Cursor::search` meets its contract. The invariant: the search from here on finds what the whole one does. Assumes nothing.
use Rattle.std.specs.Prelude.{Some}
use mathlib.Core.Path.{ap, sym, ◌∙◌}
use native.Mathlib.Omega.{arith}
use Rattle.readers.proofs.Declarations.{declaration-ahead, search-hit, search-more, search-last, search-bad, search-end}
use Rattle.readers.proofs.cursor.Cursor.search.Goals as goal

pub returns-then-d-code : goal.returns-then-d-code
returns-then-d-code c = search-hit _ _ _ _ _ _ c.loop-c-test.true (sym c.declaration.ensures ∙ (c.in_ok-d.was ∙ ap Some c.in-Declaration.is)) c.if-d-code.true ∙ sym c.loop-c.invariant

pub loop-c-smaller : goal.loop-c-smaller
loop-c-smaller c = omega (arith, declaration-ahead _ _ _ _ (sym c.declaration.ensures ∙ (c.in_ok-d.was ∙ ap Some c.in-Declaration.is)))

pub loop-c-preserved : goal.loop-c-preserved
loop-c-preserved c = c.loop-c.invariant ∙ search-more _ _ _ _ _ _ c.loop-c-test.true (sym c.declaration.ensures ∙ (c.in_ok-d.was ∙ ap Some c.in-Declaration.is)) c.if-d-code.false

pub returns-in-Last : goal.returns-in-Last
returns-in-Last c = search-last _ _ _ _ _ c.loop-c-test.true (sym c.declaration.ensures ∙ (c.in_ok-d.was ∙ ap Some c.in-Last.is)) ∙ sym c.loop-c.invariant

pub returns-in_err-d : goal.returns-in_err-d
returns-in_err-d c = c.from_residual.ensures ∙ search-bad _ _ _ _ c.loop-c-test.true (sym c.declaration.ensures ∙ c.in_err-d.was) ∙ sym c.loop-c.invariant

pub returns : goal.returns
returns c = search-end _ _ _ _ c.loop-c-test.false ∙ sym c.loop-c.invariant
