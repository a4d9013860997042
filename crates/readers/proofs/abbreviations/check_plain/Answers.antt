-- `check_plain` meets its contract. The invariant: the declarations before this place have no code twice. Assumes nothing.
use mathlib.Core.Path.{ap, sym, ◌∙◌}
use native.Mathlib.Omega.{arith}
use Rattle.std.specs.Prelude.{Some, is_some}
use Rattle.readers.proofs.Refusing.{refused-none, read_some}
use Rattle.readers.proofs.Declarations.{declaration-ahead, checking-none, checking-found, checking-more, checking-last, checking-bad}
use Rattle.readers.proofs.abbreviations.check_plain.Goals as goal

pub loop-d-init : goal.loop-d-init
loop-d-init c = checking-none _ _

pub returns-in_err-d : goal.returns-in_err-d
returns-in_err-d c =
    let q = refused-none _ _ _ _ _ c.ok_or.ensures.value c.in_err-d.was c.from_residual.ensures.1 in
    q.1 ∙ checking-bad _ _ _ c.loop-d.invariant (sym c.declaration.ensures ∙ q.0)

pub returns-then-is_some : goal.returns-then-is_some
returns-then-is_some c = checking-found _ _ _ c.loop-d.invariant _ _ (sym c.declaration.ensures ∙ read_some _ _ _ _ c.ok_or.ensures.value c.in_ok-d.was ∙ ap Some c.in-Declaration.is)
    (sym (c.is_some.ensures ∙ ap is_some c.search-earlier.ensures) ∙ c.if-is_some.true)

pub loop-d-smaller : goal.loop-d-smaller
loop-d-smaller c = omega (arith, declaration-ahead _ _ _ _ (sym c.declaration.ensures ∙ read_some _ _ _ _ c.ok_or.ensures.value c.in_ok-d.was ∙ ap Some c.in-Declaration.is))

pub loop-d-preserved : goal.loop-d-preserved
loop-d-preserved c = checking-more _ _ _ c.loop-d.invariant _ _ (sym c.declaration.ensures ∙ read_some _ _ _ _ c.ok_or.ensures.value c.in_ok-d.was ∙ ap Some c.in-Declaration.is)
    (sym (c.is_some.ensures ∙ ap is_some c.search-earlier.ensures) ∙ c.if-is_some.false)

pub returns-in-Last : goal.returns-in-Last
returns-in-Last c = checking-last _ _ _ c.loop-d.invariant _ (sym c.declaration.ensures ∙ read_some _ _ _ _ c.ok_or.ensures.value c.in_ok-d.was ∙ ap Some c.in-Last.is)
