-- `push_kept` is safe: the indices are below the count of the marks. Assumes nothing.
use native.Mathlib.Omega.{arith}
use borrow.Author.Rules.{rules}
use Rattle.marking.proofs.Indexes.{index-back}
use Rattle.marking.proofs.spread.push_kept.Goals as goal

pub bounds-marks-place : goal.bounds-marks-place
bounds-marks-place c =
    let k = index-back _ (λ x y p q h. search rules) _ _ _ _ c.in-Some.is c.next.ensures.steps in
    omega (arith, k.0, c.place.ensures, c.loop-i.invariant)
