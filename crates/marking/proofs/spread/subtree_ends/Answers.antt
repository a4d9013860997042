-- `subtree_ends` is safe: the indices are below the count of the parents. Assumes nothing.
use native.Mathlib.Omega.{arith}
use borrow.Author.Rules.{rules}
use Rattle.marking.proofs.Indexes.{index-back}
use Rattle.marking.proofs.spread.subtree_ends.Goals as goal

pub widen-requires : goal.widen-requires
widen-requires c =
    let k = index-back _ (λ x y p q h. search rules) _ _ _ _ c.in-Some.is c.next.ensures.steps in
    omega (arith, k.0, c.loop-i.invariant)
