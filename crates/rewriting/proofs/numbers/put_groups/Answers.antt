-- `put_groups` meets its contract.
use mathlib.Core.Path.{sym, ◌∙◌}
use native.Mathlib.Omega.{arith}
use Rattle.rewriting.proofs.WritePass.Putting.{refused, accepted, fit-some}
use Rattle.rewriting.proofs.WritePass.Putting.{grouping-start, grouping-more, grouping-done}
use Rattle.rewriting.proofs.numbers.put_groups.Goals as goal

pub returns-then-not-groups_fit : goal.returns-then-not-groups_fit
returns-then-not-groups_fit c = refused _ _ _ _ _ (sym c.groups_fit.ensures ∙ c.if-not-groups_fit.true)

pub overflow_sub-last : goal.overflow_sub-last
overflow_sub-last c = omega (arith, fit-some _ _ _ (sym c.groups_fit.ensures ∙ c.if-not-groups_fit.false))

pub loop-i-init : goal.loop-i-init
loop-i-init c = grouping-start _ _ _ (sym c.groups_fit.ensures ∙ c.if-not-groups_fit.false)

pub loop-i-preserved : goal.loop-i-preserved
loop-i-preserved c = grouping-more _ _ _ _ _ _ (omega arith) c.loop-i.invariant

pub returns : goal.returns
returns c = let f = sym c.groups_fit.ensures ∙ c.if-not-groups_fit.false in
    accepted _ _ _ _ _ _ f (grouping-done _ _ _ _ _ _ f (omega arith) c.loop-i.invariant)
