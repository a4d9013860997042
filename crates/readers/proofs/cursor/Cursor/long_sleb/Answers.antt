-- `Cursor::long_sleb` meets its contract. Assumes nothing.
use mathlib.Core.Path.{◌∙◌}
use native.Mathlib.Omega.{arith}
use Rattle.readers.proofs.Lebs.{whole, sleb-up, sleb-down, sleb-no, sleb-plus, sleb-minus, light, sleb-none}
use Rattle.readers.proofs.cursor.Cursor.long_sleb.Goals as goal

pub returns-in-0 : goal.returns-in-0
returns-in-0 c = sleb-up _ _ _ _ _ _ ((whole _ _ _ _ _ _ c.type_inv.s _ c.groups.ensures c.in_ok-low.was)) c.if-weight.true c.in-0.is

pub overflow_add-result : goal.overflow_add-result
overflow_add-result c = omega (arith, ((whole _ _ _ _ _ _ c.type_inv.s _ c.groups.ensures c.in_ok-low.was)).small)

pub returns-in-127 : goal.returns-in-127
returns-in-127 c = sleb-down _ _ _ _ _ _ ((whole _ _ _ _ _ _ c.type_inv.s _ c.groups.ensures c.in_ok-low.was)) c.if-weight.true c.in-127.is

pub returns-in_default : goal.returns-in_default
returns-in_default c = sleb-no _ _ _ _ _ _ ((whole _ _ _ _ _ _ c.type_inv.s _ c.groups.ensures c.in_ok-low.was)) c.if-weight.true (λ h. omega arith) (λ h. omega arith)

pub overflow_mul-weight : goal.overflow_mul-weight
overflow_mul-weight c = omega (arith, (light _ _ _ _ _ _ ((whole _ _ _ _ _ _ c.type_inv.s _ c.groups.ensures c.in_ok-low.was)) c.if-weight.false).0)

pub returns-then-low-weight : goal.returns-then-low-weight
returns-then-low-weight c = sleb-plus _ _ _ _ _ _ ((whole _ _ _ _ _ _ c.type_inv.s _ c.groups.ensures c.in_ok-low.was)) c.if-weight.false c.if-low-weight.true

pub overflow_mul-result : goal.overflow_mul-result
overflow_mul-result c = omega (arith, (light _ _ _ _ _ _ ((whole _ _ _ _ _ _ c.type_inv.s _ c.groups.ensures c.in_ok-low.was)) c.if-weight.false).0)

pub overflow_sub-result : goal.overflow_sub-result
overflow_sub-result c = omega (arith, (light _ _ _ _ _ _ ((whole _ _ _ _ _ _ c.type_inv.s _ c.groups.ensures c.in_ok-low.was)) c.if-weight.false).0)

pub overflow_add-result-2 : goal.overflow_add-result-2
overflow_add-result-2 c = omega (arith, (light _ _ _ _ _ _ ((whole _ _ _ _ _ _ c.type_inv.s _ c.groups.ensures c.in_ok-low.was)) c.if-weight.false).1)

pub overflow_add-result-3 : goal.overflow_add-result-3
overflow_add-result-3 c = omega (arith, (light _ _ _ _ _ _ ((whole _ _ _ _ _ _ c.type_inv.s _ c.groups.ensures c.in_ok-low.was)) c.if-weight.false).0, (light _ _ _ _ _ _ ((whole _ _ _ _ _ _ c.type_inv.s _ c.groups.ensures c.in_ok-low.was)) c.if-weight.false).1)

pub returns : goal.returns
returns c = sleb-minus _ _ _ _ _ _ ((whole _ _ _ _ _ _ c.type_inv.s _ c.groups.ensures c.in_ok-low.was)) c.if-weight.false c.if-low-weight.false

pub returns-in_err-low : goal.returns-in_err-low
returns-in_err-low c = c.from_residual.ensures ∙ sleb-none _ _ _ c.groups.ensures c.in_err-low.was
