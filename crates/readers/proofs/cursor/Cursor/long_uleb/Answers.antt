-- `Cursor::long_uleb` meets its contract. Assumes nothing.
use mathlib.Core.Path.{◌∙◌}
use native.Mathlib.Omega.{arith}
use Rattle.readers.proofs.Lebs.{whole, uleb-yes, uleb-no, uleb-none}
use Rattle.readers.proofs.cursor.Cursor.long_uleb.Goals as goal

pub overflow_add-result : goal.overflow_add-result
overflow_add-result c = omega (arith, ((whole _ _ _ _ _ _ c.type_inv.s _ c.groups.ensures c.in_ok-low.was)).small)

pub returns-then-high-lt2 : goal.returns-then-high-lt2
returns-then-high-lt2 c = uleb-yes _ _ _ _ _ _ ((whole _ _ _ _ _ _ c.type_inv.s _ c.groups.ensures c.in_ok-low.was)) c.if-high-lt2.true

pub returns-else-high-lt2 : goal.returns-else-high-lt2
returns-else-high-lt2 c = uleb-no _ _ _ _ _ _ ((whole _ _ _ _ _ _ c.type_inv.s _ c.groups.ensures c.in_ok-low.was)) c.if-high-lt2.false

pub returns-in_err-low : goal.returns-in_err-low
returns-in_err-low c = c.from_residual.ensures ∙ uleb-none _ _ _ c.groups.ensures c.in_err-low.was
