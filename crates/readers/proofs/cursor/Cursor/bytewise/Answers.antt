-- `Cursor::bytewise` meets its contract. The invariant: the value is that of the bytes that were read, the most significant ones of the number.
use Rattle.readers.proofs.Widths.{partial-none, partial-low, partial-more, partial-all, place-big, place-little, fixed-over, fixed-short}
use mathlib.Core.Path.{sym}
use native.Mathlib.Omega.{arith}
use Rattle.readers.proofs.cursor.Cursor.bytewise.Goals as goal
use Rattle.readers.proofs.cursor.Cursor.bytewise.Goals.{then-big_endian, else-big_endian, then-width-gt8-via-then-width-gt8, then-width-gt8-via-else-width-gt8+then-width-left}

pub returns-then-width-gt8 : goal.returns-then-width-gt8
returns-then-width-gt8 c =
    elim c.then-width-gt8.branch [
      | then-width-gt8-via-then-width-gt8 w ↦ sym (fixed-over _ _ _ _ w.if-width-gt8.true)
      | then-width-gt8-via-else-width-gt8+then-width-left w ↦ sym (fixed-short _ _ _ _ (omega arith))
    ]

pub loop-i-init : goal.loop-i-init
loop-i-init c = partial-none _ _ _ _ (omega arith) (omega arith)

pub overflow_mul-value : goal.overflow_mul-value
overflow_mul-value c = omega (arith, partial-low _ _ _ _ _ _ c.loop-i.invariant c.loop-i-test.true)

pub overflow_add-value : goal.overflow_add-value
overflow_add-value c = omega (arith, c.type_inv.s c.if-big_endian.k, partial-low _ _ _ _ _ _ c.loop-i.invariant c.loop-i-test.true)

pub loop-i-preserved : goal.loop-i-preserved
loop-i-preserved c = partial-more _ _ _ _ _ _ c.loop-i.invariant _ (elim c.if-big_endian.branch [ then-big_endian w ↦ place-big _ _ _ _ _ w.if-big_endian.true w.k-is | else-big_endian w ↦ place-little _ _ _ _ _ w.if-big_endian.false w.k-is ]) c.loop-i-test.true (omega (arith, c.type_inv.s c.if-big_endian.k))

pub returns : goal.returns
returns c = partial-all _ _ _ _ _ _ c.loop-i.invariant c.loop-i-test.false
