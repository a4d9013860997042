-- `Cursor::operation` meets its contract: a code, and the operands of its row, at once where there is one at most.
-- Assumes nothing.
use mathlib.Core.Path.{◌∙◌, sym, ap}
use native.Mathlib.Omega.{arith}
use Rattle.readers.specs.Inner.Steps.{OneUleb128, one_operand}
use Rattle.readers.proofs.Steps.{operation-end}
use Rattle.readers.proofs.ShortRows.{uleb-row, type_row, index-row, operation-bare, operation-signed, operation-unsigned, operation-address, operation-nested, operation-row}
use Rattle.readers.proofs.cursor.Cursor.operation.Goals as goal

pub returns-then-at-s : goal.returns-then-at-s
returns-then-at-s c = sym (operation-end _ _ _ c.if-at-s.true)

pub returns-then-row-eq-ROW_NONE : goal.returns-then-row-eq-ROW_NONE
returns-then-row-eq-ROW_NONE c = c.one_operand.ensures ∙ operation-bare _ _ _ _ c.if-at-s.false c.operation_row-row.ensures c.if-row-eq-ROW_NONE.true

pub returns-in-8 : goal.returns-in-8
returns-in-8 c = c.one_operand-in-8.ensures ∙ ap (one_operand _) c.number_field.ensures ∙ operation-signed _ _ _ _ c.if-at-s.false c.operation_row-row.ensures c.in-8.is _ c.sleb.ensures

pub returns-in-7 : goal.returns-in-7
returns-in-7 c =
    let o : OneUleb128 c.operation_row-row.result = grind (arith, uleb-row, type_row, index-row) in
    c.one_operand-in-7.ensures ∙ ap (one_operand _) c.number_field-in-7.ensures ∙ operation-unsigned _ _ _ _ c.if-at-s.false c.operation_row-row.ensures o _ c.uleb.ensures

pub returns-in-2 : goal.returns-in-2
returns-in-2 c = c.one_operand-in-2.ensures ∙ ap (one_operand _) c.number_field-in-2.ensures ∙ operation-address _ _ _ _ c.if-at-s.false c.operation_row-row.ensures c.in-2.is _ c.address.ensures

pub returns-in-19 : goal.returns-in-19
returns-in-19 c = c.one_operand-in-19.ensures ∙ operation-nested _ _ _ _ c.if-at-s.false c.operation_row-row.ensures c.in-19.is _ c.exprloc.ensures

pub returns-in_default : goal.returns-in_default
returns-in_default c = c.operation_of.ensures ∙ operation-row _ _ _ _ c.if-at-s.false c.operation_row-row.ensures _ c.row.ensures
