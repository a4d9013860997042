-- `Cursor::list_entry` meets its contract: the list's end, or a kind and the operands of its row. Assumes nothing.
use mathlib.Core.Path.{◌∙◌, sym}
use Rattle.readers.proofs.Steps.{entry-end, entry_zero}
use Rattle.readers.proofs.ShortRows.{entry-pair, entry-located, entry_row}
use Rattle.readers.proofs.cursor.Cursor.list_entry.Goals as goal

pub returns-then-at-s : goal.returns-then-at-s
returns-then-at-s c = sym (entry-end _ _ _ _ c.if-at-s.true)

pub returns-then-kind-eq-DW_RLE_end_of_list : goal.returns-then-kind-eq-DW_RLE_end_of_list
returns-then-kind-eq-DW_RLE_end_of_list c = sym (entry_zero _ _ _ _ c.if-at-s.false c.if-kind-eq-DW_RLE_end_of_list.true)

pub returns-in-11 : goal.returns-in-11
returns-in-11 c = entry-pair _ _ _ _ _ c.if-at-s.false c.if-kind-eq-DW_RLE_end_of_list.false c.list_row-row.ensures c.in-11.is _ (c.two_numbers.ensures _)

pub returns-in-25 : goal.returns-in-25
returns-in-25 c = entry-located _ _ _ _ _ c.if-at-s.false c.if-kind-eq-DW_RLE_end_of_list.false c.list_row-row.ensures c.in-25.is _ (c.two_numbers-in-25.ensures _)

pub returns-in_default : goal.returns-in_default
returns-in_default c = c.entry_of.ensures ∙ entry_row _ _ _ _ _ c.if-at-s.false c.if-kind-eq-DW_RLE_end_of_list.false c.list_row-row.ensures _ c.row.ensures
