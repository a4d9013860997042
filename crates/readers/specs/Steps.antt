-- What the readers of operations and list entries answer: the layouts of Operations.antt, from a place of a slice on.
use Rattle.std.specs.Prelude.{ℕ, ◌+◌, Bool, List, [], ◌∷◌, length, drop, ltb, eqb, None, Option, Some}
use Rattle.readers.specs.declared.operations.ListStep.{ListStep}
use Rattle.readers.specs.declared.fields.Operands.{Operands}
use Rattle.readers.specs.declared.operations.Operation.{Operation}
use Rattle.readers.specs.Choice.{pick}
use Rattle.readers.specs.Codes.{DW_RLE_end_of_list}
use Rattle.readers.specs.Layout.{fixed, number, Layout, done, field, Read, RunOf, as_bytes, read_in}
use Rattle.readers.specs.Operations.{row_layout, row_of, operation, operation_row, list_row}
use Rattle.readers.specs.Cursors.{cursor}
use Rattle.readers.specs.Fields.{size, row_of_reads}
use Rattle.readers.specs.declared.cursor.Encoding.{Encoding}
use Rattle.readers.specs.declared.operations.ListStep.TheVariants.{Entry, End}

-- ---- operations

unfoldable pub row_operation : ℕ → Option Operands → Option Operation
row_operation row (Some r) =
    Some (record { row = row; first = r.first; second = r.second; next = cursor r.third.end })
row_operation row None = None

module _ (big : Bool) where
  -- the reads of an operation: its code, and its row
  unfoldable pub operation_of_reads : ℕ → List Read → Option Operation
  operation_of_reads at [] = None
  operation_of_reads at (c ∷ rs) = row_operation (operation_row c.seen) (row_of_reads big (at + size big c) rs)

  unfoldable pub as_operation : ℕ → Option RunOf → Option Operation
  as_operation at None = None
  as_operation at (Some r) = operation_of_reads at r.0

-- the operation at a place
unfoldable pub operation_at : Encoding → List ℕ → ℕ → Option Operation
operation_at e s at = as_operation e.big_endian at (read_in e.big_endian as_bytes (operation e) (drop at s))

-- ---- list entries

-- 7.7.3, 7.25: a kind of one byte and its operands; DW_RLE_end_of_list, which DW_LLE_end_of_list is too, ends the list,
-- as 0 does in version 4
unfoldable pub list_entry : Encoding → Bool → Layout
list_entry e location =
    field (number (fixed 1)) (λ k. pick (eqb k DW_RLE_end_of_list) done (row_layout e (row_of (list_row e.version location k))))

unfoldable pub row_entry : ℕ → Option Operands → Option ListStep
row_entry kind (Some r) =
    Some (Entry (record { kind = kind; first = r.first; second = r.second; third = r.third; next = cursor r.third.end }))
row_entry kind None = None

module _ (big : Bool) where
  unfoldable pub entry_of_reads : ℕ → List Read → Option ListStep
  entry_of_reads at [] = None
  entry_of_reads at (k ∷ rs) =
      pick (eqb k.seen DW_RLE_end_of_list) (Some End) (row_entry k.seen (row_of_reads big (at + size big k) rs))

  unfoldable pub as_list_step : ℕ → Option RunOf → Option ListStep
  as_list_step at None = None
  as_list_step at (Some r) = entry_of_reads at r.0

-- Document 01, "Roots": a list ends at its end entry or where its section ends between two entries; one that breaks
-- off inside an entry or has an unknown kind is unreadable.
unfoldable pub list_entry_at : Encoding → Bool → List ℕ → ℕ → Option ListStep
list_entry_at e location s at =
    pick (ltb at (length s))
    (as_list_step e.big_endian at (read_in e.big_endian as_bytes (list_entry e location) (drop at s)))
    (Some End)
