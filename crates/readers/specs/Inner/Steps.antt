-- Operations of at most one operand, and list entries of two numbers.
use Rattle.std.specs.Prelude.{ℕ, ◌≡◌, Bool, None, Option, Some}
use Rattle.readers.specs.Choice.{pick}
use Rattle.readers.specs.Tokens.{no_bytes, uleb128}
use Rattle.readers.specs.Operations.{row_of, row_uleb128_uleb128, row_uleb128_uleb128_expression}
use Rattle.readers.specs.Cursors.{cursor}
use Rattle.readers.specs.declared.fields.Field.{Field}
use Rattle.readers.specs.declared.operations.ListStep.{ListStep}
use Rattle.readers.specs.declared.operations.Operation.{Operation}
use Rattle.readers.specs.declared.operations.ListStep.TheVariants.{Entry}

-- a field of no bytes behind another
abbrev pub empty_past : Field → Field
empty_past f = record { value = 0; start = f.end; end = f.end }

-- an operation of one operand
unfoldable pub one_operand : ℕ → Option Field → Option Operation
one_operand row (Some f) = Some (record { row = row; first = f; second = empty_past f; next = cursor f.end })
one_operand row None = None

-- a row of one ULEB128 number
pub record OneUleb128 (row : ℕ) : Type 0 where
  pub first : (row_of row).first ≡ uleb128
  pub second : (row_of row).second ≡ no_bytes
  pub third : (row_of row).third ≡ no_bytes

-- the row of two ULEB128 numbers, with an expression behind them or without
unfoldable pub two_numbers_row : Bool → ℕ
two_numbers_row expression = pick expression row_uleb128_uleb128_expression row_uleb128_uleb128

-- a list entry with a third operand
unfoldable pub third_operand : ℕ → Field → Field → Option Field → Option ListStep
third_operand kind f g (Some h) = Some (Entry (record { kind = kind; first = f; second = g; third = h; next = cursor h.end }))
third_operand kind f g None = None
