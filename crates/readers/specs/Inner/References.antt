-- What one operation adds to a walk, and the table that references are written to.
use Rattle.std.specs.Prelude.{◌≡◌, ℕ, ◌*◌, ◌≤◌, true, false, List, length, eqb, Bool, None, Option, Some}
use Rattle.readers.specs.Choice.{pick, ◌or◌, zeros}
use Rattle.readers.specs.Operations.{row_offset, row_offset_sleb128}
use Rattle.readers.specs.declared.operations.Operation.{Operation}
use Rattle.readers.specs.declared.expressions.Reference.{Reference}
use Rattle.readers.specs.References.{Named, reference_of}

unfoldable pub counted : Option Reference → ℕ
counted (Some r) = 1
counted None = 0

-- an operation by itself; two rows hold an offset in the section
unfoldable pub own_walk : Operation → Option (ℕ × Bool)
own_walk op =
    pick (eqb op.row row_offset or eqb op.row row_offset_sleb128)
    (Some (0, true))
    (Some (counted (reference_of op), false))

-- a cleared table with room for the references, of which there are n
pub record Room (rs : List Named) (table : List ℕ) (n : ℕ) : Type 0 where
  pub count : length rs ≡ n
  pub fits : 3 * n ≤ length table
  pub cleared : table ≡ zeros (length table)
