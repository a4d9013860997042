-- What the readers of tokens and rows answer: what the layouts read (Layout.antt), from a place of a slice on, an
-- expression as its bytes.
use Rattle.std.specs.Prelude.{ℕ, ◌+◌, ◌-◌, Bool, List, [], ◌∷◌, length, take, drop, leb, None, Option, Some}
use Rattle.readers.specs.declared.cursor.Cursor.{Cursor}
use Rattle.readers.specs.declared.fields.Operands.{Operands}
use Rattle.readers.specs.Choice.{pick}
use Rattle.readers.specs.Numbers.{uleb}
use Rattle.readers.specs.Layout.{Piece, verbatim, patchable, Read, ReadOf, RunOf, Token, as_bytes, bytes_of, token_in, read_in}
use Rattle.readers.specs.Tokens.{plain, token_of}
use Rattle.readers.specs.Operations.{row_layout, row_of}
use Rattle.readers.specs.Cursors.{leb_at}
use Rattle.readers.specs.declared.cursor.Encoding.{Encoding}
use Rattle.readers.specs.declared.fields.Field.{Field}

-- the number that a token read: of a link its value, else what the layout sees
unfoldable pub linked_value : List Piece → ℕ → ℕ
linked_value [] v = v
linked_value (verbatim l ∷ ps) v = v
linked_value (patchable e r w ∷ ps) v = w

module _ (big : Bool) where
  -- how many bytes a token read
  unfoldable pub size : Read → ℕ
  size r = length (bytes_of big r.pieces)

  -- what a token read at a place
  unfoldable pub field_of : ℕ → Read → Field
  field_of at r = record { value = linked_value r.pieces r.seen; start = at + r.start; end = at + size r }

  unfoldable pub as_field : ℕ → Option ReadOf → Option Field
  as_field at None = None
  as_field at (Some r) = Some (field_of at r.0)

  unfoldable pub row_of_reads : ℕ → List Read → Option Operands
  row_of_reads at [] = None
  row_of_reads at (a ∷ []) = None
  row_of_reads at (a ∷ b ∷ []) = None
  row_of_reads at (a ∷ b ∷ c ∷ rs) =
      Some (record { first = field_of at a; second = field_of (at + size a) b; third = field_of (at + size a + size b) c })

  unfoldable pub as_row : ℕ → Option RunOf → Option Operands
  as_row at None = None
  as_row at (Some r) = row_of_reads at r.0

-- a token at a place
unfoldable pub token_at : Encoding → List ℕ → ℕ → Token → Option Field
token_at e s at t = as_field e.big_endian at (token_in e.big_endian as_bytes t (drop at s))

-- a token by its number
unfoldable pub field_at : Encoding → List ℕ → ℕ → ℕ → Option Field
field_at e s at t = token_at e s at (token_of e plain t)

-- a row by its layout number
unfoldable pub row_at : Encoding → List ℕ → ℕ → ℕ → Option Operands
row_at e s at l = as_row e.big_endian at (read_in e.big_endian as_bytes (row_layout e (row_of l)) (drop at s))

-- ---- the steps on the way

unfoldable pub block_field : List ℕ → Option (ℕ × Cursor) → Option Field
block_field s (Some (v, c)) =
    pick (leb v (length s - c.at)) (Some (record { value = 0; start = c.at; end = c.at + v })) None
block_field s None = None

-- an exprloc (7.5.5, class exprloc): a length, and that many bytes
unfoldable pub exprloc_at : List ℕ → ℕ → Option Field
exprloc_at s at = block_field s (leb_at uleb s at)

-- the part of a slice that a field's payload is; of an exprloc the expression after its length
unfoldable pub part_of : List ℕ → Field → List ℕ
part_of s f = take (f.end - f.start) (drop f.start s)
