-- Numbers as fields, and by the number of their token.
use Rattle.std.specs.Prelude.{ℕ, List, leb, eqb, None, Option, Some}
use Rattle.readers.specs.Choice.{pick}
use Rattle.readers.specs.Numbers.{uleb}
use Rattle.readers.specs.Tokens.{bytes, address, offset}
use Rattle.readers.specs.Cursors.{leb_at, fixed_at}
use Rattle.readers.specs.declared.cursor.Encoding.{Encoding}
use Rattle.readers.specs.declared.cursor.Cursor.{Cursor}
use Rattle.readers.specs.declared.fields.Field.{Field}

unfoldable pub number_field : ℕ → Option (ℕ × Cursor) → Option Field
number_field at (Some (v, c)) = Some (record { value = v; start = at; end = c.at })
number_field at None = None

unfoldable pub bounded_field : ℕ → Option (ℕ × Cursor) → Option Field
bounded_field at (Some (v, c)) = pick (leb v 65535) (Some (record { value = v; start = at; end = c.at })) None
bounded_field at None = None

-- bytes that are no number
unfoldable pub moved_field : ℕ → Option Cursor → Option Field
moved_field at (Some c) = Some (record { value = 0; start = at; end = c.at })
moved_field at None = None

-- a number by its token
unfoldable pub number_at : Encoding → List ℕ → ℕ → ℕ → Option (ℕ × Cursor)
number_at e s at t =
    pick (leb t (bytes 8)) (fixed_at e.big_endian t s at)
    (pick (eqb t address) (fixed_at e.big_endian e.address_size s at)
    (pick (eqb t offset) (fixed_at e.big_endian e.offset_size s at)
    (leb_at uleb s at)))
