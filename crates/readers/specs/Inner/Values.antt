-- Values by what their fields read, and where numbers and fields end.
use Rattle.std.specs.Prelude.{ℕ, leb, eqb, None, Option, Some}
use Rattle.readers.specs.Choice.{pick}
use Rattle.readers.specs.Tokens.{bytes, address}
use Rattle.readers.specs.Cursors.{cursor}
use Rattle.readers.specs.declared.cursor.Encoding.{Encoding}
use Rattle.readers.specs.declared.attributes.Attribute.{Attribute}
use Rattle.readers.specs.declared.cursor.Cursor.{Cursor}
use Rattle.readers.specs.declared.fields.Field.{Field}

-- a value in a form
unfoldable pub attribute_of : ℕ → Option Field → Option Attribute
attribute_of form (Some f) = Some (record { form = form; field = f })
attribute_of form None = None

unfoldable pub field_end : Option Field → Option Cursor
field_end (Some f) = Some (cursor f.end)
field_end None = None

unfoldable pub number_end : Option (ℕ × Cursor) → Option Cursor
number_end (Some (v, next)) = Some next
number_end None = None

-- the width of a token that is no bytes, a number of 1 to 8 bytes, an address, or else an offset
unfoldable pub width_of : Encoding → ℕ → ℕ
width_of e t = pick (leb t (bytes 8)) t (pick (eqb t address) e.address_size e.offset_size)
