-- Where a list starts (DWARF 5, 7.28 and 7.29; document 01, "Roots": what can't be resolved).
use Rattle.std.specs.Prelude.{ℕ, ◌+◌, ◌*◌, List, length, leb, None, Option, Some}
use Rattle.readers.specs.Choice.{pick}
use Rattle.readers.specs.Header.{length_size}
use Rattle.readers.specs.Cursors.{cursor, fixed_at}
use Rattle.readers.specs.declared.cursor.Encoding.{Encoding}
use Rattle.readers.specs.declared.cursor.Cursor.{Cursor}

-- "List bases default to 12", and to 20 in the 64-bit format (document 02, Point 6): past the header of a list section,
-- which has unit_length, version (2), address_size (1), segment_selector_size (1) and offset_entry_count (4)
unfoldable pub list_base : Encoding → ℕ
list_base e = length_size e + 8

-- an offset of the section; its length is one, past it is none
unfoldable pub list_start : List ℕ → ℕ → Option Cursor
list_start s offset = pick (leb offset (length s)) (Some (cursor offset)) None

unfoldable pub from_base : List ℕ → ℕ → Option (ℕ × Cursor) → Option Cursor
from_base s base (Some (v, c)) = list_start s (base + v)
from_base s base None = None

-- The offset with an index stands in the table at the base, a section offset an index, and counts from the base. Sums
-- and products have no bound here: above 64 bits they lie past every section's end.
unfoldable pub list_offset : Encoding → List ℕ → ℕ → ℕ → Option Cursor
list_offset e s base index =
    from_base s base (fixed_at e.big_endian e.offset_size s (base + index * e.offset_size))
