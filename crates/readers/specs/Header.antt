-- The header of the first unit of a section (DWARF 5, 7.5.1.1 and 7.5.1.2; DWARF 4, 7.5.1.1; document 01, "Readers" and
-- the order of refusals 1 and 2).
use Rattle.std.specs.Prelude.{ℕ, ◌+◌, ◌-◌, ◌^◌, ◌<◌, ◌≡◌, ◌⊎◌, Bool, List, length, take, leb, ltb, eqb, Err, None, Ok, Option, Result, Some}
use Rattle.readers.specs.Choice.{pick, ◌or◌}
use Rattle.readers.specs.Codes.{DW_UT_compile, DW_UT_split_compile}
use Rattle.readers.specs.Cursors.{fixed_at}
use Rattle.readers.specs.declared.cursor.Encoding.{Encoding}
use Rattle.readers.specs.declared.cursor.Cursor.{Cursor}
use Rattle.readers.specs.declared.header.UnitHeader.{UnitHeader}

-- a field of the header: 1 where it is cut short
unfoldable pub present : Option (ℕ × Cursor) → (ℕ → Result (Option UnitHeader) ℕ) → Result (Option UnitHeader) ℕ
present (Some (v, c)) k = k v
present None k = Err 1

-- a value within the domain: else 2
unfoldable pub right : Bool → Result (Option UnitHeader) ℕ → Result (Option UnitHeader) ℕ
right b h = pick b h (Err 2)

-- the sizes of an address, and of an offset
abbrev pub size_known : ℕ → Bool
size_known n = eqb n 4 or eqb n 8

-- unit_length (7.4), by the size of an offset: 4 bytes, or in the 64-bit format 0xffffffff and eight more
unfoldable pub length_bytes : ℕ → ℕ
length_bytes w = pick (eqb w 8) 12 4

abbrev pub length_size : Encoding → ℕ
length_size e = length_bytes e.offset_size

-- byte order, version, size of an offset, size of an address
unfoldable pub encoding_of : Bool → ℕ → ℕ → ℕ → Encoding
encoding_of big version w address_size =
    record { version = version; offset_size = w; address_size = address_size; big_endian = big }

unfoldable pub header_made : Encoding → List ℕ → ℕ → ℕ → ℕ → Result (Option UnitHeader) ℕ
header_made e u unit_type abbreviations first =
    Ok (Some (record {
      encoding = e;
      unit_type = unit_type;
      abbreviations = abbreviations;
      first = record { 0 = first };
      end = length u;
    }))

-- in either byte order, with offsets of w bytes
module _ (big : Bool) (w : ℕ) where
  -- version 5, from a place on: unit_type (1 byte), address_size (1): 4 or 8, debug_abbrev_offset (w), and for
  -- DW_UT_split_compile dwo_id (8)
  unfoldable pub fields5 : List ℕ → ℕ → Result (Option UnitHeader) ℕ
  fields5 u at =
      present (fixed_at big 1 u at) (λ unit_type.
      right (eqb unit_type DW_UT_compile or eqb unit_type DW_UT_split_compile)
      (present (fixed_at big 1 u (at + 1)) (λ address_size. right (size_known address_size)
      (present (fixed_at big w u (at + 2)) (λ abbreviations.
      pick (eqb unit_type DW_UT_compile)
      (header_made (encoding_of big 5 w address_size) u unit_type abbreviations (at + 2 + w))
      (present (fixed_at big 8 u (at + 2 + w)) (λ _.
      header_made (encoding_of big 5 w address_size) u unit_type abbreviations (at + 2 + w + 8))))))))

  -- version 4, from a place on: debug_abbrev_offset (w), address_size (1): 4 or 8; there is no unit type, and that of a
  -- compile unit is told
  unfoldable pub fields4 : List ℕ → ℕ → Result (Option UnitHeader) ℕ
  fields4 u at =
      present (fixed_at big w u at) (λ abbreviations.
      present (fixed_at big 1 u (at + w)) (λ address_size. right (size_known address_size)
      (header_made (encoding_of big 4 w address_size) u DW_UT_compile abbreviations (at + w + 1))))

  -- after unit_length: version (2 bytes), and the fields of that version
  unfoldable pub header_fields : List ℕ → Result (Option UnitHeader) ℕ
  header_fields u =
      let at = length_bytes w in
      present (fixed_at big 2 u at) (λ version.
      pick (eqb version 5) (fields5 u (at + 2)) (pick (eqb version 4) (fields4 u (at + 2)) (Err 2)))

  -- the unit is the n bytes after unit_length, and must be there
  unfoldable pub header_in : List ℕ → ℕ → Result (Option UnitHeader) ℕ
  header_in s n = pick (leb n (length s - length_bytes w)) (header_fields (take (length_bytes w + n) s)) (Err 1)

-- unit_length (7.4): 0xffffffff says the 64-bit format, and eight bytes of length follow, 1 where the unit would end past
-- 64 bits; 0xfffffff0 to 0xfffffffe are reserved (document 02, Point 6: "Number 2 still stands for" them). The byte order
-- is told (Point 12: "told by an argument .. and not guessed").
unfoldable pub header_of : Bool → List ℕ → Result (Option UnitHeader) ℕ
header_of big s =
    pick (eqb (length s) 0) (Ok None)
    (present (fixed_at big 4 s 0) (λ n.
    pick (eqb n 0xffffffff) (present (fixed_at big 8 s 4) (λ m. pick (ltb (12 + m) (2 ^ 64)) (header_in big 8 s m) (Err 1)))
    (pick (leb 0xfffffff0 n) (Err 2) (header_in big 4 s n))))

-- the same header of a unit of another length
abbrev pub with_end : UnitHeader → ℕ → UnitHeader
with_end h n =
    record { encoding = h.encoding; unit_type = h.unit_type; abbreviations = h.abbreviations; first = h.first; end = n }

-- ---- the units that are read

-- the number of the first four bytes says that offsets have w bytes: it is a length of the 32-bit format, or a length of
-- the 64-bit one follows (7.4)
abbrev pub SaysWidth : ℕ → ℕ → Type 0
SaysWidth start w = ((w ≡ 4) × (start < 0xfffffff0)) ⊎ ((w ≡ 8) × (start ≡ 0xffffffff))

-- the unit type of a header of some version, and how many bytes it has: 3 beside the length and the offset of the
-- abbreviations in version 4, and in version 5 4, or 12 with a dwo_id
abbrev pub Headed : ℕ → ℕ → ℕ → ℕ → Type 0
Headed version others unit_type first =
    ((version ≡ 4) × ((unit_type ≡ DW_UT_compile) × (first ≡ others + 3)))
    ⊎ (((version ≡ 5) × ((unit_type ≡ DW_UT_compile) × (first ≡ others + 4)))
    ⊎ ((version ≡ 5) × ((unit_type ≡ DW_UT_split_compile) × (first ≡ others + 12))))

-- document 01, "Readers", and document 02, Points 4 (either version), 6 (either format) and 12 (the byte order is the one
-- that was told)
pub record Known (big : Bool) (e : Encoding) : Type 0 where
  pub version_is : (e.version ≡ 4) ⊎ (e.version ≡ 5)
  pub offset_is : (e.offset_size ≡ 4) ⊎ (e.offset_size ≡ 8)
  pub address_is : (e.address_size ≡ 4) ⊎ (e.address_size ≡ 8)
  pub order_is : e.big_endian ≡ big
