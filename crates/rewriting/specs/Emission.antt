-- What emission writes: bytes at the start of the part of the output that begins at the next free byte, or nothing that
-- counts and the number of a refusal.
use Rattle.std.specs.Prelude.{ℕ, ◌-◌, ◌^◌, Bool, List, ◌++◌, length, take, drop, ltb, leb}
use Rattle.readers.specs.Choice.{pick, ◌and◌}
use Rattle.readers.specs.Header.{length_size}
use Rattle.readers.specs.Numbers.{fixed_bytes}
use Rattle.readers.specs.declared.cursor.Encoding.{Encoding}

-- the bytes of a slice from one place to another
unfoldable pub between : List ℕ → ℕ → ℕ → List ℕ
between s from to = take (to - from) (drop from s)

-- how many bytes are copied to a part: all, or none where it has no room for them
unfoldable pub copied_count : List ℕ → List ℕ → ℕ
copied_count bytes out = pick (leb (length bytes) (length out)) (length bytes) 0

-- ---- the header of a unit of so many bytes: as it was, but for the length

module _ (e : Encoding) (unit : List ℕ) (first bytes : ℕ) where
  -- the bytes of an offset, and of the length field
  abbrev w : ℕ
  w = e.offset_size

  abbrev l : ℕ
  l = length_size e

  -- "The length field is the new size less 4.": less what the length field takes. What stands before its number stays:
  -- nothing in the 32-bit format, 0xffffffff in the 64-bit one (7.4).
  unfoldable pub header_bytes : List ℕ
  header_bytes = take (l - w) unit ++ fixed_bytes e.big_endian w (bytes - l) ++ drop l (take first unit)

  -- whether it is in the unit and has room, and its length is a number of so many bytes, no wider than the field
  unfoldable pub header_fits : List ℕ → Bool
  header_fits out =
      leb l first and leb first (length unit) and leb first (length out) and leb l bytes and leb w l
      and ltb (bytes - l) (256 ^ w)

  -- how many bytes are written, and the part then
  unfoldable pub header_count : List ℕ → ℕ
  header_count out = pick (header_fits out) first 0

  unfoldable pub header_over : List ℕ → List ℕ
  header_over out = pick (header_fits out) (header_bytes ++ drop first out) out
