-- The layout of a bundle (document 01, "The five-entry unit"; document 02, Point 4).
use Rattle.std.specs.Prelude.{ℕ, ◌-◌, Bool, true, false, List, length, get_or, leb, eqb, None, Option, Some}
use Rattle.readers.specs.Choice.{pick, ◌and◌, ◌or◌}
use Rattle.readers.specs.Cursors.{fixed_at}
use Rattle.readers.specs.Fields.{field_at}
use Rattle.readers.specs.Tokens.{block4}
use Rattle.readers.specs.declared.cursor.Encoding.{Encoding}
use Rattle.readers.specs.declared.cursor.Cursor.{Cursor}
use Rattle.readers.specs.declared.fields.Field.{Field}
use Rattle.bundle.specs.declared.Bundle.{Bundle}

unfoldable pub big_endian : Encoding
big_endian = record { version = 5; offset_size = 4; address_size = 8; big_endian = true }

-- four big-endian bytes of length, and so many bytes
unfoldable pub part : List ℕ → ℕ → Option Field
part s at = field_at big_endian s at block4

unfoldable pub number_is : Option (ℕ × Cursor) → ℕ → Bool
number_is (Some (v, c)) n = eqb v n
number_is None n = false

-- the version byte, behind the length of the rest
unfoldable pub version_of : List ℕ → ℕ
version_of s = get_or s 4 0

-- at most 65,536 bytes, the length of the rest, version byte 1 or 2
unfoldable pub frame_of : List ℕ → Bool
frame_of s =
    leb (length s) 65536 and number_is (fixed_at true 4 s 0) (length s - 4) and leb 5 (length s)
    and (eqb (version_of s) 1 or eqb (version_of s) 2)

unfoldable pub on_part : Option Field → (Field → Option Bundle) → Option Bundle
on_part (Some f) k = k f
on_part None k = None

-- "A bundle with version byte 2 has the ranges section after the address table"; with 1 it is empty
unfoldable pub debug_ranges_part : List ℕ → ℕ → Option Field
debug_ranges_part s at = pick (eqb (version_of s) 2) (part s at) (Some (record { value = 0; start = at; end = at }))

-- unit section, abbreviations, location lists, range lists, address table and .debug_ranges, and nothing after them
unfoldable pub sections_of : List ℕ → Option Bundle
sections_of s =
    on_part (part s 5) (λ unit.
    on_part (part s unit.end) (λ abbreviations.
    on_part (part s abbreviations.end) (λ locations.
    on_part (part s locations.end) (λ ranges.
    on_part (part s ranges.end) (λ addresses.
    on_part (debug_ranges_part s addresses.end) (λ debug_ranges.
    pick (eqb debug_ranges.end (length s))
    (Some (record {
      unit = unit;
      abbreviations = abbreviations;
      locations = locations;
      ranges = ranges;
      addresses = addresses;
      debug_ranges = debug_ranges;
    }))
    None))))))

unfoldable pub bundle_of : List ℕ → Option Bundle
bundle_of s = pick (frame_of s) (sections_of s) None
