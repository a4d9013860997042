-- What a section's first bytes say of its first unit (DWARF 5, 7.4; document 02, Point 6), in the byte order that is told.
use Rattle.std.specs.Prelude.{ℕ, ◌-◌, Bool, List, take, drop}
use Rattle.readers.specs.Numbers.{fixed_value}
use Rattle.readers.specs.Header.{length_bytes}

module _ (big : Bool) (section : List ℕ) where
  -- the first four bytes
  abbrev pub start : ℕ
  start = fixed_value big (take 4 section)

  -- the length: the number at the end of the length field, as wide as an offset
  abbrev pub length_said : ℕ → ℕ
  length_said w = fixed_value big (take w (drop (length_bytes w - w) section))
