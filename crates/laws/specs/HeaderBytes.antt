-- The header of a rewritten unit, byte by byte (DWARF 5, 7.4, 7.5.1.1 and 7.5.1.2): the length field is new, all else is
-- the old unit's.
use Rattle.std.specs.Prelude.{◌≡◌, ℕ, ◌+◌, ◌-◌, List, ◌++◌, length, take, drop, Some}
use Rattle.readers.specs.Codes.{DW_UT_split_compile}
use Rattle.readers.specs.Header.{length_size}
use Rattle.readers.specs.Numbers.{fixed_bytes}
use Rattle.readers.specs.Cursors.{cursor, fixed_at}
use Rattle.readers.specs.declared.header.UnitHeader.{UnitHeader}

module _ (h : UnitHeader) where
  -- the bytes of an offset, and of the length field
  abbrev w : ℕ
  w = h.encoding.offset_size

  abbrev l : ℕ
  l = length_size h.encoding

  pub record HeaderBytes (old new : List ℕ) : Type 0 where
    -- "The length field is the new size less 4." and "less 12 in that format": a number as wide as an offset, in the
    -- unit's byte order, behind what stood before it; it is read so
    pub length_field : take l new ≡ take (l - w) old ++ fixed_bytes h.encoding.big_endian w (length new - l)
    pub length_read : fixed_at h.encoding.big_endian w new (l - w) ≡ Some (length new - l, cursor l)
    -- version, unit type, address size, abbreviation offset and unit id
    pub others : drop l (take h.first.0 new) ≡ drop l (take h.first.0 old)
    -- unit type 0x05: the last eight bytes of the header are the unit id (dwo_id)
    pub unit_id : h.unit_type ≡ DW_UT_split_compile
        → (h.first.0 ≡ l + 4 + w + 8) × (take 8 (drop (l + 4 + w) new) ≡ take 8 (drop (l + 4 + w) old))
