-- Worked examples: tables 7.7 and 7.8 of DWARF 5, and what document 01 says of numbers, headers, abbreviations and
-- expressions, computed by the definitions.
use mathlib.Core.Path.{◌≡◌, refl}
use Prim.Native.Nat.{ℕ, ◌^◌, ◌-◌}
use mathlib.Core.Bool.{true, false}
use mathlib.Core.List.{List, [], ◌∷◌}
use Rattle.std.specs.Prelude.{Err, None, Ok, Some}
use Rattle.readers.specs.Choice.{pick, check, bind, ◌and◌, ◌or◌}
use Rattle.readers.specs.Numbers.{groups, below, uleb, unsigned64, sleb, signed64, negative, ordered, little_bytes, little_value, fixed_bytes, fixed_value}
use Rattle.readers.specs.Layout.{short, within16, number_in, width}
use Rattle.readers.specs.Cursors.{fixed_at, as_fixed, leb_at, as_leb_number}
use Rattle.readers.specs.Scan.{push, on_turn, scan_within, scan}
use Rattle.readers.specs.Slots.{code_of, slot_code, slot_within, slot_of}
use Rattle.readers.specs.Abbreviations.{number_spec, implicit_spec, spec_at, spec_turn, attributes_from, scanned_to}
use Rattle.readers.specs.Abbreviations.{past_attributes, number_declaration, moved_declaration, head_at}
use Rattle.readers.specs.Abbreviations.{whole_declaration, declaration_at, declaration_turn, declarations_from}
use Rattle.readers.specs.Abbreviations.{declared_in, is_found, distinct, check_distinct, abbreviations_of}
use Rattle.readers.specs.Abbreviations.{insert_by_code, by_code, slots_of, indexed, index_for, index_of}
use Rattle.readers.specs.Header.{present, right, length_bytes, encoding_of, header_made, fields4, fields5, header_fields, header_in, header_of}

-- ---- 7.6, table 7.7: unsigned numbers

uleb-examples :
    (uleb (0x02 ∷ []) ≡ Some (0, 2, []))
    × (uleb (0x7f ∷ []) ≡ Some (0, 127, []))
    × (uleb (0x80 ∷ 0x01 ∷ []) ≡ Some (1, 128, []))
    × (uleb (0x81 ∷ 0x01 ∷ []) ≡ Some (1, 129, []))
    × (uleb (0xb9 ∷ 0x64 ∷ []) ≡ Some (1, 12857, []))
unfolding uleb groups below unsigned64 pick check bind
uleb-examples = (refl, refl, refl, refl, refl)

-- ---- 7.6, table 7.8: signed numbers, as two's complement

sleb-examples :
    (sleb (0x02 ∷ []) ≡ Some (0, 2, []))
    × (sleb (0x7e ∷ []) ≡ Some (0, 2 ^ 64 - 2, []))
    × (sleb (0xff ∷ 0x00 ∷ []) ≡ Some (1, 127, []))
    × (sleb (0x81 ∷ 0x7f ∷ []) ≡ Some (1, 2 ^ 64 - 127, []))
    × (sleb (0x80 ∷ 0x01 ∷ []) ≡ Some (1, 128, []))
    × (sleb (0x80 ∷ 0x7f ∷ []) ≡ Some (1, 2 ^ 64 - 128, []))
    × (sleb (0x81 ∷ 0x01 ∷ []) ≡ Some (1, 129, []))
    × (sleb (0xff ∷ 0x7e ∷ []) ≡ Some (1, 2 ^ 64 - 129, []))
unfolding sleb groups below signed64 negative pick check bind
sleb-examples = (refl, refl, refl, refl, refl, refl, refl, refl)

-- ---- at most ten bytes, within 64 bits; padding is taken

limits :
    (uleb (0xff ∷ 0xff ∷ 0xff ∷ 0xff ∷ 0xff ∷ 0xff ∷ 0xff ∷ 0xff ∷ 0xff ∷ 0x01 ∷ []) ≡ Some (9, 2 ^ 64 - 1, []))
    × (uleb (0xff ∷ 0xff ∷ 0xff ∷ 0xff ∷ 0xff ∷ 0xff ∷ 0xff ∷ 0xff ∷ 0xff ∷ 0x02 ∷ []) ≡ None)
    × (uleb (0x80 ∷ 0x80 ∷ 0x80 ∷ 0x80 ∷ 0x80 ∷ 0x80 ∷ 0x80 ∷ 0x80 ∷ 0x80 ∷ 0x00 ∷ []) ≡ Some (9, 0, []))
    × (uleb (0x80 ∷ 0x80 ∷ 0x80 ∷ 0x80 ∷ 0x80 ∷ 0x80 ∷ 0x80 ∷ 0x80 ∷ 0x80 ∷ 0x80 ∷ 0x00 ∷ []) ≡ None)
    × (uleb (0x80 ∷ []) ≡ None)
    × (sleb (0x80 ∷ 0x80 ∷ 0x80 ∷ 0x80 ∷ 0x80 ∷ 0x80 ∷ 0x80 ∷ 0x80 ∷ 0x80 ∷ 0x7f ∷ []) ≡ Some (9, 2 ^ 63, []))
    × (sleb (0x80 ∷ 0x80 ∷ 0x80 ∷ 0x80 ∷ 0x80 ∷ 0x80 ∷ 0x80 ∷ 0x80 ∷ 0x80 ∷ 0x01 ∷ []) ≡ None)
    × (short (0xff ∷ 0xff ∷ 0x03 ∷ []) ≡ Some (2, 65535, []))
    × (short (0x80 ∷ 0x80 ∷ 0x04 ∷ []) ≡ None)
    × (short (0x81 ∷ 0x80 ∷ 0x80 ∷ 0x00 ∷ []) ≡ None)
unfolding uleb sleb short within16 groups below unsigned64 signed64 negative pick check bind
limits = (refl, refl, refl, refl, refl, refl, refl, refl, refl, refl)

-- ---- fixed widths, in either order

orders :
    (fixed_value false (0x12 ∷ 0x34 ∷ 0x56 ∷ []) ≡ 0x563412)
    × (fixed_value true (0x12 ∷ 0x34 ∷ 0x56 ∷ []) ≡ 0x123456)
    × (fixed_value false (1 ∷ 2 ∷ []) ≡ 0x0201)
    × (fixed_value true (1 ∷ 2 ∷ []) ≡ 0x0102)
    × (fixed_value true (1 ∷ 2 ∷ 3 ∷ 4 ∷ []) ≡ 0x01020304)
    × (fixed_value true (1 ∷ 2 ∷ 3 ∷ 4 ∷ 5 ∷ 6 ∷ 7 ∷ 8 ∷ []) ≡ 0x0102030405060708)
    × (fixed_bytes false 3 0x123456 ≡ 0x56 ∷ 0x34 ∷ 0x12 ∷ [])
    × (fixed_bytes true 3 0x123456 ≡ 0x12 ∷ 0x34 ∷ 0x56 ∷ [])
    × (fixed_bytes true 8 0x0102030405060708 ≡ 1 ∷ 2 ∷ 3 ∷ 4 ∷ 5 ∷ 6 ∷ 7 ∷ 8 ∷ [])
unfolding fixed_value fixed_bytes ordered little_value little_bytes
orders = (refl, refl, refl, refl, refl, refl, refl, refl, refl)

-- the length field of either format (7.4)
length_fields : (length_bytes 4 ≡ 4) × (length_bytes 8 ≡ 12)
unfolding length_bytes pick
length_fields = (refl, refl)

-- ---- the order of the header's refusals: the length before what follows it, then each field first there, then right

headers :
    (header_of false [] ≡ Ok None)
    × (header_of false (0x08 ∷ 0 ∷ 0 ∷ []) ≡ Err 1)
    × (header_of false (0xf0 ∷ 0xff ∷ 0xff ∷ 0xff ∷ []) ≡ Err 2)
    × (header_of false (0x03 ∷ 0 ∷ 0 ∷ 0 ∷ 4 ∷ 0 ∷ []) ≡ Err 1)
    × (header_of false (0x02 ∷ 0 ∷ 0 ∷ 0 ∷ 3 ∷ 0 ∷ []) ≡ Err 2)
    × (header_of false (0x02 ∷ 0 ∷ 0 ∷ 0 ∷ 5 ∷ 0 ∷ 1 ∷ 8 ∷ 0 ∷ 0 ∷ 0 ∷ 0 ∷ []) ≡ Err 1)
    × (header_of false (0x08 ∷ 0 ∷ 0 ∷ 0 ∷ 5 ∷ 0 ∷ 2 ∷ 8 ∷ 0 ∷ 0 ∷ 0 ∷ 0 ∷ []) ≡ Err 2)
    × (header_of false (0x08 ∷ 0 ∷ 0 ∷ 0 ∷ 5 ∷ 0 ∷ 1 ∷ 3 ∷ 0 ∷ 0 ∷ 0 ∷ 0 ∷ []) ≡ Err 2)
    × (header_of false (0x08 ∷ 0 ∷ 0 ∷ 0 ∷ 5 ∷ 0 ∷ 5 ∷ 8 ∷ 0 ∷ 0 ∷ 0 ∷ 0 ∷ []) ≡ Err 1)
    -- big-endian; a header of 20 bytes whose abbreviations start at 0x0102; units told wrongly
    × (header_of true [] ≡ Ok None)
    × (header_of true (0 ∷ 0 ∷ 8 ∷ []) ≡ Err 1)
    × (header_of true (0xff ∷ 0xff ∷ 0xff ∷ 0xf0 ∷ []) ≡ Err 2)
    × (header_of true (0xff ∷ 0xff ∷ 0xff ∷ 0xef ∷ []) ≡ Err 1)
    × (header_of true (0xf0 ∷ 0xff ∷ 0xff ∷ 0xff ∷ []) ≡ Err 1)
    × (header_of true (0 ∷ 0 ∷ 0 ∷ 0x02 ∷ 0 ∷ 6 ∷ []) ≡ Err 2)
    × (header_of true (0 ∷ 0 ∷ 0 ∷ 0x02 ∷ 0 ∷ 5 ∷ 1 ∷ 8 ∷ 0 ∷ 0 ∷ 0 ∷ 0 ∷ []) ≡ Err 1)
    × (header_of true (0 ∷ 0 ∷ 0 ∷ 0x08 ∷ 0 ∷ 5 ∷ 2 ∷ 8 ∷ 0 ∷ 0 ∷ 0 ∷ 0 ∷ []) ≡ Err 2)
    × (header_of true (0 ∷ 0 ∷ 0 ∷ 0x08 ∷ 0 ∷ 5 ∷ 1 ∷ 3 ∷ 0 ∷ 0 ∷ 0 ∷ 0 ∷ []) ≡ Err 2)
    × (header_of true (0 ∷ 0 ∷ 0 ∷ 0x08 ∷ 0 ∷ 5 ∷ 5 ∷ 8 ∷ 0 ∷ 0 ∷ 0 ∷ 0 ∷ []) ≡ Err 1)
    × (header_of true (0 ∷ 0 ∷ 0 ∷ 16 ∷ 0 ∷ 5 ∷ 5 ∷ 4 ∷ 0 ∷ 0 ∷ 1 ∷ 2 ∷ 1 ∷ 2 ∷ 3 ∷ 4 ∷ 5 ∷ 6 ∷ 7 ∷ 8 ∷ [])
    ≡ Ok (Some (record { encoding = encoding_of true 5 4 4; unit_type = 5; abbreviations = 0x0102; first = record { 0 = 20 }; end = 20 })))
    × (header_of true (0x08 ∷ 0 ∷ 0 ∷ 0 ∷ 5 ∷ 0 ∷ 1 ∷ 8 ∷ 0 ∷ 0 ∷ 0 ∷ 0 ∷ []) ≡ Err 1)
    × (header_of true (0 ∷ 0 ∷ 0 ∷ 0 ∷ 5 ∷ 0 ∷ 1 ∷ 8 ∷ 0 ∷ 0 ∷ 0 ∷ 0 ∷ []) ≡ Err 1)
    × (header_of false (0 ∷ 0 ∷ 0 ∷ 0x08 ∷ 0 ∷ 5 ∷ 1 ∷ 8 ∷ 0 ∷ 0 ∷ 0 ∷ 0 ∷ []) ≡ Err 1)
    -- the 64-bit format: its length cut short, past the section, past 64 bits; a reserved number; headers of 24 and 32 bytes
    × (header_of false (0xff ∷ 0xff ∷ 0xff ∷ 0xff ∷ []) ≡ Err 1)
    × (header_of true (0xff ∷ 0xff ∷ 0xff ∷ 0xff ∷ 0 ∷ 0 ∷ 0 ∷ 0 ∷ 0 ∷ 0 ∷ 12 ∷ []) ≡ Err 1)
    × (header_of false (0xff ∷ 0xff ∷ 0xff ∷ 0xff ∷ 13 ∷ 0 ∷ 0 ∷ 0 ∷ 0 ∷ 0 ∷ 0 ∷ 0 ∷ 5 ∷ 0 ∷ 1 ∷ 8 ∷ 0 ∷ 0 ∷ 0 ∷ 0 ∷ 0 ∷ 0 ∷ 0 ∷ 0 ∷ []) ≡ Err 1)
    × (header_of false (0xff ∷ 0xff ∷ 0xff ∷ 0xff ∷ 0xf4 ∷ 0xff ∷ 0xff ∷ 0xff ∷ 0xff ∷ 0xff ∷ 0xff ∷ 0xff ∷ 4 ∷ 0 ∷ []) ≡ Err 1)
    × (header_of false (0xfe ∷ 0xff ∷ 0xff ∷ 0xff ∷ []) ≡ Err 2)
    × (header_of false (0xff ∷ 0xff ∷ 0xff ∷ 0xff ∷ 12 ∷ 0 ∷ 0 ∷ 0 ∷ 0 ∷ 0 ∷ 0 ∷ 0 ∷ 5 ∷ 0 ∷ 1 ∷ 8 ∷ 1 ∷ 0 ∷ 0 ∷ 0 ∷ 0 ∷ 0 ∷ 0 ∷ 2 ∷ [])
    ≡ Ok (Some (record { encoding = encoding_of false 5 8 8; unit_type = 1; abbreviations = 0x0200000000000001; first = record { 0 = 24 }; end = 24 })))
    × (header_of true (0xff ∷ 0xff ∷ 0xff ∷ 0xff ∷ 0 ∷ 0 ∷ 0 ∷ 0 ∷ 0 ∷ 0 ∷ 0 ∷ 20 ∷ 0 ∷ 5 ∷ 5 ∷ 4 ∷ 0 ∷ 0 ∷ 0 ∷ 0 ∷ 0 ∷ 0 ∷ 1 ∷ 2
    ∷ 1 ∷ 2 ∷ 3 ∷ 4 ∷ 5 ∷ 6 ∷ 7 ∷ 8 ∷ [])
    ≡ Ok (Some (record { encoding = encoding_of true 5 8 4; unit_type = 5; abbreviations = 0x0102; first = record { 0 = 32 }; end = 32 })))
    -- version 4: cut short behind the version, in its offset, at its address size; an address size of 3; headers of 11 and
    -- 23 bytes
    × (header_of false (0x02 ∷ 0 ∷ 0 ∷ 0 ∷ 4 ∷ 0 ∷ []) ≡ Err 1)
    × (header_of true (0 ∷ 0 ∷ 0 ∷ 0x05 ∷ 0 ∷ 4 ∷ 0 ∷ 0 ∷ 0 ∷ []) ≡ Err 1)
    × (header_of false (0x06 ∷ 0 ∷ 0 ∷ 0 ∷ 4 ∷ 0 ∷ 1 ∷ 2 ∷ 0 ∷ 0 ∷ []) ≡ Err 1)
    × (header_of false (0x07 ∷ 0 ∷ 0 ∷ 0 ∷ 4 ∷ 0 ∷ 0xff ∷ 0xff ∷ 0xff ∷ 0xff ∷ 3 ∷ []) ≡ Err 2)
    × (header_of false (0x07 ∷ 0 ∷ 0 ∷ 0 ∷ 4 ∷ 0 ∷ 1 ∷ 2 ∷ 0 ∷ 0 ∷ 8 ∷ [])
    ≡ Ok (Some (record { encoding = encoding_of false 4 4 8; unit_type = 1; abbreviations = 0x0201; first = record { 0 = 11 }; end = 11 })))
    × (header_of true (0xff ∷ 0xff ∷ 0xff ∷ 0xff ∷ 0 ∷ 0 ∷ 0 ∷ 0 ∷ 0 ∷ 0 ∷ 0 ∷ 11 ∷ 0 ∷ 4 ∷ 0 ∷ 0 ∷ 0 ∷ 0 ∷ 0 ∷ 0 ∷ 1 ∷ 2 ∷ 4 ∷ [])
    ≡ Ok (Some (record { encoding = encoding_of true 4 8 4; unit_type = 1; abbreviations = 0x0102; first = record { 0 = 23 }; end = 23 })))
unfolding header_of header_in header_fields fields4 fields5 length_bytes present right header_made encoding_of fixed_at as_fixed number_in width fixed_value
    ordered little_value pick check ◌or◌
headers = (refl, refl, refl, refl, refl, refl, refl, refl, refl, refl, refl, refl, refl, refl, refl, refl, refl, refl, refl, refl, refl, refl, refl, refl, refl, refl, refl, refl, refl, refl, refl, refl, refl, refl, refl, refl)

-- ---- the index: declarations with the codes 9, 2 and 5 at 0, 5 and 10 in the order of their codes; zeros where it has no room for them

nine-two-five : List ℕ
nine-two-five = 9 ∷ 0x34 ∷ 0 ∷ 0 ∷ 0 ∷ 2 ∷ 0x34 ∷ 0 ∷ 0 ∷ 0 ∷ 5 ∷ 0x34 ∷ 0 ∷ 0 ∷ 0 ∷ 0 ∷ []

indices :
    (index_of nine-two-five 0 5 ≡ 6 ∷ 11 ∷ 1 ∷ 0 ∷ 0 ∷ [])
    × (index_of nine-two-five 0 2 ≡ 0 ∷ 0 ∷ [])
    × (slot_of nine-two-five (6 ∷ 11 ∷ 1 ∷ 0 ∷ 0 ∷ []) 2 ≡ 0)
    × (slot_of nine-two-five (6 ∷ 11 ∷ 1 ∷ 0 ∷ 0 ∷ []) 5 ≡ 1)
    × (slot_of nine-two-five (6 ∷ 11 ∷ 1 ∷ 0 ∷ 0 ∷ []) 9 ≡ 2)
unfolding nine-two-five index_of index_for indexed slots_of by_code insert_by_code abbreviations_of check_distinct distinct
    is_found declared_in declarations_from declaration_turn declaration_at head_at whole_declaration moved_declaration
    number_declaration past_attributes scanned_to attributes_from spec_turn spec_at implicit_spec number_spec slot_of
    slot_within slot_code code_of scan scan_within on_turn push leb_at as_leb_number short within16 uleb groups below
    unsigned64 fixed_at as_fixed number_in width fixed_value ordered little_value pick check bind ◌and◌ ◌or◌
indices = (refl, refl, refl, refl, refl)
