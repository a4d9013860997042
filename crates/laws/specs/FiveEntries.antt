-- The five-entry unit of document 01, and the answers for it that P1 to P10 name (proofs/examples/FiveEntries.antt,
-- `p1-to-p10`); P1 in each encoding that is read (`p1-in-every-encoding`).
use Rattle.std.specs.Prelude.{◌≡◌, List, [], ◌∷◌, ◌++◌, Bool, true, false, ℕ, ◌+◌, ◌-◌, length, eqb, Some, Err, Ok}
use Rattle.readers.specs.Choice.{pick}
use Rattle.readers.specs.Numbers.{fixed_bytes}
use Rattle.readers.specs.Codes.{DW_FORM_addrx, DW_FORM_strp, DW_FORM_ref1, DW_FORM_ref4, DW_FORM_ref8}
use Rattle.readers.specs.Header.{length_size, encoding_of}
use Rattle.readers.specs.declared.cursor.Encoding.{Encoding}
use Rattle.marking.specs.Analysis.{sections, rooms}
use Rattle.marking.specs.declared.setting.Setting.{Setting}
use Rattle.rewriting.specs.Places.{Place}
use Rattle.marking.specs.Addresses.{is_tombstone}
use Rattle.rewriting.specs.Written.{padded_answer, padded_out}
use Rattle.rewriting.specs.Rewriting.{collect_of, Collected, Room, Lists, no_lists, untouched, rewritten, refused}
use Rattle.laws.specs.KeepLists.{no_list}
use Rattle.collector.specs.Call.{collected_of}

-- its abbreviations, by the form of its subprograms' addresses, as ULEB128, the form of its references and the
-- attributes of its base types
abbrev pub declaring : List ℕ → ℕ → List ℕ → List ℕ
declaring address form specs =
    0x01 ∷ 0x11 ∷ 0x01 ∷ 0 ∷ 0
    ∷ 0x02 ∷ 0x2e ∷ 0 ∷ 0x11 ∷ (address ++ (0x49 ∷ form ∷ 0 ∷ 0
    ∷ 0x03 ∷ 0x24 ∷ 0 ∷ (specs ++ (0 ∷ 0
    ∷ 0 ∷ []))))

-- 01 11 01 00 00 02 2e 00 11 1b 49 11 00 00 03 24 00 00 00 00
abbrev pub abbreviations5 : List ℕ
abbreviations5 = declaring (DW_FORM_addrx ∷ []) DW_FORM_ref1 []

-- what follows the header; of P1's answer, too
abbrev pub body5 : List ℕ
body5 = 0x01 ∷ 0x02 ∷ 0x00 ∷ 0x11 ∷ 0x03 ∷ 0x03 ∷ 0x02 ∷ 0x01 ∷ 0x10 ∷ 0x00 ∷ []

abbrev pub body1 : List ℕ
body1 = 0x01 ∷ 0x02 ∷ 0x00 ∷ 0x10 ∷ 0x03 ∷ 0x00 ∷ []

-- the header of a unit with a length
abbrev pub header5 : ℕ → List ℕ
header5 n = n ∷ 0 ∷ 0 ∷ 0 ∷ 0x05 ∷ 0 ∷ 0x01 ∷ 0x08 ∷ 0 ∷ 0 ∷ 0 ∷ 0 ∷ []

abbrev pub unit5 : List ℕ
unit5 = header5 0x12 ++ body5

abbrev pub room5 : Room
room5 = record { tables = rooms 2048 8192; ranges = 8192; locations = 8192; strings = 8192; places = 4096; bytes = 65536 }

-- no ranges base, a byte order, and the roots that gc.rs finds
abbrev pub told : Bool → Setting
told big = record { ranges_base = 0; big_endian = big; fixed_addresses = false }

abbrev pub five : List ℕ → Collected
five table = collect_of (sections abbreviations5 [] [] table [] no_list (told false)) room5 false unit5

abbrev pub none3 : Lists
none3 = record { ranges = Some []; locations = Some []; strings = Some [] }

abbrev pub place : ℕ → ℕ → ℕ → Place
place o n d = record { old = o; new = n; depth = d }

abbrev pub rewrite5 : ℕ → List Place → List ℕ → Collected
rewrite5 kept map output = rewritten (record { entries = 5; kept = kept; lists = none3; map = map; output = output })

-- P1's answer
abbrev pub places1 : List Place
places1 = place 12 12 0 ∷ place 13 13 1 ∷ place 17 16 1 ∷ place 21 17 1 ∷ []

abbrev pub p1 : Collected
p1 = rewrite5 3 places1 (header5 0x0e ++ body1)

-- P1 to P10, and the five-entry unit with no address table
abbrev pub P1toP10 : Type 0
P1toP10 =
    (five (1 ∷ 0 ∷ []) ≡ p1)
    × (five (0 ∷ 0 ∷ []) ≡ rewrite5 1 (place 12 12 0 ∷ place 21 13 1 ∷ []) (header5 0x0a ++ 0x01 ∷ 0x00 ∷ []))
    × (five (0 ∷ 1 ∷ []) ≡ rewrite5 3 (place 12 12 0 ∷ place 16 13 1 ∷ place 18 14 1 ∷ place 21 17 1 ∷ [])
    (header5 0x0e ++ 0x01 ∷ 0x03 ∷ 0x02 ∷ 0x01 ∷ 0x0d ∷ 0x00 ∷ []))
    × (five (1 ∷ 1 ∷ []) ≡ untouched 5 none3)
    × (five (2 ∷ 0 ∷ []) ≡ refused 6)
    × (five (1 ∷ []) ≡ refused 17)
    × (collect_of (sections abbreviations5 [] [] [] [] no_list (told false)) room5 false [] ≡ untouched 0 no_lists)
    × ((padded_answer 0 1 1 ≡ Ok tt) × (padded_out 0 1 1 ≡ 0x00 ∷ [])
    × (padded_answer 16 2 2 ≡ Ok tt) × (padded_out 16 2 2 ≡ 0x90 ∷ 0x00 ∷ []))
    × (padded_answer 128 1 1 ≡ Err 15)
    × ((is_tombstone 0xffffffff 4 ≡ true) × (is_tombstone 0xffffffff 8 ≡ false) × (is_tombstone 0xffffffff 2 ≡ false))
    × (five [] ≡ untouched 5 none3)  -- document 02, Point 2

-- ---- with keep lists (document 02, Point 10), as the C calls answer: by the bytes of their tags and their treatments

abbrev pub kept_by : List ℕ → List ℕ → List ℕ → List ℕ → Collected
kept_by tags treatments table section = collected_of section abbreviations5 [] [] table [] tags treatments 0 0 0 0 room5

-- the first entry alone, and both base types
abbrev pub first_alone : Collected
first_alone = rewrite5 1 (place 12 12 0 ∷ place 21 13 1 ∷ []) (header5 0x0a ++ 0x01 ∷ 0x00 ∷ [])

abbrev pub base_types : Collected
base_types =
    rewrite5 3 (place 12 12 0 ∷ place 16 13 1 ∷ place 17 14 1 ∷ place 21 15 1 ∷ [])
    (header5 0x0c ++ 0x01 ∷ 0x03 ∷ 0x03 ∷ 0x00 ∷ [])

abbrev pub ByKeepLists : Type 0
ByKeepLists =
    -- base types always, subprograms always, never; a base type never, that P1 keeps by a reference
    (kept_by (0x00 ∷ 0x24 ∷ []) (1 ∷ []) (0 ∷ 0 ∷ []) unit5 ≡ base_types)
    × (kept_by (0x00 ∷ 0x2e ∷ []) (1 ∷ []) (0 ∷ 0 ∷ []) unit5 ≡ untouched 5 none3)
    × (kept_by (0x00 ∷ 0x2e ∷ []) (2 ∷ []) (1 ∷ 1 ∷ []) unit5 ≡ first_alone)
    × (kept_by (0x00 ∷ 0x24 ∷ []) (2 ∷ []) (1 ∷ 0 ∷ []) unit5 ≡ p1)
    -- the first, a middle and the last tag of a list; tags that no entry has
    × (kept_by (0x00 ∷ 0x24 ∷ 0x00 ∷ 0x25 ∷ 0x00 ∷ 0x2e ∷ []) (1 ∷ 1 ∷ 2 ∷ []) (1 ∷ 1 ∷ []) unit5 ≡ base_types)
    × (kept_by (0x00 ∷ 0x00 ∷ 0x00 ∷ 0x24 ∷ 0xff ∷ 0xff ∷ []) (2 ∷ 1 ∷ 1 ∷ []) (0 ∷ 0 ∷ []) unit5 ≡ base_types)
    -- half a tag counts for nothing; the first of two bytes is the high one
    × (kept_by (0x00 ∷ 0x24 ∷ 0x00 ∷ []) (1 ∷ []) (0 ∷ 0 ∷ []) unit5 ≡ base_types)
    × (kept_by (0x24 ∷ 0x00 ∷ []) (1 ∷ []) (0 ∷ 0 ∷ []) unit5 ≡ first_alone)
    -- a root test that refuses
    × (kept_by (0x00 ∷ 0x2e ∷ []) (2 ∷ []) (2 ∷ 0 ∷ []) unit5 ≡ refused 6)
    × (kept_by (0x00 ∷ 0x2e ∷ []) (1 ∷ []) (1 ∷ []) unit5 ≡ refused 17)
    -- 19: no treatment, another, not one for each tag; before 20 over the whole list, and before 1; 20
    × (kept_by (0x00 ∷ 0x24 ∷ []) (0 ∷ []) (1 ∷ 0 ∷ []) unit5 ≡ refused 19)
    × (kept_by (0x00 ∷ 0x24 ∷ []) (3 ∷ []) (1 ∷ 0 ∷ []) unit5 ≡ refused 19)
    × (kept_by (0x00 ∷ 0x24 ∷ []) [] (1 ∷ 0 ∷ []) unit5 ≡ refused 19)
    × (kept_by (0x24 ∷ []) (1 ∷ []) (1 ∷ 0 ∷ []) unit5 ≡ refused 19)
    × (kept_by (0x00 ∷ 0x24 ∷ 0x00 ∷ 0x24 ∷ 0x00 ∷ 0x25 ∷ []) (1 ∷ 1 ∷ 0 ∷ []) (1 ∷ 0 ∷ []) unit5 ≡ refused 19)
    × (kept_by (0x00 ∷ 0x24 ∷ 0x00 ∷ 0x24 ∷ []) (1 ∷ 1 ∷ []) (1 ∷ 0 ∷ []) unit5 ≡ refused 20)
    × (kept_by (0x01 ∷ 0x00 ∷ 0x00 ∷ 0xff ∷ []) (1 ∷ 2 ∷ []) (1 ∷ 0 ∷ []) unit5 ≡ refused 20)
    × (kept_by (0x00 ∷ 0x24 ∷ []) (0 ∷ []) [] (0x01 ∷ []) ≡ refused 19)
    × (kept_by (0x00 ∷ 0x24 ∷ 0x00 ∷ 0x24 ∷ []) (1 ∷ 1 ∷ []) [] [] ≡ refused 20)

-- ---- P1 by an encoding

-- unit_length (7.4): a number as wide as an offset; 0xffffffff stands before it in the 64-bit format
abbrev pub length_in : Encoding → ℕ → List ℕ
length_in e n =
    fixed_bytes e.big_endian (length_size e - e.offset_size) 0xffffffff
    ++ fixed_bytes e.big_endian e.offset_size n

-- what the header has beside unit_length and version: in version 4 debug_abbrev_offset and address_size (DWARF 4,
-- 7.5.1.1); in version 5 unit type 1, address_size and debug_abbrev_offset (7.5.1.1)
abbrev pub others_in : Encoding → List ℕ
others_in e =
    let offset = fixed_bytes e.big_endian e.offset_size 0 in
    pick (eqb e.version 4) (offset ++ (e.address_size ∷ [])) (0x01 ∷ e.address_size ∷ offset)

-- a compile unit with a body
abbrev pub unit_in : Encoding → List ℕ → List ℕ
unit_in e body =
    length_in e (2 + length (others_in e) + length body)
    ++ (fixed_bytes e.big_endian 2 e.version ++ (others_in e ++ body))

-- where its first entry starts
abbrev pub first_in : Encoding → ℕ
first_in e = length_size e + 2 + length (others_in e)

-- the form of an address index, as ULEB128: DW_FORM_GNU_addr_index (0x1f01) in version 4, DW_FORM_addrx in version 5
abbrev pub address_in : Encoding → List ℕ
address_in e = pick (eqb e.version 4) (0x81 ∷ 0x3e ∷ []) (DW_FORM_addrx ∷ [])

abbrev pub five_in : Encoding → List ℕ → List ℕ → List ℕ → Collected
five_in e abbreviations body table = collect_of (sections abbreviations [] [] table [] no_list (told e.big_endian)) room5 false (unit_in e body)

-- a subprogram, by its address index, that refers to a place in so many bytes
module _ (e : Encoding) (width : ℕ) where
  abbrev pub subprogram : ℕ → ℕ → List ℕ
  subprogram index to = 0x02 ∷ index ∷ fixed_bytes e.big_endian width to

-- P1 where a subprogram has n bytes and a base type has k: five entries from `first` on; the first subprogram refers to
-- the second base type, the second to the first
module _ (first n k : ℕ) where
  abbrev pub entries_at : (ℕ → ℕ → List ℕ) → List ℕ → List ℕ
  entries_at sub base =
      0x01 ∷ (sub 0 (first + 1 + n + k) ++ (base ++ (base ++ (sub 1 (first + 1 + n) ++ (0x00 ∷ [])))))

  -- what is left: the first subprogram and what it refers to
  abbrev pub left_at : (ℕ → ℕ → List ℕ) → List ℕ → List ℕ
  left_at sub base = 0x01 ∷ (sub 0 (first + 1 + n) ++ (base ++ (0x00 ∷ [])))

  abbrev pub places_at : List Place
  places_at =
      place first first 0 ∷ place (first + 1) (first + 1) 1 ∷ place (first + 1 + n + k) (first + 1 + n) 1
      ∷ place (first + 1 + n + k + k + n) (first + 1 + n + k) 1 ∷ []

-- P1 with references of a form, which takes so many bytes, and base types that are declared and written so
abbrev pub P1By : Encoding → ℕ → ℕ → List ℕ → List ℕ → Type 0
P1By e form width specs base =
    let first = first_in e in
    let n = 2 + width in
    let k = length base in
    five_in e (declaring (address_in e) form specs) (entries_at first n k (subprogram e width) base) (1 ∷ 0 ∷ [])
    ≡ rewrite5 3 (places_at first n k) (unit_in e (left_at first n k (subprogram e width) base))

pub record P1In (e : Encoding) : Type 0 where
  -- references of one byte, of four and of eight: the one that is written is as wide, and in the unit's byte order
  pub one : P1By e DW_FORM_ref1 1 [] (0x03 ∷ [])
  pub four : P1By e DW_FORM_ref4 4 [] (0x03 ∷ [])
  pub eight : P1By e DW_FORM_ref8 8 [] (0x03 ∷ [])
  -- each base type has a name in DW_FORM_strp, as wide as an offset
  pub named : P1By e DW_FORM_ref1 1 (0x03 ∷ DW_FORM_strp ∷ []) (0x03 ∷ fixed_bytes e.big_endian e.offset_size 7)

-- the bytes of the five-entry unit as document 01 has it, big-endian, big-endian in the 64-bit format, and in version 4;
-- what is left of it
abbrev pub BytesIn : Type 0
BytesIn =
    (unit_in (encoding_of false 5 4 8) body5 ≡ unit5)
    × (entries_at 12 3 1 (subprogram (encoding_of false 5 4 8) 1) (0x03 ∷ []) ≡ body5)
    × (left_at 12 3 1 (subprogram (encoding_of false 5 4 8) 1) (0x03 ∷ []) ≡ body1)
    × (places_at 12 3 1 ≡ places1)
    × (unit_in (encoding_of true 5 4 8) body5
    ≡ 0 ∷ 0 ∷ 0 ∷ 0x12 ∷ 0 ∷ 0x05 ∷ 0x01 ∷ 0x08 ∷ 0 ∷ 0 ∷ 0 ∷ 0 ∷ body5)
    × (unit_in (encoding_of true 5 8 8) (entries_at 24 3 1 (subprogram (encoding_of true 5 8 8) 1) (0x03 ∷ []))
    ≡ 0xff ∷ 0xff ∷ 0xff ∷ 0xff ∷ 0 ∷ 0 ∷ 0 ∷ 0 ∷ 0 ∷ 0 ∷ 0 ∷ 0x16 ∷ 0 ∷ 0x05 ∷ 0x01 ∷ 0x08
    ∷ 0 ∷ 0 ∷ 0 ∷ 0 ∷ 0 ∷ 0 ∷ 0 ∷ 0
    ∷ 0x01 ∷ 0x02 ∷ 0x00 ∷ 0x1d ∷ 0x03 ∷ 0x03 ∷ 0x02 ∷ 0x01 ∷ 0x1c ∷ 0x00 ∷ [])
    × (places_at 24 3 1 ≡ place 24 24 0 ∷ place 25 25 1 ∷ place 29 28 1 ∷ place 33 29 1 ∷ [])
    × (unit_in (encoding_of true 5 8 8) (left_at 24 3 1 (subprogram (encoding_of true 5 8 8) 1) (0x03 ∷ []))
    ≡ 0xff ∷ 0xff ∷ 0xff ∷ 0xff ∷ 0 ∷ 0 ∷ 0 ∷ 0 ∷ 0 ∷ 0 ∷ 0 ∷ 0x12 ∷ 0 ∷ 0x05 ∷ 0x01 ∷ 0x08
    ∷ 0 ∷ 0 ∷ 0 ∷ 0 ∷ 0 ∷ 0 ∷ 0 ∷ 0
    ∷ 0x01 ∷ 0x02 ∷ 0x00 ∷ 0x1c ∷ 0x03 ∷ 0x00 ∷ [])
    × (first_in (encoding_of false 4 4 8) ≡ 11)
    × (first_in (encoding_of false 4 8 8) ≡ 23)
    × (unit_in (encoding_of false 4 4 8) (entries_at 11 3 1 (subprogram (encoding_of false 4 4 8) 1) (0x03 ∷ []))
    ≡ 0x11 ∷ 0 ∷ 0 ∷ 0 ∷ 0x04 ∷ 0 ∷ 0 ∷ 0 ∷ 0 ∷ 0 ∷ 0x08
    ∷ 0x01 ∷ 0x02 ∷ 0x00 ∷ 0x10 ∷ 0x03 ∷ 0x03 ∷ 0x02 ∷ 0x01 ∷ 0x0f ∷ 0x00 ∷ [])
    × (unit_in (encoding_of true 4 8 4) (entries_at 23 3 1 (subprogram (encoding_of true 4 8 4) 1) (0x03 ∷ []))
    ≡ 0xff ∷ 0xff ∷ 0xff ∷ 0xff ∷ 0 ∷ 0 ∷ 0 ∷ 0 ∷ 0 ∷ 0 ∷ 0 ∷ 0x15 ∷ 0 ∷ 0x04
    ∷ 0 ∷ 0 ∷ 0 ∷ 0 ∷ 0 ∷ 0 ∷ 0 ∷ 0 ∷ 0x04
    ∷ 0x01 ∷ 0x02 ∷ 0x00 ∷ 0x1c ∷ 0x03 ∷ 0x03 ∷ 0x02 ∷ 0x01 ∷ 0x1b ∷ 0x00 ∷ [])
    × (places_at 11 3 1 ≡ place 11 11 0 ∷ place 12 12 1 ∷ place 16 15 1 ∷ place 20 16 1 ∷ [])
    × (unit_in (encoding_of false 4 4 8) (left_at 11 3 1 (subprogram (encoding_of false 4 4 8) 1) (0x03 ∷ []))
    ≡ 0x0d ∷ 0 ∷ 0 ∷ 0 ∷ 0x04 ∷ 0 ∷ 0 ∷ 0 ∷ 0 ∷ 0 ∷ 0x08
    ∷ 0x01 ∷ 0x02 ∷ 0x00 ∷ 0x0f ∷ 0x03 ∷ 0x00 ∷ [])
