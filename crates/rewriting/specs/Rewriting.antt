-- What collect answers (document 01, "collect" and "Rewriting").
use Rattle.std.specs.Prelude.{ℕ, ◌+◌, Bool, true, false, List, [], ◌∷◌, ◌++◌, length, take, drop, leb, eqb, Err, None, Ok, Option, Result, Some}
use Rattle.readers.specs.Choice.{pick, ◌and◌, ◌or◌}
use Rattle.readers.specs.Codes.{DW_AT_location, DW_AT_ranges}
use Rattle.readers.specs.Layout.{Role, reference, type_reference, sibling, index, absolute, fits}
use Rattle.readers.specs.Layout.{Piece, verbatim, patchable, Read, RunOf, Patch, patch_all, read_in, write_all}
use Rattle.readers.specs.Expression.{expression_in}
use Rattle.readers.specs.Entries.{entry_layout}
use Rattle.readers.specs.Abbreviations.{Placed, declared_in, abbreviations_of}
use Rattle.readers.specs.declared.cursor.Encoding.{Encoding}
use Rattle.readers.specs.declared.header.UnitHeader.{UnitHeader}
use Rattle.marking.specs.Marks.{kept_count}
use Rattle.readers.specs.Stream.{Item, entry, terminator, items_from}
use Rattle.marking.specs.Analysis.{Sections, Rooms, EntryRow, Analysed, analysed, refused as not_analysed, values_of_entry, header_by, analysis_of}
use Rattle.marking.specs.Resolution.{marks_in}
use Rattle.rewriting.specs.Refusals.{refusal_of_mapped, refusal_of_listed}
use Rattle.rewriting.specs.Places.{NestedItem, kept_from, offset_of, Place, places_from, size_from, new_of, sibling_of}
use Rattle.rewriting.specs.Emission.{header_bytes}
use Rattle.rewriting.specs.Indices.{insert_all, read_indices, declares, rank_or, count_of}

-- ---- a unit: how it is read

pub record Unit : Type 0 where
  pub header : UnitHeader
  pub bytes : List ℕ  -- of the unit alone
  pub declared : List Placed

-- the first unit of a section, by its header and declarations
abbrev pub unit_of : UnitHeader → List ℕ → List Placed → Unit
unit_of h section ds = record { header = h; bytes = take h.end section; declared = ds }

module _ (x : Sections) (u : Unit) where
  abbrev pub encoding : Encoding
  encoding = u.header.encoding

  abbrev pub first : ℕ
  first = u.header.first.0

  unfoldable pub items_in : List Item
  items_in = (items_from encoding x.abbreviations (declared_in u.declared) u.bytes first).0

  -- what was read of an entry or terminator, its expressions operation by operation; nothing where one can't be read, which no accepted unit has
  unfoldable pub reads_or : Option RunOf → List Read
  reads_or None = []
  reads_or (Some r) = r.0

  unfoldable pub reads_at : ℕ → List Read
  reads_at at =
      reads_or
      (read_in encoding.big_endian (expression_in encoding)
      (entry_layout encoding x.abbreviations (declared_in u.declared)) (drop at u.bytes))

-- ---- index lists

pub record Lists : Type 0 where
  pub ranges : Option (List ℕ)
  pub locations : Option (List ℕ)
  pub strings : Option (List ℕ)

module _ (x : Sections) (u : Unit) where
  -- the indices of the kept entries
  unfoldable pub indices_from : ℕ → List NestedItem → List ℕ
  indices_from k [] = []
  indices_from k (s ∷ rest) = read_indices k (reads_at x u (offset_of s.item)) ++ indices_from k rest

  unfoldable pub item_declares : ℕ → Item → Bool
  item_declares name (entry y) = declares name (values_of_entry u.header.encoding x u.bytes y)
  item_declares name (terminator a b) = false

  unfoldable pub any_declares : ℕ → List Item → Bool
  any_declares name [] = false
  any_declares name (i ∷ rest) = item_declares name i or any_declares name rest

  unfoldable pub list_of : Bool → ℕ → List NestedItem → Option (List ℕ)
  list_of absent k kept = pick absent None (Some (insert_all (indices_from k kept) []))

  -- DW_AT_ranges, DW_AT_location
  unfoldable pub lists_of : Bool → List NestedItem → Lists
  lists_of type_units kept =
      record {
        ranges = list_of (type_units or any_declares DW_AT_ranges (items_in x u)) 0 kept;
        locations = list_of (type_units or any_declares DW_AT_location (items_in x u)) 1 kept;
        strings = list_of type_units 2 kept;
      }

-- ---- new values

unfoldable pub or_self : ℕ → Option ℕ → ℕ
or_self v None = v
or_self v (Some n) = n

unfoldable pub is_some : Option ℕ → Bool
is_some None = false
is_some (Some n) = true

unfoldable pub list_at : Lists → ℕ → Option (List ℕ)
list_at lists k = pick (eqb k 0) lists.ranges (pick (eqb k 1) lists.locations lists.strings)

-- the first of two refusals, 0 where there is none
unfoldable pub or_next : ℕ → ℕ → ℕ
or_next n m = pick (eqb n 0) m n

module _ (lists : Lists) (map : List Place) (depth : ℕ) where
  -- what a number of an item at a depth becomes
  unfoldable pub new_value : Patch
  new_value reference v = or_self v (new_of map v)
  new_value type_reference v = pick (eqb v 0) 0 (or_self v (new_of map v))
  new_value sibling v = or_self v (sibling_of map depth v)
  new_value (index k) v = rank_or (list_at lists k) v
  new_value absolute v = v

  -- whether it has a place
  unfoldable pub has_place : Role → ℕ → Bool
  has_place reference v = is_some (new_of map v)
  has_place type_reference v = eqb v 0 or is_some (new_of map v)
  has_place sibling v = is_some (sibling_of map depth v)
  has_place (index k) v = true
  has_place absolute v = true

  -- 8 where a target has no place, 9 where a value does not fit, 0 where nothing is refused
  unfoldable pub piece_refusal : Piece → ℕ
  piece_refusal (verbatim l) = 0
  piece_refusal (patchable e r v) = pick (has_place r v) (pick (fits e (new_value r v)) 0 9) (refusal_of_mapped None)

  unfoldable pub pieces_refusal : List Piece → ℕ
  pieces_refusal [] = 0
  pieces_refusal (p ∷ ps) = or_next (piece_refusal p) (pieces_refusal ps)

  unfoldable pub reads_refusal : List Read → ℕ
  reads_refusal [] = 0
  reads_refusal (r ∷ rs) = or_next (pieces_refusal r.pieces) (reads_refusal rs)

module _ (x : Sections) (u : Unit) (lists : Lists) (map : List Place) where
  -- the first refusal in stream order
  unfoldable pub refusal_from : List NestedItem → ℕ
  refusal_from [] = 0
  refusal_from (s ∷ rest) = or_next (reads_refusal lists map s.depth (reads_at x u (offset_of s.item))) (refusal_from rest)

  -- the kept items written anew
  unfoldable pub bytes_from : List NestedItem → List ℕ
  bytes_from [] = []
  bytes_from (s ∷ rest) =
      write_all u.header.encoding.big_endian (patch_all (new_value lists map s.depth) (reads_at x u (offset_of s.item)))
      ++ bytes_from rest

  -- the header, with the length of the new unit, and the items
  unfoldable pub unit_bytes : List NestedItem → List ℕ
  unit_bytes kept =
      header_bytes u.header.encoding u.bytes u.header.first.0 (u.header.first.0 + size_from kept) ++ bytes_from kept

-- ---- the answer

-- what a call has room for: numbers of each list, map places, output bytes
pub record Room : Type 0 where
  pub tables : Rooms
  pub ranges : ℕ
  pub locations : ℕ
  pub strings : ℕ
  pub places : ℕ
  pub bytes : ℕ

pub record Rewrite : Type 0 where
  pub entries : ℕ
  pub kept : ℕ
  pub lists : Lists
  pub map : List Place
  pub output : List ℕ

-- untouched has no map and no output
pub data Collected : Type 0 where
  untouched : ℕ → Lists → Collected
  rewritten : Rewrite → Collected
  refused : ℕ → Collected

abbrev pub no_lists : Lists
no_lists = record { ranges = None; locations = None; strings = None }

unfoldable pub lists_fit : Room → Lists → Bool
lists_fit room l =
    leb (count_of l.ranges) room.ranges and leb (count_of l.locations) room.locations
    and leb (count_of l.strings) room.strings

module _ (x : Sections) (room : Room) where
  unfoldable pub or_refused : ℕ → Collected → Collected
  or_refused n c = pick (eqb n 0) c (refused n)

  -- something is dead: 13 map, 14 output too short, then 8 and 9 in stream order
  unfoldable pub rewrite_of : Unit → ℕ → ℕ → Lists → List NestedItem → Collected
  rewrite_of u entries kept lists items =
      pick (leb (length items) room.places)
      (pick (leb (u.header.first.0 + size_from items) room.bytes)
      (or_refused (refusal_from x u lists (places_from u.header.first.0 items) items)
      (rewritten (record {
        entries = entries;
        kept = kept;
        lists = lists;
        map = places_from u.header.first.0 items;
        output = unit_bytes x u lists (places_from u.header.first.0 items) items;
      })))
      (refused 14))
      (refused 13)

  unfoldable pub marks_collected : Bool → Unit → List ℕ → List NestedItem → Collected
  marks_collected type_units u marks items =
      pick (lists_fit room (lists_of x u type_units items))
      (pick (eqb (kept_count marks) (length marks)) (untouched (length marks) (lists_of x u type_units items))
      (rewrite_of u (length marks) (kept_count marks) (lists_of x u type_units items) items))
      (refused (refusal_of_listed None))

  unfoldable pub rows_collected : Bool → Unit → List EntryRow → Collected
  rows_collected type_units u [] = untouched 0 no_lists
  rows_collected type_units u (r ∷ rows) = marks_collected type_units u (marks_in (r ∷ rows)) (kept_from (marks_in (r ∷ rows)) 0 [] (items_in x u))

  unfoldable pub analysed_collected : Bool → Unit → Analysed → Collected
  analysed_collected type_units u (not_analysed n) = refused n
  analysed_collected type_units u (analysed rows) = rows_collected type_units u rows

  unfoldable pub declared_collected : Bool → List ℕ → UnitHeader → Option (List Placed) → Collected
  declared_collected type_units section h None = refused 3
  declared_collected type_units section h (Some ds) =
      analysed_collected type_units (unit_of h section ds) (analysis_of x section room.tables)

  unfoldable pub header_collected : Bool → List ℕ → Result (Option UnitHeader) ℕ → Collected
  header_collected type_units section (Ok None) = untouched 0 no_lists
  header_collected type_units section (Err n) = refused n
  header_collected type_units section (Ok (Some h)) = declared_collected type_units section h (abbreviations_of x.abbreviations h.abbreviations)

  -- THE answer of collect
  unfoldable pub collect_of : Bool → List ℕ → Collected
  collect_of type_units section = header_collected type_units section (header_by x section)
