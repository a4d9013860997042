-- What an analysis asks of the lent tables (document 01, "collect"): each "full" means that the count up to and
-- including the present entry exceeds the lent length.
use Rattle.std.specs.Prelude.{◌≡◌, ℕ, ◌+◌, ◌≤◌, ◌<◌, List, [], ◌∷◌, length, take, Err, None, Ok, Option, Result, Some}
use Rattle.readers.specs.declared.header.UnitHeader.{UnitHeader}
use Rattle.readers.specs.Codes.{DW_AT_loclists_base}
use Rattle.readers.specs.Abbreviations.{Placed, declared_in, abbreviations_of}
use Rattle.readers.specs.Header.{header_of}
use Rattle.readers.specs.Lists.{list_base}
use Rattle.readers.specs.Stream.{Item, entry, terminator, items_from, entry_count}
use Rattle.readers.specs.declared.cursor.Encoding.{Encoding}
use Rattle.marking.specs.EntryReferences.{ReferencesFound, found, refused as refused_after}
use Rattle.marking.specs.Analysis.{Sections, Rooms, rooms, EntryRow, analysed, refused, names_of, base_of, analysis_of}
use Rattle.marking.specs.Columns.{names_in}

-- tables that are at least so long
pub record TablesWithin (need lent : Rooms) : Type 0 where
  pub entries : need.entries ≤ lent.entries
  pub references : need.references ≤ lent.references

-- what rows need: an entry each, and all their references
abbrev pub tables_for : List EntryRow → Rooms
tables_for rows = rooms (length rows) (length (names_in rows))

-- what an analysis that gave these rows answers with other tables: the same with those that the rows need; 10 at the
-- first entry that the table has no room for, where the references of those before it fit; 11 where these do not
pub record TableLaw (x : Sections) (section : List ℕ) (rows : List EntryRow) : Type 0 where
  pub enough : (lent : Rooms) → TablesWithin (tables_for rows) lent → analysis_of x section lent ≡ analysed rows
  pub full_entries : (lent : Rooms) → lent.entries < length rows
      → length (names_in (take lent.entries rows)) ≤ lent.references → analysis_of x section lent ≡ refused 10
  pub full_references : (lent : Rooms) → lent.references < length (names_in (take lent.entries rows))
      → analysis_of x section lent ≡ refused 11

-- ---- tables that are long enough, by the input alone

-- the references of an entry that are read; none where they are refused
unfoldable pub found_count : ReferencesFound → ℕ
found_count (found xs) = length xs
found_count (refused_after xs n) = 0

module _ (e : Encoding) (x : Sections) (unit : List ℕ) where
  -- those of items, by the base of their location lists
  unfoldable pub reference_count : ℕ → List Item → ℕ
  reference_count base [] = 0
  reference_count base (terminator a b ∷ rest) = reference_count base rest
  reference_count base (entry y ∷ rest) =
      found_count (names_of e x unit (base_of e x unit DW_AT_loclists_base base y) y) + reference_count (base_of e x unit DW_AT_loclists_base base y) rest

  abbrev pub item_tables : List Item → Rooms
  item_tables items = rooms (entry_count items) (reference_count (list_base e) items)

  unfoldable pub declared_tables : ℕ → Option (List Placed) → Rooms
  declared_tables first None = rooms 0 0
  declared_tables first (Some ds) = item_tables (items_from e x.abbreviations (declared_in ds) unit first).0

unfoldable pub header_tables : Sections → List ℕ → Result (Option UnitHeader) ℕ → Rooms
header_tables x section (Ok None) = rooms 0 0
header_tables x section (Err n) = rooms 0 0
header_tables x section (Ok (Some h)) =
    declared_tables h.encoding x (take h.end section) h.first.0
    (abbreviations_of x.abbreviations h.abbreviations)

-- THE tables that are enough for the first unit of a section
unfoldable pub enough_tables : Sections → List ℕ → Rooms
enough_tables x section = header_tables x section (header_of x.setting.big_endian section)
