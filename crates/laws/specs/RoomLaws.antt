-- What collect asks of lent room (document 01, "collect"): each "short" means exactly that the finished count exceeds the
-- lent length. The laws are in proofs/room/RoomLaws.antt: `needs-law`, `larger-law`, `enough-law`, `every-room-law`.
use Rattle.std.specs.Prelude.{◌≡◌, ℕ, ◌+◌, ◌≤◌, ◌<◌, Bool, List, [], ◌∷◌, ◌⊎◌, length, take, Err, None, Ok, Option, Result, Some}
use Rattle.laws.specs.RefusalNumbers.{OneOf}
use Rattle.readers.specs.Abbreviations.{Placed, abbreviations_of}
use Rattle.readers.specs.Header.{header_of}
use Rattle.readers.specs.Stream.{Item}
use Rattle.readers.specs.declared.header.UnitHeader.{UnitHeader}
use Rattle.marking.specs.Analysis.{Sections, Rooms, rooms, EntryRow, analysed, analysis_of}
use Rattle.marking.specs.Columns.{names_in}
use Rattle.laws.specs.TableRoom.{TablesWithin, enough_tables}
use Rattle.rewriting.specs.Places.{offset_of}
use Rattle.rewriting.specs.Indices.{read_indices, count_of}
use Rattle.laws.specs.LeftOut.{sizes_of}
use Rattle.rewriting.specs.Rewriting.{Unit as Unit', items_in, reads_at, Lists, Room, Collected, untouched, rewritten, refused, collect_of}

-- ---- at least as large

pub record ListsWithin (need lent : Room) : Type 0 where
  pub ranges : need.ranges ≤ lent.ranges
  pub locations : need.locations ≤ lent.locations
  pub strings : need.strings ≤ lent.strings

pub record Within (need lent : Room) : Type 0 where
  pub tables : TablesWithin need.tables lent.tables
  pub lists : ListsWithin need lent
  pub places : need.places ≤ lent.places
  pub bytes : need.bytes ≤ lent.bytes

-- a list is too short
abbrev pub ListShort : Room → Room → Type 0
ListShort need lent =
    (lent.ranges < need.ranges) ⊎ (lent.locations < need.locations) ⊎ (lent.strings < need.strings)

-- ---- what an accepted answer needs: its finished counts, and the references of its unit

abbrev pub room_for : ℕ → ℕ → Lists → ℕ → ℕ → Room
room_for entries references l places bytes =
    record {
      tables = rooms entries references;
      ranges = count_of l.ranges;
      locations = count_of l.locations;
      strings = count_of l.strings;
      places = places;
      bytes = bytes;
    }

abbrev pub no_room : Rooms → Room
no_room tables = record { tables = tables; ranges = 0; locations = 0; strings = 0; places = 0; bytes = 0 }

-- an untouched unit needs no map and no output
unfoldable pub need_of : ℕ → Collected → Room
need_of references (untouched n l) = room_for n references l 0 0
need_of references (rewritten w) = room_for w.entries references w.lists (length w.map) (length w.output)
need_of references (refused n) = no_room (rooms 0 0)

unfoldable pub IsAccepted : Collected → Type 0
IsAccepted (untouched n l) = Unit {0}
IsAccepted (rewritten w) = Unit {0}
IsAccepted (refused n) = ⊥

-- what is answered with other room for an input that was accepted, for every room: the same where there is what it needs; else
-- the number of what is too short, the tables (`TableLaw`) before the lists, these before the map, and this before the output
pub record RoomLaw (x : Sections) (type_units : Bool) (section : List ℕ) (c : Collected) (rows : List EntryRow) (need : Room) : Type 0 where
  pub enough : (lent : Room) → Within need lent → collect_of x lent type_units section ≡ c
  pub full_entries : (lent : Room) → lent.tables.entries < need.tables.entries
      → length (names_in (take lent.tables.entries rows)) ≤ lent.tables.references
      → collect_of x lent type_units section ≡ refused 10
  pub full_references : (lent : Room) → lent.tables.references < length (names_in (take lent.tables.entries rows))
      → collect_of x lent type_units section ≡ refused 11
  pub short_list : (lent : Room) → TablesWithin need.tables lent.tables → ListShort need lent
      → collect_of x lent type_units section ≡ refused 12
  pub short_map : (lent : Room) → TablesWithin need.tables lent.tables → ListsWithin need lent
      → lent.places < need.places
      → collect_of x lent type_units section ≡ refused 13
  pub short_output : (lent : Room) → TablesWithin need.tables lent.tables → ListsWithin need lent
      → need.places ≤ lent.places → lent.bytes < need.bytes
      → collect_of x lent type_units section ≡ refused 14

-- an accepted answer, the rows of its unit, which are as many as it counts entries, and that it was lent what it needs
pub record Needs (x : Sections) (room : Room) (type_units : Bool) (section : List ℕ) (c : Collected) : Type 0 where
  pub rows : List EntryRow
  pub rows_are : analysis_of x section room.tables ≡ analysed rows
  pub counted : (need_of (length (names_in rows)) c).tables.entries ≡ length rows
  pub lent : Within (need_of (length (names_in rows)) c) room
  pub law : RoomLaw x type_units section c rows (need_of (length (names_in rows)) c)

-- a room that is too short: 10 to 14
pub record TooShort (x : Sections) (lent : Room) (type_units : Bool) (section : List ℕ) : Type 0 where
  pub number : ℕ
  pub one : OneOf (10 ∷ 11 ∷ 12 ∷ 13 ∷ 14 ∷ []) number
  pub answer : collect_of x lent type_units section ≡ refused number

-- ---- room that is enough, by the input alone: for all entries and terminators of the unit, for all their indices and
-- references, and for all their bytes

module _ (x : Sections) (u : Unit') where
  unfoldable pub index_count : ℕ → List Item → ℕ
  index_count k [] = 0
  index_count k (i ∷ rest) = length (read_indices k (reads_at x u (offset_of i))) + index_count k rest

  unfoldable pub unit_room : Rooms → Room
  unit_room tables =
      record {
        tables = tables;
        ranges = index_count 0 (items_in x u);
        locations = index_count 1 (items_in x u);
        strings = index_count 2 (items_in x u);
        places = length (items_in x u);
        bytes = u.header.first.0 + sizes_of (items_in x u);
      }

module _ (x : Sections) (section : List ℕ) where
  unfoldable pub declared_room : UnitHeader → Option (List Placed) → Room
  declared_room h None = no_room (enough_tables x section)
  declared_room h (Some ds) =
      unit_room x (record { header = h; bytes = take h.end section; declared = ds }) (enough_tables x section)

  unfoldable pub header_room : Result (Option UnitHeader) ℕ → Room
  header_room (Ok None) = no_room (enough_tables x section)
  header_room (Err n) = no_room (enough_tables x section)
  header_room (Ok (Some h)) = declared_room h (abbreviations_of x.abbreviations h.abbreviations)

  -- THE room that is enough
  unfoldable pub enough_room : Room
  enough_room = header_room (header_of x.setting.big_endian section)
