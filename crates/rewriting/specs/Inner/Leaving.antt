-- What the parts of collect answer, and what they leave in the lent slices: after a refusal nothing is said of these.
use Rattle.std.specs.Prelude.{◌≡◌, ℕ, ◌+◌, ◌/◌, ◌^◌, ◌≤◌, ◌<◌, Bool, true, false, List, [], ◌⊎◌, length, eqb, Err, None, Ok, Option, Result, Some}
use Rattle.readers.specs.Choice.{pick, zeros}
use Rattle.readers.specs.Abbreviations.{Placed, abbreviations_of, index_of}
use Rattle.readers.specs.Header.{length_size, header_of}
use Rattle.readers.specs.declared.header.UnitHeader.{UnitHeader}
use Rattle.marking.specs.Analysis.{Sections, Rooms, rooms, EntryRow, analysed, header_by, analysis_of}
use Rattle.marking.specs.Columns.{pad_to, column, parents_in, index_after}
use Rattle.marking.specs.Marks.{kept_count}
use Rattle.marking.specs.Resolution.{marks_in, unit_marks}
use Rattle.rewriting.specs.declared.collect.Listed.{Listed}
use Rattle.marking.specs.declared.units.UnitMarks.{UnitMarks}
use Rattle.rewriting.specs.Refusals.{lists_counted}
use Rattle.marking.specs.Resolution.{}
use Rattle.rewriting.specs.Places.{kept_from}
use Rattle.rewriting.specs.Rewriting.{Unit as Unit', items_in, Lists, Room, lists_fit, marks_collected}
use Rattle.rewriting.specs.Rewriting.{Collected, untouched, rewritten, refused}
use Rattle.rewriting.specs.Inner.Emission.{ListsLent}
use Rattle.rewriting.specs.Written.{place_size}
use Rattle.rewriting.specs.Outputs.{Answer, room_by, list_count, answer_for, map_for, output_for, list_or, list_for, ranges_in, locations_in, strings_in}
use Rattle.rewriting.specs.declared.collect.Collected.TheVariants.{Untouched, Rewritten}
use Rattle.rewriting.specs.declared.collect.Task.{Task}

-- ---- the whole

-- no refusal
unfoldable pub Accepts : Collected → Type 0
Accepts (untouched n l) = Unit {0}
Accepts (rewritten w) = Unit {0}
Accepts (refused n) = ⊥

-- the answer, and the slices as they are left, by their lengths
pub record Answers (c : Collected) (r : Answer) (map ranges locations strings out : ℕ)
    (map' ranges' locations' strings' out' : List ℕ) : Type 0 where
  pub told : r ≡ answer_for c
  pub map_left : Accepts c → map' ≡ map_for map c
  pub ranges_left : Accepts c → ranges' ≡ list_for ranges_in ranges c
  pub locations_left : Accepts c → locations' ≡ list_for locations_in locations c
  pub strings_left : Accepts c → strings' ≡ list_for strings_in strings c
  pub out_left : Accepts c → out' ≡ output_for out c

-- a slice once an answer is known: zeros after a refusal
unfoldable pub left_by : Answer → List ℕ → List ℕ
left_by (Ok (Untouched c)) s = s
left_by (Ok (Rewritten c)) s = s
left_by (Err n) s = zeros (length s)

-- ---- what is to be done once the entries are marked

unfoldable pub header_task : Result (Option UnitHeader) ℕ → ℕ → ℕ → Result (Option Task) ℕ
header_task (Ok None) entries kept = Ok None
header_task (Err n) entries kept = Err n
header_task (Ok (Some h)) entries kept = Ok (Some (record { header = h; entries = entries; kept = kept }))

unfoldable pub task_of : Result (Option UnitHeader) ℕ → Result UnitMarks ℕ → Result (Option Task) ℕ
task_of o (Err n) = Err n
task_of o (Ok m) = pick (eqb m.entries 0) (Ok None) (header_task o m.entries m.kept)

-- the tables that marking leaves, and what is to be done
pub record MarkedTables (x : Sections) (tables : Rooms) (section : List ℕ) (task : Result (Option Task) ℕ)
    (abbreviations index parents ends marks : List ℕ) : Type 0 where
  pub abbreviations_are : x.abbreviations ≡ abbreviations
  pub task_is : task ≡ task_of (header_by x section) (unit_marks (analysis_of x section tables))
  pub index_is : index ≡ index_after x.abbreviations (header_by x section) (length index)
  pub parents_are : parents ≡ column parents_in (length parents) (analysis_of x section tables)
  pub marks_are : marks ≡ column marks_in (length marks) (analysis_of x section tables)
  pub ends_room : tables.entries ≤ length ends

-- ---- a unit whose entries were marked

-- the tables that marking leaves, and its counts
pub record Tabled (x : Sections) (tables : Rooms) (section : List ℕ) (h : UnitHeader) (ds : List Placed) (rows : List EntryRow)
    (abbreviations index parents ends marks : List ℕ) (entries kept : ℕ) : Type 0 where
  pub abbreviations_are : x.abbreviations ≡ abbreviations
  pub header_is : header_of x.setting.big_endian section ≡ Ok (Some h)
  pub declared_are : abbreviations_of x.abbreviations h.abbreviations ≡ Some ds
  pub analysis_is : analysis_of x section tables ≡ analysed rows
  pub index_is : index ≡ index_of x.abbreviations h.abbreviations (length index)
  pub parents_are : parents ≡ pad_to (length parents) (parents_in rows)
  pub marks_are : marks ≡ pad_to (length marks) (marks_in rows)
  pub ends_room : tables.entries ≤ length ends
  pub entries_are : entries ≡ length (marks_in rows)
  pub kept_are : kept ≡ kept_count (marks_in rows)

-- slices that hold nothing yet
pub record Blank (map ranges locations strings out : List ℕ) : Type 0 where
  pub map_blank : map ≡ zeros (length map)
  pub ranges_blank : ranges ≡ zeros (length ranges)
  pub locations_blank : locations ≡ zeros (length locations)
  pub strings_blank : strings ≡ zeros (length strings)
  pub out_blank : out ≡ zeros (length out)

-- the answer for it
abbrev pub marked_of : Sections → Room → Bool → Unit' → List EntryRow → Collected
marked_of x room type_units u rows = marks_collected x room type_units u (marks_in rows) (kept_from (marks_in rows) 0 [] (items_in x u))

-- ---- its lists

-- what there is room for, by the lengths of the lists' slices
abbrev pub list_room : ℕ → ℕ → ℕ → Room
list_room ranges locations strings = room_by (rooms 0 0) 0 ranges locations strings 0

pub record ListsAnswer (l : Lists) (ranges locations strings : ℕ) (r : Option Listed) (ranges' locations' strings' : List ℕ) : Type 0 where
  pub short : lists_fit (list_room ranges locations strings) l ≡ false → r ≡ None
  pub made : lists_fit (list_room ranges locations strings) l ≡ true → r ≡ lists_counted (list_count l.ranges) (list_count l.locations) (list_count l.strings)
  pub lent : lists_fit (list_room ranges locations strings) l ≡ true
      → ListsLent l ranges' (list_count l.ranges) locations' (list_count l.locations) strings' (list_count l.strings)
  pub ranges_left : lists_fit (list_room ranges locations strings) l ≡ true → ranges' ≡ list_or ranges l.ranges
  pub locations_left : lists_fit (list_room ranges locations strings) l ≡ true → locations' ≡ list_or locations l.locations
  pub strings_left : lists_fit (list_room ranges locations strings) l ≡ true → strings' ≡ list_or strings l.strings

-- ---- its map and output

-- what writing asks for besides a pass and the lists: the first entry inside the unit, the header's other fields between
-- its length and it; the width of a length, and a unit no longer than that can say; the room that there is, nothing
-- written yet
pub record Writable (u : Unit') (room : Room) (unit : List ℕ) (first : ℕ) (map out : List ℕ) : Type 0 where
  pub first_is : first ≡ u.header.first.0
  pub after : length_size u.header.encoding + 7 ≤ first
  pub inside : first ≤ length unit
  pub wide : (u.header.encoding.offset_size ≡ 4) ⊎ (u.header.encoding.offset_size ≡ 8)
  pub short : length unit < length_size u.header.encoding + 256 ^ u.header.encoding.offset_size
  pub places_are : room.places ≡ length map / place_size
  pub bytes_are : room.bytes ≡ length out
  pub map_blank : map ≡ zeros (length map)
  pub out_blank : out ≡ zeros (length out)

pub record WriteAnswer (c : Collected) (r : Answer) (map out : ℕ) (map' out' : List ℕ) : Type 0 where
  pub told : r ≡ answer_for c
  pub map_left : Accepts c → map' ≡ map_for map c
  pub out_left : Accepts c → out' ≡ output_for out c
