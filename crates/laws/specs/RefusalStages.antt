-- The numbers that the calls of this crate refuse with (document 01, "Operations and their numbers"), and for collect
-- where each comes from.
use Rattle.std.specs.Prelude.{◌≡◌, ℕ, ◌+◌, ◌≤◌, ◌<◌, Bool, true, false, List, [], length, take, Err, None, Ok, Some}
use Rattle.laws.specs.RefusalNumbers.{ListRefusal, HeaderRefusal, EntriesRefusal}
use Rattle.readers.specs.Abbreviations.{Placed, abbreviations_of}
use Rattle.readers.specs.Header.{header_of}
use Rattle.readers.specs.Layout.{Piece}
use Rattle.readers.specs.declared.header.UnitHeader.{UnitHeader}
use Rattle.marking.specs.Analysis.{Sections, EntryRow, analysed, refused as not_analysed, analysis_of}
use Rattle.marking.specs.KeepList.{keep_refusal}
use Rattle.marking.specs.Marks.{kept_count}
use Rattle.marking.specs.Resolution.{marks_in}
use Rattle.rewriting.specs.Places.{NestedItem, kept_from, places_from, size_from}
use Rattle.rewriting.specs.Rewriting.{Unit as Unit', items_in, Lists, no_lists, lists_of, unit_bytes}
use Rattle.rewriting.specs.Rewriting.{Room, Rewrite, untouched, rewritten, lists_fit, collect_of}
use Rattle.laws.specs.ValueRefusals.{AllFine, FirstUnplaced, FirstTooWide, NumberOf}

-- ---- collect, step by step

-- a unit that is analysed: its header and declarations, and the rows of its entries
pub record UnitRead (x : Sections) (room : Room) (section : List ℕ) : Type 0 where
  pub header : UnitHeader
  pub declared : List Placed
  pub rows : List EntryRow
  pub header_is : header_of x.setting.big_endian section ≡ Ok (Some header)
  pub declared_are : abbreviations_of x.abbreviations header.abbreviations ≡ Some declared
  pub rows_are : analysis_of x section room.tables ≡ analysed rows

module _ (x : Sections) (room : Room) (type_units : Bool) (section : List ℕ) where
  abbrev pub unit_read : UnitRead x room section → Unit'
  unit_read u = record { header = u.header; bytes = take u.header.end section; declared = u.declared }

  -- what is kept of it, and its lists
  abbrev pub kept_in : UnitRead x room section → List NestedItem
  kept_in u = kept_from (marks_in u.rows) 0 [] (items_in x (unit_read u))

  abbrev pub lists_in : UnitRead x room section → Lists
  lists_in u = lists_of x (unit_read u) type_units (kept_in u)

  -- it has a dead entry, and room for its lists
  pub record Thinnable (u : UnitRead x room section) : Type 0 where
    pub dead : kept_count (marks_in u.rows) < length (marks_in u.rows)
    pub listed : lists_fit room (lists_in u) ≡ true

  -- where a refusal comes from, and what was passed before it: of the keep list "19 .., 20 ..; both before 1"; "Header .. 1
  -- .., 2 .. . 3 abbreviations. Then entry by entry .. . Then 12 an index list too short .. . If something is dead: 13 map,
  -- 14 output too short, then in stream order 8 .. or 9"
  pub data RefusedAt : ℕ → Type 0 where
    at_list : {n : ℕ} → keep_refusal x.keep ≡ n → ListRefusal n → RefusedAt n
    at_header : {n : ℕ} → keep_refusal x.keep ≡ 0 → header_of x.setting.big_endian section ≡ Err n → HeaderRefusal n → RefusedAt n
    at_abbreviations : {h : UnitHeader} → keep_refusal x.keep ≡ 0 → header_of x.setting.big_endian section ≡ Ok (Some h)
        → abbreviations_of x.abbreviations h.abbreviations ≡ None → RefusedAt 3
    at_entries : {h : UnitHeader} {ds : List Placed} {n : ℕ} → keep_refusal x.keep ≡ 0 → header_of x.setting.big_endian section ≡ Ok (Some h)
        → abbreviations_of x.abbreviations h.abbreviations ≡ Some ds
        → analysis_of x section room.tables ≡ not_analysed n → EntriesRefusal n → RefusedAt n
    at_lists : (u : UnitRead x room section) → 0 < length u.rows → lists_fit room (lists_in u) ≡ false → RefusedAt 12
    at_map : (u : UnitRead x room section) → Thinnable u → room.places < length (kept_in u) → RefusedAt 13
    at_output : (u : UnitRead x room section) → Thinnable u → length (kept_in u) ≤ room.places
        → room.bytes < u.header.first.0 + size_from (kept_in u) → RefusedAt 14
    at_place : (u : UnitRead x room section) → Thinnable u → length (kept_in u) ≤ room.places
        → u.header.first.0 + size_from (kept_in u) ≤ room.bytes
        → FirstUnplaced x (unit_read u) (lists_in u) u.header.first.0 (kept_in u) → RefusedAt 8
    at_width : (u : UnitRead x room section) → Thinnable u → length (kept_in u) ≤ room.places
        → u.header.first.0 + size_from (kept_in u) ≤ room.bytes
        → FirstTooWide x (unit_read u) (lists_in u) u.header.first.0 (kept_in u) → RefusedAt 9

  -- 8 and 9: a unit with a dead entry that has a number without a place, or one too wide
  pub record RefusedNumber (Bad : Lists → ℕ → List NestedItem → ℕ → Piece → Type 0) : Type 0 where
    pub u : UnitRead x room section
    pub thinnable : Thinnable u
    pub number : NumberOf x (unit_read u) (lists_in u) u.header.first.0 (kept_in u) (Bad (lists_in u) u.header.first.0 (kept_in u))

  -- ---- what is not refused is accepted

  -- where something is dead: no cause of 13, 14, 8 and 9
  pub record Rewritable (u : UnitRead x room section) : Type 0 where
    pub mapped : length (kept_in u) ≤ room.places
    pub written : u.header.first.0 + size_from (kept_in u) ≤ room.bytes
    pub fine : AllFine x (unit_read u) (lists_in u) u.header.first.0 (kept_in u)

  -- no cause of a refusal after the entries are read: 12, and those
  pub record Acceptable (u : UnitRead x room section) : Type 0 where
    pub listed : lists_fit room (lists_in u) ≡ true
    pub rewritable : kept_count (marks_in u.rows) < length (marks_in u.rows) → Rewritable u

  abbrev pub rewrite_in : UnitRead x room section → Rewrite
  rewrite_in u =
      record {
        entries = length (marks_in u.rows);
        kept = kept_count (marks_in u.rows);
        lists = lists_in u;
        map = places_from u.header.first.0 (kept_in u);
        output = unit_bytes x (unit_read u) (lists_in u) (places_from u.header.first.0 (kept_in u)) (kept_in u);
      }

  -- the answer: rewritten where something is dead, else untouched
  pub record AcceptedAs (u : UnitRead x room section) : Type 0 where
    pub thinned : kept_count (marks_in u.rows) < length (marks_in u.rows) → collect_of x room type_units section ≡ rewritten (rewrite_in u)
    pub whole : 0 < length u.rows → kept_count (marks_in u.rows) ≡ length (marks_in u.rows)
        → collect_of x room type_units section ≡ untouched (length u.rows) (lists_in u)
    pub empty : length u.rows ≡ 0 → collect_of x room type_units section ≡ untouched 0 no_lists
