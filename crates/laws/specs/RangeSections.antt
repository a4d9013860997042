-- The same sections with another section of range lists: of .debug_rnglists, which version 5 reads, and of .debug_ranges,
-- which version 4 does (document 02, Point 4): the words of `one-ranges-law` (proofs/ranges/OneRanges.antt).
use Rattle.std.specs.Prelude.{ℕ, ◌≡◌, Bool, List, Err, None, Ok, Option, Result, Some}
use Rattle.readers.specs.declared.header.UnitHeader.{UnitHeader}
use Rattle.marking.specs.Analysis.{Sections, sections, Rooms, analysis_of}
use Rattle.rewriting.specs.Rewriting.{Room, collect_of}

abbrev pub with_ranges : Sections → List ℕ → Sections
with_ranges x ranges = sections x.abbreviations x.locations ranges x.addresses x.debug_ranges x.keep x.setting

abbrev pub with_debug_ranges : Sections → List ℕ → Sections
with_debug_ranges x ranges = sections x.abbreviations x.locations x.ranges x.addresses ranges x.keep x.setting

-- the same rows, so the same marks, with any room for them, and the same answer of collect
pub record SameAnswers (x y : Sections) (section : List ℕ) : Type 0 where
  pub rows : (room : Rooms) → analysis_of x section room ≡ analysis_of y section room
  pub collected : (room : Room) (type_units : Bool) → collect_of x room type_units section ≡ collect_of y room type_units section

-- whatever stands in the section that the unit's version does not read, and in both where no header is read
unfoldable pub OneRanges : Sections → List ℕ → Result (Option UnitHeader) ℕ → Type 0
OneRanges x section (Ok (Some h)) =
    (h.encoding.version ≡ 4 → (ranges : List ℕ) → SameAnswers (with_ranges x ranges) x section)
    × (h.encoding.version ≡ 5 → (ranges : List ℕ) → SameAnswers (with_debug_ranges x ranges) x section)
OneRanges x section (Ok None) = (a b : List ℕ) → SameAnswers (with_debug_ranges (with_ranges x a) b) x section
OneRanges x section (Err n) = (a b : List ℕ) → SameAnswers (with_debug_ranges (with_ranges x a) b) x section
