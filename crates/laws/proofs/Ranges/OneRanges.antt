-- A unit's range lists are read in one section, by its version: whatever stands in the other, the answer is the same
-- (document 02, Point 4). Assumes nothing.
use mathlib.Core.Path.{◌≡◌, refl, ap, sym, ◌∙◌}
use Prim.Native.Nat.{ℕ}
use native.Mathlib.Omega.{arith}
use mathlib.Core.List.{List}
use lib.ListN.{take}
use Rattle.readers.specs.Header.{header_of}
use Rattle.readers.specs.declared.cursor.Encoding.{Encoding}
use Rattle.readers.specs.declared.header.UnitHeader.{UnitHeader}
use Rattle.std.specs.Prelude.{Err, None, Ok, Option, Result, Some}
use Rattle.marking.specs.Analysis.{Sections, sections, ranges_for, Rooms, Analysed, header_analysed, unit_analysed, analysis_of, header_by}
use Rattle.marking.proofs.RangeSections.{debug-ranges-for, rnglists-for, unit-same}
use Rattle.laws.specs.RangeSections.{with_ranges, with_debug_ranges, SameAnswers, OneRanges}
use Rattle.laws.proofs.Tables.SameRewriting.{same-collected}
use Rattle.marking.proofs.ListedHeaders.{by-list}

module _ (x : Sections) (section : List ℕ) (h : UnitHeader) (header : header_of x.setting.big_endian section ≡ Ok (Some h)) where
  abbrev e : Encoding
  e = h.encoding

  -- the analysis, with one section of range lists in place of both
  within : (y : Sections) (lists : List ℕ) (room : Rooms) → Analysed
  within y lists room =
      unit_analysed e (sections y.abbreviations y.locations lists y.addresses lists y.keep y.setting) (take h.end section)
      room h.abbreviations h.first.0

  -- it is that with the chosen one
  chosen : (y : Sections) (room : Rooms) → header_of y.setting.big_endian section ≡ Ok (Some h)
      → header_analysed y section room (header_of y.setting.big_endian section) ≡ within y (ranges_for e y.ranges y.debug_ranges) room
  unfolding header_analysed within
  chosen y room q =
      ap (header_analysed y section room) q
      ∙ sym (unit-same e y.abbreviations y.locations y.ranges y.addresses y.debug_ranges y.keep y.setting
      (take h.end section) room h.abbreviations h.first.0)

  module _ (rnglists ranges : List ℕ) (same : ranges_for e rnglists ranges ≡ ranges_for e x.ranges x.debug_ranges) where
    abbrev other : Sections
    other = sections x.abbreviations x.locations rnglists x.addresses ranges x.keep x.setting

    same_rows : (room : Rooms) → analysis_of other section room ≡ analysis_of x section room
    unfolding analysis_of header_by header_analysed within
    same_rows room =
        by-list x section (λ (o : Result (Option UnitHeader) ℕ). header_analysed other section room o ≡ header_analysed x section room o)
        (λ _. chosen other room header ∙ ap (λ (lists : List ℕ). within x lists room) same ∙ sym (chosen x room header)) (λ _. refl)

    same-answers : SameAnswers other x section
    unfolding header_by
    same-answers =
        record {
          rows = same_rows;
          collected = (λ room type_units.
              same-collected other x.locations x.ranges x.addresses x.debug_ranges x.keep room type_units section (same_rows room.tables) refl);
        }

  of-unit : OneRanges x section (Ok (Some h))
  unfolding OneRanges
  of-unit = (
    (λ v ranges.
        same-answers ranges x.debug_ranges
        (sym (debug-ranges-for e ranges x.debug_ranges v) ∙ debug-ranges-for e x.ranges x.debug_ranges v)),
    (λ v ranges.
        let n : e.version ≡ 4 → ⊥ = (λ z. omega (arith, v, z)) in
        same-answers x.ranges ranges (sym (rnglists-for e x.ranges ranges n) ∙ rnglists-for e x.ranges x.debug_ranges n)),
  )

module _ (x : Sections) (section : List ℕ) where
  -- where no header is read, no section is
  without : (r : Result (Option UnitHeader) ℕ) → header_of x.setting.big_endian section ≡ r
      → ((y z : Sections) (room : Rooms) → header_analysed y section room r ≡ header_analysed z section room r)
      → (a b : List ℕ) → SameAnswers (with_debug_ranges (with_ranges x a) b) x section
  unfolding analysis_of header_by header_analysed
  without r q same a b =
      let rows : (room : Rooms) → analysis_of (with_debug_ranges (with_ranges x a) b) section room ≡ analysis_of x section room =
      (λ room. by-list x section
      (λ (o : Result (Option UnitHeader) ℕ). header_analysed (with_debug_ranges (with_ranges x a) b) section room o ≡ header_analysed x section room o)
      (λ _. ap (header_analysed (with_debug_ranges (with_ranges x a) b) section room) q ∙ same _ x room ∙ sym (ap (header_analysed x section room) q))
      (λ _. refl)) in
      record {
        rows = rows;
        collected = (λ room type_units.
            same-collected (with_debug_ranges (with_ranges x a) b) x.locations x.ranges x.addresses x.debug_ranges x.keep room type_units section (rows room.tables) refl);
      }

  by-header : (r : Result (Option UnitHeader) ℕ) → header_of x.setting.big_endian section ≡ r → OneRanges x section r
  unfolding OneRanges header_analysed
  by-header (Ok (Some h)) q = of-unit x section h q
  by-header (Ok None) q = without (Ok None) q (λ y z room. refl)
  by-header (Err n) q = without (Err n) q (λ y z room. refl)

  -- THE LAW of the two sections
  pub one-ranges-law : OneRanges x section (header_of x.setting.big_endian section)
  one-ranges-law = by-header (header_of x.setting.big_endian section) refl
