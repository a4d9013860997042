-- "Repairers can't tell a short table from a bad byte. The table's lookup now says which happened, and everything that asks it passes that
-- on: root test, lists, collect" (document 02, Point 5). Assumes nothing.
use mathlib.Core.Path.{◌≡◌, refl, ap, sym, ◌∙◌}
use Prim.Native.Nat.{ℕ}
use native.Mathlib.Omega.{arith}
use mathlib.Core.Bool.{Bool, false}
use mathlib.Core.List.{List, [], ◌∷◌}
use Rattle.std.specs.Prelude.{Err, None, Ok, Option, Result, Some}
use Rattle.readers.specs.declared.cursor.Cursor.{Cursor}
use Rattle.readers.specs.Choice.{◌and◌, ◌or◌}
use Rattle.readers.specs.Abbreviations.{Placed, abbreviations_of}
use Rattle.readers.specs.EntryAttributes.{Valued}
use Rattle.readers.specs.declared.cursor.Encoding.{Encoding}
use Rattle.readers.specs.declared.attributes.Attribute.{Attribute}
use Rattle.readers.specs.declared.header.UnitHeader.{UnitHeader}
use Rattle.marking.specs.declared.units.UnitMarks.{UnitMarks}
use Rattle.marking.specs.declared.addresses.Verdict.{Verdict}
use Rattle.marking.specs.Roots.{ranges_by, low_pc, location_live, ranges_live, root_test}
use Rattle.marking.specs.Analysis.{Sections, Rooms, Analysed, analysed, refused as not_analysed, on_declared, unit_analysed, header_by, header_analysed, analysis_of}
use Rattle.marking.specs.Resolution.{unit_marks}
use Rattle.rewriting.specs.Rewriting.{unit_of, Room, refused, analysed_collected, declared_collected, header_collected, collect_of}
use Rattle.laws.specs.AddressTables.{with_table, FailedBy, AnsweredBy}
use Rattle.laws.specs.RefusalNumbers.{OneOf, list_numbers, table_numbers}
use Rattle.laws.proofs.Refusals.ReaderRefusals.{is_one_of, one_of, not-one-of, are_apart, apart}
use Rattle.laws.proofs.Refusals.CollectRefusals.{refusal-law, StageOf, of-list, of-reading, of_room, of-place, of_width, stage-of}
use Rattle.laws.proofs.Tables.BySeveralTables.{entry_numbers_but_table, root_by}
use Rattle.laws.proofs.Tables.FromLookups.{verdicts-told, analysis-told}
use Rattle.laws.proofs.Tables.Failures.{failure-number, no-failure}
use Rattle.laws.proofs.Tables.FirstFailure.{Settled, settling, settled-failure, settled-answer}
use Rattle.laws.proofs.Tables.SameRewriting.{same-collected}

-- the numbers of an analysis that are not the table's
abbrev others : List ℕ
others = 19 ∷ 20 ∷ 1 ∷ 2 ∷ 3 ∷ entry_numbers_but_table

none_other : (n : ℕ) → OneOf table_numbers n → OneOf others n → ⊥
unfolding is_one_of are_apart ◌or◌ ◌and◌
none_other n o p = apart table_numbers others n tt o p

five : OneOf others 5
unfolding is_one_of ◌or◌
five = one_of others 5 tt

-- ---- what a root test asks

same-verdict : (m n : ℕ) → ◌≡◌ {A = Result Verdict ℕ} (Err m) (Err n) → m ≡ n
same-verdict m n q = cc

module _ (table : List ℕ) (n : ℕ) (o : OneOf table_numbers n) (e : Encoding) where
  abbrev Answered : (List ℕ → Result Verdict ℕ) → Type 0
  Answered v = Settled table others Err v

  verdict-failed : (v : List ℕ → Result Verdict ℕ) → Answered v → v table ≡ Err n → FailedBy v Err table n
  verdict-failed v s q = settled-failure table others Err v same-verdict s n (none_other n o) q

  pub failure-low-pc : (a : Attribute) → low_pc e table a ≡ Err n → FailedBy (λ t. low_pc e t a) Err table n
  failure-low-pc a = verdict-failed _ ((verdicts-told (settling table others) false five).of-low-pc e a)

  pub failure-location : (fixed : Bool) (s : List ℕ) → location_live e fixed table s ≡ Err n → FailedBy (λ t. location_live e fixed t s) Err table n
  failure-location fixed s = verdict-failed _ ((verdicts-told (settling table others) fixed five).of-location e s)

  pub failure-ranges : (s : List ℕ) (l : Option Cursor) → ranges_live e table s l ≡ Err n → FailedBy (λ t. ranges_live e t s l) Err table n
  failure-ranges s l = verdict-failed _ ((verdicts-told (settling table others) false five).of-ranges e s l)

  pub failure-root : (ranges : List ℕ) (ranges_base rnglists_base : ℕ) (fixed : Bool) (unit : List ℕ) (tag : ℕ) (vs : List Valued)
      → root_test e (ranges_by ranges table ranges_base rnglists_base) fixed unit tag vs ≡ Err n
      → FailedBy (λ t. root_test e (ranges_by ranges t ranges_base rnglists_base) fixed unit tag vs) Err table n
  failure-root ranges ranges_base rnglists_base fixed unit tag vs =
      verdict-failed _ (root_by (λ t. fixed) (λ (t : List ℕ). t) (verdicts-told (settling table others) fixed five) e ranges ranges_base rnglists_base unit tag vs)

-- ---- the analysis and the marks of a unit

same-refusal : (m n : ℕ) → not_analysed m ≡ not_analysed n → m ≡ n
same-refusal m n q = cc

module _ (x : Sections) (section : List ℕ) (room : Rooms) where
  by-asked : Settled x.addresses others not_analysed (λ t. analysis_of (with_table x t) section room)
  by-asked = analysis-told (settling x.addresses others) (λ n o. o) x section room

  pub failure-analysis : (n : ℕ) → OneOf table_numbers n → analysis_of x section room ≡ not_analysed n
      → FailedBy (λ t. analysis_of (with_table x t) section room) not_analysed x.addresses n
  failure-analysis n o q =
      settled-failure x.addresses others not_analysed (λ t. analysis_of (with_table x t) section room) same-refusal by-asked n (none_other n o) q

  pub answer-analysis : ((n : ℕ) → OneOf table_numbers n → analysis_of x section room ≡ not_analysed n → ⊥)
      → AnsweredBy (λ t. analysis_of (with_table x t) section room) x.addresses
  answer-analysis never =
      settled-answer x.addresses others not_analysed (λ t. analysis_of (with_table x t) section room) by-asked
      (λ index n f q. never n (failure-number x.addresses index n f) q)

  -- the answer of marking a unit
  unfoldable MarksFailed : (n : ℕ) → Result UnitMarks ℕ → Type 0
  MarksFailed n m = m ≡ Err n → FailedBy (λ t. unit_marks (analysis_of (with_table x t) section room)) Err x.addresses n

  marks-failed : (n : ℕ) → OneOf table_numbers n → (a : Analysed) → analysis_of x section room ≡ a → MarksFailed n (unit_marks a)
  unfolding unit_marks MarksFailed
  marks-failed n o (analysed rows) q e = let z : ◌≡◌ {A = ℕ} 0 1 = cc in absurd (omega arith)
  marks-failed n o (not_analysed k) q e =
      let same : k ≡ n = cc in
      let f = failure-analysis n o (q ∙ ap not_analysed same) in
      record {
        asked = f.asked;
        fine = f.fine;
        index = f.index;
        failure = f.failure;
        decides = λ table m a g. ap unit_marks (f.decides table m a g);
      }

  pub failure-marks : (n : ℕ) → OneOf table_numbers n → unit_marks (analysis_of x section room) ≡ Err n
      → FailedBy (λ t. unit_marks (analysis_of (with_table x t) section room)) Err x.addresses n
  unfolding MarksFailed
  failure-marks n o q = marks-failed n o (analysis_of x section room) refl q

-- ---- collect

module _ (x : Sections) (room : Room) (type_units : Bool) (section : List ℕ) where
  module _ (n : ℕ) (q : analysis_of x section room.tables ≡ not_analysed n) where
    by-declared : (h : UnitHeader) → header_by x section ≡ Ok (Some h) → (o : Option (List Placed))
        → abbreviations_of x.abbreviations h.abbreviations ≡ o → declared_collected x room type_units section h o ≡ refused n
    unfolding declared_collected analysed_collected analysis_of header_analysed unit_analysed on_declared
    by-declared h e (Some ds) d = ap (analysed_collected x room type_units (unit_of h section ds)) q
    by-declared h e None d =
        let three : header_analysed x section room.tables (Ok (Some h)) ≡ not_analysed 3 = rw d in
        ap refused (same-refusal 3 n (sym (ap (header_analysed x section room.tables) e ∙ three) ∙ q))

    by-header : (h : Result (Option UnitHeader) ℕ) → header_by x section ≡ h → header_collected x room type_units section h ≡ refused n
    unfolding header_collected analysis_of header_analysed
    by-header (Ok None) e =
        let r : analysed [] ≡ not_analysed n = sym (ap (header_analysed x section room.tables) e) ∙ q in
        let z : ◌≡◌ {A = ℕ} 0 1 = cc in absurd (omega arith)
    by-header (Err k) e = ap refused (same-refusal k n (sym (ap (header_analysed x section room.tables) e) ∙ q))
    by-header (Ok (Some h)) e = by-declared h e (abbreviations_of x.abbreviations h.abbreviations) refl

    -- an analysis that is refused is collect's refusal
    pub analysis-refused : collect_of x room type_units section ≡ refused n
    unfolding collect_of
    analysis-refused = by-header (header_by x section) refl

  at_table : (n : ℕ) → OneOf table_numbers n → StageOf x room type_units section n → analysis_of x section room.tables ≡ not_analysed n
  unfolding is_one_of are_apart ◌or◌ ◌and◌
  at_table n o (of-list q r) = absurd (apart table_numbers list_numbers n tt o r)
  at_table n o (of-reading a r) = a
  at_table n o (of_room r) = absurd (apart table_numbers (12 ∷ 13 ∷ 14 ∷ []) n tt o r)
  at_table n o (of-place e r) = absurd (not-one-of table_numbers n 8 e tt o)
  at_table n o (of_width e r) = absurd (not-one-of table_numbers n 9 e tt o)

module _ (x : Sections) (room : Room) (type_units : Bool) (section : List ℕ) where
  -- THE refusals by the address table: 6 and 17 say what happened at an index that decides the answer
  pub failure-law : (n : ℕ) → OneOf table_numbers n → collect_of x room type_units section ≡ refused n
      → FailedBy (λ t. collect_of (with_table x t) room type_units section) refused x.addresses n
  failure-law n o q =
      let s = stage-of x room type_units section n (refusal-law x room type_units section n q) in
      let f = failure-analysis x section room.tables n o (at_table x room type_units section n o s) in
      record {
        asked = f.asked;
        fine = f.fine;
        index = f.index;
        failure = f.failure;
        decides = λ table m a g. analysis-refused (with_table x table) room type_units section m (f.decides table m a g);
      }

  -- any other answer goes by indices at which the table does not fail
  pub answer-law : ((n : ℕ) → OneOf table_numbers n → collect_of x room type_units section ≡ refused n → ⊥)
      → AnsweredBy (λ t. collect_of (with_table x t) room type_units section) x.addresses
  unfolding header_by
  answer-law never =
      let a = answer-analysis x section room.tables (λ n o q. never n o (analysis-refused x room type_units section n q)) in
      record {
        asked = a.asked;
        fine = a.fine;
        decides = λ table s. same-collected (with_table x table) x.locations x.ranges x.addresses x.debug_ranges x.keep room type_units section (a.decides table s) refl;
      }

-- ---- the empty table (Point 2)

-- no unit comes back with 6 or 17
pub no-failure-law : (x : Sections) (room : Room) (type_units : Bool) (section : List ℕ) (n : ℕ) → OneOf table_numbers n
    → collect_of (with_table x []) room type_units section ≡ refused n → ⊥
no-failure-law x room type_units section n o q =
    let f = failure-law (with_table x []) room type_units section n o q in no-failure f.index n f.failure

pub no-failure-marks : (x : Sections) (section : List ℕ) (room : Rooms) (n : ℕ) → OneOf table_numbers n
    → unit_marks (analysis_of (with_table x []) section room) ≡ Err n → ⊥
no-failure-marks x section room n o q =
    let f = failure-marks (with_table x []) section room n o q in no-failure f.index n f.failure
