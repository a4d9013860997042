-- The marks of a unit: from the columns that its analysis leaves to the graph of its rows, their pairs and their marks. Assumes nothing.
use Rattle.readers.proofs.Refusing.{same_ok}
use mathlib.Core.Path.{◌≡◌, refl, ap, ap₂, sym, ◌∙◌, subst}
use Prim.Native.Nat.{ℕ, ◌*◌, ◌-◌, ◌/◌, ◌≤◌}
use native.Mathlib.Omega.{arith}
use mathlib.Core.Bool.{Bool}
use mathlib.Core.List.{List, [], ◌++◌}
use lib.ListN.{length, take, drop, replicate, length-append, length-drop, length-replicate, take-append-drop}
use lib.Seq.{take_at}
use Rattle.readers.specs.Choice.{pick, zeros}
use Rattle.std.specs.Prelude.{Err, None, Ok, Option, Result, Some}
use Rattle.readers.specs.declared.header.UnitHeader.{UnitHeader}
use Rattle.marking.specs.Graph.{Graph, graph, size}
use Rattle.marking.specs.Marks.{marks_of, kept_count, mark_answer, end_marks}
use Rattle.marking.specs.Analysis.{Sections, Rooms, EntryRow, Analysed, analysed, refused, header_by, header_analysed, analysis_of}
use Rattle.marking.specs.Columns.{offsets_in, parents_in, roots_in, names_in, ends_in, pad_to, column, least, rooms_of, unit_rooms, index_after, answer_of}
use Rattle.marking.specs.Resolution.{pairs_in, graph_of, marks_in, unit_marks}
use Rattle.marking.specs.Inner.Resolution.{UnitColumns, Markable}
use Rattle.marking.specs.declared.units.UnitMarks.{UnitMarks}
use Rattle.marking.specs.Columns.{entries_counted}
use Rattle.marking.specs.Resolution.{unit_marked}
use Rattle.marking.proofs.Letters.{length-marks}
use Rattle.marking.proofs.Rows.{UnitRows, unit-rows, no_rows, graph-takes, length-parents, length-roots}
use Rattle.marking.proofs.Columned.{pairs-most, drop-zeros, padded-few, padded-take, rows-held}
use Rattle.marking.proofs.UnitAnalyses.{least-left, zeros-own, Answered}

-- one fact more after nine
pub with-last : {A B C D E F G H I J : Type 0} → A × (B × (C × (D × (E × (F × (G × (H × I))))))) → J → A × (B × (C × (D × (E × (F × (G × (H × (I × J))))))))
with-last p j = (p.0, (p.1.0, (p.1.1.0, (p.1.1.1.0, (p.1.1.1.1.0, (p.1.1.1.1.1.0, (p.1.1.1.1.1.1.0, (p.1.1.1.1.1.1.1.0, (p.1.1.1.1.1.1.1.1, j)))))))))

-- ---- columns that hold rows

pub take_within : (n : ℕ) (xs : List ℕ) → n ≤ length xs → n ≡ length (take n xs)
take_within n xs h = omega (arith, ap length (take-append-drop n xs), length-append (take n xs) (drop n xs), length-drop n xs)

module _ {offsets parents roots ends : List ℕ} {n : ℕ} {marks targets pairs : List ℕ} (rows : List EntryRow) (h : UnitColumns rows offsets parents roots ends n marks targets pairs)
    (place : ℕ) {pairs' : List ℕ} (count : 2 * place ≡ length (pairs_in rows)) (filled : pairs' ≡ pad_to (length pairs) (pairs_in rows)) where
  -- the pairs are inside their table, before it was filled and after
  pub pairs-room : 2 * place ≤ length pairs
  unfolding pairs_in
  pairs-room = omega (arith, count, pairs-most (offsets_in rows) 0 rows, h.held.room)

  pub pairs-inside : 2 * place ≤ length pairs'
  unfolding pad_to
  pairs-inside = omega (arith, count, ap length filled, length-append (pairs_in rows) (zeros (length pairs - length (pairs_in rows))))

  pairs-part : take (2 * place) pairs' ≡ pairs_in rows
  unfolding pad_to
  pairs-part = ap (take (2 * place)) filled ∙ take_at (pairs_in rows) (zeros (length pairs - length (pairs_in rows))) (2 * place) (sym count)

  abbrev Given : Graph
  Given = graph (take n parents) (take (2 * place) pairs') (take n roots)

  given_is : Given ≡ graph_of rows
  unfolding graph_of
  given_is =
      ap (λ (l : List ℕ). graph l (take (2 * place) pairs') (take n roots)) h.parented
      ∙ ap₂ (λ (l m : List ℕ). graph (parents_in rows) l m) pairs-part h.rooted

  lent_is : length (take n marks) ≡ n
  lent_is = sym (take_within n marks h.marks_inside)

  marked-is : mark_answer Given (length (take n marks)) ≡ Ok (kept_count (marks_in rows))
  unfolding mark_answer marks_in pick
  marked-is =
      ap₂ mark_answer given_is lent_is
      ∙ ap (λ (b : Bool). pick b (Ok (kept_count (marks_of (graph_of rows)))) (Err 16)) h.fits

  pub rows-kept : (k : ℕ) → Ok k ≡ mark_answer Given (length (take n marks)) → unit_marked n k ≡ unit_marks (analysed rows)
  unfolding unit_marks
  rows-kept k q =
      let e : Ok k ≡ Ok (kept_count (marks_in rows)) = q ∙ marked-is in
      let z : k ≡ kept_count (marks_in rows) = cc in
      ap₂ (λ (i j : ℕ). unit_marked i j) (sym h.held.count) z

  -- marking takes the graph of a unit
  pub rows_taken : (k : ℕ) → Err k ≡ mark_answer Given (length (take n marks)) → Err k ≡ unit_marks (analysed rows)
  rows_taken k q =
      let e : Err k ≡ Ok (kept_count (marks_in rows)) = q ∙ marked-is in
      let z : ◌≡◌ {A = ℕ} 0 1 = cc in
      absurd (omega arith)

  count-marks : length (marks_in rows) ≡ n
  unfolding marks_in graph_of
  count-marks = length-marks (graph_of rows) ∙ length-parents rows ∙ h.held.count

  pub rows-marks : (marks' : List ℕ) → marks' ≡ end_marks Given (length (take n marks)) → marks' ++ drop n marks ≡ pad_to (length marks) (marks_in rows)
  unfolding pad_to end_marks marks_in pick
  rows-marks marks' e =
      let a : marks' ≡ marks_of (graph_of rows) =
      e ∙ ap₂ end_marks given_is lent_is ∙ ap (λ (b : Bool). pick b (marks_of (graph_of rows)) (replicate n 0)) h.fits in
      let d : drop n marks ≡ zeros (length marks - length (marks_in rows)) =
      ap (drop n) h.unmarked ∙ drop-zeros n (length marks)
      ∙ ap zeros (let z : length marks - n ≡ length marks - length (marks_in rows) = omega (arith, count-marks) in z) in
      ap₂ (λ (l m : List ℕ). l ++ m) a d

-- ---- the rows of an analysis

-- they are those of a unit
record Bounded (room : Rooms) (rows : List EntryRow) : Type 0 where
  pub unit : List ℕ
  pub first : ℕ
  pub ruled : UnitRows unit room first rows

module _ (x : Sections) (section : List ℕ) (room : Rooms) (rows : List EntryRow) where
  header-bounded : (h : Result (Option UnitHeader) ℕ) → header_by x section ≡ h → header_analysed x section room h ≡ analysed rows → Bounded room rows
  unfolding header_analysed
  header-bounded (Ok None) e q =
      let z : [] ≡ rows = cc in
      record { unit = []; first = 0; ruled = subst (UnitRows [] room 0) z (no_rows x [] room rows) }
  header-bounded (Err n) e q = let z : ◌≡◌ {A = ℕ} 0 1 = cc in absurd (omega arith)
  header-bounded (Ok (Some h)) e q = record {
    unit = take h.end section;
    first = h.first.0;
    ruled = unit-rows h.encoding x (take h.end section) room h.abbreviations h.first.0 rows q;
  }

  bounded : analysis_of x section room ≡ analysed rows → Bounded room rows
  unfolding analysis_of
  bounded q = header-bounded (header_by x section) refl q

record RowsOf (w : Analysed) (n : ℕ) : Type 0 where
  pub rows : List EntryRow
  pub is : w ≡ analysed rows
  pub count : length rows ≡ n

rows_of : (w : Analysed) (n m : ℕ) → entries_counted n m ≡ answer_of w → RowsOf w n
unfolding answer_of
rows_of (analysed rows) n m q = record { rows = rows; is = refl; count = ap (λ a. a.entries) (same_ok _ _ (sym q)) }
rows_of (refused k) n m q = let z : ◌≡◌ {A = ℕ} 0 1 = cc in absurd (omega arith)

refusal-of : (w : Analysed) (n : ℕ) → Err n ≡ answer_of w → w ≡ refused n
unfolding answer_of
refusal-of (analysed rows) n q = let z : ◌≡◌ {A = ℕ} 0 1 = cc in absurd (omega arith)
refusal-of (refused k) n q = ap refused (let z : k ≡ n = cc in z)

column-own : (f : List EntryRow → List ℕ) (n : ℕ) (w : Analysed) (rows : List EntryRow) (col : List ℕ) → w ≡ analysed rows → length col ≡ n → col ≡ column f n w
    → col ≡ pad_to (length col) (f rows)
unfolding column
column-own f n w rows col e l h = h ∙ ap (column f n) e ∙ ap (λ (k : ℕ). pad_to k (f rows)) (sym l)

-- ---- the first unit of a section

module _ (x : Sections) (section : List ℕ) (nm nq nf np nr ne nt k : ℕ) (index offsets parents roots ends marks targets pairs : List ℕ)
    (unmarked : marks ≡ zeros nm) (cleared : pairs ≡ zeros nq) where
  -- the rooms by the columns as they are, and as they were lent
  abbrev here : Rooms
  here = rooms_of (length marks) (length pairs / 2) nf np nr ne nt

  abbrev lent : Rooms
  lent = unit_rooms nm nq nf np nr ne nt

  marks-long : length marks ≡ nm
  marks-long = ap length unmarked ∙ length-replicate nm 0

  pairs-long : length pairs ≡ nq
  pairs-long = ap length cleared ∙ length-replicate nq 0

  same : analysis_of x section here ≡ analysis_of x section lent
  unfolding unit_rooms
  same = ap₂ (λ (i j : ℕ). analysis_of x section (rooms_of i (j / 2) nf np nr ne nt)) marks-long pairs-long

  abbrev UnitMarked : Result UnitMarks ℕ → List ℕ → List ℕ → Type 0
  UnitMarked r marks' pairs' =
      (r ≡ unit_marks (analysis_of x section lent)) × ((index ≡ index_after x.abbreviations (header_by x section) k) × ((offsets ≡ column offsets_in nf (analysis_of x section lent)) × (
      (parents ≡ column parents_in np (analysis_of x section lent)) × ((roots ≡ column roots_in nr (analysis_of x section lent)) × ((ends ≡ column (ends_in 0) ne (analysis_of x section lent)) × (
      (marks' ≡ column marks_in nm (analysis_of x section lent)) × ((targets ≡ column names_in nt (analysis_of x section lent)) × (pairs' ≡ column pairs_in nq (analysis_of x section lent)))))))))

  pub unit-refused : (n : ℕ) → Answered x section here k nf np nr ne nt index offsets parents roots ends targets (Err n) → UnitMarked (Err n) marks pairs
  unfolding unit_marks column
  unit-refused n a =
      let is : analysis_of x section lent ≡ refused n = sym same ∙ refusal-of (analysis_of x section here) n a.0 in
      let f = a.1.1 in (
        sym (ap unit_marks is),
        (
          a.1.0,
          (
            f.0 ∙ ap (column offsets_in nf) same,
            (
              f.1.0 ∙ ap (column parents_in np) same,
              (
                f.1.1.0 ∙ ap (column roots_in nr) same,
                (
                  f.1.1.1.0 ∙ ap (column (ends_in 0) ne) same,
                  (
                    unmarked ∙ sym (ap (column marks_in nm) is),
                    (
                      f.1.1.1.1 ∙ ap (column names_in nt) same,
                      cleared ∙ sym (ap (column pairs_in nq) is),
                    ),
                  ),
                ),
              ),
            ),
          ),
        ),
      )

  module _ (lf : length offsets ≡ nf) (lp : length parents ≡ np) (lr : length roots ≡ nr) (le : length ends ≡ ne) (lt : length targets ≡ nt)
      (n m : ℕ) (a : Answered x section here k nf np nr ne nt index offsets parents roots ends targets (entries_counted n m)) where
    found : RowsOf (analysis_of x section here) n
    found = rows_of (analysis_of x section here) n m a.0

    rows-laid : UnitColumns found.rows offsets parents roots ends (length found.rows) marks targets pairs
    unfolding rooms_of
    rows-laid =
        let rows : List EntryRow = found.rows in
        let is : analysis_of x section here ≡ analysed rows = found.is in
        let b : Bounded here rows = bounded x section here rows is in
        let f = a.1.1 in
        let o : offsets ≡ pad_to (length offsets) (offsets_in rows) = column-own offsets_in nf _ rows offsets is lf f.0 in
        let p : parents ≡ pad_to (length parents) (parents_in rows) = column-own parents_in np _ rows parents is lp f.1.0 in
        let r : roots ≡ pad_to (length roots) (roots_in rows) = column-own roots_in nr _ rows roots is lr f.1.1.0 in
        let e : ends ≡ pad_to (length ends) (ends_in 0 rows) = column-own (ends_in 0) ne _ rows ends is le f.1.1.1.0 in
        let t : targets ≡ pad_to (length targets) (names_in rows) = column-own names_in nt _ rows targets is lt f.1.1.1.1 in
        let few : length rows ≤ least (length marks) (least (least nf np) (least nr ne)) = b.ruled.entries in
        let less : length (names_in rows) ≤ least (length pairs / 2) nt = b.ruled.references in
        record {
          held =
              rows-held b.unit here b.first rows b.ruled offsets ends targets pairs o e t (zeros-own nq pairs cleared)
              (omega (arith, less, least-left (length pairs / 2) nt));
          parented = padded-take (length rows) (parents_in rows) parents (length-parents rows) p;
          rooted = padded-take (length rows) (roots_in rows) roots (length-roots rows) r;
          parents_inside = omega (arith, padded-few (parents_in rows) parents p, length-parents rows);
          roots_inside = omega (arith, padded-few (roots_in rows) roots r, length-roots rows);
          marks_inside = omega (arith, few, least-left (length marks) (least (least nf np) (least nr ne)));
          unmarked = zeros-own nm marks unmarked;
          fits = graph-takes (length b.unit) b.first rows b.ruled.rowed;
        }

    laid : UnitColumns found.rows offsets parents roots ends n marks targets pairs
    laid = subst (λ (i : ℕ). UnitColumns found.rows offsets parents roots ends i marks targets pairs) found.count rows-laid

    pub unit-markable : Markable offsets parents roots ends n marks targets pairs
    unit-markable = record { rows = found.rows; laid = laid }

    module _ (r : Result UnitMarks ℕ) (marks' pairs' : List ℕ)
        (answer : (rows : List EntryRow) → UnitColumns rows offsets parents roots ends n marks targets pairs → r ≡ unit_marks (analysed rows))
        (unit_marked : (rows : List EntryRow) → UnitColumns rows offsets parents roots ends n marks targets pairs → marks' ≡ pad_to (length marks) (marks_in rows))
        (paired : (rows : List EntryRow) → UnitColumns rows offsets parents roots ends n marks targets pairs → pairs' ≡ pad_to (length pairs) (pairs_in rows)) where
      pub unit-marked : UnitMarked r marks' pairs'
      unfolding column
      unit-marked =
          let rows : List EntryRow = found.rows in
          let is : analysis_of x section lent ≡ analysed rows = sym same ∙ found.is in
          let f = a.1.1 in (
            answer rows laid ∙ sym (ap unit_marks is),
            (
              a.1.0,
              (
                f.0 ∙ ap (column offsets_in nf) same,
                (
                  f.1.0 ∙ ap (column parents_in np) same,
                  (
                    f.1.1.0 ∙ ap (column roots_in nr) same,
                    (
                      f.1.1.1.0 ∙ ap (column (ends_in 0) ne) same,
                      (
                        unit_marked rows laid ∙ ap (λ (i : ℕ). pad_to i (marks_in rows)) marks-long ∙ sym (ap (column marks_in nm) is),
                        (
                          f.1.1.1.1 ∙ ap (column names_in nt) same,
                          paired rows laid ∙ ap (λ (i : ℕ). pad_to i (pairs_in rows)) pairs-long ∙ sym (ap (column pairs_in nq) is),
                        ),
                      ),
                    ),
                  ),
                ),
              ),
            ),
          )

-- an entry of the graph for each row, and a mark for each
pub graph-size : (rows : List EntryRow) → size (graph_of rows) ≡ length rows
unfolding graph_of
graph-size rows = length-parents rows

pub marks-each : (rows : List EntryRow) → length (marks_in rows) ≡ length rows
unfolding marks_in
marks-each rows = length-marks (graph_of rows) ∙ graph-size rows
