-- "A refusal carries a number of document 01", or of 02: the root test's is 5, 6 or 17, the analysis' one of 1 to 7, 17, 10 and 11, `mark`'s
-- 16. Assumes nothing.
use mathlib.Core.Path.{◌≡◌, refl, ap, sym, ◌∙◌, subst}
use Prim.Native.Nat.{ℕ}
use native.Mathlib.Omega.{arith}
use mathlib.Core.Bool.{Bool}
use mathlib.Core.List.{List, ◌∷◌}
use Rattle.std.specs.Prelude.{None, Ok, Option, Some, Err, Result}
use lib.ListN.{take}
use lib.Dec.{T, eqb}
use Rattle.readers.specs.Choice.{◌and◌, ◌or◌}
use Rattle.readers.proofs.Choice.{pick-either}
use Rattle.laws.specs.AddressTables.{Failure}
use Rattle.laws.specs.RefusalNumbers.{OneOf, table_numbers, RootRefusal, ScanRefusal, entries_numbers, EntriesRefusal}
use Rattle.laws.specs.RefusalNumbers.{analysis_numbers, AnalysisRefusal, MarkRefusal}
use Rattle.readers.specs.Header.{header_of}
use Rattle.readers.specs.Abbreviations.{Placed, declared_in, abbreviations_of}
use Rattle.readers.specs.Stream.{items_from}
use Rattle.readers.specs.declared.cursor.Encoding.{Encoding}
use Rattle.readers.specs.declared.header.UnitHeader.{UnitHeader}
use Rattle.readers.specs.declared.entries.Entry.{Entry as Entry'}
use Rattle.laws.proofs.Refusals.ReaderRefusals.{is_one_of, are_of, one_of, wider}
use Rattle.marking.specs.declared.units.UnitMarks.{UnitMarks}
use Rattle.marking.specs.declared.addresses.Verdict.{Verdict}
use Rattle.marking.specs.declared.addresses.Verdict.TheVariants.{Live, Dead}
use Rattle.marking.specs.Roots.{Ranges, root_test}
use Rattle.readers.specs.EntryAttributes.{Valued}
use Rattle.marking.specs.EntryReferences.{ReferencesFound, found, refused as refused_after}
use Rattle.marking.specs.Analysis.{Sections, Rooms, EntryRow, Analysed, analysed, refused as not_analysed, onto, on_verdict}
use Rattle.marking.specs.Analysis.{on_found, start_of, test_of, root_of, names_of, analyse_items, on_declared, unit_analysed, header_analysed, analysis_of}
use Rattle.marking.specs.Graph.{Graph, takes}
use Rattle.marking.specs.Marks.{kept_count, marks_of, mark_answer}
use Rattle.marking.specs.Resolution.{unit_marks}
use Rattle.laws.proofs.Refusals.ScanRefusals.{FoundNumbered, attributes-numbered}
use Rattle.laws.proofs.Tables.BySeveralTables.{entry_numbers_but_table, root_by}
use Rattle.laws.proofs.Tables.FromLookups.{NoRefusal, verdicts-told, items-told, analysis-told}
use Rattle.laws.proofs.Tables.Failures.{failure-number}
use Rattle.laws.proofs.Tables.FirstFailure.{settling, settled-of}
use Rattle.marking.specs.KeepList.{keep_refusal, treated}
use Rattle.marking.proofs.ListedHeaders.{header-taken}

-- ---- the root test: 5, and the table's own numbers

-- a refusal is one of some numbers
unfoldable pub VerdictOf : List ℕ → Result Verdict ℕ → Type 0
VerdictOf ms (Ok Live) = Unit {0}
VerdictOf ms (Ok Dead) = Unit {0}
VerdictOf ms (Err n) = OneOf ms n

-- the numbers with which a table fails
abbrev pub FailuresOf : List ℕ → List ℕ → Type 0
FailuresOf ms table = (index n : ℕ) → Failure table index n → OneOf ms n

pub either-failure : (ms table : List ℕ) → T (are_of ms table_numbers) → FailuresOf ms table
either-failure ms table t index n f = wider table_numbers ms n t (failure-number table index n f)

module _ (ms : List ℕ) where
  verdict-fine : (v : Result Verdict ℕ) → NoRefusal Err v → VerdictOf ms v
  unfolding VerdictOf
  verdict-fine (Ok Live) never = tt
  verdict-fine (Ok Dead) never = tt
  verdict-fine (Err n) never = absurd (never n refl)

  verdict-failed : (n : ℕ) → OneOf ms n → VerdictOf ms (Err n)
  unfolding VerdictOf
  verdict-failed n o = o

  root-numbered : OneOf ms 5 → (e : Encoding) (x : Ranges) → FailuresOf ms x.table → (fixed : Bool) (unit : List ℕ) (tag : ℕ) (vs : List Valued)
      → VerdictOf ms (root_test e x fixed unit tag vs)
  root-numbered five e x fails fixed unit tag vs =
      settled-of x.table ms fails Err (VerdictOf ms) verdict-fine verdict-failed _
      (root_by (λ t. fixed) (λ (t : List ℕ). t) (verdicts-told (settling x.table ms) fixed five) e x.ranges x.ranges_base x.rnglists_base unit tag vs)

pub root-refusal : (e : Encoding) (x : Ranges) (fixed : Bool) (unit : List ℕ) (tag : ℕ) (vs : List Valued) (n : ℕ) → root_test e x fixed unit tag vs ≡ Err n
    → RootRefusal n
unfolding VerdictOf is_one_of are_of ◌or◌ ◌and◌
root-refusal e x fixed unit tag vs n q =
    subst (VerdictOf (5 ∷ table_numbers)) q (root-numbered _ (one_of _ 5 tt) e x (either-failure _ x.table tt) fixed unit tag vs)

-- ---- the analysis

-- a refusal is one of some numbers
unfoldable pub AnalysedOf : List ℕ → Analysed → Type 0
AnalysedOf ms (analysed rows) = Unit {0}
AnalysedOf ms (not_analysed n) = OneOf ms n

pub analysed-of : (ms : List ℕ) (a : Analysed) (n : ℕ) → AnalysedOf ms a → a ≡ not_analysed n → OneOf ms n
unfolding AnalysedOf
analysed-of ms a n h q = subst (AnalysedOf ms) q h

pub none_of : (ms : List ℕ) (n : ℕ) → OneOf ms n → AnalysedOf ms (not_analysed n)
unfolding AnalysedOf
none_of ms n q = q

pub rows_of : (ms : List ℕ) (rows : List EntryRow) → AnalysedOf ms (analysed rows)
unfolding AnalysedOf
rows_of ms rows = tt

pub onto-of : (ms : List ℕ) (r : EntryRow) (a : Analysed) → AnalysedOf ms a → AnalysedOf ms (onto r a)
unfolding onto AnalysedOf
onto-of ms r (analysed rows) q = tt
onto-of ms r (not_analysed n) q = q

pub verdict-of : (ms : List ℕ) (v : Result Verdict ℕ) (k : ℕ → Analysed) → VerdictOf ms v → ((n : ℕ) → AnalysedOf ms (k n)) → AnalysedOf ms (on_verdict v k)
unfolding on_verdict VerdictOf
verdict-of ms (Ok Live) k q h = h 1
verdict-of ms (Ok Dead) k q h = h 0
verdict-of ms (Err n) k q h = none_of ms n q

treated-of : (ms : List ℕ) (k : ℕ) (v : Result Verdict ℕ) → VerdictOf ms v → VerdictOf ms (treated k v)
unfolding treated VerdictOf
treated-of ms k (Ok Live) q = pick-either (VerdictOf ms) (eqb k 2) (Ok Dead) (Ok Live) (λ _. tt) (λ _. tt)
treated-of ms k (Ok Dead) q = pick-either (VerdictOf ms) (eqb k 1) (Ok Live) (Ok Dead) (λ _. tt) (λ _. tt)
treated-of ms k (Err n) q = q

pub names-of : (ms : List ℕ) → ((n : ℕ) → ScanRefusal n → OneOf ms n) → (f : ReferencesFound) (k : List ℕ → Analysed) → FoundNumbered f
    → ((xs : List ℕ) → f ≡ found xs → AnalysedOf ms (k xs)) → AnalysedOf ms (on_found f k)
unfolding on_found FoundNumbered
names-of ms t (found xs) k q h = h xs refl
names-of ms t (refused_after xs n) k q h = none_of ms n (t n q)

module _ (e : Encoding) (x : Sections) (unit : List ℕ) where
  pub root-of : (ms : List ℕ) → OneOf ms 5 → FailuresOf ms x.addresses → (base : ℕ) (y : Entry') → VerdictOf ms (root_of e x unit base y)
  unfolding test_of root_of
  root-of ms five fails base y = treated-of ms _ _ (root-numbered ms five e _ fails _ unit _ _)

  pub references-of : (base : ℕ) (y : Entry') → FoundNumbered (names_of e x unit base y)
  unfolding names_of
  references-of base y = attributes-numbered e _ _

analysed-fine : (ms : List ℕ) (a : Analysed) → NoRefusal not_analysed a → AnalysedOf ms a
analysed-fine ms (analysed rows) never = rows_of ms rows
analysed-fine ms (not_analysed n) never = absurd (never n refl)

-- some numbers, among them all but the table's
abbrev AnalysisOthers : List ℕ → Type 0
AnalysisOthers ms = (n : ℕ) → OneOf (19 ∷ 20 ∷ 1 ∷ 2 ∷ 3 ∷ entry_numbers_but_table) n → OneOf ms n

pub analysis-of : (ms : List ℕ) → AnalysisOthers ms → (x : Sections) → FailuresOf ms x.addresses → (section : List ℕ) (room : Rooms)
    → AnalysedOf ms (analysis_of x section room)
analysis-of ms others x fails section room =
    settled-of x.addresses ms fails not_analysed (AnalysedOf ms) (analysed-fine ms) (none_of ms) _
    (analysis-told (settling x.addresses ms) others x section room)

analysis-numbered : (x : Sections) (section : List ℕ) (room : Rooms) → AnalysedOf analysis_numbers (analysis_of x section room)
unfolding is_one_of are_of ◌or◌ ◌and◌
analysis-numbered x section room =
    analysis-of analysis_numbers (λ n o. wider (19 ∷ 20 ∷ 1 ∷ 2 ∷ 3 ∷ entry_numbers_but_table) analysis_numbers n tt o) x
    (either-failure analysis_numbers x.addresses tt) section room

-- "A refusal carries a number of document 01"
pub analysis-refusal : (x : Sections) (section : List ℕ) (room : Rooms) (n : ℕ) → analysis_of x section room ≡ not_analysed n → AnalysisRefusal n
analysis-refusal x section room n q = analysed-of analysis_numbers (analysis_of x section room) n (analysis-numbered x section room) q

-- what is analysed where the header is read
abbrev pub declared_analysed : Sections → List ℕ → Rooms → UnitHeader → Option (List Placed) → Analysed
declared_analysed x section room h o =
    on_declared o
    (λ ds.
    let items = items_from h.encoding x.abbreviations (declared_in ds) (take h.end section) h.first.0 in
    analyse_items h.encoding x (take h.end section) room (start_of h.encoding) items.0 items.1)

-- where the abbreviations are read too, it is one of the entries
declared-entries : (x : Sections) (section : List ℕ) (room : Rooms) (h : UnitHeader) (o : Option (List Placed)) (ds : List Placed) → o ≡ Some ds
    → AnalysedOf entries_numbers (declared_analysed x section room h o)
unfolding on_declared is_one_of are_of ◌or◌ ◌and◌
declared-entries x section room h None ds q = let z : ◌≡◌ {A = ℕ} 0 1 = cc in absurd (omega arith)
declared-entries x section room h (Some es) ds q =
    settled-of x.addresses entries_numbers (either-failure entries_numbers x.addresses tt) not_analysed (AnalysedOf entries_numbers)
    (analysed-fine entries_numbers) (none_of entries_numbers) _
    (items-told (settling x.addresses entries_numbers) (λ n o. wider entry_numbers_but_table entries_numbers n tt o) x h.encoding
    (take h.end section) room (start_of h.encoding) _ _)

pub entries-refusal : (x : Sections) (section : List ℕ) (room : Rooms) (h : UnitHeader) (ds : List Placed) (n : ℕ)
    → keep_refusal x.keep ≡ 0 → header_of x.setting.big_endian section ≡ Ok (Some h) → abbreviations_of x.abbreviations h.abbreviations ≡ Some ds → analysis_of x section room ≡ not_analysed n → EntriesRefusal n
unfolding analysis_of header_analysed unit_analysed
entries-refusal x section room h ds n z q d a =
    analysed-of entries_numbers _ n (declared-entries x section room h (abbreviations_of x.abbreviations h.abbreviations) ds d)
    (sym (ap (header_analysed x section room) (header-taken x section z ∙ q)) ∙ a)

-- ---- marks

-- the marks of a unit are refused as its analysis is
unfoldable MarksNumbered : Result UnitMarks ℕ → Type 0
MarksNumbered (Ok m) = Unit {0}
MarksNumbered (Err n) = AnalysisRefusal n

marks-numbered : (a : Analysed) → AnalysedOf analysis_numbers a → MarksNumbered (unit_marks a)
unfolding unit_marks MarksNumbered AnalysedOf
marks-numbered (analysed rows) h = tt
marks-numbered (not_analysed n) h = h

pub unit-marks-refusal : (x : Sections) (section : List ℕ) (room : Rooms) (n : ℕ) → unit_marks (analysis_of x section room) ≡ Err n → AnalysisRefusal n
unfolding MarksNumbered
unit-marks-refusal x section room n q = subst MarksNumbered q (marks-numbered (analysis_of x section room) (analysis-numbered x section room))

-- `mark`: 16
unfoldable MarkNumbered : Result ℕ ℕ → Type 0
MarkNumbered (Ok n) = Unit {0}
MarkNumbered (Err n) = MarkRefusal n

pub mark-refusal : (g : Graph) (n k : ℕ) → mark_answer g n ≡ Err k → MarkRefusal k
unfolding mark_answer MarkNumbered is_one_of ◌or◌
mark-refusal g n k q =
    subst MarkNumbered q
    (pick-either MarkNumbered (takes g n) (Ok (kept_count (marks_of g))) (Err 16) (λ _. tt) (λ _. one_of _ 16 tt))
