-- Keep lists that are taken change no refusal up to 11, and of the entries nothing but which are roots (document 02, Point 10: "Every entry
-- still goes through the root test"). Assumes nothing.
use mathlib.Core.Path.{◌≡◌, refl, ap, ap₂, sym, ◌∙◌, subst}
use Prim.Native.Nat.{ℕ}
use mathlib.Core.Bool.{Bool, true, false}
use mathlib.Core.List.{List, [], ◌∷◌}
use Rattle.readers.specs.Choice.{pick, ◌and◌, ◌or◌}
use Rattle.readers.specs.Header.{header_of}
use Rattle.std.specs.Prelude.{Option, Result, Err, Ok}
use Rattle.readers.specs.declared.header.UnitHeader.{UnitHeader}
use Rattle.marking.specs.declared.addresses.Verdict.{Verdict}
use Rattle.marking.specs.declared.addresses.Verdict.TheVariants.{Live, Dead}
use Rattle.marking.specs.Roots.{or_else}
use Rattle.marking.specs.KeepList.{KeepList, keep_refusal, treated}
use Rattle.marking.specs.Analysis.{Sections, Rooms, EntryRow, Analysed, analysed, refused as not_analysed, onto, on_verdict, header_by, header_analysed}
use Rattle.marking.specs.Analysis.{analysis_of}
use Rattle.marking.proofs.ListedHeaders.{header-taken}
use Rattle.marking.proofs.KeepLists.{still-refused}
use Rattle.rewriting.specs.Rewriting.{Room, refused, collect_of}
use Rattle.laws.specs.KeepLists.{with_keep, no_entries, entry_and, AlsoAnalysed, SameButRoots}
use Rattle.laws.specs.RefusalNumbers.{OneOf, list_numbers, read_numbers}
use Rattle.laws.proofs.Refusals.ReaderRefusals.{is_one_of, are_apart, apart, not-one-of, HeaderNumbered, early_numbers, early-numbered}
use Rattle.laws.proofs.Refusals.CollectRefusals.{refusal-law, StageOf, of-list, of-reading, of_room, of-place, of_width, stage-of}
use Rattle.laws.proofs.Tables.BySeveralTables.{Verdicts, Analyses, header-by}
use Rattle.laws.proofs.Tables.FailureLaws.{analysis-refused}
use Rattle.laws.proofs.Keep.Treatments.{live-decided, dead-decided, was-refused}

-- ---- verdicts by two lists

-- refused with the same number, or by neither
record Alike (v w : Result Verdict ℕ) : Type 0 where
  pub there : (n : ℕ) → v ≡ Err n → w ≡ Err n
  pub back : (n : ℕ) → w ≡ Err n → v ≡ Err n

treated-alike : (k m : ℕ) (v w : Result Verdict ℕ) → v ≡ w → Alike (treated k v) (treated m w)
treated-alike k m v w same =
    record {
      there = λ n q. sym (still-refused m w n (sym same ∙ was-refused k v n q));
      back = λ n q. sym (still-refused k v n (same ∙ was-refused m w n q));
    }

-- a root test is the same by both, the first and the second
tests_same : (fixed : Bool) (table : List ℕ) → Verdicts {I = Bool} (λ i. fixed) (λ i. table) (λ v. v true ≡ v false)
tests_same fixed table =
    record {
      of_live = refl;
      of-dead = refl;
      of-else = λ v w p q. ap₂ or_else p q;
      of-low-pc = λ e a. refl;
      of-location = λ e s. refl;
      of-ranges = λ e s o. refl;
      of-offset = λ e s o. refl;
    }

-- ---- analyses by two lists

unfoldable Beside : Analysed → Analysed → Type 0
Beside (analysed rows) b = AlsoAnalysed rows b
Beside (not_analysed n) b = b ≡ not_analysed n

refused-beside : (n : ℕ) → Beside (not_analysed n) (not_analysed n)
unfolding Beside
refused-beside n = refl

none_beside : Beside (analysed []) (analysed [])
unfolding Beside
none_beside = record { others = []; is = refl; same = no_entries }

onto-beside : (offset parent r s : ℕ) (names : List ℕ) (a b : Analysed) → Beside a b
    → Beside (onto (record { offset = offset; parent = parent; root = r; names = names }) a)
    (onto (record { offset = offset; parent = parent; root = s; names = names }) b)
unfolding Beside onto
onto-beside offset parent r s names (analysed rows) b f =
    record {
      others = record { offset = offset; parent = parent; root = s; names = names } ∷ f.others;
      is = ap (onto (record { offset = offset; parent = parent; root = s; names = names })) f.is;
      same = entry_and (record { offset_is = refl; parent_is = refl; names_are = refl }) f.same;
    }
onto-beside offset parent r s names (not_analysed n) b f = ap (onto (record { offset = offset; parent = parent; root = s; names = names })) f

verdict-beside : (v w : Result Verdict ℕ) → Alike v w → (k h : ℕ → Analysed) → ((r s : ℕ) → Beside (k r) (h s)) → Beside (on_verdict v k) (on_verdict w h)
unfolding on_verdict
verdict-beside (Ok Live) (Ok Live) a k h each = each 1 1
verdict-beside (Ok Live) (Ok Dead) a k h each = each 1 0
verdict-beside (Ok Dead) (Ok Live) a k h each = each 0 1
verdict-beside (Ok Dead) (Ok Dead) a k h each = each 0 0
verdict-beside (Ok Live) (Err n) a k h each = absurd (live-decided n (a.back n refl))
verdict-beside (Ok Dead) (Err n) a k h each = absurd (dead-decided n (a.back n refl))
verdict-beside (Err n) w a k h each =
    subst (λ (z : Result Verdict ℕ). Beside (not_analysed n) (on_verdict z h)) (sym (a.there n refl)) (refused-beside n)

rows-beside : Analyses {I = Bool} (λ v. Alike (v true) (v false)) (λ root. Unit {0}) (λ a. Beside (a true) (a false))
unfolding pick
rows-beside =
    record {
      of_end = none_beside;
      of-refused = λ n o. refused-beside n;
      of-verdict = λ v p k each. verdict-beside (v true) (v false) p (k true) (k false) (λ r s. each (λ i. pick i r s) tt);
      of-onto = λ offset parent names root r a q. onto-beside offset parent (root true) (root false) names (a true) (a false) q;
    }

beside-refused : (n : ℕ) (b : Analysed) → Beside (not_analysed n) b → b ≡ not_analysed n
unfolding Beside
beside-refused n b p = p

beside-rows : (rows : List EntryRow) (b : Analysed) → Beside (analysed rows) b → AlsoAnalysed rows b
unfolding Beside
beside-rows rows b p = p

same-but-roots : (a b : Analysed) → Beside a b → SameButRoots a b
same-but-roots a b f =
    record {
      refusals = λ n q. beside-refused n b (subst (λ (z : Analysed). Beside z b) q f);
      entries = λ rows q. beside-rows rows b (subst (λ (z : Analysed). Beside z b) q f);
    }

module _ (x : Sections) (one other : KeepList) (taken : keep_refusal one ≡ 0) (too : keep_refusal other ≡ 0) (section : List ℕ) where
  abbrev header : Result (Option UnitHeader) ℕ
  header = header_of x.setting.big_endian section

  by-header : (room : Rooms) → Beside (header_analysed (with_keep x one) section room header) (header_analysed (with_keep x other) section room header)
  unfolding pick
  by-header room =
      header-by {I = Bool} (λ i. x.setting.fixed_addresses) (λ i. x.addresses) (tests_same x.setting.fixed_addresses x.addresses) rows-beside
      (λ i. pick i one other) (λ tag w p. treated-alike _ _ (w true) (w false) p) x (λ n o. refused-beside n) section room header
      (subst (HeaderNumbered early_numbers) (header-taken (with_keep x one) section taken) (early-numbered (with_keep x one) section))

  -- THE entries by two lists that are taken: they differ in which are roots, and in no refusal
  pub same-refusals-law : (room : Rooms) → SameButRoots (analysis_of (with_keep x one) section room) (analysis_of (with_keep x other) section room)
  unfolding analysis_of
  same-refusals-law room =
      same-but-roots _ _
      (subst (λ (h : Result (Option UnitHeader) ℕ).
      Beside (header_analysed (with_keep x one) section room h) (header_analysed (with_keep x other) section room (header_by (with_keep x other) section)))
      (sym (header-taken (with_keep x one) section taken))
      (subst (λ (h : Result (Option UnitHeader) ℕ). Beside (header_analysed (with_keep x one) section room header) (header_analysed (with_keep x other) section room h))
      (sym (header-taken (with_keep x other) section too)) (by-header room)))

-- ---- collect

module _ (x : Sections) (room : Room) (type_units : Bool) (section : List ℕ) where
  at-analysis : (n : ℕ) → OneOf read_numbers n → StageOf x room type_units section n → analysis_of x section room.tables ≡ not_analysed n
  unfolding is_one_of are_apart ◌or◌ ◌and◌
  at-analysis n o (of-list q r) = absurd (apart read_numbers list_numbers n tt o r)
  at-analysis n o (of-reading a r) = a
  at-analysis n o (of_room r) = absurd (apart read_numbers (12 ∷ 13 ∷ 14 ∷ []) n tt o r)
  at-analysis n o (of-place e r) = absurd (not-one-of read_numbers n 8 e tt o)
  at-analysis n o (of_width e r) = absurd (not-one-of read_numbers n 9 e tt o)

-- THE refusals of collect up to 11 are the same by every list that is taken
pub same-collect-refusals : (x : Sections) (one other : KeepList) → keep_refusal one ≡ 0 → keep_refusal other ≡ 0 → (room : Room) (type_units : Bool)
    (section : List ℕ) (n : ℕ) → OneOf read_numbers n → collect_of (with_keep x one) room type_units section ≡ refused n
    → collect_of (with_keep x other) room type_units section ≡ refused n
same-collect-refusals x one other taken too room type_units section n o q =
    analysis-refused (with_keep x other) room type_units section n
    ((same-refusals-law x one other taken too section room.tables).refusals n
    (at-analysis (with_keep x one) room type_units section n o
    (stage-of (with_keep x one) room type_units section n (refusal-law (with_keep x one) room type_units section n q))))
