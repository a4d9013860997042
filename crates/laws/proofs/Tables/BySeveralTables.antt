-- Root tests and analyses of one unit by several address tables and keep lists, where fixed addresses count or do not: what holds of their
-- parts holds of the whole. Assumes nothing.
use Prim.Native.Nat.{ℕ, ◌+◌}
use mathlib.Core.Bool.{Bool, true, false}
use mathlib.Core.List.{List, [], ◌∷◌}
use Rattle.std.specs.Prelude.{Err, None, Ok, Option, Result, Some}
use Rattle.readers.specs.declared.cursor.Cursor.{Cursor}
use Rattle.readers.specs.declared.header.UnitHeader.{UnitHeader}
use lib.ListN.{length, take}
use lib.Dec.{eqb, ltb, leb}
use Rattle.readers.specs.Choice.{pick, ◌and◌, ◌or◌}
use Rattle.readers.specs.Codes.{DW_AT_low_pc, DW_AT_location, DW_AT_ranges, DW_FORM_exprloc, DW_FORM_rnglistx}
use Rattle.readers.specs.Codes.{DW_FORM_sec_offset, DW_TAG_subprogram, DW_TAG_variable, DW_AT_loclists_base, DW_AT_rnglists_base}
use Rattle.readers.specs.EntryAttributes.{Valued}
use Rattle.readers.specs.Fields.{part_of}
use Rattle.readers.specs.Abbreviations.{Placed, abbreviations_of}
use Rattle.readers.specs.Stream.{Item, entry, terminator}
use Rattle.readers.specs.declared.attributes.Attribute.{Attribute}
use Rattle.readers.specs.declared.cursor.Encoding.{Encoding}
use Rattle.marking.specs.declared.addresses.Verdict.{Verdict}
use Rattle.marking.specs.declared.addresses.Verdict.TheVariants.{Live, Dead}
use Rattle.marking.specs.EntryReferences.{ReferencesFound, found, refused as refused_after}
use Rattle.marking.specs.Roots.{ranges_by, or_else, ranges_live, location_live, offset_live, low_pc, low_pcs, locations}
use Rattle.marking.specs.Roots.{other_ranges, ranges_of, first_ranges, root_test}
use Rattle.marking.specs.Analysis.{Sections, Rooms, Analysed, analysed, refused as not_analysed, onto}
use Rattle.marking.specs.Analysis.{on_verdict, on_found, Reached, start_of, tag_of, values_of_entry, ranges_for, test_of, root_of, names_of}
use Rattle.marking.specs.Analysis.{base_of}
use Rattle.marking.specs.Analysis.{analyse_items, on_declared, unit_analysed, header_by, header_analysed, analysis_of}
use Rattle.marking.specs.KeepList.{KeepList, treatment_of, treated}
use Rattle.laws.specs.AddressTables.{with_table, with_fixed}
use Rattle.laws.specs.KeepLists.{with_keep}
use Rattle.laws.specs.RefusalNumbers.{OneOf}
use Rattle.laws.proofs.Refusals.ReaderRefusals.{is_one_of, are_of, one_of, wider, HeaderNumbered, early_numbers, early-numbered}
use Rattle.laws.proofs.Refusals.ScanRefusals.{FoundNumbered, attributes-numbered}

-- the numbers of the entries of a unit, but for the table's own 6 and 17
abbrev pub entry_numbers_but_table : List ℕ
entry_numbers_but_table = 4 ∷ 10 ∷ 5 ∷ 7 ∷ 11 ∷ []

pub pick-of : {I X : Type 0} (P : (I → X) → Type 0) (c : Bool) (f g : I → X) → P f → P g → P (λ i. pick c (f i) (g i))
unfolding pick
pick-of P true f g p q = p
pick-of P false f g p q = q

-- verdicts, one by each table and choice
pub record Verdicts {I : Type 0} (fixed : I → Bool) (table : I → List ℕ) (P : (I → Result Verdict ℕ) → Type 0) : Type 0 where
  pub of_live : P (λ i. (Ok Live))
  pub of-dead : P (λ i. (Ok Dead))
  pub of-else : (v w : I → Result Verdict ℕ) → P v → P w → P (λ i. or_else (v i) (w i))
  pub of-low-pc : (e : Encoding) (a : Attribute) → P (λ i. low_pc e (table i) a)
  pub of-location : (e : Encoding) (s : List ℕ) → P (λ i. location_live e (fixed i) (table i) s)
  pub of-ranges : (e : Encoding) (s : List ℕ) (o : Option Cursor) → P (λ i. ranges_live e (table i) s o)
  pub of-offset : (e : Encoding) (s : List ℕ) (o : Option Cursor) → P (λ i. offset_live e s o)

-- analyses, one by each; N is what holds of the numbers that say whether an entry is a root
pub record Analyses {I : Type 0} (P : (I → Result Verdict ℕ) → Type 0) (N : (I → ℕ) → Type 0) (Q : (I → Analysed) → Type 0) : Type 0 where
  pub of_end : Q (λ i. analysed [])
  pub of-refused : (n : ℕ) → OneOf entry_numbers_but_table n → Q (λ i. not_analysed n)
  pub of-verdict : (v : I → Result Verdict ℕ) → P v → (k : I → ℕ → Analysed) → ((root : I → ℕ) → N root → Q (λ i. k i (root i)))
      → Q (λ i. on_verdict (v i) (k i))
  pub of-onto : (offset parent : ℕ) (names : List ℕ) (root : I → ℕ) → N root → (a : I → Analysed) → Q a
      → Q (λ i. onto (record { offset = offset; parent = parent; root = root i; names = names }) (a i))

module _ {I : Type 0} (fixed : I → Bool) (table : I → List ℕ) where
  -- ---- the root test

  module _ {P : (I → Result Verdict ℕ) → Type 0} (v : Verdicts fixed table P) (e : Encoding) where
    low-pcs-by : (vs : List Valued) → P (λ i. low_pcs e (table i) vs)
    unfolding low_pcs
    low-pcs-by [] = v.of-dead
    low-pcs-by (a ∷ vs) =
        pick-of P (eqb a.name DW_AT_low_pc) _ _ (v.of-else _ _ (v.of-low-pc e a.value) (low-pcs-by vs)) (low-pcs-by vs)

    locations-by : (unit : List ℕ) (vs : List Valued) → P (λ i. locations e (fixed i) (table i) unit vs)
    unfolding locations
    locations-by unit [] = v.of-dead
    locations-by unit (a ∷ vs) =
        pick-of P (eqb a.name DW_AT_location and eqb a.value.form DW_FORM_exprloc) _ _
        (v.of-else _ _ (v.of-location e (part_of unit a.value.field)) (locations-by unit vs)) (locations-by unit vs)

    module _ (ranges : List ℕ) (ranges_base rnglists_base : ℕ) where
      ranges-by : (a : Attribute) → P (λ i. ranges_of e (ranges_by ranges (table i) ranges_base rnglists_base) a)
      unfolding ranges_of other_ranges
      ranges-by a =
          pick-of P (eqb a.form DW_FORM_rnglistx) _ _ (v.of-ranges e ranges _)
          (pick-of P (eqb a.form DW_FORM_sec_offset) _ _ (v.of-offset e ranges _) v.of_live)

      first_by : (vs : List Valued) → P (λ i. first_ranges e (ranges_by ranges (table i) ranges_base rnglists_base) vs)
      unfolding first_ranges
      first_by [] = v.of-dead
      first_by (a ∷ vs) = pick-of P (eqb a.name DW_AT_ranges) _ _ (ranges-by a.value) (first_by vs)

      pub root_by : (unit : List ℕ) (tag : ℕ) (vs : List Valued)
          → P (λ i. root_test e (ranges_by ranges (table i) ranges_base rnglists_base) (fixed i) unit tag vs)
      unfolding root_test
      root_by unit tag vs =
          pick-of P (eqb tag DW_TAG_subprogram) _ _ (v.of-else _ _ (low-pcs-by vs) (first_by vs))
          (pick-of P (eqb tag DW_TAG_variable) _ _ (locations-by unit vs) v.of-dead)

  -- ---- the analysis

  -- P is what holds of root tests, R of them once they are treated
  module _ {P R : (I → Result Verdict ℕ) → Type 0} {N : (I → ℕ) → Type 0} {Q : (I → Analysed) → Type 0} (v : Verdicts fixed table P) (a : Analyses R N Q)
      (keep : I → KeepList) (treats : (tag : ℕ) (w : I → Result Verdict ℕ) → P w → R (λ i. treated (treatment_of (keep i) tag) (w i))) (x : Sections) where
    abbrev by : I → Sections
    by i = with_keep (with_fixed (with_table x (table i)) (fixed i)) (keep i)

    found-by : (f : ReferencesFound) → FoundNumbered f → (k : I → List ℕ → Analysed) → ((names : List ℕ) → Q (λ i. k i names))
        → Q (λ i. on_found f (k i))
    unfolding on_found FoundNumbered is_one_of are_of ◌or◌ ◌and◌
    found-by (found names) q k each = each names
    found-by (refused_after names n) q k each = a.of-refused n (wider (5 ∷ 7 ∷ []) entry_numbers_but_table n tt q)

    -- by the entries
    by-items : (e : Encoding) (unit : List ℕ) (room : Rooms) (is : List Item) (p : Reached) (whole : Bool)
        → Q (λ i. analyse_items e (by i) unit room p is whole)
    unfolding analyse_items test_of root_of names_of base_of values_of_entry is_one_of ◌or◌
    by-items e unit room [] p true = a.of_end
    by-items e unit room [] p false = a.of-refused 4 (one_of entry_numbers_but_table 4 tt)
    by-items e unit room (terminator s t ∷ is) p whole = by-items e unit room is _ whole
    by-items e unit room (entry y ∷ is) p whole =
        pick-of Q (ltb p.count room.entries) _ _
        (a.of-verdict _
        (treats (tag_of y) _
        (root_by v e (ranges_for e x.ranges x.debug_ranges) x.setting.ranges_base (base_of e x unit DW_AT_rnglists_base p.rnglists_base y) unit (tag_of y)
        (values_of_entry e x unit y))) _
        (λ root r. found-by (names_of e x unit (base_of e x unit DW_AT_loclists_base p.loclists_base y) y) (attributes-numbered e _ _) _
        (λ names. pick-of Q (leb (p.references + length names) room.references) _ _
        (a.of-onto _ _ names root r _ (by-items e unit room is _ whole)) (a.of-refused 11 (one_of entry_numbers_but_table 11 tt)))))
        (a.of-refused 10 (one_of entry_numbers_but_table 10 tt))

    pub items-by : (e : Encoding) (unit : List ℕ) (room : Rooms) (p : Reached) (is : List Item) (whole : Bool)
        → Q (λ i. analyse_items e (by i) unit room p is whole)
    items-by e unit room p is whole = by-items e unit room is p whole

    -- a keep list's 19 and 20, the header's 1 and 2, and 3
    module _ (early : (n : ℕ) → OneOf (19 ∷ 20 ∷ 1 ∷ 2 ∷ 3 ∷ []) n → Q (λ i. not_analysed n)) where
      declared-by : (o : Option (List Placed)) (k : I → List Placed → Analysed) → ((ds : List Placed) → Q (λ i. k i ds))
          → Q (λ i. on_declared o (k i))
      unfolding on_declared is_one_of ◌or◌
      declared-by None k each = early 3 (one_of _ 3 tt)
      declared-by (Some ds) k each = each ds

      pub header-by : (section : List ℕ) (room : Rooms) (h : Result (Option UnitHeader) ℕ) → HeaderNumbered early_numbers h
          → Q (λ i. header_analysed (by i) section room h)
      unfolding header_analysed unit_analysed HeaderNumbered is_one_of are_of ◌or◌ ◌and◌
      header-by section room (Ok None) q = a.of_end
      header-by section room (Err n) q = early n (wider early_numbers _ n tt q)
      header-by section room (Ok (Some h)) q =
          declared-by (abbreviations_of x.abbreviations h.abbreviations) _
          (λ ds. items-by h.encoding (take h.end section) room (start_of h.encoding) _ _)

  -- by one keep list
  module _ {P : (I → Result Verdict ℕ) → Type 0} {N : (I → ℕ) → Type 0} {Q : (I → Analysed) → Type 0} (v : Verdicts fixed table P) (a : Analyses P N Q)
      (treats : (k : ℕ) (w : I → Result Verdict ℕ) → P w → P (λ i. treated k (w i))) (x : Sections)
      (early : (n : ℕ) → OneOf (19 ∷ 20 ∷ 1 ∷ 2 ∷ 3 ∷ []) n → Q (λ i. not_analysed n)) where
    pub analysis-by : (section : List ℕ) (room : Rooms) → Q (λ i. analysis_of (with_fixed (with_table x (table i)) (fixed i)) section room)
    unfolding analysis_of header_by
    analysis-by section room =
        header-by v a (λ i. x.keep) (λ tag. treats (treatment_of x.keep tag)) x early section room (header_by x section) (early-numbered x section)
