-- THE LAW OF DEMAND 3 about the survivors of a unit, whatever becomes of it: unit_marked, rewritten, left untouched, or refused
-- after its analysis. Assumes nothing but that the unit is analysed.
use Rattle.readers.proofs.Refusing.{same_ok}
use mathlib.Core.Path.{◌≡◌, refl, ap, ap₂, sym, ◌∙◌, subst}
use Prim.Native.Nat.{ℕ, suc, ◌<◌}
use native.Mathlib.Omega.{arith}
use mathlib.Core.Bool.{Bool, true}
use mathlib.Core.List.{List, [], ◌∷◌}
use Rattle.std.specs.Prelude.{Err, None, Ok, Option, Result, Some}
use mathlib.Core.Logic.{◌⊎◌, inl, inr, ⊎_elim}
use lib.ListN.{length, get_or, take}
use Rattle.readers.specs.Lists.{list_base}
use Rattle.readers.specs.Abbreviations.{Placed, abbreviations_of}
use Rattle.readers.specs.Nesting.{no_parent, opened, closed}
use Rattle.readers.specs.Stream.{Item, entry, terminator}
use Rattle.readers.specs.Header.{header_of}
use Rattle.readers.specs.declared.cursor.Encoding.{Encoding}
use Rattle.readers.specs.declared.entries.Entry.{Entry}
use Rattle.readers.specs.declared.header.UnitHeader.{UnitHeader}
use Rattle.readers.proofs.Headers.{header-empty}
use Rattle.readers.proofs.HeaderLaws.{HeaderLaw, header-cases, header-laws}
use Rattle.marking.specs.Below.{Number}
use Rattle.marking.specs.Graph.{well_formed}
use Rattle.marking.specs.Survivors.{Survivor}
use Rattle.marking.specs.Marks.{marks_of, kept_count}
use Rattle.laws.specs.Marks.{Says}
use Rattle.marking.specs.EntryReferences.{found}
use Rattle.marking.specs.Analysis.{Sections, Rooms, EntryRow, Analysed, analysed, refused, on_declared, unit_analysed, header_analysed, analysis_of, base_of}
use Rattle.marking.specs.Columns.{offsets_in}
use Rattle.marking.specs.Resolution.{graph_of, marks_in, unit_marks, Ascending}
use Rattle.laws.specs.UnitSurvivors.{FirstUnit, GraphSays, SurvivorsOf, MarkedUnit}
use Rattle.marking.specs.EntryRows.{Tested, RowOf, RowsOf, unit_items}
use Rattle.marking.specs.declared.addresses.Verdict.{Verdict}
use Rattle.marking.specs.Resolution.{unit_marked}
use Rattle.marking.specs.declared.addresses.Verdict.TheVariants.{Live, Dead}
use Rattle.marking.proofs.Graphs.{WellFormed, well-formed}
use Rattle.laws.proofs.Survivors.KeptMarks.{marked-kept, kept-marked}
use Rattle.laws.proofs.Survivors.MarkLaws.{taken-law, markings-law, marks-law, kept-count-law}
use Rattle.marking.proofs.Rows.{UnitRows, rows_fit, analysis-rows, offsets-ascend, graph-takes}
use Rattle.laws.proofs.Survivors.GraphLaws.{parent-law, root-law, names-law}
use Rattle.laws.proofs.Survivors.UnitSurvivors.{rows-least}
use Rattle.marking.proofs.EachRow.{items-whole, items-rows, own-rows}
use Rattle.marking.proofs.UnitMarkings.{graph-size, marks-each}
use Rattle.marking.proofs.ListedHeaders.{analysed-listed}

-- ---- only an empty section has no header

unfoldable NotEmpty : Result (Option UnitHeader) ℕ → Type 0
NotEmpty (Ok None) = ⊥
NotEmpty (Err n) = Unit {0}
NotEmpty (Ok (Some h)) = Unit {0}

empty-section : (big : Bool) (s : List ℕ) → header_of big s ≡ Ok None → s ≡ []
unfolding NotEmpty
empty-section big [] q = refl
empty-section big (b ∷ s) q =
    absurd (subst NotEmpty q (header-cases big (b ∷ s) NotEmpty (λ z. absurd (omega (arith, z))) tt tt (λ h l. tt)))

-- ---- of a unit that is analysed

module _ (x : Sections) (section : List ℕ) (room : Rooms) (rows : List EntryRow) (analysis : analysis_of x section room ≡ analysed rows) where
  -- ---- the graph and its marks

  placed : UnitRows section room 0 rows
  placed = analysis-rows x section room rows analysis

  ascending : Ascending 0 (offsets_in rows)
  ascending = offsets-ascend (length section) 0 0 rows placed.rowed

  -- the graph of a unit is one that marking takes
  pub formed : well_formed (graph_of rows) ≡ true
  formed = (taken-law (graph_of rows) (length rows) (graph-takes (length section) 0 rows placed.rowed)).1

  well : WellFormed (graph_of rows)
  well = well-formed (graph_of rows) formed

  says-rows : GraphSays rows (graph_of rows)
  says-rows = record { entries = graph-size rows; parents = parent-law rows; roots = root-law rows; references = names-law rows 0 ascending }

  marks-say : (i : ℕ) → i < length rows → Says (graph_of rows) i (get_or (marks_in rows) i 0)
  unfolding marks_in
  marks-say i h = marks-law (graph_of rows) formed i (omega (arith, graph-size rows))

  counted : Number (Survivor (graph_of rows)) (length rows) (kept_count (marks_in rows))
  unfolding marks_in
  counted = subst (λ (n : ℕ). Number (Survivor (graph_of rows)) n (kept_count (marks_of (graph_of rows)))) (graph-size rows) (kept-count-law (graph_of rows) formed)

  -- ---- the unit

  undeclared : (h : UnitHeader) → header_of x.setting.big_endian section ≡ Ok (Some h) → abbreviations_of x.abbreviations h.abbreviations ≡ None → ⊥
  unfolding analysis_of header_analysed unit_analysed on_declared
  undeclared h q d =
      let p = sym (ap (header_analysed x section room) (analysed-listed x section room rows analysis ∙ q)) ∙ analysis in
      let z : ◌≡◌ {A = ℕ} 0 1 = cc in omega arith

  declared-unit : (h : UnitHeader) → header_of x.setting.big_endian section ≡ Ok (Some h)
      → (o : Option (List Placed)) → abbreviations_of x.abbreviations h.abbreviations ≡ o → FirstUnit x section rows
  declared-unit h q None d = absurd (undeclared h q d)
  declared-unit h q (Some ds) d =
      record {
        header = h;
        declared = ds;
        header_is = q;
        known = (header-laws x.setting.big_endian section h q).known;
        declared_is = d;
        whole = items-whole x section room h ds rows q d analysis;
        each = items-rows x section room h ds rows q d analysis;
      }

  header-unit : (o : Result (Option UnitHeader) ℕ) → header_of x.setting.big_endian section ≡ o → header_analysed x section room o ≡ analysed rows
      → ((section ≡ []) × (rows ≡ [])) ⊎ FirstUnit x section rows
  unfolding header_analysed
  header-unit (Ok None) q a = inl (empty-section x.setting.big_endian section q, (let z : rows ≡ [] = cc in z))
  header-unit (Err n) q a = let z : ◌≡◌ {A = ℕ} 0 1 = cc in absurd (omega arith)
  header-unit (Ok (Some h)) q a = inr (declared-unit h q (abbreviations_of x.abbreviations h.abbreviations) refl)

  first-unit : ((section ≡ []) × (rows ≡ [])) ⊎ FirstUnit x section rows
  unfolding analysis_of
  first-unit =
      header-unit (header_of x.setting.big_endian section) refl
      (sym (ap (header_analysed x section room) (analysed-listed x section room rows analysis)) ∙ analysis)

  few-rows : length rows < no_parent
  few-rows =
      ⊎_elim
      (λ (e : (section ≡ []) × (rows ≡ [])). let l : length rows ≡ 0 = ap length e.1 in omega arith)
      (λ (u : FirstUnit x section rows).
      let l : UnitRows (take u.header.end section) room u.header.first.0 rows =
      own-rows x section room u.header u.declared rows u.header_is u.declared_is analysis in
      let k : HeaderLaw x.setting.big_endian (take u.header.end section) u.header =
      header-laws x.setting.big_endian section u.header u.header_is in
      omega (arith, k.below, k.after, rows_fit (length (take u.header.end section)) u.header.first.0 0 rows l.rowed k.inside))
      first-unit

  -- THE survivors of a unit
  pub unit-survivors : SurvivorsOf x section rows
  unfolding marks_in
  unit-survivors =
      record {
        least = rows-least rows 0 ascending;
        unit = first-unit;
        few = few-rows;
        graph = says-rows;
        marks = marks-each rows;
        kept = (λ i. (marked-kept (graph_of rows) well i, kept-marked (graph_of rows) well i));
        says = marks-say;
        count = counted;
        markings = markings-law (graph_of rows) formed;
      }

-- ---- no other rows are so

abbrev row : ℕ → ℕ → ℕ → List ℕ → EntryRow
row o p t ns = record { offset = o; parent = p; root = t; names = ns }

row_made : (r : EntryRow) (o p t : ℕ) (ns : List ℕ) → r.offset ≡ o → r.parent ≡ p → r.root ≡ t → r.names ≡ ns → r ≡ row o p t ns
row_made r o p t ns a b c d =
    ap₂ (λ (i j : ℕ). row i j r.root r.names) a b ∙ ap₂ (λ (i : ℕ) (l : List ℕ). row o p i l) c d

module _ (e : Encoding) (x : Sections) (unit : List ℕ) where
  same-root : (v : Result Verdict ℕ) (a b : ℕ) → Tested v a → Tested v b → a ≡ b
  same-root v a b =
      ⊎_elim
      (λ (p : (v ≡ Ok Live) × (a ≡ 1)). ⊎_elim
      (λ (q : (v ≡ Ok Live) × (b ≡ 1)). p.1 ∙ sym q.1)
      (λ (q : (v ≡ Ok Dead) × (b ≡ 0)). let l : v ≡ Ok Live = p.0 in let d : v ≡ Ok Dead = q.0 in let z : ◌≡◌ {A = ℕ} 0 1 = cc in absurd (omega arith)))
      (λ (p : (v ≡ Ok Dead) × (a ≡ 0)). ⊎_elim
      (λ (q : (v ≡ Ok Live) × (b ≡ 1)). let l : v ≡ Ok Live = q.0 in let d : v ≡ Ok Dead = p.0 in let z : ◌≡◌ {A = ℕ} 0 1 = cc in absurd (omega arith))
      (λ (q : (v ≡ Ok Dead) × (b ≡ 0)). p.1 ∙ sym q.1))

  same_row : (stack : List ℕ) (rb lb : ℕ) (y : Entry) (a b : EntryRow) → RowOf e x unit stack rb lb y a → RowOf e x unit stack rb lb y b → a ≡ b
  same_row stack rb lb y a b p q =
      row_made a b.offset b.parent b.root b.names
      (p.offset_is ∙ sym q.offset_is)
      (p.parent_is ∙ sym q.parent_is)
      (same-root _ a.root b.root p.root_is q.root_is)
      (let z : found a.names ≡ found b.names = sym p.names_are ∙ q.names_are in cc)

  pub same_rows : (k : ℕ) (stack : List ℕ) (rb lb : ℕ) (items : List Item) (a b : List EntryRow)
      → RowsOf e x unit k stack rb lb items a → RowsOf e x unit k stack rb lb items b → a ≡ b
  unfolding RowsOf
  same_rows k stack rb lb [] a b p q = p ∙ sym q
  same_rows k stack rb lb (terminator i j ∷ rest) a b p q = same_rows k (closed stack) rb lb rest a b p q
  same_rows k stack rb lb (entry y ∷ rest) [] b p q = absurd p
  same_rows k stack rb lb (entry y ∷ rest) (r ∷ a) [] p q = absurd q
  same_rows k stack rb lb (entry y ∷ rest) (r ∷ a) (s ∷ b) p q =
      ap₂ (λ (z : EntryRow) (zs : List EntryRow). z ∷ zs) (same_row stack rb lb y r s p.0 q.0)
      (same_rows (suc k) (opened y.declaration.children k stack) (base_of e x unit 0x74 rb y) (base_of e x unit 0x8c lb y) rest a b p.1 q.1)

module _ (x : Sections) (section : List ℕ) (a b : List EntryRow) where
  abbrev Each : UnitHeader → List Placed → Type 0
  Each h ds = RowsOf h.encoding x (take h.end section) 0 [] (list_base h.encoding) (list_base h.encoding) (unit_items x section h ds).0 a

  same_units : FirstUnit x section a → FirstUnit x section b → a ≡ b
  same_units u v =
      let h : u.header ≡ v.header = (let z : Ok (Some u.header) ≡ Ok (Some v.header) = sym u.header_is ∙ v.header_is in cc) in
      let d : u.declared ≡ v.declared =
      (let z : Some u.declared ≡ Some v.declared =
      sym u.declared_is ∙ ap (λ (n : UnitHeader). abbreviations_of x.abbreviations n.abbreviations) h ∙ v.declared_is in cc) in
      same_rows v.header.encoding x (take v.header.end section) 0 [] (list_base v.header.encoding) (list_base v.header.encoding) (unit_items x section v.header v.declared).0 a b
      (subst (λ (n : UnitHeader). Each n v.declared) h (subst (Each u.header) d u.each))
      v.each

  no-first : section ≡ [] → (rows : List EntryRow) → FirstUnit x section rows → ⊥
  no-first s rows u =
      let p : header_of x.setting.big_endian section ≡ Ok None = header-empty x.setting.big_endian section (ap length s) in
      let q : header_of x.setting.big_endian section ≡ Ok (Some u.header) = u.header_is in
      let z : ◌≡◌ {A = ℕ} 0 1 = cc in omega arith

  -- what is promised of the rows is so of no others: no parent, list base or reference can be another one, and none can be missing
  pub only-rows : SurvivorsOf x section a → SurvivorsOf x section b → a ≡ b
  only-rows p q =
      ⊎_elim
      (λ (e : (section ≡ []) × (a ≡ [])). ⊎_elim
      (λ (f : (section ≡ []) × (b ≡ [])). e.1 ∙ sym f.1)
      (λ (v : FirstUnit x section b). absurd (no-first e.0 b v)) q.unit)
      (λ (u : FirstUnit x section a). ⊎_elim
      (λ (f : (section ≡ []) × (b ≡ [])). absurd (no-first f.0 a u))
      (λ (v : FirstUnit x section b). same_units u v) q.unit) p.unit

-- ---- what marking a unit answers

module _ (x : Sections) (section : List ℕ) (room : Rooms) (n k : ℕ) where
  marked_by : (o : Analysed) → analysis_of x section room ≡ o → unit_marks o ≡ unit_marked n k → MarkedUnit x section room n k
  unfolding unit_marks
  marked_by (analysed rows) a q =
      let s : SurvivorsOf x section rows = unit-survivors x section room rows a in
      let e : length rows ≡ n = ap (λ m. m.entries) (same_ok _ _ q) in
      let c : kept_count (marks_in rows) ≡ k = ap (λ m. m.kept) (same_ok _ _ q) in
      record {
        rows = rows;
        analysis = a;
        survivors = s;
        entries = sym e;
        kept = subst (λ (i : ℕ). Number (Survivor (graph_of rows)) i k) e (subst (Number (Survivor (graph_of rows)) (length rows)) c s.count);
      }
  marked_by (refused i) a q = let z : ◌≡◌ {A = ℕ} 0 1 = cc in absurd (omega arith)

  pub marked-survivors : unit_marks (analysis_of x section room) ≡ unit_marked n k → MarkedUnit x section room n k
  marked-survivors = marked_by (analysis_of x section room) refl
