-- Where each root test by some sections holds by others, nothing is lost; so without an address table nothing is lost that a table keeps
-- (document 02, Point 2). Assumes nothing.
use mathlib.Core.Path.{◌≡◌, refl, ap, ap₂, sym, ◌∙◌, subst}
use Prim.Native.Nat.{ℕ, suc, ◌<◌}
use mathlib.Core.Bool.{Bool, true, false}
use mathlib.Core.List.{List, [], ◌∷◌}
use mathlib.Core.Logic.{inl, inr}
use lib.ListN.{length}
use Rattle.std.specs.Prelude.{Err, Ok, Result}
use Rattle.marking.specs.declared.addresses.Verdict.{Verdict}
use Rattle.marking.specs.declared.addresses.Verdict.TheVariants.{Live, Dead}
use Rattle.marking.specs.Members.{Member, Nth, now, later}
use Rattle.marking.specs.Survivors.{Survivor}
use Rattle.marking.specs.Analysis.{Sections, Rooms, EntryRow, Analysed, analysed, refused as not_analysed, onto}
use Rattle.marking.specs.Analysis.{on_verdict}
use Rattle.marking.specs.Analysis.{analysis_of}
use Rattle.marking.specs.Columns.{offsets_in}
use Rattle.marking.specs.Resolution.{graph_of}
use Rattle.laws.specs.AddressTables.{with_table, with_fixed, NoneLost}
use Rattle.laws.specs.KeepLists.{SameEntry}
use Rattle.laws.specs.UnitSurvivors.{ParentIn, RootIn, NamesIn, Below, child, deeper, ClosedRows, SurvivorsOf}
use Rattle.laws.proofs.Survivors.UnitLaws.{unit-survivors}
use Rattle.laws.proofs.Tables.BySeveralTables.{Verdicts, Analyses, analysis-by}
use Rattle.laws.proofs.Tables.LiveVerdicts.{Held, held, held-treated}
use Rattle.readers.specs.Choice.{pick}

-- ---- rows

-- a row of an entry by the ones, and by the others: a root stays one
record RowHeld (r s : EntryRow) : Type 0 where
  pub entry : SameEntry r s
  pub root-held : r.root ≡ 1 → s.root ≡ 1

data RowsHeld : List EntryRow → List EntryRow → Type 0 where
  no_rows : RowsHeld [] []
  one_more : {r s : EntryRow} {rs ss : List EntryRow} → RowHeld r s → RowsHeld rs ss → RowsHeld (r ∷ rs) (s ∷ ss)

-- the rows of an analysis that is accepted
record Beside (rows : List EntryRow) (b : Analysed) : Type 0 where
  pub all : List EntryRow
  pub is : b ≡ analysed all
  pub held : RowsHeld rows all

unfoldable AnalysedHeld : Analysed → Analysed → Type 0
AnalysedHeld (analysed rows) b = Beside rows b
AnalysedHeld (not_analysed n) b = Unit {0}

refused-held : (n : ℕ) (b : Analysed) → AnalysedHeld (not_analysed n) b
unfolding AnalysedHeld
refused-held n b = tt

no-rows-held : AnalysedHeld (analysed []) (analysed [])
unfolding AnalysedHeld
no-rows-held = record { all = []; is = refl; held = no_rows }

onto-held : (r s : EntryRow) → RowHeld r s → (a b : Analysed) → AnalysedHeld a b → AnalysedHeld (onto r a) (onto s b)
unfolding AnalysedHeld onto
onto-held r s h (analysed rows) b f = record { all = s ∷ f.all; is = ap (onto s) f.is; held = one_more h f.held }
onto-held r s h (not_analysed n) b f = tt

verdict-held : (v w : Result Verdict ℕ) → Held v w → (k h : ℕ → Analysed) → ((r s : ℕ) → (r ≡ 1 → s ≡ 1) → AnalysedHeld (k r) (h s))
    → AnalysedHeld (on_verdict v k) (on_verdict w h)
unfolding Held on_verdict AnalysedHeld
verdict-held (Ok Live) w q k h each = subst (λ (z : Result Verdict ℕ). AnalysedHeld (k 1) (on_verdict z h)) (sym q) (each 1 1 (λ e. e))
verdict-held (Ok Dead) w (inl q) k h each = subst (λ (z : Result Verdict ℕ). AnalysedHeld (k 0) (on_verdict z h)) (sym q) (each 0 1 (λ e. refl))
verdict-held (Ok Dead) w (inr q) k h each = subst (λ (z : Result Verdict ℕ). AnalysedHeld (k 0) (on_verdict z h)) (sym q) (each 0 0 (λ e. e))
verdict-held (Err n) w q k h each = tt

-- a root by the ones (true) is one by the others (false)
rows-held : Analyses {I = Bool} (λ v. Held (v true) (v false)) (λ root. root true ≡ 1 → root false ≡ 1)
    (λ a. AnalysedHeld (a true) (a false))
unfolding pick
rows-held =
    record {
      of_end = no-rows-held;
      of-refused = λ n o. refused-held n _;
      of-verdict = λ v p k each. verdict-held (v true) (v false) p (k true) (k false) (λ r s q. each (λ i. pick i r s) q);
      of-onto = λ offset parent names root r a q.
          onto-held _ _ (record { entry = record { offset_is = refl; parent_is = refl; names_are = refl }; root-held = r }) (a true) (a false) q;
    }

-- ---- survivors

same-offsets : {rows all : List EntryRow} → RowsHeld rows all → offsets_in all ≡ offsets_in rows
unfolding offsets_in
same-offsets no_rows = refl
same-offsets (one_more h hs) = ap₂ (λ (n : ℕ) (ns : List ℕ). n ∷ ns) (sym h.entry.offset_is) (same-offsets hs)

same_length : {rows all : List EntryRow} → RowsHeld rows all → length rows ≡ length all
same_length no_rows = refl
same_length (one_more h hs) = ap suc (same_length hs)

record NthHeld (r : EntryRow) (i : ℕ) (all : List EntryRow) : Type 0 where
  pub row : EntryRow
  pub at : Nth row i all
  pub held : RowHeld r row

nth-held : {rows all : List EntryRow} → RowsHeld rows all → {r : EntryRow} {i : ℕ} → Nth r i rows → NthHeld r i all
nth-held no_rows m = elim m [ ]
nth-held (one_more {s = s} h hs) (now q) = record { row = s; at = now refl; held = subst (λ (t : EntryRow). RowHeld t s) (sym q) h }
nth-held (one_more h hs) (later n) = let m = nth-held hs n in record { row = m.row; at = later m.at; held = m.held }

module _ {rows all : List EntryRow} (h : RowsHeld rows all) where
  root_in : {i : ℕ} → RootIn rows i → RootIn all i
  root_in r = let n = nth-held h r.at in record { row = n.row; at = n.at; is = n.held.root-held r.is }

  parent_in : {p i : ℕ} → ParentIn rows p i → ParentIn all p i
  parent_in r =
      let n = nth-held h r.at in
      record { row = n.row; at = n.at; is = sym n.held.entry.parent_is ∙ r.is; some_parent = r.some_parent }

  names_in_lem : {s t : ℕ} → NamesIn rows s t → NamesIn all s t
  names_in_lem r =
      let n = nth-held h r.at in
      let m = nth-held h r.named_at in
      record {
        row = n.row;
        at = n.at;
        named = m.row;
        named_at = m.at;
        among = subst (λ (o : ℕ). Member o n.row.names) m.held.entry.offset_is
            (subst (λ (ns : List ℕ). Member r.named.offset ns) n.held.entry.names_are r.among);
      }

  below_in : {r d : ℕ} → Below rows r d → Below all r d
  below_in (child p) = child (parent_in p)
  below_in (deeper b p) = deeper (below_in b) (parent_in p)

  -- a set that holds what it must by the others' rows does so by the ones'
  closed_in : (S : ℕ → Type 0) → ClosedRows all S → ClosedRows rows S
  closed_in S c =
      record {
        has_first = λ z. c.has_first (subst (λ (n : ℕ). 0 < n) (same_length h) z);
        has_roots = λ i r. c.has_roots i (root_in r);
        has_parents = λ p i r. c.has_parents p i (parent_in r);
        has_named = λ s t r. c.has_named s t (names_in_lem r);
        has_under_roots = λ r d q b. c.has_under_roots r d (root_in q) (below_in b);
        has_under_named = λ s t d q k b. c.has_under_named s t d (names_in_lem q) k (below_in b);
      }

module _ (x : Sections) (fixed : Bool → Bool) (table : Bool → List ℕ) (v : Verdicts fixed table (λ v. Held (v true) (v false)))
    (section : List ℕ) (room : Rooms) where
  abbrev by : Bool → Sections
  by i = with_fixed (with_table x (table i)) (fixed i)

  analysis-held : (rows : List EntryRow) → analysis_of (by true) section room ≡ analysed rows → Beside rows (analysis_of (by false) section room)
  unfolding AnalysedHeld
  analysis-held rows q =
      subst (λ (a : Analysed). AnalysedHeld a (analysis_of (by false) section room)) q
      (analysis-by fixed table v rows-held (λ k w. held-treated k (w true) (w false)) x (λ n o. refused-held n (not_analysed n)) section room)

  -- where each root test by the ones holds by the others, their survivors survive
  pub all-kept : (rows : List EntryRow) → analysis_of (by true) section room ≡ analysed rows → NoneLost (by false) section room rows
  all-kept rows q =
      let b = analysis-held rows q in
      let of-rows : SurvivorsOf (by true) section rows = unit-survivors (by true) section room rows q in
      let of-all : SurvivorsOf (by false) section b.all = unit-survivors (by false) section room b.all b.is in
      let stays : (i : ℕ) → Survivor (graph_of rows) i → Survivor (graph_of b.all) i =
      of-rows.least.least (Survivor (graph_of b.all)) (closed_in b.held (Survivor (graph_of b.all)) of-all.least.closed) in
      record {
        all = b.all;
        accepted = b.is;
        same_entries = same-offsets b.held;
        kept = stays;
        marked = λ i m. (of-all.kept i).1 (stays i ((of-rows.kept i).0 m));
      }

-- THE survivors by any table survive without one
pub none-lost-law : (x : Sections) (table section : List ℕ) (room : Rooms) (rows : List EntryRow)
    → analysis_of (with_table x table) section room ≡ analysed rows → NoneLost (with_table x []) section room rows
unfolding pick
none-lost-law x table section room rows q =
    all-kept x (λ i. x.setting.fixed_addresses) (λ (i : Bool). pick i table []) (held x.setting.fixed_addresses table) section room rows q
