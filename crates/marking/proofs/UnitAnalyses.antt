-- The first unit of a section: its header, its declarations, then its entries; what the columns and the index hold in each case. Assumes nothing.
use mathlib.Core.Path.{◌≡◌, refl, ap, ap₂, sym, ◌∙◌, subst}
use Prim.Native.Nat.{ℕ, min, ◌-◌, ◌≤◌, ◌<◌}
use Rattle.std.specs.Prelude.{Option, Result, Err, None, Ok, Some}
use mathlib.Core.List.{List, []}
use native.Mathlib.Omega.{arith}
use lib.ListN.{length, take, length-replicate}
use lib.Dec.{leb}
use mir.Facts.{leb_yes, leb_no}
use Rattle.readers.specs.Choice.{zeros}
use Rattle.readers.proofs.Choice.{pick-either}
use Rattle.readers.specs.Abbreviations.{Placed, abbreviations_of, as_checked, checked_of, index_for, index_of}
use Rattle.readers.specs.declared.header.UnitHeader.{UnitHeader}
use Rattle.readers.proofs.Declarations.{length-indexed}
use Rattle.marking.specs.Analysis.{Sections, Rooms, rooms, EntryRow, Analysed, analysed, refused, on_declared, unit_analysed, after_list, header_by, header_analysed, analysis_of}
use Rattle.marking.specs.KeepList.{KeepList, keep_refusal}
use Rattle.marking.specs.Columns.{offsets_in, parents_in, roots_in, names_in, ends_in, pad_to, column, least, rooms_of, index_after, answer_of}
use Rattle.marking.specs.Inner.Columns.{Left, Outcome, AnalysisInput, left_by, unit_checked, unit_found}
use Rattle.marking.specs.declared.analysis.Analysis.{Analysis}
use Rattle.marking.specs.Columns.{entries_counted}
use Rattle.marking.proofs.ListedHeaders.{after-listed}

-- ---- columns that are left, and columns that are cleared

left_by_lem : (f : List EntryRow → List ℕ) (n : ℕ) (w : Analysed) (r : Result Analysis ℕ) (col col' : List ℕ)
    → r ≡ answer_of w → Left f n w col → col' ≡ left_by r col → col' ≡ column f n w
unfolding answer_of Left column left_by
left_by_lem f n (analysed rows) r col col' q h e = e ∙ ap (λ (a : Result Analysis ℕ). left_by a col) q ∙ h
left_by_lem f n (refused k) r col col' q h e = e ∙ ap (λ (a : Result Analysis ℕ). left_by a col) q ∙ ap zeros h

pub left-same : {a : Result Analysis ℕ} {n m : ℕ} → a ≡ entries_counted n m → (col : List ℕ) → col ≡ left_by a col
unfolding left_by
left-same e col = sym (ap (λ (r : Result Analysis ℕ). left_by r col) e)

pub left-zeros : {a : Result Analysis ℕ} {n : ℕ} → a ≡ Err n → (col cleared : List ℕ) → cleared ≡ zeros (length col) → cleared ≡ left_by a col
unfolding left_by
left-zeros e col cleared h = h ∙ sym (ap (λ (r : Result Analysis ℕ). left_by r col) e)

column-refused : (f : List EntryRow → List ℕ) (n k : ℕ) (w : Analysed) (col : List ℕ) → w ≡ refused k → col ≡ zeros n → col ≡ column f n w
unfolding column
column-refused f n k w col e h = h ∙ sym (ap (column f n) e)

column-none : (f : List EntryRow → List ℕ) (n : ℕ) (w : Analysed) (col : List ℕ) → f [] ≡ [] → w ≡ analysed [] → col ≡ zeros n → col ≡ column f n w
unfolding column pad_to
column-none f n w col z e h =
    h ∙ ap zeros (let k : n ≡ n - 0 = omega arith in k) ∙ sym (ap (λ (l : List ℕ). pad_to n l) z) ∙ sym (ap (column f n) e)

-- an answer with the columns that stand beside it
abbrev Filled' : Analysed → ℕ → ℕ → ℕ → ℕ → ℕ → List ℕ → List ℕ → List ℕ → List ℕ → List ℕ → Type 0
Filled' w nf np nr ne nt offsets parents roots ends targets =
    (offsets ≡ column offsets_in nf w) × ((parents ≡ column parents_in np w) × ((roots ≡ column roots_in nr w) × ((ends ≡ column (ends_in 0) ne w) × (targets ≡ column names_in nt w))))

-- ---- a unit

pub ready-in : {abbreviations index : List ℕ} {from : ℕ} {unit unit' : List ℕ} {n m : ℕ} {offsets parents roots ends targets : List ℕ} {keep : KeepList}
    → unit' ≡ unit → AnalysisInput abbreviations index from unit n m offsets parents roots ends targets keep → AnalysisInput abbreviations index from unit' n m offsets parents roots ends targets keep
ready-in {abbreviations} {index} {from} {unit} {unit'} {n} {m} {offsets} {parents} {roots} {ends} {targets} {keep} e h =
    subst (λ (u : List ℕ). AnalysisInput abbreviations index from u n m offsets parents roots ends targets keep) (sym e) h

module _ {w w' : Analysed} {offsets₀ parents₀ roots₀ ends₀ targets₀ offsets parents roots ends targets : List ℕ} (same : w ≡ w')
    (h : Outcome w offsets₀ parents₀ roots₀ ends₀ targets₀ offsets parents roots ends targets) where
  pub unit_left : (r : Result Analysis ℕ) → r ≡ answer_of w → (r' : Result Analysis ℕ) (offsets' parents' roots' ends' targets' : List ℕ)
      → (r' ≡ r)
      × ((offsets' ≡ left_by r offsets)
      × ((parents' ≡ left_by r parents)
      × ((roots' ≡ left_by r roots)
      × ((ends' ≡ left_by r ends)
      × (targets' ≡ left_by r targets)))))
      → (r' ≡ answer_of w')
      × Filled' w' (length offsets₀) (length parents₀) (length roots₀) (length ends₀) (length targets₀)
      offsets' parents' roots' ends' targets'
  unit_left r q r' offsets' parents' roots' ends' targets' c = (
    c.0 ∙ q ∙ ap answer_of same,
    (
      left_by_lem offsets_in _ w r offsets offsets' q h.offsets_left c.1.0 ∙ ap (column offsets_in (length offsets₀)) same,
      (
        left_by_lem parents_in _ w r parents parents' q h.parents_left c.1.1.0
            ∙ ap (column parents_in (length parents₀)) same,
        (
          left_by_lem roots_in _ w r roots roots' q h.roots_left c.1.1.1.0 ∙ ap (column roots_in (length roots₀)) same,
          (
            left_by_lem (ends_in 0) _ w r ends ends' q h.ends_left c.1.1.1.1.0
                ∙ ap (column (ends_in 0) (length ends₀)) same,
            left_by_lem names_in _ w r targets targets' q h.targets_left c.1.1.1.1.1
                ∙ ap (column names_in (length targets₀)) same,
          ),
        ),
      ),
    ),
  )

-- ---- rooms

-- which of the two `min` answers
pub min-least : (a b : ℕ) → min a b ≡ least a b
unfolding least
min-least a b = pick-either (λ (n : ℕ). min a b ≡ n) (leb a b) a b (λ t. let k : a ≤ b = leb_yes {a = a} {b = b} t in omega arith) (λ t. let k : b < a = leb_no {a = a} {b = b} t in omega arith)

pub least-left : (a b : ℕ) → least a b ≤ a
unfolding least
least-left a b = pick-either (λ (n : ℕ). n ≤ a) (leb a b) a b (λ _. omega arith) (λ t. let k : b < a = leb_no {a = a} {b = b} t in omega arith)

least-right : (a b : ℕ) → least a b ≤ b
unfolding least
least-right a b = pick-either (λ (n : ℕ). n ≤ b) (leb a b) a b (λ t. leb_yes {a = a} {b = b} t) (λ _. omega arith)

-- the room of the entries by the columns' lengths, and that of the references
pub record Room (entries references nf np nr ne nt n m : ℕ) : Type 0 where
  pub rows : n ≡ least entries (least (least nf np) (least nr ne))
  pub names : m ≡ least references nt

pub rooms-by : {entries references nf np nr ne nt nf' np' nr' ne' nt' n m : ℕ} → Room entries references nf' np' nr' ne' nt' n m
    → nf' ≡ nf → np' ≡ np → nr' ≡ nr → ne' ≡ ne → nt' ≡ nt → rooms n m ≡ rooms_of entries references nf np nr ne nt
unfolding rooms_of
rooms-by {entries} {references} h a b c d t =
    ap₂ (λ (i j : ℕ). rooms i j)
    (h.rows ∙ ap (least entries) (ap₂ least (ap₂ least a b) (ap₂ least c d)))
    (h.names ∙ ap (least references) t)

length-for : (n : ℕ) (o : Option (List Placed)) → length (index_for n o) ≡ n
unfolding index_for
length-for n None = length-replicate n 0
length-for n (Some ds) = length-indexed (zeros n) ds ∙ length-replicate n 0

length-index : (s : List ℕ) (from n : ℕ) → length (index_of s from n) ≡ n
unfolding index_of
length-index s from n = length-for n (abbreviations_of s from)

pub zeros-own : (n : ℕ) (col : List ℕ) → col ≡ zeros n → col ≡ zeros (length col)
zeros-own n col e = e ∙ ap zeros (sym (length-replicate n 0) ∙ sym (ap length e))

-- what was cleared
abbrev Clear : ℕ → ℕ → ℕ → ℕ → ℕ → List ℕ → List ℕ → List ℕ → List ℕ → List ℕ → Type 0
Clear nf np nr ne nt offsets parents roots ends targets = (offsets ≡ zeros nf) × ((parents ≡ zeros np) × ((roots ≡ zeros nr) × ((ends ≡ zeros ne) × (targets ≡ zeros nt))))

-- ---- what is to be analysed

module _ (abbreviations : List ℕ) (r : Result (Option UnitHeader) ℕ) where
  pub found_none : r ≡ Ok None → (k : ℕ) (index : List ℕ) → index ≡ zeros k
      → (Ok None ≡ unit_found abbreviations r) × (index ≡ index_after abbreviations r k)
  unfolding unit_found index_after
  found_none e k index i = (sym (ap (unit_found abbreviations) e), i ∙ sym (ap (λ (q : Result (Option UnitHeader) ℕ). index_after abbreviations q k) e))

  pub found-refused : (n : ℕ) → r ≡ Err n → (k : ℕ) (index : List ℕ) → index ≡ zeros k
      → (Err n ≡ unit_found abbreviations r) × (index ≡ index_after abbreviations r k)
  unfolding unit_found index_after
  found-refused n e k index i = (sym (ap (unit_found abbreviations) e), i ∙ sym (ap (λ (q : Result (Option UnitHeader) ℕ). index_after abbreviations q k) e))

  pub found-checked : (h : UnitHeader) → r ≡ Ok (Some h) → (c : Result (Unit {0}) ℕ) → checked_of abbreviations h.abbreviations ≡ c
      → (k' k : ℕ) → k' ≡ k → (index : List ℕ) → index ≡ index_of abbreviations h.abbreviations k'
      → (unit_checked h c ≡ unit_found abbreviations r) × (index ≡ index_after abbreviations r k)
  unfolding unit_found index_after
  found-checked h e c q k' k same index i = (
    ap (unit_checked h) (sym q) ∙ sym (ap (unit_found abbreviations) e),
    i ∙ ap (index_of abbreviations h.abbreviations) same ∙ sym (ap (λ (w : Result (Option UnitHeader) ℕ). index_after abbreviations w k) e),
  )

-- found by a header that is the section's
pub found-by : (abbreviations : List ℕ) (o r : Result (Option UnitHeader) ℕ) (f : Result (Option UnitHeader) ℕ) (index : List ℕ) (k : ℕ) → o ≡ r
    → (f ≡ unit_found abbreviations r) × (index ≡ index_after abbreviations r k)
    → (f ≡ unit_found abbreviations o) × (index ≡ index_after abbreviations o k)
found-by abbreviations o r f index k e q =
    (q.0 ∙ sym (ap (unit_found abbreviations) e), q.1 ∙ sym (ap (λ (h : Result (Option UnitHeader) ℕ). index_after abbreviations h k) e))

unit-checked : (h h' : UnitHeader) (c : Result (Unit {0}) ℕ) → Ok (Some h) ≡ unit_checked h' c → (h' ≡ h) × (c ≡ Ok tt)
unfolding unit_checked
unit-checked h h' (Ok u) q = let e : h' ≡ h = cc in (e, refl)
unit-checked h h' (Err n) q = let z : ◌≡◌ {A = ℕ} 0 1 = cc in absurd (omega arith)

unit-found : (abbreviations : List ℕ) (r : Result (Option UnitHeader) ℕ) (h : UnitHeader) → Ok (Some h) ≡ unit_found abbreviations r
    → (r ≡ Ok (Some h)) × (checked_of abbreviations h.abbreviations ≡ Ok tt)
unfolding unit_found
unit-found abbreviations (Ok None) h q = let z : ◌≡◌ {A = ℕ} 0 1 = cc in absurd (omega arith)
unit-found abbreviations (Err n) h q = let z : ◌≡◌ {A = ℕ} 0 1 = cc in absurd (omega arith)
unit-found abbreviations (Ok (Some h')) h q =
    let u : (h' ≡ h) × (checked_of abbreviations h'.abbreviations ≡ Ok tt) = unit-checked h h' _ q in
    (ap (λ g. Ok (Some g)) u.0, ap (λ (g : UnitHeader). checked_of abbreviations g.abbreviations) (sym u.0) ∙ u.1)

checked-some : (h : UnitHeader) (c : Result (Unit {0}) ℕ) → Ok None ≡ unit_checked h c → ⊥
unfolding unit_checked
checked-some h (Ok u) q = let z : ◌≡◌ {A = ℕ} 0 1 = cc in omega arith
checked-some h (Err n) q = let z : ◌≡◌ {A = ℕ} 0 1 = cc in omega arith

found-nothing : (abbreviations : List ℕ) (r : Result (Option UnitHeader) ℕ) → Ok None ≡ unit_found abbreviations r → r ≡ Ok None
unfolding unit_found
found-nothing abbreviations (Ok None) q = refl
found-nothing abbreviations (Err n) q = let z : ◌≡◌ {A = ℕ} 0 1 = cc in absurd (omega arith)
found-nothing abbreviations (Ok (Some h)) q = absurd (checked-some h _ q)

index-found : (abbreviations : List ℕ) (r : Result (Option UnitHeader) ℕ) (h : UnitHeader) (k : ℕ) (index : List ℕ) → r ≡ Ok (Some h)
    → index ≡ index_after abbreviations r k → index ≡ index_of abbreviations h.abbreviations k
unfolding index_after
index-found abbreviations r h k index e i = i ∙ ap (λ (q : Result (Option UnitHeader) ℕ). index_after abbreviations q k) e

pub unit-ready : (keep : KeepList) (own : Result (Option UnitHeader) ℕ) (abbreviations index section : List ℕ) (h : UnitHeader) (k : ℕ) {entries references n m : ℕ}
    (nf np nr ne nt : ℕ) (offsets parents roots ends targets : List ℕ)
    → Ok (Some h) ≡ unit_found abbreviations (after_list (keep_refusal keep) own) → index ≡ index_after abbreviations (after_list (keep_refusal keep) own) k
    → Room entries references (length offsets) (length parents) (length roots) (length ends) (length targets) n m
    → Clear nf np nr ne nt offsets parents roots ends targets
    → AnalysisInput abbreviations index h.abbreviations (take h.end section) n m offsets parents roots ends targets keep
unit-ready keep own abbreviations index section h k {entries} {references} {n} {m} nf np nr ne nt offsets parents roots ends targets q i r c =
    let u : (after_list (keep_refusal keep) own ≡ Ok (Some h)) × (checked_of abbreviations h.abbreviations ≡ Ok tt) = unit-found abbreviations (after_list (keep_refusal keep) own) h q in
    let j : index ≡ index_of abbreviations h.abbreviations k = index-found abbreviations (after_list (keep_refusal keep) own) h k index u.0 i in
    let e₁ : n ≡ least entries (least (least (length offsets) (length parents)) (least (length roots) (length ends))) = r.rows in
    let e₂ : m ≡ least references (length targets) = r.names in
    let front : ℕ = least (length offsets) (length parents) in
    let back : ℕ = least (length roots) (length ends) in
    let l₁ : least entries (least front back) ≤ least front back = least-right entries (least front back) in
    let l₂ : least front back ≤ front = least-left front back in
    let l₃ : least front back ≤ back = least-right front back in
    record {
      accepted = u.1;
      indexed = j ∙ ap (index_of abbreviations h.abbreviations) (sym (length-index abbreviations h.abbreviations k) ∙ sym (ap length j));
      offsets_room = omega (arith, least-left (length offsets) (length parents));
      parents_room = omega (arith, least-right (length offsets) (length parents));
      roots_room = omega (arith, least-left (length roots) (length ends));
      ends_room = omega (arith, least-right (length roots) (length ends));
      targets_room = omega (arith, least-right references (length targets));
      offsets_clear = zeros-own nf offsets c.0;
      parents_clear = zeros-own np parents c.1.0;
      roots_clear = zeros-own nr roots c.1.1.0;
      ends_clear = zeros-own ne ends c.1.1.1.0;
      targets_clear = zeros-own nt targets c.1.1.1.1;
      listed = (after-listed (keep_refusal keep) own h u.0).1;
    }

-- ---- the section

module _ (x : Sections) (section : List ℕ) (room : Rooms) (k nf np nr ne nt : ℕ) (index offsets parents roots ends targets : List ℕ) where
  abbrev pub Answered : Result Analysis ℕ → Type 0
  Answered r =
      (r ≡ answer_of (analysis_of x section room))
      × ((index ≡ index_after x.abbreviations (header_by x section) k)
      × Filled' (analysis_of x section room) nf np nr ne nt offsets parents roots ends targets)

  analysis-by : (r : Result (Option UnitHeader) ℕ) → header_by x section ≡ r → analysis_of x section room ≡ header_analysed x section room r
  unfolding analysis_of
  analysis-by r e = ap (header_analysed x section room) e

  module _ (i : index ≡ index_after x.abbreviations (header_by x section) k) where
    module _ (c : Clear nf np nr ne nt offsets parents roots ends targets) where
      section-refused : (n : ℕ) → analysis_of x section room ≡ refused n → Answered (Err n)
      unfolding answer_of
      section-refused n w = (
        sym (ap answer_of w),
        (
          i,
          (
            column-refused offsets_in nf n _ offsets w c.0,
            (
              column-refused parents_in np n _ parents w c.1.0,
              (
                column-refused roots_in nr n _ roots w c.1.1.0,
                (
                  column-refused (ends_in 0) ne n _ ends w c.1.1.1.0,
                  column-refused names_in nt n _ targets w c.1.1.1.1,
                ),
              ),
            ),
          ),
        ),
      )

      section-empty : analysis_of x section room ≡ analysed [] → Answered (entries_counted 0 0)
      unfolding answer_of offsets_in parents_in roots_in ends_in names_in
      section-empty w = (
        sym (ap answer_of w),
        (
          i,
          (
            column-none offsets_in nf _ offsets refl w c.0,
            (
              column-none parents_in np _ parents refl w c.1.0,
              (
                column-none roots_in nr _ roots refl w c.1.1.0,
                (
                  column-none (ends_in 0) ne _ ends refl w c.1.1.1.0,
                  column-none names_in nt _ targets refl w c.1.1.1.1,
                ),
              ),
            ),
          ),
        ),
      )

      pub section-none : Ok None ≡ unit_found x.abbreviations (header_by x section) → Answered (entries_counted 0 0)
      unfolding header_analysed
      section-none q = section-empty (analysis-by (Ok None) (found-nothing x.abbreviations (header_by x section) q))

      undeclared : (h : UnitHeader) (n : ℕ) (o : Option (List Placed)) → Err n ≡ unit_checked h (as_checked o)
          → (f : List Placed → Analysed) → (n ≡ 3) × (on_declared o f ≡ refused 3)
      unfolding as_checked on_declared unit_checked
      undeclared h n None q f = let e : n ≡ 3 = cc in (e, refl)
      undeclared h n (Some ds) q f = let z : ◌≡◌ {A = ℕ} 0 1 = cc in absurd (omega arith)

      pub section-refusing : (n : ℕ) → Err n ≡ unit_found x.abbreviations (header_by x section) → Answered (Err n)
      unfolding header_analysed unit_analysed checked_of unit_found
      section-refusing n q = of (header_by x section) refl q
        where
          of : (r : Result (Option UnitHeader) ℕ) → header_by x section ≡ r → Err n ≡ unit_found x.abbreviations r → Answered (Err n)
          of (Ok None) e q' = let z : ◌≡◌ {A = ℕ} 0 1 = cc in absurd (omega arith)
          of (Err m) e q' =
              let s : n ≡ m = cc in
              subst (λ k. Answered (Err k)) (sym s) (section-refused m (analysis-by (Err m) e))
          of (Ok (Some h)) e q' =
              let u = undeclared h n (abbreviations_of x.abbreviations h.abbreviations) q' _ in
              subst (λ k. Answered (Err k)) (sym u.0) (section-refused 3 (analysis-by (Ok (Some h)) e ∙ u.1))

    pub section-unit : (h : UnitHeader) → Ok (Some h) ≡ unit_found x.abbreviations (header_by x section)
        → (room' : Rooms) (nf' np' nr' ne' nt' : ℕ) (r : Result Analysis ℕ) → room' ≡ room → nf' ≡ nf → np' ≡ np → nr' ≡ nr → ne' ≡ ne → nt' ≡ nt
        → (r ≡ answer_of (unit_analysed h.encoding x (take h.end section) room' h.abbreviations h.first.0))
        × Filled' (unit_analysed h.encoding x (take h.end section) room' h.abbreviations h.first.0) nf' np' nr' ne' nt' offsets parents roots ends targets
        → Answered r
    unfolding header_analysed
    section-unit h u room' nf' np' nr' ne' nt' r m o p q s t f =
        let e : header_by x section ≡ Ok (Some h) = (unit-found x.abbreviations (header_by x section) h u).0 in
        let w : unit_analysed h.encoding x (take h.end section) room' h.abbreviations h.first.0 ≡ analysis_of x section room =
        ap (λ (n : Rooms). unit_analysed h.encoding x (take h.end section) n h.abbreviations h.first.0) m ∙ sym (analysis-by (Ok (Some h)) e) in (
          f.0 ∙ ap answer_of w,
          (
            i,
            (
              f.1.0 ∙ ap₂ (column offsets_in) o w,
              (
                f.1.1.0 ∙ ap₂ (column parents_in) p w,
                (
                  f.1.1.1.0 ∙ ap₂ (column roots_in) q w,
                  (
                    f.1.1.1.1.0 ∙ ap₂ (column (ends_in 0)) s w,
                    f.1.1.1.1.1 ∙ ap₂ (column names_in) t w,
                  ),
                ),
              ),
            ),
          ),
        )
