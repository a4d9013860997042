-- One entry: what its root test and its scan answer together. Assumes nothing.
use Rattle.readers.proofs.Refusing.{same_ok}
use mathlib.Core.Path.{◌≡◌, refl, ap, sym, ◌∙◌}
use Prim.Native.Nat.{ℕ}
use mathlib.Core.List.{List}
use native.Mathlib.Omega.{arith}
use lib.ListN.{length}
use Rattle.readers.specs.declared.cursor.Cursor.{Cursor}
use Rattle.std.specs.Prelude.{None, Option, Some, Err, Ok, Result}
use Rattle.marking.specs.EntryReferences.{ReferencesFound, found, refused as refused_after}
use Rattle.marking.specs.declared.analysis.EntryAnalysis.{EntryAnalysis}
use Rattle.marking.specs.declared.addresses.Verdict.{Verdict}
use Rattle.marking.specs.Inner.Columns.{root_number, row_found}
use Rattle.marking.specs.ReferenceTable.{through}
use Rattle.marking.specs.declared.addresses.Verdict.TheVariants.{Live, Dead}
use Rattle.marking.specs.ReferenceTable.{placed, written, scanned_to, table_after, entry_scanned}
use Rattle.marking.specs.Analysis.{Analysed, refused, on_verdict, on_found}
use Rattle.marking.specs.Inner.Columns.{root_found, entry_answer, entry_table, refusal_of}
use Rattle.marking.proofs.Places.{length-table}

pub length-entry-table : (table : List ℕ) (at : ℕ) (v : Result Verdict ℕ) (f : ReferencesFound) → length (entry_table table at v f) ≡ length table
unfolding entry_table
length-entry-table table at (Ok Live) f = length-table table at f
length-entry-table table at (Ok Dead) f = length-table table at f
length-entry-table table at (Err n) f = refl

-- ---- by the verdict and the scan

module _ (room at : ℕ) (f : ReferencesFound) where
  found-row : (root to : ℕ) (next : Cursor) → Ok to ≡ scanned_to room at f → row_found root to next ≡ root_found room at next root f
  unfolding scanned_to root_found
  found-row root to next e = of f e
    where
      of : (f' : ReferencesFound) → Ok to ≡ scanned_to room at f' → row_found root to next ≡ root_found room at next root f'
      of (found xs) e = let h : to ≡ placed room at xs = cc in ap (λ (n : ℕ). row_found root n next) h
      of (refused_after xs n) e = let z : ◌≡◌ {A = ℕ} 0 1 = cc in absurd (omega arith)

  refused-row : (root n : ℕ) (next : Cursor) → Err n ≡ scanned_to room at f → Err n ≡ root_found room at next root f
  unfolding scanned_to root_found
  refused-row root n next e = of f e
    where
      of : (f' : ReferencesFound) → Err n ≡ scanned_to room at f' → Err n ≡ root_found room at next root f'
      of (found xs) e = let z : ◌≡◌ {A = ℕ} 0 1 = cc in absurd (omega arith)
      of (refused_after xs m) e = let h : n ≡ m = cc in ap Err h

-- a verdict that goes on to the references
pub record Judged (v : Result Verdict ℕ) (root : ℕ) : Type 0 where
  pub answer : (room at : ℕ) (next : Cursor) (f : ReferencesFound) → entry_answer room at (Some next) v f ≡ root_found room at next root f
  pub table : (t : List ℕ) (at : ℕ) (f : ReferencesFound) → entry_table t at v f ≡ table_after t at f

pub judged : (v : Result Verdict ℕ) (w : Verdict) (root : ℕ) → v ≡ Ok w → root ≡ root_number w → Judged v root
unfolding entry_answer entry_table root_number
judged v Live root e q = rw (e, q) (record { answer = λ room at next f. refl; table = λ t at f. refl })
judged v Dead root e q = rw (e, q) (record { answer = λ room at next f. refl; table = λ t at f. refl })

module _ (table : List ℕ) (at : ℕ) (end : Option Cursor) (v : Result Verdict ℕ) (f : ReferencesFound) where
  -- an answer with the table that it leaves
  abbrev Gives : Result EntryAnalysis ℕ → List ℕ → Type 0
  Gives r left = (r ≡ entry_answer (length table) at end v f) × (left ≡ entry_table table at v f)

  pub no-root : (n m : ℕ) → v ≡ Err n → m ≡ refusal_of end n → Gives (Err m) table
  unfolding entry_answer entry_table refusal_of
  no-root n m e r = rw (e, r) (of end, refl)
    where
      of : (end' : Option Cursor) → Err (refusal_of end' n) ≡ entry_answer (length table) at end' (Err n) f
      of (Some next) = refl
      of None = refl

  module _ (root : ℕ) (j : Judged v root) (left : List ℕ) (t : left ≡ table_after table at f) where
    module _ (place : ℕ) (past : Option Cursor) (s : through place past ≡ entry_scanned (scanned_to (length table) at f) end) where
      gone : (w : Result ℕ ℕ) → through place past ≡ entry_scanned w end → (Ok place ≡ w) × (past ≡ end)
      unfolding entry_scanned
      gone (Ok p) q = let h = same_ok _ _ q in (ap (λ s. Ok s.place) h, ap (λ s. s.end) h)
      gone (Err n) q = let z : ◌≡◌ {A = ℕ} 0 1 = cc in absurd (omega arith)

      pub row-found : (next : Cursor) → past ≡ Some next → Gives (row_found root place next) left
      row-found next q =
          let h : (Ok place ≡ scanned_to (length table) at f) × (past ≡ end) = gone (scanned_to (length table) at f) s in (
            found-row (length table) at f root place next h.0 ∙ sym (j.answer (length table) at next f) ∙ ap (λ (m : Option Cursor). entry_answer (length table) at m v f) (sym q ∙ h.1),
            t ∙ sym (j.table table at f),
          )

      pub row-unread : past ≡ None → Gives (Err 4) left
      unfolding entry_answer
      row-unread q =
          let h : (Ok place ≡ scanned_to (length table) at f) × (past ≡ end) = gone (scanned_to (length table) at f) s in
          (ap (λ (m : Option Cursor). entry_answer (length table) at m v f) (sym q ∙ h.1), t ∙ sym (j.table table at f))

    pub row-refused : (n m : ℕ) → Err n ≡ entry_scanned (scanned_to (length table) at f) end → m ≡ refusal_of end n → Gives (Err m) left
    unfolding entry_answer refusal_of entry_scanned
    row-refused n m s r = (ap Err r ∙ of end, t ∙ sym (j.table table at f))
      where
        stopped : (w : Result ℕ ℕ) (end' : Option Cursor) → Err n ≡ entry_scanned w end' → Err n ≡ w
        stopped (Ok p) end' q = let z : ◌≡◌ {A = ℕ} 0 1 = cc in absurd (omega arith)
        stopped (Err k) end' q = let h : n ≡ k = cc in ap Err h

        of : (end' : Option Cursor) → Err (refusal_of end' n) ≡ entry_answer (length table) at end' v f
        of (Some next) = refused-row (length table) at f root n next (stopped (scanned_to (length table) at f) end s) ∙ sym (j.answer (length table) at next f)
        of None = refl

-- ---- by what is answered

refused-after : (room at root n : ℕ) (next : Cursor) (f : ReferencesFound) (k : List ℕ → Analysed) → Err n ≡ root_found room at next root f → on_found f k ≡ refused n
unfolding root_found on_found
refused-after room at root n next (found xs) k e = let z : ◌≡◌ {A = ℕ} 0 1 = cc in absurd (omega arith)
refused-after room at root n next (refused_after xs m) k e = let h : m ≡ n = cc in ap refused h

pub entry-refused : (room at n : ℕ) (next : Cursor) (v : Result Verdict ℕ) (f : ReferencesFound) (k : ℕ → List ℕ → Analysed) → Err n ≡ entry_answer room at (Some next) v f
    → on_verdict v (λ root. on_found f (k root)) ≡ refused n
unfolding entry_answer on_verdict
entry-refused room at n next (Ok Live) f k e = refused-after room at 1 n next f (k 1) e
entry-refused room at n next (Ok Dead) f k e = refused-after room at 0 n next f (k 0) e
entry-refused room at n next (Err m) f k e = let h : m ≡ n = cc in ap refused h

-- a row: the numbers that were found
pub record RowOf (table : List ℕ) (at : ℕ) (v : Result Verdict ℕ) (f : ReferencesFound) (root to : ℕ) : Type 0 where
  pub names : List ℕ
  pub place : to ≡ placed (length table) at names
  pub left : entry_table table at v f ≡ written table at names
  pub goes : (k : ℕ → List ℕ → Analysed) → on_verdict v (λ n. on_found f (k n)) ≡ k root names

pub entry_found_lem : (table : List ℕ) (at root to : ℕ) (next : Cursor) (v : Result Verdict ℕ) (f : ReferencesFound) → row_found root to next ≡ entry_answer (length table) at (Some next) v f → RowOf table at v f root to
unfolding entry_answer root_found on_verdict on_found entry_table table_after
entry_found_lem table at root to next (Ok Live) (found xs) e =
    let r : 1 ≡ root = ap (λ a. a.root) (same_ok _ _ (sym e)) in
    let p : to ≡ placed (length table) at xs = ap (λ a. a.to) (same_ok _ _ e) in
    record { names = xs; place = p; left = refl; goes = λ k. ap (λ n. k n xs) r }
entry_found_lem table at root to next (Ok Dead) (found xs) e =
    let r : 0 ≡ root = ap (λ a. a.root) (same_ok _ _ (sym e)) in
    let p : to ≡ placed (length table) at xs = ap (λ a. a.to) (same_ok _ _ e) in
    record { names = xs; place = p; left = refl; goes = λ k. ap (λ n. k n xs) r }
entry_found_lem table at root to next (Ok Live) (refused_after xs n) e = let z : ◌≡◌ {A = ℕ} 0 1 = cc in absurd (omega arith)
entry_found_lem table at root to next (Ok Dead) (refused_after xs n) e = let z : ◌≡◌ {A = ℕ} 0 1 = cc in absurd (omega arith)
entry_found_lem table at root to next (Err n) f e = let z : ◌≡◌ {A = ℕ} 0 1 = cc in absurd (omega arith)

-- ---- by where the values end

pub answered-end : (room at root to : ℕ) (next : Cursor) (end : Option Cursor) (v : Result Verdict ℕ) (f : ReferencesFound) → row_found root to next ≡ entry_answer room at end v f → end ≡ Some next
unfolding entry_answer root_found
answered-end room at root to next None v f e = let z : ◌≡◌ {A = ℕ} 0 1 = cc in absurd (omega arith)
answered-end room at root to next (Some c) (Ok Live) (found xs) e = ap (λ a. Some a.next) (same_ok _ _ (sym e))
answered-end room at root to next (Some c) (Ok Dead) (found xs) e = ap (λ a. Some a.next) (same_ok _ _ (sym e))
answered-end room at root to next (Some c) (Ok Live) (refused_after xs n) e = let z : ◌≡◌ {A = ℕ} 0 1 = cc in absurd (omega arith)
answered-end room at root to next (Some c) (Ok Dead) (refused_after xs n) e = let z : ◌≡◌ {A = ℕ} 0 1 = cc in absurd (omega arith)
answered-end room at root to next (Some c) (Err n) f e = let z : ◌≡◌ {A = ℕ} 0 1 = cc in absurd (omega arith)

pub unread-four : (room at n : ℕ) (v : Result Verdict ℕ) (f : ReferencesFound) → Err n ≡ entry_answer room at None v f → n ≡ 4
unfolding entry_answer
unread-four room at n v f e = let h : n ≡ 4 = cc in h

module _ (end m : Option Cursor) (n : ℕ) (q : m ≡ end) where
  pub refusal-same : (next : Cursor) → m ≡ Some next → n ≡ refusal_of end n
  unfolding refusal_of
  refusal-same next k = sym (ap (λ (c : Option Cursor). refusal_of c n) (sym q ∙ k))

  pub refusal-four : m ≡ None → 4 ≡ refusal_of end n
  unfolding refusal_of
  refusal-four k = sym (ap (λ (c : Option Cursor). refusal_of c n) (sym q ∙ k))
