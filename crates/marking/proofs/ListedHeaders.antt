-- The header behind a keep list: the section's own where the list is taken, else the list's refusal. Assumes nothing.
use mathlib.Core.Path.{◌≡◌, refl, ap, sym, ◌∙◌}
use Prim.Native.Nat.{ℕ}
use native.Mathlib.Omega.{arith}
use mathlib.Core.Bool.{Bool, true, false}
use mathlib.Core.List.{List}
use lib.Dec.{eqb}
use mir.Facts.{eqb_yes, eqb_no}
use Rattle.readers.specs.Header.{header_of}
use Rattle.readers.specs.declared.header.UnitHeader.{UnitHeader}
use Rattle.std.specs.Prelude.{Err, Ok, Option, Result, Some}
use Rattle.readers.specs.Choice.{pick}
use Rattle.readers.proofs.Choice.{pick-either}
use Rattle.marking.specs.KeepList.{keep_refusal, list_answer}
use Rattle.marking.specs.Analysis.{Sections, Rooms, EntryRow, analysed, after_list, header_by, header_analysed, analysis_of}

pub after_list_lem {κ} : (P : Result (Option UnitHeader) ℕ → Type κ) (n : ℕ) (r : Result (Option UnitHeader) ℕ) → (n ≡ 0 → P r) → ((n ≡ 0 → ⊥) → P (Err n)) → P (after_list n r)
unfolding after_list
after_list_lem P n r f g =
    pick-either P (eqb n 0) r (Err n) (λ t. f (eqb_yes {a = n} {b = 0} t)) (λ t. g (eqb_no {a = n} {b = 0} t))

abbrev refusal_or : ℕ → Result (Unit {0}) ℕ → ℕ
refusal_or d (Ok u) = d
refusal_or d (Err n) = n

same_refusal : (x n : ℕ) → ◌≡◌ {A = Result (Unit {0}) ℕ} (Err x) (Err n) → x ≡ n
same_refusal x n q = ap (refusal_or x) q

refused-by : (b : Bool) (n x : ℕ) (r s : Result (Option UnitHeader) ℕ) (o : Result (Unit {0}) ℕ)
    → o ≡ pick b (Ok tt) (Err n) → o ≡ Err x → s ≡ Err x → s ≡ pick b r (Err n)
unfolding pick
refused-by true n x r s o e f g =
    let q : Ok tt ≡ Err x = sym e ∙ f in
    let z : ◌≡◌ {A = ℕ} 0 1 = cc in
    absurd (omega arith)
refused-by false n x r s o e f g = g ∙ ap Err (same_refusal _ _ (sym f ∙ e))

taken-by : (b : Bool) (n : ℕ) (u : Unit {0}) (r s : Result (Option UnitHeader) ℕ) (o : Result (Unit {0}) ℕ)
    → o ≡ pick b (Ok tt) (Err n) → o ≡ Ok u → s ≡ r → s ≡ pick b r (Err n)
unfolding pick
taken-by true n u r s o e f g = g
taken-by false n u r s o e f g =
    let q : Err n ≡ Ok u = sym e ∙ f in
    let z : ◌≡◌ {A = ℕ} 0 1 = cc in
    absurd (omega arith)

-- a list that is refused, and one that is taken
pub list-refused : (n x : ℕ) (r s : Result (Option UnitHeader) ℕ) (o : Result (Unit {0}) ℕ)
    → o ≡ list_answer n → o ≡ Err x → s ≡ Err x → s ≡ after_list n r
unfolding after_list list_answer
list-refused n x r s o e f g = refused-by (eqb n 0) n x r s o e f g

pub list-taken : (n : ℕ) (u : Unit {0}) (r s : Result (Option UnitHeader) ℕ) (o : Result (Unit {0}) ℕ)
    → o ≡ list_answer n → o ≡ Ok u → s ≡ r → s ≡ after_list n r
unfolding after_list list_answer
list-taken n u r s o e f g = taken-by (eqb n 0) n u r s o e f g

-- a unit's header is read behind a list that is taken
pub after-listed : (n : ℕ) (r : Result (Option UnitHeader) ℕ) (h : UnitHeader) → after_list n r ≡ Ok (Some h) → (r ≡ Ok (Some h)) × (n ≡ 0)
after-listed n r h =
    after_list_lem (λ (o : Result (Option UnitHeader) ℕ). o ≡ Ok (Some h) → (r ≡ Ok (Some h)) × (n ≡ 0)) n r
    (λ z e. (e, z)) (λ _ e. let z : ◌≡◌ {A = ℕ} 0 1 = cc in absurd (omega arith))

module _ (x : Sections) (section : List ℕ) where
  abbrev own : Result (Option UnitHeader) ℕ
  own = header_of x.setting.big_endian section

  -- the header, or the refusal of a list that is not taken
  pub by-list {κ} : (P : Result (Option UnitHeader) ℕ → Type κ) → (keep_refusal x.keep ≡ 0 → P own)
      → ((keep_refusal x.keep ≡ 0 → ⊥) → P (Err (keep_refusal x.keep))) → P (header_by x section)
  unfolding header_by
  by-list P f g = after_list_lem P (keep_refusal x.keep) own f g

  pub unit-listed : (h : UnitHeader) → header_by x section ≡ Ok (Some h) → (own ≡ Ok (Some h)) × (keep_refusal x.keep ≡ 0)
  unfolding header_by
  unit-listed h q = after-listed (keep_refusal x.keep) own h q

  -- where a list is taken, the header is the section's own
  pub header-taken : keep_refusal x.keep ≡ 0 → header_by x section ≡ own
  header-taken z = by-list (λ (o : Result (Option UnitHeader) ℕ). o ≡ own) (λ _. refl) (λ n. absurd (n z))

  -- where entries are analysed, the list is taken
  pub analysed-taken : (room : Rooms) (rows : List EntryRow) → analysis_of x section room ≡ analysed rows → keep_refusal x.keep ≡ 0
  unfolding analysis_of header_analysed
  analysed-taken room rows =
      by-list (λ (o : Result (Option UnitHeader) ℕ). header_analysed x section room o ≡ analysed rows → keep_refusal x.keep ≡ 0)
      (λ z _. z) (λ _ e. let z : ◌≡◌ {A = ℕ} 0 1 = cc in absurd (omega arith))

  pub analysed-listed : (room : Rooms) (rows : List EntryRow) → analysis_of x section room ≡ analysed rows → header_by x section ≡ own
  analysed-listed room rows q = header-taken (analysed-taken room rows q)
