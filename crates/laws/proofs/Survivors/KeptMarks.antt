-- A mark keeps exactly a survivor.
use mathlib.Core.Path.{◌≡◌, sym, subst}
use Prim.Native.Nat.{ℕ, ◌≤◌, ◌<◌}
use native.Mathlib.Omega.{arith}
use mathlib.Core.Logic.{⊎_elim}
use lib.ListN.{get_or, get_or-eq_default}
use lib.Dec.{T, ltb}
use mir.Facts.{leb_yes, yes_leb, ltb_yes, ltb_no}
use Rattle.readers.proofs.Choice.{either}
use Rattle.marking.specs.Graph.{Graph, size}
use Rattle.marking.specs.Survivors.{Survivor}
use Rattle.marking.specs.Marks.{has, kept_of, marks_of, is_kept}
use Rattle.marking.proofs.Graphs.{WellFormed}
use Rattle.marking.proofs.Survivors.{kept-inside}
use Rattle.marking.proofs.Rounds.{kept_out, kept_in_lem}
use Rattle.marking.proofs.Letters.{length-marks}
use Rattle.laws.proofs.Survivors.Letters.{two_in, two_out, mark-at}

module _ (g : Graph) (w : WellFormed g) where
  marked-inside : (i : ℕ) → i < size g → T (is_kept (marks_of g) i) → Survivor g i
  unfolding is_kept
  marked-inside i h t = kept_out g i (two_out (has (kept_of g) i) _ (subst (λ (n : ℕ). 2 ≤ n) (mark-at g i h) (leb_yes {a = 2} {b = get_or (marks_of g) i 0} t)))

  marked-outside : (i : ℕ) → size g ≤ i → T (is_kept (marks_of g) i) → ⊥
  unfolding is_kept
  marked-outside i h t =
      let z : get_or (marks_of g) i 0 ≡ 0 = get_or-eq_default (marks_of g) 0 (subst (λ (n : ℕ). n ≤ i) (sym (length-marks g)) h) in
      omega (arith, leb_yes {a = 2} {b = get_or (marks_of g) i 0} t)

  pub marked-kept : (i : ℕ) → T (is_kept (marks_of g) i) → Survivor g i
  marked-kept i t =
      ⊎_elim
      (λ l. marked-inside i (ltb_yes {a = i} {b = size g} l) t)
      (λ l. absurd (marked-outside i (ltb_no {a = i} {b = size g} l) t))
      (either (ltb i (size g)))

  pub kept-marked : (i : ℕ) → Survivor g i → T (is_kept (marks_of g) i)
  unfolding is_kept
  kept-marked i k =
      yes_leb {a = 2} {b = get_or (marks_of g) i 0}
      (subst (λ (n : ℕ). 2 ≤ n) (sym (mark-at g i (kept-inside g w i k))) (two_in (has (kept_of g) i) _ (kept_in_lem g w i k)))
