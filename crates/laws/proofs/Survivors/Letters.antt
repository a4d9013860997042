-- Each mark is that of its entry, and the kept count is the number of survivors.
use Prim.Native.Nat.{ℕ, zero, suc, ◌≤◌, ◌<◌}
use mathlib.Core.Path.{◌≡◌, refl}
use mathlib.Core.Bool.{Bool, true, false, false≢true}
use native.Mathlib.Omega.{arith}
use lib.ListN.{get_or}
use lib.Dec.{leb, eqb}
use borrow.Author.Tests.{ne_eqb, leb-true, le-leb}
use Rattle.readers.specs.Choice.{pick}
use Rattle.marking.specs.Below.{Number}
use Rattle.marking.specs.Graph.{Graph, size}
use Rattle.marking.specs.Survivors.{Survivor, named}
use Rattle.marking.specs.Markings.{is_live, named_by}
use Rattle.marking.specs.Marks.{has, kept_of, mark_of, marks_of, is_kept, kept_count}
use Rattle.laws.specs.Marks.{MarkedLive, first_named, later, Says}
use Rattle.marking.proofs.Tables.{get_or-tab, counted}
use Rattle.marking.proofs.Graphs.{WellFormed}
use Rattle.marking.proofs.Survivors.{live-kept}
use Rattle.marking.proofs.Markings.{named-by-in, named-by-out}
use Rattle.marking.proofs.Rounds.{kept_out, kept_in_lem}
use Rattle.marking.proofs.Letters.{is_live_lem, length-marks, live-is}

marked-kept : {g : Graph} {i : ℕ} → MarkedLive g i → Survivor g i
marked-kept (first_named e k) = named e k
marked-kept (later h l) = live-kept l

-- what a mark says, from what its two tests say
says : (g : Graph) (i : ℕ) (a l : Bool) → (a ≡ true → Survivor g i) → (Survivor g i → a ≡ true) → (l ≡ true → MarkedLive g i) → (MarkedLive g i → l ≡ true) → Says g i (pick a (pick l 3 2) 1)
unfolding pick
says g i true true ko ki lo li = record {
  live = (λ h. lo refl, λ m. refl);
  retained = (λ h. absurd (omega arith), λ p. absurd (p.1 (lo refl)));
  dead = (λ h. absurd (omega arith), λ n. absurd (n (ko refl)));
}
says g i true false ko ki lo li = record {
  live = (λ h. absurd (omega arith), λ m. absurd (false≢true (li m)));
  retained = (λ h. (ko refl, λ m. false≢true (li m)), λ p. refl);
  dead = (λ h. absurd (omega arith), λ n. absurd (n (ko refl)));
}
says g i false l ko ki lo li = record {
  live = (λ h. absurd (omega arith), λ m. absurd (false≢true (ki (marked-kept m))));
  retained = (λ h. absurd (omega arith), λ p. absurd (false≢true (ki p.0)));
  dead = (λ h k. false≢true (ki k), λ n. refl);
}

pub two_in : (a l : Bool) → a ≡ true → 2 ≤ pick a (pick l 3 2) 1
unfolding pick
two_in true true e = omega arith
two_in true false e = omega arith
two_in false l e = absurd (false≢true e)

pub two_out : (a l : Bool) → 2 ≤ pick a (pick l 3 2) 1 → a ≡ true
unfolding pick
two_out true l h = refl
two_out false l h = absurd (omega arith)

-- whether an entry is marked live
pub is_marked_live : Graph → ℕ → Bool
is_marked_live g i = pick (eqb i 0) (named_by g (has (kept_of g)) 0) (is_live g (has (kept_of g)) i)

pub mark-at : (g : Graph) (i : ℕ) → i < size g → get_or (marks_of g) i 0 ≡ pick (has (kept_of g) i) (pick (is_marked_live g i) 3 2) 1
unfolding marks_of mark_of is_marked_live
mark-at g i h = get_or-tab (size g) (mark_of g (kept_of g)) i h

module _ (g : Graph) (v : WellFormed g) where
  marked-out : (i : ℕ) → is_marked_live g i ≡ true → MarkedLive g i
  unfolding is_marked_live pick
  marked-out zero e = let w = named-by-out g (has (kept_of g)) 0 e in first_named w.does (kept_out g w.by w.marked)
  marked-out (suc i) e = later {i = suc i} (omega arith) (live-is g v (suc i) (rw (ne_eqb (suc i) 0 (λ z. omega arith)) at e))

  marked-in : (i : ℕ) → MarkedLive g i → is_marked_live g i ≡ true
  unfolding is_marked_live pick
  marked-in i (first_named {s = s} e k) = named-by-in g v (has (kept_of g)) s 0 e (kept_in_lem g v s k)
  marked-in i (later h l) = rw (ne_eqb i 0 (λ z. omega arith)) (is_live_lem g v i l)

  pub mark-says : (i : ℕ) → i < size g → Says g i (get_or (marks_of g) i 0)
  mark-says i h = rw (mark-at g i h) (says g i (has (kept_of g) i) (is_marked_live g i) (kept_out g i) (kept_in_lem g v i) (marked-out i) (marked-in i))

  pub count-is : Number (Survivor g) (size g) (kept_count (marks_of g))
  unfolding kept_count is_kept
  count-is =
      rw (length-marks g)
      (counted (Survivor g) (λ i. leb 2 (get_or (marks_of g) i 0)) (size g) (λ i h e. kept_out g i (two_out (has (kept_of g) i) (is_marked_live g i) (rw (mark-at g i h) at (leb-true 2 (get_or (marks_of g) i 0) e)))) (λ i h k. le-leb 2 (get_or (marks_of g) i 0) (rw (mark-at g i h) (two_in (has (kept_of g) i) (is_marked_live g i) (kept_in_lem g v i k)))))
