-- What `mark` takes, and what it then answers.
use Rattle.std.specs.Prelude.{Err, Ok}
use Prim.Native.Nat.{ℕ, suc, ◌*◌, ◌≤◌}
use mathlib.Core.Path.{◌≡◌, ap, ◌∙◌}
use mathlib.Core.List.{List, [], ◌∷◌}
use mathlib.Core.Bool.{true, false}
use native.Mathlib.Omega.{arith}
use lib.ListN.{length, get_or, replicate}
use borrow.Author.Tests.{eqb-true}
use Rattle.readers.specs.Choice.{pick}
use Rattle.marking.specs.Graph.{Graph, size, references, takes}
use Rattle.marking.specs.Marks.{kept_count, marks_of, end_marks, mark_answer}
use Rattle.marking.specs.Inner.Passes.{sum, Sound, Settled, ParentsFit, PairsFit, end_first}
use Rattle.marking.proofs.Tests.{and-out}
use Rattle.marking.proofs.Graphs.{WellFormed, well-formed}
use Rattle.marking.proofs.Settled.{settled-marks}

-- ---- an input that is taken

pub record Taken (g : Graph) (n : ℕ) : Type 0 where
  pub form : WellFormed g
  pub long : n ≡ size g

pub taken : (g : Graph) (n : ℕ) → takes g n ≡ true → Taken g n
unfolding takes
taken g n e = let a = and-out _ _ e in record { form = well-formed g a.1; long = eqb-true _ _ a.0 }

-- what the calls in `mark` ask
pub parents-fit : (g : Graph) (m : List ℕ) → WellFormed g → Sound g m → ParentsFit g.parents m
parents-fit g m v s = record { long = s.long; fit = v.parents-fit }

pub pairs-fit : (g : Graph) (m : List ℕ) → WellFormed g → Sound g m → PairsFit g.pairs m
unfolding references
pairs-fit g m v s = rw s.long v.pairs-fit

sum-three : (m : List ℕ) → ((i : ℕ) → get_or m i 0 ≤ 3) → sum m ≤ 3 * length m
unfolding sum
sum-three [] f = omega arith
sum-three (x ∷ m) f = omega (arith, sum-three m (λ i. f (suc i)), f 0)

pub sound-sum : (g : Graph) (m : List ℕ) → Sound g m → sum m ≤ 3 * size g
sound-sum g m s = omega (arith, sum-three m s.most, s.long)

-- ---- what `mark` ensures

pub refused-answer : (g : Graph) (n : ℕ) → takes g n ≡ false → Err 16 ≡ mark_answer g n
unfolding mark_answer pick
refused-answer g n e = rw e

pub refused-marks : (g : Graph) (n : ℕ) (m : List ℕ) → takes g n ≡ false → m ≡ replicate n 0 → m ≡ end_marks g n
unfolding end_marks pick
refused-marks g n m e h = rw e h

module _ (g : Graph) (n : ℕ) (m m' : List ℕ) (t : takes g n ≡ true) (s : Sound g m) (q : Settled g.parents g.pairs m) (e : m' ≡ end_first g.pairs m) where
  made : m' ≡ marks_of g
  made = e ∙ settled-marks g (taken g n t).form m s q

  pub marked-marks : m' ≡ end_marks g n
  unfolding end_marks pick
  marked-marks = rw t made

  pub marked-answer : (k : ℕ) → k ≡ kept_count m' → Ok k ≡ mark_answer g n
  unfolding mark_answer pick
  marked-answer k h = rw t (ap Ok (h ∙ ap kept_count made))
