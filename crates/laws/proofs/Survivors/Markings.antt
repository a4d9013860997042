-- Single markings mark survivors, and all of them when none is accepted any more.
use Prim.Native.Nat.{ℕ, ◌<◌}
use mathlib.Core.Path.{◌≡◌, refl}
use mathlib.Core.List.{List, [], ◌∷◌}
use mathlib.Core.Bool.{Bool, true, false, false≢true}
use mathlib.Core.Logic.{⊎_elim}
use lib.Dec.{eqb}
use borrow.Author.Tests.{ltb-true, eqb-true, not-true, lt-ltb}
use Rattle.readers.specs.Choice.{pick, ◌and◌, ◌or◌}
use Rattle.marking.specs.Graph.{Graph, size}
use Rattle.marking.specs.Survivors.{Survivor}
use Rattle.laws.specs.Markings.{accepts, step, run, nothing, MarksSurvivors}
use Rattle.marking.proofs.Tests.{and-out, or-out, by-false, by-true, not-both}
use Rattle.marking.proofs.Graphs.{WellFormed}
use Rattle.marking.proofs.Survivors.{kept-least}
use Rattle.marking.proofs.Markings.{Reason, reason-in, reason_kept, reason-out, reasons-closed}

-- ---- one marking, and a list of them

record Accepted (g : Graph) (m : ℕ → Bool) (i : ℕ) : Type 0 where
  inside : i < size g
  unmarked : m i ≡ false
  reason : Reason g m i

accepts-out : (g : Graph) (m : ℕ → Bool) (i : ℕ) → accepts g m i ≡ true → Accepted g m i
unfolding accepts
accepts-out g m i e =
    let a = and-out _ _ e in
    let b = and-out _ _ a.1 in
    record { inside = ltb-true i (size g) a.0; unmarked = not-true (m i) b.0; reason = reason-out g m i b.1 }

accepts-in : (g : Graph) → WellFormed g → (m : ℕ → Bool) (i : ℕ) → Accepted g m i → accepts g m i ≡ true
unfolding accepts ◌and◌
accepts-in g v m i a = rw (lt-ltb i (size g) a.inside, a.unmarked, reason-in g v m i a.reason)

step_kept : (g : Graph) (m : ℕ → Bool) (i : ℕ) → ((j : ℕ) → m j ≡ true → Survivor g j) → (j : ℕ) → step g m i j ≡ true → Survivor g j
unfolding step pick
step_kept g m i s j e = go (accepts g m i) refl e
  where
    go : (b : Bool) → accepts g m i ≡ b → pick b (λ k. eqb k i or m k) m j ≡ true → Survivor g j
    go true a e = ⊎_elim (λ q. let w = accepts-out g m i a in rw (eqb-true j i q) (reason_kept g m s i w.inside w.reason)) (λ q. s j q) (or-out (eqb j i) (m j) e)
    go false a e = s j e

run-kept : (g : Graph) (m : ℕ → Bool) (is : List ℕ) → ((j : ℕ) → m j ≡ true → Survivor g j) → (j : ℕ) → run g m is j ≡ true → Survivor g j
unfolding run
run-kept g m [] s j e = s j e
run-kept g m (i ∷ is) s j e = run-kept g (step g m i) is (step_kept g m i s) j e

-- whatever marks only survivors marks all of them exactly when every marking would be refused
marks-survivors : (g : Graph) → WellFormed g → (m : ℕ → Bool) → ((i : ℕ) → m i ≡ true → Survivor g i) → MarksSurvivors g m
marks-survivors g v m only = record {
  only = only;
  all = (
    λ all i. by-true _ (λ e. let w = accepts-out g m i e in not-both (all i (reason_kept g m only i w.inside w.reason)) w.unmarked),
    λ none. kept-least g (λ i. m i ≡ true) (reasons-closed g v m (λ i h r. by-false _ (λ un. not-both (accepts-in g v m i (record { inside = h; unmarked = un; reason = r })) (none i)))),
  );
}

pub run-survivors : (g : Graph) → WellFormed g → (is : List ℕ) → MarksSurvivors g (run g nothing is)
unfolding nothing
run-survivors g v is = marks-survivors g v (run g nothing is) (run-kept g nothing is (λ j e. absurd (false≢true e)))
