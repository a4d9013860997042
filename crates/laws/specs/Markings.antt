-- Single markings, one after another (document 01, "Marking"), and what demand 3 says of them.
use Rattle.std.specs.Prelude.{ℕ, ◌≡◌, List, [], ◌∷◌, Bool, true, false, not, ◌↔◌, ltb, eqb}
use Rattle.readers.specs.Choice.{pick, ◌and◌, ◌or◌}
use Rattle.marking.specs.Graph.{Graph, size}
use Rattle.marking.specs.Survivors.{Survivor}
use Rattle.marking.specs.Markings.{justified}

-- the marking of entry i: "where that is unmarked and is .. it becomes marked and the others stay as they were; else
-- the marking is refused and nothing changes"
unfoldable pub accepts : Graph → (ℕ → Bool) → ℕ → Bool
accepts g m i = ltb i (size g) and not (m i) and justified g m i

unfoldable pub step : Graph → (ℕ → Bool) → ℕ → ℕ → Bool
step g m i = pick (accepts g m i) (λ j. eqb j i or m j) m

-- a list of markings: "each starts from what the last one left"
unfoldable pub run : Graph → (ℕ → Bool) → List ℕ → ℕ → Bool
run g m [] = m
run g m (i ∷ is) = run g (step g m i) is

unfoldable pub nothing : ℕ → Bool
nothing i = false

-- demand 3 of what is marked: "only survivors are marked, and all of them exactly when every further marking would be refused"
pub record MarksSurvivors (g : Graph) (m : ℕ → Bool) : Type 0 where
  pub only : (i : ℕ) → m i ≡ true → Survivor g i
  pub all : ((i : ℕ) → Survivor g i → m i ≡ true) ↔ ((i : ℕ) → accepts g m i ≡ false)
