-- The laws of demand 3 about survivors, markings and marks.
-- All that a law assumes is `well_formed g ≡ true`: what `mark` asks of parents, pairs and roots (`taken-law`). The first law assumes nothing.
use Prim.Native.Nat.{ℕ, ◌<◌}
use mathlib.Core.Path.{◌≡◌}
use mathlib.Core.List.{List}
use mathlib.Core.Bool.{true}
use mathlib.Core.Logic.{◌↔◌}
use lib.ListN.{get_or}
use borrow.Author.Tests.{eqb-true}
use Rattle.marking.specs.Below.{Number}
use Rattle.marking.specs.Graph.{Graph, size, well_formed, takes}
use Rattle.marking.specs.Survivors.{Descendant, Survivor, Least}
use Rattle.marking.specs.Markings.{is_descendant}
use Rattle.laws.specs.Markings.{run, nothing, MarksSurvivors}
use Rattle.marking.specs.Marks.{marks_of, kept_count}
use Rattle.laws.specs.Marks.{Says}
use Rattle.marking.proofs.Tests.{and-out}
use Rattle.marking.proofs.Graphs.{well-formed}
use Rattle.marking.proofs.Survivors.{kept-closed, kept-least, kept-inside}
use Rattle.marking.proofs.Markings.{descendant-out, descendant-in}
use Rattle.laws.proofs.Survivors.Markings.{run-survivors}
use Rattle.laws.proofs.Survivors.Letters.{mark-says, count-is}

-- what `mark` takes is well formed, with a mark for each entry
pub taken-law : (g : Graph) (n : ℕ) → takes g n ≡ true → (n ≡ size g) × (well_formed g ≡ true)
unfolding takes
taken-law g n e = let a = and-out _ _ e in (eqb-true _ _ a.0, a.1)

-- "survivors are the least set holding .. every other set like that contains it"
pub survivors-law : (g : Graph) → Least g (Survivor g)
survivors-law g = record { closed = kept-closed g; least = kept-least g }

-- they are entries
pub survivors-inside : (g : Graph) → well_formed g ≡ true → (i : ℕ) → Survivor g i → i < size g
survivors-inside g w = kept-inside g (well-formed g w)

-- the test of descendants says what they are
pub descendants-law : (g : Graph) → well_formed g ≡ true → (r d : ℕ) → (is_descendant g r d ≡ true) ↔ Descendant g r d
descendants-law g w r d = (descendant-out g r d, descendant-in g (well-formed g w) r d)

-- "for every list of single markings, refused ones included, in any order from nothing marked"
pub markings-law : (g : Graph) → well_formed g ≡ true → (is : List ℕ) → MarksSurvivors g (run g nothing is)
markings-law g w = run-survivors g (well-formed g w)

-- each entry has one mark, and it is the right one
pub marks-law : (g : Graph) → well_formed g ≡ true → (i : ℕ) → i < size g → Says g i (get_or (marks_of g) i 0)
marks-law g w = mark-says g (well-formed g w)

-- "the kept count is the number of survivors"
pub kept-count-law : (g : Graph) → well_formed g ≡ true → Number (Survivor g) (size g) (kept_count (marks_of g))
kept-count-law g w = count-is g (well-formed g w)
