-- What the passes of `mark` over the marks do, for every graph with the numbers that they look at.
use Rattle.std.specs.Prelude.{ℕ, ◌+◌, ◌*◌, ◌/◌, ◌≤◌, ◌<◌, ◌≡◌, List, [], ◌∷◌, Bool, true, false, length, get_or, set, eqb, leb}
use Rattle.readers.specs.Choice.{pick, ◌and◌}
use Rattle.marking.specs.Below.{any, every}
use Rattle.readers.specs.Nesting.{no_parent}
use Rattle.marking.specs.Graph.{Graph, size, is_root, parent_fits, pair_fits}
use Rattle.marking.specs.Survivors.{Survivor, Live}

unfoldable pub sum : List ℕ → ℕ
sum [] = 0
sum (x ∷ xs) = x + sum xs

-- marks on the way: each says no more than is so, and the first entry and the roots have theirs
pub record Sound (g : Graph) (m : List ℕ) : Type 0 where
  pub long : length m ≡ size g
  pub most : (i : ℕ) → get_or m i 0 ≤ 3
  pub least : (i : ℕ) → i < size g → 1 ≤ get_or m i 0
  pub kept : (i : ℕ) → 2 ≤ get_or m i 0 → Survivor g i
  pub live : (i : ℕ) → 3 ≤ get_or m i 0 → Live g i
  pub roots : (i : ℕ) → is_root g i ≡ true → 3 ≤ get_or m i 0
  pub first : 0 < size g → 2 ≤ get_or m 0 0

-- from the marks m to the marks m', for the graphs of which On holds
pub record Spread (On : Graph → Type 0) (m m' : List ℕ) : Type 0 where
  pub sound : (g : Graph) → On g → Sound g m → Sound g m'

-- the same, where r says whether a mark rose; if none did, Done holds
pub record Pass (On : Graph → Type 0) (Done : Type 0) (m m' : List ℕ) (r : Bool) : Type 0 where
  pub spread : Spread On m m'
  pub more : r ≡ true → sum m < sum m'
  pub same : r ≡ false → m' ≡ m
  pub done : r ≡ false → Done

-- entry t got the mark v where entry s has l at least and its own was lower; r says whether
pub record Raised (m m' : List ℕ) (s l t v : ℕ) (r : Bool) : Type 0 where
  pub rose : r ≡ true → (l ≤ get_or m s 0) × (get_or m t 0 < v) × (m' ≡ set m t v)
  pub same : r ≡ false → m' ≡ m
  pub done : r ≡ false → l ≤ get_or m s 0 → v ≤ get_or m t 0

abbrev pub WithParents : List ℕ → Graph → Type 0
WithParents ps g = g.parents ≡ ps

abbrev pub WithPairs : List ℕ → Graph → Type 0
WithPairs rs g = g.pairs ≡ rs

abbrev pub WithBoth : List ℕ → List ℕ → Graph → Type 0
WithBoth ps rs g = (g.parents ≡ ps) × (g.pairs ≡ rs)

-- entry i is live where its parent is
unfoldable pub DownAt : List ℕ → List ℕ → ℕ → Type 0
DownAt ps m i = (get_or ps i 0 ≡ no_parent → ⊥) → 3 ≤ get_or m (get_or ps i 0) 0 → 3 ≤ get_or m i 0

-- what reference j names is live where its holder is kept
unfoldable pub AlongAt : List ℕ → List ℕ → ℕ → Type 0
AlongAt rs m j = 2 ≤ get_or m (get_or rs (2 * j) 0) 0 → 3 ≤ get_or m (get_or rs (2 * j + 1) 0) 0

-- the parent of entry i is kept where i is
unfoldable pub UpAt : List ℕ → List ℕ → ℕ → Type 0
UpAt ps m i = (get_or ps i 0 ≡ no_parent → ⊥) → 2 ≤ get_or m i 0 → 2 ≤ get_or m (get_or ps i 0) 0

abbrev pub Down : List ℕ → List ℕ → Type 0
Down ps m = (i : ℕ) → i < length ps → DownAt ps m i

abbrev pub Along : List ℕ → List ℕ → Type 0
Along rs m = (j : ℕ) → j < length rs / 2 → AlongAt rs m j

abbrev pub Up : List ℕ → List ℕ → Type 0
Up ps m = (i : ℕ) → i < length ps → UpAt ps m i

-- no pass finds anything to do
pub record Settled (ps rs m : List ℕ) : Type 0 where
  pub down : Down ps m
  pub along : Along rs m
  pub up : Up ps m

-- what the passes ask of the numbers that they look at
pub record ParentsFit (ps m : List ℕ) : Type 0 where
  pub long : length m ≡ length ps
  pub fit : every (length ps) (parent_fits ps) ≡ true

abbrev pub PairsFit : List ℕ → List ℕ → Type 0
PairsFit rs m = every (length rs / 2) (pair_fits rs (length m)) ≡ true

-- the first mark of an entry: a root is live, even the first entry, which has its own mark only at the end
unfoldable pub start_mark : List ℕ → ℕ → ℕ
start_mark os i = pick (eqb (get_or os i 0) 1) 3 (pick (eqb i 0) 2 1)

-- reference j is of a kept entry and names the first one
unfoldable pub names_first_at : List ℕ → List ℕ → ℕ → Bool
names_first_at rs m j = leb 2 (get_or m (get_or rs (2 * j) 0) 0) and eqb (get_or rs (2 * j + 1) 0) 0

unfoldable pub names_first : List ℕ → List ℕ → Bool
names_first rs m = any (length rs / 2) (names_first_at rs m)

-- the marks with the first entry's own mark
unfoldable pub end_first : List ℕ → List ℕ → List ℕ
end_first rs [] = []
end_first rs (x ∷ m) = pick (names_first rs (x ∷ m)) 3 2 ∷ m
