-- A unit as `mark` is given it (document 01, "mark"): the entries are the numbers below `size`, in stream order.
use Rattle.std.specs.Prelude.{ℕ, ◌+◌, ◌*◌, ◌/◌, List, Bool, not, length, get_or, ltb, leb, eqb}
use Rattle.readers.specs.Choice.{◌and◌, ◌or◌}
use Rattle.readers.specs.Nesting.{no_parent}
use Rattle.marking.specs.Below.{any, every}

-- for each entry its parent; the references, two numbers each, the entry that holds it and the entry that it names; for
-- each entry 1 where it is a root, else 0
pub record Graph : Type 0 where
  pub parents : List ℕ
  pub pairs : List ℕ
  pub roots : List ℕ

abbrev pub graph : List ℕ → List ℕ → List ℕ → Graph
graph ps rs os = record { parents = ps; pairs = rs; roots = os }

abbrev pub size : Graph → ℕ
size g = length g.parents

-- p is the parent of i
unfoldable pub is_parent : Graph → ℕ → ℕ → Bool
is_parent g p i = ltb i (size g) and eqb (get_or g.parents i 0) p and not (eqb p no_parent)

unfoldable pub is_root : Graph → ℕ → Bool
is_root g i = ltb i (size g) and eqb (get_or g.roots i 0) 1

-- how many references there are: an odd last number counts for nothing
unfoldable pub references : Graph → ℕ
references g = length g.pairs / 2

-- the entry that holds reference j, and the one that it names
abbrev pub holder : Graph → ℕ → ℕ
holder g j = get_or g.pairs (2 * j) 0

abbrev pub target : Graph → ℕ → ℕ
target g j = get_or g.pairs (2 * j + 1) 0

-- a reference of s names t
unfoldable pub names : Graph → ℕ → ℕ → Bool
names g s t = any (references g) (λ j. eqb (holder g j) s and eqb (target g j) t)

-- ---- what `mark` takes

-- a parent is below its child
unfoldable pub parent_fits : List ℕ → ℕ → Bool
parent_fits ps i = eqb (get_or ps i 0) no_parent or ltb (get_or ps i 0) i

-- a pair stays in the tree of n entries
unfoldable pub pair_fits : List ℕ → ℕ → ℕ → Bool
pair_fits rs n j = ltb (get_or rs (2 * j) 0) n and ltb (get_or rs (2 * j + 1) 0) n

-- a root is 0 or 1
unfoldable pub root_fits : List ℕ → ℕ → Bool
root_fits os i = leb (get_or os i 0) 1

unfoldable pub well_formed : Graph → Bool
well_formed g =
    eqb (length g.roots) (size g)
    and every (size g) (parent_fits g.parents)
    and every (references g) (pair_fits g.pairs (size g))
    and every (size g) (root_fits g.roots)

-- with n marks: all else is 16
unfoldable pub takes : Graph → ℕ → Bool
takes g n = eqb n (size g) and well_formed g
