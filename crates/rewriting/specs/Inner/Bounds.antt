-- The table of bounds of the map's depths: two numbers for each eight places.
use Rattle.std.specs.Prelude.{ℕ, ◌+◌, ◌*◌, ◌≤◌, ◌<◌, List, length, get_or}
use Rattle.rewriting.specs.Places.{Place}
use Rattle.rewriting.specs.Inner.Written.{place}

-- the places from one to another are at least so deep
pub record AsDeep (ps : List Place) (depth from to : ℕ) : Type 0 where
  pub deep : (j : ℕ) → from ≤ j → j < to → j < length ps → depth ≤ (get_or ps j (place 0 0 0)).depth

-- of each block from k on: where it ends, in eights, and how deep its places are at least
pub record BoundsFrom (k : ℕ) (ps : List Place) (table : List ℕ) : Type 0 where
  pub block : (g : ℕ) → k ≤ g → AsDeep ps (get_or table (2 * g + 1) 0) (8 * g) (8 * get_or table (2 * g) 0)

abbrev pub Bounds : List Place → List ℕ → Type 0
Bounds ps table = BoundsFrom 0 ps table
