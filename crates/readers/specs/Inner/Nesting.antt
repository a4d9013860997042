-- The parents column along the open entries.
use Rattle.std.specs.Prelude.{◌≡◌, ℕ, List, [], ◌∷◌, get_or}
use Rattle.readers.specs.Nesting.{no_parent, top}

-- each open entry's parent is the next open one, or none
unfoldable pub Chain : List ℕ → List ℕ → Type 0
Chain parents [] = Unit {0}
Chain parents (k ∷ stack) = (get_or parents k no_parent ≡ top stack) × Chain parents stack
