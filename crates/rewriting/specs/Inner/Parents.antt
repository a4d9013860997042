-- The parents of a unit's entries, and the column that holds them.
use Rattle.std.specs.Prelude.{ℕ, suc, ◌≡◌, List, [], ◌∷◌, get_or}
use Rattle.readers.specs.Nesting.{no_parent, opened, closed, top}
use Rattle.readers.specs.Stream.{Item, entry, terminator}

-- the parent of each entry from number k on, no_parent for none; these are open, the innermost first
unfoldable pub parents_from : ℕ → List ℕ → List Item → List ℕ
parents_from k stack [] = []
parents_from k stack (entry x ∷ rest) =
    top stack ∷ parents_from (suc k) (opened x.declaration.children k stack) rest
parents_from k stack (terminator a b ∷ rest) = parents_from k (closed stack) rest

-- a column holds these numbers from index k on
unfoldable pub HoldsFrom : List ℕ → ℕ → List ℕ → Type 0
HoldsFrom column k [] = Unit {0}
HoldsFrom column k (x ∷ xs) = (get_or column k no_parent ≡ x) × HoldsFrom column (suc k) xs
