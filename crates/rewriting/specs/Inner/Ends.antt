-- Where a unit's entries end, and the column that holds it.
use Rattle.std.specs.Prelude.{ℕ, suc, ◌+◌, ◌*◌, ◌≡◌, Bool, List, [], ◌∷◌, get_or}
use Rattle.readers.specs.Choice.{pick}
use Rattle.readers.specs.Stream.{Item, entry, terminator}

-- the place past an entry and whether it has children, as one number
unfoldable pub end_number : ℕ → Bool → ℕ
end_number end children = pick children (2 * end + 1) (2 * end)

-- a column holds those of the entries from index k on, and then 0 or nothing
unfoldable pub EndsHeld : List ℕ → ℕ → List Item → Type 0
EndsHeld column k [] = get_or column k 0 ≡ 0
EndsHeld column k (entry x ∷ rest) =
    (get_or column k 0 ≡ end_number x.next.at x.declaration.children) × EndsHeld column (suc k) rest
EndsHeld column k (terminator a b ∷ rest) = EndsHeld column k rest
