-- The entries open around kept items, before and after.
use Rattle.std.specs.Prelude.{ℕ, suc, ◌≡◌, Bool, List, [], ◌∷◌, Some}
use Rattle.readers.specs.Choice.{pick}
use Rattle.readers.specs.Nesting.{opened, closed}
use Rattle.readers.specs.Stream.{Item, entry, terminator}
use Rattle.marking.specs.Marks.{is_kept}
use Rattle.rewriting.specs.Places.{Place, innermost, new_of}

-- of the kept items alone, each as it stands among all of them
unfoldable pub kept_ancestors : List ℕ → ℕ → List Bool → List ℕ → List Item → List (List ℕ)
kept_ancestors marks k kept stack [] = []
kept_ancestors marks k kept stack (entry x ∷ rest) =
    pick (is_kept marks k)
    (stack ∷ kept_ancestors marks (suc k) (opened x.declaration.children (is_kept marks k) kept)
    (opened x.declaration.children x.offset.0 stack) rest)
    (kept_ancestors marks (suc k) (opened x.declaration.children (is_kept marks k) kept) (opened x.declaration.children x.offset.0 stack) rest)
kept_ancestors marks k kept stack (terminator a b ∷ rest) =
    pick (innermost kept) (stack ∷ kept_ancestors marks k (closed kept) (closed stack) rest) (kept_ancestors marks k (closed kept) (closed stack) rest)

-- old offsets, and the new ones that a map leads them to, one by one
unfoldable pub MapTo : List Place → List ℕ → List ℕ → Type 0
MapTo map [] [] = Unit {0}
MapTo map [] (n ∷ ns) = ⊥
MapTo map (v ∷ vs) [] = ⊥
MapTo map (v ∷ vs) (n ∷ ns) = (new_of map v ≡ Some n) × MapTo map vs ns

unfoldable pub AllMapTo : List Place → List (List ℕ) → List (List ℕ) → Type 0
AllMapTo map [] [] = Unit {0}
AllMapTo map [] (n ∷ ns) = ⊥
AllMapTo map (v ∷ vs) [] = ⊥
AllMapTo map (v ∷ vs) (n ∷ ns) = MapTo map v n × AllMapTo map vs ns
