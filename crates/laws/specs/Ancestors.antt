-- The open entries around each item (DWARF 5, 2.3), by their offsets, the innermost first: the first is the parent. And how they go over into new ones.
use Rattle.std.specs.Prelude.{ℕ, List, [], ◌∷◌}
use Rattle.readers.specs.Nesting.{opened, closed}
use Rattle.readers.specs.Stream.{Item, entry, terminator}

unfoldable pub ancestors_from : List ℕ → List Item → List (List ℕ)
ancestors_from stack [] = []
ancestors_from stack (entry x ∷ rest) = stack ∷ ancestors_from (opened x.declaration.children x.offset.0 stack) rest
ancestors_from stack (terminator a b ∷ rest) = stack ∷ ancestors_from (closed stack) rest
