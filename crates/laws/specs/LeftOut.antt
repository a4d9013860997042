-- What is kept of a unit, by the marks of its rows, and what is left out of it: the items that are not kept.
use Rattle.std.specs.Prelude.{ℕ, suc, ◌+◌, Bool, not, List, [], ◌∷◌, length}
use Rattle.marking.specs.Analysis.{Sections, EntryRow}
use Rattle.marking.specs.Marks.{is_kept}
use Rattle.marking.specs.Resolution.{marks_in}
use Rattle.readers.specs.Stream.{Item, entry, terminator}
use Rattle.readers.specs.Nesting.{opened, closed}
use Rattle.rewriting.specs.Places.{NestedItem, innermost, with_if, kept_from, size_of}
use Rattle.rewriting.specs.Rewriting.{Unit as Unit', items_in}

abbrev pub survivors_in : Sections → Unit' → List EntryRow → List NestedItem
survivors_in x u rows = kept_from (marks_in rows) 0 [] (items_in x u)

unfoldable pub left_from : List ℕ → ℕ → List Bool → List Item → List NestedItem
left_from marks k stack [] = []
left_from marks k stack (entry x ∷ rest) =
    with_if (not (is_kept marks k)) (record { item = entry x; depth = length stack })
    (left_from marks (suc k) (opened x.declaration.children (is_kept marks k) stack) rest)
left_from marks k stack (terminator a b ∷ rest) =
    with_if (not (innermost stack)) (record { item = terminator a b; depth = length stack }) (left_from marks k (closed stack) rest)

-- the sizes of items together
unfoldable pub sizes_of : List Item → ℕ
sizes_of [] = 0
sizes_of (i ∷ rest) = size_of i + sizes_of rest
