-- What is kept of a unit, and where it comes to stand (document 01, "Rewriting"): "each kept entry and each terminator of
-- a kept parent is written at its own width".
use Rattle.std.specs.Prelude.{ℕ, suc, ◌+◌, ◌-◌, Bool, true, false, List, [], ◌∷◌, length, leb, eqb, None, Option, Some}
use Rattle.readers.specs.Choice.{pick, ◌and◌}
use Rattle.marking.specs.Marks.{is_kept}
use Rattle.readers.specs.Nesting.{opened, closed}
use Rattle.readers.specs.Stream.{Item, entry, terminator}

-- an item, and how deep it stands: how many entries are open around it
pub record NestedItem : Type 0 where
  pub item : Item
  pub depth : ℕ

-- whether the innermost open entry is kept: a terminator that closes nothing is left out
unfoldable pub innermost : List Bool → Bool
innermost [] = false
innermost (b ∷ stack) = b

unfoldable pub with_if : Bool → NestedItem → List NestedItem → List NestedItem
with_if true x xs = x ∷ xs
with_if false x xs = xs

-- the kept items, by the marks of the entries from number k on; the stack: whether each open entry is kept
unfoldable pub kept_from : List ℕ → ℕ → List Bool → List Item → List NestedItem
kept_from marks k stack [] = []
kept_from marks k stack (entry x ∷ rest) =
    with_if (is_kept marks k) (record { item = entry x; depth = length stack })
    (kept_from marks (suc k) (opened x.declaration.children (is_kept marks k) stack) rest)
kept_from marks k stack (terminator a b ∷ rest) =
    with_if (innermost stack) (record { item = terminator a b; depth = length stack }) (kept_from marks k (closed stack) rest)

unfoldable pub offset_of : Item → ℕ
offset_of (entry x) = x.offset.0
offset_of (terminator a b) = a

unfoldable pub size_of : Item → ℕ
size_of (entry x) = x.next.at - x.offset.0
size_of (terminator a b) = b - a

-- ---- the map

-- "The map holds old offset, new offset and depth; a terminator has its children's depth."
pub record Place : Type 0 where
  pub old : ℕ
  pub new : ℕ
  pub depth : ℕ

unfoldable pub places_from : ℕ → List NestedItem → List Place
places_from new [] = []
places_from new (x ∷ xs) = record { old = offset_of x.item; new = new; depth = x.depth } ∷ places_from (new + size_of x.item) xs

unfoldable pub size_from : List NestedItem → ℕ
size_from [] = 0
size_from (x ∷ xs) = size_of x.item + size_from xs

-- the new offset of an old one that is in the map
unfoldable pub new_of : List Place → ℕ → Option ℕ
new_of [] v = None
new_of (p ∷ ps) v = pick (eqb p.old v) (Some p.new) (new_of ps v)

-- the first place at or after an old offset that is no deeper than so
unfoldable pub first_from : List Place → ℕ → ℕ → Option ℕ
first_from [] depth v = None
first_from (p ∷ ps) depth v = pick (leb v p.old and leb p.depth depth) (Some p.new) (first_from ps depth v)

unfoldable pub or_else : Option ℕ → Option ℕ → Option ℕ
or_else None b = b
or_else (Some v) b = Some v

-- "A sibling whose target isn't in the map gets the first mapped place at or after it that is no deeper than the sibling's owner."
unfoldable pub sibling_of : List Place → ℕ → ℕ → Option ℕ
sibling_of map depth v = or_else (new_of map v) (first_from map depth v)

unfoldable pub old_offsets : List Place → List ℕ
old_offsets [] = []
old_offsets (p ∷ ps) = p.old ∷ old_offsets ps
