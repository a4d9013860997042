-- The map, by its places; items that take some bytes.
use Rattle.std.specs.Prelude.{ℕ, ◌<◌, ◌≡◌, List}
use Rattle.readers.specs.Stream.{Item}
use Rattle.rewriting.specs.Places.{NestedItem, Place, size_of}
use Rattle.marking.specs.Members.{Member}

-- a map leads from v to n: a place in it has the old offset v and the new offset n
pub record MappedTo (map : List Place) (v n : ℕ) : Type 0 where
  pub place : Place
  pub within : Member place map
  pub old : place.old ≡ v
  pub new : place.new ≡ n

-- every item takes some bytes
abbrev pub Sized : List Item → Type 0
Sized items = (i : Item) → Member i items → 0 < size_of i

abbrev pub KeptSized : List NestedItem → Type 0
KeptSized kept = (s : NestedItem) → Member s kept → 0 < size_of s.item
