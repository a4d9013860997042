-- The attributes of one name among those of an entry.
use Rattle.std.specs.Prelude.{◌≡◌, ℕ, ◌≤◌, ◌<◌, List, [], ◌∷◌, length, eqb, None, Option, Some}
use Rattle.readers.specs.Choice.{pick}
use Rattle.readers.specs.EntryAttributes.{Valued, entry_values}
use Rattle.readers.specs.declared.cursor.Encoding.{Encoding}
use Rattle.readers.specs.declared.entry_attributes.EntryAttribute.{EntryAttribute}
use Rattle.marking.specs.Inner.ReferenceTable.{valued_by}

unfoldable pub of_name : ℕ → List Valued → List Valued
of_name name [] = []
of_name name (a ∷ rest) = pick (eqb a.name name) (a ∷ of_name name rest) (of_name name rest)

module _ (e : Encoding) (s : List ℕ) (p : ℕ) (unit : List ℕ) (at name : ℕ) where
  -- the first of them from a place on, and how far its specification comes
  pub record FirstNamed (x : EntryAttribute) : Type 0 where
    pub named : x.name ≡ name
    pub all : of_name name (entry_values e s p unit at) ≡ valued_by x ∷ of_name name (entry_values e s x.next.at unit x.values.at)
    pub ahead : p < x.next.at
    pub inside : x.next.at ≤ length s

  -- as the code answers it
  unfoldable pub NamedAt : Option EntryAttribute → Type 0
  NamedAt None = of_name name (entry_values e s p unit at) ≡ []
  NamedAt (Some x) = FirstNamed x
