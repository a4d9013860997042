-- What a number that may change comes to where nothing is refused.
use Rattle.std.specs.Prelude.{ℕ, ◌≡◌, true, List}
use Rattle.readers.specs.Layout.{Encoded, Role, Fit}
use Rattle.rewriting.specs.Places.{Place}
use Rattle.rewriting.specs.Rewriting.{Lists, new_value, has_place}

-- it has a place, and its new value can be written as the old one was
pub record Lands (lists : Lists) (map : List Place) (depth : ℕ) (e : Encoded) (role : Role) (v : ℕ) : Type 0 where
  pub placed : has_place lists map depth role v ≡ true
  pub fit : Fit e (new_value lists map depth role v)
