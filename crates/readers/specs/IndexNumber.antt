-- The number of each index list, as `list_form` has it.
use Rattle.std.specs.Prelude.{ℕ, Bool, true, false, eqb, ◌≡◌, refl, Option, Some, None}
use Rattle.readers.specs.declared.attributes.IndexKind.{IndexKind}
use Rattle.readers.specs.declared.attributes.IndexKind.TheVariants.{Ranges, Locations, Strings}

abbrev pub list_number : Option IndexKind → ℕ
list_number (Some Ranges) = 0
list_number (Some Locations) = 1
list_number (Some Strings) = 2
list_number None = 3

abbrev either : Bool → Option IndexKind → Option IndexKind → Option IndexKind
either true a b = a
either false a b = b

-- back from the number
abbrev pub list_numbered : ℕ → Option IndexKind
list_numbered n = either (eqb n 0) (Some Ranges) (either (eqb n 1) (Some Locations) (either (eqb n 2) (Some Strings) None))

pub list_numbered-list_number : (o : Option IndexKind) → list_numbered (list_number o) ≡ o
list_numbered-list_number (Some Ranges) = refl
list_numbered-list_number (Some Locations) = refl
list_numbered-list_number (Some Strings) = refl
list_numbered-list_number None = refl
