-- How many declarations there are, and their slots as they are gathered.
use Rattle.std.specs.Prelude.{ℕ, ◌≤◌, ◌<◌, ◌≡◌, List, ◌++◌, length, drop, None, Option, Some, Result, Ok, Err}
use Rattle.readers.specs.Codes.{DW_CHILDREN_yes, DW_FORM_implicit_const}
use Rattle.readers.specs.Scan.{Scanned}
use Rattle.readers.specs.declared.slots.Arranged.{Arranged}
use Rattle.readers.specs.declared.slots.Arranged.TheVariants.{Ascending, Repeated}
use Rattle.readers.specs.Abbreviations.{Placed, declarations_from, slots_of}

-- declarations whose codes ascend, or of which two have one code
unfoldable pub accepted : Arranged → Result (Unit {0}) ℕ
accepted Ascending = Ok tt
accepted Repeated = Err 3

-- how many there are
unfoldable pub count_of : Option (Scanned Placed ℕ) → Option ℕ
count_of None = None
count_of (Some r) = Some (length r.0)

-- from l to m the slots of the declarations are written, if there is room for them
abbrev pub Gathered : List ℕ → ℕ → List ℕ → List ℕ → Type 0
Gathered s at l m =
    (ds : List Placed) (e : ℕ) → declarations_from s at ≡ Some (ds, e) → length ds ≤ length l
    → m ≡ slots_of ds ++ drop (length ds) l

-- a name and a form of one byte each, of a specification with no value of its own
pub record PlainSpec (name form : ℕ) : Type 0 where
  pub named : name ≡ 0 → ⊥
  pub formed : form ≡ 0 → ⊥
  pub short_name : name < 128
  pub short_form : form < 128
  pub other : form ≡ DW_FORM_implicit_const → ⊥

-- a code and a tag of one byte each, and a children byte
pub record PlainHead (code tag children : ℕ) : Type 0 where
  pub coded : code ≡ 0 → ⊥
  pub tagged : tag ≡ 0 → ⊥
  pub short_code : code < 128
  pub short_tag : tag < 128
  pub known : children ≤ DW_CHILDREN_yes
