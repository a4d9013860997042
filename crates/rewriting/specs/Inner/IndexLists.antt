-- What the functions of the index lists answer.
use Rattle.std.specs.Prelude.{◌≡◌, ℕ, Bool, false, List, [], ◌∷◌, ◌++◌, length, drop, eqb, None, Option, Some}
use Rattle.readers.specs.Choice.{pick, zeros}
use Rattle.readers.specs.Layout.{RunOf, read_in}
use Rattle.readers.specs.Expression.{expression_in}
use Rattle.readers.specs.Entries.{entry_layout}
use Rattle.readers.specs.Forms.{use_of}
use Rattle.readers.specs.Abbreviations.{abbreviations_of, declared_in, find_at}
use Rattle.readers.specs.Stream.{Item}
use Rattle.readers.specs.declared.attributes.Attribute.{Attribute}
use Rattle.readers.specs.EntryAttributes.{Valued}
use Rattle.marking.specs.Analysis.{Sections}
use Rattle.rewriting.specs.Indices.{insert_all}
use Rattle.rewriting.specs.Rewriting.{Unit as Unit', any_declares, indices_from}
use Rattle.rewriting.specs.Places.{NestedItem, kept_from, offset_of}
use Rattle.rewriting.specs.Inner.Parents.{parents_from, HoldsFrom}
use Rattle.rewriting.specs.Inner.Ends.{EndsHeld}
use Rattle.rewriting.specs.Inner.NextKept.{items_by}
use Rattle.rewriting.specs.Inner.Written.{ListHeld}
use Rattle.rewriting.specs.Inner.Gathering.{Gathered, Filled}
use Rattle.rewriting.specs.declared.kept_items.Reading.{Reading}
use Rattle.readers.specs.Inner.Forms.{use_list}

-- ---- the list of a number: 0 ranges, 1 locations, 2 strings; 3 for what is no index

-- by its form alone
unfoldable pub form_list : ℕ → ℕ
form_list f = use_list (use_of 0 f)

-- ---- the indices of an entry, by its attributes

-- a value of kind i, among those of kind k
abbrev pub kind_index : ℕ → ℕ → ℕ → List ℕ
kind_index k i v = pick (eqb i k) (v ∷ []) []

unfoldable pub value_index : ℕ → Attribute → List ℕ
value_index k v = kind_index k (form_list v.form) v.field.value

unfoldable pub value_indices : ℕ → List Valued → List ℕ
value_indices k [] = []
value_indices k (a ∷ rest) = value_index k a.value ++ value_indices k rest

-- ---- a unit as the code reads it

pub record ReadAs (x : Sections) (u : Unit') (r : Reading) (abbreviations unit : List ℕ) : Type 0 where
  pub abbreviations_are : x.abbreviations ≡ abbreviations
  pub bytes_are : u.bytes ≡ unit
  pub encoding_is : u.header.encoding ≡ r.encoding
  pub declared_are : abbreviations_of abbreviations r.from ≡ Some u.declared

-- its declarations are found as the code finds them
abbrev pub TablesFound : Unit' → Reading → List ℕ → List ℕ → Type 0
TablesFound u r abbreviations table = (code : ℕ) → find_at abbreviations r.from table code ≡ declared_in u.declared code

module _ (x : Sections) (u : Unit') where
  -- what stands at a place can be read, its expressions operation by operation
  pub record ReadDeep (at : ℕ) : Type 0 where
    pub run : RunOf
    pub is : read_in u.header.encoding.big_endian (expression_in u.header.encoding)
        (entry_layout u.header.encoding x.abbreviations (declared_in u.declared)) (drop at u.bytes)
        ≡ Some run

  unfoldable pub AllRead : List NestedItem → Type 0
  AllRead [] = Unit {0}
  AllRead (s ∷ rest) = ReadDeep (offset_of s.item) × AllRead rest

-- what a pass through the kept items of a unit asks for: its parents and ends, each kept item readable
pub record PassInput (x : Sections) (u : Unit') (r : Reading) (abbreviations table unit parents ends marks : List ℕ)
    (first : ℕ) : Type 0 where
  pub read : ReadAs x u r abbreviations unit
  pub found : TablesFound u r abbreviations table
  pub holds : HoldsFrom parents 0 (parents_from 0 [] (items_by r abbreviations table unit first))
  pub ends_hold : EndsHeld ends 0 (items_by r abbreviations table unit first)
  pub deep : AllRead x u (kept_from marks 0 [] (items_by r abbreviations table unit first))

-- ---- one list

-- what a pass puts into the list of a kind
abbrev pub Puts : ℕ → Reading → List ℕ → List ℕ → List ℕ → List ℕ → List ℕ → List ℕ → ℕ → List ℕ → ℕ → List ℕ
    → Type 0
Puts k r abbreviations table unit parents ends marks first list count after =
    (x : Sections) (u : Unit') → PassInput x u r abbreviations table unit parents ends marks first → ListHeld [] list
    → Gathered (indices_from x u k (kept_from marks 0 [] (items_by r abbreviations table unit first))) after count

-- what the list of a kind is at the end
abbrev pub Listing : ℕ → Reading → List ℕ → List ℕ → List ℕ → List ℕ → List ℕ → List ℕ → ℕ → List ℕ → ℕ → List ℕ
    → Type 0
Listing k r abbreviations table unit parents ends marks first list count after =
    (x : Sections) (u : Unit') → PassInput x u r abbreviations table unit parents ends marks first → ListHeld [] list
    → Filled (insert_all (indices_from x u k (kept_from marks 0 [] (items_by r abbreviations table unit first))) [])
    list count after

-- where an entry declares the attribute of a name; a list without such an attribute has the name 0
unfoldable pub is_absent : Sections → Unit' → ℕ → List Item → Bool
is_absent x u name items = pick (eqb name 0) false (any_declares x u name items)

unfoldable pub ListAnswer : Option (List ℕ) → List ℕ → Option ℕ → List ℕ → Type 0
ListAnswer None list None after = after ≡ list
ListAnswer None list (Some n) after = ⊥
ListAnswer (Some ys) list None after = ⊥
ListAnswer (Some ys) list (Some n) after = Filled ys list n after

-- what is answered for a list that was gathered into zeros: absent, and zeros again, or its count
abbrev pub Settles : Reading → List ℕ → List ℕ → List ℕ → ℕ → ℕ → ℕ → List ℕ → Option ℕ → List ℕ → Type 0
Settles r abbreviations table unit first name count list c after =
    (x : Sections) (u : Unit') (ys list₀ : List ℕ) → ReadAs x u r abbreviations unit → TablesFound u r abbreviations table
    → list₀ ≡ zeros (length list) → Filled ys list₀ count list
    → ListAnswer (pick (is_absent x u name (items_by r abbreviations table unit first)) None (Some ys)) list₀ c after
