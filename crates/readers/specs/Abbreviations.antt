-- Abbreviation declarations (DWARF 5, 7.5.3; document 01, "Readers": tag, name and form nonzero, within 16 bits and
-- at most three bytes each, children byte 0 or 1, no code twice, the list closed by code 0).
use Rattle.std.specs.Prelude.{ℕ, ◌+◌, ◌-◌, Bool, true, false, not, List, [], ◌∷◌, ◌++◌, length, drop, get_or, ltb, leb, eqb}
use Rattle.std.specs.Prelude.{None, Option, Some, Result, Ok, Err}
use Rattle.readers.specs.declared.abbreviations.DeclarationStep.{DeclarationStep}
use Rattle.readers.specs.declared.abbreviations.SpecStep.{SpecStep}
use Rattle.readers.specs.Choice.{pick, check, bind, ◌and◌, zeros}
use Rattle.readers.specs.Codes.{DW_CHILDREN_yes, DW_FORM_implicit_const}
use Rattle.readers.specs.Numbers.{uleb, sleb}
use Rattle.readers.specs.Layout.{short}
use Rattle.readers.specs.Scan.{Turn, more, stop, bad, Scanned, scan}
use Rattle.readers.specs.Cursors.{cursor, leb_at, fixed_at}
use Rattle.readers.specs.Slots.{slot_code, slot_of}
use Rattle.readers.specs.declared.cursor.Cursor.{Cursor}
use Rattle.readers.specs.declared.abbreviations.AttributeSpec.{AttributeSpec}
use Rattle.readers.specs.declared.abbreviations.SpecStep.TheVariants.{Attribute, Last as LastSpec}
use Rattle.readers.specs.declared.abbreviations.Declaration.{Declaration}
use Rattle.readers.specs.declared.abbreviations.DeclarationStep.TheVariants.{Declaration as Declared, Last}

-- ---- attribute specifications

unfoldable pub number_spec : Option (ℕ × Cursor) → (ℕ → ℕ → Option SpecStep) → Option SpecStep
number_spec (Some (v, c)) k = k v c.at
number_spec None k = None

-- implicit_const has its value in the declaration
unfoldable pub implicit_spec : List ℕ → ℕ → ℕ → ℕ → Option SpecStep
implicit_spec s name form at =
    pick (eqb form DW_FORM_implicit_const)
    (number_spec (leb_at sleb s at) (λ v next.
    Some (Attribute (record { name = name; form = form; implicit = v; next = cursor next }))))
    (Some (Attribute (record { name = name; form = form; implicit = 0; next = cursor at })))

-- a name and a form; both 0 close the list
unfoldable pub spec_at : List ℕ → ℕ → Option SpecStep
spec_at s at =
    number_spec (leb_at short s at) (λ name after_name.
    number_spec (leb_at short s after_name) (λ form after_form.
    pick (eqb name 0)
    (pick (eqb form 0) (Some (LastSpec (cursor after_form))) None)
    (pick (eqb form 0) None (implicit_spec s name form after_form))))

unfoldable pub spec_turn : Option SpecStep → Turn AttributeSpec ℕ
spec_turn (Some (Attribute a)) = more a a.next.at
spec_turn (Some (LastSpec c)) = stop c.at
spec_turn None = bad

-- the attribute specifications from a place on, and the place past the pair that closes them
unfoldable pub attributes_from : List ℕ → ℕ → Option (Scanned AttributeSpec ℕ)
attributes_from s at = scan (length s) (λ n. spec_turn (spec_at s n)) at

unfoldable pub scanned_to : Option (Scanned AttributeSpec ℕ) → Option Cursor
scanned_to None = None
scanned_to (Some r) = Some (cursor r.1)

unfoldable pub past_attributes : List ℕ → ℕ → Option Cursor
past_attributes s at = scanned_to (attributes_from s at)

-- ---- declarations

unfoldable pub number_declaration : Option (ℕ × Cursor) → (ℕ → ℕ → Option DeclarationStep) → Option DeclarationStep
number_declaration (Some (v, c)) k = k v c.at
number_declaration None k = None

unfoldable pub moved_declaration : Option Cursor → (Cursor → Option DeclarationStep) → Option DeclarationStep
moved_declaration (Some c) k = k c
moved_declaration None k = None

-- a code, a tag, a byte that is DW_CHILDREN_no (0) or DW_CHILDREN_yes (1), and where the attribute specifications
-- start; code 0 closes the list
unfoldable pub head_at : List ℕ → ℕ → Option DeclarationStep
head_at s at =
    number_declaration (leb_at uleb s at) (λ code after_code.
    pick (eqb code 0) (Some (Last (cursor after_code)))
    (number_declaration (leb_at short s after_code) (λ tag after_tag.
    pick (eqb tag 0) None
    (number_declaration (fixed_at false 1 s after_tag) (λ children attributes.
    pick (leb children DW_CHILDREN_yes)
    (Some (Declared (record {
      code = code;
      tag = tag;
      children = eqb children DW_CHILDREN_yes;
      attributes = cursor attributes;
    }) (cursor attributes)))
    None)))))

-- and the attribute specifications
unfoldable pub whole_declaration : List ℕ → Option DeclarationStep → Option DeclarationStep
whole_declaration s (Some (Declared d c)) = moved_declaration (past_attributes s d.attributes.at) (λ c. Some (Declared d c))
whole_declaration s (Some (Last c)) = Some (Last c)
whole_declaration s None = None

unfoldable pub declaration_at : List ℕ → ℕ → Option DeclarationStep
declaration_at s at = whole_declaration s (head_at s at)

-- a declaration and its place
abbrev pub Placed : Type 0
Placed = ℕ × Declaration

unfoldable pub declaration_turn : ℕ → Option DeclarationStep → Turn Placed ℕ
declaration_turn at (Some (Declared d c)) = more (at, d) c.at
declaration_turn at (Some (Last c)) = stop c.at
declaration_turn at None = bad

unfoldable pub declarations_from : List ℕ → ℕ → Option (Scanned Placed ℕ)
declarations_from s at = scan (length s) (λ n. declaration_turn n (declaration_at s n)) at

-- the declaration with a code: the plain search
unfoldable pub declared_in : List Placed → ℕ → Option Declaration
declared_in [] code = None
declared_in (d ∷ ds) code = pick (eqb d.1.code code) (Some d.1) (declared_in ds code)

unfoldable pub is_found : Option Declaration → Bool
is_found (Some d) = true
is_found None = false

-- no code twice
unfoldable pub distinct : List Placed → Bool
distinct [] = true
distinct (d ∷ ds) = not (is_found (declared_in ds d.1.code)) and distinct ds

unfoldable pub check_distinct : Scanned Placed ℕ → Option (List Placed)
check_distinct r = check (distinct r.0) (Some r.0)

-- THE declarations of a unit, from its header's offset on
unfoldable pub abbreviations_of : List ℕ → ℕ → Option (List Placed)
abbreviations_of s from = bind (declarations_from s from) check_distinct

unfoldable pub as_checked : Option (List Placed) → Result (Unit {0}) ℕ
as_checked None = Err 3
as_checked (Some ds) = Ok tt

unfoldable pub checked_of : List ℕ → ℕ → Result (Unit {0}) ℕ
checked_of s from = as_checked (abbreviations_of s from)

-- ---- the index: one more than the place of each declaration, in ascending order of their codes

unfoldable pub insert_by_code : Placed → List Placed → List Placed
insert_by_code p [] = p ∷ []
insert_by_code p (d ∷ ds) = pick (ltb d.1.code p.1.code) (d ∷ insert_by_code p ds) (p ∷ d ∷ ds)

unfoldable pub by_code : List Placed → List Placed
by_code [] = []
by_code (d ∷ ds) = insert_by_code d (by_code ds)

unfoldable pub slots_of : List Placed → List ℕ
slots_of [] = []
slots_of (d ∷ ds) = (d.0 + 1) ∷ slots_of ds

-- an index that is too short for the declarations stays as it is
unfoldable pub indexed : List ℕ → List Placed → List ℕ
indexed index ds = pick (leb (length ds) (length index)) (slots_of (by_code ds) ++ drop (length ds) index) index

unfoldable pub index_for : ℕ → Option (List Placed) → List ℕ
index_for n None = zeros n
index_for n (Some ds) = indexed (zeros n) ds

unfoldable pub index_of : List ℕ → ℕ → ℕ → List ℕ
index_of s from n = index_for n (abbreviations_of s from)

-- ---- lookup

unfoldable pub search_turn : ℕ → Option DeclarationStep → Turn (Unit {0}) (Option Declaration)
search_turn code (Some (Declared d c)) = pick (eqb d.code code) (stop (Some d)) (more tt c.at)
search_turn code (Some (Last c)) = stop None
search_turn code None = stop None

unfoldable pub found_by : Option (Scanned (Unit {0}) (Option Declaration)) → Option Declaration
found_by None = None
found_by (Some r) = r.1

-- the first declaration with a code that starts before `to`
unfoldable pub search_at : List ℕ → ℕ → ℕ → ℕ → Option Declaration
search_at s to code at =
    found_by (scan (length s) (λ n. pick (ltb n to) (search_turn code (declaration_at s n)) (stop None)) at)

unfoldable pub declaration_found : Option DeclarationStep → Option Declaration
declaration_found (Some (Declared d c)) = Some d
declaration_found (Some (Last c)) = None
declaration_found None = None

-- what is found by the head of its declaration, if the attribute specifications can be read too
unfoldable pub whole_found : List ℕ → Option Declaration → Option Declaration
whole_found s (Some d) = declaration_found (whole_declaration s (Some (Declared d d.attributes)))
whole_found s None = None

-- whether a slot holds the place of a declaration with this code
unfoldable pub holds_code : List ℕ → ℕ → ℕ → Bool
holds_code s slot code = pick (eqb slot 0) false (eqb (slot_code s slot) code)

-- the head of the declaration whose place a slot holds
unfoldable pub head_in : List ℕ → ℕ → Option Declaration
head_in s slot = declaration_found (head_at s (slot - 1))

-- the head of a code's declaration: at the slot that a code has where they are numbered from 1 on; else at the one
-- where it stands by halves; else by the plain search
unfoldable pub find_head : List ℕ → ℕ → List ℕ → ℕ → Option Declaration
find_head s from index code =
    pick (holds_code s (get_or index (code - 1) 0) code) (head_in s (get_or index (code - 1) 0))
    (pick (holds_code s (get_or index (slot_of s index code) 0) code) (head_in s (get_or index (slot_of s index code) 0))
    (search_at s (length s) code from))

-- and the whole declaration
unfoldable pub find_at : List ℕ → ℕ → List ℕ → ℕ → Option Declaration
find_at s from index code = whole_found s (find_head s from index code)
