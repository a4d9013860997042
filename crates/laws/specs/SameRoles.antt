-- The numbers of an entry that are patched as indices and as siblings are those that its attributes hold in the forms
-- that document 01 names ("Rewriting"). References: SameReferences.
use Rattle.std.specs.Prelude.{ℕ, ◌≤◌, ◌<◌, ◌≡◌, List, ◌↔◌, Ok, Some}
use Rattle.readers.specs.Codes.{DW_AT_sibling, DW_FORM_ref1, DW_FORM_ref_udata}
use Rattle.readers.specs.Abbreviations.{Placed, abbreviations_of}
use Rattle.readers.specs.Header.{header_of}
use Rattle.readers.specs.Layout.{Encoded, Role, sibling, index, patchable, Read}
use Rattle.readers.specs.Stream.{entry}
use Rattle.readers.specs.declared.entries.Entry.{Entry}
use Rattle.readers.specs.declared.header.UnitHeader.{UnitHeader}
use Rattle.readers.specs.EntryAttributes.{Valued}
use Rattle.marking.specs.Analysis.{Sections}
use Rattle.marking.specs.Members.{Member}
use Rattle.readers.specs.Forms.{list_form}
use Rattle.rewriting.specs.Rewriting.{Unit as Unit', unit_of, items_in}
use Rattle.laws.specs.SameReferences.{values_in, reads_in}

-- ---- by roles: what is patched

-- v is a number with the role, in one of the reads
pub record RoleRead (rs : List Read) (role : Role) (v : ℕ) : Type 0 where
  pub read : Read
  pub among : Member read rs
  pub encoded : Encoded
  pub within : Member (patchable encoded role v) read.pieces

-- ---- by names and forms: what attributes hold

-- v is an index into list k, in one of the attributes: ranges (0) in rnglistx, locations (1) in loclistx, strings (2) in
-- strx, strx1 to strx4 or GNU_str_index, behind indirect too
pub record FormIndex (values : List Valued) (k v : ℕ) : Type 0 where
  pub attribute : Valued
  pub among : Member attribute values
  pub form_is : list_form attribute.value.form ≡ k
  pub is : v ≡ attribute.value.field.value

-- v is in a DW_AT_sibling, in ref1 to ref8 or ref_udata, behind indirect too
pub record FormSibling (values : List Valued) (v : ℕ) : Type 0 where
  pub attribute : Valued
  pub among : Member attribute values
  pub name_is : attribute.name ≡ DW_AT_sibling
  pub from : DW_FORM_ref1 ≤ attribute.value.form
  pub upto : attribute.value.form ≤ DW_FORM_ref_udata
  pub is : v ≡ attribute.value.field.value

-- ---- an entry, a unit

pub record SameRoles (x : Sections) (u : Unit') (y : Entry) : Type 0 where
  pub indexed : (k v : ℕ) → k < 3 → RoleRead (reads_in x u y) (index k) v ↔ FormIndex (values_in x u y) k v
  -- there are no other indices
  pub lists : (k v : ℕ) → RoleRead (reads_in x u y) (index k) v → k < 3
  pub siblings : (v : ℕ) → RoleRead (reads_in x u y) sibling v ↔ FormSibling (values_in x u y) v

-- the first unit of a section, by the header and the declarations that are found: of every entry
pub record UnitRoles (x : Sections) (section : List ℕ) : Type 0 where
  pub header : UnitHeader
  pub declared : List Placed
  pub header_is : header_of x.setting.big_endian section ≡ Ok (Some header)
  pub declared_is : abbreviations_of x.abbreviations header.abbreviations ≡ Some declared
  pub each : (y : Entry) → Member (entry y) (items_in x (unit_of header section declared))
      → SameRoles x (unit_of header section declared) y
