-- What keeps entries and what is patched are the same references (document 01, "References" and "Rewriting"). An entry
-- names offsets by the forms of its attributes and by the operations of its expressions; a rewriting patches numbers by
-- their roles. The two agree. Location lists name offsets too: they are in another section, and nothing there is patched.
use Rattle.std.specs.Prelude.{ℕ, ◌≤◌, ◌≡◌, true, List, [], ◌∷◌, ◌⊎◌, ◌↔◌, eqb, None, Ok, Option, Some}
use Rattle.readers.specs.Lists.{list_base}
use Rattle.readers.specs.Abbreviations.{Placed, abbreviations_of}
use Rattle.readers.specs.Choice.{pick}
use Rattle.readers.specs.Codes.{DW_AT_location, DW_AT_loclists_base, DW_AT_sibling, DW_FORM_exprloc}
use Rattle.readers.specs.Codes.{DW_FORM_loclistx, DW_FORM_ref1, DW_FORM_ref_udata, DW_FORM_sec_offset}
use Rattle.readers.specs.Codes.{DW_LLE_default_location}
use Rattle.readers.specs.Header.{header_of}
use Rattle.readers.specs.Layout.{Encoded, Role, reference, type_reference, sibling, index, absolute, Piece, patchable, Read}
use Rattle.readers.specs.Expression.{expression_in}
use Rattle.readers.specs.Lists.{list_offset, list_start}
use Rattle.readers.specs.References.{flat_from}
use Rattle.readers.specs.Steps.{list_entry_at}
use Rattle.readers.specs.Stream.{Item, entry, terminator}
use Rattle.readers.specs.declared.attributes.Attribute.{Attribute}
use Rattle.readers.specs.declared.cursor.Cursor.{Cursor}
use Rattle.readers.specs.declared.cursor.Encoding.{Encoding}
use Rattle.readers.specs.declared.entries.Entry.{Entry}
use Rattle.readers.specs.declared.fields.Field.{Field}
use Rattle.readers.specs.declared.header.UnitHeader.{UnitHeader}
use Rattle.readers.specs.declared.operations.ListEntry.{ListEntry}
use Rattle.readers.specs.declared.operations.ListStep.TheVariants.{Entry as Entry'}
use Rattle.readers.specs.EntryAttributes.{Valued}
use Rattle.marking.specs.EntryReferences.{targets, part_of}
use Rattle.marking.specs.Analysis.{Sections, EntryRow, values_of_entry, base_of}
use Rattle.marking.specs.Members.{Member}
use Rattle.rewriting.specs.Rewriting.{Unit as Unit', unit_of, items_in, reads_at}

-- ---- by roles: what is patched

-- whether a number names an entry: one with the role of a reference does, a type operand unless it is 0; a sibling, an
-- index and an offset from the section's start don't
unfoldable pub Names : Role → ℕ → Type 0
Names reference v = Unit {0}
Names type_reference v = v ≡ 0 → ⊥
Names sibling v = ⊥
Names (index k) v = ⊥
Names absolute v = ⊥

pub record NamedIn (ps : List Piece) (v : ℕ) : Type 0 where
  pub encoded : Encoded
  pub role : Role
  pub names : Names role v
  pub within : Member (patchable encoded role v) ps

-- v is such a number, in one of the reads
pub record RoleReference (rs : List Read) (v : ℕ) : Type 0 where
  pub read : Read
  pub among : Member read rs
  pub held : NamedIn read.pieces v

-- ---- by forms and operations: what is named in the unit

module _ (e : Encoding) (unit : List ℕ) (v : ℕ) where
  -- ref1 to ref8 and ref_udata, behind indirect too, name their number
  pub record FormNames (a : Attribute) : Type 0 where
    pub from : DW_FORM_ref1 ≤ a.form
    pub upto : a.form ≤ DW_FORM_ref_udata
    pub is : v ≡ a.field.value

  -- exprloc names what its operations do, one after the other, those of entry values included
  pub record ExprlocNames (a : Attribute) : Type 0 where
    pub exprloc : a.form ≡ DW_FORM_exprloc
    pub among : Member v (targets (flat_from e (part_of unit a.field) 0))

  -- v is so named by one of the attributes, not by DW_AT_sibling
  pub record FormReference (values : List Valued) : Type 0 where
    pub attribute : Valued
    pub among : Member attribute values
    pub no_sibling : attribute.name ≡ DW_AT_sibling → ⊥
    pub named : FormNames attribute.value ⊎ ExprlocNames attribute.value

-- ---- by location lists: what is named in their section s

module _ (e : Encoding) (s : List ℕ) (v : ℕ) where
  -- an expression, read operation by operation, entry values included, holds v
  pub record InExpression (f : Field) : Type 0 where
    pub pieces : List Piece
    pub read : expression_in e (part_of s f) ≡ Some pieces
    pub held : NamedIn pieces v

  -- 7.7.3: base_addressx 1 and base_address 6 have no expression, default_location 5 has it first, the others third
  pub record InEntry (x : ListEntry) : Type 0 where
    pub no_index : x.kind ≡ 1 → ⊥
    pub no_address : x.kind ≡ 6 → ⊥
    pub inside : InExpression (pick (eqb x.kind DW_LLE_default_location) x.first x.third)

  -- an entry of the list from a place on does
  pub data InList : ℕ → Type 0 where
    this : {at : ℕ} (x : ListEntry) → list_entry_at e true s at ≡ Some (Entry' x) → InEntry x → InList at
    later : {at : ℕ} (x : ListEntry) → list_entry_at e true s at ≡ Some (Entry' x) → InList x.next.at → InList at

  -- where a value's list starts: loclistx by its index, sec_offset by its offset
  unfoldable pub location_list : ℕ → Attribute → Option Cursor
  location_list base a =
      pick (eqb a.form DW_FORM_loclistx) (list_offset e s base a.field.value)
      (pick (eqb a.form DW_FORM_sec_offset) (list_start s a.field.value) None)

  -- the list of a DW_AT_location
  pub record ListedBy (base : ℕ) (a : Valued) : Type 0 where
    pub location : a.name ≡ DW_AT_location
    pub start : Cursor
    pub starts : location_list base a.value ≡ Some start
    pub inside : InList start.at

  pub record ListReference (base : ℕ) (values : List Valued) : Type 0 where
    pub attribute : Valued
    pub among : Member attribute values
    pub listed : ListedBy base attribute

-- ---- an entry, a unit

module _ (x : Sections) (u : Unit') where
  abbrev pub values_in : Entry → List Valued
  values_in y = values_of_entry u.header.encoding x u.bytes y

  abbrev pub reads_in : Entry → List Read
  reads_in y = reads_at x u y.offset.0

  -- DW_AT_loclists_base: from this entry on
  abbrev pub base_at : ℕ → Entry → ℕ
  base_at base y = base_of u.header.encoding x u.bytes DW_AT_loclists_base base y

  -- the names of an entry's row, which keep entries, given the base of location lists that holds at it
  pub record SameReferences (base : ℕ) (y : Entry) (names : List ℕ) (v : ℕ) : Type 0 where
    -- are the numbers of its reads that are patched as references, and those in its location lists
    pub kept : Member v names ↔ (RoleReference (reads_in y) v ⊎ ListReference u.header.encoding x.locations v base (values_in y))
    -- and what is patched is what its attributes name by their forms and operations
    pub patched : RoleReference (reads_in y) v ↔ FormReference u.header.encoding u.bytes v (values_in y)

  -- each row and its entry, given the base of location lists that was reached
  unfoldable pub RowsReferences : ℕ → List Item → List EntryRow → Type 0
  RowsReferences base [] rows = rows ≡ []
  RowsReferences base (terminator a b ∷ rest) rows = RowsReferences base rest rows
  RowsReferences base (entry y ∷ rest) [] = ⊥
  RowsReferences base (entry y ∷ rest) (r ∷ rows) =
      ((v : ℕ) → SameReferences (base_at base y) y r.names v) × RowsReferences (base_at base y) rest rows

  -- an entry has a row that names its references; RowsReferences says by which base
  pub record RowReferences (rows : List EntryRow) (y : Entry) : Type 0 where
    pub row : EntryRow
    pub among : Member row rows
    pub offset_is : row.offset ≡ y.offset.0
    pub base : ℕ
    pub same : (v : ℕ) → SameReferences base y row.names v

-- the first unit of a section, by the header and the declarations that are found: the rows of its analysis name the
-- references of its entries
pub record UnitReferences (x : Sections) (section : List ℕ) (rows : List EntryRow) : Type 0 where
  pub header : UnitHeader
  pub declared : List Placed
  pub header_is : header_of x.setting.big_endian section ≡ Ok (Some header)
  pub declared_is : abbreviations_of x.abbreviations header.abbreviations ≡ Some declared
  -- row by row, from the default list base on
  pub rows_are : RowsReferences x (unit_of header section declared) (list_base header.encoding) (items_in x (unit_of header section declared)) rows
  -- and of every entry
  pub each : (y : Entry) → Member (entry y) (items_in x (unit_of header section declared))
      → RowReferences x (unit_of header section declared) rows y
