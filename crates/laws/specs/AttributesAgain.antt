-- The attributes of a kept entry, read at its new place by the public reader of attributes (`attribute_at`, one after the other
-- in `values_of_entry`): the same attributes in the same order, with the same names, forms, widths and values, but for the
-- numbers that rewriting changes.
use Rattle.std.specs.Prelude.{◌≡◌, ℕ, ◌+◌, List, [], ◌∷◌, length, T, Some}
use Rattle.std.proofs.Math.Pow.{are_bytes}
use Rattle.readers.specs.Codes.{DW_FORM_exprloc}
use Rattle.readers.specs.Layout.{Piece, Patch, bytes_of, patch_pieces}
use Rattle.readers.specs.Tokens.{Use, plain, as'}
use Rattle.readers.specs.Forms.{use_of}
use Rattle.readers.specs.Expression.{expression_in}
use Rattle.readers.specs.Stream.{Item, entry}
use Rattle.readers.specs.declared.cursor.Encoding.{Encoding}
use Rattle.readers.specs.declared.entries.Entry.{Entry}
use Rattle.readers.specs.EntryAttributes.{Valued, specs_from}
use Rattle.marking.specs.Analysis.{Sections, values_of_entry}
use Rattle.rewriting.specs.Places.{NestedItem, Place}
use Rattle.marking.specs.Members.{Nth}
use Rattle.laws.specs.Moved.{moved_entry}
use Rattle.rewriting.specs.Rewriting.{Lists, new_value}
use Rattle.rewriting.specs.Emission.{between}

-- the payload of an attribute: a block or an expression after its length
unfoldable pub payload : List ℕ → Valued → List ℕ
payload s a = between s a.value.field.start a.value.field.end

-- what the form of an attribute is used as, under its name: a reference, a sibling, an index, an offset in the section, or plain
abbrev pub use_in : Valued → Use
use_in a = use_of a.name a.value.form

-- what numbers become: `new_value` of an item at its depth (Rewriting.antt)
module _ (f : Patch) where
  -- what the number of an attribute becomes: any other number than a reference, a sibling or an index stays
  unfoldable pub new_number : Use → ℕ → ℕ
  new_number plain v = v
  new_number (as' r) v = f r v

  module _ (e : Encoding) where
    -- an expression: its operations one by one, nested ones too, are the old ones but for references and type operands, each
    -- written at its own width; all other bytes are copied
    pub record SameOperations (old new : List ℕ) : Type 0 where
      pub pieces : List Piece
      pub were : expression_in e old ≡ Some pieces
      pub are : expression_in e new ≡ Some (patch_pieces f pieces)
      pub old_bytes : T (are_bytes old) → old ≡ bytes_of e.big_endian pieces
      pub new_bytes : new ≡ bytes_of e.big_endian (patch_pieces f pieces)

    -- an attribute a of an entry that stood at `old`, and b in its place where the entry now stands, at `new`
    pub record SameAttribute (old new : ℕ) (unit output : List ℕ) (a b : Valued) : Type 0 where
      pub name : b.name ≡ a.name
      pub declared : b.declared ≡ a.declared
      -- the form found, which is another where DW_FORM_indirect is declared
      pub form : b.value.form ≡ a.value.form
      -- it begins and ends as far from the entry's start as it did
      pub start : b.value.field.start + old ≡ a.value.field.start + new
      pub end : b.value.field.end + old ≡ a.value.field.end + new
      pub number : b.value.field.value ≡ new_number (use_in a) a.value.field.value
      -- constants, strings, addresses, flags, blocks: byte by byte
      pub bytes : use_in a ≡ plain → (a.value.form ≡ DW_FORM_exprloc → ⊥) → payload output b ≡ payload unit a
      -- exprloc
      pub operations : a.value.form ≡ DW_FORM_exprloc → SameOperations (payload unit a) (payload output b)

    -- one by one: as many, in the same order
    unfoldable pub SameAttributes : ℕ → ℕ → List ℕ → List ℕ → List Valued → List Valued → Type 0
    SameAttributes old new unit output [] [] = Unit {0}
    SameAttributes old new unit output [] (b ∷ rest') = ⊥
    SameAttributes old new unit output (a ∷ rest) [] = ⊥
    SameAttributes old new unit output (a ∷ rest) (b ∷ rest') = SameAttribute old new unit output a b × SameAttributes old new unit output rest rest'

    -- an entry of the unit, and the same at `new` in the output
    pub record AttributesAgain (x : Sections) (unit output : List ℕ) (new : ℕ) (y : Entry) : Type 0 where
      -- every attribute that its declaration has is read
      pub each : length (values_of_entry e x unit y) ≡ length (specs_from x.abbreviations y.declaration.attributes.at)
      pub same : SameAttributes y.offset.0 new unit output (values_of_entry e x unit y) (values_of_entry e x output (moved_entry new y))

-- the m-th kept item, an entry: its place in the map, the item that stands there in the output, and its attributes there
pub record EntryAgain (lists : Lists) (map : List Place) (e : Encoding) (x : Sections) (unit output : List ℕ) (items : List Item)
    (m : ℕ) (s : NestedItem) (y : Entry) : Type 0 where
  pub new : ℕ
  pub place : Nth (record { old = y.offset.0; new = new; depth = s.depth }) m map
  pub item : Nth (entry (moved_entry new y)) m items
  pub attributes : AttributesAgain (new_value lists map s.depth) e x unit output new y
