-- The numbers of a kept entry's attributes, read again at its new place, by the forms that document 01, "Rewriting", names.
use Rattle.std.specs.Prelude.{◌≡◌, ℕ, ◌≤◌, ◌<◌, Bool, List, ◌⊎◌, length, None, Some}
use Rattle.readers.specs.Codes.{DW_AT_sibling, DW_FORM_exprloc, DW_FORM_ref1, DW_FORM_ref_addr}
use Rattle.readers.specs.Codes.{DW_FORM_ref_udata}
use Rattle.readers.specs.Stream.{entry}
use Rattle.readers.specs.declared.entries.Entry.{Entry}
use Rattle.readers.specs.EntryAttributes.{Valued, specs_from}
use Rattle.marking.specs.Analysis.{Sections, values_of_entry}
use Rattle.marking.specs.Members.{Nth}
use Rattle.rewriting.specs.Places.{NestedItem, Place}
use Rattle.laws.specs.Moved.{moved_entry}
use Rattle.rewriting.specs.Rewriting.{Unit as Unit', unit_of, items_in, Lists, list_at, Rewrite}
use Rattle.readers.specs.Forms.{list_form}
use Rattle.laws.specs.AttributesAgain.{payload}
use Rattle.laws.specs.Thinned.{Pairwise, LandsOn, FirstFrom, thinned_of, Thinned}

-- the form found, which is another than the declared one where that is DW_FORM_indirect
abbrev pub form_of : Valued → ℕ
form_of a = a.value.form

abbrev pub number_of : Valued → ℕ
number_of a = a.value.field.value

-- ref1, ref2, ref4, ref8, ref_udata
abbrev pub RefersInUnit : ℕ → Type 0
RefersInUnit f = (DW_FORM_ref1 ≤ f) × (f ≤ DW_FORM_ref_udata)

module _ (x : Sections) (u new : Unit') (lists : Lists) (map : List Place) (kept : List NestedItem) where
  -- an attribute a of an entry at a depth, and b in its place where the entry now stands
  pub record AttributeByForm (depth : ℕ) (a b : Valued) : Type 0 where
    pub name : b.name ≡ a.name
    pub form : form_of b ≡ form_of a
    -- a reference within the unit lands on the new place of what it named
    pub refers : (a.name ≡ DW_AT_sibling → ⊥) → RefersInUnit (form_of a) → LandsOn x u new lists map kept (number_of a) (number_of b)
    -- DW_AT_sibling does too, or on the first kept place from there on that is no deeper than its entry
    pub sibling : a.name ≡ DW_AT_sibling → RefersInUnit (form_of a)
        → LandsOn x u new lists map kept (number_of a) (number_of b) ⊎ FirstFrom x u new lists map kept depth (number_of a) (number_of b)
    -- rnglistx 0; loclistx 1; strx, strx1 to strx4 and GNU_str_index 2: the place in the list of the index that it was, if there is such a list
    pub unlisted : (k : ℕ) → k < 3 → list_form (form_of a) ≡ k → list_at lists k ≡ None → number_of b ≡ number_of a
    pub listed : (k : ℕ) → k < 3 → list_form (form_of a) ≡ k → (xs : List ℕ) → list_at lists k ≡ Some xs → Nth (number_of a) (number_of b) xs
    -- any other form: the same number, and but for ref_addr and exprloc (its operations are in SameAttribute) the same bytes
    pub stays : (RefersInUnit (form_of a) → ⊥) → list_form (form_of a) ≡ 3 → number_of b ≡ number_of a
    pub bytes : (RefersInUnit (form_of a) → ⊥) → list_form (form_of a) ≡ 3 → (form_of a ≡ DW_FORM_ref_addr → ⊥) → (form_of a ≡ DW_FORM_exprloc → ⊥)
        → payload new.bytes b ≡ payload u.bytes a

  -- the m-th kept item, an entry: its place in the map, the item there in the new unit, and its attributes one by one
  pub record EntryByForm (m : ℕ) (s : NestedItem) (y : Entry) : Type 0 where
    pub at : ℕ
    pub place : Nth (record { old = y.offset.0; new = at; depth = s.depth }) m map
    pub item : Nth (entry (moved_entry at y)) m (items_in x new)
    -- every attribute that its declaration has is read
    pub each : length (values_of_entry u.header.encoding x u.bytes y) ≡ length (specs_from x.abbreviations y.declaration.attributes.at)
    pub attributes : Pairwise (AttributeByForm s.depth) (values_of_entry u.header.encoding x u.bytes y)
        (values_of_entry new.header.encoding x new.bytes (moved_entry at y))

-- every kept entry of a thinned unit (Thinned.antt)
pub record ThinnedByForm (x : Sections) (type_units : Bool) (section : List ℕ) (w : Rewrite) : Type 1 where
  pub thinned : Thinned x type_units section w
  pub entries : (m : ℕ) (s : NestedItem) (y : Entry) → Nth s m thinned.kept → s.item ≡ entry y
      → EntryByForm x (unit_of thinned.header section thinned.declared) (thinned_of thinned.header w.output thinned.declared)
      w.lists w.map thinned.kept m s y
