-- What the rows of an analysis say of the entries of a unit.
use Rattle.std.specs.Prelude.{◌≡◌, ℕ, suc, List, [], ◌∷◌, ◌⊎◌, take, Ok, Result}
use Rattle.readers.specs.Codes.{DW_AT_loclists_base, DW_AT_rnglists_base}
use Rattle.readers.specs.Abbreviations.{Placed, declared_in}
use Rattle.readers.specs.Nesting.{opened, closed, top}
use Rattle.readers.specs.Stream.{Item, entry, terminator, Items, items_from}
use Rattle.readers.specs.declared.cursor.Encoding.{Encoding}
use Rattle.readers.specs.declared.entries.Entry.{Entry}
use Rattle.readers.specs.declared.header.UnitHeader.{UnitHeader}
use Rattle.marking.specs.EntryReferences.{found}
use Rattle.marking.specs.Analysis.{Sections, EntryRow, root_of, names_of, base_of}
use Rattle.marking.specs.declared.addresses.Verdict.{Verdict}
use Rattle.marking.specs.declared.addresses.Verdict.TheVariants.{Live, Dead}

-- a verdict as a row has it: 1 for a root, 0 for none; a refusal has no row
abbrev pub Tested : Result Verdict ℕ → ℕ → Type 0
Tested v root = ((v ≡ Ok Live) × (root ≡ 1)) ⊎ ((v ≡ Ok Dead) × (root ≡ 0))

module _ (e : Encoding) (x : Sections) (unit : List ℕ) where
  -- the row of an entry inside these open ones, rb and lb being the list bases before it: where it starts, the
  -- innermost open entry as its parent, whether it is a root, by its root test and the treatment of its tag, and all
  -- references that it holds; by the list bases as its own DW_AT_rnglists_base and DW_AT_loclists_base leave them
  pub record RowOf (stack : List ℕ) (rb lb : ℕ) (y : Entry) (r : EntryRow) : Type 0 where
    pub offset_is : r.offset ≡ y.offset.0
    pub parent_is : r.parent ≡ top stack
    pub root_is : Tested (root_of e x unit (base_of e x unit DW_AT_rnglists_base rb y) y) r.root
    pub names_are : names_of e x unit (base_of e x unit DW_AT_loclists_base lb y) y ≡ found r.names

  -- each row is that of its entry, and there is one for each: items and rows from entry k on, given the open
  -- entries, the innermost first, and the list bases
  unfoldable pub RowsOf : ℕ → List ℕ → ℕ → ℕ → List Item → List EntryRow → Type 0
  RowsOf k stack rb lb [] rows = rows ≡ []
  RowsOf k stack rb lb (terminator a b ∷ rest) rows = RowsOf k (closed stack) rb lb rest rows
  RowsOf k stack rb lb (entry y ∷ rest) [] = ⊥
  RowsOf k stack rb lb (entry y ∷ rest) (r ∷ rows) =
      RowOf stack rb lb y r
      × RowsOf (suc k) (opened y.declaration.children k stack) (base_of e x unit DW_AT_rnglists_base rb y)
      (base_of e x unit DW_AT_loclists_base lb y) rest rows

-- the items of a unit: from its first entry on, inside its own bytes, by its declarations; and whether the unit's end
-- is what follows them
abbrev pub unit_items : Sections → List ℕ → UnitHeader → List Placed → Items
unit_items x section h ds = items_from h.encoding x.abbreviations (declared_in ds) (take h.end section) h.first.0
