-- What keeps entries and what is patched are the same references: of every entry of an accepted unit. Assumes nothing.
use mathlib.Core.Path.{◌≡◌, refl, ap, sym, ◌∙◌, subst}
use Prim.Native.Nat.{ℕ, suc}
use mathlib.Core.List.{List, [], ◌∷◌}
use Rattle.std.specs.Prelude.{Err, None, Ok, Option, Result, Some}
use Rattle.readers.specs.declared.entries.Step.{Step}
use mathlib.Core.Logic.{◌⊎◌, inl, inr, ⊎_elim, ◌↔◌}
use native.Mathlib.Omega.{arith}
use lib.ListN.{take, drop}
use Rattle.readers.specs.Lists.{list_base}
use Rattle.readers.specs.Layout.{RunOf, read_in}
use Rattle.readers.specs.Expression.{expression_in}
use Rattle.readers.specs.Entries.{entry_layout, step_at}
use Rattle.readers.specs.Abbreviations.{Placed, declared_in, abbreviations_of}
use Rattle.readers.specs.Header.{header_of}
use Rattle.readers.specs.Nesting.{opened, closed}
use Rattle.readers.specs.Stream.{Item, entry, terminator, items_from}
use Rattle.readers.specs.declared.entries.Entry.{Entry}
use Rattle.readers.specs.declared.entries.Step.TheVariants.{Entry as Entry'}
use Rattle.readers.specs.declared.header.UnitHeader.{UnitHeader}
use Rattle.marking.specs.EntryReferences.{found}
use Rattle.marking.specs.Analysis.{Sections, Rooms, EntryRow, analysed, refused as not_analysed, start_of, analyse_items, on_declared, unit_analysed, header_analysed, analysis_of, values_of_entry, names_of, base_of}
use Rattle.marking.specs.Members.{Member, here, there}
use Rattle.rewriting.specs.Rewriting.{Unit as Unit', items_in, reads_or, reads_at, Room, unit_of}
use Rattle.laws.specs.SameReferences.{RoleReference, values_in, base_at, SameReferences, RowsReferences, RowReferences, UnitReferences}
use Rattle.marking.proofs.Members.{nothing-in}
use Rattle.rewriting.proofs.KeptPass.EntryReads.{StepBy}
use Rattle.laws.proofs.References.NamedPieces.{reads_names, reads-members}
use Rattle.laws.proofs.References.EntryNames.{values_names, StepNames, deep-names}
use Rattle.laws.proofs.References.ListedNames.{in-attributes, in-values}
use Rattle.rewriting.proofs.KeptPass.ItemDepths.{EveryItem, Stands, items-stand}
use Rattle.rewriting.proofs.KeptPass.ReadableItems.{Is, JudgedStep, step-deep}
use Rattle.marking.specs.EntryRows.{RowsOf}
use Rattle.rewriting.proofs.Whole.AcceptedUnits.{accepted-follow, Accepted}
use Rattle.marking.proofs.ListedHeaders.{analysed-listed}

module _ (x : Sections) (u : Unit') where
  abbrev deep_at : ℕ → Option RunOf
  deep_at at = read_in u.header.encoding.big_endian (expression_in u.header.encoding) (entry_layout u.header.encoding x.abbreviations (declared_in u.declared)) (drop at u.bytes)

  abbrev There : Entry → Type 0
  There y = step_at u.header.encoding x.abbreviations (declared_in u.declared) u.bytes y.offset.0 ≡ Some (Entry' y)

  -- ---- one entry

  reads-are : (at : ℕ) (all : RunOf) → deep_at at ≡ Some all → reads_at x u at ≡ all.0
  unfolding reads_at reads_or
  reads-are at all q = ap (λ (o : Option RunOf). reads_or x u o) q

  entry-names : (y : Entry) → There y → (all : RunOf) → deep_at y.offset.0 ≡ Some all
      → reads_names (reads_at x u y.offset.0) ≡ values_names u.header.encoding u.bytes (values_of_entry u.header.encoding x u.bytes y)
  unfolding StepBy values_of_entry
  entry-names y s all q =
      ap reads_names (reads-are y.offset.0 all q)
      ∙ subst (λ (w : Option Step). StepNames u.header.encoding u.bytes x.abbreviations (declared_in u.declared) w (reads_names all.0)) s
      (deep-names u.header.encoding u.bytes x.abbreviations (declared_in u.declared) y.offset.0 all q)

  -- an entry that stands at its offset and is read deep: the names of its attributes are its references
  pub entry-references : (y : Entry) → There y → (all : RunOf) → deep_at y.offset.0 ≡ Some all
      → (base : ℕ) (names : List ℕ) → names_of u.header.encoding x u.bytes base y ≡ found names → (v : ℕ) → SameReferences x u base y names v
  unfolding names_of
  entry-references y s all q base names p v =
      let iff = in-attributes u.header.encoding u.bytes x.locations base v (values_in x u y) names p in
      let forms = in-values u.header.encoding u.bytes x.locations base v (values_in x u y) names p in
      let same = entry-names y s all q in
      let reads : Member v (reads_names (reads_at x u y.offset.0)) ↔ RoleReference (reads_at x u y.offset.0) v = reads-members v (reads_at x u y.offset.0) in
      record {
        kept = (
          λ m. ⊎_elim (λ n. inl (reads.0 (subst (Member v) (sym same) n))) (λ n. inr n) (iff.0 m),
          λ m. ⊎_elim (λ n. iff.1 (inl (subst (Member v) same (reads.1 n)))) (λ n. iff.1 (inr n)) m,
        );
        patched = (λ n. forms.0 (subst (Member v) same (reads.1 n)), λ n. reads.0 (subst (Member v) (sym same) (forms.1 n)));
      }

  -- one whose references were sought is read deep
  judged-references : (y : Entry) → There y → (base : ℕ) (names : List ℕ) → names_of u.header.encoding x u.bytes base y ≡ found names
      → (v : ℕ) → SameReferences x u base y names v
  unfolding JudgedStep Is
  judged-references y s base names p =
      by-reads (deep_at y.offset.0) refl
      (step-deep u.header.encoding x (declared_in u.declared) u.bytes y.offset.0
      (subst (JudgedStep u.header.encoding x (declared_in u.declared) u.bytes) (sym s) (record { base = base; names = names; names_are = p })))
    where
      by-reads : (o : Option RunOf) → deep_at y.offset.0 ≡ o → Is o → (v : ℕ) → SameReferences x u base y names v
      by-reads None q i = absurd i
      by-reads (Some all) q i = entry-references y s all q base names p

  -- ---- row by row

  abbrev AllThere : List Item → Type 0
  AllThere items = EveryItem (Stands u.header.encoding x.abbreviations (declared_in u.declared) u.bytes) items

  abbrev RowsDescribe : ℕ → List ℕ → ℕ → ℕ → List Item → List EntryRow → Type 0
  RowsDescribe k stack rb lb items rows = RowsOf u.header.encoding x u.bytes k stack rb lb items rows

  abbrev range_base : ℕ → Entry → ℕ
  range_base rb y = base_of u.header.encoding x u.bytes 0x74 rb y

  rows-references : (k : ℕ) (stack : List ℕ) (rb lb : ℕ) (items : List Item) (rows : List EntryRow)
      → RowsDescribe k stack rb lb items rows → AllThere items → RowsReferences x u lb items rows
  unfolding RowsOf EveryItem Stands RowsReferences
  rows-references k stack rb lb [] rows f s = f
  rows-references k stack rb lb (terminator a b ∷ rest) rows f s = rows-references k (closed stack) rb lb rest rows f s.1
  rows-references k stack rb lb (entry y ∷ rest) [] f s = f
  rows-references k stack rb lb (entry y ∷ rest) (r ∷ rows) f s = (
    judged-references y s.0 (base_at x u lb y) r.names f.0.names_are,
    rows-references (suc k) (opened y.declaration.children k stack) (range_base rb y) (base_at x u lb y) rest rows f.1 s.1,
  )

  further : (r : EntryRow) (rows : List EntryRow) (y : Entry) → RowReferences x u rows y → RowReferences x u (r ∷ rows) y
  further r rows y q = record { row = q.row; among = there q.among; offset_is = q.offset_is; base = q.base; same = q.same }

  row-references : (k : ℕ) (stack : List ℕ) (rb lb : ℕ) (items : List Item) (rows : List EntryRow)
      → RowsDescribe k stack rb lb items rows → AllThere items → (y : Entry) → Member (entry y) items → RowReferences x u rows y
  unfolding RowsOf EveryItem Stands
  row-references k stack rb lb [] rows f s y m = absurd (nothing-in (entry y) m)
  row-references k stack rb lb (terminator a b ∷ rest) rows f s y (here q) = let z : ◌≡◌ {A = ℕ} 0 1 = cc in absurd (omega arith)
  row-references k stack rb lb (terminator a b ∷ rest) rows f s y (there m) = row-references k (closed stack) rb lb rest rows f s.1 y m
  row-references k stack rb lb (entry w ∷ rest) [] f s y m = absurd f
  row-references k stack rb lb (entry w ∷ rest) (r ∷ rows) f s y (here q) =
      let z : w ≡ y = (let p : entry y ≡ entry w = q in cc) in
      subst (RowReferences x u (r ∷ rows)) z
      (record {
        row = r;
        among = here refl;
        offset_is = f.0.offset_is;
        base = base_at x u lb w;
        same = judged-references w s.0 (base_at x u lb w) r.names f.0.names_are;
      })
  row-references k stack rb lb (entry w ∷ rest) (r ∷ rows) f s y (there m) =
      further r rows y
      (row-references (suc k) (opened w.declaration.children k stack) (range_base rb w) (base_at x u lb w) rest rows f.1 s.1 y m)

-- ---- of an accepted unit

module _ (x : Sections) (room : Room) (section : List ℕ) (h : UnitHeader) (ds : List Placed) (rows : List EntryRow)
    (a : Accepted x room section h ds rows) where
  abbrev unit : Unit'
  unit = unit_of h section ds

  all-stand : AllThere x unit (items_in x unit)
  unfolding items_in
  all-stand = items-stand h.encoding x.abbreviations (declared_in ds) (take h.end section) h.first.0

  -- row by row
  pub accepted-references : RowsReferences x unit (list_base h.encoding) (items_in x unit) rows
  accepted-references = rows-references x unit 0 [] (list_base h.encoding) (list_base h.encoding) (items_in x unit) rows (accepted-follow x room section h ds rows a) all-stand

  -- of every entry
  pub each-references : (y : Entry) → Member (entry y) (items_in x unit) → RowReferences x unit rows y
  each-references y m = row-references x unit 0 [] (list_base h.encoding) (list_base h.encoding) (items_in x unit) rows (accepted-follow x room section h ds rows a) all-stand y m

-- ---- of every unit that is analysed

module _ (x : Sections) (section : List ℕ) (room : Rooms) (rows : List EntryRow) where
  -- room for the tables is all that counts here
  abbrev tables_only : Room
  tables_only = record { tables = room; ranges = 0; locations = 0; strings = 0; places = 0; bytes = 0 }

  not-analysed : (n : ℕ) → not_analysed n ≡ analysed rows → ⊥
  not-analysed n q = let z : ◌≡◌ {A = ℕ} 0 1 = cc in omega arith

  by-declared : analysis_of x section room ≡ analysed rows → (h : UnitHeader) → header_of x.setting.big_endian section ≡ Ok (Some h)
      → (o : Option (List Placed)) → abbreviations_of x.abbreviations h.abbreviations ≡ o
      → UnitReferences x section rows
  unfolding analysis_of header_analysed unit_analysed on_declared
  by-declared q h p None d =
      absurd (not-analysed 3 (sym (ap (header_analysed x section room) (analysed-listed x section room rows q ∙ p)
      ∙ ap (λ (o : Option (List Placed)). on_declared o (λ ds. analyse_items h.encoding x (take h.end section) room (start_of h.encoding)
      (items_from h.encoding x.abbreviations (declared_in ds) (take h.end section) h.first.0).0
      (items_from h.encoding x.abbreviations (declared_in ds) (take h.end section) h.first.0).1)) d) ∙ q))
  by-declared q h p (Some ds) d =
      let a : Accepted x tables_only section h ds rows = record { header = p; declared = d; analysis = q } in
      record {
        header = h;
        declared = ds;
        header_is = p;
        declared_is = d;
        rows_are = accepted-references x tables_only section h ds rows a;
        each = each-references x tables_only section h ds rows a;
      }

  by-header : analysis_of x section room ≡ analysed rows → (o : Result (Option UnitHeader) ℕ) → header_of x.setting.big_endian section ≡ o
      → ((header_of x.setting.big_endian section ≡ Ok None) × (rows ≡ [])) ⊎ UnitReferences x section rows
  unfolding analysis_of header_analysed
  by-header q (Ok None) p = let z : analysed [] ≡ analysed rows = sym (ap (header_analysed x section room) (analysed-listed x section room rows q ∙ p)) ∙ q in inl (p, cc)
  by-header q (Err n) p = absurd (not-analysed n (sym (ap (header_analysed x section room) (analysed-listed x section room rows q ∙ p)) ∙ q))
  by-header q (Ok (Some h)) p = inr (by-declared q h p (abbreviations_of x.abbreviations h.abbreviations) refl)

  -- THE LAW: where a unit is analysed, what keeps entries and what is patched are the same references; an empty section has no rows
  pub analysed-references : analysis_of x section room ≡ analysed rows
      → ((header_of x.setting.big_endian section ≡ Ok None) × (rows ≡ [])) ⊎ UnitReferences x section rows
  analysed-references q = by-header q (header_of x.setting.big_endian section) refl
