-- Each row of an analysis is that of its entry, and the items of the unit are read to its end. Assumes nothing but that the unit is analysed.
use mathlib.Core.Path.{◌≡◌, refl, ap, sym, ◌∙◌}
use Prim.Native.Nat.{ℕ, suc, ◌+◌}
use mathlib.Core.Bool.{Bool, true, false}
use mathlib.Core.List.{List, [], ◌∷◌}
use Rattle.std.specs.Prelude.{Ok, Option, Some, Err, Result}
use mathlib.Core.Logic.{inl, inr}
use lib.ListN.{length, take}
use lib.Dec.{ltb, leb}
use Rattle.readers.proofs.Choice.{pick-either}
use Rattle.readers.specs.Lists.{list_base}
use Rattle.readers.specs.Nesting.{opened, closed, top}
use Rattle.readers.specs.Abbreviations.{Placed, abbreviations_of}
use Rattle.readers.specs.Header.{header_of}
use Rattle.readers.specs.Stream.{Item, entry, terminator}
use Rattle.readers.specs.declared.cursor.Encoding.{Encoding}
use Rattle.readers.specs.declared.entries.Entry.{Entry}
use Rattle.readers.specs.declared.header.UnitHeader.{UnitHeader}
use Rattle.marking.specs.EntryReferences.{ReferencesFound, found, refused as refused_after}
use Rattle.marking.specs.declared.addresses.Verdict.{Verdict}
use Rattle.marking.specs.declared.addresses.Verdict.TheVariants.{Live, Dead}
use Rattle.marking.specs.Analysis.{Sections, Rooms, EntryRow, Analysed, analysed, on_verdict, on_found, Reached, reached, start_of, analyse_items, on_declared, unit_analysed, header_analysed, analysis_of, root_of, names_of, base_of}
use Rattle.marking.specs.EntryRows.{Tested, RowOf, RowsOf, unit_items}
use Rattle.marking.proofs.Rows.{Gives, gives_of, gives-onto, gives-map, gives-refused, UnitRows, unit-rows}
use Rattle.marking.proofs.ListedHeaders.{analysed-listed}

gives-names : (P : List EntryRow → Type 0) (f : ReferencesFound) (k : List ℕ → Analysed) → ((names : List ℕ) → f ≡ found names → Gives P (k names)) → Gives P (on_found f k)
unfolding Gives on_found
gives-names P (found xs) k h = h xs refl
gives-names P (refused_after xs n) k h = tt

gives-root : (P : List EntryRow → Type 0) (v : Result Verdict ℕ) (k : ℕ → Analysed) → ((root : ℕ) → Tested v root → Gives P (k root)) → Gives P (on_verdict v k)
unfolding Gives on_verdict
gives-root P (Ok Live) k h = h 1 (inl (refl, refl))
gives-root P (Ok Dead) k h = h 0 (inr (refl, refl))
gives-root P (Err n) k h = tt

module _ (e : Encoding) (x : Sections) (unit : List ℕ) where
  -- the rows of items, and the unit's end is what follows these
  abbrev Right : Bool → ℕ → List ℕ → ℕ → ℕ → List Item → List EntryRow → Type 0
  Right whole k stack rb lb items rows = (whole ≡ true) × RowsOf e x unit k stack rb lb items rows

  right_end : (k : ℕ) (stack : List ℕ) (rb lb : ℕ) → Gives (Right true k stack rb lb []) (analysed [])
  unfolding Gives RowsOf
  right_end k stack rb lb = (refl, refl)

  right-onto : (whole : Bool) (k : ℕ) (stack : List ℕ) (rb lb : ℕ) (y : Entry) (rest : List Item) (r : EntryRow) (rows : List EntryRow) → RowOf e x unit stack rb lb y r
      → Right whole (suc k) (opened y.declaration.children k stack) (base_of e x unit 0x74 rb y) (base_of e x unit 0x8c lb y) rest rows
      → Right whole k stack rb lb (entry y ∷ rest) (r ∷ rows)
  unfolding RowsOf
  right-onto whole k stack rb lb y rest r rows q f = (f.0, (q, f.1))

  right-close : (whole : Bool) (k : ℕ) (stack : List ℕ) (rb lb a b : ℕ) (rest : List Item) (rows : List EntryRow)
      → Right whole k (closed stack) rb lb rest rows → Right whole k stack rb lb (terminator a b ∷ rest) rows
  unfolding RowsOf
  right-close whole k stack rb lb a b rest rows f = f

  module _ (room : Rooms) where
    abbrev RightFrom : Reached → Bool → List Item → List EntryRow → Type 0
    RightFrom p whole items rows = Right whole p.count p.stack p.rnglists_base p.loclists_base items rows

    follows : (p : Reached) (items : List Item) (whole : Bool) → Gives (RightFrom p whole items) (analyse_items e x unit room p items whole)
    unfolding analyse_items
    follows p [] true = right_end p.count p.stack p.rnglists_base p.loclists_base
    follows p [] false = gives-refused _ 4
    follows p (terminator a b ∷ rest) whole =
        let n : Reached = reached p.count p.references (closed p.stack) p.rnglists_base p.loclists_base in
        gives-map (RightFrom n whole rest) (RightFrom p whole (terminator a b ∷ rest)) _
        (λ rows f. right-close whole p.count p.stack p.rnglists_base p.loclists_base a b rest rows f)
        (follows n rest whole)
    follows p (entry y ∷ rest) whole =
        let rb : ℕ = base_of e x unit 0x74 p.rnglists_base y in
        let lb : ℕ = base_of e x unit 0x8c p.loclists_base y in
        let P : List EntryRow → Type 0 = RightFrom p whole (entry y ∷ rest) in
        pick-either (Gives P) (ltb p.count room.entries) _ _
        (λ few. gives-root P (root_of e x unit rb y) _
        (λ root by_root. gives-names P (names_of e x unit lb y) _
        (λ names q. pick-either (Gives P) (leb (p.references + length names) room.references) _ _
        (λ less. gives-onto P (Right whole (suc p.count) (opened y.declaration.children p.count p.stack) rb lb rest) _ _
        (λ rows f. right-onto whole p.count p.stack p.rnglists_base p.loclists_base y rest
        (record { offset = y.offset.0; parent = top p.stack; root = root; names = names }) rows
        (record { offset_is = refl; parent_is = refl; root_is = by_root; names_are = q }) f)
        (follows (reached (suc p.count) (p.references + length names) (opened y.declaration.children p.count p.stack) rb lb) rest whole))
        (λ _. gives-refused _ 11))))
        (λ _. gives-refused _ 10)

-- ---- of the first unit of a section, with its header and its declarations

module _ (x : Sections) (section : List ℕ) (room : Rooms) (h : UnitHeader) (ds : List Placed) (rows : List EntryRow)
    (header : header_of x.setting.big_endian section ≡ Ok (Some h)) (declared : abbreviations_of x.abbreviations h.abbreviations ≡ Some ds)
    (analysis : analysis_of x section room ≡ analysed rows) where
  abbrev own : List ℕ
  own = take h.end section

  unit-analysed : unit_analysed h.encoding x own room h.abbreviations h.first.0 ≡ analysed rows
  unfolding analysis_of header_analysed
  unit-analysed = sym (ap (header_analysed x section room) (analysed-listed x section room rows analysis ∙ header)) ∙ analysis

  items-analysed : analyse_items h.encoding x own room (start_of h.encoding) (unit_items x section h ds).0 (unit_items x section h ds).1 ≡ analysed rows
  unfolding unit_analysed on_declared
  items-analysed =
      sym (ap (λ (o : Option (List Placed)). on_declared o (λ ds.
      analyse_items h.encoding x own room (start_of h.encoding) (unit_items x section h ds).0 (unit_items x section h ds).1)) declared) ∙ unit-analysed

  right : Right h.encoding x own (unit_items x section h ds).1 0 [] (list_base h.encoding) (list_base h.encoding) (unit_items x section h ds).0 rows
  right = gives_of _ _ rows (follows h.encoding x own room (start_of h.encoding) _ _) items-analysed

  -- the items end at the unit's end
  pub items-whole : (unit_items x section h ds).1 ≡ true
  items-whole = right.0

  -- each row is that of its entry
  pub items-rows : RowsOf h.encoding x own 0 [] (list_base h.encoding) (list_base h.encoding) (unit_items x section h ds).0 rows
  items-rows = right.1

  -- how the rows stand in it
  pub own-rows : UnitRows own room h.first.0 rows
  own-rows = unit-rows h.encoding x own room h.abbreviations h.first.0 rows unit-analysed
