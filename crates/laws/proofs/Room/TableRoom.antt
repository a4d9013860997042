-- An analysis that was accepted with some tables, with others: as long as they must be it is the same; one too short in entries alone is 10, in references alone 11.
-- With tables that are enough for the input it is neither. Assumes nothing.
use mathlib.Core.Path.{◌≡◌, refl, ap, sym, ◌∙◌, subst}
use Prim.Native.Nat.{ℕ, zero, suc, ◌+◌, ◌-◌, ◌≤◌, ◌<◌}
use native.Mathlib.Omega.{arith}
use mathlib.Core.Bool.{Bool, true, false}
use mathlib.Core.List.{List, [], ◌∷◌, ◌++◌}
use mathlib.Core.Logic.{⊎_elim}
use Rattle.std.specs.Prelude.{Err, None, Ok, Option, Result, Some}
use lib.ListN.{length, take, length-append}
use lib.Seq.{take_all}
use lib.Dec.{ltb, leb}
use mir.Facts.{ltb_yes, ltb_no, leb_yes, leb_no, yes_ltb, yes_leb}
use Rattle.readers.specs.Choice.{pick, ◌and◌, ◌or◌}
use Rattle.readers.proofs.Choice.{pick-either, pick_yes, pick_no, either}
use Rattle.readers.specs.Header.{header_of}
use Rattle.readers.specs.Abbreviations.{Placed, declared_in, abbreviations_of}
use Rattle.readers.specs.Nesting.{opened, closed, top}
use Rattle.readers.specs.Stream.{Item, entry, terminator, items_from, entry_count}
use Rattle.readers.specs.declared.cursor.Encoding.{Encoding}
use Rattle.readers.specs.declared.entries.Entry.{Entry}
use Rattle.readers.specs.declared.header.UnitHeader.{UnitHeader}
use Rattle.laws.proofs.Refusals.ReaderRefusals.{is_one_of, are_of, one_of, wider, HeaderNumbered, list-refusal, early-numbered, early_numbers}
use Rattle.marking.specs.EntryReferences.{ReferencesFound, found}
use Rattle.marking.specs.Analysis.{Sections, Rooms, EntryRow, Analysed, analysed, refused, onto, on_verdict, on_found, Reached, reached, start_of, root_of, names_of, base_of, analyse_items, on_declared, unit_analysed, header_analysed, analysis_of, header_by}
use Rattle.marking.specs.Columns.{names_in}
use Rattle.laws.specs.RefusalNumbers.{input_numbers, InputRefusal, list_numbers}
use Rattle.laws.specs.TableRoom.{TablesWithin, tables_for, TableLaw, found_count, reference_count, declared_tables, header_tables, enough_tables}
use Rattle.marking.proofs.Rows.{Gives, gives_of, gives-onto, gives-map, gives-refused, UnitRows, analysis-rows}
use Rattle.laws.proofs.Refusals.MarkingRefusals.{either-failure, AnalysedOf, analysed-of, none_of, rows_of, onto-of, verdict-of}
use Rattle.laws.proofs.Refusals.MarkingRefusals.{names-of, root-of, references-of, declared_analysed}
use Rattle.marking.proofs.ListedHeaders.{by-list, header-taken}
use Rattle.collector.proofs.LargerTables.{both-verdict, both_found}

-- the references of the first entries
abbrev pub names_of_first : ℕ → List EntryRow → ℕ
names_of_first n rows = length (names_in (take n rows))

first-none : (n m : ℕ) (rows : List EntryRow) → n ≤ m → names_of_first (n - m) rows ≡ 0
unfolding names_in
first-none n m rows h =
    let e : n - m ≡ 0 = omega arith in
    ap (λ (k : ℕ). names_of_first k rows) e

first-all : (n : ℕ) (rows : List EntryRow) → names_of_first (n - 0) rows ≡ names_of_first n rows
first-all n rows =
    let e : n - 0 ≡ n = omega arith in
    ap (λ (k : ℕ). names_of_first k rows) e

first-end : (n : ℕ) → names_of_first n [] ≡ 0
unfolding names_in
first-end zero = refl
first-end (suc n) = refl

first_more : (n m : ℕ) (row : EntryRow) (rows : List EntryRow) → m < n → names_of_first (n - m) (row ∷ rows) ≡ length row.names + names_of_first (n - suc m) rows
unfolding names_in
first_more n m row rows h =
    let e : n - m ≡ suc (n - suc m) = omega arith in
    ap (λ (k : ℕ). names_of_first k (row ∷ rows)) e ∙ length-append row.names (names_in (take (n - suc m) rows))

pub first-most : (n : ℕ) (rows : List EntryRow) → names_of_first n rows ≤ length (names_in rows)
unfolding names_in
first-most zero rows = omega arith
first-most (suc n) [] = omega arith
first-most (suc n) (row ∷ rows) =
    omega (arith, length-append row.names (names_in (take n rows)), length-append row.names (names_in rows), first-most n rows)

-- what an analysis with the tables r answers where one with others gave these rows, after so many entries and references
record Told (count refs : ℕ) (rows : List EntryRow) (r : Rooms) (a : Analysed) : Type 0 where
  pub enough : count + length rows ≤ r.entries → refs + length (names_in rows) ≤ r.references → a ≡ analysed rows
  pub full_entries : count ≤ r.entries → r.entries < count + length rows → refs + names_of_first (r.entries - count) rows ≤ r.references → a ≡ refused 10
  pub full_references : refs ≤ r.references → r.references < refs + names_of_first (r.entries - count) rows → a ≡ refused 11

-- the same of an entry for which there is room
record Inner (count refs : ℕ) (rows : List EntryRow) (r : Rooms) (a : Analysed) : Type 0 where
  pub some-row : 0 < length rows
  pub enough : count + length rows ≤ r.entries → refs + length (names_in rows) ≤ r.references → a ≡ analysed rows
  pub full_entries : count < r.entries → r.entries < count + length rows → refs + names_of_first (r.entries - count) rows ≤ r.references → a ≡ refused 10
  pub full_references : count < r.entries → refs ≤ r.references → r.references < refs + names_of_first (r.entries - count) rows → a ≡ refused 11

module _ (r : Rooms) (count refs : ℕ) where
  told-end : Told count refs [] r (analysed [])
  told-end =
      record {
        enough = λ h k. refl;
        full_entries = λ l h k. absurd (omega arith);
        full_references = λ l h. absurd (omega (arith, first-end (r.entries - count)));
      }

  outer : (rows : List EntryRow) (a : Analysed) → Inner count refs rows r a → Told count refs rows r (pick (ltb count r.entries) a (refused 10))
  outer rows a i =
      record {
        enough = λ h k. pick_yes _ _ _ (yes_ltb (let l : count < r.entries = omega (arith, i.some-row) in l)) ∙ i.enough h k;
        full_entries = λ l h k.
            ⊎_elim (λ t. pick_yes _ _ _ t ∙ i.full_entries (ltb_yes t) h k) (λ t. pick_no _ _ _ t) (either (ltb count r.entries));
        full_references = λ l h.
            ⊎_elim (λ t. pick_yes _ _ _ t ∙ i.full_references (ltb_yes t) l h)
            (λ t. absurd (omega (arith, first-none r.entries count rows (ltb_no {a = count} {b = r.entries} t))))
            (either (ltb count r.entries));
      }

  more : (row : EntryRow) (rows : List EntryRow) (a : Analysed) → Told (suc count) (refs + length row.names) rows r a
      → Inner count refs (row ∷ rows) r (pick (leb (refs + length row.names) r.references) (onto row a) (refused 11))
  unfolding names_in onto
  more row rows a t =
      let n : length (row.names ++ names_in rows) ≡ length row.names + length (names_in rows) = length-append row.names (names_in rows) in
      record {
        some-row = (let z : 0 < suc (length rows) = omega arith in z);
        enough = λ h k.
            let h' : count + suc (length rows) ≤ r.entries = h in
            let k' : refs + length (row.names ++ names_in rows) ≤ r.references = k in
            pick_yes _ _ _ (yes_leb (let l : refs + length row.names ≤ r.references = omega arith in l)) ∙ ap (onto row) (t.enough (omega arith) (omega arith));
        full_entries = λ l h k.
            let h' : r.entries < count + suc (length rows) = h in
            let f : names_of_first (r.entries - count) (row ∷ rows) ≡ length row.names + names_of_first (r.entries - suc count) rows =
            first_more r.entries count row rows l in
            let k' : refs + names_of_first (r.entries - count) (row ∷ rows) ≤ r.references = k in
            pick_yes _ _ _ (yes_leb (let l : refs + length row.names ≤ r.references = omega arith in l))
            ∙ ap (onto row) (t.full_entries (omega arith) (omega arith) (omega arith));
        full_references = λ c l h.
            let f : names_of_first (r.entries - count) (row ∷ rows) ≡ length row.names + names_of_first (r.entries - suc count) rows =
            first_more r.entries count row rows c in
            let h' : r.references < refs + names_of_first (r.entries - count) (row ∷ rows) = h in
            ⊎_elim
            (λ y. pick_yes _ _ _ y ∙ ap (onto row) (t.full_references (leb_yes y) (omega arith)))
            (λ y. pick_no _ _ _ y) (either (leb (refs + length row.names) r.references));
      }

end-given : (P : List EntryRow → Type 0) → P [] → Gives P (analysed [])
unfolding Gives
end-given P h = h

module _ (x : Sections) (w r : Rooms) where
  module _ (e : Encoding) (unit : List ℕ) where
    abbrev row_by : Reached → Entry → ℕ → List ℕ → EntryRow
    row_by p y root names = record { offset = y.offset.0; parent = top p.stack; root = root; names = names }

    abbrev onward : Reached → Entry → List ℕ → Reached
    onward p y names =
        reached (suc p.count) (p.references + length names) (opened y.declaration.children p.count p.stack) (base_of e x unit 0x74 p.rnglists_base y) (base_of e x unit 0x8c p.loclists_base y)

    abbrev after_names : Rooms → Reached → Entry → List Item → Bool → ℕ → List ℕ → Analysed
    after_names room p y rest whole root names =
        pick (leb (p.references + length names) room.references) (onto (row_by p y root names) (analyse_items e x unit room (onward p y names) rest whole)) (refused 11)

    abbrev after_root : Rooms → Reached → Entry → List Item → Bool → ℕ → Analysed
    after_root room p y rest whole root = on_found (names_of e x unit (base_of e x unit 0x8c p.loclists_base y) y) (after_names room p y rest whole root)

    abbrev of_entry : Rooms → Reached → Entry → List Item → Bool → Analysed
    of_entry room p y rest whole = on_verdict (root_of e x unit (base_of e x unit 0x74 p.rnglists_base y) y) (after_root room p y rest whole)

    items-told : (p : Reached) (items : List Item) (whole : Bool)
        → Gives (λ rows. Told p.count p.references rows r (analyse_items e x unit r p items whole)) (analyse_items e x unit w p items whole)
    unfolding analyse_items
    items-told p [] true = end-given _ (told-end r p.count p.references)
    items-told p [] false = gives-refused _ 4
    items-told p (terminator s t ∷ rest) whole = items-told (reached p.count p.references (closed p.stack) p.rnglists_base p.loclists_base) rest whole
    items-told p (entry y ∷ rest) whole =
        let P : List EntryRow → Type 0 = (λ rows. Told p.count p.references rows r (pick (ltb p.count r.entries) (of_entry r p y rest whole) (refused 10))) in
        let I : Analysed → List EntryRow → Type 0 = (λ b rows. Inner p.count p.references rows r b) in
        let Q : Analysed → Analysed → Type 0 = (λ a b. Gives (I b) a) in
        pick-either (Gives P) (ltb p.count w.entries) (of_entry w p y rest whole) (refused 10)
        (λ _. gives-map (I (of_entry r p y rest whole)) P (of_entry w p y rest whole) (λ rows i. outer r p.count p.references rows (of_entry r p y rest whole) i)
        (both-verdict Q (root_of e x unit (base_of e x unit 0x74 p.rnglists_base y) y) (after_root w p y rest whole) (after_root r p y rest whole)
        (λ root. both_found Q (names_of e x unit (base_of e x unit 0x8c p.loclists_base y) y) (after_names w p y rest whole root) (after_names r p y rest whole root)
        (λ names.
        pick-either (λ (a : Analysed). Q a (after_names r p y rest whole root names))
        (leb (p.references + length names) w.references) (onto (row_by p y root names) (analyse_items e x unit w (onward p y names) rest whole)) (refused 11)
        (λ _. gives-onto (I (after_names r p y rest whole root names))
        (λ rows. Told (suc p.count) (p.references + length names) rows r (analyse_items e x unit r (onward p y names) rest whole))
        (row_by p y root names) (analyse_items e x unit w (onward p y names) rest whole)
        (λ rows t. more r p.count p.references (row_by p y root names) rows (analyse_items e x unit r (onward p y names) rest whole) t)
        (items-told (onward p y names) rest whole))
        (λ _. gives-refused (I (after_names r p y rest whole root names)) 11))
        (λ n. gives-refused (I (refused n)) n))
        (λ n. gives-refused (I (refused n)) n)))
        (λ _. gives-refused P 10)

    declared-told : (first : ℕ) (o : Option (List Placed))
        → Gives (λ rows. Told 0 0 rows r (on_declared o (λ ds. analyse_items e x unit r (start_of e) (items_from e x.abbreviations (declared_in ds) unit first).0 (items_from e x.abbreviations (declared_in ds) unit first).1)))
        (on_declared o (λ ds. analyse_items e x unit w (start_of e) (items_from e x.abbreviations (declared_in ds) unit first).0 (items_from e x.abbreviations (declared_in ds) unit first).1))
    unfolding on_declared
    declared-told first None = gives-refused _ 3
    declared-told first (Some ds) = items-told (start_of e) (items_from e x.abbreviations (declared_in ds) unit first).0 (items_from e x.abbreviations (declared_in ds) unit first).1

  header-told : (section : List ℕ) (o : Result (Option UnitHeader) ℕ) → Gives (λ rows. Told 0 0 rows r (header_analysed x section r o)) (header_analysed x section w o)
  unfolding header_analysed unit_analysed
  header-told section (Ok None) = end-given _ (told-end r 0 0)
  header-told section (Err n) = gives-refused _ n
  header-told section (Ok (Some u)) = declared-told u.encoding (take u.end section) u.first.0 (abbreviations_of x.abbreviations u.abbreviations)

  rooms-told : (section : List ℕ) (rows : List EntryRow) → analysis_of x section w ≡ analysed rows → Told 0 0 rows r (analysis_of x section r)
  unfolding analysis_of
  rooms-told section rows q = gives_of _ _ rows (header-told section (header_by x section)) q

-- THE law of lent tables
pub table-law : (x : Sections) (w : Rooms) (section : List ℕ) (rows : List EntryRow) → analysis_of x section w ≡ analysed rows → TableLaw x section rows
table-law x w section rows q =
    record {
      enough = λ r t. (rooms-told x w r section rows q).enough (omega (arith, t.entries)) (omega (arith, t.references));
      full_entries = λ r h k. (rooms-told x w r section rows q).full_entries (omega arith) (omega arith) (omega (arith, first-all r.entries rows));
      full_references = λ r h. (rooms-told x w r section rows q).full_references (omega arith) (omega (arith, first-all r.entries rows));
    }

-- where all but one is enough: too few entries are 10, too few references 11
module _ (x : Sections) (section : List ℕ) (rows : List EntryRow) (law : TableLaw x section rows) (lent : Rooms) where
  pub few-entries : lent.entries < length rows → length (names_in rows) ≤ lent.references → analysis_of x section lent ≡ refused 10
  few-entries h k = law.full_entries lent h (omega (arith, first-most lent.entries rows))

  pub few-references : length rows ≤ lent.entries → lent.references < length (names_in rows) → analysis_of x section lent ≡ refused 11
  few-references h k = law.full_references lent (subst (λ (l : List EntryRow). lent.references < length (names_in l)) (sym (take_all lent.entries rows h)) k)

-- those that it was lent are long enough
pub tables-lent : (x : Sections) (w : Rooms) (section : List ℕ) (rows : List EntryRow) → analysis_of x section w ≡ analysed rows → TablesWithin (tables_for rows) w
tables-lent x w section rows q =
    let u : UnitRows section w 0 rows = analysis-rows x section w rows q in
    record { entries = u.entries; references = u.references }

-- ---- with tables that are enough for the input, neither 10 nor 11

found-count : (f : ReferencesFound) (xs : List ℕ) → f ≡ found xs → found_count f ≡ length xs
unfolding found_count
found-count f xs q = ap found_count q

module _ (e : Encoding) (x : Sections) (unit : List ℕ) (room : Rooms) where
  items-input : (p : Reached) (items : List Item) (whole : Bool)
      → p.count + entry_count items ≤ room.entries → p.references + reference_count e x unit p.loclists_base items ≤ room.references
      → AnalysedOf input_numbers (analyse_items e x unit room p items whole)
  unfolding analyse_items entry_count reference_count is_one_of are_of ◌or◌ ◌and◌
  items-input p [] true h k = rows_of input_numbers []
  items-input p [] false h k = none_of input_numbers 4 (one_of input_numbers 4 tt)
  items-input p (terminator a b ∷ rest) whole h k =
      items-input (reached p.count p.references (closed p.stack) p.rnglists_base p.loclists_base) rest whole h k
  items-input p (entry y ∷ rest) whole h k =
      let h' : p.count + suc (entry_count rest) ≤ room.entries = h in
      let k' : p.references + (found_count (names_of e x unit (base_of e x unit 0x8c p.loclists_base y) y) + reference_count e x unit (base_of e x unit 0x8c p.loclists_base y) rest) ≤ room.references = k in
      pick-either (AnalysedOf input_numbers) (ltb p.count room.entries) _ _
      (λ _. verdict-of input_numbers _ _ (root-of e x unit input_numbers (one_of input_numbers 5 tt) (either-failure input_numbers x.addresses tt) _ y)
      (λ root. names-of input_numbers (λ n q. wider (5 ∷ 7 ∷ []) input_numbers n tt q) _ _ (references-of e x unit _ y)
      (λ names q.
      let c : found_count (names_of e x unit (base_of e x unit 0x8c p.loclists_base y) y) ≡ length names = found-count _ names q in
      pick-either (AnalysedOf input_numbers) (leb (p.references + length names) room.references) _ _
      (λ _. onto-of input_numbers _ _ (items-input (onward x room room e unit p y names) rest whole (omega arith) (omega arith)))
      (λ f. absurd (omega (arith, leb_no {a = p.references + length names} {b = room.references} f))))))
      (λ f. absurd (omega (arith, ltb_no {a = p.count} {b = room.entries} f)))

module _ (x : Sections) (section : List ℕ) (room : Rooms) where
  declared-input : (h : UnitHeader) (o : Option (List Placed)) → TablesWithin (declared_tables h.encoding x (take h.end section) h.first.0 o) room
      → AnalysedOf input_numbers (declared_analysed x section room h o)
  unfolding on_declared declared_tables is_one_of ◌or◌
  declared-input h None t = none_of input_numbers 3 (one_of input_numbers 3 tt)
  declared-input h (Some ds) t =
      items-input h.encoding x (take h.end section) room (start_of h.encoding) _ _ (omega (arith, t.entries)) (omega (arith, t.references))

  header-input : (h : Result (Option UnitHeader) ℕ) → HeaderNumbered early_numbers h → TablesWithin (header_tables x section h) room → AnalysedOf input_numbers (header_analysed x section room h)
  unfolding header_analysed unit_analysed header_tables HeaderNumbered is_one_of are_of ◌or◌ ◌and◌
  header-input (Ok None) q t = rows_of input_numbers []
  header-input (Err n) q t = none_of input_numbers n (wider early_numbers input_numbers n tt q)
  header-input (Ok (Some h)) q t = declared-input h (abbreviations_of x.abbreviations h.abbreviations) t

  list-input : TablesWithin (enough_tables x section) room → AnalysedOf input_numbers (header_analysed x section room (header_by x section))
  unfolding header_analysed enough_tables is_one_of are_of ◌or◌ ◌and◌
  list-input t =
      by-list x section (λ (o : Result (Option UnitHeader) ℕ). AnalysedOf input_numbers (header_analysed x section room o))
      (λ z. header-input (header_of x.setting.big_endian section) (subst (HeaderNumbered early_numbers) (header-taken x section z) (early-numbered x section)) t)
      (λ n. none_of input_numbers _ (wider list_numbers input_numbers _ tt (list-refusal x.keep n)))

  pub enough-tables : TablesWithin (enough_tables x section) room → (n : ℕ) → analysis_of x section room ≡ refused n → InputRefusal n
  unfolding analysis_of
  enough-tables t n q = analysed-of input_numbers (analysis_of x section room) n (list-input t) q
