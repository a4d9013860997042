-- THE LAW of attributes: a kept entry's, read at its new place by the public reader, are the same but for the numbers that rewriting changes. Assumes nothing but the answer.
use mathlib.Core.Path.{◌≡◌, refl, ap, ap₂, sym, ◌∙◌, subst}
use Prim.Native.Nat.{ℕ, suc, ◌+◌, ◌-◌}
use native.Mathlib.Omega.{arith}
use mathlib.Core.Bool.{Bool}
use Rattle.std.specs.Prelude.{None, Ok, Option, Some}
use Rattle.readers.specs.declared.abbreviations.Declaration.{Declaration}
use mathlib.Core.List.{List, [], ◌∷◌, ◌++◌, append_assoc}
use mathlib.Core.Logic.{⊎_elim}
use lib.ListN.{length, drop, length-append}
use lib.Seq.{drop_at, drop-drop}
use lib.Dec.{eqb}
use Rattle.readers.specs.Choice.{pick}
use Rattle.readers.proofs.Choice.{pick_yes, pick_no, either, All, all-some, all_of, all-bind, all-triv}
use Rattle.readers.specs.Layout.{leb128, number, Layout, done, Read, RunOf, ExpressionReader, token_in, read_in, before, bytes_of, write_all, Patch, patch_pieces, patch_read, patch_all}
use Rattle.readers.proofs.LayoutLaws.{TokenLaw, token-law, FitAll, same_size}
use Rattle.readers.specs.Expression.{expression_in}
use Rattle.readers.proofs.Expression.{expression-law}
use Rattle.readers.specs.Fields.{size}
use Rattle.readers.specs.Cursors.{cursor}
use Rattle.readers.specs.Scan.{Scanned}
use Rattle.readers.specs.Abbreviations.{Placed, declared_in, attributes_from, abbreviations_of}
use Rattle.readers.specs.Header.{header_of}
use Rattle.readers.specs.declared.header.UnitHeader.{UnitHeader}
use Rattle.readers.specs.Entries.{attributes_layout, specs_layout, found_layout, entry_layout, entry_found, step_of_reads, step_at}
use Rattle.readers.specs.Stream.{Item, entry, Items}
use Rattle.readers.specs.declared.cursor.Encoding.{Encoding}
use Rattle.readers.specs.declared.abbreviations.AttributeSpec.{AttributeSpec}
use Rattle.readers.specs.declared.entries.Entry.{Entry}
use Rattle.readers.specs.declared.entries.Step.TheVariants.{Entry as Entry'}
use Rattle.readers.specs.EntryAttributes.{Valued, values_of, specs_from, entry_values}
use Rattle.marking.specs.Analysis.{Sections, EntryRow, analysed, analysis_of, values_of_entry}
use Rattle.readers.proofs.EntryAttributes.{specs-all}
use Rattle.rewriting.specs.Places.{NestedItem, offset_of, size_of, Place, places_from}
use Rattle.marking.specs.Members.{Nth, now, later}
use Rattle.laws.specs.Moved.{moved_entry, moved_item}
use Rattle.laws.specs.Inner.Moved.{moved_from}
use Rattle.rewriting.specs.Rewriting.{Unit as Unit', unit_of, items_in, reads_at, Lists, new_value, bytes_from, Room, Rewrite, rewritten, collect_of}
use Rattle.laws.specs.LeftOut.{survivors_in}
use Rattle.laws.specs.Thinned.{thinned_of}
use Rattle.laws.specs.AttributesAgain.{SameAttributes, AttributesAgain, EntryAgain}
use Rattle.rewriting.proofs.KeptPass.DeepReads.{deep_step}
use Rattle.rewriting.proofs.KeptPass.ItemDepths.{Every, Stands, kept-stand}
use Rattle.laws.proofs.Again.Rereading.{Rewritable, rewritable, deep-read, length-written}
use Rattle.laws.proofs.Again.ReadsAgain.{patched}
use Rattle.laws.proofs.Again.Fitting.{none-refused}
use Rattle.laws.proofs.Again.Accepted.{WasRewritten}
use Rattle.laws.proofs.Again.CollectLaws as Laws
use Rattle.laws.proofs.Thinned.HeaderBytes.{header-part, header-size, output-is}
use Rattle.laws.proofs.Attributes.AttributesAgain.{ValuesTwice, values-twice}

-- ---- an entry that was read deep: its code, and the values of its specifications

module _ (e : Encoding) (x : Sections) (look : ℕ → Option Declaration) (unit : List ℕ) where
  abbrev big : Bool
  big = e.big_endian

  abbrev ex : ExpressionReader
  ex = expression_in e

  pub record SpecsRead (p : ℕ) (s : List ℕ) (rs : List Read) (rest : List ℕ) : Type 0 where
    pub specs : List AttributeSpec
    pub are : specs_from x.abbreviations p ≡ specs
    pub reads : read_in big ex (attributes_layout e specs) s ≡ Some (rs, rest)

  by-specs : (p : ℕ) (o : Option (Scanned AttributeSpec ℕ)) → attributes_from x.abbreviations p ≡ o → (s : List ℕ) (rs : List Read) (rest : List ℕ)
      → read_in big ex (specs_layout e o) s ≡ Some (rs, rest) → SpecsRead p s rs rest
  unfolding specs_layout read_in
  by-specs p None q s rs rest h = let z : ◌≡◌ {A = ℕ} 0 1 = cc in absurd (omega arith)
  by-specs p (Some r) q s rs rest h = record { specs = r.0; are = specs-all x.abbreviations p r q; reads = h }

  by-found : (at values next : ℕ) (y : Entry) (s : List ℕ) (rs : List Read) (rest : List ℕ) (o : Option Declaration) → entry_found e x.abbreviations look at values next o ≡ Some (Entry' y)
      → read_in big ex (found_layout e x.abbreviations look o) s ≡ Some (rs, rest) → (y.values.at ≡ values) × SpecsRead y.declaration.attributes.at s rs rest
  unfolding entry_found found_layout
  by-found at values next y s rs rest None q h = let z : ◌≡◌ {A = ℕ} 0 1 = cc in absurd (omega arith)
  by-found at values next y s rs rest (Some d) q h =
      let z : record { offset = record { 0 = at }; declaration = d; values = cursor values; next = cursor next } ≡ y = cc in (
        sym (ap (λ (k : Entry). k.values.at) z),
        subst (λ (k : Entry). SpecsRead k.declaration.attributes.at s rs rest) z (by-specs d.attributes.at (attributes_from x.abbreviations d.attributes.at) refl s rs rest h),
      )

  pub record Headed (at : ℕ) (y : Entry) (rs : List Read) (rest : List ℕ) : Type 0 where
    pub code : Read
    pub others : List Read
    pub both : rs ≡ code ∷ others
    pub values : y.values.at ≡ at + size big code
    pub read : SpecsRead y.declaration.attributes.at (drop (at + size big code) unit) others rest

  module _ (at : ℕ) (y : Entry) where
    abbrev Step' : RunOf → Type 0
    Step' r = step_of_reads e x.abbreviations look at r.0 ≡ Some (Entry' y) → Headed at y r.0 r.1

    abbrev code_layout : ℕ → Layout
    code_layout code = pick (eqb code 0) done (found_layout e x.abbreviations look (look code))

    after-code : (c : Read) (mid : List ℕ) → mid ≡ drop (at + size big c) unit → (rs : List Read) (rest : List ℕ) → read_in big ex (code_layout c.seen) mid ≡ Some (rs, rest)
        → step_of_reads e x.abbreviations look at (c ∷ rs) ≡ Some (Entry' y) → Headed at y (c ∷ rs) rest
    unfolding step_of_reads
    after-code c mid i rs rest h q =
        ⊎_elim
        (λ t. let z = sym (pick_yes _ _ _ t) ∙ q in let n : ◌≡◌ {A = ℕ} 0 1 = cc in absurd (omega arith))
        (λ t. let f : (y.values.at ≡ at + size big c) × SpecsRead y.declaration.attributes.at (drop (at + size big c) unit) rs rest =
        by-found at (at + size big c) (at + size big c + length (write_all big rs)) y (drop (at + size big c) unit) rs rest (look c.seen) (sym (pick_no _ _ _ t) ∙ q)
        (ap₂ (λ (g : Layout) (s : List ℕ). read_in big ex g s) (sym (pick_no _ _ _ t)) (sym i) ∙ h) in
        record { code = c; others = rs; both = refl; values = f.0; read = f.1 })
        (either (eqb c.seen 0))

    headed-all : All Step' (read_in big ex (entry_layout e x.abbreviations look) (drop at unit))
    unfolding entry_layout read_in before size
    headed-all =
        let s : List ℕ = drop at unit in
        all-bind (TokenLaw big ex (number leb128) s) Step' (token_in big ex (number leb128) s) _ (token-law big ex (expression-law e) (number leb128) s)
        (λ c q law. all-bind (λ _. Unit {0}) Step' (read_in big ex (code_layout c.0.seen) c.1) (before c.0) (all-triv _)
        (λ r p _. all-some Step' (after-code c.0 c.1 (law.0.1 ∙ drop-drop (size big c.0) at unit) r.0 r.1 p)))

    pub headed : (rs : List Read) (rest : List ℕ) → read_in big ex (entry_layout e x.abbreviations look) (drop at unit) ≡ Some (rs, rest)
        → step_at e x.abbreviations look unit at ≡ Some (Entry' y) → Headed at y rs rest
    headed rs rest d q = all_of Step' headed-all d (sym (deep_step e x.abbreviations look ex (expression-law e) unit at rs rest d) ∙ q)

  -- ---- an entry, and the same patched at another place

  entry-twice : (f : Patch) (output : List ℕ) (y : Entry) (new : ℕ) (rs : List Read) (rest back : List ℕ) → step_at e x.abbreviations look unit y.offset.0 ≡ Some (Entry' y)
      → read_in big ex (entry_layout e x.abbreviations look) (drop y.offset.0 unit) ≡ Some (rs, rest) → FitAll f rs → drop new output ≡ write_all big (patch_all f rs) ++ back
      → AttributesAgain f e x unit output new y
  unfolding values_of_entry entry_values moved_entry FitAll write_all patch_all patch_read size
  entry-twice f output y new rs rest back q d fit h =
      let old : ℕ = y.offset.0 in
      let g : Headed old y rs rest = headed old y rs rest d q in
      let w : ℕ = size big g.code in
      let p : List ℕ = bytes_of big (patch_pieces f g.code.pieces) in
      let r : List ℕ = write_all big (patch_all f g.others) in
      let fits : FitAll f (g.code ∷ g.others) = subst (FitAll f) g.both fit in
      let h₁ : drop new output ≡ p ++ (r ++ back) = h ∙ ap (λ (l : List Read). write_all big (patch_all f l) ++ back) g.both ∙ append_assoc p r back in
      let i : drop (new + w) output ≡ r ++ back = sym (drop-drop w new output) ∙ ap (drop w) h₁ ∙ drop_at p (r ++ back) w (same_size big f g.code.pieces) in
      let t : ValuesTwice e f unit output g.read.specs (old + w) (new + w) =
      values-twice e f unit output g.read.specs (old + w) (new + w) g.others rest back g.read.reads fits.1 i in
      let v : y.values.at ≡ old + w = g.values in
      let m : new + (y.values.at - y.offset.0) ≡ new + w = omega arith in
      let a : values_of e unit (specs_from x.abbreviations y.declaration.attributes.at) y.values.at ≡ values_of e unit g.read.specs (old + w) =
      ap₂ (λ (l : List AttributeSpec) (n : ℕ). values_of e unit l n) g.read.are v in
      let b : values_of e output (specs_from x.abbreviations y.declaration.attributes.at) (new + (y.values.at - y.offset.0)) ≡ values_of e output g.read.specs (new + w) =
      ap₂ (λ (l : List AttributeSpec) (n : ℕ). values_of e output l n) g.read.are m in
      record {
        each = ap length a ∙ t.each ∙ ap length (sym g.read.are);
        same =
            subst (λ (l : List Valued). SameAttributes f e old new unit output l (values_of e output (specs_from x.abbreviations y.declaration.attributes.at) (new + (y.values.at - y.offset.0)))) (sym a)
            (subst (λ (l : List Valued). SameAttributes f e old new unit output (values_of e unit g.read.specs (old + w)) l) (sym b)
            (t.same old new (let z : new + w + old ≡ old + w + new = omega arith in z)));
      }

-- ---- where a kept item comes to stand, by its number

module _ (x : Sections) (u : Unit') (lists : Lists) (places : List Place) (unit : List ℕ) where
  pub record PlacedItem (n : ℕ) (kept : List NestedItem) (m : ℕ) (s : NestedItem) : Type 0 where
    pub new : ℕ
    pub front : List ℕ
    pub back : List ℕ
    pub long : length front ≡ new
    pub bytes : unit ≡ front ++ (write_all u.header.encoding.big_endian (patched x u lists places s) ++ back)
    pub place : Nth (record { old = offset_of s.item; new = new; depth = s.depth }) m (places_from n kept)
    pub item : Nth (moved_item new s.item) m (moved_from n kept)
    pub could : Rewritable x u lists places s

  placed-next : (n : ℕ) (t : NestedItem) (kept : List NestedItem) (m : ℕ) (s : NestedItem) → PlacedItem (n + size_of t.item) kept m s → PlacedItem n (t ∷ kept) (suc m) s
  unfolding places_from moved_from
  placed-next n t kept m s p =
      record { new = p.new; front = p.front; back = p.back; long = p.long; bytes = p.bytes; place = later p.place; item = later p.item; could = p.could }

  pub placed_at : (kept : List NestedItem) → Every (Rewritable x u lists places) kept → (front : List ℕ) (n : ℕ) → length front ≡ n → unit ≡ front ++ bytes_from x u lists places kept
      → (m : ℕ) (s : NestedItem) → Nth s m kept → PlacedItem n kept m s
  unfolding Every bytes_from places_from moved_from
  placed_at [] h front n l q m s i = elim i [ ]
  placed_at (t ∷ kept) h front n l q m s (now e) =
      subst (PlacedItem n (t ∷ kept) 0) (sym e)
      (record { new = n; front = front; back = bytes_from x u lists places kept; long = l; bytes = q; place = now refl; item = now refl; could = h.0 })
  placed_at (t ∷ kept) h front n l q m s (later {n = j} i) =
      let w : List ℕ = write_all u.header.encoding.big_endian (patched x u lists places t) in
      placed-next n t kept j s
      (placed_at kept h.1 (front ++ w) (n + size_of t.item) (length-append front w ∙ ap₂ ◌+◌ l (length-written x u lists places t h.0))
      (q ∙ sym (append_assoc front w (bytes_from x u lists places kept))) j s i)

-- ---- a rewritten unit

module _ (x : Sections) (room : Room) (type_units : Bool) (section : List ℕ) (w : Rewrite) (answer : collect_of x room type_units section ≡ rewritten w) where
  abbrev o : WasRewritten x room type_units section w
  o = Laws.it x room type_units section w answer

  abbrev u : Unit'
  u = Laws.unit x room type_units section w answer

  abbrev ks : List NestedItem
  ks = Laws.kept x room type_units section w answer

  abbrev first : ℕ
  first = Laws.start x room type_units section w answer

  every : Every (Rewritable x u w.lists w.map) ks
  unfolding items_in
  every =
      rewritable x u w.lists w.map ks
      (kept-stand o.header.encoding x.abbreviations (declared_in o.declared) u.bytes (Laws.marks x room type_units section w answer) 0 [] first)
      (Laws.readable-law x room type_units section w answer)
      (none-refused x u w.lists w.map ks o.none-refused)

  -- the m-th kept item, the m-th place, the m-th item read again, and the bytes that are written of it
  pub placed : (m : ℕ) (s : NestedItem) → Nth s m ks → PlacedItem x u w.lists w.map w.output first ks m s
  placed =
      placed_at x u w.lists w.map w.output ks every (header-part x room type_units section w answer) first (header-size x room type_units section w answer)
      (output-is x room type_units section w answer)

  entry-again : (m : ℕ) (s : NestedItem) (y : Entry) → s.item ≡ entry y → PlacedItem x u w.lists w.map w.output first ks m s
      → EntryAgain w.lists w.map o.header.encoding x u.bytes w.output (items_in x (Laws.again x room type_units section w answer)) m s y
  unfolding items_in offset_of moved_item Stands
  entry-again m s y q p =
      let e : Encoding = o.header.encoding in
      let f : Patch = new_value w.lists w.map s.depth in
      record {
        new = p.new;
        place = subst (λ (z : List Place). Nth (record { old = y.offset.0; new = p.new; depth = s.depth }) m z) (sym o.map_is)
            (subst (λ (i : Item). Nth (record { old = offset_of i; new = p.new; depth = s.depth }) m (places_from first ks)) q p.place);
        item = subst (λ (z : List Item). Nth (entry (moved_entry p.new y)) m z) (sym (ap (λ (z : Items). z.0) (Laws.again-law x room type_units section w answer).items))
            (subst (λ (i : Item). Nth (moved_item p.new i) m (moved_from first ks)) q p.item);
        attributes =
            entry-twice e x (declared_in o.declared) u.bytes f w.output y p.new (reads_at x u (offset_of s.item)) p.could.deep.run.1 p.back
            (subst (Stands e x.abbreviations (declared_in o.declared) u.bytes) q p.could.stands)
            (ap (λ (i : Item). read_in e.big_endian (expression_in e) (entry_layout e x.abbreviations (declared_in o.declared)) (drop (offset_of i) u.bytes)) (sym q)
            ∙ deep-read x u w.lists w.map s p.could)
            p.could.fit
            (ap (drop p.new) p.bytes ∙ drop_at p.front _ p.new p.long);
      }

  pub kept_again : (m : ℕ) (s : NestedItem) (y : Entry) → Nth s m ks → s.item ≡ entry y
      → EntryAgain w.lists w.map o.header.encoding x u.bytes w.output (items_in x (Laws.again x room type_units section w answer)) m s y
  kept_again m s y i q = entry-again m s y q (placed m s i)

  -- "Read again, a rewritten unit is the old tree less its dead entries, with order, nesting and, as document 01 has it, values kept.": the attributes of the m-th kept item, an entry, by the
  -- public reader of attributes at its new place
  pub attributes-law : (h : UnitHeader) (ds : List Placed) (rows : List EntryRow) → header_of x.setting.big_endian section ≡ Ok (Some h)
      → abbreviations_of x.abbreviations h.abbreviations ≡ Some ds → analysis_of x section room.tables ≡ analysed rows
      → (m : ℕ) (s : NestedItem) (y : Entry) → Nth s m (survivors_in x (unit_of h section ds) rows) → s.item ≡ entry y
      → EntryAgain w.lists w.map h.encoding x (unit_of h section ds).bytes w.output (items_in x (thinned_of h w.output ds)) m s y
  unfolding items_in
  attributes-law =
      Laws.of-read x room type_units section w answer
      (λ (h : UnitHeader) (ds : List Placed) (rows : List EntryRow). (m : ℕ) (s : NestedItem) (y : Entry)
      → Nth s m (survivors_in x (unit_of h section ds) rows) → s.item ≡ entry y
      → EntryAgain w.lists w.map h.encoding x (unit_of h section ds).bytes w.output (items_in x (thinned_of h w.output ds)) m s y) kept_again
