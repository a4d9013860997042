-- Whether any declaration declares an attribute in sec_offset; where none does, no entry does. Assumes nothing.
use mathlib.Core.Path.{◌≡◌, refl, ap, sym, ◌∙◌, subst}
use Prim.Native.Nat.{ℕ, ◌-◌, ◌<◌}
use native.Mathlib.Omega.{arith}
use mathlib.Core.Bool.{Bool, true, false, false≢true}
use mathlib.Core.List.{List, [], ◌∷◌}
use Rattle.std.specs.Prelude.{None, Option, Some}
use Rattle.readers.specs.declared.attributes.Attribute.{Attribute}
use Rattle.readers.specs.declared.abbreviations.DeclarationStep.{DeclarationStep}
use Rattle.readers.specs.declared.abbreviations.SpecStep.{SpecStep}
use Rattle.readers.specs.declared.entries.Step.{Step}
use mathlib.Core.Logic.{⊎_elim}
use lib.ListN.{length}
use lib.Dec.{eqb, ltb}
use borrow.Author.Tests.{eq-eqb, ne_eqb}
use Rattle.readers.specs.Choice.{◌and◌, ◌or◌, bind, check}
use Rattle.readers.proofs.Choice.{pick-either, pick_yes, pick_no, either}
use Rattle.readers.specs.Layout.{Read, RunOf}
use Rattle.readers.specs.Scan.{Scanned, push}
use Rattle.readers.specs.Abbreviations.{Placed, spec_at, declaration_at, declarations_from, distinct, check_distinct, abbreviations_of, declared_in, find_at}
use Rattle.readers.specs.Entries.{attribute_at, entry_found, step_of_reads, as_step, step_at}
use Rattle.readers.specs.Stream.{Item, entry, terminator}
use Rattle.readers.proofs.Specs.{attribute-inside}
use Rattle.readers.proofs.Declarations.{declaration-ahead, declarations-more, declarations-last, declarations-bad}
use Rattle.readers.specs.declared.cursor.Encoding.{Encoding}
use Rattle.readers.specs.declared.cursor.Cursor.{Cursor}
use Rattle.readers.specs.declared.abbreviations.AttributeSpec.{AttributeSpec}
use Rattle.readers.specs.declared.abbreviations.SpecStep.TheVariants.{Attribute as Spec, Last as LastSpec}
use Rattle.readers.specs.declared.abbreviations.Declaration.{Declaration}
use Rattle.readers.specs.declared.abbreviations.DeclarationStep.TheVariants.{Declaration as Declared, Last}
use Rattle.readers.specs.declared.entries.Step.TheVariants.{Entry as Entry', Terminator, End}
use Rattle.readers.specs.EntryAttributes.{Valued, on_spec, specs_from, on_attribute, values_of, entry_values}
use Rattle.readers.proofs.EntryAttributes.{specs-step}
use Rattle.marking.specs.Analysis.{Sections}
use Rattle.rewriting.specs.Indices.{declares}
use Rattle.rewriting.specs.Inner.Indices.{specs_declare, table_declares}
use Rattle.rewriting.specs.Rewriting.{Unit as Unit', item_declares, any_declares}
use Rattle.rewriting.specs.Inner.NextKept.{items_by}
use Rattle.rewriting.specs.Inner.IndexLists.{ReadAs, TablesFound, is_absent}
use Rattle.rewriting.specs.declared.kept_items.Reading.{Reading}
use Rattle.rewriting.proofs.KeptPass.ItemDepths.{EveryItem, Stands, items-stand}
use Rattle.rewriting.proofs.ListPass.IndexTurns.{item-declares, absent-named}

-- ---- the specifications from a place on

module _ (s : List ℕ) (name p₀ p : ℕ) (h : specs_declare name (specs_from s p₀) ≡ specs_declare name (specs_from s p)) (o : Option SpecStep) (q : o ≡ spec_at s p) where
  specs-turn : specs_declare name (specs_from s p₀) ≡ specs_declare name (on_spec o (λ a. a ∷ specs_from s a.next.at))
  specs-turn = h ∙ ap (specs_declare name) (specs-step s p ∙ ap (λ (o : Option SpecStep). on_spec o (λ a. a ∷ specs_from s a.next.at)) (sym q))

  pub specs-last : (c : Cursor) → o ≡ Some (LastSpec c) → false ≡ specs_declare name (specs_from s p₀)
  unfolding specs_declare on_spec
  specs-last c r = sym (specs-turn ∙ ap (λ (o : Option SpecStep). specs_declare name (on_spec o (λ a. a ∷ specs_from s a.next.at))) r)

  pub specs-bad : o ≡ None → false ≡ specs_declare name (specs_from s p₀)
  unfolding specs_declare on_spec
  specs-bad r = sym (specs-turn ∙ ap (λ (o : Option SpecStep). specs_declare name (on_spec o (λ a. a ∷ specs_from s a.next.at))) r)

  module _ (a : AttributeSpec) (r : o ≡ Some (Spec a)) where
    pub specs-less : length s - a.next.at < length s - p
    specs-less = let i = attribute-inside s p a (sym q ∙ r) in omega (arith, i.0, i.1)

    specs-more : specs_declare name (specs_from s p₀) ≡ (eqb a.name name and eqb a.form 0x17) or specs_declare name (specs_from s a.next.at)
    unfolding specs_declare on_spec
    specs-more = specs-turn ∙ ap (λ (o : Option SpecStep). specs_declare name (on_spec o (λ a. a ∷ specs_from s a.next.at))) r

    pub specs-yes : a.name ≡ name → a.form ≡ 0x17 → true ≡ specs_declare name (specs_from s p₀)
    unfolding ◌and◌ ◌or◌
    specs-yes k l = sym (specs-more ∙ rw (eq-eqb a.name name k, eq-eqb a.form 0x17 l))

    pub specs-form : a.name ≡ name → (a.form ≡ 0x17 → ⊥) → specs_declare name (specs_from s p₀) ≡ specs_declare name (specs_from s a.next.at)
    unfolding ◌and◌ ◌or◌
    specs-form k l = specs-more ∙ rw (eq-eqb a.name name k, ne_eqb a.form 0x17 l)

    pub specs-name : (a.name ≡ name → ⊥) → specs_declare name (specs_from s p₀) ≡ specs_declare name (specs_from s a.next.at)
    unfolding ◌and◌ ◌or◌
    specs-name k = specs-more ∙ rw (ne_eqb a.name name k)

-- ---- the declarations from a place on

module _ (s : List ℕ) (name : ℕ) where
  -- these are left
  pub record Left (ds : List Placed) (at : ℕ) : Type 0 where
    pub rest : Scanned Placed ℕ
    pub is : declarations_from s at ≡ Some rest
    pub same : table_declares s name ds ≡ table_declares s name rest.0

  abbrev pub Declaring : ℕ → ℕ → Type 0
  Declaring from at = (ds : List Placed) → abbreviations_of s from ≡ Some ds → Left ds at

  checked : (ds : List Placed) (r : Scanned Placed ℕ) (b : Bool) → check b (Some r.0) ≡ Some ds → r.0 ≡ ds
  unfolding check
  checked ds r true q = cc
  checked ds r false q = let z : ◌≡◌ {A = ℕ} 0 1 = cc in absurd (omega arith)

  scanned : (ds : List Placed) (at : ℕ) (o : Option (Scanned Placed ℕ)) → declarations_from s at ≡ o → bind o check_distinct ≡ Some ds → Left ds at
  unfolding bind check_distinct
  scanned ds at None e q = let z : ◌≡◌ {A = ℕ} 0 1 = cc in absurd (omega arith)
  scanned ds at (Some r) e q = record { rest = r; is = e; same = ap (table_declares s name) (sym (checked ds r (distinct r.0) q)) }

  pub declaring-start : (from : ℕ) → Declaring from from
  unfolding abbreviations_of
  declaring-start from ds q = scanned ds from (declarations_from s from) refl q

  module _ (from at : ℕ) (g : Declaring from at) (o : Option DeclarationStep) (q : o ≡ declaration_at s at) where
    pub table-last : (c : Cursor) → o ≡ Some (Last c) → (ds : List Placed) → abbreviations_of s from ≡ Some ds → false ≡ table_declares s name ds
    unfolding table_declares
    table-last c r ds k =
        let l : Left ds at = g ds k in
        let e : Some l.rest ≡ Some ([], c.at) = sym l.is ∙ declarations-last s at c (sym q ∙ r) in
        let z : l.rest ≡ ([], c.at) = cc in
        sym (l.same ∙ ap (λ (t : Scanned Placed ℕ). table_declares s name t.0) z)

    pub table-bad : o ≡ None → (ds : List Placed) → abbreviations_of s from ≡ Some ds → false ≡ table_declares s name ds
    table-bad r ds k =
        let l : Left ds at = g ds k in
        let e : Some l.rest ≡ None = sym l.is ∙ declarations-bad s at (sym q ∙ r) in
        let z : ◌≡◌ {A = ℕ} 0 1 = cc in
        absurd (omega arith)

    module _ (d : Declaration) (c : Cursor) (r : o ≡ Some (Declared d c)) where
      pub table-less : length s - c.at < length s - at
      table-less = let i = declaration-ahead s at d c (sym q ∙ r) in omega (arith, i.0, i.1)

      module _ (b : Bool) (w : b ≡ specs_declare name (specs_from s d.attributes.at)) where
        -- what is left after it
        record After (ds : List Placed) : Type 0 where
          pub rest : Scanned Placed ℕ
          pub is : declarations_from s c.at ≡ Some rest
          pub same : table_declares s name ds ≡ b or table_declares s name rest.0

        popped : (ds : List Placed) (l : Left ds at) (p : Option (Scanned Placed ℕ)) → declarations_from s c.at ≡ p → bind p (push (at, d)) ≡ Some l.rest → After ds
        unfolding bind push table_declares
        popped ds l None e k = let z : ◌≡◌ {A = ℕ} 0 1 = cc in absurd (omega arith)
        popped ds l (Some t) e k =
            let z : ((at, d) ∷ t.0, t.1) ≡ l.rest = cc in
            record {
              rest = t;
              is = e;
              same = l.same ∙ ap (λ (t : Scanned Placed ℕ). table_declares s name t.0) (sym z) ∙ ap (λ (b : Bool). b or table_declares s name t.0) (sym w);
            }

        after : (ds : List Placed) → abbreviations_of s from ≡ Some ds → After ds
        after ds k = let l : Left ds at = g ds k in popped ds l (declarations_from s c.at) refl (sym (declarations-more s at d c (sym q ∙ r)) ∙ l.is)

        pub table-yes : b ≡ true → (ds : List Placed) → abbreviations_of s from ≡ Some ds → true ≡ table_declares s name ds
        unfolding ◌or◌
        table-yes h ds k = let a : After ds = after ds k in sym (a.same ∙ ap (λ (b : Bool). b or table_declares s name a.rest.0) h)

        pub table-no : b ≡ false → Declaring from c.at
        unfolding ◌or◌
        table-no h ds k =
            let a : After ds = after ds k in
            record { rest = a.rest; is = a.is; same = a.same ∙ ap (λ (b : Bool). b or table_declares s name a.rest.0) h }

-- ---- where no declaration does, no entry does

neither : (a b : Bool) → a or b ≡ false → (a ≡ false) × (b ≡ false)
unfolding ◌or◌
neither true b q = absurd (false≢true (sym q))
neither false b q = (refl, q)

-- values have the names and forms of their specifications
value-no : (name : ℕ) (a : AttributeSpec) (o : Option Attribute) (k : ℕ → List Valued) → (eqb a.name name and eqb a.form 0x17) ≡ false → ((at : ℕ) → declares name (k at) ≡ false)
    → declares name (on_attribute a o k) ≡ false
unfolding declares on_attribute ◌or◌
value-no name a (Some v) k n h = ap (λ (b : Bool). b or declares name (k v.field.end)) n ∙ h v.field.end
value-no name a None k n h = refl

values-no : (name : ℕ) (e : Encoding) (unit : List ℕ) (specs : List AttributeSpec) → specs_declare name specs ≡ false → (at : ℕ) → declares name (values_of e unit specs at) ≡ false
unfolding specs_declare values_of declares
values-no name e unit [] h at = refl
values-no name e unit (a ∷ rest) h at =
    let n = neither (eqb a.name name and eqb a.form 0x17) (specs_declare name rest) h in
    value-no name a (attribute_at e unit at a.name a.form) (λ next. values_of e unit rest next) n.0 (λ next. values-no name e unit rest n.1 next)

-- a declaration that is found is one of the table
declared-no : (s : List ℕ) (name : ℕ) (ds : List Placed) → table_declares s name ds ≡ false → (code : ℕ) (d : Declaration) → declared_in ds code ≡ Some d
    → specs_declare name (specs_from s d.attributes.at) ≡ false
unfolding table_declares declared_in
declared-no s name [] h code d q = let z : ◌≡◌ {A = ℕ} 0 1 = cc in absurd (omega arith)
declared-no s name (p ∷ ds) h code d q =
    let n = neither (specs_declare name (specs_from s p.1.attributes.at)) (table_declares s name ds) h in
    ⊎_elim
    (λ t. let y : Some p.1 ≡ Some d = sym (pick_yes _ _ _ t) ∙ q in
    let z : p.1 ≡ d = cc in
    subst (λ (d : Declaration). specs_declare name (specs_from s d.attributes.at) ≡ false) z n.0)
    (λ t. declared-no s name ds n.1 code d (sym (pick_no _ _ _ t) ∙ q))
    (either (eqb p.1.code code))

-- an entry's declaration was found
unfoldable StepHas : (Declaration → Type 0) → Option Step → Type 0
StepHas P (Some (Entry' y)) = P y.declaration
StepHas P (Some (Terminator c)) = Unit {0}
StepHas P (Some End) = Unit {0}
StepHas P None = Unit {0}

module _ (e : Encoding) (s : List ℕ) (look : ℕ → Option Declaration) (unit : List ℕ) (P : Declaration → Type 0) (every : (code : ℕ) (d : Declaration) → look code ≡ Some d → P d) where
  found-has : (at values next code : ℕ) (f : Option Declaration) → look code ≡ f → StepHas P (entry_found e s look at values next f)
  unfolding entry_found StepHas
  found-has at values next code None q = tt
  found-has at values next code (Some d) q = every code d q

  reads-has : (at : ℕ) (rs : List Read) → StepHas P (step_of_reads e s look at rs)
  unfolding step_of_reads StepHas
  reads-has at [] = tt
  reads-has at (c ∷ rs) = pick-either (StepHas P) (eqb c.seen 0) _ _ (λ _. tt) (λ _. found-has at _ _ c.seen (look c.seen) refl)

  run-has : (at : ℕ) (o : Option RunOf) → StepHas P (as_step e s look at o)
  unfolding as_step StepHas
  run-has at None = tt
  run-has at (Some r) = reads-has at r.0

  step-has : (at : ℕ) → StepHas P (step_at e s look unit at)
  unfolding step_at StepHas
  step-has at = pick-either (StepHas P) (ltb at (length unit)) _ _ (λ _. run-has at _) (λ _. tt)

module _ (x : Sections) (u : Unit') (r : Reading) (s table unit : List ℕ) (w : ReadAs x u r s unit) (f : TablesFound u r s table) (name : ℕ) (h : table_declares s name u.declared ≡ false) where
  abbrev look : ℕ → Option Declaration
  look = find_at s r.from table

  abbrev Silent : Declaration → Type 0
  Silent d = specs_declare name (specs_from s d.attributes.at) ≡ false

  item-no : (i : Item) → Stands r.encoding s look unit i → item_declares x u name i ≡ false
  unfolding Stands item_declares StepHas entry_values
  item-no (entry y) q =
      let n : StepHas Silent (Some (Entry' y)) =
      subst (StepHas Silent) q (step-has r.encoding s look unit Silent (λ code d k. declared-no s name u.declared h code d (sym (f code) ∙ k)) y.offset.0) in
      item-declares r s table unit name x u w y ∙ values-no name r.encoding unit _ n y.values.at
  item-no (terminator a b) q = refl

  any_none : (is : List Item) → EveryItem (Stands r.encoding s look unit) is → any_declares x u name is ≡ false
  unfolding any_declares EveryItem ◌or◌
  any_none [] k = refl
  any_none (i ∷ is) k = ap (λ (b : Bool). b or any_declares x u name is) (item-no i k.0) ∙ any_none is k.1

  pub absent_none : (name ≡ 0 → ⊥) → (first : ℕ) → false ≡ is_absent x u name (items_by r s table unit first)
  absent_none n first = sym (absent-named x u name _ n ∙ any_none _ (items-stand r.encoding s look unit first))
