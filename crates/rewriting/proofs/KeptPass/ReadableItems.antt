-- In an accepted unit every item can be read deep: each expression of an entry was judged when its references were sought. Assumes nothing.
use mathlib.Core.Path.{◌≡◌, refl, ap, sym, ◌∙◌, subst}
use Prim.Native.Nat.{ℕ, suc, ◌+◌, ◌-◌, ◌≤◌}
use native.Mathlib.Omega.{arith}
use mathlib.Core.Bool.{Bool, true, false, not}
use mathlib.Core.List.{List, [], ◌∷◌, ◌++◌}
use Rattle.std.specs.Prelude.{None, Option, Some}
use Rattle.readers.specs.declared.entries.Step.{Step}
use mathlib.Core.Logic.{⊎_elim}
use lib.ListN.{length, take, drop, length-append}
use lib.Seq.{length-take-le, drop-drop}
use lib.Dec.{T, eqb, leb, ltb}
use mir.Facts.{leb_yes, eqb_yes, eqb_no, no_eqb, yes_eqb}
use Rattle.readers.specs.Lists.{list_base}
use Rattle.readers.specs.Choice.{pick, ◌and◌, bind}
use Rattle.readers.proofs.Choice.{pick_yes, pick_no, pick-either, either, bind-at, bind-bind, check-yes, All, all-some, all_of, all-bind, all-check, all-triv}
use Rattle.readers.specs.Numbers.{uleb}
use Rattle.readers.specs.Layout.{leb128, Token, nothing, number, bounded, forms, signed, link, string, run, block, expression, unknown, Layout, done, field, verbatim, Piece, Read, ReadOf, RunOf, ExpressionReader, as_bytes, copy, as_forms, forms_in, as_expression, token_in, read_in, before, bytes_of, piece_bytes, write_all}
use Rattle.readers.proofs.LayoutLaws.{LebLaw, uleb-law, TokenLaw, token-law, as-bytes-law}
use Rattle.readers.specs.Expression.{expression_in}
use Rattle.readers.specs.Fields.{size, field_of, as_field, token_at}
use Rattle.readers.specs.Forms.{value_token, attribute_layout}
use Rattle.readers.specs.Cursors.{cursor, forms_at, as_form_number}
use Rattle.readers.specs.References.{walk_of, as_walk, references_in}
use Rattle.readers.specs.Entries.{attribute_at, attributes_layout, specs_layout, found_layout, entry_layout, entry_found, step_of_reads, as_step, step_at}
use Rattle.readers.specs.Scan.{Scanned}
use Rattle.readers.specs.Abbreviations.{Placed, declared_in, attributes_from}
use Rattle.readers.specs.Nesting.{opened, closed}
use Rattle.readers.specs.Stream.{Item, entry, terminator}
use Rattle.readers.specs.declared.header.UnitHeader.{UnitHeader}
use Rattle.readers.proofs.Values.{valued, behind_forms, attribute-direct, attribute-indirect, joined, read-then}
use Rattle.readers.specs.declared.cursor.Encoding.{Encoding}
use Rattle.readers.specs.declared.abbreviations.AttributeSpec.{AttributeSpec}
use Rattle.readers.specs.declared.abbreviations.Declaration.{Declaration}
use Rattle.readers.specs.declared.entries.Entry.{Entry}
use Rattle.readers.specs.declared.entries.Step.TheVariants.{Entry as Entry', Terminator, End}
use Rattle.readers.specs.declared.attributes.Attribute.{Attribute}
use Rattle.readers.specs.EntryAttributes.{Valued, on_attribute, values_of, entry_values}
use Rattle.marking.specs.EntryReferences.{ReferencesFound, found, refused, after, and_then, targets, walk_found, expression_found, part_of, Locations, locations_by, attribute_found, attributes_found}
use Rattle.readers.proofs.EntryAttributes.{specs-all}
use Rattle.marking.specs.Analysis.{Sections, EntryRow, values_of_entry, names_of, base_of}
use Rattle.rewriting.specs.Places.{NestedItem, kept_from, offset_of}
use Rattle.rewriting.specs.Rewriting.{Unit as Unit', items_in, Room, unit_of}
use Rattle.rewriting.proofs.KeptPass.ItemDepths.{EveryItem, Every, every-kept, Stands, items-stand, deep_at, Readable}
use Rattle.marking.specs.EntryRows.{RowOf, RowsOf}
use Rattle.rewriting.proofs.Whole.AcceptedUnits.{accepted-follow, Accepted}
use Rattle.rewriting.proofs.WritePass.Expressions.{is_expression, value-exprloc}

-- something was read
unfoldable pub Is : {A : Type 0} → Option A → Type 0
Is None = ⊥
Is (Some a) = Unit {0}

module _ {A B : Type 0} where
  is-bind : (o : Option A) (f : A → Option B) → Is o → ((a : A) → o ≡ Some a → Is (f a)) → Is (bind o f)
  unfolding Is bind
  is-bind None f h k = absurd h
  is-bind (Some a) f h k = k a refl

  pub record Bound (o : Option A) (f : A → Option B) : Type 0 where
    pub first : A
    pub first_is : o ≡ Some first
    pub then_is : Is (f first)

  bound : (o : Option A) (f : A → Option B) → Is (bind o f) → Bound o f
  unfolding Is bind
  bound None f h = absurd h
  bound (Some a) f h = record { first = a; first_is = refl; then_is = h }

is_at : {A : Type 0} {o : Option A} {a : A} → o ≡ Some a → Is o
unfolding Is
is_at q = subst Is (sym q) tt

-- ---- a token

module _ (e : Encoding) (unit : List ℕ) where
  abbrev big : Bool
  big = e.big_endian

  abbrev deep : ExpressionReader
  deep = expression_in e

  -- read deep it comes as far
  record DeepToken (t : Token) (s : List ℕ) (r : ReadOf) : Type 0 where
    pub it : Read
    pub is : token_in big deep t s ≡ Some (it, r.1)

  -- the expression of a token that was read at a place
  abbrev Judged : Token → ℕ → Read → Type 0
  Judged t at r = T (is_expression t) → Is (deep (part_of unit (field_of big at r)))

  -- its payload
  part-is : (at n m : ℕ) (q : List ℕ) → q ≡ drop n (drop at unit) → m ≤ length q → n ≤ length (drop at unit)
      → part_of unit (field_of big at (record { seen = 0; start = n; pieces = verbatim (take n (drop at unit)) ∷ verbatim (take m q) ∷ [] })) ≡ take m q
  unfolding part_of field_of size bytes_of piece_bytes
  part-is at n m q h l k =
      let a : List ℕ = take n (drop at unit) in
      let b : List ℕ = take m q in
      let w : at + length (a ++ (b ++ [])) - (at + n) ≡ m =
      omega (arith, length-append a (b ++ []), length-append b [], length-take-le n (drop at unit) k, length-take-le m q l) in
      ap (λ (z : ℕ). take z (drop (at + n) unit)) w ∙ ap (take m) (sym (drop-drop n at unit) ∙ sym h)

  expression-deep : (at : ℕ) → All (λ r. Judged expression at r.0 → DeepToken expression (drop at unit) r) (token_in big as_bytes expression (drop at unit))
  unfolding token_in as_expression as_bytes is_expression bind Is
  expression-deep at =
      let s : List ℕ = drop at unit in
      all-bind (LebLaw uleb s) _ (uleb s) _ (uleb-law s)
      (λ t q u. all-check _ _ _ (λ w.
      all-some (λ (r : ReadOf). Judged expression at r.0 → DeepToken expression s r)
      (λ j.
      let i : Is (deep (take t.1 t.2)) = subst (λ z. Is (deep z)) (part-is at (suc t.0) t.1 t.2 u.0.1 (leb_yes {a = t.1} {b = length t.2} w) u.0.0) (j tt) in
      by-pieces t q w (deep (take t.1 t.2)) refl i)))
    where
      by-pieces : (t : _) → uleb (drop at unit) ≡ Some t → T (leb t.1 (length t.2)) → (o : Option (List Piece)) → deep (take t.1 t.2) ≡ o → Is o
          → DeepToken expression (drop at unit) (record { seen = 0; start = suc t.0; pieces = verbatim (take (suc t.0) (drop at unit)) ∷ verbatim (take t.1 t.2) ∷ [] }, drop t.1 t.2)
      by-pieces t q w None p i = absurd i
      by-pieces t q w (Some ps) p i = record {
        it = record { seen = 0; start = suc t.0; pieces = verbatim (take (suc t.0) (drop at unit)) ∷ ps };
        is = bind-at _ q ∙ check-yes _ _ w ∙ bind-at _ p;
      }

  same-deep : (t : Token) (at : ℕ) (o : Option ReadOf) → token_in big deep t (drop at unit) ≡ o → All (λ r. Judged t at r.0 → DeepToken t (drop at unit) r) o
  unfolding All
  same-deep t at None q = tt
  same-deep t at (Some r) q = λ _. record { it = r.0; is = q }

  token-deep : (t : Token) (at : ℕ) → All (λ r. Judged t at r.0 → DeepToken t (drop at unit) r) (token_in big as_bytes t (drop at unit))
  unfolding token_in
  token-deep nothing at = same-deep nothing at _ refl
  token-deep (number k) at = same-deep (number k) at _ refl
  token-deep (bounded n) at = same-deep (bounded n) at _ refl
  token-deep forms at = same-deep forms at _ refl
  token-deep signed at = same-deep signed at _ refl
  token-deep (link k r) at = same-deep (link k r) at _ refl
  token-deep string at = same-deep string at _ refl
  token-deep (run n) at = same-deep (run n) at _ refl
  token-deep (block k) at = same-deep (block k) at _ refl
  token-deep expression at = expression-deep at
  token-deep unknown at = same-deep unknown at _ refl

  -- ---- a value

  -- read deep it comes as far, to the end of the attribute's field
  record DeepValue (g : Layout) (name form at : ℕ) (r : RunOf) : Type 0 where
    pub value : Attribute
    pub is : attribute_at e unit at name form ≡ Some value
    pub those : List Read
    pub are : read_in big deep g (drop at unit) ≡ Some (those, r.1)
    pub rest : r.1 ≡ drop value.field.end unit

  module _ (name form at : ℕ)
      (judged : (v : Attribute) → attribute_at e unit at name form ≡ Some v → v.form ≡ 0x18 → (name ≡ 0x01 → ⊥) → Is (deep (part_of unit v.field))) where
    -- a token at a place, and where the rest starts
    token-rest : (t : Token) (n : ℕ) (r : ReadOf) → token_in big as_bytes t (drop n unit) ≡ Some r → r.1 ≡ drop (field_of big n r.0).end unit
    unfolding field_of size
    token-rest t n r q =
        let l : TokenLaw big as_bytes t (drop n unit) r = all_of (TokenLaw big as_bytes t (drop n unit)) (token-law big as_bytes (as-bytes-law big) t (drop n unit)) q in
        l.0.1 ∙ drop-drop _ n unit

    direct-deep : T (not (eqb form 0x16))
        → All (DeepValue (field (value_token e false name form) (λ _. done)) name form at) (read_in big as_bytes (field (value_token e false name form) (λ _. done)) (drop at unit))
    unfolding read_in before bind token_at as_field valued
    direct-deep n =
        let t : Token = value_token e false name form in
        all-bind (λ r. Judged t at r.0 → DeepToken t (drop at unit) r) _ (token_in big as_bytes t (drop at unit)) _ (token-deep t at)
        (λ r q d.
        let v : Attribute = record { form = form; field = field_of big at r.0 } in
        let i : attribute_at e unit at name form ≡ Some v = attribute-direct e unit at name form (eqb_no {a = form} {b = 0x16} n) ∙ ap (λ o. valued form (as_field big at o)) q in
        let dt : DeepToken t (drop at unit) r = d (λ x. let p = value-exprloc e false name form x in judged v i p.0 p.1) in
        all-some (DeepValue (field t (λ _. done)) name form at)
        (record { value = v; is = i; those = dt.it ∷ []; are = bind-at _ dt.is; rest = token-rest t at r q }))

    abbrev behind : ℕ → Layout
    behind f = field (value_token e true name f) (λ _. done)

    -- the value after its form numbers, which take m bytes and end in f
    value-behind : T (eqb form 0x16) → (f : ℕ × ℕ) → forms_in (drop at unit) ≡ Some f
        → All (DeepValue (field forms behind) name form at) (bind (read_in big as_bytes (behind f.1) (drop (at + f.0) unit)) (before (copy f.1 0 f.0 (drop at unit)).0))
    unfolding read_in before bind token_in as_forms copy token_at as_field valued forms_at as_form_number behind_forms
    value-behind h f q =
        let t : Token = value_token e true name f.1 in
        let n : ℕ = at + f.0 in
        let P : RunOf → Type 0 = DeepValue (field forms behind) name form at in
        subst (All P) (sym (bind-bind (token_in big as_bytes t (drop n unit)) (λ (r : ReadOf). Some (r.0 ∷ [], r.1)) (before (copy f.1 0 f.0 (drop at unit)).0)))
        (all-bind (λ r. Judged t n r.0 → DeepToken t (drop n unit) r) P (token_in big as_bytes t (drop n unit)) _ (token-deep t n)
        (λ r p d.
        let v : Attribute = record { form = f.1; field = field_of big n r.0 } in
        let i : attribute_at e unit at name form ≡ Some v =
        attribute-indirect e unit at name form (eqb_yes {a = form} {b = 0x16} h)
        ∙ ap (λ o. behind_forms e unit at name form (as_form_number at o)) q
        ∙ ap (λ o. valued f.1 (as_field big n o)) p in
        let dt : DeepToken t (drop n unit) r = d (λ x. let y = value-exprloc e true name f.1 x in judged v i y.0 y.1) in
        all-some P
        (record {
          value = v;
          is = i;
          those = (copy f.1 0 f.0 (drop at unit)).0 ∷ dt.it ∷ [];
          are =
              bind-at _ (bind-at _ q)
              ∙ bind-at _ (ap (λ (z : List ℕ). read_in big deep (behind f.1) z) (drop-drop f.0 at unit) ∙ bind-at _ dt.is);
          rest = token-rest t n r p;
        })))

    indirect-deep : T (eqb form 0x16) → All (DeepValue (field forms behind) name form at) (read_in big as_bytes (field forms behind) (drop at unit))
    unfolding read_in token_in as_forms bind copy
    indirect-deep h =
        let P : RunOf → Type 0 = DeepValue (field forms behind) name form at in
        let s : List ℕ = drop at unit in
        subst (All P) (sym (bind-bind (forms_in s) (as_forms s) (λ (r : ReadOf). bind (read_in big as_bytes (behind r.0.seen) r.1) (before r.0))))
        (all-bind _ P (forms_in s) _ (all-triv (forms_in s))
        (λ f q _. subst (λ (z : List ℕ). All P (bind (read_in big as_bytes (behind f.1) z) (before (copy f.1 0 f.0 s).0))) (sym (drop-drop f.0 at unit)) (value-behind h f q)))

    value-deep : All (DeepValue (attribute_layout e name form) name form at) (read_in big as_bytes (attribute_layout e name form) (drop at unit))
    unfolding attribute_layout
    value-deep =
        pick-either (λ g. All (DeepValue g name form at) (read_in big as_bytes g (drop at unit))) (eqb form 0x16) (field forms behind) (field (value_token e false name form) (λ _. done))
        indirect-deep direct-deep

-- ---- what was judged

record Both (f g : ReferencesFound) : Type 0 where
  pub ys : List ℕ
  pub first : f ≡ found ys
  pub zs : List ℕ
  pub next : g ≡ found zs

both_found : (f g : ReferencesFound) (names : List ℕ) → and_then f g ≡ found names → Both f g
unfolding and_then after
both_found (found ys) (found zs) names q = record { ys = ys; first = refl; zs = zs; next = refl }
both_found (found ys) (refused zs n) names q = let z : ◌≡◌ {A = ℕ} 0 1 = cc in absurd (omega arith)
both_found (refused ys n) g names q = let z : ◌≡◌ {A = ℕ} 0 1 = cc in absurd (omega arith)

walk_is : (big : Bool) (xs ys : List ℕ) (o : Option (List Piece)) → walk_found xs (as_walk big o) ≡ found ys → Is o
unfolding walk_found as_walk Is
walk_is big xs ys None q = let z : ◌≡◌ {A = ℕ} 0 1 = cc in absurd (omega arith)
walk_is big xs ys (Some ps) q = tt

expression-is : (e : Encoding) (s ys : List ℕ) → expression_found e s ≡ found ys → Is (expression_in e s)
unfolding expression_found walk_of
expression-is e s ys q = walk_is e.big_endian (targets (references_in e s)) ys (expression_in e s) q

attribute-is : (e : Encoding) (l : Locations) (a : Valued) (ys : List ℕ) → attribute_found e l a ≡ found ys → a.value.form ≡ 0x18 → (a.name ≡ 0x01 → ⊥)
    → Is (expression_in e (part_of l.unit a.value.field))
unfolding attribute_found ◌and◌
attribute-is e l a ys q f n =
    ⊎_elim
    (λ t. let z : refused [] 7 ≡ found ys = sym (pick_no _ _ _ (no_eqb {a = a.name} {b = 0x01} n) ∙ pick_yes _ _ _ t) ∙ q in
    let y : ◌≡◌ {A = ℕ} 0 1 = cc in absurd (omega arith))
    (λ t. expression-is e (part_of l.unit a.value.field) ys
    (sym (pick_no _ _ _ (no_eqb {a = a.name} {b = 0x01} n)
    ∙ pick_no _ _ _ t
    ∙ pick_no _ _ _ (subst (λ (z : ℕ). T (not (leb 0x11 z and leb z 0x15))) (sym f) tt)
    ∙ pick_yes _ _ _ (yes_eqb {a = a.value.form} {b = 0x18} f)) ∙ q))
    (either (eqb a.declared 0x10))

-- ---- the values of an entry

module _ (e : Encoding) (unit : List ℕ) (l : Locations) (own : l.unit ≡ unit) where
  is-done : (s : List ℕ) → Is (read_in (big e unit) (expression_in e) done s)
  unfolding read_in Is
  is-done s = tt

  is-joined : (rs : List Read) (r : RunOf) → Is (joined rs r)
  unfolding joined Is
  is-joined rs r = tt

  found-more : (a : AttributeSpec) (rest : List AttributeSpec) (at : ℕ) (v : Attribute) → attribute_at e unit at a.name a.form ≡ Some v
      → attributes_found e l (values_of e unit (a ∷ rest) at)
      ≡ and_then (attribute_found e l (record { name = a.name; declared = a.form; value = v })) (attributes_found e l (values_of e unit rest v.field.end))
  unfolding values_of on_attribute attributes_found
  found-more a rest at v p = ap (λ (o : Option Attribute). attributes_found e l (on_attribute a o (λ next. values_of e unit rest next))) p

  values-deep : (specs : List AttributeSpec) (at : ℕ) (names : List ℕ) → attributes_found e l (values_of e unit specs at) ≡ found names
      → Is (read_in (big e unit) as_bytes (attributes_layout e specs) (drop at unit)) → Is (read_in (big e unit) (expression_in e) (attributes_layout e specs) (drop at unit))
  unfolding attributes_layout
  values-deep [] at names q i = is-done (drop at unit)
  values-deep (a ∷ rest) at names q i =
      let g : Layout = attribute_layout e a.name a.form in
      let h : Layout = attributes_layout e rest in
      let s : List ℕ = drop at unit in
      let b : Bound (read_in (big e unit) as_bytes g s) (λ r. bind (read_in (big e unit) as_bytes h r.1) (joined r.0)) =
      bound _ _ (subst Is (read-then (big e unit) as_bytes g h s) i) in
      let c : Bound (read_in (big e unit) as_bytes h b.first.1) (joined b.first.0) = bound _ _ b.then_is in
      let next : (v : Attribute) → attribute_at e unit at a.name a.form ≡ Some v
      → Both (attribute_found e l (record { name = a.name; declared = a.form; value = v })) (attributes_found e l (values_of e unit rest v.field.end)) =
      (λ v p. both_found _ _ names (sym (found-more a rest at v p) ∙ q)) in
      let d : DeepValue e unit g a.name a.form at b.first =
      all_of (DeepValue e unit g a.name a.form at)
      (value-deep e unit a.name a.form at
      (λ v p f n. subst (λ (z : List ℕ). Is (expression_in e (part_of z v.field))) own (attribute-is e l (record { name = a.name; declared = a.form; value = v }) (next v p).ys (next v p).first f n)))
      b.first_is in
      let j : Is (read_in (big e unit) (expression_in e) h b.first.1) =
      subst (λ (z : List ℕ). Is (read_in (big e unit) (expression_in e) h z)) (sym d.rest)
      (values-deep rest d.value.field.end (next d.value d.is).zs (next d.value d.is).next
      (subst (λ (z : List ℕ). Is (read_in (big e unit) as_bytes h z)) d.rest (is_at c.first_is))) in
      subst Is (sym (read-then (big e unit) (expression_in e) g h s ∙ bind-at _ d.are)) (is-bind (read_in (big e unit) (expression_in e) h b.first.1) (joined d.those) j (λ r _. is-joined d.those r))

-- ---- entries and terminators

module _ (e : Encoding) (x : Sections) (look : ℕ → Option Declaration) (unit : List ℕ) where
  abbrev order : Bool
  order = e.big_endian

  abbrev layout : Layout
  layout = entry_layout e x.abbreviations look

  -- the references of an entry were sought, and none was refused
  pub record JudgedEntry (y : Entry) : Type 0 where
    pub base : ℕ
    pub names : List ℕ
    pub names_are : names_of e x unit base y ≡ found names

  unfoldable pub JudgedStep : Option Step → Type 0
  JudgedStep (Some (Entry' y)) = JudgedEntry y
  JudgedStep (Some (Terminator c)) = Unit {0}
  JudgedStep (Some End) = ⊥
  JudgedStep None = ⊥

  specs-deep : (d : Declaration) (values at : ℕ) (next : ℕ) → JudgedEntry (record { offset = record { 0 = at }; declaration = d; values = cursor values; next = cursor next })
      → (o : Option (Scanned AttributeSpec ℕ)) → attributes_from x.abbreviations d.attributes.at ≡ o
      → Is (read_in order as_bytes (specs_layout e o) (drop values unit)) → Is (read_in order (expression_in e) (specs_layout e o) (drop values unit))
  unfolding specs_layout read_in Is names_of values_of_entry entry_values
  specs-deep d values at next j None q i = absurd i
  specs-deep d values at next j (Some r) q i =
      values-deep e unit (locations_by unit x.locations j.base) refl r.0 values j.names
      (ap (λ (l : List AttributeSpec). attributes_found e (locations_by unit x.locations j.base) (values_of e unit l values)) (sym (specs-all x.abbreviations d.attributes.at r q)) ∙ j.names_are) i

  found-deep : (at values next : ℕ) (f : Option Declaration) → JudgedStep (entry_found e x.abbreviations look at values next f)
      → Is (read_in order as_bytes (found_layout e x.abbreviations look f) (drop values unit)) → Is (read_in order (expression_in e) (found_layout e x.abbreviations look f) (drop values unit))
  unfolding entry_found found_layout JudgedStep
  found-deep at values next None j i = absurd j
  found-deep at values next (Some d) j i = specs-deep d values at next j (attributes_from x.abbreviations d.attributes.at) refl i

  -- what follows the code
  abbrev code_layout : ℕ → Layout
  code_layout code = pick (eqb code 0) done (found_layout e x.abbreviations look (look code))

  code-deep : (at : ℕ) (c : Read) (rs : List Read) → JudgedStep (step_of_reads e x.abbreviations look at (c ∷ rs))
      → Is (read_in order as_bytes (code_layout c.seen) (drop (at + size order c) unit)) → Is (read_in order (expression_in e) (code_layout c.seen) (drop (at + size order c) unit))
  unfolding step_of_reads
  code-deep at c rs j i =
      ⊎_elim
      (λ t. subst (λ g. Is (read_in order (expression_in e) g (drop (at + size order c) unit))) (sym (pick_yes _ _ _ t)) (is-done e unit (locations_by unit [] 0) refl (drop (at + size order c) unit)))
      (λ t. subst (λ g. Is (read_in order (expression_in e) g (drop (at + size order c) unit))) (sym (pick_no _ _ _ t))
      (found-deep at (at + size order c) (at + size order c + length (write_all order rs)) (look c.seen)
      (subst JudgedStep (pick_no _ _ _ t) j)
      (subst (λ g. Is (read_in order as_bytes g (drop (at + size order c) unit))) (pick_no _ _ _ t) i)))
      (either (eqb c.seen 0))

  is-before : (c : Read) (r : RunOf) → Is (before c r)
  unfolding before Is
  is-before c r = tt

  reads-deep : (at : ℕ) → All (λ r. JudgedStep (step_of_reads e x.abbreviations look at r.0) → Is (read_in order (expression_in e) layout (drop at unit))) (read_in order as_bytes layout (drop at unit))
  unfolding entry_layout read_in token_in before size
  reads-deep at =
      let P : RunOf → Type 0 = (λ r. JudgedStep (step_of_reads e x.abbreviations look at r.0) → Is (read_in order (expression_in e) layout (drop at unit))) in
      let s : List ℕ = drop at unit in
      all-bind (TokenLaw order as_bytes (number leb128) s) P (token_in order as_bytes (number leb128) s) _ (token-law order as_bytes (as-bytes-law order) (number leb128) s)
      (λ c q law. all-bind _ P (read_in order as_bytes (code_layout c.0.seen) c.1) (before c.0) (all-triv (read_in order as_bytes (code_layout c.0.seen) c.1))
      (λ r p _. all-some P (λ j.
      let w : c.1 ≡ drop (at + size order c.0) unit = law.0.1 ∙ drop-drop (size order c.0) at unit in
      let i : Is (read_in order (expression_in e) (code_layout c.0.seen) c.1) =
      subst (λ (z : List ℕ). Is (read_in order (expression_in e) (code_layout c.0.seen) z)) (sym w)
      (code-deep at c.0 r.0 j (subst (λ (z : List ℕ). Is (read_in order as_bytes (code_layout c.0.seen) z)) w (is_at p))) in
      subst Is (sym (bind-at _ q)) (is-bind (read_in order (expression_in e) (code_layout c.0.seen) c.1) (before c.0) i (λ z _. is-before c.0 z)))))

  by-reads : (at : ℕ) (o : Option RunOf) → All (λ r. JudgedStep (step_of_reads e x.abbreviations look at r.0) → Is (read_in order (expression_in e) layout (drop at unit))) o
      → JudgedStep (as_step e x.abbreviations look at o) → Is (read_in order (expression_in e) layout (drop at unit))
  unfolding as_step All JudgedStep
  by-reads at None h j = absurd j
  by-reads at (Some r) h j = h j

  -- a step over a terminator, or over an entry that was judged, is read deep
  pub step-deep : (at : ℕ) → JudgedStep (step_at e x.abbreviations look unit at) → Is (read_in order (expression_in e) layout (drop at unit))
  unfolding step_at JudgedStep
  step-deep at j =
      ⊎_elim
      (λ t. by-reads at (read_in order as_bytes layout (drop at unit)) (reads-deep at) (subst JudgedStep (pick_yes _ _ _ t) j))
      (λ t. absurd (subst JudgedStep (pick_no _ _ _ t) j))
      (either (ltb at (length unit)))

  -- ---- the items of a stretch

  abbrev ReadDeep : Item → Type 0
  ReadDeep i = Is (read_in order (expression_in e) layout (drop (offset_of i) unit))

  entry-deep : (stack : List ℕ) (rb lb : ℕ) (y : Entry) (r : EntryRow) → RowOf e x unit stack rb lb y r → Stands e x.abbreviations look unit (entry y) → ReadDeep (entry y)
  unfolding Stands offset_of JudgedStep
  entry-deep stack rb lb y r q s =
      step-deep y.offset.0 (subst JudgedStep (sym s) (record { base = base_of e x unit 0x8c lb y; names = r.names; names_are = q.names_are }))

  terminator-deep : (a b : ℕ) → Stands e x.abbreviations look unit (terminator a b) → ReadDeep (terminator a b)
  unfolding Stands offset_of JudgedStep
  terminator-deep a b s = step-deep a (subst JudgedStep (sym s) tt)

  items-deep : (k : ℕ) (stack : List ℕ) (rb lb : ℕ) (items : List Item) (rows : List EntryRow) → RowsOf e x unit k stack rb lb items rows → EveryItem (Stands e x.abbreviations look unit) items → EveryItem ReadDeep items
  unfolding RowsOf EveryItem
  items-deep k stack rb lb [] rows f s = tt
  items-deep k stack rb lb (terminator a b ∷ rest) rows f s = (terminator-deep a b s.0, items-deep k (closed stack) rb lb rest rows f s.1)
  items-deep k stack rb lb (entry y ∷ rest) [] f s = absurd f
  items-deep k stack rb lb (entry y ∷ rest) (r ∷ rows) f s =
      (entry-deep stack rb lb y r f.0 s.0, items-deep (suc k) (opened y.declaration.children k stack) (base_of e x unit 0x74 rb y) (base_of e x unit 0x8c lb y) rest rows f.1 s.1)

-- ---- of an accepted unit

every_map : (P Q : NestedItem → Type 0) → ((s : NestedItem) → P s → Q s) → (kept : List NestedItem) → Every P kept → Every Q kept
unfolding Every
every_map P Q f [] h = tt
every_map P Q f (s ∷ kept) h = (f s h.0, every_map P Q f kept h.1)

module _ (x : Sections) (u : Unit') (s : NestedItem) where
  is-readable : (o : Option RunOf) → deep_at x u (offset_of s.item) ≡ o → Is o → Readable x u s
  unfolding Is
  is-readable None q i = absurd i
  is-readable (Some r) q i = record { run = r; is = q }

module _ (x : Sections) (room : Room) (section : List ℕ) (h : UnitHeader) (ds : List Placed) (rows : List EntryRow) (a : Accepted x room section h ds rows) where
  abbrev unit : Unit'
  unit = unit_of h section ds

  accepted-deep : EveryItem (ReadDeep h.encoding x (declared_in ds) (take h.end section)) (items_in x unit)
  unfolding items_in
  accepted-deep =
      items-deep h.encoding x (declared_in ds) (take h.end section) 0 [] (list_base h.encoding) (list_base h.encoding) (items_in x unit) rows (accepted-follow x room section h ds rows a)
      (items-stand h.encoding x.abbreviations (declared_in ds) (take h.end section) h.first.0)

  -- every item that is kept can be read deep
  pub accepted-readable : (marks : List ℕ) → Every (Readable x unit) (kept_from marks 0 [] (items_in x unit))
  accepted-readable marks =
      every_map (λ t. ReadDeep h.encoding x (declared_in ds) (take h.end section) t.item) (Readable x unit) (λ s i. is-readable x unit s (deep_at x unit (offset_of s.item)) refl i)
      (kept_from marks 0 [] (items_in x unit))
      (every-kept (ReadDeep h.encoding x (declared_in ds) (take h.end section)) marks 0 [] (items_in x unit) accepted-deep)
