-- What is gathered of an entry that can be read deep is what is gathered of its attributes, for any way of gathering
-- numbers from pieces and from values that agree on each value and find nothing in a code. Assumes nothing else.
use mathlib.Core.Path.{◌≡◌, refl, ap, ap₂, sym, ◌∙◌, subst}
use Prim.Native.Nat.{ℕ, ◌+◌}
use mathlib.Core.Bool.{Bool, true, false, not}
use mathlib.Core.List.{List, [], ◌∷◌, ◌++◌, append_assoc, append-nil}
use Rattle.std.specs.Prelude.{None, Option, Some}
use Rattle.readers.specs.declared.abbreviations.Declaration.{Declaration}
use Rattle.readers.specs.declared.entries.Step.{Step}
use mathlib.Core.Logic.{⊎_elim}
use lib.ListN.{drop}
use lib.Seq.{drop-drop}
use lib.Dec.{T, eqb}
use mir.Facts.{eqb_yes, eqb_no}
use Rattle.readers.specs.Choice.{pick, bind}
use Rattle.readers.proofs.Choice.{pick_yes, pick_no, pick-either, either, bind-bind, All, all-some, all_none, all_of, all-bind, all-triv}
use Rattle.readers.specs.Layout.{leb128, Token, Layout, Piece, verbatim, Read, ReadOf, RunOf, number, forms, field, done, copy, ExpressionReader}
use Rattle.readers.specs.Layout.{as_bytes, as_forms, forms_in, token_in, read_in, before}
use Rattle.readers.proofs.LayoutLaws.{TokenLaw, token-law, as-bytes-law}
use Rattle.readers.specs.Expression.{expression_in}
use Rattle.readers.proofs.Expression.{expression-law}
use Rattle.readers.specs.Forms.{value_token, attribute_layout}
use Rattle.readers.specs.Fields.{size, field_of, as_field, token_at}
use Rattle.readers.specs.Cursors.{forms_at, as_form_number}
use Rattle.readers.specs.Scan.{Scanned}
use Rattle.readers.specs.Abbreviations.{attributes_from}
use Rattle.readers.specs.Entries.{attribute_at, attributes_layout, specs_layout, found_layout, entry_layout, entry_found, step_of_reads, step_at}
use Rattle.readers.proofs.Values.{joined, read-then, valued, behind_forms, attribute-direct, attribute-indirect}
use Rattle.readers.specs.declared.cursor.Encoding.{Encoding}
use Rattle.readers.specs.declared.abbreviations.AttributeSpec.{AttributeSpec}
use Rattle.readers.specs.declared.attributes.Attribute.{Attribute}
use Rattle.readers.specs.declared.entries.Step.TheVariants.{Entry as Entry', Terminator, End}
use Rattle.readers.specs.EntryAttributes.{Valued, on_attribute, values_of, entry_values}
use Rattle.readers.proofs.EntryAttributes.{specs-all}
use Rattle.rewriting.proofs.KeptPass.DeepReads.{deep_step}

-- a value's token, read deep: how it is read with its expression as bytes, and what is gathered of it
pub record TokenRead (in_pieces : List Piece → List ℕ) (own : ℕ → Attribute → List ℕ) (e : Encoding) (unit : List ℕ)
    (indirect : Bool) (name form at : ℕ) (r : ReadOf) : Type 0 where
  pub it : Read
  pub is : token_in e.big_endian as_bytes (value_token e indirect name form) (drop at unit) ≡ Some (it, r.1)
  pub numbers : in_pieces r.0.pieces ≡ own name (record { form = form; field = field_of e.big_endian at it })

-- an attribute: its value, where it ends, and what is gathered of it
record ValueRead (in_reads : List Read → List ℕ) (own : ℕ → Attribute → List ℕ) (e : Encoding) (unit : List ℕ)
    (name form at : ℕ) (r : RunOf) : Type 0 where
  pub value : Attribute
  pub is : attribute_at e unit at name form ≡ Some value
  pub rest : r.1 ≡ drop value.field.end unit
  pub numbers : in_reads r.0 ≡ own name value

-- what is gathered at a step: of an entry's values
unfoldable pub StepBy : (List Valued → List ℕ) → Encoding → List ℕ → List ℕ → Option Step → List ℕ → Type 0
StepBy in_values e unit abbreviations (Some (Entry' y)) ns = ns ≡ in_values (entry_values e abbreviations y.declaration.attributes.at unit y.values.at)
StepBy in_values e unit abbreviations (Some (Terminator c)) ns = ns ≡ []
StepBy in_values e unit abbreviations (Some End) ns = Unit {0}
StepBy in_values e unit abbreviations None ns = Unit {0}

module _ (in_pieces : List Piece → List ℕ) (in_reads : List Read → List ℕ) (in_values : List Valued → List ℕ) (own : ℕ → Attribute → List ℕ)
    (no_reads : in_reads [] ≡ []) (more-reads : (r : Read) (rs : List Read) → in_reads (r ∷ rs) ≡ in_pieces r.pieces ++ in_reads rs)
    (no-values : in_values [] ≡ []) (more-values : (a : Valued) (rest : List Valued) → in_values (a ∷ rest) ≡ own a.name a.value ++ in_values rest)
    (e : Encoding) (unit : List ℕ) where
  abbrev big : Bool
  big = e.big_endian

  abbrev deep : ExpressionReader
  deep = expression_in e

  reads-append : (rs qs : List Read) → in_reads (rs ++ qs) ≡ in_reads rs ++ in_reads qs
  reads-append [] qs = sym (ap (λ (l : List ℕ). l ++ in_reads qs) no_reads)
  reads-append (r ∷ rs) qs =
      more-reads r (rs ++ qs) ∙ ap (λ (l : List ℕ). in_pieces r.pieces ++ l) (reads-append rs qs)
      ∙ sym (append_assoc (in_pieces r.pieces) (in_reads rs) (in_reads qs)) ∙ sym (ap (λ (l : List ℕ). l ++ in_reads qs) (more-reads r rs))

  read_one : (r : Read) → in_reads (r ∷ []) ≡ in_pieces r.pieces
  read_one r = more-reads r [] ∙ ap (λ (l : List ℕ). in_pieces r.pieces ++ l) no_reads ∙ append-nil (in_pieces r.pieces)

  module _ (token-read : (indirect : Bool) (name form at : ℕ)
      → All (TokenRead in_pieces own e unit indirect name form at) (token_in big deep (value_token e indirect name form) (drop at unit)))
      (Copied-none : (l : List ℕ) → in_pieces (verbatim l ∷ []) ≡ [])
      (code-none : (at : ℕ) (r : ReadOf) → token_in big deep (number leb128) (drop at unit) ≡ Some r → in_pieces r.0.pieces ≡ []) where
    -- ---- a value

    -- where a token ends
    token-rest : (t : Token) (n : ℕ) (r : ReadOf) → token_in big as_bytes t (drop n unit) ≡ Some r → r.1 ≡ drop (field_of big n r.0).end unit
    unfolding field_of size
    token-rest t n r q =
        let l : TokenLaw big as_bytes t (drop n unit) r = all_of (TokenLaw big as_bytes t (drop n unit)) (token-law big as_bytes (as-bytes-law big) t (drop n unit)) q in
        l.0.1 ∙ drop-drop _ n unit

    module _ (name form at : ℕ) where
      abbrev Whole : RunOf → Type 0
      Whole = ValueRead in_reads own e unit name form at

      direct-value : T (not (eqb form 0x16)) → All Whole (read_in big deep (field (value_token e false name form) (λ _. done)) (drop at unit))
      unfolding read_in before bind token_at as_field valued
      direct-value n =
          let t : Token = value_token e false name form in
          all-bind (TokenRead in_pieces own e unit false name form at) _ (token_in big deep t (drop at unit)) _ (token-read false name form at)
          (λ r q i.
          all-some Whole
          (record {
            value = record { form = form; field = field_of big at i.it };
            is = attribute-direct e unit at name form (eqb_no {a = form} {b = 0x16} n) ∙ ap (λ o. valued form (as_field big at o)) i.is;
            rest = token-rest t at (i.it, r.1) i.is;
            numbers = read_one r.0 ∙ i.numbers;
          }))

      abbrev behind : ℕ → Layout
      behind f = field (value_token e true name f) (λ _. done)

      -- the value after its form numbers
      value-behind : T (eqb form 0x16) → (f : ℕ × ℕ) → forms_in (drop at unit) ≡ Some f
          → All Whole (bind (read_in big deep (behind f.1) (drop (at + f.0) unit)) (before (copy f.1 0 f.0 (drop at unit)).0))
      unfolding read_in before bind copy token_at as_field valued forms_at as_form_number behind_forms
      value-behind h f q =
          let t : Token = value_token e true name f.1 in
          let n : ℕ = at + f.0 in
          let g : Read = (copy f.1 0 f.0 (drop at unit)).0 in
          subst (All Whole) (sym (bind-bind (token_in big deep t (drop n unit)) (λ (r : ReadOf). Some (r.0 ∷ [], r.1)) (before g)))
          (all-bind (TokenRead in_pieces own e unit true name f.1 n) Whole (token_in big deep t (drop n unit)) _ (token-read true name f.1 n)
          (λ r p i.
          all-some Whole
          (record {
            value = record { form = f.1; field = field_of big n i.it };
            is =
                attribute-indirect e unit at name form (eqb_yes {a = form} {b = 0x16} h)
                ∙ ap (λ o. behind_forms e unit at name form (as_form_number at o)) q
                ∙ ap (λ o. valued f.1 (as_field big n o)) i.is;
            rest = token-rest t n (i.it, r.1) i.is;
            numbers =
                more-reads g (r.0 ∷ []) ∙ ap (λ (l : List ℕ). l ++ in_reads (r.0 ∷ [])) (Copied-none _)
                ∙ read_one r.0 ∙ i.numbers;
          })))

      indirect-value : T (eqb form 0x16) → All Whole (read_in big deep (field forms behind) (drop at unit))
      unfolding read_in token_in as_forms bind copy
      indirect-value h =
          let s : List ℕ = drop at unit in
          subst (All Whole) (sym (bind-bind (forms_in s) (as_forms s) (λ (r : ReadOf). bind (read_in big deep (behind r.0.seen) r.1) (before r.0))))
          (all-bind _ Whole (forms_in s) _ (all-triv (forms_in s))
          (λ f q _.
          subst (λ (z : List ℕ). All Whole (bind (read_in big deep (behind f.1) z) (before (copy f.1 0 f.0 s).0)))
          (sym (drop-drop f.0 at unit)) (value-behind h f q)))

      value_read : All Whole (read_in big deep (attribute_layout e name form) (drop at unit))
      unfolding attribute_layout
      value_read =
          pick-either (λ g. All Whole (read_in big deep g (drop at unit))) (eqb form 0x16) (field forms behind)
          (field (value_token e false name form) (λ _. done)) indirect-value direct-value

    -- ---- the values of an entry

    abbrev Values : List AttributeSpec → ℕ → RunOf → Type 0
    Values specs at r = in_reads r.0 ≡ in_values (values_of e unit specs at)

    values-read : (specs : List AttributeSpec) (at : ℕ) → All (Values specs at) (read_in big deep (attributes_layout e specs) (drop at unit))
    unfolding attributes_layout read_in values_of on_attribute joined
    values-read [] at = all-some (Values [] at) (no_reads ∙ sym no-values)
    values-read (a ∷ rest) at =
        subst (All (Values (a ∷ rest) at)) (sym (read-then big deep (attribute_layout e a.name a.form) (attributes_layout e rest) (drop at unit)))
        (all-bind (ValueRead in_reads own e unit a.name a.form at) _ (read_in big deep (attribute_layout e a.name a.form) (drop at unit)) _
        (value_read a.name a.form at)
        (λ r q v. all-bind (Values rest v.value.field.end) _ (read_in big deep (attributes_layout e rest) r.1) _
        (subst (λ (z : List ℕ). All (Values rest v.value.field.end) (read_in big deep (attributes_layout e rest) z)) (sym v.rest) (values-read rest v.value.field.end))
        (λ r' q' i. all-some (Values (a ∷ rest) at)
        (reads-append r.0 r'.0
        ∙ ap₂ ◌++◌ v.numbers i
        ∙ sym (ap (λ (o : Option Attribute). in_values (on_attribute a o (λ next. values_of e unit rest next))) v.is
        ∙ more-values (record { name = a.name; declared = a.form; value = v.value }) (values_of e unit rest v.value.field.end))))))

    module _ (abbreviations : List ℕ) (look : ℕ → Option Declaration) where
      abbrev At : ℕ → RunOf → Type 0
      At at r = StepBy in_values e unit abbreviations (step_of_reads e abbreviations look at r.0) (in_reads r.0)

      entry-values : (p at : ℕ) (o : Option (Scanned AttributeSpec ℕ)) → attributes_from abbreviations p ≡ o
          → All (λ (r : RunOf). in_reads r.0 ≡ in_values (entry_values e abbreviations p unit at)) (read_in big deep (specs_layout e o) (drop at unit))
      unfolding specs_layout read_in entry_values
      entry-values p at None q = all_none _
      entry-values p at (Some o) q =
          subst (λ (l : List AttributeSpec). All (λ (r : RunOf). in_reads r.0 ≡ in_values (values_of e unit l at)) (read_in big deep (attributes_layout e o.0) (drop at unit)))
          (sym (specs-all abbreviations p o q)) (values-read o.0 at)

      module _ (at : ℕ) (c : Read) (none_in : in_pieces c.pieces ≡ []) where
        found_at : T (not (eqb c.seen 0)) → (f : Option Declaration) → look c.seen ≡ f
            → All (At at) (bind (read_in big deep (found_layout e abbreviations look f) (drop (at + size big c) unit)) (before c))
        unfolding found_layout read_in before bind step_of_reads entry_found StepBy
        found_at t None h = all_none _
        found_at t (Some d) h =
            all-bind (λ (r : RunOf). in_reads r.0 ≡ in_values (entry_values e abbreviations d.attributes.at unit (at + size big c))) _
            (read_in big deep (specs_layout e (attributes_from abbreviations d.attributes.at)) (drop (at + size big c) unit)) _
            (entry-values d.attributes.at (at + size big c) (attributes_from abbreviations d.attributes.at) refl)
            (λ r q i. all-some (At at)
            (subst (λ (s : Option Step). StepBy in_values e unit abbreviations s (in_reads (c ∷ r.0)))
            (sym (pick_no _ _ _ t ∙ ap (entry_found e abbreviations look at (at + size big c) _) h))
            (more-reads c r.0 ∙ ap₂ ◌++◌ none_in i)))

        code_at : All (At at) (bind (read_in big deep (pick (eqb c.seen 0) done (found_layout e abbreviations look (look c.seen))) (drop (at + size big c) unit)) (before c))
        unfolding read_in before bind step_of_reads StepBy
        code_at =
            ⊎_elim
            (λ t. subst (λ g. All (At at) (bind (read_in big deep g (drop (at + size big c) unit)) (before c))) (sym (pick_yes _ _ _ t))
            (all-some (At at) (subst (λ (s : Option Step). StepBy in_values e unit abbreviations s (in_reads (c ∷ []))) (sym (pick_yes _ _ _ t)) (more-reads c [] ∙ ap₂ ◌++◌ none_in no_reads))))
            (λ t. subst (λ g. All (At at) (bind (read_in big deep g (drop (at + size big c) unit)) (before c))) (sym (pick_no _ _ _ t))
            (found_at t (look c.seen) refl))
            (either (eqb c.seen 0))

      -- what is read deep at a place
      all-at : (at : ℕ) → All (At at) (read_in big deep (entry_layout e abbreviations look) (drop at unit))
      unfolding entry_layout read_in size
      all-at at =
          all-bind _ _ (token_in big deep (number leb128) (drop at unit)) _ (all-triv (token_in big deep (number leb128) (drop at unit)))
          (λ r q _.
          let l : TokenLaw big deep (number leb128) (drop at unit) r =
          all_of (TokenLaw big deep (number leb128) (drop at unit)) (token-law big deep (expression-law e) (number leb128) (drop at unit)) q in
          subst (λ (z : List ℕ). All (At at) (bind (read_in big deep (pick (eqb r.0.seen 0) done (found_layout e abbreviations look (look r.0.seen))) z) (before r.0)))
          (sym (l.0.1 ∙ drop-drop _ at unit)) (code_at at r.0 (code-none at r q)))

      -- THE numbers gathered of what is read deep at a place, by the step there
      pub deep-by : (at : ℕ) (all : RunOf) → read_in big deep (entry_layout e abbreviations look) (drop at unit) ≡ Some all
          → StepBy in_values e unit abbreviations (step_at e abbreviations look unit at) (in_reads all.0)
      deep-by at all q =
          subst (λ (s : Option Step). StepBy in_values e unit abbreviations s (in_reads all.0))
          (sym (deep_step e abbreviations look deep (expression-law e) unit at all.0 all.1 q)) (all_of (At at) (all-at at) q)
