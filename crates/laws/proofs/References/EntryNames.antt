-- The references of an entry that can be read deep are those that its attributes name: by their forms, and by the expressions in exprloc. Assumes nothing.
use mathlib.Core.Path.{◌≡◌, refl, ap, sym, ◌∙◌, subst}
use Prim.Native.Nat.{ℕ, suc, ◌+◌, ◌-◌, ◌≤◌}
use native.Mathlib.Omega.{arith}
use mathlib.Core.Bool.{Bool, true, false, not}
use mathlib.Core.List.{List, [], ◌∷◌, ◌++◌, append-nil}
use Rattle.std.specs.Prelude.{Option, Some}
use Rattle.readers.specs.declared.abbreviations.Declaration.{Declaration}
use Rattle.readers.specs.declared.entries.Step.{Step}
use mathlib.Core.Logic.{⊎_elim}
use lib.ListN.{length, take, drop, length-append}
use lib.Seq.{length-take-le, drop-drop}
use lib.Dec.{T, eqb, leb}
use mir.Facts.{leb_yes, eqb_yes, eqb_no, no_eqb}
use Rattle.readers.specs.Choice.{pick, ◌and◌, ◌or◌, bind}
use Rattle.readers.proofs.Choice.{pick_no, pick-either, either, bind-at, check-yes, All, all-some, all_none, all_of, all-bind, all-check, all_map, all-triv, and_both}
use Rattle.readers.specs.Numbers.{uleb, sleb}
use Rattle.readers.specs.Layout.{Kind, leb128, reference, sibling, Token, nothing, number, bounded, forms, signed, link, string, run, block, expression, unknown, verbatim, Read, ReadOf, RunOf, ExpressionReader, as_bytes, copy, as_number, as_bounded, as_forms, as_signed, as_link, as_string, as_block, as_expression, number_in, forms_in, string_in, token_in, read_in, bytes_of, piece_bytes}
use Rattle.readers.proofs.LayoutLaws.{LebLaw, uleb-law}
use Rattle.readers.specs.Expression.{expression_in}
use Rattle.readers.specs.Tokens.{Use, plain, as', number_as, token_of}
use Rattle.readers.specs.Forms.{form_tokens, token_among, form_token, use_of, value_token}
use Rattle.readers.specs.Fields.{size, linked_value, field_of}
use Rattle.readers.specs.Entries.{entry_layout, step_at}
use Rattle.readers.specs.declared.cursor.Encoding.{Encoding}
use Rattle.readers.specs.declared.fields.Field.{Field}
use Rattle.readers.specs.declared.attributes.Attribute.{Attribute}
use Rattle.readers.specs.EntryAttributes.{Valued}
use Rattle.marking.specs.EntryReferences.{part_of}
use Rattle.rewriting.proofs.WritePass.Expressions.{is_expression, value-exprloc}
use Rattle.rewriting.proofs.KeptPass.EntryReads.{TokenRead, StepBy, deep-by}
use Rattle.rewriting.proofs.KeptPass.FormTokens.{all_known}
use Rattle.rewriting.proofs.WritePass.ValueForms.{form_number_is, expression-form}
use Rattle.laws.proofs.References.NamedPieces.{role_names, piece_names, pieces_names, reads_names, names_of}

-- a use that names nothing
unfoldable NoNames : Use → Type 0
NoNames plain = Unit {0}
NoNames (as' r) = (v : ℕ) → role_names r v ≡ []

own-role : (b : Bool) (v : ℕ) → role_names (pick b sibling reference) v ≡ pick b [] (v ∷ [])
unfolding role_names pick
own-role true v = refl
own-role false v = refl

unless : (b : Bool) (l : List ℕ) → T (not b) → l ≡ pick b [] l
unless b l t = sym (pick_no b [] l t)

-- forms but ref1 to ref8 and ref_udata name nothing
other-use : (name f : ℕ) → T (not (leb 0x11 f and leb f 0x15)) → NoNames (use_of name f)
unfolding use_of NoNames role_names
other-use name f n =
    subst NoNames (sym (pick_no _ _ _ n))
    (pick-either NoNames (eqb f 0x10) _ _ (λ _ _. refl)
    (λ _. pick-either NoNames (eqb f 0x23) _ _ (λ _ _. refl)
    (λ _. pick-either NoNames (eqb f 0x22) _ _ (λ _ _. refl)
    (λ _. pick-either NoNames (eqb f 0x1a or (leb 0x25 f and leb f 0x28) or eqb f 0x1f02) _ plain (λ _ _. refl) (λ _. tt)))))

module _ (e : Encoding) (unit : List ℕ) where
  abbrev big : Bool
  big = e.big_endian

  abbrev deep : ExpressionReader
  deep = expression_in e

  -- ---- a token

  -- the references that a token with such a field names
  unfoldable token_names : Token → Field → List ℕ
  token_names nothing f = []
  token_names (number w) f = []
  token_names (bounded n) f = []
  token_names forms f = []
  token_names signed f = []
  token_names (link w r) f = role_names r f.value
  token_names string f = []
  token_names (run n) f = []
  token_names (block w) f = []
  token_names expression f = names_of (deep (part_of unit f))
  token_names unknown f = []

  -- a token that was read deep at a place: read as bytes too, and its references by its field
  record NamedToken (t : Token) (at : ℕ) (r : ReadOf) : Type 0 where
    pub it : Read
    pub is : token_in big as_bytes t (drop at unit) ≡ Some (it, r.1)
    pub names : pieces_names r.0.pieces ≡ token_names t (field_of big at it)

  -- an expression's payload
  part-is : (at n m : ℕ) (q : List ℕ) → q ≡ drop n (drop at unit) → m ≤ length q → n ≤ length (drop at unit)
      → part_of unit (field_of big at (record { seen = 0; start = n; pieces = verbatim (take n (drop at unit)) ∷ verbatim (take m q) ∷ [] })) ≡ take m q
  unfolding part_of field_of size bytes_of piece_bytes
  part-is at n m q h l k =
      let a : List ℕ = take n (drop at unit) in
      let b : List ℕ = take m q in
      let w : at + length (a ++ (b ++ [])) - (at + n) ≡ m =
      omega (arith, length-append a (b ++ []), length-append b [], length-take-le n (drop at unit) k, length-take-le m q l) in
      ap (λ (z : ℕ). take z (drop (at + n) unit)) w ∙ ap (take m) (sym (drop-drop n at unit) ∙ sym h)

  expression-named : (at : ℕ) → All (NamedToken expression at) (token_in big deep expression (drop at unit))
  unfolding token_in token_names pieces_names piece_names names_of as_expression as_bytes bind
  expression-named at =
      let s : List ℕ = drop at unit in
      all-bind (LebLaw uleb s) _ (uleb s) _ (uleb-law s)
      (λ t q u. all-check _ _ _ (λ w.
      all-bind _ _ (deep (take t.1 t.2)) _ (all-triv (deep (take t.1 t.2)))
      (λ ps p _. all-some (NamedToken expression at) (record {
        it = record { seen = 0; start = suc t.0; pieces = verbatim (take (suc t.0) s) ∷ verbatim (take t.1 t.2) ∷ [] };
        is = bind-at _ q ∙ check-yes _ _ w;
        names = sym (ap names_of (ap deep (part-is at (suc t.0) t.1 t.2 u.0.1 (leb_yes {a = t.1} {b = length t.2} w) u.0.0) ∙ p));
      }))))

  token-named : (t : Token) (at : ℕ) → All (NamedToken t at) (token_in big deep t (drop at unit))
  unfolding token_in token_names pieces_names piece_names as_number as_bounded as_forms as_signed as_link as_string as_block copy field_of linked_value
  token-named nothing at = all-some (NamedToken nothing at) (record { it = _; is = refl; names = refl })
  token-named (number w) at =
      let s : List ℕ = drop at unit in
      all-bind _ _ (number_in big w s) _ (all-triv (number_in big w s))
      (λ r q _. all-some (NamedToken (number w) at) (record { it = _; is = bind-at _ q; names = refl }))
  token-named (bounded n) at =
      let s : List ℕ = drop at unit in
      all-bind _ _ (uleb s) _ (all-triv (uleb s))
      (λ r q _. all-check _ _ _ (λ u. all-some (NamedToken (bounded n) at) (record { it = _; is = bind-at _ q ∙ check-yes _ _ u; names = refl })))
  token-named forms at =
      let s : List ℕ = drop at unit in
      all-bind _ _ (forms_in s) _ (all-triv (forms_in s))
      (λ r q _. all-some (NamedToken forms at) (record { it = _; is = bind-at _ q; names = refl }))
  token-named signed at =
      let s : List ℕ = drop at unit in
      all-bind _ _ (sleb s) _ (all-triv (sleb s))
      (λ r q _. all-some (NamedToken signed at) (record { it = _; is = bind-at _ q; names = refl }))
  token-named (link w role) at =
      let s : List ℕ = drop at unit in
      all-bind _ _ (number_in big w s) _ (all-triv (number_in big w s))
      (λ r q _. all-some (NamedToken (link w role) at) (record { it = _; is = bind-at _ q; names = append-nil (role_names role r.1) }))
  token-named string at =
      let s : List ℕ = drop at unit in
      all-bind _ _ (string_in s) _ (all-triv (string_in s))
      (λ r q _. all-some (NamedToken string at) (record { it = _; is = bind-at _ q; names = refl }))
  token-named (run n) at = all-check _ _ _ (λ u. all-some (NamedToken (run n) at) (record { it = _; is = check-yes _ _ u; names = refl }))
  token-named (block w) at =
      let s : List ℕ = drop at unit in
      all-bind _ _ (number_in big w s) _ (all-triv (number_in big w s))
      (λ r q _. all-check _ _ _ (λ u. all-some (NamedToken (block w) at) (record { it = _; is = bind-at _ q ∙ check-yes _ _ u; names = refl })))
  token-named expression at = expression-named at
  token-named unknown at = all_none _

  -- ---- a token that names nothing

  module _ (f : Field) where
    no_number : (u : Use) → NoNames u → (w : Kind) → token_names (number_as u w) f ≡ []
    unfolding NoNames number_as token_names
    no_number plain h w = refl
    no_number (as' r) h w = h f.value

    abbrev Empty : Token → Type 0
    Empty t = (T (is_expression t) → ⊥) → token_names t f ≡ []

    no-token : (u : Use) → NoNames u → (n : ℕ) → Empty (token_of e u n)
    unfolding token_of token_names is_expression
    no-token u h n =
        pick-either Empty (eqb n 0) nothing _ (λ _ _. refl)
        (λ _. pick-either Empty (leb n 8) _ _ (λ _ _. no_number u h _)
        (λ _. pick-either Empty (eqb n 9) _ _ (λ _ _. no_number u h _)
        (λ _. pick-either Empty (eqb n 10) _ _ (λ _ _. no_number u h _)
        (λ _. pick-either Empty (eqb n 11) _ _ (λ _ _. no_number u h _)
        (λ _. pick-either Empty (eqb n 12) signed _ (λ _ _. refl)
        (λ _. pick-either Empty (eqb n 13) string _ (λ _ _. refl)
        (λ _. pick-either Empty (eqb n 14) (run 16) _ (λ _ _. refl)
        (λ _. pick-either Empty (eqb n 15) (block _) _ (λ _ _. refl)
        (λ _. pick-either Empty (eqb n 16) (block _) _ (λ _ _. refl)
        (λ _. pick-either Empty (eqb n 17) (block _) _ (λ _ _. refl)
        (λ _. pick-either Empty (eqb n 18) (block _) _ (λ _ _. refl)
        (λ _. pick-either Empty (eqb n 19) expression _ (λ _ k. absurd (k tt))
        (λ _. pick-either Empty (eqb n 20) (bounded 65535) unknown (λ _ _. refl) (λ _ _. refl))))))))))))))

  -- ---- a value

  -- the references that a value names by its attribute's name and its form (attribute_found, but for location lists)
  unfoldable pub own_names : ℕ → ℕ → Field → List ℕ
  own_names name form f =
      pick (eqb name 0x01) []
      (pick (leb 0x11 form and leb form 0x15) (f.value ∷ [])
      (pick (eqb form 0x18) (names_of (deep (part_of unit f))) []))

  module _ (name : ℕ) (f : Field) where
    abbrev Chosen : ℕ → Type 0
    Chosen form = token_names (token_of e (use_of name form) (form_token form)) f ≡ own_names name form f

    of-ref1 : Chosen 0x11
    unfolding token_names token_of number_as use_of form_token form_tokens token_among own_names pick ◌and◌
    of-ref1 = own-role (eqb name 0x01) f.value

    of-ref2 : Chosen 0x12
    unfolding token_names token_of number_as use_of form_token form_tokens token_among own_names pick ◌and◌
    of-ref2 = own-role (eqb name 0x01) f.value

    of-ref4 : Chosen 0x13
    unfolding token_names token_of number_as use_of form_token form_tokens token_among own_names pick ◌and◌
    of-ref4 = own-role (eqb name 0x01) f.value

    of-ref8 : Chosen 0x14
    unfolding token_names token_of number_as use_of form_token form_tokens token_among own_names pick ◌and◌
    of-ref8 = own-role (eqb name 0x01) f.value

    of-ref-udata : Chosen 0x15
    unfolding token_names token_of number_as use_of form_token form_tokens token_among own_names pick ◌and◌
    of-ref-udata = own-role (eqb name 0x01) f.value

    -- under DW_AT_sibling it can't be read
    of-exprloc : (name ≡ 0x01 → ⊥) → Chosen 0x18
    unfolding token_names token_of use_of form_token form_tokens token_among own_names pick ◌and◌ ◌or◌
    of-exprloc n = unless (eqb name 0x01) (names_of (deep (part_of unit f))) (no_eqb {a = name} {b = 0x01} n)

    own-none : (form : ℕ) → T (not (leb 0x11 form and leb form 0x15)) → (form ≡ 0x18 → ⊥) → [] ≡ own_names name form f
    unfolding own_names
    own-none form n x =
        pick-either (λ (l : List ℕ). [] ≡ l) (eqb name 0x01) [] _ (λ _. refl) (λ _. sym (pick_no _ _ _ n ∙ pick_no _ _ _ (no_eqb {a = form} {b = 0x18} x)))

    of-reference : (form : ℕ) → 0x11 ≤ form → form ≤ 0x15 → Chosen form
    of-reference form h k =
        ⊎_elim (λ t. subst Chosen (sym (eqb_yes {a = form} {b = 0x11} t)) of-ref1)
        (λ a. ⊎_elim (λ t. subst Chosen (sym (eqb_yes {a = form} {b = 0x12} t)) of-ref2)
        (λ b. ⊎_elim (λ t. subst Chosen (sym (eqb_yes {a = form} {b = 0x13} t)) of-ref4)
        (λ c. ⊎_elim (λ t. subst Chosen (sym (eqb_yes {a = form} {b = 0x14} t)) of-ref8)
        (λ d. subst Chosen
        (let z : 0x15 ≡ form = omega (arith, eqb_no {a = form} {b = 0x11} a, eqb_no {a = form} {b = 0x12} b, eqb_no {a = form} {b = 0x13} c, eqb_no {a = form} {b = 0x14} d) in z) of-ref-udata)
        (either (eqb form 0x14)))
        (either (eqb form 0x13)))
        (either (eqb form 0x12)))
        (either (eqb form 0x11))

    -- a value that can be read, and is a form's token
    chosen : (form : ℕ) → (form ≡ 0x18 → name ≡ 0x01 → ⊥) → (T (is_expression (token_of e (use_of name form) (form_token form))) → form ≡ 0x18) → Chosen form
    chosen form s x =
        ⊎_elim
        (λ t. let b = and_both (leb 0x11 form) (leb form 0x15) t in of-reference form (leb_yes {a = 0x11} {b = form} b.0) (leb_yes {a = form} {b = 0x15} b.1))
        (λ n. ⊎_elim
        (λ t. let z : form ≡ 0x18 = eqb_yes {a = form} {b = 0x18} t in subst Chosen (sym z) (of-exprloc (s z)))
        (λ t. let z : form ≡ 0x18 → ⊥ = eqb_no {a = form} {b = 0x18} t in
        no-token f (use_of name form) (other-use name form n) (form_token form) (λ y. z (x y)) ∙ own-none form n z)
        (either (eqb form 0x18)))
        (either (leb 0x11 form and leb form 0x15))

    value-names : (indirect : Bool) (form : ℕ) → value_token e indirect name form ≡ form_number_is e name form → token_names (value_token e indirect name form) f ≡ own_names name form f
    unfolding is_expression
    value-names indirect form known =
        let own : T (is_expression (form_number_is e name form)) → (form ≡ 0x18) × (name ≡ 0x01 → ⊥) =
        (λ t. value-exprloc e indirect name form (subst (λ (t : Token). T (is_expression t)) (sym known) t)) in
        ap (λ (t : Token). token_names t f) known
        ∙ chosen form (λ y. (own (subst (λ (t : Token). T (is_expression t)) (sym (expression-form e name form y)) tt)).1) (λ t. (own t).0)

  -- ---- a value that was read deep

  abbrev value_names : ℕ → Attribute → List ℕ
  value_names name v = own_names name v.form v.field

  token-read : (indirect : Bool) (name form at : ℕ)
      → All (TokenRead pieces_names value_names e unit indirect name form at) (token_in big deep (value_token e indirect name form) (drop at unit))
  token-read indirect name form at =
      let t : Token = value_token e indirect name form in
      all_known e indirect name form big deep (drop at unit) (TokenRead pieces_names value_names e unit indirect name form at) (λ known.
      all_map (NamedToken t at) (TokenRead pieces_names value_names e unit indirect name form at) (token_in big deep t (drop at unit))
      (λ r i. record { it = i.it; is = i.is; numbers = i.names ∙ value-names name (field_of big at i.it) indirect form known })
      (token-named t at))

  copied_none : (l : List ℕ) → pieces_names (verbatim l ∷ []) ≡ []
  unfolding pieces_names piece_names
  copied_none l = refl

  -- ---- the values of an entry

  unfoldable pub values_names : List Valued → List ℕ
  values_names [] = []
  values_names (a ∷ rest) = own_names a.name a.value.form a.value.field ++ values_names rest

  -- ---- an entry or a terminator

  no_code : (at : ℕ) (r : ReadOf) → token_in big deep (number leb128) (drop at unit) ≡ Some r → pieces_names r.0.pieces ≡ []
  unfolding token_names
  no_code at r q = (all_of (NamedToken (number leb128) at) (token-named (number leb128) at) q).names

  more-reads : (r : Read) (rs : List Read) → reads_names (r ∷ rs) ≡ pieces_names r.pieces ++ reads_names rs
  unfolding reads_names
  more-reads r rs = refl

  no_reads : reads_names [] ≡ []
  unfolding reads_names
  no_reads = refl

  more-values : (a : Valued) (rest : List Valued) → values_names (a ∷ rest) ≡ value_names a.name a.value ++ values_names rest
  unfolding values_names
  more-values a rest = refl

  no-values : values_names [] ≡ []
  unfolding values_names
  no-values = refl

  module _ (abbreviations : List ℕ) (look : ℕ → Option Declaration) where
    abbrev pub StepNames : Option Step → List ℕ → Type 0
    StepNames s ns = StepBy values_names e unit abbreviations s ns

    -- THE references of what is read deep at a place, by the step there
    pub deep-names : (at : ℕ) (all : RunOf) → read_in big deep (entry_layout e abbreviations look) (drop at unit) ≡ Some all
        → StepNames (step_at e abbreviations look unit at) (reads_names all.0)
    deep-names at all q =
        deep-by pieces_names reads_names values_names value_names no_reads more-reads no-values more-values e unit token-read copied_none no_code abbreviations look at all q
