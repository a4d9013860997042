-- Values of attributes from a place of a slice on: each by its form, those of an entry one after the other, and entries by the steps of their reader.
use Prim.Native.Nat.{ℕ, suc, ◌+◌, ◌≤◌, ◌<◌}
use mathlib.Core.Path.{◌≡◌, refl, ap, ap₂, sym, ◌∙◌, subst}
use mathlib.Core.Logic.{◌⊎◌, inl, inr, ⊎_elim}
use mathlib.Core.Bool.{Bool, true, false, not}
use Rattle.std.specs.Prelude.{None, Option, Some}
use Rattle.readers.specs.declared.entries.HeadStep.{HeadStep}
use Rattle.readers.specs.declared.entries.Step.{Step}
use mathlib.Core.List.{List, [], ◌∷◌, ◌++◌, append-nil}
use native.Mathlib.Omega.{arith}
use lib.ListN.{length, get_or, take, drop, length-append}
use lib.Seq.{length-take-le, drop-drop}
use lib.Dec.{T, ltb, eqb}
use borrow.Author.Tests.{eq-eqb, ne_eqb}
use mir.Facts.{yes_ltb, no_ltb, ltb_yes, ltb_no, yes_eqb, no_eqb, eqb_yes, eqb_no}
use Rattle.readers.specs.Choice.{pick, ◌and◌, ◌or◌, bind}
use Rattle.readers.proofs.Choice.{pick_yes, pick_no, pick-either, either, bind-bind, bind-ext, All, all-some, all-bind, all-triv, all_map}
use Rattle.readers.specs.Numbers.{Groups, uleb}
use Rattle.readers.specs.Layout.{Read, ReadOf, RunOf, ExpressionReader, Token, forms, Layout, done, fail, field, as_bytes, as_leb, copy, as_number, as_forms, before, number_in, forms_in, token_in, read_in, piece_bytes, bytes_of, write_all, width}
use Rattle.readers.proofs.LayoutLaws.{LebLaw, uleb-law, FormsLaw, forms-law, ReadLaw, read-law, as-bytes-law}
use Rattle.readers.specs.Operations.{Codes}
use Rattle.readers.specs.Forms.{form_token, form_tokens, token_among, use_of, in_version, value_token, attribute_layout}
use Rattle.readers.specs.Cursors.{cursor, as_leb_number, leb_at, as_form_number, forms_at}
use Rattle.readers.specs.Fields.{size, field_of, as_field, token_at, field_at}
use Rattle.readers.specs.Scan.{Scanned, push}
use Rattle.readers.specs.Abbreviations.{spec_at, attributes_from, scanned_to, past_attributes, moved_declaration, whole_declaration, declaration_found, whole_found, find_head, find_at}
use Rattle.readers.specs.Entries.{attribute_of_reads, as_attribute, attribute_at, attribute_end, then, attributes_layout, specs_layout, as_past, values_at, found_layout, entry_layout, entry_found, step_of_reads, as_step, step_at, head_found, head_of_code, entry_head_at}
use Rattle.readers.specs.Inner.Entries.{entry_of, entry_to, head_end, head_step}
use Rattle.readers.specs.declared.cursor.Encoding.{Encoding}
use Rattle.readers.specs.declared.cursor.Cursor.{Cursor}
use Rattle.readers.specs.declared.fields.Field.{Field}
use Rattle.readers.specs.declared.abbreviations.AttributeSpec.{AttributeSpec}
use Rattle.readers.specs.declared.abbreviations.SpecStep.TheVariants.{Attribute, Last as LastSpec}
use Rattle.readers.specs.declared.abbreviations.Declaration.{Declaration}
use Rattle.readers.specs.declared.abbreviations.DeclarationStep.TheVariants.{Declaration as Declared}
use Rattle.readers.specs.declared.attributes.Attribute.{Attribute as Valued}
use Rattle.readers.specs.declared.entries.EntryHead.{EntryHead}
use Rattle.readers.specs.declared.entries.HeadStep.TheVariants.{Entry as Head, Terminator as TerminatorHead, End as EndHead}
use Rattle.readers.specs.declared.entries.Step.TheVariants.{Entry as Entry', Terminator, End}
use Rattle.readers.proofs.Specs.{attributes-more, attributes-last, attributes-bad}
use Rattle.readers.proofs.Constants.{listed, entry}
use Rattle.readers.proofs.Tokens.{token-use, token-unknown, field-nothing}

abbrev order : Encoding → Bool
order e = e.big_endian

-- copied bytes are as many as were taken
copied-size : (big : Bool) (v k n : ℕ) (s : List ℕ) → n ≤ length s → size big (copy v k n s).0 ≡ n
unfolding size copy bytes_of piece_bytes
copied-size big v k n s h = ap length (append-nil (take n s)) ∙ length-take-le n s h

-- ---- the tokens of forms

-- every form is below 45 or is 0x1f01 or 0x1f02
unfoldable known : List Codes → Bool
known [] = true
known (x ∷ xs) = pick (ltb x.from 45) (known xs) (pick (eqb x.from 0x1f02) (known xs) (pick (eqb x.from 0x1f01) (known xs) false))

module _ (f : ℕ) (high : 45 ≤ f) (other : f ≡ 0x1f02 → ⊥) (another : f ≡ 0x1f01 → ⊥) where
  not-among : (xs : List Codes) → T (known xs) → token_among xs f ≡ 21
  unfolding token_among known
  not-among [] h = refl
  not-among (x ∷ xs) h =
      ⊎_elim
      (λ u. pick_no _ _ _ (no_eqb {a = x.from} {b = f} (λ q. absurd (omega (arith, ltb_yes {a = x.from} {b = 45} u))))
      ∙ not-among xs (subst T (pick_yes _ _ _ u) h))
      (λ u. ⊎_elim
      (λ v. pick_no _ _ _ (no_eqb {a = x.from} {b = f} (λ q. other (sym q ∙ eqb_yes {a = x.from} {b = 0x1f02} v)))
      ∙ not-among xs (subst T (pick_no _ _ _ u ∙ pick_yes _ _ _ v) h))
      (λ v. ⊎_elim
      (λ w. pick_no _ _ _ (no_eqb {a = x.from} {b = f} (λ q. another (sym q ∙ eqb_yes {a = x.from} {b = 0x1f01} w)))
      ∙ not-among xs (subst T (pick_no _ _ _ u ∙ pick_no _ _ _ v ∙ pick_yes _ _ _ w) h))
      (λ w. absurd (subst T (pick_no _ _ _ u ∙ pick_no _ _ _ v ∙ pick_no _ _ _ w) h))
      (either (eqb x.from 0x1f01)))
      (either (eqb x.from 0x1f02)))
      (either (ltb x.from 45))

  pub token-none : 21 ≡ form_token f
  unfolding form_token form_tokens known pick
  token-none = sym (not-among form_tokens tt)

pub token-low : (f : ℕ) → f < 45 → get_or (listed form_token 45) f 0 ≡ form_token f
token-low f h = entry form_token 45 f h

pub token-gnu : (f : ℕ) → f ≡ 0x1f02 → 11 ≡ form_token f
unfolding form_token form_tokens token_among pick
token-gnu f h = sym (ap form_token h)

pub token-address : (f : ℕ) → f ≡ 0x1f01 → 11 ≡ form_token f
unfolding form_token form_tokens token_among pick
token-address f h = sym (ap form_token h)

-- ---- the value in a form

is_true : (b : Bool) → T b → b ≡ true
is_true true h = refl
is_true false h = absurd h

neither : (a b c d : Bool) → (T a → T b → ⊥) → (T c → T d → ⊥) → T (not ((a and b) or (c and d)))
unfolding ◌and◌ ◌or◌
neither true true c d h k = absurd (h tt tt)
neither true false true true h k = absurd (k tt tt)
neither true false true false h k = tt
neither true false false d h k = tt
neither false b true true h k = absurd (k tt tt)
neither false b true false h k = tt
neither false b false d h k = tt

-- what bars a value: the version, or one of the two others
barred : (v b : Bool) → (T (not v)) ⊎ T b → T (not v or b)
unfolding ◌or◌
barred true b h = ⊎_elim (λ t. absurd t) (λ t. t) h
barred false b h = tt

unbarred : (v b : Bool) → T v → T (not b) → T (not (not v or b))
unfolding ◌or◌
unbarred true b t h = h
unbarred false b t h = absurd t

one_of : (a b c d : Bool) → (T a × T b) ⊎ (T c × T d) → T ((a and b) or (c and d))
unfolding ◌and◌ ◌or◌
one_of true true c d h = tt
one_of true false true true h = tt
one_of true false true false h = ⊎_elim (λ u. u.1) (λ u. u.1) h
one_of true false false d h = ⊎_elim (λ u. u.1) (λ u. u.0) h
one_of false b true true h = tt
one_of false b true false h = ⊎_elim (λ u. u.0) (λ u. u.1) h
one_of false b false d h = ⊎_elim (λ u. u.0) (λ u. u.0) h

module _ (e : Encoding) (s : List ℕ) (at : ℕ) (indirect : Bool) (name form : ℕ) where
  abbrev other : Bool
  other = (eqb name 0x01 and eqb form 0x18) or (indirect and eqb form 0x21)

  barred-value : (T (not (in_version e.version form))) ⊎ T other → None ≡ token_at e s at (value_token e indirect name form)
  unfolding value_token
  barred-value h = sym (ap (token_at e s at) (pick_yes _ _ _ (barred (in_version e.version form) other h)) ∙ token-unknown e s at)

  refused : (T (eqb name 0x01) × T (eqb form 0x18)) ⊎ (T indirect × T (eqb form 0x21)) → None ≡ token_at e s at (value_token e indirect name form)
  refused h = barred-value (inr (one_of (eqb name 0x01) (eqb form 0x18) indirect (eqb form 0x21) h))

  -- a form of the other version
  pub value-foreign : in_version e.version form ≡ false → None ≡ token_at e s at (value_token e indirect name form)
  value-foreign h = barred-value (inl (subst (λ (b : Bool). T (not b)) (sym h) tt))

  -- a sibling in exprloc
  pub value-sibling : name ≡ 0x01 → form ≡ 0x18 → None ≡ token_at e s at (value_token e indirect name form)
  value-sibling h k = refused (inl (yes_eqb {a = name} {b = 0x01} h, yes_eqb {a = form} {b = 0x18} k))

  -- implicit_const under indirect
  pub value-implicit : indirect ≡ true → form ≡ 0x21 → None ≡ token_at e s at (value_token e indirect name form)
  value-implicit h k = refused (inr (subst T (sym h) tt, yes_eqb {a = form} {b = 0x21} k))

  -- any other, whatever it is used as
  pub value-other : in_version e.version form ≡ true → (name ≡ 0x01 → form ≡ 0x18 → ⊥) → (indirect ≡ true → form ≡ 0x21 → ⊥)
      → token_at e s at (value_token e indirect name form) ≡ field_at e s at (form_token form)
  unfolding value_token
  value-other i h k =
      ap (token_at e s at)
      (pick_no _ _ _ (unbarred (in_version e.version form) other (subst T (sym i) tt)
      (neither (eqb name 0x01) (eqb form 0x18) indirect (eqb form 0x21)
      (λ u v. h (eqb_yes {a = name} {b = 0x01} u) (eqb_yes {a = form} {b = 0x18} v))
      (λ u v. k (is_true indirect u) (eqb_yes {a = form} {b = 0x21} v)))))
      ∙ token-use e s at (use_of name form) (form_token form)

-- ---- the forms of a version

module _ (version form : ℕ) where
  pub in_four : version ≡ 4 → (form ≡ 0x23 → ⊥) → in_version version form ≡ not (eqb form 0x22)
  unfolding in_version pick ◌or◌
  in_four v f = ap (λ (b : Bool). pick b (not (eqb form 0x23 or eqb form 0x22)) (not (eqb form 0x1f01))) (eq-eqb version 4 v)
      ∙ ap (λ (b : Bool). not (b or eqb form 0x22)) (ne_eqb form 0x23 f)

  pub out-of-four : version ≡ 4 → form ≡ 0x23 → in_version version form ≡ false
  unfolding in_version pick ◌or◌
  out-of-four v f = ap (λ (b : Bool). pick b (not (eqb form 0x23 or eqb form 0x22)) (not (eqb form 0x1f01))) (eq-eqb version 4 v)
      ∙ ap (λ (b : Bool). not (b or eqb form 0x22)) (eq-eqb form 0x23 f)

  pub in-other : (version ≡ 4 → ⊥) → in_version version form ≡ not (eqb form 0x1f01)
  unfolding in_version pick
  in-other v = ap (λ (b : Bool). pick b (not (eqb form 0x23 or eqb form 0x22)) (not (eqb form 0x1f01))) (ne_eqb version 4 v)

-- those that are not of every version are ULEB128 numbers
pub in-every : (version form : ℕ) → (form_token form ≡ 11 → ⊥) → in_version version form ≡ true
unfolding form_token form_tokens token_among pick
in-every version form h =
    ⊎_elim
    (λ t. in_four version form (eqb_yes {a = version} {b = 4} t) (λ q. h (ap form_token q)) ∙ ap not (ne_eqb form 0x22 (λ q. h (ap form_token q))))
    (λ t. in-other version form (eqb_no {a = version} {b = 4} t) ∙ ap not (ne_eqb form 0x1f01 (λ q. h (ap form_token q))))
    (either (eqb version 4))

-- ---- one attribute

unfoldable pub valued : ℕ → Option Field → Option Valued
valued form (Some f) = Some (record { form = form; field = f })
valued form None = None

module _ (e : Encoding) (s : List ℕ) (at name form : ℕ) where
  only : (o : Option ReadOf) → as_attribute (order e) form at (bind o (λ r. bind (Some ([], r.1)) (before r.0))) ≡ valued form (as_field (order e) at o)
  unfolding as_attribute attribute_of_reads bind before valued as_field
  only None = refl
  only (Some r) = refl

  pub attribute-direct : (form ≡ 0x16 → ⊥) → attribute_at e s at name form ≡ valued form (token_at e s at (value_token e false name form))
  unfolding attribute_at attribute_layout read_in token_at
  attribute-direct h =
      ap (λ g. as_attribute (order e) form at (read_in (order e) as_bytes g (drop at s))) (pick_no _ _ _ (no_eqb {a = form} {b = 0x16} h))
      ∙ only (token_in (order e) as_bytes (value_token e false name form) (drop at s))

  -- after the form numbers
  behind : (f : Read) (o : Option ReadOf)
      → as_attribute (order e) form at (bind (bind o (λ r. bind (Some ([], r.1)) (before r.0))) (before f))
      ≡ valued f.seen (as_field (order e) (at + size (order e) f) o)
  unfolding as_attribute attribute_of_reads bind before valued as_field
  behind f None = refl
  behind f (Some r) = refl

  -- the form that they end in, and its value
  unfoldable pub behind_forms : Option (ℕ × Cursor) → Option Valued
  behind_forms (Some (found, next)) = valued found (token_at e s next.at (value_token e true name found))
  behind_forms None = None

  chained : (o : Option (ℕ × ℕ)) → All (FormsLaw (drop at s)) o
      → as_attribute (order e) form at (bind (bind o (as_forms (drop at s)))
      (λ r. bind (read_in (order e) as_bytes (field (value_token e true name r.0.seen) (λ _. done)) r.1) (before r.0)))
      ≡ behind_forms (as_form_number at o)
  unfolding bind as_attribute as_forms copy as_form_number behind_forms All read_in token_at
  chained None q = refl
  chained (Some r) q =
      let f : Read = (copy r.1 0 r.0 (drop at s)).0 in
      behind f (token_in (order e) as_bytes (value_token e true name r.1) (drop r.0 (drop at s)))
      ∙ ap₂ (λ (n : ℕ) (l : List ℕ). valued r.1 (as_field (order e) (at + n) (token_in (order e) as_bytes (value_token e true name r.1) l)))
      (copied-size (order e) r.1 0 r.0 (drop at s) q.0) (drop-drop r.0 at s)

  pub attribute-indirect : form ≡ 0x16 → attribute_at e s at name form ≡ behind_forms (forms_at s at)
  unfolding attribute_at attribute_layout read_in token_in forms_at
  attribute-indirect h =
      ap (λ g. as_attribute (order e) form at (read_in (order e) as_bytes g (drop at s))) (pick_yes _ _ _ (yes_eqb {a = form} {b = 0x16} h))
      ∙ chained (forms_in (drop at s)) (forms-law (drop at s))

  -- what the steps of its reader answer
  module _ (r : Option Field) where
    pub direct-none : (form ≡ 0x16 → ⊥) → r ≡ token_at e s at (value_token e false name form) → r ≡ None → None ≡ attribute_at e s at name form
    unfolding valued
    direct-none h p q = ap (valued form) (sym q ∙ p) ∙ sym (attribute-direct h)

    pub direct-read : (f : Field) → (form ≡ 0x16 → ⊥) → r ≡ token_at e s at (value_token e false name form) → r ≡ Some f
        → Some (record { form = form; field = f }) ≡ attribute_at e s at name form
    unfolding valued
    direct-read f h p q = ap (valued form) (sym q ∙ p) ∙ sym (attribute-direct h)

  module _ (n : Option (ℕ × Cursor)) (h : form ≡ 0x16) (p : n ≡ forms_at s at) where
    pub forms-none : n ≡ None → None ≡ attribute_at e s at name form
    unfolding behind_forms
    forms-none q = ap behind_forms (sym q ∙ p) ∙ sym (attribute-indirect h)

    module _ (found : ℕ) (next : Cursor) (q : n ≡ Some (found, next)) (r : Option Field) (p' : r ≡ token_at e s next.at (value_token e true name found)) where
      pub indirect-none : r ≡ None → None ≡ attribute_at e s at name form
      unfolding behind_forms valued
      indirect-none q' = ap (valued found) (sym q' ∙ p') ∙ ap behind_forms (sym q ∙ p) ∙ sym (attribute-indirect h)

      pub indirect-read : (f : Field) → r ≡ Some f → Some (record { form = found; field = f }) ≡ attribute_at e s at name form
      unfolding behind_forms valued
      indirect-read f q' = ap (valued found) (sym q' ∙ p') ∙ ap behind_forms (sym q ∙ p) ∙ sym (attribute-indirect h)

-- ---- forms of a fixed width, and ULEB128

-- no name makes their values unreadable, and DW_FORM_indirect is none of them
module _ (e : Encoding) (s : List ℕ) (at name form t : ℕ) (p : t ≡ form_token form) (h : t ≤ 11) (i : in_version e.version form ≡ true) where
  plain_form : form ≡ 0x16 → ⊥
  unfolding form_token form_tokens token_among pick
  plain_form q = let z : t ≡ 21 = p ∙ ap form_token q in omega arith

  plain_value : token_at e s at (value_token e false name form) ≡ field_at e s at t
  unfolding form_token form_tokens token_among pick
  plain_value =
      value-other e s at false name form i
      (λ _ k. let z : t ≡ 19 = p ∙ ap form_token k in omega arith)
      (λ b _. absurd (subst T (sym b) tt))
      ∙ ap (field_at e s at) (sym p)

  pub plain-nothing : t ≡ 0 → Some (record { form = form; field = record { value = 0; start = at; end = at } }) ≡ attribute_at e s at name form
  plain-nothing q = direct-read e s at name form _ _ plain_form (sym plain_value) (field-nothing e s at t q)

-- a number of some bytes is of every version; a form of the other version is unreadable
pub fixed_in : (version form t : ℕ) → t ≡ form_token form → t ≤ 8 → in_version version form ≡ true
fixed_in version form t p h = in-every version form (λ q. absurd (omega (arith, p, q)))

pub foreign-none : (e : Encoding) (s : List ℕ) (at name form t : ℕ) → t ≡ form_token form → t ≡ 11 → in_version e.version form ≡ false → None ≡ attribute_at e s at name form
unfolding form_token form_tokens token_among pick
foreign-none e s at name form t p h i =
    direct-none e s at name form _ (λ q. let z : t ≡ 21 = p ∙ ap form_token q in absurd (omega arith)) (value-foreign e s at false name form i) refl

-- by its reader
module _ (r : Option Valued) where
  pub end_read : (a : Valued) → r ≡ Some a → Some (cursor a.field.end) ≡ attribute_end r
  unfolding attribute_end
  end_read a q = sym (ap attribute_end q)

  pub end_none : r ≡ None → None ≡ attribute_end r
  unfolding attribute_end
  end_none q = sym (ap attribute_end q)

-- ---- one layout after another

unfoldable pub joined : List Read → RunOf → Option RunOf
joined a r = Some (a ++ r.0, r.1)

join-none : (o : Option RunOf) → bind o (joined []) ≡ o
unfolding bind joined
join-none None = refl
join-none (Some r) = refl

join-before : (o : Option RunOf) (a : List Read) (p : Read) → bind (bind o (joined a)) (before p) ≡ bind o (joined (p ∷ a))
unfolding bind joined before
join-before None a p = refl
join-before (Some r) a p = refl

module _ (big : Bool) (ex : ExpressionReader) where
  pub read-then : (g h : Layout) (s : List ℕ) → read_in big ex (then g h) s ≡ bind (read_in big ex g s) (λ r. bind (read_in big ex h r.1) (joined r.0))
  unfolding read_in then bind before
  read-then done h s = sym (join-none (read_in big ex h s))
  read-then fail h s = refl
  read-then (field t k) h s =
      bind-ext (token_in big ex t s) _ _ (λ p.
      ap (λ o. bind o (before p.0)) (read-then (k p.0.seen) h p.1)
      ∙ bind-bind (read_in big ex (k p.0.seen) p.1) _ _
      ∙ bind-ext (read_in big ex (k p.0.seen) p.1) _ _ (λ r. join-before (read_in big ex h r.1) r.0 p.0)
      ∙ sym (bind-bind (read_in big ex (k p.0.seen) p.1) (before p.0) (λ r. bind (read_in big ex h r.1) (joined r.0))))
      ∙ sym (bind-bind (token_in big ex t s) _ _)

-- ---- the values of an entry, one after the other

-- an attribute that was read, as an attribute: its field ends where it ends
record Ended (big : Bool) (form at : ℕ) (r : RunOf) : Type 0 where
  pub value : Valued
  pub is : attribute_of_reads big form at r.0 ≡ Some value
  pub past : value.field.end ≡ at + length (write_all big r.0)

record One (r : RunOf) : Type 0 where
  pub it : Read
  pub is : r.0 ≡ it ∷ []

module _ (big : Bool) (ex : ExpressionReader) where
  one-read : (t : Token) (s : List ℕ) → All One (read_in big ex (field t (λ _. done)) s)
  unfolding read_in bind before
  one-read t s =
      all-bind _ One (token_in big ex t s) _ (all-triv (token_in big ex t s))
      (λ r e q. all-some One (record { it = r.0; is = refl }))

  end-one : (form at : ℕ) (r : RunOf) → One r → Ended big form at r
  unfolding attribute_of_reads field_of size write_all
  end-one form at r o = record {
    value = record { form = form; field = field_of big at o.it };
    is = ap (attribute_of_reads big form at) o.is;
    past =
        ap (λ (l : List ℕ). at + length l) (sym (append-nil (bytes_of big o.it.pieces)))
        ∙ ap (λ (l : List Read). at + length (write_all big l)) (sym o.is);
  }

  end-two : (form at : ℕ) (f : Read) (r : RunOf) → One r → Ended big form at (f ∷ r.0, r.1)
  unfolding attribute_of_reads field_of size write_all
  end-two form at f r o =
      let a : List ℕ = bytes_of big f.pieces in
      let b : List ℕ = bytes_of big o.it.pieces in
      record {
        value = record { form = f.seen; field = field_of big (at + size big f) o.it };
        is = ap (λ l. attribute_of_reads big form at (f ∷ l)) o.is;
        past =
            (let n : at + length a + length b ≡ at + length (a ++ (b ++ [])) = omega (arith, length-append a (b ++ []), length-append b []) in n)
            ∙ ap (λ (l : List Read). at + length (a ++ write_all big l)) (sym o.is);
      }

module _ (e : Encoding) (name form at : ℕ) (s : List ℕ) where
  indirect-ends : All (Ended (order e) form at) (read_in (order e) as_bytes (field forms (λ g. field (value_token e true name g) (λ _. done))) s)
  unfolding read_in before
  indirect-ends =
      all-bind _ _ (token_in (order e) as_bytes forms s) _ (all-triv (token_in (order e) as_bytes forms s))
      (λ r x q. all-bind One _ (read_in (order e) as_bytes (field (value_token e true name r.0.seen) (λ _. done)) r.1) _
      (one-read (order e) as_bytes (value_token e true name r.0.seen) r.1)
      (λ v x' o. all-some (Ended (order e) form at) (end-two (order e) as_bytes form at r.0 v o)))

  attribute-ends : All (Ended (order e) form at) (read_in (order e) as_bytes (attribute_layout e name form) s)
  unfolding attribute_layout
  attribute-ends =
      pick-either (λ g. All (Ended (order e) form at) (read_in (order e) as_bytes g s)) (eqb form 0x16) _ _
      (λ _. indirect-ends)
      (λ _. all_map One _ _ (λ r o. end-one (order e) as_bytes form at r o) (one-read (order e) as_bytes (value_token e false name form) s))

length-written : (big : Bool) (a b : List Read) → length (write_all big (a ++ b)) ≡ length (write_all big a) + length (write_all big b)
unfolding write_all
length-written big [] b = omega arith
length-written big (r ∷ a) b =
    length-append (bytes_of big r.pieces) (write_all big (a ++ b))
    ∙ (let f : List ℕ = bytes_of big r.pieces in
    let n : length f + length (write_all big (a ++ b)) ≡ length (f ++ write_all big a) + length (write_all big b) =
    omega (arith, length-written big a b, length-append f (write_all big a)) in n)

past-joined : (big : Bool) (at : ℕ) (a : List Read) (o : Option RunOf) → as_past big at (bind o (joined a)) ≡ as_past big (at + length (write_all big a)) o
unfolding as_past bind joined
past-joined big at a None = refl
past-joined big at a (Some r) =
    let e : at + length (write_all big (a ++ r.0)) ≡ at + length (write_all big a) + length (write_all big r.0) = omega (arith, length-written big a r.0) in
    ap (λ n. Some (cursor n)) e

-- what follows a value
unfoldable pub after_value : Option Valued → (ℕ → Option Cursor) → Option Cursor
after_value (Some v) k = k v.field.end
after_value None k = None

bind-nowhere : (o : Option RunOf) → bind o (λ r. bind None (joined r.0)) ≡ None
unfolding bind
bind-nowhere None = refl
bind-nowhere (Some a) = refl

module _ (e : Encoding) (unit : List ℕ) (at : ℕ) (a : AttributeSpec) where
  abbrev value_layout : Layout
  value_layout = attribute_layout e a.name a.form

  specs-read : (o : Option (Scanned AttributeSpec ℕ)) (s : List ℕ)
      → read_in (order e) as_bytes (specs_layout e (bind o (push a))) s
      ≡ bind (read_in (order e) as_bytes value_layout s) (λ r. bind (read_in (order e) as_bytes (specs_layout e o) r.1) (joined r.0))
  unfolding specs_layout bind push attributes_layout read_in
  specs-read None s = sym (bind-nowhere (read_in (order e) as_bytes value_layout s))
  specs-read (Some r) s = read-then (order e) as_bytes value_layout (attributes_layout e r.0) s

  after_read : (o : Option (Scanned AttributeSpec ℕ)) (q : Option RunOf) → All (Ended (order e) a.form at) q
      → All (ReadLaw (order e) as_bytes value_layout (drop at unit)) q
      → as_past (order e) at (bind q (λ r. bind (read_in (order e) as_bytes (specs_layout e o) r.1) (joined r.0)))
      ≡ after_value (as_attribute (order e) a.form at q) (λ end. as_past (order e) end (read_in (order e) as_bytes (specs_layout e o) (drop end unit)))
  unfolding All bind as_past after_value as_attribute
  after_read o None h l = refl
  after_read o (Some r) h l =
      let n : ℕ = length (write_all (order e) r.0) in
      past-joined (order e) at r.0 (read_in (order e) as_bytes (specs_layout e o) r.1)
      ∙ ap (λ x. as_past (order e) (at + n) (read_in (order e) as_bytes (specs_layout e o) x)) (l.0.1 ∙ drop-drop n at unit)
      ∙ ap (λ x. as_past (order e) x (read_in (order e) as_bytes (specs_layout e o) (drop x unit))) (sym h.past)
      ∙ sym (ap (λ v. after_value v (λ end. as_past (order e) end (read_in (order e) as_bytes (specs_layout e o) (drop end unit)))) h.is)

  -- one value, and then the others
  pub values-after : (abbreviations : List ℕ) (p n : ℕ) → attributes_from abbreviations p ≡ bind (attributes_from abbreviations n) (push a)
      → values_at e abbreviations p unit at ≡ after_value (attribute_at e unit at a.name a.form) (values_at e abbreviations n unit)
  unfolding values_at attribute_at
  values-after abbreviations p n h =
      ap (λ o. as_past (order e) at (read_in (order e) as_bytes (specs_layout e o) (drop at unit))) h
      ∙ ap (as_past (order e) at) (specs-read (attributes_from abbreviations n) (drop at unit))
      ∙ after_read (attributes_from abbreviations n) (read_in (order e) as_bytes value_layout (drop at unit))
      (attribute-ends e a.name a.form at (drop at unit))
      (read-law (order e) as_bytes (as-bytes-law (order e)) value_layout (drop at unit))

module _ (e : Encoding) (abbreviations : List ℕ) (p : ℕ) (unit : List ℕ) (at : ℕ) where
  module _ (a : AttributeSpec) (h : spec_at abbreviations p ≡ Some (Attribute a)) (r : Option Valued) (q : r ≡ attribute_at e unit at a.name a.form) where
    one_value : values_at e abbreviations p unit at ≡ after_value r (values_at e abbreviations a.next.at unit)
    one_value =
        values-after e unit at a abbreviations p a.next.at (attributes-more abbreviations p a h)
        ∙ ap (λ v. after_value v (values_at e abbreviations a.next.at unit)) (sym q)

    pub values-step : (v : Valued) → r ≡ Some v → values_at e abbreviations p unit at ≡ values_at e abbreviations a.next.at unit v.field.end
    unfolding after_value
    values-step v k = one_value ∙ ap (λ v. after_value v (values_at e abbreviations a.next.at unit)) k

    pub values-none : r ≡ None → None ≡ values_at e abbreviations p unit at
    unfolding after_value
    values-none k = sym (one_value ∙ ap (λ v. after_value v (values_at e abbreviations a.next.at unit)) k)

    -- by where the value ends
    module _ (m : Option Cursor) (l : m ≡ attribute_end r) where
      pub values-past : (c : Cursor) → m ≡ Some c → values_at e abbreviations p unit at ≡ values_at e abbreviations a.next.at unit c.at
      unfolding attribute_end
      values-past c k = of r refl (sym l ∙ k)
        where
          of : (r' : Option Valued) → r ≡ r' → attribute_end r' ≡ Some c → values_at e abbreviations p unit at ≡ values_at e abbreviations a.next.at unit c.at
          of (Some v) j d = values-step v j ∙ ap (λ (x : Cursor). values_at e abbreviations a.next.at unit x.at) (let z : cursor v.field.end ≡ c = cc in z)
          of None j d = let z : ◌≡◌ {A = ℕ} 0 1 = cc in absurd (omega arith)

      pub values-stuck : m ≡ None → None ≡ values_at e abbreviations p unit at
      unfolding attribute_end
      values-stuck k = of r refl (sym l ∙ k)
        where
          of : (r' : Option Valued) → r ≡ r' → attribute_end r' ≡ None → None ≡ values_at e abbreviations p unit at
          of (Some v) j d = let z : ◌≡◌ {A = ℕ} 0 1 = cc in absurd (omega arith)
          of None j d = values-none j

  pub values-last : (c : Cursor) → spec_at abbreviations p ≡ Some (LastSpec c) → Some (cursor at) ≡ values_at e abbreviations p unit at
  unfolding values_at specs_layout attributes_layout read_in as_past write_all
  values-last c h =
      ap (λ (n : ℕ). Some (cursor n)) (let z : at ≡ at + 0 = omega arith in z)
      ∙ sym (ap (λ o. as_past (order e) at (read_in (order e) as_bytes (specs_layout e o) (drop at unit))) (attributes-last abbreviations p c h))

  pub values-bad : spec_at abbreviations p ≡ None → None ≡ values_at e abbreviations p unit at
  unfolding values_at specs_layout read_in as_past
  values-bad h = sym (ap (λ o. as_past (order e) at (read_in (order e) as_bytes (specs_layout e o) (drop at unit))) (attributes-bad abbreviations p h))

-- ---- entries and terminators

module _ (e : Encoding) (abbreviations : List ℕ) (look : ℕ → Option Declaration) (unit : List ℕ) (at : ℕ) where
  unfoldable pub entry_step : Cursor → Declaration → Option Cursor → Option Step
  entry_step values d (Some next) = Some (Entry' (record { offset = record { 0 = at }; declaration = d; values = values; next = next }))
  entry_step values d None = None

  unfoldable pub found_step : Cursor → Option Declaration → Option Step
  found_step values (Some d) = entry_step values d (values_at e abbreviations d.attributes.at unit values.at)
  found_step values None = None

  unfoldable pub code_step : Option (ℕ × Cursor) → Option Step
  code_step (Some (code, values)) = pick (eqb code 0) (Some (Terminator values)) (found_step values (look code))
  code_step None = None

  -- what follows the code
  abbrev code_layout : ℕ → Layout
  code_layout code = pick (eqb code 0) done (found_layout e abbreviations look (look code))

  abbrev step_of : Read → Option RunOf → Option Step
  step_of c q = as_step e abbreviations look at (bind q (before c))

  module _ (c : Read) (n : ℕ) (w : size (order e) c ≡ n) (u : T (not (eqb c.seen 0))) where
    entry_read : (d : Declaration) → look c.seen ≡ Some d → (q : Option RunOf)
        → step_of c q ≡ entry_step (cursor (at + n)) d (as_past (order e) (at + n) q)
    unfolding as_step bind before step_of_reads as_past entry_step entry_found
    entry_read d k None = refl
    entry_read d k (Some r) =
        pick_no _ _ _ u
        ∙ ap (entry_found e abbreviations look at (at + size (order e) c) (at + size (order e) c + length (write_all (order e) r.0))) k
        ∙ ap (λ m. entry_found e abbreviations look at (at + m) (at + m + length (write_all (order e) r.0)) (Some d)) w

    found-read : (f : Option Declaration) → look c.seen ≡ f
        → step_of c (read_in (order e) as_bytes (found_layout e abbreviations look f) (drop (at + n) unit)) ≡ found_step (cursor (at + n)) f
    unfolding found_layout found_step read_in bind as_step values_at
    found-read (Some d) k = entry_read d k (read_in (order e) as_bytes (specs_layout e (attributes_from abbreviations d.attributes.at)) (drop (at + n) unit))
    found-read None k = refl

  code_read : (c : Read) (n : ℕ) → size (order e) c ≡ n
      → step_of c (read_in (order e) as_bytes (code_layout c.seen) (drop (at + n) unit))
      ≡ pick (eqb c.seen 0) (Some (Terminator (cursor (at + n)))) (found_step (cursor (at + n)) (look c.seen))
  unfolding read_in bind before as_step step_of_reads
  code_read c n w =
      ⊎_elim
      (λ u. ap (λ g. step_of c (read_in (order e) as_bytes g (drop (at + n) unit))) (pick_yes _ _ _ u)
      ∙ pick_yes _ _ _ u
      ∙ ap (λ m. Some (Terminator (cursor (at + m)))) w
      ∙ sym (pick_yes _ _ _ u))
      (λ u. ap (λ g. step_of c (read_in (order e) as_bytes g (drop (at + n) unit))) (pick_no _ _ _ u)
      ∙ found-read c n w u (look c.seen) refl
      ∙ sym (pick_no _ _ _ u))
      (either (eqb c.seen 0))

  entry-by : (o : Option Groups) → All (LebLaw uleb (drop at unit)) o
      → as_step e abbreviations look at (bind (bind (bind o as_leb) (as_number (drop at unit)))
      (λ r. bind (read_in (order e) as_bytes (code_layout r.0.seen) r.1) (before r.0)))
      ≡ code_step (as_leb_number at o)
  unfolding bind as_leb as_number width copy as_step as_leb_number code_step All
  entry-by None q = refl
  entry-by (Some t) q =
      let c : Read = (copy t.1 0 (suc t.0) (drop at unit)).0 in
      ap (λ l. step_of c (read_in (order e) as_bytes (code_layout t.1) l)) (drop-drop (suc t.0) at unit)
      ∙ code_read c (suc t.0) (copied-size (order e) t.1 0 (suc t.0) (drop at unit) q.0.0)

  pub step_by : at < length unit → step_at e abbreviations look unit at ≡ code_step (leb_at uleb unit at)
  unfolding step_at entry_layout read_in token_in number_in leb_at
  step_by h = pick_yes _ _ _ (yes_ltb {a = at} {b = length unit} h) ∙ entry-by (uleb (drop at unit)) (uleb-law (drop at unit))

  -- where the attribute specifications can't be read, neither can the values
  whole-step : (values : Cursor) (d : Declaration) → entry_step values d (values_at e abbreviations d.attributes.at unit values.at) ≡ found_step values (whole_found abbreviations (Some d))
  unfolding whole_found whole_declaration moved_declaration declaration_found past_attributes scanned_to found_step entry_step values_at specs_layout read_in as_past
  whole-step values d = of (attributes_from abbreviations d.attributes.at) refl
    where
      of : (o : Option (Scanned AttributeSpec ℕ)) → attributes_from abbreviations d.attributes.at ≡ o
          → entry_step values d (values_at e abbreviations d.attributes.at unit values.at) ≡ found_step values (whole_found abbreviations (Some d))
      of None q = rw q
      of (Some r) q = ap (λ (o : Option (Scanned AttributeSpec ℕ)). found_step values (declaration_found (moved_declaration (scanned_to o) (λ c. Some (Declared d c))))) (sym q)

  -- what the steps of its reader answer
  pub step_end : length unit ≤ at → Some End ≡ step_at e abbreviations look unit at
  unfolding step_at
  step_end h = sym (pick_no _ _ _ (no_ltb {a = at} {b = length unit} h))

  module _ (h : at < length unit) (n : Option (ℕ × Cursor)) (p : n ≡ leb_at uleb unit at) where
    pub step-none : n ≡ None → None ≡ step_at e abbreviations look unit at
    unfolding code_step
    step-none q = sym (step_by h ∙ ap code_step (sym p ∙ q))

    module _ (code : ℕ) (values : Cursor) (q : n ≡ Some (code, values)) where
      pub step-terminator : code ≡ 0 → Some (Terminator values) ≡ step_at e abbreviations look unit at
      unfolding code_step
      step-terminator z = sym (step_by h ∙ ap code_step (sym p ∙ q) ∙ pick_yes _ _ _ (yes_eqb {a = code} {b = 0} z))

      module _ (z : code ≡ 0 → ⊥) (f : Option Declaration) (p' : whole_found abbreviations f ≡ look code) where
        step-code : found_step values (whole_found abbreviations f) ≡ step_at e abbreviations look unit at
        unfolding code_step
        step-code = ap (found_step values) p' ∙ sym (step_by h ∙ ap code_step (sym p ∙ q) ∙ pick_no _ _ _ (no_eqb {a = code} {b = 0} z))

        pub step-unknown : f ≡ None → None ≡ step_at e abbreviations look unit at
        unfolding found_step whole_found
        step-unknown q' = sym (ap (λ (f : Option Declaration). found_step values (whole_found abbreviations f)) q') ∙ step-code

        step-found : (d : Declaration) → f ≡ Some d → entry_step values d (values_at e abbreviations d.attributes.at unit values.at) ≡ step_at e abbreviations look unit at
        step-found d q' = whole-step values d ∙ sym (ap (λ (f : Option Declaration). found_step values (whole_found abbreviations f)) q') ∙ step-code

-- ---- heads of entries

-- what the steps of the reader of a head answer
module _ (look : ℕ → Option Declaration) (unit : List ℕ) (at : ℕ) where
  pub head-end : length unit ≤ at → Some EndHead ≡ entry_head_at look unit at
  unfolding entry_head_at
  head-end h = sym (pick_no _ _ _ (no_ltb {a = at} {b = length unit} h))

  module _ (h : at < length unit) (n : Option (ℕ × Cursor)) (p : n ≡ leb_at uleb unit at) where
    by_number : head_of_code look at n ≡ entry_head_at look unit at
    unfolding entry_head_at
    by_number = ap (head_of_code look at) p ∙ sym (pick_yes _ _ _ (yes_ltb {a = at} {b = length unit} h))

    pub head-none : n ≡ None → None ≡ entry_head_at look unit at
    unfolding head_of_code
    head-none q = sym (ap (head_of_code look at) q) ∙ by_number

    module _ (code : ℕ) (values : Cursor) (q : n ≡ Some (code, values)) where
      pub head-terminator : code ≡ 0 → Some (TerminatorHead values) ≡ entry_head_at look unit at
      unfolding head_of_code
      head-terminator z = sym (ap (head_of_code look at) q ∙ pick_yes _ _ _ (yes_eqb {a = code} {b = 0} z)) ∙ by_number

      module _ (z : code ≡ 0 → ⊥) (f : Option Declaration) (p' : f ≡ look code) where
        by-found : head_found look at values f ≡ entry_head_at look unit at
        unfolding head_of_code
        by-found = ap (head_found look at values) p' ∙ sym (ap (head_of_code look at) q ∙ pick_no _ _ _ (no_eqb {a = code} {b = 0} z)) ∙ by_number

        pub head-unknown : f ≡ None → None ≡ entry_head_at look unit at
        unfolding head_found
        head-unknown q' = sym (ap (head_found look at values) q') ∙ by-found

        pub head-entry : (d : Declaration) → f ≡ Some d → Some (Head (record { offset = record { 0 = at }; declaration = d; values = values })) ≡ entry_head_at look unit at
        unfolding head_found
        head-entry d q' = sym (ap (head_found look at values) q') ∙ by-found

-- With where its values end a head is the step there, however the values are encoded.
module _ (e : Encoding) (abbreviations : List ℕ) (from : ℕ) (index : List ℕ) (unit : List ℕ) (at : ℕ) where
  abbrev heads : ℕ → Option Declaration
  heads = find_head abbreviations from index

  abbrev whole : ℕ → Option Declaration
  whole = find_at abbreviations from index

  abbrev StepOf : Option HeadStep → Type 0
  StepOf r = head_step e abbreviations unit r ≡ step_at e abbreviations whole unit at

  module _ (h : at < length unit) (code : ℕ) (values : Cursor) (p : Some (code, values) ≡ leb_at uleb unit at) (z : code ≡ 0 → ⊥) where
    found-step : (f : Option Declaration) → whole_found abbreviations f ≡ whole code → StepOf (head_found heads at values f)
    unfolding head_found head_step entry_to entry_step
    found-step None q = step-unknown e abbreviations whole unit at h _ p code values refl z None q refl
    found-step (Some d) q =
        same (values_at e abbreviations d.attributes.at unit values.at) ∙ step-found e abbreviations whole unit at h _ p code values refl z (Some d) q d refl
      where
        same : (m : Option Cursor) → entry_to (record { offset = record { 0 = at }; declaration = d; values = values }) m ≡ entry_step e abbreviations whole unit at values d m
        same (Some next) = refl
        same None = refl

  code_step_lem : at < length unit → (n : Option (ℕ × Cursor)) → n ≡ leb_at uleb unit at → StepOf (head_of_code heads at n)
  unfolding head_of_code head_step find_at
  code_step_lem h None p = step-none e abbreviations whole unit at h _ p refl
  code_step_lem h (Some (code, values)) p =
      pick-either StepOf (eqb code 0) (Some (TerminatorHead values)) (head_found heads at values (heads code))
      (λ t. step-terminator e abbreviations whole unit at h _ p code values refl (eqb_yes {a = code} {b = 0} t))
      (λ t. found-step h code values p (eqb_no {a = code} {b = 0} t) (heads code) refl)

  pub entry-head-law : StepOf (entry_head_at heads unit at)
  unfolding entry_head_at head_step
  entry-head-law =
      pick-either StepOf (ltb at (length unit)) (head_of_code heads at (leb_at uleb unit at)) (Some EndHead)
      (λ t. code_step_lem (ltb_yes {a = at} {b = length unit} t) _ refl)
      (λ t. step_end e abbreviations whole unit at (ltb_no {a = at} {b = length unit} t))

  -- the same, of what was read
  pub entry-headed : (r : Option HeadStep) → r ≡ entry_head_at heads unit at → StepOf r
  entry-headed r q = ap (head_step e abbreviations unit) q ∙ entry-head-law

-- a step by its head
module _ (e : Encoding) (abbreviations : List ℕ) (look : ℕ → Option Declaration) (unit : List ℕ) (at : ℕ) (r : Option HeadStep) (p : head_step e abbreviations unit r ≡ step_at e abbreviations look unit at) where
  pub headed-end : r ≡ Some EndHead → Some End ≡ step_at e abbreviations look unit at
  unfolding head_step
  headed-end q = sym (ap (head_step e abbreviations unit) q) ∙ p

  pub headed-none : r ≡ None → None ≡ step_at e abbreviations look unit at
  unfolding head_step
  headed-none q = sym (ap (head_step e abbreviations unit) q) ∙ p

  pub headed-terminator : (next : Cursor) → r ≡ Some (TerminatorHead next) → Some (Terminator next) ≡ step_at e abbreviations look unit at
  unfolding head_step
  headed-terminator next q = sym (ap (head_step e abbreviations unit) q) ∙ p

  module _ (h : EntryHead) (q : r ≡ Some (Head h)) (m : Option Cursor) (k : m ≡ head_end e abbreviations unit h) where
    pub headed : entry_to h m ≡ step_at e abbreviations look unit at
    unfolding head_step
    headed = ap (entry_to h) k ∙ sym (ap (head_step e abbreviations unit) q) ∙ p

    pub headed-unread : m ≡ None → None ≡ step_at e abbreviations look unit at
    unfolding entry_to
    headed-unread l = sym (ap (entry_to h) l) ∙ headed

    pub headed-entry : (next : Cursor) → m ≡ Some next → Some (Entry' (entry_of h next)) ≡ step_at e abbreviations look unit at
    unfolding entry_to
    headed-entry next l = sym (ap (entry_to h) l) ∙ headed
