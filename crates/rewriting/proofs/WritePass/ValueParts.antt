-- A value of an attribute, read deep: what stands before it, the token that it is read by, and its field. Assumes nothing.
use mathlib.Core.Path.{◌≡◌, refl, ap, ap₂, sym, ◌∙◌, subst}
use Prim.Native.Nat.{ℕ, ◌+◌, ◌-◌, ◌≤◌}
use native.Mathlib.Omega.{arith}
use mathlib.Core.Bool.{Bool, true, false}
use Rattle.std.specs.Prelude.{None, Option, Some}
use Rattle.readers.specs.declared.fields.Field.{Field}
use mathlib.Core.List.{List, [], ◌∷◌, ◌++◌, append-nil}
use mathlib.Core.Logic.{⊎_elim}
use lib.ListN.{length, take, drop, length-drop}
use lib.Seq.{take-add, drop-drop}
use lib.Dec.{eqb}
use mir.Facts.{eqb_yes, eqb_no}
use Rattle.readers.specs.Choice.{pick, bind}
use Rattle.readers.proofs.Choice.{pick_yes, pick_no, either, All, all-some, all_of, all-bind, all-triv}
use Rattle.readers.specs.Layout.{forms, done, field, verbatim, Read, ReadOf, RunOf, ExpressionReader, forms_in, as_forms, copy, token_in, read_in, before, bytes_of, piece_bytes, write_all, Patch, patch_piece, patch_pieces, patch_read, patch_all}
use Rattle.readers.proofs.LayoutLaws.{FormsLaw, forms-law}
use Rattle.readers.specs.Expression.{expression_in}
use Rattle.readers.specs.Forms.{value_token, attribute_layout}
use Rattle.readers.specs.Cursors.{as_form_number, forms_at}
use Rattle.readers.specs.Fields.{token_at}
use Rattle.readers.specs.Entries.{attribute_at}
use Rattle.readers.specs.declared.cursor.Encoding.{Encoding}
use Rattle.readers.specs.declared.attributes.Attribute.{Attribute}
use Rattle.readers.proofs.Values.{valued, behind_forms, attribute-direct, attribute-indirect}
use Rattle.rewriting.specs.Places.{Place}
use Rattle.rewriting.specs.Rewriting.{Lists, piece_refusal, pieces_refusal, reads_refusal, or_next}
use Rattle.rewriting.specs.Emission.{between}

-- ---- parts of a slice

pub between_none : (s : List ℕ) (a : ℕ) → between s a a ≡ []
unfolding between
between_none s a = ap (λ n. take n (drop a s)) (let k : a - a ≡ 0 = omega arith in k)

pub between-from : (s : List ℕ) (a n : ℕ) → between s a (a + n) ≡ take n (drop a s)
unfolding between
between-from s a n = ap (λ m. take m (drop a s)) (let k : a + n - a ≡ n = omega arith in k)

pub between_join : (s : List ℕ) (a m z : ℕ) → a ≤ m → m ≤ z → between s a m ++ between s m z ≡ between s a z
unfolding between
between_join s a m z h k =
    ap (λ x. take (m - a) (drop a s) ++ take (z - m) x) (ap (λ n. drop n s) (let j : m ≡ a + (m - a) = omega arith in j) ∙ sym (drop-drop (m - a) a s))
    ∙ sym (take-add (m - a) (z - m) (drop a s))
    ∙ ap (λ n. take n (drop a s)) (let j : (m - a) + (z - m) ≡ z - a = omega arith in j)

pub next_last : (n : ℕ) → or_next n 0 ≡ n
unfolding or_next
next_last n = ⊎_elim (λ t. pick_yes _ _ _ t ∙ sym (eqb_yes {a = n} {b = 0} t)) (λ t. pick_no _ _ _ t) (either (eqb n 0))

module _ (lists : Lists) (map : List Place) (depth : ℕ) where
  pub one-refusal : (v : Read) → reads_refusal lists map depth (v ∷ []) ≡ pieces_refusal lists map depth v.pieces
  unfolding reads_refusal
  one-refusal v = next_last (pieces_refusal lists map depth v.pieces)

  pub copied-refusal : (f : Read) (l : List ℕ) → f.pieces ≡ verbatim l ∷ [] → (rs : List Read) → reads_refusal lists map depth (f ∷ rs) ≡ reads_refusal lists map depth rs
  unfolding reads_refusal pieces_refusal piece_refusal or_next pick
  copied-refusal f l h rs = ap (λ ps. or_next (pieces_refusal lists map depth ps) (reads_refusal lists map depth rs)) h

pub one_written : (big : Bool) (f : Patch) (v : Read) → write_all big (patch_all f (v ∷ [])) ≡ bytes_of big (patch_pieces f v.pieces)
unfolding write_all patch_all patch_read
one_written big f v = append-nil (bytes_of big (patch_pieces f v.pieces))

pub copied-written : (big : Bool) (f : Patch) (c : Read) (l : List ℕ) → c.pieces ≡ verbatim l ∷ [] → (rs : List Read)
    → write_all big (patch_all f (c ∷ rs)) ≡ l ++ write_all big (patch_all f rs)
unfolding write_all patch_all patch_read bytes_of piece_bytes patch_pieces patch_piece
copied-written big f c l h rs =
    ap (λ ps. bytes_of big (patch_pieces f ps) ++ write_all big (patch_all f rs)) h ∙ ap (λ x. x ++ write_all big (patch_all f rs)) (append-nil l)

-- ---- values

valued-form : (form : ℕ) (r : Option Field) (v : Attribute) → valued form r ≡ Some v → (r ≡ Some v.field) × (form ≡ v.form)
unfolding valued
valued-form form (Some f) v g =
    let z : record { form = form; field = f } ≡ v = cc in
    (ap (λ (a : Attribute). Some a.field) z, ap (λ (a : Attribute). a.form) z)
valued-form form None v g = let z : ◌≡◌ {A = ℕ} 0 1 = cc in absurd (omega arith)

-- how a value was read: from o on, after form numbers where it is indirect
pub record Value (e : Encoding) (unit : List ℕ) (values name : ℕ) (value : Attribute) (rs : List Read) : Type 0 where
  pub indirect : Bool
  pub o : ℕ
  pub v : Read
  pub rest : List ℕ
  pub after : values ≤ o
  pub inside : o ≤ length unit
  pub written : (f : Patch) → write_all e.big_endian (patch_all f rs) ≡ between unit values o ++ bytes_of e.big_endian (patch_pieces f v.pieces)
  pub refused : (lists : Lists) (map : List Place) (depth : ℕ) → reads_refusal lists map depth rs ≡ pieces_refusal lists map depth v.pieces
  pub deep : token_in e.big_endian (expression_in e) (value_token e indirect name value.form) (drop o unit) ≡ Some (v, rest)
  pub shallow : token_at e unit o (value_token e indirect name value.form) ≡ Some value.field

module _ (e : Encoding) (unit : List ℕ) (values name declared : ℕ) (value : Attribute) (i : values ≤ length unit)
    (attribute : attribute_at e unit values name declared ≡ Some value) where
  abbrev big : Bool
  big = e.big_endian

  abbrev ex : ExpressionReader
  ex = expression_in e

  abbrev Shape : RunOf → Type 0
  Shape r = Value e unit values name value r.0

  direct-value : (declared ≡ 0x16 → ⊥) → (r : ReadOf) → token_in big ex (value_token e false name declared) (drop values unit) ≡ Some r
      → Value e unit values name value (r.0 ∷ [])
  direct-value d r q =
      let g : (token_at e unit values (value_token e false name declared) ≡ Some value.field) × (declared ≡ value.form) =
      valued-form declared _ value (sym (attribute-direct e unit values name declared d) ∙ attribute) in
      record {
        indirect = false;
        o = values;
        v = r.0;
        rest = r.1;
        after = omega arith;
        inside = i;
        written = λ f. one_written big f r.0 ∙ ap (λ x. x ++ bytes_of big (patch_pieces f r.0.pieces)) (sym (between_none unit values));
        refused = λ lists map depth. one-refusal lists map depth r.0;
        deep = ap (λ n. token_in big ex (value_token e false name n) (drop values unit)) (sym g.1) ∙ q;
        shallow = ap (λ n. token_at e unit values (value_token e false name n)) (sym g.1) ∙ g.0;
      }

  pub direct-form : (declared ≡ 0x16 → ⊥) → declared ≡ value.form
  direct-form d = (valued-form declared _ value (sym (attribute-direct e unit values name declared d) ∙ attribute)).1

  direct-all : (declared ≡ 0x16 → ⊥) → All Shape (read_in big ex (field (value_token e false name declared) (λ _. done)) (drop values unit))
  unfolding read_in bind before
  direct-all d =
      all-bind _ Shape (token_in big ex (value_token e false name declared) (drop values unit)) _ (all-triv _)
      (λ r q _. all-some Shape (direct-value d r q))

  indirect-value : declared ≡ 0x16 → (t : ℕ × ℕ) → forms_in (drop values unit) ≡ Some t → FormsLaw (drop values unit) t → (r : ReadOf)
      → token_in big ex (value_token e true name t.1) (drop t.0 (drop values unit)) ≡ Some r
      → Value e unit values name value ((copy t.1 0 t.0 (drop values unit)).0 ∷ r.0 ∷ [])
  unfolding forms_at as_form_number behind_forms copy
  indirect-value d t k law r q =
      let n : t.0 ≤ length (drop values unit) = law.0 in
      let g : (token_at e unit (values + t.0) (value_token e true name t.1) ≡ Some value.field) × (t.1 ≡ value.form) =
      valued-form t.1 _ value
      (sym (attribute-indirect e unit values name declared d ∙ ap (λ z. behind_forms e unit values name declared (as_form_number values z)) k) ∙ attribute) in
      record {
        indirect = true;
        o = values + t.0;
        v = r.0;
        rest = r.1;
        after = omega arith;
        inside = omega (arith, length-drop values unit);
        written = λ f.
            copied-written big f (copy t.1 0 t.0 (drop values unit)).0 (take t.0 (drop values unit)) refl (r.0 ∷ [])
            ∙ ap₂ (λ (x y : List ℕ). x ++ y) (sym (between-from unit values t.0)) (one_written big f r.0);
        refused = λ lists map depth.
            copied-refusal lists map depth (copy t.1 0 t.0 (drop values unit)).0 (take t.0 (drop values unit)) refl (r.0 ∷ []) ∙ one-refusal lists map depth r.0;
        deep =
            ap₂ (λ (n : ℕ) (x : List ℕ). token_in big ex (value_token e true name n) x) (sym g.1) (sym (drop-drop t.0 values unit)) ∙ q;
        shallow = ap (λ n. token_at e unit (values + t.0) (value_token e true name n)) (sym g.1) ∙ g.0;
      }

  indirect-all : declared ≡ 0x16 → All Shape (read_in big ex (field forms (λ g. field (value_token e true name g) (λ _. done))) (drop values unit))
  unfolding read_in token_in bind before as_forms copy
  indirect-all d =
      all-bind (λ (r : ReadOf). (t : ℕ × ℕ) × ((forms_in (drop values unit) ≡ Some t) × FormsLaw (drop values unit) t × (r ≡ copy t.1 0 t.0 (drop values unit)))) Shape
      (bind (forms_in (drop values unit)) (as_forms (drop values unit))) _
      (all-bind (FormsLaw (drop values unit)) _ (forms_in (drop values unit)) _ (forms-law (drop values unit)) (λ t k law. all-some _ (t, (k, law, refl))))
      (λ f q h.
      all-bind _ Shape (read_in big ex (field (value_token e true name f.0.seen) (λ _. done)) f.1) _
      (all-bind (λ _. Unit {0}) (λ (z : RunOf). (r : ReadOf) × ((token_in big ex (value_token e true name f.0.seen) f.1 ≡ Some r) × (z.0 ≡ r.0 ∷ [])))
      (token_in big ex (value_token e true name f.0.seen) f.1) _ (all-triv _) (λ r k _. all-some _ (r, (k, refl))))
      (λ z k y. all-some Shape
      (subst (λ (l : List Read). Value e unit values name value (f.0 ∷ l)) (sym y.1.1)
      (subst (λ (g : ReadOf). Value e unit values name value (g.0 ∷ y.0.0 ∷ [])) (sym h.1.2)
      (indirect-value d h.0 h.1.0 h.1.1 y.0 (subst (λ (g : ReadOf). token_in big ex (value_token e true name g.0.seen) g.1 ≡ Some y.0) h.1.2 y.1.0))))))

  pub value_of : (rs : List Read) (rest : List ℕ) → read_in big ex (attribute_layout e name declared) (drop values unit) ≡ Some (rs, rest) → Value e unit values name value rs
  unfolding attribute_layout
  value_of rs rest q =
      ⊎_elim
      (λ t. all_of Shape (indirect-all (eqb_yes {a = declared} {b = 0x16} t)) (ap (λ g. read_in big ex g (drop values unit)) (sym (pick_yes _ _ _ t)) ∙ q))
      (λ t. all_of Shape (direct-all (eqb_no {a = declared} {b = 0x16} t)) (ap (λ g. read_in big ex g (drop values unit)) (sym (pick_no _ _ _ t)) ∙ q))
      (either (eqb declared 0x16))
