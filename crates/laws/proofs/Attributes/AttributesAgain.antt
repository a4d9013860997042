-- Attributes that were read, one by one and in a row, and the same patched and read at another place. Assumes nothing.
use mathlib.Core.Path.{◌≡◌, refl, ap, sym, ◌∙◌, subst}
use Prim.Native.Nat.{ℕ, suc, ◌+◌}
use native.Mathlib.Omega.{arith}
use mathlib.Core.Bool.{Bool, true, false, not}
use Rattle.std.specs.Prelude.{Option, Some}
use mathlib.Core.List.{List, [], ◌∷◌, ◌++◌, append_assoc, append-nil}
use mathlib.Core.Logic.{⊎_elim}
use lib.ListN.{length, drop, length-append}
use lib.Seq.{drop_at, drop-drop}
use lib.Dec.{T, eqb}
use Rattle.readers.specs.Choice.{bind}
use Rattle.readers.proofs.Choice.{pick_yes, pick_no, either, bind-at, All, all-some, all_of, all-bind, all-triv}
use Rattle.readers.specs.Layout.{Token, forms, expression, Layout, done, field, Read, RunOf, ExpressionReader, as_bytes, token_in, read_in, before, bytes_of, write_all, Patch, patch_pieces, patch_read, patch_all}
use Rattle.readers.proofs.LayoutLaws.{TokenLaw, token-law, ReadLaw, read-law, FitAll, same_size}
use Rattle.readers.specs.Expression.{expression_in}
use Rattle.readers.proofs.Expression.{expression-law}
use Rattle.readers.specs.Forms.{value_token, attribute_layout}
use Rattle.readers.specs.Fields.{size, linked_value, field_of}
use Rattle.readers.specs.Entries.{attribute_of_reads, as_attribute, attribute_at, then, attributes_layout}
use Rattle.readers.specs.declared.cursor.Encoding.{Encoding}
use Rattle.readers.specs.declared.abbreviations.AttributeSpec.{AttributeSpec}
use Rattle.readers.specs.declared.attributes.Attribute.{Attribute}
use Rattle.readers.proofs.Values.{joined, read-then}
use Rattle.readers.specs.EntryAttributes.{Valued, on_attribute, values_of}
use Rattle.rewriting.specs.Emission.{between}
use Rattle.laws.specs.AttributesAgain.{payload, SameOperations, SameAttribute, SameAttributes}
use Rattle.rewriting.proofs.MapPass.Exact.{token_ok}
use Rattle.rewriting.proofs.WritePass.Expressions.{is_expression, value-exprloc}
use Rattle.rewriting.proofs.WritePass.ValueForms.{form_number_is, expression-form}
use Rattle.rewriting.proofs.KeptPass.DeepReads.{like-width, like-patched}
use Rattle.laws.proofs.Attributes.ValuesAgain.{part_of, between-part, no_role, token_number, use-number, plain-use, same-reader, TokenTwice, again, token_twice}
use Rattle.rewriting.proofs.KeptPass.FormTokens.{token-known}

-- ---- reads in a row, written and patched

written-append : (big : Bool) (f : Patch) (a b : List Read) → write_all big (patch_all f (a ++ b)) ≡ write_all big (patch_all f a) ++ write_all big (patch_all f b)
unfolding write_all patch_all patch_read
written-append big f [] b = refl
written-append big f (r ∷ a) b =
    ap (λ (x : List ℕ). bytes_of big (patch_pieces f r.pieces) ++ x) (written-append big f a b)
    ∙ sym (append_assoc (bytes_of big (patch_pieces f r.pieces)) (write_all big (patch_all f a)) (write_all big (patch_all f b)))

fit_append : (f : Patch) (a b : List Read) → FitAll f (a ++ b) → FitAll f a × FitAll f b
unfolding FitAll
fit_append f [] b h = (tt, h)
fit_append f (r ∷ a) b h = let q : FitAll f a × FitAll f b = fit_append f a b h.1 in ((h.0, q.0), q.1)

module _ (e : Encoding) (f : Patch) (unit output : List ℕ) where
  abbrev big : Bool
  big = e.big_endian

  abbrev ex : ExpressionReader
  ex = expression_in e

  -- ---- one attribute

  abbrev attribute : ℕ → ℕ → Attribute → Valued
  attribute name declared a = record { name = name; declared = declared; value = a }

  record AttributeTwice (name declared at at' width : ℕ) : Type 0 where
    pub a : Attribute
    pub is : attribute_at e unit at name declared ≡ Some a
    pub ends : a.field.end ≡ at + width
    pub b : Attribute
    pub is' : attribute_at e output at' name declared ≡ Some b
    pub ends' : b.field.end ≡ at' + width
    pub same : (old new : ℕ) → at' + old ≡ at + new → SameAttribute f e old new unit output (attribute name declared a) (attribute name declared b)

  -- a value that a form's token reads, at o and at o'
  module _ (name declared form : ℕ) (indirect : Bool) (o o' : ℕ) (v : Read) (mid back : List ℕ)
      (q : token_in big ex (value_token e indirect name form) (drop o unit) ≡ Some (v, mid))
      (t : TokenTwice e f (value_token e indirect name form) (drop o unit) (drop o' output) v mid back) where
    abbrev token : Token
    token = value_token e indirect name form

    known : token ≡ form_number_is e name form
    known = token-known e indirect name form big ex (drop o unit) (v, mid) q

    no_expression : (form ≡ 0x18 → ⊥) → T (not (is_expression token))
    no_expression h = ⊎_elim (λ x. absurd (h (value-exprloc e indirect name form x).0)) (λ x. x) (either (is_expression token))

    is-expression : form ≡ 0x18 → token ≡ expression
    is-expression h = known ∙ expression-form e name form h

    same-value : (old new : ℕ) → o' + old ≡ o + new
        → SameAttribute f e old new unit output (attribute name declared (record { form = form; field = field_of big o t.it })) (attribute name declared (record { form = form; field = field_of big o' t.it' }))
    unfolding field_of payload
    same-value old new h =
        let w : size big t.it' ≡ size big t.it = t.wide' ∙ sym t.wide in
        let s : t.it'.start ≡ t.it.start = t.start in
        let p : between output (o' + t.it'.start) (o' + size big t.it') ≡ part_of big (drop o' output) t.it' = between-part output o' t.it'.start (size big t.it') in
        let r : between unit (o + t.it.start) (o + size big t.it) ≡ part_of big (drop o unit) t.it = between-part unit o t.it.start (size big t.it) in
        record {
          name = refl;
          declared = refl;
          form = refl;
          start = (let z : o' + t.it'.start + old ≡ o + t.it.start + new = omega arith in z);
          end = (let z : o' + size big t.it' + old ≡ o + size big t.it + new = omega arith in z);
          number =
              t.number
              ∙ ap (λ (g : Token). token_number f g (linked_value t.it.pieces t.it.seen)) known
              ∙ use-number f e name form (linked_value t.it.pieces t.it.seen);
          bytes = (λ u n. p ∙ t.bytes (subst (λ (g : Token). T (token_ok no_role g)) (sym known) (plain-use f e name form u)) (no_expression n) ∙ sym r);
          operations = (λ n. subst (λ (z : List ℕ). SameOperations f e z (between output (o' + t.it'.start) (o' + size big t.it'))) (sym r)
              (subst (λ (z : List ℕ). SameOperations f e (part_of big (drop o unit) t.it) z) (sym p) (t.operations (is-expression n))));
        }

  -- the reads of a value, direct or after the form numbers of DW_FORM_indirect
  pub record Direct (t : Token) (s : List ℕ) (r : RunOf) : Type 0 where
    pub v : Read
    pub is : token_in big ex t s ≡ Some (v, r.1)
    pub one : r.0 ≡ v ∷ []

  pub direct-all : (t : Token) (s : List ℕ) → All (Direct t s) (read_in big ex (field t (λ _. done)) s)
  unfolding read_in before bind
  direct-all t s = all-bind (λ _. Unit {0}) (Direct t s) (token_in big ex t s) _ (all-triv _) (λ r q _. all-some (Direct t s) (record { v = r.0; is = q; one = refl }))

  pub record Indirect (name : ℕ) (s : List ℕ) (r : RunOf) : Type 0 where
    pub c : Read
    pub mid : List ℕ
    pub is : token_in big ex forms s ≡ Some (c, mid)
    pub v : Read
    pub value : token_in big ex (value_token e true name c.seen) mid ≡ Some (v, r.1)
    pub two : r.0 ≡ c ∷ v ∷ []

  pub indirect-all : (name : ℕ) (s : List ℕ) → All (Indirect name s) (read_in big ex (field forms (λ g. field (value_token e true name g) (λ _. done))) s)
  unfolding read_in before
  indirect-all name s =
      all-bind (λ _. Unit {0}) (Indirect name s) (token_in big ex forms s) _ (all-triv _)
      (λ c q _. all-bind (Direct (value_token e true name c.0.seen) c.1) (Indirect name s) (read_in big ex (field (value_token e true name c.0.seen) (λ _. done)) c.1) _
      (direct-all (value_token e true name c.0.seen) c.1)
      (λ r k d. all-some (Indirect name s) (record { c = c.0; mid = c.1; is = q; v = d.v; value = d.is; two = ap (λ (l : List Read). c.0 ∷ l) d.one })))

  pub shallow-one : (t : Token) (s : List ℕ) (it : Read) (rest : List ℕ) → token_in big as_bytes t s ≡ Some (it, rest) → read_in big as_bytes (field t (λ _. done)) s ≡ Some (it ∷ [], rest)
  unfolding read_in before bind
  shallow-one t s it rest q = bind-at _ q

  pub shallow-two : (name : ℕ) (s : List ℕ) (c : Read) (mid : List ℕ) (it : Read) (rest : List ℕ) → token_in big as_bytes forms s ≡ Some (c, mid)
      → token_in big as_bytes (value_token e true name c.seen) mid ≡ Some (it, rest)
      → read_in big as_bytes (field forms (λ g. field (value_token e true name g) (λ _. done))) s ≡ Some (c ∷ it ∷ [], rest)
  unfolding read_in before bind
  shallow-two name s c mid it rest q k = bind-at _ q ∙ ap (λ (o : Option RunOf). bind o (before c)) (shallow-one (value_token e true name c.seen) mid it rest k)

  module _ (name declared at at' : ℕ) (rest back : List ℕ) where
    abbrev Twice : List Read → Type 0
    Twice one = FitAll f one → drop at' output ≡ write_all big (patch_all f one) ++ back → AttributeTwice name declared at at' (length (write_all big one))

    direct-twice : T (not (eqb declared 0x16)) → (v : Read) → token_in big ex (value_token e false name declared) (drop at unit) ≡ Some (v, rest) → Twice (v ∷ [])
    unfolding FitAll write_all patch_all patch_read attribute_at attribute_layout as_attribute attribute_of_reads field_of size
    direct-twice n v q fit h =
        let tok : Token = value_token e false name declared in
        let p : drop at' output ≡ bytes_of big (patch_pieces f v.pieces) ++ back = h ∙ ap (λ (z : List ℕ). z ++ back) (append-nil (bytes_of big (patch_pieces f v.pieces))) in
        let t : TokenTwice e f tok (drop at unit) (drop at' output) v rest back = token_twice e f (drop at unit) (drop at' output) v rest back fit.0 p tok q in
        let w : length (bytes_of big v.pieces ++ []) ≡ size big v = ap length (append-nil (bytes_of big v.pieces)) in
        record {
          a = record { form = declared; field = field_of big at t.it };
          is =
              ap (λ (g : Layout). as_attribute big declared at (read_in big as_bytes g (drop at unit))) (pick_no _ _ _ n)
              ∙ ap (as_attribute big declared at) (shallow-one tok (drop at unit) t.it rest t.is);
          ends = ap (λ (k : ℕ). at + k) (t.wide ∙ sym w);
          b = record { form = declared; field = field_of big at' t.it' };
          is' =
              ap (λ (g : Layout). as_attribute big declared at' (read_in big as_bytes g (drop at' output))) (pick_no _ _ _ n)
              ∙ ap (as_attribute big declared at') (shallow-one tok (drop at' output) t.it' back t.is');
          ends' = ap (λ (k : ℕ). at' + k) (t.wide' ∙ sym w);
          same = same-value name declared declared false at at' v rest back q t;
        }

    indirect-twice : T (eqb declared 0x16) → (c : Read) (mid : List ℕ) → token_in big ex forms (drop at unit) ≡ Some (c, mid)
        → (v : Read) → token_in big ex (value_token e true name c.seen) mid ≡ Some (v, rest) → Twice (c ∷ v ∷ [])
    unfolding FitAll write_all patch_all patch_read attribute_at attribute_layout as_attribute attribute_of_reads field_of is_expression size
    indirect-twice n c mid q v k fit h =
        let tok : Token = value_token e true name c.seen in
        let pc : List ℕ = bytes_of big (patch_pieces f c.pieces) in
        let pv : List ℕ = bytes_of big (patch_pieces f v.pieces) in
        let w : ℕ = size big c in
        let lc : length pc ≡ w = same_size big f c.pieces in
        let p : drop at' output ≡ pc ++ (pv ++ back) =
        h ∙ append_assoc pc (pv ++ []) back ∙ ap (λ (z : List ℕ). pc ++ (z ++ back)) (append-nil pv) in
        let i : mid ≡ drop (at + w) unit =
        (all_of (TokenLaw big ex forms (drop at unit)) (token-law big ex (expression-law e) forms (drop at unit)) q).0.1 ∙ drop-drop w at unit in
        let i' : pv ++ back ≡ drop (at' + w) output = sym (drop_at pc (pv ++ back) w lc) ∙ ap (drop w) (sym p) ∙ drop-drop w at' output in
        let k₁ : token_in big ex tok (drop (at + w) unit) ≡ Some (v, rest) = ap (token_in big ex tok) (sym i) ∙ k in
        let t : TokenTwice e f tok (drop (at + w) unit) (drop (at' + w) output) v rest back =
        token_twice e f (drop (at + w) unit) (drop (at' + w) output) v rest back fit.1.0 (sym i') tok k₁ in
        let q₀ : token_in big as_bytes forms (drop at unit) ≡ Some (c, mid) = sym (same-reader e f forms tt (drop at unit)) ∙ q in
        let q₁ : token_in big as_bytes forms (drop at' output) ≡ Some (patch_read f c, pv ++ back) =
        sym (same-reader e f forms tt (drop at' output)) ∙ again e f (drop at unit) (drop at' output) c mid (pv ++ back) fit.0 p forms q in
        let m : w + size big v ≡ length (bytes_of big c.pieces ++ (bytes_of big v.pieces ++ [])) =
        omega (arith, length-append (bytes_of big c.pieces) (bytes_of big v.pieces ++ []), length-append (bytes_of big v.pieces) []) in
        let w₁ : size big t.it ≡ size big v = t.wide in
        let w₂ : size big t.it' ≡ size big v = t.wide' in
        record {
          a = record { form = c.seen; field = field_of big (at + w) t.it };
          is =
              ap (λ (g : Layout). as_attribute big declared at (read_in big as_bytes g (drop at unit))) (pick_yes _ _ _ n)
              ∙ ap (as_attribute big declared at) (shallow-two name (drop at unit) c mid t.it rest q₀ (ap (token_in big as_bytes tok) i ∙ t.is));
          ends = (let z : at + w + size big t.it ≡ at + length (bytes_of big c.pieces ++ (bytes_of big v.pieces ++ [])) = omega arith in z);
          b = record { form = c.seen; field = field_of big (at' + w) t.it' };
          is' =
              ap (λ (g : Layout). as_attribute big declared at' (read_in big as_bytes g (drop at' output))) (pick_yes _ _ _ n)
              ∙ ap (as_attribute big declared at') (shallow-two name (drop at' output) (patch_read f c) (pv ++ back) t.it' back q₁ (ap (token_in big as_bytes tok) i' ∙ t.is'))
              ∙ ap (λ (z : ℕ). Some (record { form = c.seen; field = field_of big (at' + z) t.it' })) lc;
          ends' = (let z : at' + w + size big t.it' ≡ at' + length (bytes_of big c.pieces ++ (bytes_of big v.pieces ++ [])) = omega arith in z);
          same = (λ old new g. same-value name declared c.seen true (at + w) (at' + w) v rest back k₁ t old new (let z : at' + w + old ≡ at + w + new = omega arith in z));
        }

    attribute-twice : (one : List Read) → read_in big ex (attribute_layout e name declared) (drop at unit) ≡ Some (one, rest) → Twice one
    unfolding attribute_layout
    attribute-twice one q =
        ⊎_elim
        (λ n. let i : Indirect name (drop at unit) (one, rest) =
        all_of (Indirect name (drop at unit)) (indirect-all name (drop at unit)) (ap (λ (g : Layout). read_in big ex g (drop at unit)) (sym (pick_yes _ _ _ n)) ∙ q) in
        subst Twice (sym i.two) (indirect-twice n i.c i.mid i.is i.v i.value))
        (λ n. let d : Direct (value_token e false name declared) (drop at unit) (one, rest) =
        all_of (Direct (value_token e false name declared) (drop at unit)) (direct-all (value_token e false name declared) (drop at unit))
        (ap (λ (g : Layout). read_in big ex g (drop at unit)) (sym (pick_no _ _ _ n)) ∙ q) in
        subst Twice (sym d.one) (direct-twice n d.v d.is))
        (either (eqb declared 0x16))

  -- ---- one after the other

  pub record Divided (g h : Layout) (s : List ℕ) (r : RunOf) : Type 0 where
    pub one : List Read
    pub mid : List ℕ
    pub first : read_in big ex g s ≡ Some (one, mid)
    pub others : List Read
    pub next : read_in big ex h mid ≡ Some (others, r.1)
    pub both : r.0 ≡ one ++ others

  divided-all : (g h : Layout) (s : List ℕ) → All (Divided g h s) (bind (read_in big ex g s) (λ r. bind (read_in big ex h r.1) (joined r.0)))
  unfolding joined
  divided-all g h s =
      all-bind (λ _. Unit {0}) (Divided g h s) (read_in big ex g s) _ (all-triv _)
      (λ r q _. all-bind (λ _. Unit {0}) (Divided g h s) (read_in big ex h r.1) _ (all-triv _)
      (λ z k _. all-some (Divided g h s) (record { one = r.0; mid = r.1; first = q; others = z.0; next = k; both = refl })))

  pub divided : (g h : Layout) (s : List ℕ) (rs : List Read) (rest : List ℕ) → read_in big ex (then g h) s ≡ Some (rs, rest) → Divided g h s (rs, rest)
  divided g h s rs rest q = all_of (Divided g h s) (divided-all g h s) (sym (read-then big ex g h s) ∙ q)

  pub record ValuesTwice (specs : List AttributeSpec) (at at' : ℕ) : Type 0 where
    pub each : length (values_of e unit specs at) ≡ length specs
    pub same : (old new : ℕ) → at' + old ≡ at + new → SameAttributes f e old new unit output (values_of e unit specs at) (values_of e output specs at')

  pub more : (s : List ℕ) (a : AttributeSpec) (specs : List AttributeSpec) (at : ℕ) (v : Attribute) (n : ℕ) → attribute_at e s at a.name a.form ≡ Some v → v.field.end ≡ n
      → values_of e s (a ∷ specs) at ≡ attribute a.name a.form v ∷ values_of e s specs n
  unfolding values_of on_attribute
  more s a specs at v n q z =
      ap (λ (o : Option Attribute). on_attribute a o (λ next. values_of e s specs next)) q
      ∙ ap (λ (k : ℕ). attribute a.name a.form v ∷ values_of e s specs k) z

  none-twice : (at at' : ℕ) → ValuesTwice [] at at'
  unfolding values_of SameAttributes
  none-twice at at' = record { each = refl; same = λ old new z. tt }

  joined-twice : (a : AttributeSpec) (specs : List AttributeSpec) (at at' w : ℕ) → AttributeTwice a.name a.form at at' w → ValuesTwice specs (at + w) (at' + w) → ValuesTwice (a ∷ specs) at at'
  unfolding SameAttributes
  joined-twice a specs at at' w t n =
      let va : values_of e unit (a ∷ specs) at ≡ attribute a.name a.form t.a ∷ values_of e unit specs (at + w) = more unit a specs at t.a (at + w) t.is t.ends in
      let vb : values_of e output (a ∷ specs) at' ≡ attribute a.name a.form t.b ∷ values_of e output specs (at' + w) = more output a specs at' t.b (at' + w) t.is' t.ends' in
      record {
        each = ap length va ∙ ap suc n.each;
        same = (λ old new z.
            subst (λ (l : List Valued). SameAttributes f e old new unit output l (values_of e output (a ∷ specs) at')) (sym va)
            (subst (λ (l : List Valued). SameAttributes f e old new unit output (attribute a.name a.form t.a ∷ values_of e unit specs (at + w)) l) (sym vb)
            (t.same old new z, n.same old new (let y : at' + w + old ≡ at + w + new = omega arith in y))));
      }

  pub values-twice : (specs : List AttributeSpec) (at at' : ℕ) (rs : List Read) (rest back : List ℕ) → read_in big ex (attributes_layout e specs) (drop at unit) ≡ Some (rs, rest)
      → FitAll f rs → drop at' output ≡ write_all big (patch_all f rs) ++ back → ValuesTwice specs at at'
  unfolding attributes_layout
  values-twice [] at at' rs rest back q fit h = none-twice at at'
  values-twice (a ∷ specs) at at' rs rest back q fit h =
      let g : Layout = attribute_layout e a.name a.form in
      let d : Divided g (attributes_layout e specs) (drop at unit) (rs, rest) = divided g (attributes_layout e specs) (drop at unit) rs rest q in
      let w : ℕ = length (write_all big d.one) in
      let p : List ℕ = write_all big (patch_all f d.one) in
      let r : List ℕ = write_all big (patch_all f d.others) in
      let lp : length p ≡ w = like-width big (patch_all f d.one) d.one (like-patched big f d.one) in
      let fits : FitAll f d.one × FitAll f d.others = fit_append f d.one d.others (subst (FitAll f) d.both fit) in
      let h₁ : drop at' output ≡ p ++ (r ++ back) =
      h ∙ ap (λ (l : List Read). write_all big (patch_all f l) ++ back) d.both ∙ ap (λ (z : List ℕ). z ++ back) (written-append big f d.one d.others) ∙ append_assoc p r back in
      let i : d.mid ≡ drop (at + w) unit =
      (all_of (ReadLaw big ex g (drop at unit)) (read-law big ex (expression-law e) g (drop at unit)) d.first).0.1 ∙ drop-drop w at unit in
      let i' : drop (at' + w) output ≡ r ++ back = sym (drop-drop w at' output) ∙ ap (drop w) h₁ ∙ drop_at p (r ++ back) w lp in
      let t : AttributeTwice a.name a.form at at' w = attribute-twice a.name a.form at at' d.mid (r ++ back) d.one d.first fits.0 h₁ in
      let n : ValuesTwice specs (at + w) (at' + w) =
      values-twice specs (at + w) (at' + w) d.others rest back (ap (read_in big ex (attributes_layout e specs)) (sym i) ∙ d.next) fits.1 i' in
      joined-twice a specs at at' w t n
