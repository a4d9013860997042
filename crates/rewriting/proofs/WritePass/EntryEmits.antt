-- The emission of an entry: its code, then its attributes one after the other, as a deep reading of the entry has them. Assumes nothing.
use mathlib.Core.Path.{◌≡◌, refl, ap, ap₂, sym, ◌∙◌, subst}
use Prim.Native.Nat.{ℕ, ◌+◌, ◌-◌, ◌≤◌, ◌<◌}
use native.Mathlib.Omega.{arith}
use mathlib.Core.Bool.{Bool, not}
use Rattle.std.specs.Prelude.{None, Option, Some, Err, Ok, Result}
use Rattle.readers.specs.declared.abbreviations.SpecStep.{SpecStep}
use mathlib.Core.List.{List, [], ◌∷◌, ◌++◌, append_assoc, append-nil}
use mathlib.Core.Logic.{◌⊎◌, inl, inr, ⊎_elim}
use lib.ListN.{length, take, drop, length-append, length-drop}
use lib.Seq.{length-take-le, drop-drop}
use lib.Dec.{T, eqb}
use Rattle.readers.specs.Choice.{pick, bind}
use Rattle.readers.proofs.Choice.{pick_yes, pick_no, either, All, all-some, all_none, all_of, all-bind, all-triv, Took}
use Rattle.readers.specs.Scan.{Scanned, push}
use Rattle.readers.specs.Layout.{leb128, width, Token, Layout, done, field, verbatim, Read, ReadOf, RunOf, number_in, as_number, copy, token_in, read_in, before, bytes_of, piece_bytes, write_all, Patch, patch_pieces, patch_read, patch_all}
use Rattle.readers.proofs.LayoutLaws.{NumberLaw, number-law, ReadLaw, read-law, same_size}
use Rattle.readers.specs.Expression.{expression_in}
use Rattle.readers.proofs.Expression.{expression-law}
use Rattle.readers.specs.Forms.{value_token, attribute_layout}
use Rattle.readers.specs.Fields.{size, field_of, as_field, token_at}
use Rattle.readers.specs.Cursors.{cursor}
use Rattle.readers.specs.Abbreviations.{spec_at, attributes_from}
use Rattle.readers.specs.Entries.{attribute_of_reads, as_attribute, attribute_at, attributes_layout, specs_layout, found_layout, entry_layout, step_at}
use Rattle.readers.specs.declared.cursor.Encoding.{Encoding}
use Rattle.readers.specs.declared.cursor.Cursor.{Cursor}
use Rattle.readers.specs.declared.fields.Field.{Field}
use Rattle.readers.specs.declared.abbreviations.AttributeSpec.{AttributeSpec}
use Rattle.readers.specs.declared.abbreviations.SpecStep.TheVariants.{Attribute as Spec, Last as LastSpec}
use Rattle.readers.specs.declared.abbreviations.Declaration.{Declaration}
use Rattle.readers.specs.declared.attributes.Attribute.{Attribute}
use Rattle.readers.specs.declared.entries.Entry.{Entry}
use Rattle.readers.specs.declared.entries.Step.TheVariants.{Entry as Entry', Terminator}
use Rattle.readers.proofs.Values.{joined, read-then}
use Rattle.readers.proofs.Specs.{attributes-more, attributes-last, attributes-bad}
use Rattle.readers.specs.EntryAttributes.{taken, taken_by, next_attribute}
use Rattle.readers.specs.declared.entry_attributes.EntryAttribute.{EntryAttribute}
use Rattle.readers.proofs.EntryAttributes.{Stepped, stepped}
use Rattle.rewriting.specs.Places.{Place}
use Rattle.rewriting.specs.Rewriting.{Lists, new_value, reads_refusal, pieces_refusal, or_next}
use Rattle.rewriting.specs.Emission.{between}
use Rattle.rewriting.proofs.KeptPass.DeepReads.{Like, like-width, like-patched, TokenAsBytes, token-as-bytes, LayoutAsBytes, as_bytes_lem, TerminatorRead, EntryRead, deep-terminator, deep-entry, deep-inside}
use Rattle.rewriting.proofs.WritePass.Emissions.{EmitsAt, emits_none, emits-as, emits_then, emits-stop}
use Rattle.rewriting.proofs.WritePass.Splices.{next-zero}
use Rattle.rewriting.proofs.WritePass.ValueParts.{between-from, copied-refusal, copied-written, Value, value_of}

-- ---- reads in a row

pub written-append : (big : Bool) (f : Patch) (a b : List Read) → write_all big (patch_all f (a ++ b)) ≡ write_all big (patch_all f a) ++ write_all big (patch_all f b)
unfolding write_all patch_all patch_read
written-append big f [] b = refl
written-append big f (r ∷ a) b =
    ap (λ x. bytes_of big (patch_pieces f r.pieces) ++ x) (written-append big f a b)
    ∙ sym (append_assoc (bytes_of big (patch_pieces f r.pieces)) (write_all big (patch_all f a)) (write_all big (patch_all f b)))

next-assoc : (n m k : ℕ) → or_next n (or_next m k) ≡ or_next (or_next n m) k
unfolding or_next
next-assoc n m k =
    ⊎_elim
    (λ t. pick_yes _ _ _ t ∙ ap (λ x. pick (eqb x 0) k x) (sym (pick_yes (eqb n 0) m n t)))
    (λ t. pick_no _ _ _ t ∙ sym (pick_no (eqb n 0) k n t) ∙ ap (λ x. pick (eqb x 0) k x) (sym (pick_no (eqb n 0) m n t)))
    (either (eqb n 0))

module _ (lists : Lists) (map : List Place) (depth : ℕ) where
  pub refusal-append : (a b : List Read) → reads_refusal lists map depth (a ++ b) ≡ or_next (reads_refusal lists map depth a) (reads_refusal lists map depth b)
  unfolding reads_refusal
  refusal-append [] b = sym (next-zero (reads_refusal lists map depth b))
  refusal-append (r ∷ a) b =
      ap (or_next (pieces_refusal lists map depth r.pieces)) (refusal-append a b)
      ∙ next-assoc (pieces_refusal lists map depth r.pieces) (reads_refusal lists map depth a) (reads_refusal lists map depth b)

-- ---- how far an attribute comes

field_is : (big : Bool) (o : ℕ) (r : ReadOf) (f : Field) → as_field big o (Some r) ≡ Some f → field_of big o r.0 ≡ f
unfolding as_field
field_is big o r f h = cc

module _ (e : Encoding) where
  abbrev big : Bool
  big = e.big_endian

  module _ (unit : List ℕ) (values name : ℕ) (value : Attribute) (rs : List Read) (w : Value e unit values name value rs) where
    value-end : value.field.end ≡ w.o + length (bytes_of big w.v.pieces)
    unfolding token_at field_of size
    value-end =
        let t : Token = value_token e w.indirect name value.form in
        let a : TokenAsBytes big (expression_in e) t (drop w.o unit) (w.v, w.rest) =
        all_of (TokenAsBytes big (expression_in e) t (drop w.o unit)) (token-as-bytes big (expression_in e) (expression-law e) t (drop w.o unit)) w.deep in
        let s : as_field big w.o (Some (a.it, w.rest)) ≡ Some value.field =
        ap (as_field big w.o) (sym a.is) ∙ w.shallow in
        ap (λ (y : Field). y.end) (sym (field_is big w.o (a.it, w.rest) value.field s))
        ∙ ap (λ n. w.o + n) (sym a.wide)

    pub value-width : value.field.end ≡ values + length (write_all big rs)
    unfolding between
    value-width =
        let f : Patch = (λ _ v. v) in
        let lead : List ℕ = take (w.o - values) (drop values unit) in
        let a : ℕ = w.o - values in
        let i : w.o ≤ length unit = w.inside in
        let j : values ≤ w.o = w.after in
        let n : length (write_all big rs) ≡ length (lead ++ bytes_of big (patch_pieces f w.v.pieces)) =
        sym (like-width big (patch_all f rs) rs (like-patched big f rs)) ∙ ap length (w.written f) in
        let k : length lead ≡ a = length-take-le a (drop values unit) (omega (arith, length-drop values unit)) in
        value-end
        ∙ (let z : w.o + length (bytes_of big w.v.pieces) ≡ values + length (write_all big rs) =
        omega (arith, length-append lead (bytes_of big (patch_pieces f w.v.pieces)), same_size big f w.v.pieces) in z)

  -- ---- one attribute, and then the others

  bind-nowhere : (o : Option RunOf) → bind o (λ r. bind None (joined r.0)) ≡ None
  unfolding bind
  bind-nowhere None = refl
  bind-nowhere (Some a) = refl

  specs-read : (a : AttributeSpec) (o : Option (Scanned AttributeSpec ℕ)) (s : List ℕ)
      → read_in big (expression_in e) (specs_layout e (bind o (push a))) s
      ≡ bind (read_in big (expression_in e) (attribute_layout e a.name a.form) s) (λ r. bind (read_in big (expression_in e) (specs_layout e o) r.1) (joined r.0))
  unfolding specs_layout bind push attributes_layout read_in
  specs-read a None s = sym (bind-nowhere (read_in big (expression_in e) (attribute_layout e a.name a.form) s))
  specs-read a (Some r) s = read-then big (expression_in e) (attribute_layout e a.name a.form) (attributes_layout e r.0) s

  record Divided (a : AttributeSpec) (o : Option (Scanned AttributeSpec ℕ)) (s : List ℕ) (r : RunOf) : Type 0 where
    pub one : List Read
    pub mid : List ℕ
    pub others : List Read
    pub first : read_in big (expression_in e) (attribute_layout e a.name a.form) s ≡ Some (one, mid)
    pub then' : read_in big (expression_in e) (specs_layout e o) mid ≡ Some (others, r.1)
    pub both : r.0 ≡ one ++ others

  divided-all : (a : AttributeSpec) (o : Option (Scanned AttributeSpec ℕ)) (s : List ℕ)
      → All (Divided a o s) (bind (read_in big (expression_in e) (attribute_layout e a.name a.form) s) (λ r. bind (read_in big (expression_in e) (specs_layout e o) r.1) (joined r.0)))
  unfolding joined
  divided-all a o s =
      all-bind (λ _. Unit {0}) (Divided a o s) (read_in big (expression_in e) (attribute_layout e a.name a.form) s) _ (all-triv _)
      (λ r q _. all-bind (λ _. Unit {0}) (Divided a o s) (read_in big (expression_in e) (specs_layout e o) r.1) _ (all-triv _)
      (λ z k _. all-some (Divided a o s) (record { one = r.0; mid = r.1; others = z.0; first = q; then' = k; both = refl })))

  divided : (a : AttributeSpec) (o : Option (Scanned AttributeSpec ℕ)) (s : List ℕ) (rs : List Read) (rest : List ℕ)
      → read_in big (expression_in e) (specs_layout e (bind o (push a))) s ≡ Some (rs, rest) → Divided a o s (rs, rest)
  divided a o s rs rest q = all_of (Divided a o s) (divided-all a o s) (sym (specs-read a o s) ∙ q)

  -- ---- the attribute that is next

  record Taken (abbreviations : List ℕ) (p : ℕ) (unit : List ℕ) (from : ℕ) (x : EntryAttribute) : Type 0 where
    pub spec : AttributeSpec
    pub there : spec_at abbreviations p ≡ Some (Spec spec)
    pub value : attribute_at e unit from spec.name spec.form ≡ Some x.value
    pub name : spec.name ≡ x.name
    pub declared : spec.form ≡ x.declared
    pub next : spec.next ≡ x.next

  module _ (abbreviations : List ℕ) (p : ℕ) (unit : List ℕ) (from : ℕ) where
    taken-value : (x : EntryAttribute) (a : AttributeSpec) → spec_at abbreviations p ≡ Some (Spec a) → (o : Option Attribute) → attribute_at e unit from a.name a.form ≡ o → taken a o ≡ Some x
        → Taken abbreviations p unit from x
    unfolding taken
    taken-value x a q (Some v) k g =
        let z : record { name = a.name; declared = a.form; value = v; next = a.next; values = cursor v.field.end } ≡ x = cc in
        record {
          spec = a;
          there = q;
          value = k ∙ ap (λ (y : EntryAttribute). Some y.value) z;
          name = ap (λ (y : EntryAttribute). y.name) z;
          declared = ap (λ (y : EntryAttribute). y.declared) z;
          next = ap (λ (y : EntryAttribute). y.next) z;
        }
    taken-value x a q None k g = let z : ◌≡◌ {A = ℕ} 0 1 = cc in absurd (omega arith)

    taken-spec : (x : EntryAttribute) (r : Option SpecStep) → spec_at abbreviations p ≡ r → taken_by e unit from r ≡ Some x → Taken abbreviations p unit from x
    unfolding taken_by
    taken-spec x (Some (Spec a)) q g = taken-value x a q (attribute_at e unit from a.name a.form) refl g
    taken-spec x (Some (LastSpec c)) q g = let z : ◌≡◌ {A = ℕ} 0 1 = cc in absurd (omega arith)
    taken-spec x None q g = let z : ◌≡◌ {A = ℕ} 0 1 = cc in absurd (omega arith)

    taken_is : (x : EntryAttribute) → next_attribute e abbreviations p unit from ≡ Some x → Taken abbreviations p unit from x
    unfolding next_attribute
    taken_is x g = taken-spec x (spec_at abbreviations p) refl g

    -- where there is none, nothing is left to read
    some_read : (t : Token) (k : ℕ → Layout) (s : List ℕ) → All (λ (r : RunOf). r.0 ≡ [] → ⊥) (read_in big (expression_in e) (field t k) s)
    unfolding read_in before
    some_read t k s =
        all-bind (λ _. Unit {0}) _ (token_in big (expression_in e) t s) _ (all-triv _)
        (λ r q _. all-bind (λ _. Unit {0}) _ (read_in big (expression_in e) (k r.0.seen) r.1) _ (all-triv _)
        (λ z y _. all-some (λ (r : RunOf). r.0 ≡ [] → ⊥) (λ h. let z : ◌≡◌ {A = ℕ} 0 1 = cc in absurd (omega arith))))

    some-attribute : (name form : ℕ) (s : List ℕ) → All (λ (r : RunOf). r.0 ≡ [] → ⊥) (read_in big (expression_in e) (attribute_layout e name form) s)
    unfolding attribute_layout
    some-attribute name form s =
        ⊎_elim (λ t. subst (λ g. All (λ (r : RunOf). r.0 ≡ [] → ⊥) (read_in big (expression_in e) g s)) (sym (pick_yes _ _ _ t)) (some_read _ _ s))
        (λ t. subst (λ g. All (λ (r : RunOf). r.0 ≡ [] → ⊥) (read_in big (expression_in e) g s)) (sym (pick_no _ _ _ t)) (some_read _ _ s))
        (either (eqb form 0x16))

    none_of : (form : ℕ) (those : List Read) → attribute_of_reads big form from those ≡ None → those ≡ []
    unfolding attribute_of_reads
    none_of form [] h = refl
    none_of form (v ∷ []) h = let z : ◌≡◌ {A = ℕ} 0 1 = cc in absurd (omega arith)
    none_of form (f ∷ v ∷ rs) h = let z : ◌≡◌ {A = ℕ} 0 1 = cc in absurd (omega arith)

    like-none : (a b : List Read) → Like big a b → b ≡ [] → a ≡ []
    unfolding Like
    like-none [] b h q = refl
    like-none (r ∷ a) [] h q = absurd h
    like-none (r ∷ a) (x ∷ b) h q = let z : ◌≡◌ {A = ℕ} 0 1 = cc in absurd (omega arith)

    readable : (name form : ℕ) (one : List Read) (mid : List ℕ) → read_in big (expression_in e) (attribute_layout e name form) (drop from unit) ≡ Some (one, mid)
        → attribute_at e unit from name form ≡ None → ⊥
    unfolding attribute_at as_attribute
    readable name form one mid q k =
        let a : LayoutAsBytes big (expression_in e) (attribute_layout e name form) (drop from unit) (one, mid) = as_bytes_lem big (expression_in e) (expression-law e) (attribute_layout e name form) (drop from unit) one mid q in
        let z : attribute_of_reads big form from a.those ≡ None =
        sym (ap (as_attribute big form from) a.are) ∙ k in
        all_of (λ (r : RunOf). r.0 ≡ [] → ⊥) (some-attribute name form (drop from unit)) q (like-none one a.those a.like (none_of form a.those z))

    module _ (rs : List Read) (rest : List ℕ) (deep : read_in big (expression_in e) (specs_layout e (attributes_from abbreviations p)) (drop from unit) ≡ Some (rs, rest)) where
      last-value : (a : AttributeSpec) → spec_at abbreviations p ≡ Some (Spec a) → (o : Option Attribute) → attribute_at e unit from a.name a.form ≡ o → taken a o ≡ None → rs ≡ []
      unfolding taken
      last-value a q (Some v) k g = let z : ◌≡◌ {A = ℕ} 0 1 = cc in absurd (omega arith)
      last-value a q None k g =
          let d : Divided a (attributes_from abbreviations a.next.at) (drop from unit) (rs, rest) =
          divided a (attributes_from abbreviations a.next.at) (drop from unit) rs rest
          (ap (λ y. read_in big (expression_in e) (specs_layout e y) (drop from unit)) (sym (attributes-more abbreviations p a q)) ∙ deep) in
          absurd (readable a.name a.form d.one d.mid d.first k)

      last-spec : (r : Option SpecStep) → spec_at abbreviations p ≡ r → taken_by e unit from r ≡ None → rs ≡ []
      unfolding taken_by specs_layout attributes_layout read_in
      last-spec (Some (Spec a)) q g = last-value a q (attribute_at e unit from a.name a.form) refl g
      last-spec (Some (LastSpec c)) q g =
          let z : ◌≡◌ {A = Option RunOf} (Some ([], drop from unit)) (Some (rs, rest)) =
          ap (λ y. read_in big (expression_in e) (specs_layout e y) (drop from unit)) (sym (attributes-last abbreviations p c q)) ∙ deep in
          let y : ◌≡◌ {A = RunOf} ([], drop from unit) (rs, rest) = cc in sym (ap (λ (r : RunOf). r.0) y)
      last-spec None q g =
          let z : ◌≡◌ {A = Option RunOf} None (Some (rs, rest)) = ap (λ y. read_in big (expression_in e) (specs_layout e y) (drop from unit)) (sym (attributes-bad abbreviations p q)) ∙ deep in
          let y : ◌≡◌ {A = ℕ} 0 1 = cc in absurd (omega arith)

      none_left : next_attribute e abbreviations p unit from ≡ None → rs ≡ []
      unfolding next_attribute
      none_left g = last-spec (spec_at abbreviations p) refl g

-- ---- the loop: the answer from here on is that of the whole

pub record Entering (lists : Lists) (map : List Place) (depth : ℕ) (e : Encoding) (abbreviations unit : List ℕ) (whole : List Read) (out₀ : List ℕ) (at : ℕ) (out : List ℕ) (p from to : ℕ) : Type 0 where
  pub reads : List Read
  pub rest : List ℕ
  pub inside : from ≤ length unit
  pub deep : read_in (big e) (expression_in e) (specs_layout e (attributes_from abbreviations p)) (drop from unit) ≡ Some (reads, rest)
  pub onward : (r : Result ℕ ℕ) (out' : List ℕ)
      → EmitsAt (reads_refusal lists map depth reads) (write_all (big e) (patch_all (new_value lists map depth) reads)) out to r out'
      → EmitsAt (reads_refusal lists map depth whole) (write_all (big e) (patch_all (new_value lists map depth) whole)) out₀ at r out'

-- the measure
pub entering-less : (e : Encoding) (abbreviations : List ℕ) (p : ℕ) (unit : List ℕ) (from : ℕ) (x : EntryAttribute) (y : Option EntryAttribute) → y ≡ next_attribute e abbreviations p unit from → y ≡ Some x
    → length abbreviations - x.next.at < length abbreviations - p
entering-less e abbreviations p unit from x y q g =
    let t : Stepped e abbreviations p unit from x = stepped e abbreviations p unit from x (sym q ∙ g) in
    omega (arith, t.ahead, t.inside)

pub entering-begin : (lists : Lists) (map : List Place) (depth : ℕ) (e : Encoding) (abbreviations unit : List ℕ) (whole : List Read) (out : List ℕ) (p from to : ℕ) (after : List ℕ) → from ≤ length unit
    → read_in (big e) (expression_in e) (specs_layout e (attributes_from abbreviations p)) (drop from unit) ≡ Some (whole, after) → Entering lists map depth e abbreviations unit whole out to out p from to
entering-begin lists map depth e abbreviations unit whole out p from to after i d = record { reads = whole; rest = after; inside = i; deep = d; onward = λ r out' h. h }

module _ (lists : Lists) (map : List Place) (depth : ℕ) (e : Encoding) (abbreviations unit : List ℕ) (whole : List Read) (out₀ : List ℕ) (at : ℕ) where
  module _ (out : List ℕ) (p from to : ℕ) (g : Entering lists map depth e abbreviations unit whole out₀ at out p from to) (y : Option EntryAttribute) (q : y ≡ next_attribute e abbreviations p unit from) where
    pub entering-end : y ≡ None → EmitsAt (reads_refusal lists map depth whole) (write_all (big e) (patch_all (new_value lists map depth) whole)) out₀ at (Ok to) out
    unfolding reads_refusal write_all patch_all
    entering-end h =
        let n : g.reads ≡ [] = none_left e abbreviations p unit from g.reads g.rest g.deep (sym q ∙ h) in
        g.onward (Ok to) out (emits-as (ap (reads_refusal lists map depth) (sym n)) (ap (λ rs. write_all (big e) (patch_all (new_value lists map depth) rs)) (sym n)) (emits_none out to))

    module _ (x : EntryAttribute) (h : y ≡ Some x) where
      it : Taken e abbreviations p unit from x
      it = taken_is e abbreviations p unit from x (sym q ∙ h)

      parts : Divided e it.spec (attributes_from abbreviations it.spec.next.at) (drop from unit) (g.reads, g.rest)
      parts =
          divided e it.spec (attributes_from abbreviations it.spec.next.at) (drop from unit) g.reads g.rest
          (ap (λ z. read_in (big e) (expression_in e) (specs_layout e z) (drop from unit)) (sym (attributes-more abbreviations p it.spec it.there)) ∙ g.deep)

      its-value : attribute_at e unit from x.name x.declared ≡ Some x.value
      its-value = ap₂ (λ (n m : ℕ). attribute_at e unit from n m) (sym it.name) (sym it.declared) ∙ it.value

      its-reads : read_in (big e) (expression_in e) (attribute_layout e x.name x.declared) (drop from unit) ≡ Some (parts.one, parts.mid)
      its-reads = ap₂ (λ (n m : ℕ). read_in (big e) (expression_in e) (attribute_layout e n m) (drop from unit)) (sym it.name) (sym it.declared) ∙ parts.first

      its-end : x.values.at ≡ from + length (write_all (big e) parts.one)
      its-end =
          ap (λ (c : Cursor). c.at) (stepped e abbreviations p unit from x (sym q ∙ h)).follows
          ∙ value-width e unit from x.name x.value parts.one
          (value_of e unit from x.name x.declared x.value g.inside its-value parts.one parts.mid its-reads)

      took : Took (drop from unit) (length (write_all (big e) parts.one)) parts.mid
      took =
          (all_of (ReadLaw (big e) (expression_in e) (attribute_layout e x.name x.declared) (drop from unit))
          (read-law (big e) (expression_in e) (expression-law e) (attribute_layout e x.name x.declared) (drop from unit)) its-reads).0

      ends-inside : x.values.at ≤ length unit
      ends-inside =
          let i : from ≤ length unit = g.inside in
          let k : length (write_all (big e) parts.one) ≤ length (drop from unit) = took.0 in
          omega (arith, its-end, length-drop from unit)

      mid-is : parts.mid ≡ drop x.values.at unit
      mid-is = took.1 ∙ drop-drop (length (write_all (big e) parts.one)) from unit ∙ ap (λ n. drop n unit) (sym its-end)

      module _ (a : Result ℕ ℕ) (out₁ : List ℕ)
          (f : (rs : List Read) (rest : List ℕ) → from ≤ length unit → attribute_at e unit from x.name x.declared ≡ Some x.value
          → read_in (big e) (expression_in e) (attribute_layout e x.name x.declared) (drop from unit) ≡ Some (rs, rest)
          → EmitsAt (reads_refusal lists map depth rs) (write_all (big e) (patch_all (new_value lists map depth) rs)) out to a out₁) where
        here : EmitsAt (reads_refusal lists map depth parts.one) (write_all (big e) (patch_all (new_value lists map depth) parts.one)) out to a out₁
        here = f parts.one parts.mid g.inside its-value its-reads

        together : (z : Result ℕ ℕ) (out₂ : List ℕ)
            → EmitsAt (or_next (reads_refusal lists map depth parts.one) (reads_refusal lists map depth parts.others))
            (write_all (big e) (patch_all (new_value lists map depth) parts.one) ++ write_all (big e) (patch_all (new_value lists map depth) parts.others)) out to z out₂
            → EmitsAt (reads_refusal lists map depth whole) (write_all (big e) (patch_all (new_value lists map depth) whole)) out₀ at z out₂
        together z out₂ k =
            g.onward z out₂
            (emits-as
            (sym (ap (reads_refusal lists map depth) parts.both ∙ refusal-append lists map depth parts.one parts.others))
            (sym (ap (λ rs. write_all (big e) (patch_all (new_value lists map depth) rs)) parts.both ∙ written-append (big e) (new_value lists map depth) parts.one parts.others))
            k)

        pub entering-refused : (k : ℕ) → a ≡ Err k → EmitsAt (reads_refusal lists map depth whole) (write_all (big e) (patch_all (new_value lists map depth) whole)) out₀ at (Err k) out₁
        entering-refused k w =
            together (Err k) out₁
            (emits-stop (reads_refusal lists map depth parts.one) (reads_refusal lists map depth parts.others)
            (write_all (big e) (patch_all (new_value lists map depth) parts.one)) (write_all (big e) (patch_all (new_value lists map depth) parts.others)) out to k out₁
            (subst (λ z. EmitsAt (reads_refusal lists map depth parts.one) (write_all (big e) (patch_all (new_value lists map depth) parts.one)) out to z out₁) w here))

        pub entering-on : (to₁ : ℕ) → a ≡ Ok to₁ → Entering lists map depth e abbreviations unit whole out₀ at out₁ x.next.at x.values.at to₁
        entering-on to₁ w =
            record {
              reads = parts.others;
              rest = g.rest;
              inside = ends-inside;
              deep =
                  ap₂ (λ (c : Cursor) (s : List ℕ). read_in (big e) (expression_in e) (specs_layout e (attributes_from abbreviations c.at)) s) (sym it.next) (sym mid-is) ∙ parts.then';
              onward = λ z out₂ k.
                  together z out₂
                  (emits_then (reads_refusal lists map depth parts.one) (reads_refusal lists map depth parts.others)
                  (write_all (big e) (patch_all (new_value lists map depth) parts.one)) (write_all (big e) (patch_all (new_value lists map depth) parts.others)) out to to₁ out₁ z out₂
                  (subst (λ z. EmitsAt (reads_refusal lists map depth parts.one) (write_all (big e) (patch_all (new_value lists map depth) parts.one)) out to z out₁) w here) k);
            }

-- ---- the code

module _ (e : Encoding) (abbreviations : List ℕ) (look : ℕ → Option Declaration) (unit : List ℕ) (start : ℕ) where
  -- an entry's code, and how its attributes were read
  record Coded (r : RunOf) : Type 0 where
    pub code : Read
    pub wide : ℕ
    pub fits : wide ≤ length (drop start unit)
    pub pieces : code.pieces ≡ verbatim (take wide (drop start unit)) ∷ []
    pub others : List Read
    pub is : r.0 ≡ code ∷ others
    pub other : T (not (eqb code.seen 0))
    pub declaration : Declaration
    pub found : look code.seen ≡ Some declaration
    pub deep : read_in (big e) (expression_in e) (specs_layout e (attributes_from abbreviations declaration.attributes.at)) (drop wide (drop start unit)) ≡ Some (others, r.1)

  abbrev Kinds : RunOf → Type 0
  Kinds r = TerminatorRead e abbreviations look r.0 ⊎ Coded r

  found-kinds : (v n : ℕ) → n ≤ length (drop start unit) → T (not (eqb v 0)) → (f : Option Declaration) → look v ≡ f
      → All Kinds (bind (read_in (big e) (expression_in e) (found_layout e abbreviations look f) (drop n (drop start unit))) (before (copy v 0 n (drop start unit)).0))
  unfolding found_layout before bind read_in copy
  found-kinds v n i t (Some d) h =
      all-bind (λ _. Unit {0}) Kinds (read_in (big e) (expression_in e) (specs_layout e (attributes_from abbreviations d.attributes.at)) (drop n (drop start unit))) _ (all-triv _)
      (λ r q _. all-some Kinds (inr (record {
        code = (copy v 0 n (drop start unit)).0;
        wide = n;
        fits = i;
        pieces = refl;
        others = r.0;
        is = refl;
        other = t;
        declaration = d;
        found = h;
        deep = q;
      })))
  found-kinds v n i t None h = all_none _

  kinds-all : All Kinds (read_in (big e) (expression_in e) (entry_layout e abbreviations look) (drop start unit))
  unfolding read_in entry_layout token_in as_number before bind copy
  kinds-all =
      all-bind (λ (r : ReadOf). (v n : ℕ) × ((n ≤ length (drop start unit)) × (r ≡ copy v 0 n (drop start unit)))) Kinds (bind (number_in (big e) leb128 (drop start unit)) (as_number (drop start unit))) _
      (all-bind (NumberLaw (big e) leb128 (drop start unit)) _ (number_in (big e) leb128 (drop start unit)) _ (number-law (big e) leb128 (drop start unit)) (λ t k law. all-some _ (t.1, width t.0, (law.1.0, refl))))
      (λ r q h. subst (λ (z : ReadOf). All Kinds (bind (read_in (big e) (expression_in e) (pick (eqb z.0.seen 0) done (found_layout e abbreviations look (look z.0.seen))) z.1) (before z.0))) (sym h.2.1)
      (by_code_lem h.0 h.1 h.2.0))
    where
      by_code_lem : (v n : ℕ) → n ≤ length (drop start unit)
          → All Kinds (bind (read_in (big e) (expression_in e) (pick (eqb v 0) done (found_layout e abbreviations look (look v))) (drop n (drop start unit))) (before (copy v 0 n (drop start unit)).0))
      by_code_lem v n i =
          ⊎_elim
          (λ t. subst (λ g. All Kinds (bind (read_in (big e) (expression_in e) g (drop n (drop start unit))) (before (copy v 0 n (drop start unit)).0))) (sym (pick_yes _ _ _ t))
          (all-some Kinds (inl (record { code = (copy v 0 n (drop start unit)).0; is = refl; zero = t }))))
          (λ t. subst (λ g. All Kinds (bind (read_in (big e) (expression_in e) g (drop n (drop start unit))) (before (copy v 0 n (drop start unit)).0))) (sym (pick_no _ _ _ t))
          (found-kinds v n i t (look v) refl))
          (either (eqb v 0))

  module _ (x : Entry) (step : step_at e abbreviations look unit start ≡ Some (Entry' x)) (rs : List Read) (rest : List ℕ)
      (deep : read_in (big e) (expression_in e) (entry_layout e abbreviations look) (drop start unit) ≡ Some (rs, rest)) where
    coded : Coded (rs, rest)
    coded =
        ⊎_elim
        (λ t. let z : Some (Terminator _) ≡ Some (Entry' x) = sym (deep-terminator e abbreviations look (expression_in e) (expression-law e) unit start rs rest deep t) ∙ step in
        let y : ◌≡◌ {A = ℕ} 0 1 = cc in absurd (omega arith))
        (λ c. c)
        (all_of Kinds kinds-all deep)

    abbrev entry_read : EntryRead e abbreviations look rs
    entry_read =
        record {
          code = coded.code;
          others = coded.others;
          is = coded.is;
          other = coded.other;
          declaration = coded.declaration;
          found = coded.found;
        }

    abbrev stepped-to : Entry
    stepped-to =
        record {
          offset = record { 0 = start };
          declaration = coded.declaration;
          values = cursor (start + size (big e) coded.code);
          next = cursor (start + length (write_all (big e) rs));
        }

    entry-is : x ≡ stepped-to
    entry-is =
        let z : Some (Entry' x) ≡ Some (Entry' stepped-to) = sym step ∙ deep-entry e abbreviations look (expression_in e) (expression-law e) unit start rs rest deep entry_read in
        cc

    code-wide : size (big e) coded.code ≡ coded.wide
    unfolding size bytes_of piece_bytes
    code-wide =
        ap (λ ps. length (bytes_of (big e) ps)) coded.pieces
        ∙ ap length (append-nil (take coded.wide (drop start unit))) ∙ length-take-le coded.wide (drop start unit) coded.fits

    values-are : x.values.at ≡ start + coded.wide
    values-are = ap (λ (y : Entry). y.values.at) entry-is ∙ ap (λ n. start + n) code-wide

    values-inside : start + coded.wide ≤ length unit
    values-inside =
        let i : start + length (write_all (big e) rs) ≤ length unit = deep-inside e abbreviations look (expression_in e) (expression-law e) unit start rs rest deep in
        let f : coded.wide ≤ length (drop start unit) = coded.fits in
        omega (arith, length-drop start unit)

    entering-start : (specs values : ℕ) → specs ≡ x.declaration.attributes.at → values ≡ x.values.at → (lists : Lists) (map : List Place) (depth : ℕ) (out : List ℕ) (at to : ℕ) (out₁ : List ℕ)
        → (start ≤ values → values ≤ length unit → EmitsAt 0 (between unit start values) out at (Ok to) out₁)
        → Entering lists map depth e abbreviations unit rs out at out₁ specs values to
    entering-start specs values p q lists map depth out at to out₁ f =
        let v : values ≡ start + coded.wide = q ∙ values-are in
        let s : specs ≡ coded.declaration.attributes.at = p ∙ ap (λ (y : Entry). y.declaration.attributes.at) entry-is in
        let i : values ≤ length unit = omega (arith, values-inside) in
        let code : List ℕ = take coded.wide (drop start unit) in
        let first : EmitsAt 0 code out at (Ok to) out₁ = emits-as refl (ap (between unit start) v ∙ between-from unit start coded.wide) (f (omega arith) i) in
        record {
          reads = coded.others;
          rest = rest;
          inside = i;
          deep =
              ap₂ (λ (n : ℕ) (y : List ℕ). read_in (big e) (expression_in e) (specs_layout e (attributes_from abbreviations n)) y) s
              (ap (λ n. drop n unit) v ∙ sym (drop-drop coded.wide start unit)) ∙ coded.deep;
          onward = λ r out' h.
              emits-as
              (next-zero (reads_refusal lists map depth coded.others)
              ∙ sym (ap (reads_refusal lists map depth) coded.is ∙ copied-refusal lists map depth coded.code code coded.pieces coded.others))
              (sym (ap (λ z. write_all (big e) (patch_all (new_value lists map depth) z)) coded.is ∙ copied-written (big e) (new_value lists map depth) coded.code code coded.pieces coded.others))
              (emits_then 0 (reads_refusal lists map depth coded.others) code (write_all (big e) (patch_all (new_value lists map depth) coded.others)) out at to out₁ r out' first h);
        }

    -- what is said of the attributes after the code is said of the entry
    pub entry_done : (specs values : ℕ) → specs ≡ x.declaration.attributes.at → values ≡ x.values.at → (lists : Lists) (map : List Place) (depth : ℕ) (out : List ℕ) (at to : ℕ) (out₁ : List ℕ)
        → (start ≤ values → values ≤ length unit → EmitsAt 0 (between unit start values) out at (Ok to) out₁) → (r : Result ℕ ℕ) (out₂ : List ℕ)
        → ((reads : List Read) (after : List ℕ) → values ≤ length unit → read_in (big e) (expression_in e) (specs_layout e (attributes_from abbreviations specs)) (drop values unit) ≡ Some (reads, after)
        → EmitsAt (reads_refusal lists map depth reads) (write_all (big e) (patch_all (new_value lists map depth) reads)) out₁ to r out₂)
        → EmitsAt (reads_refusal lists map depth rs) (write_all (big e) (patch_all (new_value lists map depth) rs)) out at r out₂
    entry_done specs values p q lists map depth out at to out₁ f r out₂ h =
        let s : Entering lists map depth e abbreviations unit rs out at out₁ specs values to = entering-start specs values p q lists map depth out at to out₁ f in
        s.onward r out₂ (h s.reads s.rest s.inside s.deep)
