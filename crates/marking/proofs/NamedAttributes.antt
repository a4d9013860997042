-- The attributes of one name, one after the other. Assumes nothing.
use mathlib.Core.Path.{◌≡◌, refl, ap, sym, ◌∙◌}
use Prim.Native.Nat.{ℕ, ◌-◌, ◌≤◌, ◌<◌}
use native.Mathlib.Omega.{arith}
use mathlib.Core.List.{List, [], ◌∷◌}
use mathlib.Core.Logic.{⊎_elim}
use lib.ListN.{length}
use lib.Dec.{eqb}
use mir.Facts.{yes_eqb, no_eqb, eqb_no}
use Rattle.readers.proofs.Choice.{either, pick_yes, pick_no}
use Rattle.readers.specs.Cursors.{cursor}
use Rattle.readers.specs.Abbreviations.{spec_at}
use Rattle.readers.specs.Entries.{attribute_at, attribute_end}
use Rattle.readers.specs.EntryAttributes.{Valued, entry_values, next_attribute, taken, taken_by}
use Rattle.readers.specs.declared.cursor.Cursor.{Cursor}
use Rattle.readers.specs.declared.cursor.Encoding.{Encoding}
use Rattle.std.specs.Prelude.{None, Option, Some}
use Rattle.readers.specs.declared.abbreviations.SpecStep.{SpecStep}
use Rattle.readers.specs.declared.abbreviations.AttributeSpec.{AttributeSpec}
use Rattle.readers.specs.declared.abbreviations.SpecStep.TheVariants.{Attribute as Spec, Last as LastSpec}
use Rattle.readers.specs.declared.attributes.Attribute.{Attribute}
use Rattle.readers.specs.declared.entry_attributes.EntryAttribute.{EntryAttribute}
use Rattle.readers.proofs.Specs.{attribute-inside}
use Rattle.readers.proofs.EntryAttributes.{stepped, stepped-on, no_more, values-last, values-bad, values-none, values-more}
use Rattle.marking.specs.Inner.ReferenceTable.{valued_by}
use Rattle.marking.specs.Inner.Named.{of_name, NamedAt}

-- ---- the attribute of a specification

module _ (a : AttributeSpec) (t o : Option Attribute) (l : o ≡ t) where
  pub of_none : o ≡ None → None ≡ taken a t
  unfolding taken
  of_none k = rw (sym l ∙ k)

  pub of-more : (v : Attribute) → o ≡ Some v → (c : Cursor) → c ≡ cursor v.field.end
      → Some (record { name = a.name; declared = a.form; value = v; next = a.next; values = c }) ≡ taken a t
  unfolding taken
  of-more v k c i = rw (sym l ∙ k, i)

taken-name : (a : AttributeSpec) (o : Option Attribute) (x : EntryAttribute) → Some x ≡ taken a o → x.name ≡ a.name
unfolding taken
taken-name a (Some v) x g =
    let z : record { name = a.name; declared = a.form; value = v; next = a.next; values = cursor v.field.end } ≡ x = cc in
    ap (λ (y : EntryAttribute). y.name) (sym z)
taken-name a None x g = let z : ◌≡◌ {A = ℕ} 0 1 = cc in absurd (omega arith)

-- ---- where a value that is stepped over ends

pub record Passed (e : Encoding) (unit : List ℕ) (at : ℕ) (a : AttributeSpec) (c : Cursor) : Type 0 where
  pub value : Attribute
  pub read : attribute_at e unit at a.name a.form ≡ Some value
  pub past : c ≡ cursor value.field.end

module _ (e : Encoding) (unit : List ℕ) (at : ℕ) (a : AttributeSpec) where
  passed-by : (o : Option Attribute) → attribute_at e unit at a.name a.form ≡ o → (c : Cursor) → attribute_end o ≡ Some c → Passed e unit at a c
  unfolding attribute_end
  passed-by (Some v) k c g = record { value = v; read = k; past = (let z : cursor v.field.end ≡ c = cc in sym z) }
  passed-by None k c g = let z : ◌≡◌ {A = ℕ} 0 1 = cc in absurd (omega arith)

  unread-by : (o : Option Attribute) → attribute_at e unit at a.name a.form ≡ o → attribute_end o ≡ None → attribute_at e unit at a.name a.form ≡ None
  unfolding attribute_end
  unread-by (Some v) k g = let z : ◌≡◌ {A = ℕ} 0 1 = cc in absurd (omega arith)
  unread-by None k g = k

  module _ (m : Option Cursor) (l : m ≡ attribute_end (attribute_at e unit at a.name a.form)) where
    pub passed : (c : Cursor) → m ≡ Some c → Passed e unit at a c
    passed c k = passed-by (attribute_at e unit at a.name a.form) refl c (sym l ∙ k)

    pub unread : m ≡ None → attribute_at e unit at a.name a.form ≡ None
    unread k = unread-by (attribute_at e unit at a.name a.form) refl (sym l ∙ k)

-- ---- one turn: what is left from here on is what was left before

module _ (e : Encoding) (s unit : List ℕ) (name p₀ at₀ p at : ℕ) (h : of_name name (entry_values e s p₀ unit at₀) ≡ of_name name (entry_values e s p unit at))
    (f : p₀ ≤ p) (r : Option SpecStep) (q : r ≡ spec_at s p) where
  pub named-last : (c : Cursor) → r ≡ Some (LastSpec c) → NamedAt e s p₀ unit at₀ name None
  unfolding NamedAt of_name
  named-last c k = h ∙ ap (of_name name) (values-last e s p unit at c (sym q ∙ k))

  pub named-bad : r ≡ None → NamedAt e s p₀ unit at₀ name None
  unfolding NamedAt of_name
  named-bad k = h ∙ ap (of_name name) (values-bad e s p unit at (sym q ∙ k))

  module _ (a : AttributeSpec) (k : r ≡ Some (Spec a)) where
    pub named-less : length s - a.next.at < length s - p
    named-less = omega (arith, (attribute-inside s p a (sym q ∙ k)).0, (attribute-inside s p a (sym q ∙ k)).1)

    pub named-on : p₀ ≤ a.next.at
    named-on = omega (arith, (attribute-inside s p a (sym q ∙ k)).0)

    next_is : next_attribute e s p unit at ≡ taken a (attribute_at e unit at a.name a.form)
    unfolding next_attribute taken_by
    next_is = rw (sym q ∙ k)

    pub named-read : a.name ≡ name → (n : Option EntryAttribute) → n ≡ taken a (attribute_at e unit at a.name a.form) → NamedAt e s p₀ unit at₀ name n
    unfolding NamedAt of_name
    named-read d None l = h ∙ ap (of_name name) (no_more e s p unit at (next_is ∙ sym l))
    named-read d (Some x) l =
        let g : next_attribute e s p unit at ≡ Some x = next_is ∙ sym l in
        let i : x.name ≡ name = taken-name a _ x l ∙ d in
        record {
          named = i;
          all = h ∙ ap (of_name name) (stepped-on e s p unit at x g) ∙ pick_yes _ _ _ (yes_eqb {a = x.name} {b = name} i);
          ahead = omega (arith, (stepped e s p unit at x g).ahead);
          inside = (stepped e s p unit at x g).inside;
        }

    module _ (d : a.name ≡ name → ⊥) (m : Option Cursor) (l : m ≡ attribute_end (attribute_at e unit at a.name a.form)) where
      pub named-unread : m ≡ None → NamedAt e s p₀ unit at₀ name None
      unfolding NamedAt of_name
      named-unread g = h ∙ ap (of_name name) (values-none e s p unit at a (sym q ∙ k) (unread e unit at a m l g))

      pub named_past : (c : Cursor) → m ≡ Some c → of_name name (entry_values e s p₀ unit at₀) ≡ of_name name (entry_values e s a.next.at unit c.at)
      unfolding of_name
      named_past c g =
          let v = passed e unit at a m l c g in
          h ∙ ap (of_name name) (values-more e s p unit at a (sym q ∙ k) v.value v.read)
          ∙ pick_no _ _ _ (no_eqb {a = a.name} {b = name} d)
          ∙ ap (λ (c : Cursor). of_name name (entry_values e s a.next.at unit c.at)) (sym v.past)

-- ---- a test that does not look at attributes of other names

module _ {X : Type 0} (test : List Valued → X) (name : ℕ)
    (out : (a : Valued) (l : List Valued) → (a.name ≡ name → ⊥) → test (a ∷ l) ≡ test l)
    (on : (a : Valued) (l l' : List Valued) → test l ≡ test l' → test (a ∷ l) ≡ test (a ∷ l')) where
  of-name : (l : List Valued) → test l ≡ test (of_name name l)
  unfolding of_name
  of-name [] = refl
  of-name (a ∷ l) =
      ⊎_elim
      (λ t. on a l (of_name name l) (of-name l) ∙ ap test (sym (pick_yes _ _ _ t)))
      (λ t. out a l (eqb_no {a = a.name} {b = name} t) ∙ of-name l ∙ ap test (sym (pick_no _ _ _ t)))
      (either (eqb a.name name))

  module _ (e : Encoding) (s unit : List ℕ) (p at : ℕ) where
    pub named_end : NamedAt e s p unit at name None → test (entry_values e s p unit at) ≡ test []
    unfolding NamedAt
    named_end q = of-name (entry_values e s p unit at) ∙ ap test q

    pub named-turn : (x : EntryAttribute) → NamedAt e s p unit at name (Some x)
        → test (entry_values e s p unit at) ≡ test (valued_by x ∷ entry_values e s x.next.at unit x.values.at)
    unfolding NamedAt
    named-turn x q =
        of-name (entry_values e s p unit at) ∙ ap test q.all
        ∙ on (valued_by x) _ _ (sym (of-name (entry_values e s x.next.at unit x.values.at)))
