-- An entry's attributes, one step at a time: what stands from a place on, by what is read there. Assumes nothing.
use mathlib.Core.Path.{◌≡◌, refl, ap, sym, ◌∙◌, subst}
use Prim.Native.Nat.{ℕ, zero, suc, ◌+◌, ◌-◌, ◌≤◌, ◌<◌}
use native.Mathlib.Omega.{arith}
use mathlib.Core.List.{List, [], ◌∷◌}
use Rattle.std.specs.Prelude.{None, Option, Some}
use Rattle.readers.specs.declared.fields.Field.{Field}
use Rattle.readers.specs.declared.abbreviations.SpecStep.{SpecStep}
use mathlib.Core.Logic.{⊎_elim}
use lib.ListN.{length}
use lib.Dec.{eqb}
use mir.Facts.{eqb_yes, eqb_no}
use Rattle.readers.specs.Choice.{bind}
use Rattle.readers.proofs.Choice.{either}
use Rattle.readers.specs.Cursors.{cursor, forms_at}
use Rattle.readers.proofs.Lebs.{forms-inside}
use Rattle.readers.proofs.Tokens.{Inside, token-inside}
use Rattle.readers.proofs.Values as Values
use Rattle.readers.proofs.Values.{behind_forms, attribute-direct, attribute-indirect}
use Rattle.readers.specs.Entries.{attribute_at, values_at}
use Rattle.readers.specs.Abbreviations.{spec_at, attributes_from}
use Rattle.readers.specs.Scan.{Scanned, push}
use Rattle.readers.proofs.Specs.{attribute-inside, attributes-more, attributes-last, attributes-bad}
use Rattle.readers.specs.declared.cursor.Encoding.{Encoding}
use Rattle.readers.specs.declared.cursor.Cursor.{Cursor}
use Rattle.readers.specs.declared.abbreviations.AttributeSpec.{AttributeSpec}
use Rattle.readers.specs.declared.abbreviations.SpecStep.TheVariants.{Attribute as Spec, Last as LastSpec}
use Rattle.readers.specs.declared.attributes.Attribute.{Attribute}
use Rattle.readers.specs.EntryAttributes.{Valued, on_spec, specs_within, specs_from, on_attribute, values_of, entry_values, taken, taken_by}
use Rattle.readers.specs.EntryAttributes.{next_attribute}
use Rattle.readers.specs.Inner.EntryAttributes.{end_by}
use Rattle.readers.specs.declared.entry_attributes.EntryAttribute.{EntryAttribute}

-- ---- specifications

module _ (s : List ℕ) where
  turn-same : (at : ℕ) (r : Option SpecStep) → spec_at s at ≡ r → (j k : AttributeSpec → List AttributeSpec)
      → ((a : AttributeSpec) → at < a.next.at → a.next.at ≤ length s → j a ≡ k a) → on_spec r j ≡ on_spec r k
  unfolding on_spec
  turn-same at (Some (Spec a)) q j k h = h a (attribute-inside s at a q).0 (attribute-inside s at a q).1
  turn-same at (Some (LastSpec c)) q j k h = refl
  turn-same at None q j k h = refl

  within_same : (j k at : ℕ) → length s < at + j → length s < at + k → 0 < j → 0 < k → specs_within j s at ≡ specs_within k s at
  unfolding specs_within
  within_same zero k at h h' p q = absurd (omega arith)
  within_same (suc j) zero at h h' p q = absurd (omega arith)
  within_same (suc j) (suc k) at h h' p q =
      turn-same at (spec_at s at) refl _ _ (λ a lo hi. ap (λ (l : List AttributeSpec). a ∷ l) (within_same j k a.next.at (omega arith) (omega arith) (omega arith) (omega arith)))

  pub specs-step : (at : ℕ) → specs_from s at ≡ on_spec (spec_at s at) (λ a. a ∷ specs_from s a.next.at)
  unfolding specs_from specs_within
  specs-step at =
      turn-same at (spec_at s at) refl _ _
      (λ a lo hi. ap (λ (l : List AttributeSpec). a ∷ l)
      (within_same (length s - at) (suc (length s - a.next.at)) a.next.at (omega arith) (omega arith) (omega arith) (omega arith)))

  -- where all can be read, as in a checked list, these are all
  onto : (a : AttributeSpec) (l : List AttributeSpec) (o : Option (Scanned AttributeSpec ℕ)) (r : Scanned AttributeSpec ℕ)
      → ((t : Scanned AttributeSpec ℕ) → o ≡ Some t → l ≡ t.0) → bind o (push a) ≡ Some r → a ∷ l ≡ r.0
  unfolding bind push
  onto a l None r k g = let z : ◌≡◌ {A = ℕ} 0 1 = cc in absurd (omega arith)
  onto a l (Some t) r k g =
      let z : (a ∷ t.0, t.1) ≡ r = cc in
      ap (λ (m : List AttributeSpec). a ∷ m) (k t refl) ∙ ap (λ (y : Scanned AttributeSpec ℕ). y.0) z

  all-turn : (at : ℕ) (r : Scanned AttributeSpec ℕ) → attributes_from s at ≡ Some r → (o : Option SpecStep) → spec_at s at ≡ o
      → ((a : AttributeSpec) → spec_at s at ≡ Some (Spec a) → (t : Scanned AttributeSpec ℕ) → attributes_from s a.next.at ≡ Some t → specs_from s a.next.at ≡ t.0)
      → on_spec o (λ a. a ∷ specs_from s a.next.at) ≡ r.0
  unfolding on_spec
  all-turn at r g (Some (Spec a)) q k = onto a (specs_from s a.next.at) (attributes_from s a.next.at) r (k a q) (sym (attributes-more s at a q) ∙ g)
  all-turn at r g (Some (LastSpec c)) q k =
      let y : Some ([], c.at) ≡ Some r = sym (attributes-last s at c q) ∙ g in
      let z : ([], c.at) ≡ r = cc in
      ap (λ (y : Scanned AttributeSpec ℕ). y.0) z
  all-turn at r g None q k =
      let y : None ≡ Some r = sym (attributes-bad s at q) ∙ g in
      let z : ◌≡◌ {A = ℕ} 0 1 = cc in
      absurd (omega arith)

  all-within : (k at : ℕ) → length s ≤ at + k → (r : Scanned AttributeSpec ℕ) → attributes_from s at ≡ Some r → specs_from s at ≡ r.0
  all-within zero at h r g =
      specs-step at
      ∙ all-turn at r g (spec_at s at) refl (λ a q t y. absurd (omega (arith, (attribute-inside s at a q).0, (attribute-inside s at a q).1)))
  all-within (suc k) at h r g =
      specs-step at
      ∙ all-turn at r g (spec_at s at) refl (λ a q t y. all-within k a.next.at (omega (arith, (attribute-inside s at a q).0)) t y)

  pub specs-all : (at : ℕ) (r : Scanned AttributeSpec ℕ) → attributes_from s at ≡ Some r → specs_from s at ≡ r.0
  specs-all at r g = all-within (length s) at (omega arith) r g

-- ---- values

module _ (e : Encoding) (s : List ℕ) (p : ℕ) (unit : List ℕ) (at : ℕ) where
  pub values-last : (c : Cursor) → spec_at s p ≡ Some (LastSpec c) → entry_values e s p unit at ≡ []
  unfolding entry_values values_of on_spec
  values-last c q = ap (λ (l : List AttributeSpec). values_of e unit l at) (specs-step s p ∙ ap (λ (r : Option SpecStep). on_spec r (λ a. a ∷ specs_from s a.next.at)) q)

  pub values-bad : spec_at s p ≡ None → entry_values e s p unit at ≡ []
  unfolding entry_values values_of on_spec
  values-bad q = ap (λ (l : List AttributeSpec). values_of e unit l at) (specs-step s p ∙ ap (λ (r : Option SpecStep). on_spec r (λ a. a ∷ specs_from s a.next.at)) q)

  module _ (a : AttributeSpec) (q : spec_at s p ≡ Some (Spec a)) where
    values-spec : entry_values e s p unit at
        ≡ on_attribute a (attribute_at e unit at a.name a.form) (λ next. entry_values e s a.next.at unit next)
    unfolding entry_values values_of on_spec
    values-spec = ap (λ (l : List AttributeSpec). values_of e unit l at) (specs-step s p ∙ ap (λ (r : Option SpecStep). on_spec r (λ a. a ∷ specs_from s a.next.at)) q)

    pub values-none : attribute_at e unit at a.name a.form ≡ None → entry_values e s p unit at ≡ []
    unfolding on_attribute
    values-none r = values-spec ∙ ap (λ (o : Option Attribute). on_attribute a o (λ next. entry_values e s a.next.at unit next)) r

    pub values-more : (v : Attribute) → attribute_at e unit at a.name a.form ≡ Some v
        → entry_values e s p unit at ≡ record { name = a.name; declared = a.form; value = v } ∷ entry_values e s a.next.at unit v.field.end
    unfolding on_attribute
    values-more v r = values-spec ∙ ap (λ (o : Option Attribute). on_attribute a o (λ next. entry_values e s a.next.at unit next)) r

-- ---- how far a value comes

field_of : (form : ℕ) (r : Option Field) (v : Attribute) → Values.valued form r ≡ Some v → r ≡ Some v.field
unfolding Values.valued
field_of form (Some f) v g = let z : record { form = form; field = f } ≡ v = cc in ap (λ (a : Attribute). Some a.field) z
field_of form None v g = let z : ◌≡◌ {A = ℕ} 0 1 = cc in absurd (omega arith)

module _ (e : Encoding) (s : List ℕ) (at name form : ℕ) (v : Attribute) where
  behind-inside : (n : Option (ℕ × Cursor)) → forms_at s at ≡ n → behind_forms e s at name form n ≡ Some v → Inside s at v.field
  unfolding behind_forms
  behind-inside (Some (found, next)) q g =
      let i : Inside s next.at v.field = token-inside e s next.at v.field _ (field_of found _ v g) in
      record {
        after = omega (arith, i.after, (forms-inside s at found next q).0);
        forward = i.forward;
        within = omega (arith, i.within, (forms-inside s at found next q).0, (forms-inside s at found next q).1);
      }
  behind-inside None q g = let z : ◌≡◌ {A = ℕ} 0 1 = cc in absurd (omega arith)

  pub value-inside : attribute_at e s at name form ≡ Some v → Inside s at v.field
  value-inside g =
      ⊎_elim
      (λ t. behind-inside (forms_at s at) refl (sym (attribute-indirect e s at name form (eqb_yes {a = form} {b = 0x16} t)) ∙ g))
      (λ t. token-inside e s at v.field _ (field_of form _ v (sym (attribute-direct e s at name form (eqb_no {a = form} {b = 0x16} t)) ∙ g)))
      (either (eqb form 0x16))

-- ---- the attribute there, by what was read of it

module _ (e : Encoding) (s : List ℕ) (p : ℕ) (unit : List ℕ) (at : ℕ) (r : Option SpecStep) (q : r ≡ spec_at s p) where
  pub taken-last : (c : Cursor) → r ≡ Some (LastSpec c) → None ≡ next_attribute e s p unit at
  unfolding next_attribute taken_by
  taken-last c k = rw (sym q ∙ k)

  pub taken-bad : r ≡ None → None ≡ next_attribute e s p unit at
  unfolding next_attribute taken_by
  taken-bad k = rw (sym q ∙ k)

  module _ (a : AttributeSpec) (k : r ≡ Some (Spec a)) (o : Option Attribute) (l : o ≡ attribute_at e unit at a.name a.form) where
    pub taken_none : o ≡ None → None ≡ next_attribute e s p unit at
    unfolding next_attribute taken_by taken
    taken_none h = rw (sym q ∙ k, sym l ∙ h)

    pub taken_more : (v : Attribute) → o ≡ Some v → (c : Cursor) → c ≡ cursor v.field.end
        → Some (record { name = a.name; declared = a.form; value = v; next = a.next; values = c }) ≡ next_attribute e s p unit at
    unfolding next_attribute taken_by taken
    taken_more v h c i = rw (sym q ∙ k, sym l ∙ h, i)

-- where the values end, if none is read there
module _ (s : List ℕ) (p at : ℕ) (r : Option SpecStep) (q : r ≡ spec_at s p) where
  pub end_more : (a : AttributeSpec) → r ≡ Some (Spec a) → None ≡ end_by at (spec_at s p)
  unfolding end_by
  end_more a k = sym (ap (end_by at) (sym q ∙ k))

  pub end-last : (c : Cursor) → r ≡ Some (LastSpec c) → Some (cursor at) ≡ end_by at (spec_at s p)
  unfolding end_by
  end-last c k = sym (ap (end_by at) (sym q ∙ k))

  pub end-bad : r ≡ None → None ≡ end_by at (spec_at s p)
  unfolding end_by
  end-bad k = sym (ap (end_by at) (sym q ∙ k))

-- ---- what it says of the attributes from there on

abbrev pub valued : EntryAttribute → Valued
valued x = record { name = x.name; declared = x.declared; value = x.value }

module _ (e : Encoding) (s : List ℕ) (p : ℕ) (unit : List ℕ) (at : ℕ) where
  -- one more, and how far its specification and its value come
  pub record Stepped (x : EntryAttribute) : Type 0 where
    pub all : entry_values e s p unit at ≡ valued x ∷ entry_values e s x.next.at unit x.value.field.end
    pub ahead : p < x.next.at
    pub inside : x.next.at ≤ length s
    pub within : Inside unit at x.value.field
    pub onward : values_at e s p unit at ≡ values_at e s x.next.at unit x.value.field.end
    pub follows : x.values ≡ cursor x.value.field.end

  by_value : (x : EntryAttribute) (a : AttributeSpec) → spec_at s p ≡ Some (Spec a) → (o : Option Attribute) → attribute_at e unit at a.name a.form ≡ o
      → taken a o ≡ Some x → Stepped x
  unfolding taken
  by_value x a q (Some v) k g =
      let z : record { name = a.name; declared = a.form; value = v; next = a.next; values = cursor v.field.end } ≡ x = cc in
      subst Stepped z
      (record {
        all = values-more e s p unit at a q v k;
        ahead = (attribute-inside s p a q).0;
        inside = (attribute-inside s p a q).1;
        within = value-inside e unit at a.name a.form v k;
        onward = Values.values-step e s p unit at a q (attribute_at e unit at a.name a.form) refl v k;
        follows = refl;
      })
  by_value x a q None k g = let z : ◌≡◌ {A = ℕ} 0 1 = cc in absurd (omega arith)

  by-spec : (x : EntryAttribute) (r : Option SpecStep) → spec_at s p ≡ r → taken_by e unit at r ≡ Some x → Stepped x
  unfolding taken_by
  by-spec x (Some (Spec a)) q g = by_value x a q (attribute_at e unit at a.name a.form) refl g
  by-spec x (Some (LastSpec c)) q g = let z : ◌≡◌ {A = ℕ} 0 1 = cc in absurd (omega arith)
  by-spec x None q g = let z : ◌≡◌ {A = ℕ} 0 1 = cc in absurd (omega arith)

  pub stepped : (x : EntryAttribute) → next_attribute e s p unit at ≡ Some x → Stepped x
  unfolding next_attribute
  stepped x g = by-spec x (spec_at s p) refl g

  -- the same, from the cursors that it hands back
  pub stepped-on : (x : EntryAttribute) → next_attribute e s p unit at ≡ Some x → entry_values e s p unit at ≡ valued x ∷ entry_values e s x.next.at unit x.values.at
  stepped-on x g = (stepped x g).all ∙ ap (λ (c : Cursor). valued x ∷ entry_values e s x.next.at unit c.at) (sym (stepped x g).follows)

  pub ends_on : (x : EntryAttribute) → next_attribute e s p unit at ≡ Some x → values_at e s p unit at ≡ values_at e s x.next.at unit x.values.at
  ends_on x g = (stepped x g).onward ∙ ap (λ (c : Cursor). values_at e s x.next.at unit c.at) (sym (stepped x g).follows)

  none-value : (a : AttributeSpec) → spec_at s p ≡ Some (Spec a) → (o : Option Attribute) → attribute_at e unit at a.name a.form ≡ o → taken a o ≡ None → entry_values e s p unit at ≡ []
  unfolding taken
  none-value a q (Some v) k g = let z : ◌≡◌ {A = ℕ} 0 1 = cc in absurd (omega arith)
  none-value a q None k g = values-none e s p unit at a q k

  none_spec : (r : Option SpecStep) → spec_at s p ≡ r → taken_by e unit at r ≡ None → entry_values e s p unit at ≡ []
  unfolding taken_by
  none_spec (Some (Spec a)) q g = none-value a q (attribute_at e unit at a.name a.form) refl g
  none_spec (Some (LastSpec c)) q g = values-last e s p unit at c q
  none_spec None q g = values-bad e s p unit at q

  pub no_more : next_attribute e s p unit at ≡ None → entry_values e s p unit at ≡ []
  unfolding next_attribute
  no_more g = none_spec (spec_at s p) refl g

  -- where the values end, by the place that none was read at
  stop-value : (a : AttributeSpec) → spec_at s p ≡ Some (Spec a) → (o : Option Attribute) → attribute_at e unit at a.name a.form ≡ o → taken a o ≡ None → end_by at (Some (Spec a)) ≡ values_at e s p unit at
  unfolding taken end_by
  stop-value a q (Some v) k g = let z : ◌≡◌ {A = ℕ} 0 1 = cc in absurd (omega arith)
  stop-value a q None k g = Values.values-none e s p unit at a q (attribute_at e unit at a.name a.form) refl k

  stop-spec : (r : Option SpecStep) → spec_at s p ≡ r → taken_by e unit at r ≡ None → end_by at r ≡ values_at e s p unit at
  unfolding taken_by end_by
  stop-spec (Some (Spec a)) q g = stop-value a q (attribute_at e unit at a.name a.form) refl g
  stop-spec (Some (LastSpec c)) q g = Values.values-last e s p unit at c q
  stop-spec None q g = Values.values-bad e s p unit at q

  pub stop-end : next_attribute e s p unit at ≡ None → end_by at (spec_at s p) ≡ values_at e s p unit at
  unfolding next_attribute
  stop-end g = stop-spec (spec_at s p) refl g
