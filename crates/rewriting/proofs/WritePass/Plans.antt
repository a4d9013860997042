-- The next attribute of an entry that is written: what is to be done with it, and how the writing goes on past one that is copied. Assumes nothing.
use mathlib.Core.Path.{◌≡◌, refl, ap, sym, ◌∙◌, subst}
use Prim.Native.Nat.{ℕ, ◌-◌, ◌<◌}
use native.Mathlib.Omega.{arith}
use mathlib.Core.Bool.{Bool, true}
use mathlib.Core.List.{List}
use lib.ListN.{length}
use lib.Dec.{T}
use lib.Pow.{are_bytes}
use Rattle.readers.specs.Layout.{Read}
use Rattle.readers.specs.Cursors.{cursor}
use Rattle.readers.specs.Abbreviations.{spec_at}
use Rattle.readers.specs.Entries.{attribute_at, attribute_end}
use Rattle.readers.specs.EntryAttributes.{next_attribute}
use Rattle.readers.proofs.EntryAttributes.{taken_none, taken_more, taken-last, taken-bad}
use Rattle.readers.specs.declared.cursor.Encoding.{Encoding}
use Rattle.readers.specs.declared.cursor.Cursor.{Cursor}
use Rattle.std.specs.Prelude.{None, Option, Some, Ok}
use Rattle.readers.specs.declared.abbreviations.SpecStep.{SpecStep}
use Rattle.readers.specs.declared.abbreviations.AttributeSpec.{AttributeSpec}
use Rattle.readers.specs.declared.abbreviations.SpecStep.TheVariants.{Attribute as Spec, Last as LastSpec}
use Rattle.readers.specs.declared.attributes.Attribute.{Attribute}
use Rattle.readers.specs.declared.entry_attributes.EntryAttribute.{EntryAttribute}
use Rattle.rewriting.specs.Places.{Place}
use Rattle.rewriting.specs.Rewriting.{Lists}
use Rattle.rewriting.specs.Emission.{between}
use Rattle.rewriting.specs.Inner.Plans.{Copies, Copied, Planned}
use Rattle.rewriting.specs.declared.emit_entry.Plan.{Plan}
use Rattle.rewriting.specs.declared.emit_entry.Plan.TheVariants.{Copy, Change}
use Rattle.rewriting.proofs.WritePass.Emissions.{EmitsAt}
use Rattle.rewriting.proofs.WritePass.AttributeEmits.{attribute-whole}
use Rattle.rewriting.proofs.WritePass.EntryEmits.{Entering, entering-less, entering-on}

module _ (e : Encoding) (s : List ℕ) (p : ℕ) (unit : List ℕ) (at : ℕ) (r : Option SpecStep) (q : r ≡ spec_at s p) where
  pub plan-last : (c : Cursor) → r ≡ Some (LastSpec c) → Planned (next_attribute e s p unit at) None
  unfolding Planned
  plan-last c k = sym (taken-last e s p unit at r q c k)

  pub plan-bad : r ≡ None → Planned (next_attribute e s p unit at) None
  unfolding Planned
  plan-bad k = sym (taken-bad e s p unit at r q k)

  module _ (a : AttributeSpec) (k : r ≡ Some (Spec a)) where
    abbrev there : Option Attribute
    there = attribute_at e unit at a.name a.form

    pub plan-none : (o : Option Attribute) → o ≡ there → o ≡ None → Planned (next_attribute e s p unit at) None
    unfolding Planned
    plan-none o l h = sym (taken_none e s p unit at r q a k o l h)

    pub plan-change : (o : Option Attribute) → o ≡ there → (v : Attribute) → o ≡ Some v → (c : Cursor) → c ≡ cursor v.field.end
        → Planned (next_attribute e s p unit at) (Some (Change (record { name = a.name; declared = a.form; value = v; next = a.next; values = c })))
    unfolding Planned
    plan-change o l v h c i = sym (taken_more e s p unit at r q a k o l v h c i)

    -- a value whose end alone is read
    module _ (m : Option Cursor) (l : m ≡ attribute_end there) where
      plan-past : (o : Option Attribute) → there ≡ o → m ≡ None → Planned (next_attribute e s p unit at) None
      unfolding attribute_end
      plan-past (Some v) g h = let y : m ≡ Some (cursor v.field.end) = l ∙ ap attribute_end g in let z : ◌≡◌ {A = ℕ} 0 1 = cc in absurd (omega arith)
      plan-past None g h = plan-none there refl g

      pub plan-nowhere : m ≡ None → Planned (next_attribute e s p unit at) None
      plan-nowhere h = plan-past there refl h

      plan-to : (past : Cursor) → Copies a.form → (o : Option Attribute) → there ≡ o → m ≡ Some past → Copied (next_attribute e s p unit at) past a.next
      unfolding attribute_end
      plan-to past c (Some v) g h =
          let y : m ≡ Some (cursor v.field.end) = l ∙ ap attribute_end g in
          let i : cursor v.field.end ≡ past = cc in
          record {
            attribute = record { name = a.name; declared = a.form; value = v; next = a.next; values = cursor v.field.end };
            is = sym (taken_more e s p unit at r q a k there refl v g (cursor v.field.end) refl);
            ends = refl;
            past_is = i;
            next_is = refl;
            copies = c;
          }
      plan-to past c None g h = let y : m ≡ None = l ∙ ap attribute_end g in let z : ◌≡◌ {A = ℕ} 0 1 = cc in absurd (omega arith)

      pub plan-copy : (b : Bool) → (b ≡ true → Copies a.form) → b ≡ true → (past : Cursor) → m ≡ Some past → Planned (next_attribute e s p unit at) (Some (Copy past a.next))
      unfolding Planned
      plan-copy b f t past h = plan-to past (f t) there refl h

-- ---- past a value that is copied

module _ (e : Encoding) (abbreviations : List ℕ) (p : ℕ) (unit : List ℕ) (from : ℕ) (past next : Cursor) (w : Planned (next_attribute e abbreviations p unit from) (Some (Copy past next))) where
  copied : Copied (next_attribute e abbreviations p unit from) past next
  unfolding Planned
  copied = w

  pub copied-less : length abbreviations - next.at < length abbreviations - p
  copied-less =
      subst (λ (n : Cursor). length abbreviations - n.at < length abbreviations - p) copied.next_is
      (entering-less e abbreviations p unit from copied.attribute (next_attribute e abbreviations p unit from) refl copied.is)

  ends_there : past.at ≡ copied.attribute.value.field.end
  ends_there = ap (λ (c : Cursor). c.at) (sym copied.past_is ∙ copied.ends)

  pub entering-copied : (lists : Lists) (map : List Place) (depth : ℕ) (whole : List Read) (out₀ : List ℕ) (at : ℕ) (out : List ℕ) (to : ℕ) → T (are_bytes unit)
      → Entering lists map depth e abbreviations unit whole out₀ at out p from to
      → (to₁ : ℕ) (out₁ : List ℕ) → EmitsAt 0 (between unit from past.at) out to (Ok to₁) out₁
      → Entering lists map depth e abbreviations unit whole out₀ at out₁ next.at past.at to₁
  entering-copied lists map depth whole out₀ at out to b g to₁ out₁ h =
      subst (λ (n : Cursor). Entering lists map depth e abbreviations unit whole out₀ at out₁ n.at past.at to₁) copied.next_is
      (subst (λ (c : Cursor). Entering lists map depth e abbreviations unit whole out₀ at out₁ copied.attribute.next.at c.at to₁) copied.past_is
      (entering-on lists map depth e abbreviations unit whole out₀ at out p from to g (next_attribute e abbreviations p unit from) refl copied.attribute copied.is (Ok to₁) out₁
      (λ rs rest i v d. attribute-whole e unit from copied.attribute.name copied.attribute.declared copied.attribute.value b i v rs rest d lists map depth copied.copies out to to₁ out₁
      (subst (λ (n : ℕ). EmitsAt 0 (between unit from n) out to (Ok to₁) out₁) ends_there h))
      to₁ refl))

-- ---- as it is read

module _ (y : Option EntryAttribute) (r : Option Plan) (w : Planned y r) where
  pub plan-over : r ≡ None → None ≡ y
  unfolding Planned
  plan-over h = sym (subst (Planned y) h w)

  pub plan-more : (a : EntryAttribute) → r ≡ Some (Change a) → Some a ≡ y
  unfolding Planned
  plan-more a h = sym (subst (Planned y) h w)

  pub plan-copied : (past next : Cursor) → r ≡ Some (Copy past next) → Planned y (Some (Copy past next))
  plan-copied past next h = subst (Planned y) h w
