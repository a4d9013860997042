-- The root test's loops over an entry's attributes, one turn at a time. Assumes nothing.
use mathlib.Core.Path.{◌≡◌, refl, ap, sym, ◌∙◌, subst}
use Prim.Native.Nat.{ℕ, ◌+◌, ◌-◌, ◌<◌}
use native.Mathlib.Omega.{arith}
use mathlib.Core.Bool.{Bool, false}
use mathlib.Core.List.{List, [], ◌∷◌}
use lib.ListN.{length}
use lib.Dec.{eqb}
use borrow.Author.Tests.{eq-eqb, ne_eqb}
use mir.Facts.{yes_eqb, no_eqb}
use Rattle.readers.specs.Choice.{pick, ◌and◌}
use Rattle.readers.proofs.Choice.{pick_yes, pick_no, pick-either}
use Rattle.readers.specs.Fields.{part_of}
use Rattle.readers.specs.Abbreviations.{spec_at}
use Rattle.readers.specs.Entries.{attribute_at, attribute_end}
use Rattle.readers.specs.declared.abbreviations.AttributeSpec.{AttributeSpec}
use Rattle.std.specs.Prelude.{None, Option, Some, Err, Ok, Result}
use Rattle.readers.specs.declared.abbreviations.SpecStep.{SpecStep}
use Rattle.readers.specs.declared.abbreviations.SpecStep.TheVariants.{Attribute as Spec, Last as LastSpec}
use Rattle.readers.proofs.Specs.{attribute-inside}
use Rattle.readers.specs.Lists.{list_start, list_offset}
use Rattle.readers.proofs.ListStarts.{start-past}
use Rattle.readers.specs.declared.cursor.Encoding.{Encoding}
use Rattle.readers.specs.declared.cursor.Cursor.{Cursor}
use Rattle.readers.specs.declared.attributes.Attribute.{Attribute}
use Rattle.marking.specs.Roots.{or_else, low_pc, low_pcs, location_live, locations, older_live, pairs_live, offset_live, other_ranges, Ranges, ranges_by, ranges_live, ranges_of, first_ranges, root_test, base_from, base_after}
use Rattle.readers.specs.EntryAttributes.{Valued, entry_values}
use Rattle.readers.specs.declared.entry_attributes.EntryAttribute.{EntryAttribute}
use Rattle.marking.specs.declared.addresses.Verdict.{Verdict}
use Rattle.marking.specs.declared.addresses.Verdict.TheVariants.{Live as is_live, Dead as is_dead}
use Rattle.readers.proofs.EntryAttributes.{valued, values-last, values-bad, values-none, values-more}
use Rattle.marking.specs.Inner.Named.{FirstNamed, NamedAt}
use Rattle.marking.proofs.NamedAttributes.{passed, unread, named_end, named-turn}
use Rattle.marking.proofs.Lists.{ranges_from, ranges-start}

-- ---- any test over the attributes of a name, from a specification and a value on

module _ (e : Encoding) (s unit : List ℕ) (p at name : ℕ) (n : Option EntryAttribute) (q : NamedAt e s p unit at name n) where
  first_is : (x : EntryAttribute) → n ≡ Some x → FirstNamed e s p unit at name x
  unfolding NamedAt
  first_is x r = subst (NamedAt e s p unit at name) r q

  pub attributes-less : (x : EntryAttribute) → n ≡ Some x → length s - x.next.at < length s - p
  attributes-less x r = omega (arith, (first_is x r).ahead, (first_is x r).inside)

  module _ {X : Type 0} (test : List Valued → X)
      (out : (a : Valued) (l : List Valued) → (a.name ≡ name → ⊥) → test (a ∷ l) ≡ test l)
      (on : (a : Valued) (l l' : List Valued) → test l ≡ test l' → test (a ∷ l) ≡ test (a ∷ l')) where
    attributes-end : n ≡ None → test (entry_values e s p unit at) ≡ test []
    attributes-end r = named_end test name out on e s unit p at (subst (NamedAt e s p unit at name) r q)

    attributes-turn : (x : EntryAttribute) → n ≡ Some x
        → test (entry_values e s p unit at) ≡ test (valued x ∷ entry_values e s x.next.at unit x.values.at)
    attributes-turn x r = named-turn test name out on e s unit p at x (subst (NamedAt e s p unit at name) r q)

-- ---- low_pc

module _ (e : Encoding) (table : List ℕ) where
  low-out : (a : Valued) (l : List Valued) → (a.name ≡ 0x11 → ⊥) → low_pcs e table (a ∷ l) ≡ low_pcs e table l
  unfolding low_pcs pick
  low-out a l k = rw (ne_eqb a.name 0x11 k)

  low-on : (a : Valued) (l l' : List Valued) → low_pcs e table l ≡ low_pcs e table l' → low_pcs e table (a ∷ l) ≡ low_pcs e table (a ∷ l')
  unfolding low_pcs
  low-on a l l' k = ap (λ (w : Result Verdict ℕ). pick (eqb a.name 0x11) (or_else (low_pc e table a.value) w) w) k

module _ (e : Encoding) (table s unit : List ℕ) (p₀ at₀ p at : ℕ) (h : low_pcs e table (entry_values e s p₀ unit at₀) ≡ low_pcs e table (entry_values e s p unit at))
    (n : Option EntryAttribute) (q : NamedAt e s p unit at 0x11 n) where
  pub low_end : n ≡ None → Ok is_dead ≡ low_pcs e table (entry_values e s p₀ unit at₀)
  unfolding low_pcs
  low_end r = sym (h ∙ attributes-end e s unit p at 0x11 n q (low_pcs e table) (low-out e table) (low-on e table) r)

  module _ (x : EntryAttribute) (r : n ≡ Some x) (w : Result Verdict ℕ) (l : w ≡ low_pc e table x.value) where
    low-met : low_pcs e table (entry_values e s p₀ unit at₀) ≡ or_else w (low_pcs e table (entry_values e s x.next.at unit x.values.at))
    unfolding low_pcs pick
    low-met =
        h ∙ attributes-turn e s unit p at 0x11 n q (low_pcs e table) (low-out e table) (low-on e table) x r
        ∙ rw (eq-eqb x.name 0x11 (first_is e s unit p at 0x11 n q x r).named, l)

    pub low-live : w ≡ Ok is_live → Ok is_live ≡ low_pcs e table (entry_values e s p₀ unit at₀)
    unfolding or_else
    low-live v = sym (low-met ∙ rw v)

    pub low-refused : (m : ℕ) → w ≡ Err m → Err m ≡ low_pcs e table (entry_values e s p₀ unit at₀)
    unfolding or_else
    low-refused m v = sym (low-met ∙ rw v)

    pub low-dead : w ≡ Ok is_dead → low_pcs e table (entry_values e s p₀ unit at₀) ≡ low_pcs e table (entry_values e s x.next.at unit x.values.at)
    unfolding or_else
    low-dead v = low-met ∙ rw v

-- ---- location

module _ (e : Encoding) (fixed : Bool) (table unit : List ℕ) where
  locations-out : (a : Valued) (l : List Valued) → (a.name ≡ 0x02 → ⊥) → locations e fixed table unit (a ∷ l) ≡ locations e fixed table unit l
  unfolding locations pick ◌and◌
  locations-out a l k = rw (ne_eqb a.name 0x02 k)

  locations-on : (a : Valued) (l l' : List Valued) → locations e fixed table unit l ≡ locations e fixed table unit l'
      → locations e fixed table unit (a ∷ l) ≡ locations e fixed table unit (a ∷ l')
  unfolding locations
  locations-on a l l' k =
      ap (λ (w : Result Verdict ℕ). pick (eqb a.name 0x02 and eqb a.value.form 0x18) (or_else (location_live e fixed table (part_of unit a.value.field)) w) w) k

module _ (e : Encoding) (fixed : Bool) (table s unit : List ℕ) (p₀ at₀ p at : ℕ)
    (h : locations e fixed table unit (entry_values e s p₀ unit at₀) ≡ locations e fixed table unit (entry_values e s p unit at))
    (n : Option EntryAttribute) (q : NamedAt e s p unit at 0x02 n) where
  pub locations-end : n ≡ None → Ok is_dead ≡ locations e fixed table unit (entry_values e s p₀ unit at₀)
  unfolding locations
  locations-end r =
      sym (h ∙ attributes-end e s unit p at 0x02 n q (locations e fixed table unit) (locations-out e fixed table unit) (locations-on e fixed table unit) r)

  module _ (x : EntryAttribute) (r : n ≡ Some x) where
    locations-turn : locations e fixed table unit (entry_values e s p₀ unit at₀)
        ≡ locations e fixed table unit (valued x ∷ entry_values e s x.next.at unit x.values.at)
    locations-turn =
        h ∙ attributes-turn e s unit p at 0x02 n q (locations e fixed table unit) (locations-out e fixed table unit) (locations-on e fixed table unit) x r

    named-location : x.name ≡ 0x02
    named-location = (first_is e s unit p at 0x02 n q x r).named

    pub locations-list : (x.value.form ≡ 0x18 → ⊥)
        → locations e fixed table unit (entry_values e s p₀ unit at₀) ≡ locations e fixed table unit (entry_values e s x.next.at unit x.values.at)
    unfolding locations pick ◌and◌
    locations-list f = locations-turn ∙ rw (eq-eqb x.name 0x02 named-location, ne_eqb x.value.form 0x18 f)

    module _ (f : x.value.form ≡ 0x18) (part : List ℕ) (i : part ≡ part_of unit x.value.field) (w : Result Verdict ℕ) (l : w ≡ location_live e fixed table part) where
      locations-met : locations e fixed table unit (entry_values e s p₀ unit at₀)
          ≡ or_else w (locations e fixed table unit (entry_values e s x.next.at unit x.values.at))
      unfolding locations pick ◌and◌
      locations-met = locations-turn ∙ rw (eq-eqb x.name 0x02 named-location, eq-eqb x.value.form 0x18 f, l, i)

      pub locations-live : w ≡ Ok is_live → Ok is_live ≡ locations e fixed table unit (entry_values e s p₀ unit at₀)
      unfolding or_else
      locations-live v = sym (locations-met ∙ rw v)

      pub locations-refused : (m : ℕ) → w ≡ Err m → Err m ≡ locations e fixed table unit (entry_values e s p₀ unit at₀)
      unfolding or_else
      locations-refused m v = sym (locations-met ∙ rw v)

      pub locations-dead : w ≡ Ok is_dead
          → locations e fixed table unit (entry_values e s p₀ unit at₀) ≡ locations e fixed table unit (entry_values e s x.next.at unit x.values.at)
      unfolding or_else
      locations-dead v = locations-met ∙ rw v

-- ---- ranges that are not in rnglistx

module _ (e : Encoding) (s : List ℕ) (base : ℕ) (v : Attribute) where
  pub other-form : (v.form ≡ 0x17 → ⊥) → Ok is_live ≡ other_ranges e s base v
  unfolding other_ranges pick
  other-form k = rw (ne_eqb v.form 0x17 k)

  unresolved : offset_live e s None ≡ Ok is_live
  unfolding offset_live older_live pairs_live
  unresolved = pick-either (λ (w : Result Verdict ℕ). w ≡ Ok is_live) (eqb e.version 4) (Ok is_live) (Ok is_live) (λ _. refl) (λ _. refl)

  module _ (k : v.form ≡ 0x17) where
    other_from : offset_live e s (list_start s (base + v.field.value)) ≡ other_ranges e s base v
    unfolding other_ranges pick
    other_from = rw (eq-eqb v.form 0x17 k)

    pub other-past : length s < base + v.field.value → Ok is_live ≡ other_ranges e s base v
    other-past h = sym (ap (offset_live e s) (start-past s (base + v.field.value) h) ∙ unresolved) ∙ other_from

    module _ (o : Option Cursor) (p : o ≡ list_start s (base + v.field.value)) where
      pub other-unresolved : o ≡ None → Ok is_live ≡ other_ranges e s base v
      other-unresolved u = sym unresolved ∙ ap (offset_live e s) (sym u ∙ p) ∙ other_from

      pub other-pairs : (c : Cursor) → o ≡ Some c → (w : Result Verdict ℕ) → e.version ≡ 4 → w ≡ pairs_live e s (Some c) → w ≡ other_ranges e s base v
      unfolding offset_live
      other-pairs c u w n q = q ∙ sym (pick_yes _ _ _ (yes_eqb {a = e.version} {b = 4} n)) ∙ ap (offset_live e s) (sym u ∙ p) ∙ other_from

      pub other-older : (c : Cursor) → o ≡ Some c → (w : Result Verdict ℕ) → (e.version ≡ 4 → ⊥) → w ≡ older_live e s (Some c) → w ≡ other_ranges e s base v
      unfolding offset_live
      other-older c u w n q = q ∙ sym (pick_no _ _ _ (no_eqb {a = e.version} {b = 4} n)) ∙ ap (offset_live e s) (sym u ∙ p) ∙ other_from

-- ---- the first ranges

module _ (e : Encoding) (ranges table : List ℕ) (rb nb : ℕ) (s unit : List ℕ) (p₀ at₀ p at : ℕ)
    (h : first_ranges e (ranges_by ranges table rb nb) (entry_values e s p₀ unit at₀) ≡ first_ranges e (ranges_by ranges table rb nb) (entry_values e s p unit at))
    (r : Option SpecStep) (q : r ≡ spec_at s p) where
  first-none : entry_values e s p unit at ≡ [] → (w : Result Verdict ℕ) → w ≡ Ok is_dead → w ≡ first_ranges e (ranges_by ranges table rb nb) (entry_values e s p₀ unit at₀)
  unfolding first_ranges
  first-none k w d = d ∙ sym (h ∙ ap (first_ranges e (ranges_by ranges table rb nb)) k)

  pub first-last : (c : Cursor) → r ≡ Some (LastSpec c) → (w : Result Verdict ℕ) → w ≡ Ok is_dead → w ≡ first_ranges e (ranges_by ranges table rb nb) (entry_values e s p₀ unit at₀)
  first-last c k = first-none (values-last e s p unit at c (sym q ∙ k))

  pub first-bad : r ≡ None → (w : Result Verdict ℕ) → w ≡ Ok is_dead → w ≡ first_ranges e (ranges_by ranges table rb nb) (entry_values e s p₀ unit at₀)
  first-bad k = first-none (values-bad e s p unit at (sym q ∙ k))

  module _ (a : AttributeSpec) (k : r ≡ Some (Spec a)) where
    pub first-less : length s - a.next.at < length s - p
    first-less = omega (arith, (attribute-inside s p a (sym q ∙ k)).0, (attribute-inside s p a (sym q ∙ k)).1)

    -- one of another name
    module _ (d : a.name ≡ 0x55 → ⊥) (m : Option Cursor) (y : m ≡ attribute_end (attribute_at e unit at a.name a.form)) where
      pub first-unpassed : m ≡ None → (w : Result Verdict ℕ) → w ≡ Ok is_dead → w ≡ first_ranges e (ranges_by ranges table rb nb) (entry_values e s p₀ unit at₀)
      first-unpassed z = first-none (values-none e s p unit at a (sym q ∙ k) (unread e unit at a m y z))

      pub first_past : (c : Cursor) → m ≡ Some c
          → first_ranges e (ranges_by ranges table rb nb) (entry_values e s p₀ unit at₀)
          ≡ first_ranges e (ranges_by ranges table rb nb) (entry_values e s a.next.at unit c.at)
      unfolding first_ranges pick
      first_past c z =
          let v = passed e unit at a m y c z in
          let g = ranges_by ranges table rb nb in
          h ∙ ap (first_ranges e g) (values-more e s p unit at a (sym q ∙ k) v.value v.read)
          ∙ ap (λ (b : Bool). pick b (ranges_of e g v.value) (first_ranges e g (entry_values e s a.next.at unit v.value.field.end))) (ne_eqb a.name 0x55 d)
          ∙ ap (λ (c : Cursor). first_ranges e g (entry_values e s a.next.at unit c.at)) (sym v.past)

    module _ (d : a.name ≡ 0x55) (o : Option Attribute) (y : o ≡ attribute_at e unit at a.name a.form) where
      pub first-unread : o ≡ None → (w : Result Verdict ℕ) → w ≡ Ok is_dead → w ≡ first_ranges e (ranges_by ranges table rb nb) (entry_values e s p₀ unit at₀)
      first-unread z = first-none (values-none e s p unit at a (sym q ∙ k) (sym y ∙ z))

      module _ (v : Attribute) (z : o ≡ Some v) where
        first-turn : first_ranges e (ranges_by ranges table rb nb) (entry_values e s p₀ unit at₀) ≡ ranges_of e (ranges_by ranges table rb nb) v
        unfolding first_ranges pick
        first-turn =
            let g = ranges_by ranges table rb nb in
            h ∙ ap (first_ranges e g) (values-more e s p unit at a (sym q ∙ k) v (sym y ∙ z))
            ∙ ap (λ (b : Bool). pick b (ranges_of e g v) (first_ranges e g (entry_values e s a.next.at unit v.field.end))) (eq-eqb a.name 0x55 d)

        pub first-form : (v.form ≡ 0x23 → ⊥) → (w : Result Verdict ℕ) → w ≡ other_ranges e ranges rb v
            → w ≡ first_ranges e (ranges_by ranges table rb nb) (entry_values e s p₀ unit at₀)
        unfolding ranges_of pick
        first-form f w l = l ∙ sym (first-turn ∙ rw (ne_eqb v.form 0x23 f))

        module _ (f : v.form ≡ 0x23) (i : Option Cursor) (l : i ≡ list_offset e ranges nb v.field.value) where
          first-met : first_ranges e (ranges_by ranges table rb nb) (entry_values e s p₀ unit at₀) ≡ ranges_live e table ranges i
          unfolding ranges_of pick
          first-met = first-turn ∙ rw (eq-eqb v.form 0x23 f, l)

          pub first-unresolved : i ≡ None → Ok is_live ≡ first_ranges e (ranges_by ranges table rb nb) (entry_values e s p₀ unit at₀)
          unfolding ranges_live
          first-unresolved u = sym (first-met ∙ rw u)

          first-list : (c : Cursor) → i ≡ Some c → first_ranges e (ranges_by ranges table rb nb) (entry_values e s p₀ unit at₀) ≡ ranges_from e table ranges c.at false
          first-list c u = first-met ∙ ap (ranges_live e table ranges) u ∙ ranges-start e table ranges c

          -- its list decided, at a place of it
          pub first-decided : (c : Cursor) → i ≡ Some c → (place : ℕ) (dead : Bool) → ranges_from e table ranges c.at false ≡ ranges_from e table ranges place dead
              → (x : Result Verdict ℕ) → ranges_from e table ranges place dead ≡ x → x ≡ first_ranges e (ranges_by ranges table rb nb) (entry_values e s p₀ unit at₀)
          first-decided c u place dead j x w = sym (first-list c u ∙ j ∙ w)

-- ---- the root test

module _ (e : Encoding) (g : Ranges) (fixed : Bool) (unit : List ℕ) (tag : ℕ) (l : List Valued) where
  module _ (k : tag ≡ 0x2e) (w : Result Verdict ℕ) (q : w ≡ low_pcs e g.table l) where
    pub subprogram-live : w ≡ Ok is_live → Ok is_live ≡ root_test e g fixed unit tag l
    unfolding root_test pick or_else
    subprogram-live v = rw (eq-eqb tag 0x2e k, sym q ∙ v)

    pub subprogram-refused : (m : ℕ) → w ≡ Err m → Err m ≡ root_test e g fixed unit tag l
    unfolding root_test pick or_else
    subprogram-refused m v = rw (eq-eqb tag 0x2e k, sym q ∙ v)

    pub subprogram-ranges : w ≡ Ok is_dead → (r : Result Verdict ℕ) → r ≡ first_ranges e g l → r ≡ root_test e g fixed unit tag l
    unfolding root_test pick or_else
    subprogram-ranges v r z = z ∙ rw (eq-eqb tag 0x2e k, sym q ∙ v)

  module _ (n : tag ≡ 0x2e → ⊥) where
    pub variable-is : tag ≡ 0x34 → (w : Result Verdict ℕ) → w ≡ locations e fixed g.table unit l → w ≡ root_test e g fixed unit tag l
    unfolding root_test pick
    variable-is k w q = q ∙ rw (ne_eqb tag 0x2e n, eq-eqb tag 0x34 k)

    pub other_tag : (tag ≡ 0x34 → ⊥) → Ok is_dead ≡ root_test e g fixed unit tag l
    unfolding root_test pick
    other_tag k = rw (ne_eqb tag 0x2e n, ne_eqb tag 0x34 k)

-- ---- list bases

module _ (name : ℕ) where
  abbrev base-by : List Valued → ℕ → ℕ
  base-by l b = base_from name b l

  base-out : (a : Valued) (l : List Valued) → (a.name ≡ name → ⊥) → base-by (a ∷ l) ≡ base-by l
  unfolding base_from pick ◌and◌
  base-out a l k = ap (λ (t : Bool). λ (b : ℕ). base_from name (pick (t and eqb a.value.form 0x17) a.value.field.value b) l) (ne_eqb a.name name k)

  base_on : (a : Valued) (l l' : List Valued) → base-by l ≡ base-by l' → base-by (a ∷ l) ≡ base-by (a ∷ l')
  unfolding base_from
  base_on a l l' k = ap (λ (f : ℕ → ℕ). λ (b : ℕ). f (pick (eqb a.name name and eqb a.value.form 0x17) a.value.field.value b)) k

module _ (e : Encoding) (s unit : List ℕ) (name base₀ p₀ at₀ base p at : ℕ)
    (h : base_from name base₀ (entry_values e s p₀ unit at₀) ≡ base_from name base (entry_values e s p unit at))
    (n : Option EntryAttribute) (q : NamedAt e s p unit at name n) where
  pub base-end : n ≡ None → (tag : ℕ) → tag ≡ 0x11 → base ≡ base_after name base₀ tag (entry_values e s p₀ unit at₀)
  unfolding base_from base_after pick
  base-end r tag k =
      sym (h ∙ ap (λ (f : ℕ → ℕ). f base) (attributes-end e s unit p at name n q (base-by name) (base-out name) (base_on name) r)) ∙ rw (eq-eqb tag 0x11 k)

  module _ (x : EntryAttribute) (r : n ≡ Some x) where
    base-turn : (b : ℕ) → pick (eqb x.name name and eqb x.value.form 0x17) x.value.field.value base ≡ b
        → base_from name base₀ (entry_values e s p₀ unit at₀) ≡ base_from name b (entry_values e s x.next.at unit x.values.at)
    unfolding base_from
    base-turn b k =
        h ∙ ap (λ (f : ℕ → ℕ). f base) (attributes-turn e s unit p at name n q (base-by name) (base-out name) (base_on name) x r)
        ∙ ap (λ b. base_from name b (entry_values e s x.next.at unit x.values.at)) k

    named-base : x.name ≡ name
    named-base = (first_is e s unit p at name n q x r).named

    pub base-form : (x.value.form ≡ 0x17 → ⊥)
        → base_from name base₀ (entry_values e s p₀ unit at₀) ≡ base_from name base (entry_values e s x.next.at unit x.values.at)
    unfolding pick ◌and◌
    base-form f = base-turn base (rw (eq-eqb x.name name named-base, ne_eqb x.value.form 0x17 f))

    pub base-met : x.value.form ≡ 0x17
        → base_from name base₀ (entry_values e s p₀ unit at₀)
        ≡ base_from name x.value.field.value (entry_values e s x.next.at unit x.values.at)
    unfolding pick ◌and◌
    base-met f = base-turn x.value.field.value (rw (eq-eqb x.name name named-base, eq-eqb x.value.form 0x17 f))

pub base_kept : (name base tag : ℕ) (l : List Valued) → (tag ≡ 0x11 → ⊥) → base ≡ base_after name base tag l
unfolding base_after pick
base_kept name base tag l k = rw (ne_eqb tag 0x11 k)
