-- The loops of the index lists, one turn at a time. Assumes nothing.
use mathlib.Core.Path.{◌≡◌, ap, sym, ◌∙◌}
use Prim.Native.Nat.{ℕ, ◌-◌, ◌<◌}
use native.Mathlib.Omega.{arith}
use mathlib.Core.Bool.{Bool, true, false}
use mathlib.Core.List.{List, [], ◌++◌}
use lib.ListN.{length}
use lib.Dec.{ltb, eqb}
use borrow.Author.Tests.{eq-eqb, ne_eqb}
use Rattle.readers.specs.Choice.{pick, ◌and◌, ◌or◌}
use Rattle.readers.specs.Forms.{use_of}
use Rattle.readers.specs.Abbreviations.{find_at}
use Rattle.readers.specs.Entries.{step_at}
use Rattle.readers.specs.Stream.{Item, entry}
use Rattle.readers.proofs.Streams.{EntryInside, step-inside, terminator-inside}
use Rattle.readers.specs.declared.cursor.Encoding.{Encoding}
use Rattle.readers.specs.declared.cursor.Cursor.{Cursor}
use Rattle.std.specs.Prelude.{None, Option, Some}
use Rattle.readers.specs.declared.abbreviations.Declaration.{Declaration}
use Rattle.readers.specs.declared.entries.Step.{Step}
use Rattle.readers.specs.declared.entries.Entry.{Entry}
use Rattle.readers.specs.declared.entries.Step.TheVariants.{Entry as Entry', Terminator, End as StepEnd}
use Rattle.readers.specs.EntryAttributes.{entry_values, next_attribute}
use Rattle.readers.specs.declared.entry_attributes.EntryAttribute.{EntryAttribute}
use Rattle.readers.proofs.EntryAttributes.{stepped, stepped-on, no_more}
use Rattle.marking.specs.Analysis.{Sections, values_of_entry}
use Rattle.rewriting.specs.Indices.{declares, is_short}
use Rattle.rewriting.specs.Rewriting.{Unit as Unit', item_declares, any_declares}
use Rattle.rewriting.specs.Inner.NextKept.{items_by}
use Rattle.rewriting.specs.Inner.IndexLists.{form_list, kind_index, value_index, value_indices, ReadAs, is_absent}
use Rattle.readers.specs.Inner.Forms.{use_list}
use Rattle.rewriting.specs.declared.kept_items.Reading.{Reading}
use Rattle.rewriting.proofs.KeptPass.KeptSteps.{items-entry, items-terminator, items-end, items-bad}

-- ---- a list that is too short

pub short-present : (c : Option ℕ) (n room : ℕ) → c ≡ Some n → ltb room n ≡ is_short c room
unfolding is_short
short-present c n room q = sym (ap (λ (c : Option ℕ). is_short c room) q)

pub short-absent : (c : Option ℕ) (room : ℕ) → c ≡ None → false ≡ is_short c room
unfolding is_short
short-absent c room q = sym (ap (λ (c : Option ℕ). is_short c room) q)

-- ---- one list

module _ (x : Sections) (u : Unit') (name : ℕ) (items : List Item) where
  -- with no name of an attribute, and with one
  pub absent-plain : name ≡ 0 → is_absent x u name items ≡ false
  unfolding is_absent pick
  absent-plain h = ap (λ (b : Bool). pick b false (any_declares x u name items)) (eq-eqb name 0 h)

  pub absent-named : (name ≡ 0 → ⊥) → is_absent x u name items ≡ any_declares x u name items
  unfolding is_absent pick
  absent-named h = ap (λ (b : Bool). pick b false (any_declares x u name items)) (ne_eqb name 0 h)

-- ---- whether an entry declares

module _ (e : Encoding) (s unit : List ℕ) (p at : ℕ) (n : Option EntryAttribute) (q : n ≡ next_attribute e s p unit at) where
  pub attributes-less : (x : EntryAttribute) → n ≡ Some x → length s - x.next.at < length s - p
  attributes-less x r = omega (arith, (stepped e s p unit at x (sym q ∙ r)).ahead, (stepped e s p unit at x (sym q ∙ r)).inside)

  module _ (name p₀ at₀ : ℕ) (h : declares name (entry_values e s p₀ unit at₀) ≡ declares name (entry_values e s p unit at)) where
    pub declares-end : n ≡ None → false ≡ declares name (entry_values e s p₀ unit at₀)
    unfolding declares
    declares-end r = sym (h ∙ ap (declares name) (no_more e s p unit at (sym q ∙ r)))

    module _ (x : EntryAttribute) (r : n ≡ Some x) where
      declares-turn : declares name (entry_values e s p₀ unit at₀)
          ≡ (eqb x.name name and eqb x.declared 0x17) or declares name (entry_values e s x.next.at unit x.values.at)
      unfolding declares
      declares-turn = h ∙ ap (declares name) (stepped-on e s p unit at x (sym q ∙ r))

      pub declares-yes : x.name ≡ name → x.declared ≡ 0x17 → true ≡ declares name (entry_values e s p₀ unit at₀)
      unfolding ◌and◌ ◌or◌
      declares-yes k l = sym (declares-turn ∙ rw (eq-eqb x.name name k, eq-eqb x.declared 0x17 l))

      pub declares-form : x.name ≡ name → (x.declared ≡ 0x17 → ⊥)
          → declares name (entry_values e s p₀ unit at₀) ≡ declares name (entry_values e s x.next.at unit x.values.at)
      unfolding ◌and◌ ◌or◌
      declares-form k l = declares-turn ∙ rw (eq-eqb x.name name k, ne_eqb x.declared 0x17 l)

      pub declares-name : (x.name ≡ name → ⊥)
          → declares name (entry_values e s p₀ unit at₀) ≡ declares name (entry_values e s x.next.at unit x.values.at)
      unfolding ◌and◌ ◌or◌
      declares-name k = declares-turn ∙ rw (ne_eqb x.name name k)

-- ---- whether any entry does

module _ (r : Reading) (s table unit : List ℕ) (name : ℕ) where
  abbrev look : ℕ → Option Declaration
  look = find_at s r.from table

  -- from one place on as from another
  abbrev pub SameFrom : ℕ → ℕ → Type 0
  SameFrom a b = (x : Sections) (u : Unit') → ReadAs x u r s unit → any_declares x u name (items_by r s table unit a) ≡ any_declares x u name (items_by r s table unit b)

  pub item-declares : (x : Sections) (u : Unit') → ReadAs x u r s unit → (y : Entry)
      → item_declares x u name (entry y) ≡ declares name (entry_values r.encoding s y.declaration.attributes.at unit y.values.at)
  unfolding item_declares values_of_entry
  item-declares x u w y =
      ap (λ (e : Encoding). declares name (entry_values e x.abbreviations y.declaration.attributes.at u.bytes y.values.at)) w.encoding_is
      ∙ ap (λ (l : List ℕ). declares name (entry_values r.encoding l y.declaration.attributes.at u.bytes y.values.at)) w.abbreviations_are
      ∙ ap (λ (l : List ℕ). declares name (entry_values r.encoding s y.declaration.attributes.at l y.values.at)) w.bytes_are

  module _ (at₀ at : ℕ) (h : SameFrom at₀ at) (o : Option Step) (q : o ≡ step_at r.encoding s look unit at) where
    pub any-end : o ≡ Some StepEnd → (x : Sections) (u : Unit') → ReadAs x u r s unit → false ≡ any_declares x u name (items_by r s table unit at₀)
    unfolding any_declares
    any-end k x u w = sym (h x u w ∙ ap (any_declares x u name) (items-end r.encoding s look unit at (sym q ∙ k)))

    pub any-bad : o ≡ None → (x : Sections) (u : Unit') → ReadAs x u r s unit → false ≡ any_declares x u name (items_by r s table unit at₀)
    unfolding any_declares
    any-bad k x u w = sym (h x u w ∙ ap (any_declares x u name) (items-bad r.encoding s look unit at (sym q ∙ k)))

    module _ (c : Cursor) (k : o ≡ Some (Terminator c)) where
      pub any-terminator-less : length unit - c.at < length unit - at
      any-terminator-less = let i = terminator-inside r.encoding s look unit at c (sym q ∙ k) in omega (arith, i.0, i.1)

      pub any-terminator : SameFrom at₀ c.at
      unfolding any_declares item_declares ◌or◌
      any-terminator x u w = h x u w ∙ ap (any_declares x u name) (items-terminator r.encoding s look unit at c (sym q ∙ k))

    module _ (y : Entry) (k : o ≡ Some (Entry' y)) where
      pub any-entry-less : length unit - y.next.at < length unit - at
      any-entry-less = let i : EntryInside unit at y = step-inside r.encoding s look unit at y (sym q ∙ k) in omega (arith, i.coded, i.ahead, i.within)

      module _ (b : Bool) (d : b ≡ declares name (entry_values r.encoding s y.declaration.attributes.at unit y.values.at)) where
        any-turn : (x : Sections) (u : Unit') → ReadAs x u r s unit → any_declares x u name (items_by r s table unit at₀) ≡ b or any_declares x u name (items_by r s table unit y.next.at)
        unfolding any_declares
        any-turn x u w =
            h x u w
            ∙ ap (any_declares x u name) (items-entry r.encoding s look unit at y (sym q ∙ k))
            ∙ ap (λ (b : Bool). b or any_declares x u name (items_by r s table unit y.next.at)) (item-declares x u w y ∙ sym d)

        pub any-yes : b ≡ true → (x : Sections) (u : Unit') → ReadAs x u r s unit → true ≡ any_declares x u name (items_by r s table unit at₀)
        unfolding ◌or◌
        any-yes t x u w = sym (any-turn x u w ∙ ap (λ (b : Bool). b or any_declares x u name (items_by r s table unit y.next.at)) t)

        pub any-no : b ≡ false → SameFrom at₀ y.next.at
        unfolding ◌or◌
        any-no t x u w = any-turn x u w ∙ ap (λ (b : Bool). b or any_declares x u name (items_by r s table unit y.next.at)) t

-- ---- the indices of an entry

module _ (k : ℕ) (e : Encoding) (s unit : List ℕ) where
  -- what is to be put from a specification and a value on
  abbrev pub Indices : ℕ → ℕ → List ℕ
  Indices p at = value_indices k (entry_values e s p unit at)

  module _ (p at : ℕ) (n : Option EntryAttribute) (q : n ≡ next_attribute e s p unit at) where
    pub indices-end : n ≡ None → Indices p at ≡ []
    unfolding value_indices
    indices-end r = ap (value_indices k) (no_more e s p unit at (sym q ∙ r))

    pub indices-more : (x : EntryAttribute) → n ≡ Some x → (i : ℕ) → ((name : ℕ) → i ≡ use_list (use_of name x.value.form))
        → Indices p at ≡ kind_index k i x.value.field.value ++ Indices x.next.at x.values.at
    unfolding value_indices value_index form_list
    indices-more x r i l =
        ap (value_indices k) (stepped-on e s p unit at x (sym q ∙ r))
        ∙ ap (λ (j : ℕ). kind_index k j x.value.field.value ++ Indices x.next.at x.values.at) (sym (l 0))
