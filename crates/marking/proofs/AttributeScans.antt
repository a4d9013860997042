-- The references of an attribute by its name and form, and of an entry's attributes one after the other. Assumes nothing.
use mathlib.Core.Path.{◌≡◌, refl, ap, sym, ◌∙◌}
use Prim.Native.Nat.{ℕ, ◌-◌, ◌≤◌, ◌<◌}
use native.Mathlib.Omega.{arith}
use mathlib.Core.Bool.{Bool, true, false}
use mathlib.Core.List.{List, [], ◌∷◌, ◌++◌, append-nil}
use lib.ListN.{length, set}
use lib.Dec.{leb}
use borrow.Author.Tests.{eq-eqb, ne_eqb, le-leb, lt-leb}
use Rattle.readers.specs.Choice.{pick, ◌and◌}
use Rattle.readers.specs.Abbreviations.{spec_at}
use Rattle.readers.specs.Entries.{values_at}
use Rattle.readers.specs.Lists.{list_offset, list_start}
use Rattle.std.specs.Prelude.{None, Option, Some, Err, Ok, Result}
use Rattle.readers.specs.declared.cursor.Cursor.{Cursor}
use Rattle.readers.specs.declared.cursor.Encoding.{Encoding}
use Rattle.readers.specs.EntryAttributes.{Valued, entry_values, next_attribute}
use Rattle.readers.specs.Inner.EntryAttributes.{end_by}
use Rattle.marking.specs.EntryReferences.{ReferencesFound, found, refused, after, and_then, expression_found, part_of, list_found, Locations, attribute_found, attributes_found}
use Rattle.readers.specs.declared.entry_attributes.EntryAttribute.{EntryAttribute}
use Rattle.readers.proofs.EntryAttributes.{stepped, stepped-on, ends_on, no_more, stop-end}
use Rattle.marking.specs.ReferenceTable.{next_place, written, table_after, scanned_to, entry_scanned}
use Rattle.marking.specs.Inner.ReferenceTable.{valued_by}
use Rattle.marking.specs.declared.references.EntryScan.{EntryScan}
use Rattle.marking.specs.ReferenceTable.{through}
use Rattle.marking.proofs.Placing.{Put, put-none, put_one, put-size}
use Rattle.marking.proofs.Founds.{Scans, scans-same, scans-none, scans-no, scans-put, scans-refused, Onto, onto, Broken, broken, after_none, after-after}

-- ---- one attribute

and-false : (b : Bool) → (b and false) ≡ false
unfolding ◌and◌
and-false true = refl
and-false false = refl

-- no form of a reference
pub form-below : (form : ℕ) → form < 0x11 → (leb 0x11 form and leb form 0x15) ≡ false
unfolding ◌and◌
form-below form h = rw (lt-leb 0x11 form h)

pub form-above : (form : ℕ) → 0x15 < form → (leb 0x11 form and leb form 0x15) ≡ false
form-above form h = ap (λ b. leb 0x11 form and b) (lt-leb form 0x15 h) ∙ and-false (leb 0x11 form)

module _ (e : Encoding) (l : Locations) (a : Valued) (table : List ℕ) (at : ℕ) where
  pub attribute-sibling : a.name ≡ 0x01 → Scans table at (attribute_found e l a) (Ok at) table
  unfolding attribute_found pick
  attribute-sibling k = scans-none table at (attribute_found e l a) (rw (eq-eqb a.name 0x01 k))

  module _ (k : a.name ≡ 0x01 → ⊥) where
    pub attribute-absolute : a.declared ≡ 0x10 → Scans table at (attribute_found e l a) (Err 7) table
    unfolding attribute_found pick
    attribute-absolute d = scans-no table at (attribute_found e l a) 7 (rw (ne_eqb a.name 0x01 k, eq-eqb a.declared 0x10 d))

    module _ (d : a.declared ≡ 0x10 → ⊥) where
      pub attribute-expression : a.value.form ≡ 0x18 → (part : List ℕ) → part ≡ part_of l.unit a.value.field → (w : Result ℕ ℕ) (table' : List ℕ)
          → Scans table at (expression_found e part) w table' → Scans table at (attribute_found e l a) w table'
      unfolding attribute_found pick
      attribute-expression f part p w table' h =
          let i : attribute_found e l a ≡ expression_found e (part_of l.unit a.value.field) =
          rw (ne_eqb a.name 0x01 k, ne_eqb a.declared 0x10 d, form-above a.value.form (omega arith), eq-eqb a.value.form 0x18 f) in
          scans-same table at (attribute_found e l a) (expression_found e part) (i ∙ ap (expression_found e) (sym p)) w table' h

      pub attribute-reference : 0x11 ≤ a.value.form → a.value.form ≤ 0x15 → (to : ℕ) (table' : List ℕ)
          → (to ≡ next_place (length table) at) × (table' ≡ set table at a.value.field.value) → Scans table at (attribute_found e l a) (Ok to) table'
      unfolding attribute_found pick ◌and◌
      attribute-reference lo hi to table' h =
          scans-put table at (attribute_found e l a) (a.value.field.value ∷ []) table' to
          (rw (ne_eqb a.name 0x01 k, ne_eqb a.declared 0x10 d, le-leb 0x11 a.value.form lo, le-leb a.value.form 0x15 hi))
          (put_one table at [] table at (put-none table at) a.value.field.value table' to h.0 h.1)

      module _ (f : a.value.form ≡ 0x18 → ⊥) (o : (leb 0x11 a.value.form and leb a.value.form 0x15) ≡ false) where
        pub attribute-other : (a.name ≡ 0x02 → ⊥) → Scans table at (attribute_found e l a) (Ok at) table
        unfolding attribute_found pick
        attribute-other n =
            scans-none table at (attribute_found e l a)
            (rw (ne_eqb a.name 0x01 k, ne_eqb a.declared 0x10 d, o, ne_eqb a.value.form 0x18 f, ne_eqb a.name 0x02 n))

        module _ (n : a.name ≡ 0x02) where
          module _ (start : Option Cursor) (w : Result ℕ ℕ) (table' : List ℕ) (h : Scans table at (list_found e l.locations start) w table') where
            pub attribute-index : a.value.form ≡ 0x22 → start ≡ list_offset e l.locations l.loclists_base a.value.field.value → Scans table at (attribute_found e l a) w table'
            unfolding attribute_found pick
            attribute-index g p =
                let i : attribute_found e l a ≡ list_found e l.locations (list_offset e l.locations l.loclists_base a.value.field.value) =
                rw (ne_eqb a.name 0x01 k, ne_eqb a.declared 0x10 d, o, ne_eqb a.value.form 0x18 f, eq-eqb a.name 0x02 n, eq-eqb a.value.form 0x22 g) in
                scans-same table at (attribute_found e l a) (list_found e l.locations start) (i ∙ ap (list_found e l.locations) (sym p)) w table' h

            pub attribute-offset : (a.value.form ≡ 0x22 → ⊥) → a.value.form ≡ 0x17 → start ≡ list_start l.locations a.value.field.value
                → Scans table at (attribute_found e l a) w table'
            unfolding attribute_found pick
            attribute-offset g g' p =
                let i : attribute_found e l a ≡ list_found e l.locations (list_start l.locations a.value.field.value) =
                rw (
                  ne_eqb a.name 0x01 k,
                  ne_eqb a.declared 0x10 d,
                  o,
                  ne_eqb a.value.form 0x18 f,
                  eq-eqb a.name 0x02 n,
                  ne_eqb a.value.form 0x22 g,
                  eq-eqb a.value.form 0x17 g',
                ) in
                scans-same table at (attribute_found e l a) (list_found e l.locations start) (i ∙ ap (list_found e l.locations) (sym p)) w table' h

          pub attribute-plain : (a.value.form ≡ 0x22 → ⊥) → (a.value.form ≡ 0x17 → ⊥) → Scans table at (attribute_found e l a) (Ok at) table
          unfolding attribute_found pick
          attribute-plain g g' =
              scans-none table at (attribute_found e l a)
              (rw (
                ne_eqb a.name 0x01 k,
                ne_eqb a.declared 0x10 d,
                o,
                ne_eqb a.value.form 0x18 f,
                eq-eqb a.name 0x02 n,
                ne_eqb a.value.form 0x22 g,
                ne_eqb a.value.form 0x17 g',
              ))

-- ---- the loop over the attributes: what is in the table, and what is found from here on

-- a scan whose values end there
abbrev EntryScans : List ℕ → ℕ → ReferencesFound → Option Cursor → Result EntryScan ℕ → List ℕ → Type 0
EntryScans table at f end w table' = (w ≡ entry_scanned (scanned_to (length table) at f) end) × (table' ≡ table_after table at f)

pub record Scanning (e : Encoding) (l : Locations) (s table₀ : List ℕ) (p₀ from₀ at : ℕ) (table : List ℕ) (p from to : ℕ) : Type 0 where
  pub sofar : List ℕ
  pub put : Put table₀ at sofar table to
  pub whole : attributes_found e l (entry_values e s p₀ l.unit from₀) ≡ after sofar (attributes_found e l (entry_values e s p l.unit from))
  pub ends : values_at e s p₀ l.unit from₀ ≡ values_at e s p l.unit from

module _ (e : Encoding) (l : Locations) (s table₀ : List ℕ) (p₀ from₀ at : ℕ) where
  abbrev all : ReferencesFound
  all = attributes_found e l (entry_values e s p₀ l.unit from₀)

  abbrev past : Option Cursor
  past = values_at e s p₀ l.unit from₀

  pub scanning-start : Scanning e l s table₀ p₀ from₀ at table₀ p₀ from₀ at
  scanning-start = record { sofar = []; put = put-none table₀ at; whole = sym (after_none all); ends = refl }

  module _ (table : List ℕ) (p from to : ℕ) (h : Scanning e l s table₀ p₀ from₀ at table p from to) where
    pub scanning-size : length table ≡ length table₀
    scanning-size = put-size table₀ at h.sofar table to h.put

    module _ (n : Option EntryAttribute) (q : n ≡ next_attribute e s p l.unit from) where
      scanned-all : n ≡ None → Scans table₀ at all (Ok to) table
      unfolding after attributes_found
      scanned-all r =
          scans-put table₀ at all h.sofar table to
          (h.whole
          ∙ ap (λ v. after h.sofar (attributes_found e l v)) (no_more e s p l.unit from (sym q ∙ r))
          ∙ ap found (append-nil h.sofar))
          h.put

      pub scanning-end : n ≡ None → (end : Option Cursor) → end ≡ end_by from (spec_at s p) → EntryScans table₀ at all past (through to end) table
      unfolding entry_scanned
      scanning-end r end k = (
        ap (through to) (k ∙ stop-end e s p l.unit from (sym q ∙ r) ∙ sym h.ends) ∙ ap (λ w. entry_scanned w past) (scanned-all r).0,
        (scanned-all r).1,
      )

      module _ (x : EntryAttribute) (r : n ≡ Some x) where
        pub scanning-less : length s - x.next.at < length s - p
        scanning-less = omega (arith, (stepped e s p l.unit from x (sym q ∙ r)).ahead, (stepped e s p l.unit from x (sym q ∙ r)).inside)

        abbrev rest : ReferencesFound
        rest = attributes_found e l (entry_values e s x.next.at l.unit x.values.at)

        whole-turn : (f : ReferencesFound) → attribute_found e l (valued_by x) ≡ f → all ≡ after h.sofar (and_then f rest)
        unfolding attributes_found
        whole-turn f k =
            h.whole
            ∙ ap (λ v. after h.sofar (attributes_found e l v)) (stepped-on e s p l.unit from x (sym q ∙ r))
            ∙ ap (λ g. after h.sofar (and_then g rest)) k

        module _ (w : Result ℕ ℕ) (table' : List ℕ) (k : Scans table to (attribute_found e l (valued_by x)) w table') where
          refused_all : (m : ℕ) → w ≡ Err m → Scans table₀ at all (Err m) table'
          unfolding Broken and_then after
          refused_all m g =
              let b : (ys : List ℕ) × (attribute_found e l (valued_by x) ≡ refused ys m) × (table' ≡ written table₀ at (h.sofar ++ ys)) =
              broken table₀ at h.sofar table to h.put w table' (attribute_found e l (valued_by x)) k m g in
              scans-refused table₀ at all (h.sofar ++ b.0) table' m (whole-turn (refused b.0 m) b.1) b.2

          pub scanning-refused : (m : ℕ) → w ≡ Err m → EntryScans table₀ at all past (Err m) table'
          unfolding entry_scanned
          scanning-refused m g = (ap (λ w. entry_scanned w past) (refused_all m g).0, (refused_all m g).1)

          pub scanning-on : (to' : ℕ) → w ≡ Ok to' → Scanning e l s table₀ p₀ from₀ at table' x.next.at x.values.at to'
          unfolding Onto and_then
          scanning-on to' g =
              let b : (ys : List ℕ) × (attribute_found e l (valued_by x) ≡ found ys) × Put table₀ at (h.sofar ++ ys) table' to' =
              onto table₀ at h.sofar table to h.put w table' (attribute_found e l (valued_by x)) k to' g in
              record {
                sofar = h.sofar ++ b.0;
                put = b.2;
                whole = whole-turn (found b.0) b.1 ∙ after-after h.sofar b.0 rest;
                ends = h.ends ∙ ends_on e s p l.unit from x (sym q ∙ r);
              }
