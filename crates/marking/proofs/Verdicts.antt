-- What an entry of a range list does, and what a low_pc says, by the tests that were made. Assumes nothing.
use mathlib.Core.Path.{◌≡◌, sym, ◌∙◌}
use Prim.Native.Nat.{ℕ, ◌≤◌, ◌<◌}
use mathlib.Core.Bool.{Bool, true, false}
use mathlib.Core.List.{List}
use lib.Dec.{leb, eqb}
use borrow.Author.Tests.{le-leb, lt-leb, eq-eqb, ne_eqb}
use Rattle.readers.specs.Choice.{pick, ◌and◌, ◌or◌}
use Rattle.readers.specs.declared.cursor.Encoding.{Encoding}
use Rattle.readers.specs.declared.attributes.Attribute.{Attribute}
use Rattle.readers.specs.declared.operations.ListEntry.{ListEntry}
use Rattle.marking.specs.Addresses.{is_tombstone, lookup_at}
use Rattle.marking.specs.Roots.{on_lookup, turn_of, range_entry, low_pc}
use Rattle.std.specs.Prelude.{Ok, Result, Err}
use Rattle.marking.specs.declared.addresses.Verdict.{Verdict}
use Rattle.marking.specs.declared.root_test.RangeTurn.TheVariants.{On, Decided}
use Rattle.marking.specs.declared.addresses.Verdict.TheVariants.{Live as is_live, Dead as is_dead}

-- ---- an entry of a range list

module _ (e : Encoding) (table : List ℕ) (dead : Bool) (x : ListEntry) where
  module _ (l : Result Verdict ℕ) (q : l ≡ lookup_at table x.first.value) where
    module _ (k : x.kind ≡ 1) where
      pub base_live : l ≡ Ok is_live → Ok (On false) ≡ turn_of (range_entry e table dead x)
      unfolding range_entry turn_of pick on_lookup
      base_live v = rw (eq-eqb x.kind 1 k, sym q ∙ v)

      pub base-dead : l ≡ Ok is_dead → Ok (On true) ≡ turn_of (range_entry e table dead x)
      unfolding range_entry turn_of pick on_lookup
      base-dead v = rw (eq-eqb x.kind 1 k, sym q ∙ v)

      pub base-fails : (n : ℕ) → l ≡ Err n → Err n ≡ turn_of (range_entry e table dead x)
      unfolding range_entry turn_of pick on_lookup
      base-fails n v = rw (eq-eqb x.kind 1 k, sym q ∙ v)

    module _ (k : x.kind ≡ 1 → ⊥) (h : x.kind ≤ 3) where
      pub start-live : l ≡ Ok is_live → Ok (Decided is_live) ≡ turn_of (range_entry e table dead x)
      unfolding range_entry turn_of pick on_lookup
      start-live v = rw (ne_eqb x.kind 1 k, le-leb x.kind 3 h, sym q ∙ v)

      pub start-dead : l ≡ Ok is_dead → Ok (On dead) ≡ turn_of (range_entry e table dead x)
      unfolding range_entry turn_of pick on_lookup
      start-dead v = rw (ne_eqb x.kind 1 k, le-leb x.kind 3 h, sym q ∙ v)

      pub start-fails : (n : ℕ) → l ≡ Err n → Err n ≡ turn_of (range_entry e table dead x)
      unfolding range_entry turn_of pick on_lookup
      start-fails n v = rw (ne_eqb x.kind 1 k, le-leb x.kind 3 h, sym q ∙ v)

  module _ (k : x.kind ≡ 1 → ⊥) (h : 3 < x.kind) where
    pub pair-dead : x.kind ≡ 4 → dead ≡ true → Ok (On dead) ≡ turn_of (range_entry e table dead x)
    unfolding range_entry turn_of pick
    pair-dead f d = rw (ne_eqb x.kind 1 k, lt-leb x.kind 3 h, eq-eqb x.kind 4 f, d)

    pub pair-live : x.kind ≡ 4 → dead ≡ false → Ok (Decided is_live) ≡ turn_of (range_entry e table dead x)
    unfolding range_entry turn_of pick
    pair-live f d = rw (ne_eqb x.kind 1 k, lt-leb x.kind 3 h, eq-eqb x.kind 4 f, d)

    module _ (f : x.kind ≡ 4 → ⊥) (b : Bool) (q : b ≡ is_tombstone x.first.value e.address_size) where
      pub base-address : x.kind ≡ 5 → Ok (On b) ≡ turn_of (range_entry e table dead x)
      unfolding range_entry turn_of pick
      base-address g = rw (ne_eqb x.kind 1 k, lt-leb x.kind 3 h, ne_eqb x.kind 4 f, eq-eqb x.kind 5 g, q)

      pub left_out : (x.kind ≡ 5 → ⊥) → b ≡ true → Ok (On dead) ≡ turn_of (range_entry e table dead x)
      unfolding range_entry turn_of pick
      left_out g t = rw (ne_eqb x.kind 1 k, lt-leb x.kind 3 h, ne_eqb x.kind 4 f, ne_eqb x.kind 5 g, sym q ∙ t)

      pub kept : (x.kind ≡ 5 → ⊥) → b ≡ false → Ok (Decided is_live) ≡ turn_of (range_entry e table dead x)
      unfolding range_entry turn_of pick
      kept g t = rw (ne_eqb x.kind 1 k, lt-leb x.kind 3 h, ne_eqb x.kind 4 f, ne_eqb x.kind 5 g, sym q ∙ t)

-- ---- a low_pc

module _ (e : Encoding) (table : List ℕ) (v : Attribute) where
  abbrev pub indexed : Bool
  indexed = eqb v.form 0x1b or (leb 0x29 v.form and leb v.form 0x2c) or eqb v.form 0x1f01

  is_one : v.form ≡ 1 → indexed ≡ false
  unfolding ◌or◌ ◌and◌
  is_one k = rw k

  module _ (b : Bool) (q : b ≡ is_tombstone v.field.value e.address_size) (k : v.form ≡ 1) where
    pub address-dead : b ≡ true → Ok is_dead ≡ low_pc e table v
    unfolding low_pc pick
    address-dead t = rw (is_one k, eq-eqb v.form 1 k, sym q ∙ t)

    pub address-live : b ≡ false → Ok is_live ≡ low_pc e table v
    unfolding low_pc pick
    address-live t = rw (is_one k, eq-eqb v.form 1 k, sym q ∙ t)

  module _ (l : Result Verdict ℕ) (q : l ≡ lookup_at table v.field.value) (i : indexed ≡ true) where
    pub index_live : l ≡ Ok is_live → Ok is_live ≡ low_pc e table v
    unfolding low_pc pick on_lookup
    index_live t = rw (i, sym q ∙ t)

    pub index-fails : (n : ℕ) → l ≡ Err n → Err n ≡ low_pc e table v
    unfolding low_pc pick on_lookup
    index-fails n t = rw (i, sym q ∙ t)
