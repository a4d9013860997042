-- Tombstones and the address table, by the tests that were made. Assumes nothing.
use Rattle.marking.specs.declared.addresses.Verdict.{Verdict}
use Rattle.marking.specs.Roots.{on_lookup}
use mathlib.Core.Path.{◌≡◌, refl}
use Prim.Native.Nat.{ℕ, ◌≤◌, ◌<◌}
use native.Mathlib.Omega.{arith}
use mathlib.Core.Bool.{false}
use mathlib.Core.List.{List}
use lib.ListN.{length, get_or}
use lib.Dec.{eqb}
use borrow.Author.Tests.{lt-ltb, le-ltb, eq-eqb, ne_eqb}
use Rattle.readers.specs.Choice.{pick}
use Rattle.marking.specs.Addresses.{is_tombstone, byte_liveness, lookup_at}
use Rattle.std.specs.Prelude.{Ok, Err, Result}
use Rattle.marking.specs.declared.addresses.Verdict.TheVariants.{Dead, Live}

-- no address of another size is a tombstone
pub other-size : (address size : ℕ) → (size ≡ 4 → ⊥) → (size ≡ 8 → ⊥) → false ≡ is_tombstone address size
unfolding is_tombstone pick
other-size address size n m = rw (ne_eqb size 4 n, ne_eqb size 8 m)

module _ (table : List ℕ) (index : ℕ) where
  pub no_table : length table ≡ 0 → Ok Live ≡ lookup_at table index
  unfolding lookup_at pick
  no_table z = rw (eq-eqb (length table) 0 z)

  pub past-table : (length table ≡ 0 → ⊥) → length table ≤ index → Err 17 ≡ lookup_at table index
  unfolding lookup_at pick
  past-table n h = rw (ne_eqb (length table) 0 n, le-ltb index (length table) h)

  module _ (h : index < length table) where
    some-table : eqb (length table) 0 ≡ false
    some-table = ne_eqb (length table) 0 (λ z. omega arith)

    pub byte-zero : get_or table index 0 ≡ 0 → Ok Dead ≡ lookup_at table index
    unfolding lookup_at byte_liveness pick
    byte-zero z = rw (some-table, lt-ltb index (length table) h, eq-eqb (get_or table index 0) 0 z)

    pub byte_one : (get_or table index 0 ≡ 0 → ⊥) → get_or table index 0 ≡ 1 → Ok Live ≡ lookup_at table index
    unfolding lookup_at byte_liveness pick
    byte_one z o =
        rw (some-table, lt-ltb index (length table) h, ne_eqb (get_or table index 0) 0 z, eq-eqb (get_or table index 0) 1 o)

    pub byte-other : (get_or table index 0 ≡ 0 → ⊥) → (get_or table index 0 ≡ 1 → ⊥) → Err 6 ≡ lookup_at table index
    unfolding lookup_at byte_liveness pick
    byte-other z o =
        rw (some-table, lt-ltb index (length table) h, ne_eqb (get_or table index 0) 0 z, ne_eqb (get_or table index 0) 1 o)

-- what is looked up is its own verdict
pub looked : (l : Result Verdict ℕ) → on_lookup l (λ r. r) (Ok Live) (Ok Dead) ≡ l
unfolding on_lookup
looked (Ok Live) = refl
looked (Ok Dead) = refl
looked (Err n) = refl
