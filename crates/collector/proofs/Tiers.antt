-- What a call leaves with shorter tables is what it leaves with its longest, where none is full. Assumes nothing.
use mathlib.Core.Path.{◌≡◌, ap, subst, ◌∙◌}
use Prim.Native.Nat.{ℕ, ◌≤◌}
use native.Mathlib.Omega.{arith}
use mathlib.Core.Bool.{true, false}
use mathlib.Core.List.{List}
use mathlib.Core.Logic.{⊎_elim}
use lib.Dec.{eqb}
use borrow.Author.Tests.{eq-eqb, ne_eqb}
use Rattle.readers.specs.Choice.{pick, ◌or◌}
use Rattle.marking.specs.Analysis.{Rooms, sections}
use Rattle.marking.specs.Columns.{least, rooms_of, unit_rooms}
use Rattle.marking.specs.KeepList.{keep_in}
use Rattle.rewriting.specs.Rewriting.{Collected, refused}
use Rattle.rewriting.specs.Outputs.{room_by, answer_for}
use Rattle.collector.specs.Call.{number_for, is_yes, setting_of}
use Rattle.collector.specs.Inner.Tiers.{Left, is_full, made_of}
use Rattle.collector.specs.declared.own_tables.Inputs.{Inputs}
use Rattle.collector.proofs.LargerTables.{OrFull, larger-tables}

-- ---- numbers

pub ten-full : (k : ℕ) → k ≡ 10 → eqb k 10 ≡ is_full k
unfolding is_full ◌or◌
ten-full k q = rw (eq-eqb k 10 q)

pub others-full : (k : ℕ) → (k ≡ 10 → ⊥) → eqb k 11 ≡ is_full k
unfolding is_full ◌or◌
others-full k q = rw (ne_eqb k 10 q)

module _ (r k : ℕ) (c : Collected) (number : r ≡ number_for k (answer_for c)) (other : is_full r ≡ false) where
  not-entries : c ≡ refused 10 → ⊥
  unfolding number_for answer_for is_full ◌or◌
  not-entries e =
      let f : is_full r ≡ true = ap is_full (number ∙ ap (λ (d : Collected). number_for k (answer_for d)) e) in
      let z : ◌≡◌ {A = ℕ} 0 1 = cc in absurd (omega arith)

  not-references : c ≡ refused 11 → ⊥
  unfolding number_for answer_for is_full ◌or◌
  not-references e =
      let f : is_full r ≡ true = ap is_full (number ∙ ap (λ (d : Collected). number_for k (answer_for d)) e) in
      let z : ◌≡◌ {A = ℕ} 0 1 = cc in absurd (omega arith)

  not_full : (d : Collected) → OrFull c d → c ≡ d
  not_full d h = ⊎_elim (λ e. e) (λ f. ⊎_elim (λ e. absurd (not-entries e)) (λ e. absurd (not-references e)) f) h

-- ---- what is left

abbrev own : Rooms
own = unit_rooms 2048 16384 2048 2048 2048 2048 8192

module _ (inputs : Inputs) (r : ℕ) (counts' map' ranges' locations' strings' out' : List ℕ) where
  abbrev LeftBy : Rooms → ℕ → ℕ → ℕ → ℕ → ℕ → ℕ → Type 0
  LeftBy t k m a b s o = Left (made_of inputs (room_by t m a b s o)) r k counts' m map' a ranges' b locations' s strings' o out'

  module _ (k m a b s o : ℕ) where
    -- a tier that is not full
    pub left-larger : (t : Rooms) → t.entries ≤ 2048 → t.references ≤ 8192 → LeftBy t k m a b s o → is_full r ≡ false → LeftBy own k m a b s o
    unfolding unit_rooms rooms_of least pick
    left-larger t h g l f =
        let x = sections inputs.abbreviations.now inputs.locations.now inputs.ranges.now inputs.addresses.now inputs.debug_ranges.now
        (keep_in inputs.tags.now inputs.treatments.now) (setting_of inputs.ranges_base inputs.big_endian inputs.fixed_addresses) in
        subst (λ (c : Collected). Left c r k counts' m map' a ranges' b locations' s strings' o out')
        (not_full r k (made_of inputs (room_by t m a b s o)) l.number_left f (made_of inputs (room_by own m a b s o))
        (larger-tables x t own (omega arith) (omega arith) m a b s o (is_yes inputs.type_units) inputs.section.now))
        l
