-- What holds of the items from any place on: by what a step there is, and what holds from its end on. Assumes nothing.
use mathlib.Core.Path.{◌≡◌, refl, sym, ◌∙◌, subst}
use Prim.Native.Nat.{ℕ, zero, suc, ◌+◌, ◌≤◌, ◌<◌}
use native.Mathlib.Omega.{arith}
use mathlib.Core.Bool.{true, false}
use mathlib.Core.List.{List, []}
use mathlib.Core.Logic.{⊎_elim}
use lib.ListN.{length}
use lib.Dec.{ltb, eqb}
use mir.Facts.{ltb_yes, ltb_no}
use Rattle.readers.proofs.Choice.{pick-either, either}
use Rattle.readers.specs.Numbers.{uleb}
use Rattle.readers.specs.Cursors.{leb_at}
use Rattle.readers.specs.Entries.{values_at, step_at}
use Rattle.readers.proofs.Values.{entry_step, found_step, code_step, step_by}
use Rattle.readers.specs.declared.cursor.Encoding.{Encoding}
use Rattle.readers.specs.declared.cursor.Cursor.{Cursor}
use Rattle.std.specs.Prelude.{None, Option, Some}
use Rattle.readers.specs.declared.entries.Step.{Step}
use Rattle.readers.specs.declared.abbreviations.Declaration.{Declaration}
use Rattle.readers.specs.declared.entries.Entry.{Entry}
use Rattle.readers.specs.declared.entries.Step.TheVariants.{Entry as Entry', Terminator, End}
use Rattle.readers.specs.Stream.{entry, terminator, Items, push, on_step, items_from}
use Rattle.readers.proofs.Streams.{EntryInside, step-inside, terminator-inside, items-step}

-- ---- a step is the end only at the unit's end

unfoldable Within : Option Step → Type 0
Within (Some (Entry' x)) = Unit {0}
Within (Some (Terminator c)) = Unit {0}
Within (Some End) = ⊥
Within None = Unit {0}

module _ (e : Encoding) (abbreviations : List ℕ) (look : ℕ → Option Declaration) (unit : List ℕ) where
  module _ (at : ℕ) where
    values-within : (values : Cursor) (d : Declaration) (m : Option Cursor) → Within (entry_step e abbreviations look unit at values d m)
    unfolding entry_step Within
    values-within values d (Some next) = tt
    values-within values d None = tt

    found_within : (values : Cursor) (f : Option Declaration) → Within (found_step e abbreviations look unit at values f)
    unfolding found_step Within
    found_within values (Some d) = values-within values d (values_at e abbreviations d.attributes.at unit values.at)
    found_within values None = tt

    code-within : (n : Option (ℕ × Cursor)) → Within (code_step e abbreviations look unit at n)
    unfolding code_step Within
    code-within (Some (code, values)) =
        pick-either Within (eqb code 0) (Some (Terminator values)) (found_step e abbreviations look unit at values (look code)) (λ t. tt) (λ t. found_within values (look code))
    code-within None = tt

    not_end : at < length unit → step_at e abbreviations look unit at ≡ Some End → ⊥
    unfolding Within
    not_end h q = subst Within (sym (step_by e abbreviations look unit at h) ∙ q) (code-within (leb_at uleb unit at))

    pub end-there : step_at e abbreviations look unit at ≡ Some End → length unit ≤ at
    end-there q =
        ⊎_elim (λ t. absurd (not_end (ltb_yes {a = at} {b = length unit} t) q)) (λ t. ltb_no {a = at} {b = length unit} t) (either (ltb at (length unit)))

  -- ---- from any place on

  abbrev from : ℕ → Items
  from = items_from e abbreviations look unit

  module _ (P : ℕ → Items → Type 0)
      (on-entry : (at : ℕ) (x : Entry) → step_at e abbreviations look unit at ≡ Some (Entry' x) → EntryInside unit at x → P x.next.at (from x.next.at)
      → P at (push (entry x) (from x.next.at)))
      (on-terminator : (at : ℕ) (c : Cursor) → step_at e abbreviations look unit at ≡ Some (Terminator c) → at < c.at → c.at ≤ length unit → P c.at (from c.at)
      → P at (push (terminator at c.at) (from c.at)))
      (on-end : (at : ℕ) → length unit ≤ at → P at ([], true))
      (on-unreadable : (at : ℕ) → P at ([], false)) where
    turn_by : (at : ℕ) (r : Option Step) → step_at e abbreviations look unit at ≡ r → ((n : ℕ) → at < n → n ≤ length unit → P n (from n)) → P at (on_step at r from)
    unfolding on_step
    turn_by at (Some (Entry' x)) q h =
        let i : EntryInside unit at x = step-inside e abbreviations look unit at x q in
        on-entry at x q i (h x.next.at (omega (arith, i.coded, i.ahead)) i.within)
    turn_by at (Some (Terminator c)) q h =
        let i = terminator-inside e abbreviations look unit at c q in
        on-terminator at c q i.0 i.1 (h c.at i.0 i.1)
    turn_by at (Some End) q h = on-end at (end-there at q)
    turn_by at None q h = on-unreadable at

    within_by : (k at : ℕ) → length unit < at + k → P at (from at)
    within_by zero at l =
        subst (P at) (sym (items-step e abbreviations look unit at)) (turn_by at (step_at e abbreviations look unit at) refl (λ n lo hi. absurd (omega arith)))
    within_by (suc k) at l =
        subst (P at) (sym (items-step e abbreviations look unit at)) (turn_by at (step_at e abbreviations look unit at) refl (λ n lo hi. within_by k n (omega arith)))

    pub items-by : (at : ℕ) → P at (from at)
    items-by at = within_by (suc (length unit)) at (omega arith)
