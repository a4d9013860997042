-- The items of a unit, one step at a time: how far a step comes, what stands from a place on, and that only the answers of the look-up count. Assumes nothing.
use mathlib.Core.Path.{◌≡◌, refl, ap, sym, ◌∙◌, subst}
use Prim.Native.Nat.{ℕ, zero, suc, ◌+◌, ◌-◌, ◌≤◌, ◌<◌}
use native.Mathlib.Omega.{arith}
use mathlib.Core.List.{List}
use Rattle.std.specs.Prelude.{None, Option, Some}
use Rattle.readers.specs.declared.entries.Step.{Step}
use mathlib.Core.Logic.{⊎_elim}
use lib.ListN.{length, drop, length-drop}
use lib.Dec.{ltb, eqb}
use mir.Facts.{ltb_yes, ltb_no}
use Rattle.readers.specs.Choice.{pick}
use Rattle.readers.proofs.Choice.{pick-either, either, All}
use Rattle.readers.specs.Numbers.{uleb}
use Rattle.readers.specs.Layout.{RunOf, Layout, as_bytes, write_all}
use Rattle.readers.proofs.LayoutLaws.{ReadLaw, read-law, as-bytes-law}
use Rattle.readers.specs.Abbreviations.{attributes_from}
use Rattle.readers.specs.Cursors.{cursor, leb_at}
use Rattle.readers.specs.Entries.{specs_layout, as_past, values_at, step_at}
use Rattle.readers.proofs.Lebs.{uleb-inside}
use Rattle.readers.proofs.Values.{entry_step, found_step, code_step, step_by, step_end}
use Rattle.readers.specs.declared.cursor.Encoding.{Encoding}
use Rattle.readers.specs.declared.cursor.Cursor.{Cursor}
use Rattle.readers.specs.declared.abbreviations.Declaration.{Declaration}
use Rattle.readers.specs.declared.entries.Entry.{Entry}
use Rattle.readers.specs.declared.entries.Step.TheVariants.{Entry as Entry', Terminator, End}
use Rattle.readers.specs.Stream.{entry, terminator, Items, push, on_step, items_within, items_from}

-- ---- how far values come

module _ (e : Encoding) (unit : List ℕ) (at : ℕ) (next : Cursor) where
  past-inside : (g : Layout) (o : Option RunOf) → All (ReadLaw e.big_endian as_bytes g (drop at unit)) o → as_past e.big_endian at o ≡ Some next
      → at ≤ length unit → (at ≤ next.at) × (next.at ≤ length unit)
  unfolding All as_past
  past-inside g None q k h = let z : ◌≡◌ {A = ℕ} 0 1 = cc in absurd (omega arith)
  past-inside g (Some r) q k h =
      let c : cursor (at + length (write_all e.big_endian r.0)) ≡ next = cc in
      let p : at + length (write_all e.big_endian r.0) ≡ next.at = ap (λ (x : Cursor). x.at) c in
      let l : length (write_all e.big_endian r.0) ≤ length (drop at unit) = q.0.0 in
      (omega arith, omega (arith, length-drop at unit))

  pub values-inside : (abbreviations : List ℕ) (specs : ℕ) → values_at e abbreviations specs unit at ≡ Some next → at ≤ length unit
      → (at ≤ next.at) × (next.at ≤ length unit)
  unfolding values_at
  values-inside abbreviations specs g h =
      past-inside (specs_layout e (attributes_from abbreviations specs)) _
      (read-law e.big_endian as_bytes (as-bytes-law e.big_endian) (specs_layout e (attributes_from abbreviations specs)) (drop at unit)) g h

-- ---- how far a step comes

pub record EntryInside (unit : List ℕ) (at : ℕ) (x : Entry) : Type 0 where
  pub here : x.offset.0 ≡ at
  pub coded : at < x.values.at
  pub ahead : x.values.at ≤ x.next.at
  pub within : x.next.at ≤ length unit

-- what a step may be
unfoldable StepInside : List ℕ → ℕ → Option Step → Type 0
StepInside unit at (Some (Entry' x)) = EntryInside unit at x
StepInside unit at (Some (Terminator c)) = (at < c.at) × (c.at ≤ length unit)
StepInside unit at (Some End) = Unit {0}
StepInside unit at None = Unit {0}

module _ (e : Encoding) (abbreviations : List ℕ) (look : ℕ → Option Declaration) (unit : List ℕ) where
  module _ (at : ℕ) where
    values-step : (values : Cursor) (d : Declaration) → at < values.at → values.at ≤ length unit
        → (m : Option Cursor) → values_at e abbreviations d.attributes.at unit values.at ≡ m → StepInside unit at (entry_step e abbreviations look unit at values d m)
    unfolding entry_step StepInside
    values-step values d lo hi (Some next) q =
        let i = values-inside e unit values.at next abbreviations d.attributes.at q hi in
        record { here = refl; coded = lo; ahead = i.0; within = i.1 }
    values-step values d lo hi None q = tt

    found-step : (values : Cursor) → at < values.at → values.at ≤ length unit → (f : Option Declaration) → StepInside unit at (found_step e abbreviations look unit at values f)
    unfolding found_step StepInside
    found-step values lo hi (Some d) = values-step values d lo hi (values_at e abbreviations d.attributes.at unit values.at) refl
    found-step values lo hi None = tt

    code_step_lem : (n : Option (ℕ × Cursor)) → leb_at uleb unit at ≡ n → StepInside unit at (code_step e abbreviations look unit at n)
    unfolding code_step StepInside
    code_step_lem (Some (code, values)) q =
        let i = uleb-inside unit at code values q in
        pick-either (StepInside unit at) (eqb code 0) (Some (Terminator values)) (found_step e abbreviations look unit at values (look code))
        (λ t. (i.0, i.1)) (λ t. found-step values i.0 i.1 (look code))
    code_step_lem None q = tt

    any_step : StepInside unit at (step_at e abbreviations look unit at)
    unfolding StepInside
    any_step =
        ⊎_elim
        (λ t. rw (step_by e abbreviations look unit at (ltb_yes {a = at} {b = length unit} t)) (code_step_lem (leb_at uleb unit at) refl))
        (λ t. rw (sym (step_end e abbreviations look unit at (ltb_no {a = at} {b = length unit} t))) tt)
        (either (ltb at (length unit)))

    by-step : (o : Option Step) → step_at e abbreviations look unit at ≡ o → StepInside unit at o
    by-step o q = subst (StepInside unit at) q any_step

    pub step-inside : (x : Entry) → step_at e abbreviations look unit at ≡ Some (Entry' x) → EntryInside unit at x
    unfolding StepInside
    step-inside x q = by-step (Some (Entry' x)) q

    pub terminator-inside : (c : Cursor) → step_at e abbreviations look unit at ≡ Some (Terminator c) → (at < c.at) × (c.at ≤ length unit)
    unfolding StepInside
    terminator-inside c q = by-step (Some (Terminator c)) q

    turn-same : (r : Option Step) → step_at e abbreviations look unit at ≡ r → (j k : ℕ → Items)
        → ((n : ℕ) → at < n → n ≤ length unit → j n ≡ k n) → on_step at r j ≡ on_step at r k
    unfolding on_step
    turn-same (Some (Entry' x)) q j k h =
        let i : EntryInside unit at x = step-inside x q in
        ap (push (entry x)) (h x.next.at (omega (arith, i.coded, i.ahead)) i.within)
    turn-same (Some (Terminator c)) q j k h = ap (push (terminator at c.at)) (h c.at (terminator-inside c q).0 (terminator-inside c q).1)
    turn-same (Some End) q j k h = refl
    turn-same None q j k h = refl

  -- ---- what stands from a place on

  within_same : (j k at : ℕ) → length unit < at + j → length unit < at + k → 0 < j → 0 < k
      → items_within e abbreviations look unit j at ≡ items_within e abbreviations look unit k at
  unfolding items_within
  within_same zero k at h h' p q = absurd (omega arith)
  within_same (suc j) zero at h h' p q = absurd (omega arith)
  within_same (suc j) (suc k) at h h' p q =
      turn-same at (step_at e abbreviations look unit at) refl _ _
      (λ n lo hi. within_same j k n (omega arith) (omega arith) (omega arith) (omega arith))

  pub items-step : (at : ℕ) → items_from e abbreviations look unit at ≡ on_step at (step_at e abbreviations look unit at) (items_from e abbreviations look unit)
  unfolding items_from items_within
  items-step at =
      turn-same at (step_at e abbreviations look unit at) refl _ _
      (λ n lo hi. within_same (length unit - at) (suc (length unit - n)) n (omega arith) (omega arith) (omega arith) (omega arith))

-- ---- two look-ups that agree

module _ (e : Encoding) (abbreviations : List ℕ) (look look' : ℕ → Option Declaration) (same : (code : ℕ) → look code ≡ look' code) (unit : List ℕ) where
  module _ (at : ℕ) where
    same-values : (values : Cursor) (d : Declaration) (m : Option Cursor) → entry_step e abbreviations look unit at values d m ≡ entry_step e abbreviations look' unit at values d m
    unfolding entry_step
    same-values values d (Some next) = refl
    same-values values d None = refl

    same-found : (values : Cursor) (f : Option Declaration) → found_step e abbreviations look unit at values f ≡ found_step e abbreviations look' unit at values f
    unfolding found_step
    same-found values (Some d) = same-values values d (values_at e abbreviations d.attributes.at unit values.at)
    same-found values None = refl

    same_code : (n : Option (ℕ × Cursor)) → code_step e abbreviations look unit at n ≡ code_step e abbreviations look' unit at n
    unfolding code_step
    same_code (Some (code, values)) =
        ap (pick (eqb code 0) (Some (Terminator values))) (same-found values (look code) ∙ ap (found_step e abbreviations look' unit at values) (same code))
    same_code None = refl

    pub step-look : step_at e abbreviations look unit at ≡ step_at e abbreviations look' unit at
    step-look =
        ⊎_elim
        (λ t. step_by e abbreviations look unit at (ltb_yes {a = at} {b = length unit} t)
        ∙ same_code (leb_at uleb unit at)
        ∙ sym (step_by e abbreviations look' unit at (ltb_yes {a = at} {b = length unit} t)))
        (λ t. sym (step_end e abbreviations look unit at (ltb_no {a = at} {b = length unit} t)) ∙ step_end e abbreviations look' unit at (ltb_no {a = at} {b = length unit} t))
        (either (ltb at (length unit)))

  -- what follows is the same
  turn-look : (at : ℕ) (r : Option Step) (j k : ℕ → Items) → ((n : ℕ) → j n ≡ k n) → on_step at r j ≡ on_step at r k
  unfolding on_step
  turn-look at (Some (Entry' x)) j k h = ap (push (entry x)) (h x.next.at)
  turn-look at (Some (Terminator c)) j k h = ap (push (terminator at c.at)) (h c.at)
  turn-look at (Some End) j k h = refl
  turn-look at None j k h = refl

  within-look : (n at : ℕ) → items_within e abbreviations look unit n at ≡ items_within e abbreviations look' unit n at
  unfolding items_within
  within-look zero at = refl
  within-look (suc n) at =
      turn-look at (step_at e abbreviations look unit at) _ _ (λ next. within-look n next)
      ∙ ap (λ (r : Option Step). on_step at r (λ next. items_within e abbreviations look' unit n next)) (step-look at)

  pub items-look : (at : ℕ) → items_from e abbreviations look unit at ≡ items_from e abbreviations look' unit at
  unfolding items_from
  items-look at = within-look (suc (length unit - at)) at
