-- The column of the entries' ends while it is filled: what it will hold from here on makes it hold all. Assumes nothing.
use mathlib.Core.Path.{◌≡◌, ap, sym, ◌∙◌, subst}
use Prim.Native.Nat.{ℕ, suc, ◌+◌, ◌-◌, ◌*◌, ◌^◌, ◌≤◌, ◌<◌}
use native.Mathlib.Omega.{arith}
use native.Mathlib.Numerals.{add-one}
use mathlib.Core.Bool.{Bool, true, false}
use mathlib.Core.List.{List, [], ◌∷◌}
use lib.ListN.{length, get_or, set, length-set}
use lib.Seq.{get_or-set_same, get_or-set_other}
use Rattle.readers.specs.Abbreviations.{find_at}
use mir.Val.{bool_byte}
use Rattle.readers.specs.Choice.{pick}
use Rattle.readers.specs.Entries.{step_at}
use Rattle.readers.specs.Stream.{Item, entry, terminator}
use Rattle.readers.proofs.Streams.{EntryInside, step-inside, terminator-inside}
use Rattle.readers.specs.declared.cursor.Cursor.{Cursor}
use Rattle.readers.specs.declared.entries.Entry.{Entry}
use Rattle.std.specs.Prelude.{None, Option, Some}
use Rattle.readers.specs.declared.entries.Step.{Step}
use Rattle.readers.specs.declared.entries.Step.TheVariants.{Entry as Entry', Terminator, End}
use Rattle.readers.specs.Stream.{entry_count}
use Rattle.rewriting.specs.Inner.Ends.{end_number, EndsHeld}
use Rattle.rewriting.specs.Inner.NextKept.{items_by}
use Rattle.rewriting.specs.declared.kept_items.Reading.{Reading}
use Rattle.rewriting.proofs.KeptPass.KeptSteps.{items-entry, items-terminator, items-end, items-bad}

pub number-is : (end n : ℕ) (children : Bool) → n ≡ bool_byte children → 2 * end + n ≡ end_number end children
unfolding end_number pick
number-is end n true e = omega arith
number-is end n false e = omega arith

-- the number at an entry's place
pub end-there : (ends : List ℕ) (k i : ℕ) → k ≡ i → get_or ends k 0 ≡ get_or ends i 0
end-there ends k i e = ap (λ (n : ℕ). get_or ends n 0) e

module _ (r : Reading) (abbreviations index unit : List ℕ) (first : ℕ) (ends₀ : List ℕ) where
  abbrev items : ℕ → List Item
  items = items_by r abbreviations index unit

  abbrev step : ℕ → Option Step
  step = step_at r.encoding abbreviations (find_at abbreviations r.from index) unit

  -- so many entries were put
  pub record Ending (ends : List ℕ) (at count : ℕ) : Type 0 where
    pub size : length ends ≡ length ends₀
    pub many : entry_count (items first) ≡ count + entry_count (items at)
    pub passed : count ≤ at
    pub onward : (final : List ℕ) → ((i : ℕ) → i < count → get_or final i 0 ≡ get_or ends i 0)
        → EndsHeld final count (items at) → EndsHeld final 0 (items first)

  abbrev pub Ended : List ℕ → Type 0
  Ended ends = entry_count (items first) ≤ length ends₀ → EndsHeld ends 0 (items first)

  module _ (ends : List ℕ) (at count : ℕ) (g : Ending ends at count) (o : Option Step) (p : o ≡ step at) where
    module _ (final : List ℕ) (z : get_or final count 0 ≡ 0) (a : (i : ℕ) → i < count → get_or final i 0 ≡ get_or ends i 0) where
      last : items at ≡ [] → Ended final
      unfolding EndsHeld
      last q _ = g.onward final a (subst (λ (is : List Item). EndsHeld final count is) (sym q) z)

      pub ending-end : o ≡ Some End → Ended final
      ending-end q = last (items-end r.encoding abbreviations (find_at abbreviations r.from index) unit at (sym p ∙ q))

      pub ending-bad : o ≡ None → Ended final
      ending-bad q = last (items-bad r.encoding abbreviations (find_at abbreviations r.from index) unit at (sym p ∙ q))

    module _ (c : Cursor) (q : o ≡ Some (Terminator c)) where
      pub ending-terminator-less : length unit - c.at < length unit - at
      ending-terminator-less = let i = terminator-inside r.encoding abbreviations (find_at abbreviations r.from index) unit at c (sym p ∙ q) in omega (arith, i.0, i.1)

      pub ending-terminator : Ending ends c.at count
      unfolding entry_count EndsHeld
      ending-terminator =
          let e : items at ≡ terminator at c.at ∷ items c.at = items-terminator r.encoding abbreviations (find_at abbreviations r.from index) unit at c (sym p ∙ q) in
          record {
            size = g.size;
            many = g.many ∙ ap (λ (is : List Item). count + entry_count is) e;
            passed = (let i = terminator-inside r.encoding abbreviations (find_at abbreviations r.from index) unit at c (sym p ∙ q) in omega (arith, g.passed, i.0));
            onward = λ final a h. g.onward final a (subst (λ (is : List Item). EndsHeld final count is) (sym e) h);
          }

    module _ (x : Entry) (q : o ≡ Some (Entry' x)) where
      inside : EntryInside unit at x
      inside = step-inside r.encoding abbreviations (find_at abbreviations r.from index) unit at x (sym p ∙ q)

      here : items at ≡ entry x ∷ items x.next.at
      here = items-entry r.encoding abbreviations (find_at abbreviations r.from index) unit at x (sym p ∙ q)

      more : entry_count (items first) ≡ count + suc (entry_count (items x.next.at))
      unfolding entry_count
      more = g.many ∙ ap (λ (is : List Item). count + entry_count is) here

      pub ending-full : (k : ℕ) → k ≡ count → length ends ≤ k → Ended ends
      ending-full k e h l = absurd (omega (arith, more, g.size))

      pub ending-entry-less : length unit - x.next.at < length unit - at
      ending-entry-less = omega (arith, inside.coded, inside.ahead, inside.within)

      module _ (k : ℕ) (is : k ≡ count) (h : k < length ends) (v : ℕ) (short : length unit * 1 < 2 ^ 63) (w : x.next.at < 2 ^ 63 → v ≡ end_number x.next.at x.declaration.children) where
        put-onward : (final : List ℕ) → ((i : ℕ) → i < count + 1 → get_or final i 0 ≡ get_or (set ends k v) i 0)
            → EndsHeld final (count + 1) (items x.next.at) → EndsHeld final 0 (items first)
        unfolding EndsHeld
        put-onward final a g' =
            let b : x.next.at < 2 ^ 63 = omega (arith, inside.within) in
            let f : get_or final count 0 ≡ end_number x.next.at x.declaration.children =
            a count (omega arith) ∙ ap (λ (n : ℕ). get_or (set ends k v) n 0) (sym is) ∙ get_or-set_same ends k v 0 h ∙ w b in
            let t : EndsHeld final (suc count) (items x.next.at) = subst (λ (n : ℕ). EndsHeld final n (items x.next.at)) (add-one count) g' in
            g.onward final
            (λ i l. a i (omega arith) ∙ get_or-set_other ends k i v 0 (λ z. omega arith))
            (subst (λ (is : List Item). EndsHeld final count is) (sym here) (f, t))

        pub ending-entry : Ending (set ends k v) x.next.at (count + 1)
        ending-entry = record { size = length-set ends k v ∙ g.size; many = (let z : entry_count (items first) ≡ count + 1 + entry_count (items x.next.at) = omega (arith, more) in z); passed = omega (arith, g.passed, inside.coded, inside.ahead); onward = put-onward }
