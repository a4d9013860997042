-- Passes through the kept items: what the next answer says, and how many items and bytes there are. Assumes nothing.
use mathlib.Core.Path.{◌≡◌, refl, ap, sym, subst}
use Prim.Native.Nat.{ℕ, suc, ◌+◌, ◌-◌, ◌≤◌, ◌<◌}
use native.Mathlib.Omega.{arith}
use mathlib.Core.List.{List, []}
use lib.ListN.{length}
use Rattle.readers.specs.Nesting.{nesting_of}
use Rattle.readers.specs.Stream.{Item, entry, terminator}
use Rattle.readers.specs.declared.entries.Nesting.{Nesting}
use Rattle.rewriting.specs.Places.{NestedItem, offset_of, size_of, size_from}
use Rattle.readers.specs.Inner.Nesting.{Chain}
use Rattle.rewriting.specs.Inner.NextKept.{open_kept, ShowsItem, Forward, Stood, kept_at, NextItem, Next, Answers}
use Rattle.rewriting.specs.Inner.Measures.{ColumnsHeld, kept_of_unit, Measures}
use Rattle.rewriting.specs.declared.kept_items.PassPosition.{PassPosition}
use Rattle.rewriting.specs.declared.kept_items.KeptItem.{KeptItem}
use Rattle.std.specs.Prelude.{None, Option, Some}
use Rattle.rewriting.proofs.KeptPass.KeptSteps.{stand}

pub shown-size : (x : KeptItem) (i : Item) → ShowsItem x i → size_of i ≡ x.end.at - x.start.0
unfolding ShowsItem size_of
shown-size x (entry y) h =
    let a : x.start.0 ≡ y.offset.0 = h.1 in
    let b : x.end.at ≡ y.next.at = h.2 in
    omega arith
shown-size x (terminator a b) h =
    let a : x.start.0 ≡ a = h.1 in
    let b : x.end.at ≡ b = h.2 in
    omega arith

pub shown-offset : (x : KeptItem) (i : Item) → ShowsItem x i → offset_of i ≡ x.start.0
unfolding ShowsItem offset_of
shown-offset x (entry y) h = sym h.1
shown-offset x (terminator a b) h = sym h.1

module _ (items : ℕ → List Item) (parents ends marks unit : List ℕ) where
  -- ---- an answer, by its cases

  module _ (s : PassPosition) (r : Option KeptItem) (a : Answers items parents ends marks unit s r) where
    pub next-forward : (x : KeptItem) → r ≡ Some x → (s.at.at ≤ x.start.0) × (x.start.0 < x.end.at) × (x.end.at ≤ length unit) × (x.next.at.at ≡ x.end.at)
    unfolding Forward
    next-forward x q = subst (Forward unit s.at.at) q a.forward

    pub next-item : (x : KeptItem) → r ≡ Some x → (stack : List ℕ) → Stood items parents ends s stack → NextItem items parents ends marks s stack x
    unfolding Next
    next-item x q stack h = subst (Next items parents ends marks s stack) q (a.next stack h)

    pub next-end : r ≡ None → (stack : List ℕ) → Stood items parents ends s stack → kept_at items parents ends marks s stack ≡ []
    unfolding Next
    next-end q stack h = subst (Next items parents ends marks s stack) q (a.next stack h)

    pub next-less : (x : KeptItem) → r ≡ Some x → length unit - x.next.at.at < length unit - s.at.at
    next-less x q =
        let f = next-forward x q in
        let f0 : s.at.at ≤ x.start.0 = f.0 in
        let f1 : x.start.0 < x.end.at = f.1 in
        let f2 : x.end.at ≤ length unit = f.2 in
        let f3 : x.next.at.at ≡ x.end.at = f.3 in
        omega arith

  -- ---- the start

  pub stood-start : (first : ℕ) (n : Nesting) → n ≡ nesting_of [] → ColumnsHeld items parents ends first → Stood items parents ends (stand first 0 n) []
  unfolding Chain
  stood-start first n m h =
      record { nested = m; chained = tt; counted = (let z : 0 ≤ 0 = omega arith in z); passed = omega arith; holds = h.0; ends_hold = h.1 }

  pub kept-start : (first : ℕ) (n : Nesting) → kept_of_unit items marks first ≡ kept_at items parents ends marks (stand first 0 n) []
  unfolding open_kept
  kept-start first n = refl

  -- ---- how many there are

  pub record Counted (first : ℕ) (s : PassPosition) (places bytes : ℕ) : Type 0 where
    pub stack : List ℕ
    pub stood : Stood items parents ends s stack
    pub many : length (kept_of_unit items marks first) ≡ places + length (kept_at items parents ends marks s stack)
    pub size : first + size_from (kept_of_unit items marks first) ≡ bytes + size_from (kept_at items parents ends marks s stack)

  pub record Measuring (first : ℕ) (s : PassPosition) (places bytes : ℕ) : Type 0 where
    pub room : first + places ≤ bytes
    pub passed : bytes ≤ s.at.at
    pub inside : first ≤ length unit → s.at.at ≤ length unit
    pub counted : ColumnsHeld items parents ends first → Counted first s places bytes

  pub measuring-start : (first : ℕ) (n : Nesting) → n ≡ nesting_of [] → Measuring first (stand first 0 n) 0 first
  measuring-start first n m =
      record {
        room = omega arith;
        passed = omega arith;
        inside = λ h. h;
        counted = λ h.
            record {
              stack = [];
              stood = stood-start first n m h;
              many =
                  (let l : length (kept_of_unit items marks first) ≡ length (kept_at items parents ends marks (stand first 0 n) []) = ap length (kept-start first n) in omega arith);
              size = ap (λ (k : List NestedItem). first + size_from k) (kept-start first n);
            };
      }

  module _ (first : ℕ) (s : PassPosition) (places bytes : ℕ) (m : Measuring first s places bytes) (r : Option KeptItem) (a : Answers items parents ends marks unit s r) where
    pub measuring-end : r ≡ None → Measures items unit parents ends marks first (record { places = places; bytes = bytes })
    unfolding size_from
    measuring-end q =
        record {
          room = m.room;
          inside = λ h. let g : s.at.at ≤ length unit = m.inside h in omega (arith, m.passed);
          found = λ h.
              let d = m.counted h in
              let e : kept_at items parents ends marks s d.stack ≡ [] = next-end s r a q d.stack d.stood in
              let l : length (kept_at items parents ends marks s d.stack) ≡ 0 = ap length e in
              let z : size_from (kept_at items parents ends marks s d.stack) ≡ 0 = ap size_from e in
              (omega (arith, d.many), omega (arith, d.size));
        }

    module _ (x : KeptItem) (q : r ≡ Some x) where
      pub measuring-fits : (places < x.end.at) × (x.start.0 ≤ x.end.at) × (bytes + (x.end.at - x.start.0) ≤ x.end.at) × (x.end.at ≤ length unit)
      measuring-fits =
          let f = next-forward s r a x q in
          let f0 : s.at.at ≤ x.start.0 = f.0 in
          let f1 : x.start.0 < x.end.at = f.1 in
          let f2 : x.end.at ≤ length unit = f.2 in
          (omega (arith, m.room, m.passed), omega arith, omega (arith, m.passed), f2)

      pub measuring-more : Measuring first x.next (places + 1) (bytes + (x.end.at - x.start.0))
      unfolding size_from
      measuring-more =
          let f = next-forward s r a x q in
          let f0 : s.at.at ≤ x.start.0 = f.0 in
          let f1 : x.start.0 < x.end.at = f.1 in
          let f2 : x.end.at ≤ length unit = f.2 in
          let f3 : x.next.at.at ≡ x.end.at = f.3 in
          record {
            room = omega (arith, m.room);
            passed = omega (arith, m.passed);
            inside = λ h. omega arith;
            counted = λ h.
                let d = m.counted h in
                let y = next-item s r a x q d.stack d.stood in
                let l : length (kept_at items parents ends marks s d.stack) ≡ suc (length (kept_at items parents ends marks x.next y.after)) = ap length y.whole in
                let z : size_from (kept_at items parents ends marks s d.stack) ≡ size_of y.standing.item + size_from (kept_at items parents ends marks x.next y.after) = ap size_from y.whole in
                record {
                  stack = y.after;
                  stood = y.stood;
                  many = omega (arith, d.many);
                  size = omega (arith, d.size, shown-size x y.standing.item y.shows);
                };
          }
