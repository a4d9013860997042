-- A pass through the kept items, item by item: where it stands after an entry and after a terminator, and what it answers. Assumes nothing.
use mathlib.Core.Path.{◌≡◌, refl, ap, ap₂, sym, ◌∙◌, subst}
use Prim.Native.Nat.{ℕ, suc, ◌+◌, ◌*◌, ◌-◌, ◌^◌, ◌/◌, ◌%◌, ◌≤◌, ◌<◌}
use native.Mathlib.Omega.{arith}
use native.Mathlib.Numerals.{add-one}
use mathlib.Core.Bool.{Bool, true, false}
use mathlib.Core.List.{List, [], ◌∷◌}
use mathlib.Core.Logic.{◌⊎◌, inl, inr, ⊎_elim}
use lib.ListN.{length, get_or, get_or-eq_default}
use lib.Dec.{eqb, leb}
use borrow.Author.Tests.{eq-eqb, ne_eqb}
use mir.Facts.{yes_eqb, no_eqb}
use Rattle.readers.specs.Choice.{pick}
use Rattle.readers.proofs.Choice.{pick_yes, pick_no}
use Rattle.readers.specs.Numbers.{uleb}
use Rattle.readers.specs.Cursors.{leb_at}
use Rattle.readers.specs.Abbreviations.{past_attributes, moved_declaration, whole_declaration, declaration_found, whole_found}
use Rattle.readers.specs.Entries.{values_at, step_at}
use Rattle.readers.proofs.Lebs.{uleb-inside}
use Rattle.readers.proofs.Values.{entry_step, found_step, code_step, step_by, step-none, step-terminator, step-unknown}
use Rattle.readers.specs.Nesting.{no_parent, opened, closed, top, nesting_of, nesting_opened, nesting_closed}
use Rattle.readers.proofs.Nesting.{opened-is, closed_is, chain-opened, chain-closed, length-opened, length-closed}
use Rattle.readers.specs.Stream.{Item, entry, terminator, Items, push, on_step, items_from}
use Rattle.readers.proofs.Streams.{EntryInside, step-inside, terminator-inside, items-step}
use Rattle.readers.specs.declared.cursor.Encoding.{Encoding}
use Rattle.readers.specs.declared.cursor.Cursor.{Cursor}
use Rattle.std.specs.Prelude.{None, Option, Some}
use Rattle.readers.specs.declared.entries.Step.{Step}
use Rattle.readers.specs.declared.abbreviations.Declaration.{Declaration}
use Rattle.readers.specs.declared.abbreviations.DeclarationStep.TheVariants.{Declaration as Declared}
use Rattle.readers.specs.declared.entries.Entry.{Entry}
use Rattle.readers.specs.declared.entries.Nesting.{Nesting}
use Rattle.readers.specs.declared.entries.Step.TheVariants.{Entry as Entry', Terminator, End as StepEnd}
use Rattle.marking.specs.Marks.{is_kept}
use Rattle.rewriting.specs.Places.{NestedItem, innermost, with_if, kept_from}
use Rattle.rewriting.specs.Inner.Parents.{parents_from, HoldsFrom}
use Rattle.rewriting.specs.Inner.Ends.{end_number, EndsHeld}
use Rattle.rewriting.specs.Inner.NextKept.{open_kept, closes_kept, ShowsItem, Forward, Stood, kept_at, Next, Answers}
use Rattle.rewriting.specs.declared.kept_items.PassPosition.{PassPosition}

-- ---- tests

-- the mark at an entry's place
pub kept_there : (marks : List ℕ) (k i : ℕ) → k ≡ i → leb 2 (get_or marks k 0) ≡ is_kept marks i
unfolding is_kept
kept_there marks k i e = ap (is_kept marks) e

outside : (marks : List ℕ) (i : ℕ) → length marks ≤ i → false ≡ is_kept marks i
unfolding is_kept
outside marks i h = rw (get_or-eq_default marks 0 h) refl

pub kept-outside : (marks : List ℕ) (k i : ℕ) → k ≡ i → length marks ≤ k → false ≡ is_kept marks i
kept-outside marks k i e h = outside marks i (omega arith)

pub closes-outside : (marks : List ℕ) (n : Nesting) → n.depth ≡ 0 → false ≡ closes_kept marks n
unfolding closes_kept
closes-outside marks n h = sym (pick_yes _ _ _ (yes_eqb {a = n.depth} {b = 0} h))

pub closes-inside : (marks : List ℕ) (n : Nesting) (b : Bool) → (n.depth ≡ 0 → ⊥) → b ≡ is_kept marks n.parent.0 → b ≡ closes_kept marks n
unfolding closes_kept
closes-inside marks n b h e = e ∙ sym (pick_no _ _ _ (no_eqb {a = n.depth} {b = 0} h))

-- ---- the open entries

open-length : (marks stack : List ℕ) → length (open_kept marks stack) ≡ length stack
unfolding open_kept
open-length marks [] = refl
open-length marks (k ∷ stack) = ap suc (open-length marks stack)

open-opened : (marks : List ℕ) (children : Bool) (k : ℕ) (stack : List ℕ)
    → opened children (is_kept marks k) (open_kept marks stack) ≡ open_kept marks (opened children k stack)
unfolding open_kept opened
open-opened marks true k stack = refl
open-opened marks false k stack = refl

open-closed : (marks stack : List ℕ) → closed (open_kept marks stack) ≡ open_kept marks (closed stack)
unfolding open_kept closed
open-closed marks [] = refl
open-closed marks (k ∷ stack) = refl

open-innermost : (marks stack : List ℕ) → closes_kept marks (nesting_of stack) ≡ innermost (open_kept marks stack)
unfolding open_kept innermost nesting_of top
open-innermost marks [] = sym (closes-outside marks (nesting_of []) refl)
open-innermost marks (k ∷ stack) =
    sym (closes-inside marks (nesting_of (k ∷ stack)) _ (λ q. absurd (let z : suc (length stack) ≡ 0 = q in omega arith)) refl)

with-yes : (b : Bool) (x : NestedItem) (xs : List NestedItem) → b ≡ true → with_if b x xs ≡ x ∷ xs
unfolding with_if
with-yes b x xs e = ap (λ (b : Bool). with_if b x xs) e

with-no : (b : Bool) (x : NestedItem) (xs : List NestedItem) → b ≡ false → with_if b x xs ≡ xs
unfolding with_if
with-no b x xs e = ap (λ (b : Bool). with_if b x xs) e

-- ---- the number of an end

half : (n : ℕ) (children : Bool) → end_number n children / 2 ≡ n
unfolding end_number pick
half n true = let z : (2 * n + 1) / 2 ≡ n = omega arith in z
half n false = let z : 2 * n / 2 ≡ n = omega arith in z

odd : (n : ℕ) (children : Bool) → eqb (end_number n children % 2) 1 ≡ children
unfolding end_number pick
odd n true = eq-eqb ((2 * n + 1) % 2) 1 (let z : (2 * n + 1) % 2 ≡ 1 = omega arith in z)
odd n false = ne_eqb (2 * n % 2) 1 (λ q. let z : 2 * n % 2 ≡ 0 = omega arith in let y : 2 * n % 2 ≡ 1 = q in absurd (omega arith))

-- what is found by its head is the declaration that is found
whole_same : (s : List ℕ) (d d' : Declaration) → whole_found s (Some d) ≡ Some d' → d ≡ d'
unfolding whole_found whole_declaration moved_declaration declaration_found
whole_same s d d' q = of (past_attributes s d.attributes.at) q
  where
    of : (m : Option Cursor) → declaration_found (moved_declaration m (λ c. Some (Declared d c))) ≡ Some d' → d ≡ d'
    of (Some c) k = cc
    of None k = let z : ◌≡◌ {A = ℕ} 0 1 = cc in absurd (omega arith)

-- ---- one step

abbrev pub stand : ℕ → ℕ → Nesting → PassPosition
stand at count n = record { at = record { at = at }; count = record { 0 = count }; nesting = n }

module _ (e : Encoding) (abbreviations : List ℕ) (look : ℕ → Option Declaration) (unit : List ℕ) where
  abbrev pub items : ℕ → List Item
  items at = (items_from e abbreviations look unit at).0

  items-by : (at : ℕ) (o : Option Step) → step_at e abbreviations look unit at ≡ o → items at ≡ (on_step at o (items_from e abbreviations look unit)).0
  items-by at o q =
      ap (λ (r : Items). r.0) (items-step e abbreviations look unit at) ∙ ap (λ (o : Option Step). (on_step at o (items_from e abbreviations look unit)).0) q

  pub items-entry : (at : ℕ) (x : Entry) → step_at e abbreviations look unit at ≡ Some (Entry' x) → items at ≡ entry x ∷ items x.next.at
  unfolding on_step push
  items-entry at x q = items-by at (Some (Entry' x)) q

  pub items-terminator : (at : ℕ) (c : Cursor) → step_at e abbreviations look unit at ≡ Some (Terminator c) → items at ≡ terminator at c.at ∷ items c.at
  unfolding on_step push
  items-terminator at c q = items-by at (Some (Terminator c)) q

  pub items-end : (at : ℕ) → step_at e abbreviations look unit at ≡ Some StepEnd → items at ≡ []
  unfolding on_step
  items-end at q = items-by at (Some StepEnd) q

  pub items-bad : (at : ℕ) → step_at e abbreviations look unit at ≡ None → items at ≡ []
  unfolding on_step
  items-bad at q = items-by at None q

  -- ---- a code that is not 0: an entry, or nothing can be read

  pub record CodedEntry (at code : ℕ) (values : Cursor) : Type 0 where
    pub of : Entry
    pub is : step_at e abbreviations look unit at ≡ Some (Entry' of)
    pub from : of.values ≡ values
    pub declared : look code ≡ Some of.declaration

  module _ (at code : ℕ) (values : Cursor) where
    abbrev Coded : Type 0
    Coded = CodedEntry at code values ⊎ (step_at e abbreviations look unit at ≡ None)

    coded-values : (d : Declaration) → look code ≡ Some d → (m : Option Cursor) → step_at e abbreviations look unit at ≡ entry_step e abbreviations look unit at values d m → Coded
    unfolding entry_step
    coded-values d k (Some next) q = inl (record { of = record { offset = record { 0 = at }; declaration = d; values = values; next = next }; is = q; from = refl; declared = k })
    coded-values d k None q = inr q

    coded-found : (f : Option Declaration) → look code ≡ f → step_at e abbreviations look unit at ≡ found_step e abbreviations look unit at values f → Coded
    unfolding found_step
    coded-found (Some d) k q = coded-values d k (values_at e abbreviations d.attributes.at unit values.at) q
    coded-found None k q = inr q

    coded : at < length unit → (n : Option (ℕ × Cursor)) → n ≡ leb_at uleb unit at → n ≡ Some (code, values) → (code ≡ 0 → ⊥) → Coded
    unfolding code_step
    coded h n p q z =
        coded-found (look code) refl
        (step_by e abbreviations look unit at h ∙ ap (code_step e abbreviations look unit at) (sym p ∙ q) ∙ pick_no _ _ _ (no_eqb {a = code} {b = 0} z))

  module _ (parents ends marks : List ℕ) where
    -- ---- after an entry

    entry-holds : (t : PassPosition) (stack : List ℕ) (x : Entry) → step_at e abbreviations look unit t.at.at ≡ Some (Entry' x) → Stood items parents ends t stack
        → (get_or parents t.count.0 no_parent ≡ top stack)
        × HoldsFrom parents (t.count.0 + 1) (parents_from (t.count.0 + 1) (opened x.declaration.children t.count.0 stack) (items x.next.at))
    unfolding parents_from HoldsFrom
    entry-holds t stack x q s =
        let h : HoldsFrom parents t.count.0 (parents_from t.count.0 stack (entry x ∷ items x.next.at)) =
        subst (λ (is : List Item). HoldsFrom parents t.count.0 (parents_from t.count.0 stack is)) (items-entry t.at.at x q) s.holds in (
          h.0,
          subst (λ (k : ℕ). HoldsFrom parents k (parents_from k (opened x.declaration.children t.count.0 stack) (items x.next.at)))
              (sym (add-one t.count.0)) h.1,
        )

    entry-ends : (t : PassPosition) (x : Entry) → step_at e abbreviations look unit t.at.at ≡ Some (Entry' x) → EndsHeld ends t.count.0 (items t.at.at)
        → (get_or ends t.count.0 0 ≡ end_number x.next.at x.declaration.children) × EndsHeld ends (suc t.count.0) (items x.next.at)
    unfolding EndsHeld
    entry-ends t x q h = subst (EndsHeld ends t.count.0) (items-entry t.at.at x q) h

    entry-stood : (t : PassPosition) (stack : List ℕ) (x : Entry) (n : Nesting) → step_at e abbreviations look unit t.at.at ≡ Some (Entry' x)
        → n ≡ nesting_opened x.declaration.children t.count.0 t.nesting → t.count.0 < 2 ^ 64 - 1 → Stood items parents ends t stack
        → Stood items parents ends (stand x.next.at (t.count.0 + 1) n) (opened x.declaration.children t.count.0 stack)
    entry-stood t stack x n q m few s =
        let i : EntryInside unit t.at.at x = step-inside e abbreviations look unit t.at.at x q in
        let h = entry-holds t stack x q s in
        let l : length stack < 2 ^ 64 - 1 = omega (arith, s.counted) in
        record {
          nested = m ∙ ap (nesting_opened x.declaration.children t.count.0) s.nested ∙ opened-is x.declaration.children t.count.0 stack l;
          chained = chain-opened parents x.declaration.children t.count.0 stack h.0 s.chained;
          counted = omega (arith, length-opened x.declaration.children t.count.0 stack, s.counted);
          passed = omega (arith, s.passed, i.coded, i.ahead);
          holds = h.1;
          ends_hold = subst (λ (k : ℕ). EndsHeld ends k (items x.next.at)) (sym (add-one t.count.0)) (entry-ends t x q s.ends_hold).1;
        }

    entry_kept : (t : PassPosition) (stack : List ℕ) (x : Entry) → step_at e abbreviations look unit t.at.at ≡ Some (Entry' x)
        → kept_at items parents ends marks t stack
        ≡ with_if (is_kept marks t.count.0) (record { item = entry x; depth = length stack })
        (kept_from marks (t.count.0 + 1) (open_kept marks (opened x.declaration.children t.count.0 stack)) (items x.next.at))
    unfolding kept_from
    entry_kept t stack x q =
        ap (kept_from marks t.count.0 (open_kept marks stack)) (items-entry t.at.at x q)
        ∙ ap₂ (λ (d : ℕ) (bs : List Bool). with_if (is_kept marks t.count.0) (record { item = entry x; depth = d }) (kept_from marks (suc t.count.0) bs (items x.next.at)))
        (open-length marks stack) (open-opened marks x.declaration.children t.count.0 stack)
        ∙ ap (λ (k : ℕ). with_if (is_kept marks t.count.0) (record { item = entry x; depth = length stack })
        (kept_from marks k (open_kept marks (opened x.declaration.children t.count.0 stack)) (items x.next.at))) (sym (add-one t.count.0))

    -- ---- after a terminator

    terminator-ends : (t : PassPosition) (c : Cursor) → step_at e abbreviations look unit t.at.at ≡ Some (Terminator c) → EndsHeld ends t.count.0 (items t.at.at) → EndsHeld ends t.count.0 (items c.at)
    unfolding EndsHeld
    terminator-ends t c q h = subst (EndsHeld ends t.count.0) (items-terminator t.at.at c q) h

    terminator-stood : (t : PassPosition) (stack : List ℕ) (c : Cursor) (n : Nesting) → step_at e abbreviations look unit t.at.at ≡ Some (Terminator c)
        → n ≡ nesting_closed parents t.nesting → Stood items parents ends t stack → Stood items parents ends (stand c.at t.count.0 n) (closed stack)
    unfolding parents_from
    terminator-stood t stack c n q m s =
        let i = terminator-inside e abbreviations look unit t.at.at c q in
        record {
          nested = m ∙ ap (nesting_closed parents) s.nested ∙ closed_is parents stack s.chained;
          chained = chain-closed parents stack s.chained;
          counted = omega (arith, length-closed stack, s.counted);
          passed = omega (arith, s.passed, i.0);
          holds = subst (λ (is : List Item). HoldsFrom parents t.count.0 (parents_from t.count.0 stack is)) (items-terminator t.at.at c q) s.holds;
          ends_hold = terminator-ends t c q s.ends_hold;
        }

    terminator-kept : (t : PassPosition) (stack : List ℕ) (c : Cursor) → step_at e abbreviations look unit t.at.at ≡ Some (Terminator c) → t.nesting ≡ nesting_of stack
        → kept_at items parents ends marks t stack
        ≡ with_if (closes_kept marks t.nesting) (record { item = terminator t.at.at c.at; depth = length stack })
        (kept_from marks t.count.0 (open_kept marks (closed stack)) (items c.at))
    unfolding kept_from
    terminator-kept t stack c q m =
        ap (kept_from marks t.count.0 (open_kept marks stack)) (items-terminator t.at.at c q)
        ∙ ap₂ (λ (d : ℕ) (bs : List Bool). with_if (innermost (open_kept marks stack)) (record { item = terminator t.at.at c.at; depth = d }) (kept_from marks t.count.0 bs (items c.at)))
        (open-length marks stack) (open-closed marks stack)
        ∙ ap (λ (b : Bool). with_if b (record { item = terminator t.at.at c.at; depth = length stack }) (kept_from marks t.count.0 (open_kept marks (closed stack)) (items c.at)))
        (sym (open-innermost marks stack) ∙ ap (closes_kept marks) (sym m))

    -- ---- the loop: what is kept from the start on is what is kept from here on

    pub record Walked (s : PassPosition) (stack : List ℕ) (t : PassPosition) : Type 0 where
      pub now : List ℕ
      pub stood : Stood items parents ends t now
      pub same : kept_at items parents ends marks s stack ≡ kept_at items parents ends marks t now

    abbrev pub Walking : PassPosition → PassPosition → Type 0
    Walking s t = (s.at.at ≤ t.at.at) × ((stack : List ℕ) → Stood items parents ends s stack → Walked s stack t)

    pub walking_start : (s : PassPosition) → Walking s s
    walking_start s = (omega arith, λ stack h. record { now = stack; stood = h; same = refl })

    depth-of : (t : PassPosition) (stack : List ℕ) → t.nesting ≡ nesting_of stack → t.nesting.depth ≡ length stack
    unfolding nesting_of
    depth-of t stack m = ap (λ (n : Nesting). n.depth) m

    module _ (s t : PassPosition) (w : Walking s t) where
      pub end-end : step_at e abbreviations look unit t.at.at ≡ Some StepEnd → Answers items parents ends marks unit s None
      unfolding Forward Next kept_from
      end-end q =
          record {
            forward = tt;
            next = λ stack g.
                let v = w.1 stack g in
                v.same ∙ ap (kept_from marks t.count.0 (open_kept marks v.now)) (items-end t.at.at q);
          }

      pub end-bad : step_at e abbreviations look unit t.at.at ≡ None → Answers items parents ends marks unit s None
      unfolding Forward Next kept_from
      end-bad q =
          record {
            forward = tt;
            next = λ stack g.
                let v = w.1 stack g in
                v.same ∙ ap (kept_from marks t.count.0 (open_kept marks v.now)) (items-bad t.at.at q);
          }

      module _ (x : Entry) (q : step_at e abbreviations look unit t.at.at ≡ Some (Entry' x)) where
        module _ (n : Nesting) (m : n ≡ nesting_opened x.declaration.children t.count.0 t.nesting) (few : t.count.0 < 2 ^ 64 - 1) where
          pub entry-item : is_kept marks t.count.0 ≡ true
              → Answers items parents ends marks unit s (Some (record {
                start = record { 0 = t.at.at };
                end = x.next;
                depth = t.nesting.depth;
                is_entry = true;
                specs = x.declaration.attributes;
                values = x.values;
                next = stand x.next.at (t.count.0 + 1) n;
              }))
          unfolding Forward Next ShowsItem
          entry-item k =
              let i : EntryInside unit t.at.at x = step-inside e abbreviations look unit t.at.at x q in
              record {
                forward = (w.0, omega (arith, i.coded, i.ahead), i.within, refl);
                next = λ stack g.
                    let v = w.1 stack g in
                    record {
                      standing = record { item = entry x; depth = length v.now };
                      after = opened x.declaration.children t.count.0 v.now;
                      whole = v.same ∙ entry_kept t v.now x q ∙ with-yes _ _ _ k;
                      shows = (refl, sym i.here, refl, refl, refl);
                      deep = depth-of t v.now v.stood.nested;
                      low = omega (arith, depth-of t v.now v.stood.nested, v.stood.counted, v.stood.passed);
                      stood = entry-stood t v.now x n q m few v.stood;
                    };
              }

          pub entry-on : is_kept marks t.count.0 ≡ false → Walking s (stand x.next.at (t.count.0 + 1) n)
          entry-on k =
              let i : EntryInside unit t.at.at x = step-inside e abbreviations look unit t.at.at x q in (
                omega (arith, w.0, i.coded, i.ahead),
                λ stack g.
                    let v = w.1 stack g in
                    record {
                      now = opened x.declaration.children t.count.0 v.now;
                      stood = entry-stood t v.now x n q m few v.stood;
                      same = v.same ∙ entry_kept t v.now x q ∙ with-no _ _ _ k;
                    },
              )

      module _ (c : Cursor) (q : step_at e abbreviations look unit t.at.at ≡ Some (Terminator c)) where
        pub terminator-less : length unit - c.at < length unit - t.at.at
        terminator-less = let i = terminator-inside e abbreviations look unit t.at.at c q in omega (arith, i.0, i.1)

        module _ (n : Nesting) (m : n ≡ nesting_closed parents t.nesting) where
          pub terminator-item : closes_kept marks t.nesting ≡ true
              → Answers items parents ends marks unit s (Some (record {
                start = record { 0 = t.at.at };
                end = c;
                depth = t.nesting.depth;
                is_entry = false;
                specs = c;
                values = c;
                next = stand c.at t.count.0 n;
              }))
          unfolding Forward Next ShowsItem
          terminator-item k =
              let i = terminator-inside e abbreviations look unit t.at.at c q in
              record {
                forward = (w.0, i.0, i.1, refl);
                next = λ stack g.
                    let v = w.1 stack g in
                    record {
                      standing = record { item = terminator t.at.at c.at; depth = length v.now };
                      after = closed v.now;
                      whole = v.same ∙ terminator-kept t v.now c q v.stood.nested ∙ with-yes _ _ _ k;
                      shows = (refl, refl, refl);
                      deep = depth-of t v.now v.stood.nested;
                      low = omega (arith, depth-of t v.now v.stood.nested, v.stood.counted, v.stood.passed);
                      stood = terminator-stood t v.now c n q m v.stood;
                    };
              }

          pub terminator-on : closes_kept marks t.nesting ≡ false → Walking s (stand c.at t.count.0 n)
          terminator-on k =
              let i = terminator-inside e abbreviations look unit t.at.at c q in (
                omega (arith, w.0, i.0),
                λ stack g.
                    let v = w.1 stack g in
                    record {
                      now = closed v.now;
                      stood = terminator-stood t v.now c n q m v.stood;
                      same = v.same ∙ terminator-kept t v.now c q v.stood.nested ∙ with-no _ _ _ k;
                    },
              )

      -- ---- an entry, by the column of ends

      module _ (h : t.at.at < length unit) (b : Option (ℕ × Cursor)) (p : b ≡ leb_at uleb unit t.at.at) where
        pub stop-none : b ≡ None → Answers items parents ends marks unit s None
        stop-none q = end-bad (sym (step-none e abbreviations look unit t.at.at h b p q))

        module _ (code : ℕ) (values : Cursor) (q : b ≡ Some (code, values)) where
          pub at-terminator : code ≡ 0 → step_at e abbreviations look unit t.at.at ≡ Some (Terminator values)
          at-terminator z = sym (step-terminator e abbreviations look unit t.at.at h b p code values q z)

          past-code : (t.at.at < values.at) × (values.at ≤ length unit)
          past-code = uleb-inside unit t.at.at code values (sym p ∙ q)

          module _ (z : code ≡ 0 → ⊥) where
            pub stop-unknown : (f : Option Declaration) → whole_found abbreviations f ≡ look code → f ≡ None → Answers items parents ends marks unit s None
            stop-unknown f k l = end-bad (sym (step-unknown e abbreviations look unit t.at.at h b p code values q z f k l))

            stop-unless : ((x : CodedEntry t.at.at code values) (stack : List ℕ) → Stood items parents ends t stack → ⊥) → Answers items parents ends marks unit s None
            unfolding Forward
            stop-unless f =
                record {
                  forward = tt;
                  next = λ stack g.
                      ⊎_elim (λ x. let v = w.1 stack g in absurd (f x v.now v.stood)) (λ k. (end-bad k).next stack g)
                      (coded t.at.at code values h b p q z);
                }

            -- the column has a number, not 0, for each entry
            pub stop-past : (k : ℕ) → k ≡ t.count.0 → length ends ≤ k → Answers items parents ends marks unit s None
            stop-past k is l = stop-unless (λ x stack g.
                let i = step-inside e abbreviations look unit t.at.at x.of x.is in
                let y : x.of.next.at ≡ 0 =
                sym (half x.of.next.at x.of.declaration.children)
                ∙ ap (λ (m : ℕ). m / 2) (sym (entry-ends t x.of x.is g.ends_hold).0 ∙ ap (λ (j : ℕ). get_or ends j 0) (sym is) ∙ get_or-eq_default ends 0 l) in
                omega (arith, i.coded, i.ahead, y))

            module _ (n : ℕ) (is : n ≡ get_or ends t.count.0 0) where
              ends_at : (x : CodedEntry t.at.at code values) (stack : List ℕ) → Stood items parents ends t stack → n / 2 ≡ x.of.next.at
              ends_at x stack g = ap (λ (m : ℕ). m / 2) (is ∙ (entry-ends t x.of x.is g.ends_hold).0) ∙ half x.of.next.at x.of.declaration.children

              opens : (x : CodedEntry t.at.at code values) (stack : List ℕ) → Stood items parents ends t stack → eqb (n % 2) 1 ≡ x.of.declaration.children
              opens x stack g = ap (λ (m : ℕ). eqb (m % 2) 1) (is ∙ (entry-ends t x.of x.is g.ends_hold).0) ∙ odd x.of.next.at x.of.declaration.children

              pub stop-low : n / 2 < values.at → Answers items parents ends marks unit s None
              stop-low l = stop-unless (λ x stack g.
                  let i = step-inside e abbreviations look unit t.at.at x.of x.is in
                  let k : x.of.values.at ≡ values.at = ap (λ (c : Cursor). c.at) x.from in
                  omega (arith, i.ahead, ends_at x stack g))

              pub stop-high : length unit < n / 2 → Answers items parents ends marks unit s None
              stop-high l = stop-unless (λ x stack g.
                  let i = step-inside e abbreviations look unit t.at.at x.of x.is in
                  omega (arith, i.within, ends_at x stack g))

              module _ (low : values.at ≤ n / 2) (high : n / 2 ≤ length unit) where
                -- the column says of nothing that can't be read where it ends
                there : (stack : List ℕ) → Stood items parents ends t stack → CodedEntry t.at.at code values
                unfolding EndsHeld
                there stack g =
                    ⊎_elim (λ x. x)
                    (λ k.
                    let y : get_or ends t.count.0 0 ≡ 0 = subst (EndsHeld ends t.count.0) (items-bad t.at.at k) g.ends_hold in
                    let o : n ≡ 0 = is ∙ y in
                    let a : t.at.at < values.at = past-code.0 in
                    absurd (omega arith))
                    (coded t.at.at code values h b p q z)

                pub ends-less : length unit - n / 2 < length unit - t.at.at
                ends-less = let a : t.at.at < values.at = past-code.0 in omega arith

                module _ (m : Nesting) (o : m ≡ nesting_opened (eqb (n % 2) 1) t.count.0 t.nesting) (few : t.count.0 < 2 ^ 64 - 1) where
                  pub ends_on : is_kept marks t.count.0 ≡ false → Walking s (stand (n / 2) (t.count.0 + 1) m)
                  ends_on k = (
                    let a : t.at.at < values.at = past-code.0 in omega (arith, w.0),
                    λ stack g.
                        let v = w.1 stack g in
                        let x : CodedEntry t.at.at code values = there v.now v.stood in
                        subst (λ (end : ℕ). Walked s stack (stand end (t.count.0 + 1) m)) (sym (ends_at x v.now v.stood))
                        ((entry-on x.of x.is m (o ∙ ap (λ (c : Bool). nesting_opened c t.count.0 t.nesting) (opens x v.now v.stood)) few k).1 stack g),
                  )

                  pub ends-item : (f : Option Declaration) → whole_found abbreviations f ≡ look code → (d : Declaration) → f ≡ Some d → is_kept marks t.count.0 ≡ true
                      → Answers items parents ends marks unit s (Some (record {
                        start = record { 0 = t.at.at };
                        end = record { at = n / 2 };
                        depth = t.nesting.depth;
                        is_entry = true;
                        specs = d.attributes;
                        values = values;
                        next = stand (n / 2) (t.count.0 + 1) m;
                      }))
                  unfolding Forward
                  ends-item f k d l y =
                      record {
                        forward = (w.0, (let a : t.at.at < values.at = past-code.0 in omega arith), high, refl);
                        next = λ stack g.
                            let v = w.1 stack g in
                            let x : CodedEntry t.at.at code values = there v.now v.stood in
                            let same : d ≡ x.of.declaration = whole_same abbreviations d x.of.declaration (ap (whole_found abbreviations) (sym l) ∙ k ∙ x.declared) in
                            subst (λ (end : ℕ). Next items parents ends marks s stack (Some (record { start = record { 0 = t.at.at }; end = record { at = end }; depth = t.nesting.depth; is_entry = true; specs = d.attributes; values = values; next = stand end (t.count.0 + 1) m })))
                            (sym (ends_at x v.now v.stood))
                            (subst (λ (c : Cursor). Next items parents ends marks s stack (Some (record { start = record { 0 = t.at.at }; end = x.of.next; depth = t.nesting.depth; is_entry = true; specs = d.attributes; values = c; next = stand x.of.next.at (t.count.0 + 1) m })))
                            x.from
                            (subst (λ (c : Declaration). Next items parents ends marks s stack (Some (record { start = record { 0 = t.at.at }; end = x.of.next; depth = t.nesting.depth; is_entry = true; specs = c.attributes; values = x.of.values; next = stand x.of.next.at (t.count.0 + 1) m })))
                            (sym same)
                            ((entry-item x.of x.is m (o ∙ ap (λ (c : Bool). nesting_opened c t.count.0 t.nesting) (opens x v.now v.stood)) few y).next stack g)));
                      }
