-- The indices of the kept entries, item by item. Assumes nothing.
use mathlib.Core.Path.{◌≡◌, refl, ap, ap₂, sym, ◌∙◌, subst}
use Prim.Native.Nat.{ℕ, ◌-◌, ◌<◌}
use native.Mathlib.Omega.{arith}
use mathlib.Core.Bool.{true, false}
use mathlib.Core.List.{List, [], ◌∷◌, ◌++◌}
use lib.ListN.{length}
use Rattle.readers.specs.Abbreviations.{declared_in, find_at}
use Rattle.readers.specs.Entries.{step_at}
use Rattle.readers.specs.Nesting.{nesting_of}
use Rattle.readers.specs.Stream.{Item, entry, terminator}
use Rattle.readers.proofs.Streams.{step-look}
use Rattle.readers.specs.declared.cursor.Encoding.{Encoding}
use Rattle.readers.specs.declared.cursor.Cursor.{Cursor}
use Rattle.std.specs.Prelude.{Option, Some, None}
use Rattle.readers.specs.declared.abbreviations.Declaration.{Declaration}
use Rattle.readers.specs.declared.entries.Step.{Step}
use Rattle.readers.specs.declared.entries.Nesting.{Nesting}
use Rattle.readers.specs.declared.entries.Step.TheVariants.{Entry as Entry', Terminator}
use Rattle.readers.specs.EntryAttributes.{entry_values}
use Rattle.marking.specs.Analysis.{Sections}
use Rattle.rewriting.specs.Places.{NestedItem, kept_from, offset_of}
use Rattle.readers.specs.Inner.Nesting.{Chain}
use Rattle.rewriting.specs.Indices.{read_indices}
use Rattle.rewriting.specs.Rewriting.{Unit as Unit', reads_or, reads_at, indices_from}
use Rattle.rewriting.specs.Inner.NextKept.{open_kept, items_by, ShowsItem, Forward, Stood, kept_at, NextItem, Next, Answers}
use Rattle.rewriting.specs.Inner.Gathering.{Gathers}
use Rattle.rewriting.specs.Inner.IndexLists.{value_indices, ReadAs, TablesFound, ReadDeep, AllRead, PassInput, Puts}
use Rattle.rewriting.specs.declared.kept_items.Reading.{Reading}
use Rattle.rewriting.specs.declared.kept_items.PassPosition.{PassPosition}
use Rattle.rewriting.specs.declared.kept_items.KeptItem.{KeptItem}
use Rattle.rewriting.proofs.KeptPass.ItemDepths.{Every, Stands, kept-stand}
use Rattle.rewriting.proofs.ListPass.EntryIndices.{deep-indices}
use Rattle.rewriting.proofs.KeptPass.EntryReads.{StepBy}
use Rattle.rewriting.proofs.ListPass.GatherLaws.{gathered_none}
use Rattle.rewriting.proofs.ListPass.Holdings.{Onward, onward-start, onward-on, onward-more, onward-end}

module _ (r : Reading) (s table unit : List ℕ) (k : ℕ) where
  abbrev look : ℕ → Option Declaration
  look = find_at s r.from table

  -- ---- the indices of a kept item

  unfoldable ItemIndices : Item → List ℕ → Type 0
  ItemIndices (entry y) is = is ≡ value_indices k (entry_values r.encoding s y.declaration.attributes.at unit y.values.at)
  ItemIndices (terminator a b) is = is ≡ []

  module _ (x : Sections) (u : Unit') (w : ReadAs x u r s unit) (f : TablesFound u r s table) (small : k < 3) where
    same_step : (at : ℕ) → step_at u.header.encoding x.abbreviations (declared_in u.declared) u.bytes at ≡ step_at r.encoding s look unit at
    same_step at =
        ap (λ (e : Encoding). step_at e x.abbreviations (declared_in u.declared) u.bytes at) w.encoding_is
        ∙ ap (λ (l : List ℕ). step_at r.encoding l (declared_in u.declared) u.bytes at) w.abbreviations_are
        ∙ ap (λ (l : List ℕ). step_at r.encoding s (declared_in u.declared) l at) w.bytes_are
        ∙ sym (step-look r.encoding s look (declared_in u.declared) f unit at)

    same-values : (p at : ℕ) → value_indices k (entry_values u.header.encoding x.abbreviations p u.bytes at) ≡ value_indices k (entry_values r.encoding s p unit at)
    same-values p at =
        ap (λ (e : Encoding). value_indices k (entry_values e x.abbreviations p u.bytes at)) w.encoding_is
        ∙ ap (λ (l : List ℕ). value_indices k (entry_values r.encoding l p u.bytes at)) w.abbreviations_are
        ∙ ap (λ (l : List ℕ). value_indices k (entry_values r.encoding s p l at)) w.bytes_are

    reads-are : (at : ℕ) (d : ReadDeep x u at) → reads_at x u at ≡ d.run.0
    unfolding reads_at reads_or
    reads-are at d = ap (reads_or x u) d.is

    item-indices : (i : Item) → Stands r.encoding s look unit i → ReadDeep x u (offset_of i) → ItemIndices i (read_indices k (reads_at x u (offset_of i)))
    unfolding ItemIndices Stands offset_of StepBy
    item-indices (entry y) q d =
        let g : StepBy (value_indices k) u.header.encoding u.bytes x.abbreviations (Some (Entry' y)) (read_indices k d.run.0) =
        subst (λ (o : Option Step). StepBy (value_indices k) u.header.encoding u.bytes x.abbreviations o (read_indices k d.run.0))
        (same_step y.offset.0 ∙ q)
        (deep-indices k small u.header.encoding u.bytes x.abbreviations (declared_in u.declared) y.offset.0 d.run d.is) in
        ap (read_indices k) (reads-are y.offset.0 d) ∙ g ∙ same-values y.declaration.attributes.at y.values.at
    item-indices (terminator a b) q d =
        let g : StepBy (value_indices k) u.header.encoding u.bytes x.abbreviations (Some (Terminator (record { at = b }))) (read_indices k d.run.0) =
        subst (λ (o : Option Step). StepBy (value_indices k) u.header.encoding u.bytes x.abbreviations o (read_indices k d.run.0))
        (same_step a ∙ q)
        (deep-indices k small u.header.encoding u.bytes x.abbreviations (declared_in u.declared) a d.run d.is) in
        ap (read_indices k) (reads-are a d) ∙ g

  -- as the code is shown it
  shown-entry : (y : KeptItem) (i : Item) (is : List ℕ) → ShowsItem y i → y.is_entry ≡ true → ItemIndices i is
      → is ≡ value_indices k (entry_values r.encoding s y.specs.at unit y.values.at)
  unfolding ShowsItem ItemIndices
  shown-entry y (entry z) is h t g =
      g ∙ ap₂ (λ (a b : Cursor). value_indices k (entry_values r.encoding s a.at unit b.at)) (sym h.3) (sym h.4)
  shown-entry y (terminator a b) is h t g = let z : true ≡ false = sym t ∙ h.0 in let n : ◌≡◌ {A = ℕ} 0 1 = cc in absurd (omega arith)

  shown-terminator : (y : KeptItem) (i : Item) (is : List ℕ) → ShowsItem y i → y.is_entry ≡ false → ItemIndices i is → is ≡ []
  unfolding ShowsItem ItemIndices
  shown-terminator y (entry z) is h t g = let z : false ≡ true = sym t ∙ h.0 in let n : ◌≡◌ {A = ℕ} 0 1 = cc in absurd (omega arith)
  shown-terminator y (terminator a b) is h t g = g

  -- ---- the loop

  module _ (parents ends marks : List ℕ) (first : ℕ) where
    abbrev items : ℕ → List Item
    items at = items_by r s table unit at

    abbrev all-kept : List NestedItem
    all-kept = kept_from marks 0 [] (items first)

    -- a pass that puts the indices of what it has met into a list
    pub record Passing (x : Sections) (u : Unit') (list₀ : List ℕ) (t : PassPosition) (list : List ℕ) (n : ℕ) : Type 0 where
      pub stack : List ℕ
      pub stood : Stood items parents ends t stack
      pub deep : AllRead x u (kept_at items parents ends marks t stack)
      pub onward : Onward (indices_from x u k all-kept) 0 list₀ (indices_from x u k (kept_at items parents ends marks t stack)) n list

    abbrev pub Collecting : List ℕ → PassPosition → List ℕ → ℕ → Type 0
    Collecting list₀ t list n =
        (length list ≡ length list₀) × ((x : Sections) (u : Unit') → PassInput x u r s table unit parents ends marks first → k < 3 → Passing x u list₀ t list n)

    pub collecting-start : (list₀ : List ℕ) (n : Nesting) → n ≡ nesting_of [] → Collecting list₀ (record { at = record { at = first }; count = record { 0 = 0 }; nesting = n }) list₀ 0
    unfolding open_kept Chain
    collecting-start list₀ n m = (
      refl,
      λ x u p l. record {
        stack = [];
        stood = record { nested = m; chained = tt; counted = omega arith; passed = omega arith; holds = p.holds; ends_hold = p.ends_hold };
        deep = p.deep;
        onward = onward-start _ _ _;
      },
    )

    module _ (t : PassPosition) (o : Option KeptItem) (a : Answers items parents ends marks unit t o) where
      pub collect-less : (y : KeptItem) → o ≡ Some y → length unit - y.next.at.at < length unit - t.at.at
      unfolding Forward
      collect-less y q =
          let i : Forward unit t.at.at (Some y) = subst (Forward unit t.at.at) q a.forward in
          omega (arith, i.0, i.1, i.2, i.3)

      module _ (list₀ list : List ℕ) (n : ℕ) (g : Collecting list₀ t list n) where
        pub collect-end : o ≡ None → k < 3 → Puts k r s table unit parents ends marks first list₀ n list
        unfolding Next indices_from
        collect-end q l x u p h =
            let v : Passing x u list₀ t list n = g.1 x u p l in
            let e : kept_at items parents ends marks t v.stack ≡ [] = subst (Next items parents ends marks t v.stack) q (a.next v.stack v.stood) in
            onward-end _ _ _ _ _ _ v.onward (ap (indices_from x u k) e) [] (gathered_none list₀ h)

        module _ (y : KeptItem) (q : o ≡ Some y) where
          module _ (x : Sections) (u : Unit') (p : PassInput x u r s table unit parents ends marks first) (l : k < 3) where
            abbrev now : Passing x u list₀ t list n
            now = g.1 x u p l

            next-item : NextItem items parents ends marks t now.stack y
            unfolding Next
            next-item = subst (Next items parents ends marks t now.stack) q (a.next now.stack now.stood)

            deep-here : AllRead x u (next-item.standing ∷ kept_at items parents ends marks y.next next-item.after)
            deep-here = subst (AllRead x u) next-item.whole now.deep

            deep-after : AllRead x u (kept_at items parents ends marks y.next next-item.after)
            unfolding AllRead
            deep-after = deep-here.1

            stands_here : Stands r.encoding s look unit next-item.standing.item
            unfolding Every
            stands_here =
                let h : Every (λ (z : NestedItem). Stands r.encoding s look unit z.item) (next-item.standing ∷ kept_at items parents ends marks y.next next-item.after) =
                subst (Every (λ (z : NestedItem). Stands r.encoding s look unit z.item)) next-item.whole
                (kept-stand r.encoding s look unit marks t.count.0 (open_kept marks now.stack) t.at.at) in
                h.0

            indices-here : ItemIndices next-item.standing.item (read_indices k (reads_at x u (offset_of next-item.standing.item)))
            unfolding AllRead
            indices-here = item-indices x u p.read p.found l next-item.standing.item stands_here deep-here.0

            turn : (is : List ℕ) → read_indices k (reads_at x u (offset_of next-item.standing.item)) ≡ is
                → indices_from x u k (kept_at items parents ends marks t now.stack) ≡ is ++ indices_from x u k (kept_at items parents ends marks y.next next-item.after)
            unfolding indices_from
            turn is e =
                ap (indices_from x u k) next-item.whole
                ∙ ap (λ (js : List ℕ). js ++ indices_from x u k (kept_at items parents ends marks y.next next-item.after)) e

            passing-on : (m : ℕ) (after : List ℕ)
                → Onward (indices_from x u k all-kept) 0 list₀ (indices_from x u k (kept_at items parents ends marks y.next next-item.after)) m after
                → Passing x u list₀ y.next after m
            passing-on m after o = record { stack = next-item.after; stood = next-item.stood; deep = deep-after; onward = o }

          -- a terminator
          pub collect-terminator : y.is_entry ≡ false → Collecting list₀ y.next list n
          collect-terminator b = (
            g.0,
            λ x u p l.
                let i = next-item x u p l in
                passing-on x u p l n list
                (onward-on _ _ _ _ _ _ (now x u p l).onward _ (turn x u p l [] (shown-terminator y i.standing.item _ i.shows b (indices-here x u p l)))),
          )

          -- an entry, whose indices were put into the list
          pub collect-entry : y.is_entry ≡ true → (m : ℕ) (after : List ℕ) → length after ≡ length list
              → Gathers (value_indices k (entry_values r.encoding s y.specs.at unit y.values.at)) n list m after → Collecting list₀ y.next after m
          collect-entry b m after e d = (
            e ∙ g.0,
            λ x u p l.
                let i = next-item x u p l in
                passing-on x u p l m after
                (onward-more _ _ _ _ _ _ (now x u p l).onward _ _ (turn x u p l _ (shown-entry y i.standing.item _ i.shows b (indices-here x u p l))) m after d),
          )
