-- THE LAW OF READING AGAIN: the kept items of a unit, each patched at its own widths and written one after the other, are read as those items at their new places.
-- Assumes nothing.
use mathlib.Core.Path.{◌≡◌, refl, ap, ap₂, sym, ◌∙◌}
use Prim.Native.Nat.{ℕ, ◌+◌}
use mathlib.Core.Bool.{true}
use Rattle.std.specs.Prelude.{Option, Some}
use Rattle.readers.specs.declared.abbreviations.Declaration.{Declaration}
use Rattle.readers.specs.declared.entries.Step.{Step}
use mathlib.Core.List.{List, [], ◌∷◌, ◌++◌, map, append_assoc, append-nil}
use native.Mathlib.Omega.{arith}
use lib.ListN.{length, length-append}
use Rattle.readers.specs.Layout.{Read, write_all, Patch, patch_all}
use Rattle.readers.proofs.LayoutLaws.{FitAll}
use Rattle.readers.specs.Expression.{expression_in}
use Rattle.readers.proofs.Expression.{expression-law}
use Rattle.readers.specs.Entries.{step_at}
use Rattle.readers.specs.Abbreviations.{declared_in}
use Rattle.readers.specs.declared.cursor.Encoding.{Encoding}
use Rattle.readers.proofs.Values.{step_end}
use Rattle.readers.specs.Stream.{Item, entry, terminator, Items, push, on_step, items_from}
use Rattle.marking.specs.Analysis.{Sections}
use Rattle.rewriting.specs.Places.{NestedItem, offset_of, size_of, Place, places_from, size_from}
use Rattle.laws.specs.Moved.{moved_entry, moved_item}
use Rattle.laws.specs.Inner.Moved.{moved_step, moved_from}
use Rattle.rewriting.specs.Rewriting.{Unit as Unit', reads_or, reads_at, Lists, new_value, bytes_from}
use Rattle.readers.proofs.Streams.{items-step}
use Rattle.rewriting.proofs.KeptPass.DeepReads.{deep-ends}
use Rattle.laws.proofs.Again.Again.{same_width, step-again}
use Rattle.rewriting.proofs.KeptPass.ItemDepths.{Every, Stands, Readable, StandsThere, deep_at, size-of}

-- ---- one item

module _ (e : Encoding) (abbreviations : List ℕ) (look : ℕ → Option Declaration) (unit : List ℕ) where
  -- the turn of a moved step
  turn_moved : (i : Item) (n : ℕ) (r : Option Step) → Stands e abbreviations look unit i → r ≡ moved_step (offset_of i) n (step_at e abbreviations look unit (offset_of i))
      → (k : ℕ → Items) → on_step n r k ≡ push (moved_item n i) (k (n + size_of i))
  unfolding Stands on_step moved_item moved_step moved_entry offset_of size_of
  turn_moved (entry x) n r s q k = ap (λ t. on_step n t k) (q ∙ ap (moved_step x.offset.0 n) s)
  turn_moved (terminator a b) n r s q k = ap (λ t. on_step n t k) (q ∙ ap (moved_step a n) s)

-- ---- all of them

-- what each kept item must be: what stands at its offset, readable deep, its new values fitting

module _ (x : Sections) (u : Unit') (lists : Lists) (places : List Place) where
  abbrev encoding : Encoding
  encoding = u.header.encoding

  abbrev look : ℕ → Option Declaration
  look = declared_in u.declared

  abbrev pub Fits : NestedItem → Type 0
  Fits s = FitAll (new_value lists places s.depth) (reads_at x u (offset_of s.item))

  pub record Rewritable (s : NestedItem) : Type 0 where
    pub stands : StandsThere x u s
    pub deep : Readable x u s
    pub fit : Fits s

  pub rewritable : (kept : List NestedItem) → Every (StandsThere x u) kept → Every (Readable x u) kept → Every Fits kept → Every Rewritable kept
  unfolding Every
  rewritable [] p q r = tt
  rewritable (s ∷ kept) p q r = (record { stands = p.0; deep = q.0; fit = r.0 }, rewritable kept p.1 q.1 r.1)

  module _ (s : NestedItem) (h : Rewritable s) where
    abbrev reads : List Read
    reads = reads_at x u (offset_of s.item)

    abbrev patch : Patch
    patch = new_value lists places s.depth

    abbrev written : List ℕ
    written = write_all encoding.big_endian (patch_all patch reads)

    reads-are : reads ≡ h.deep.run.0
    unfolding reads_at reads_or
    reads-are = ap (reads_or x u) h.deep.is

    pub deep-read : deep_at x u (offset_of s.item) ≡ Some (reads, h.deep.run.1)
    deep-read = h.deep.is ∙ ap (λ (rs : List Read). Some (rs, h.deep.run.1)) (sym reads-are)

    pub length-written : length written ≡ size_of s.item
    length-written =
        same_width encoding x.abbreviations look (expression_in encoding) (expression-law encoding) u.bytes (offset_of s.item) reads h.deep.run.1 deep-read patch h.fit [] []
        ∙ size-of encoding x.abbreviations look u.bytes s.item _ h.stands
        (deep-ends encoding x.abbreviations look (expression_in encoding) (expression-law encoding) u.bytes (offset_of s.item) reads h.deep.run.1 deep-read)

    item-again : (front back : List ℕ) (n : ℕ) → length front ≡ n
        → items_from encoding x.abbreviations look (front ++ (written ++ back)) n
        ≡ push (moved_item n s.item) (items_from encoding x.abbreviations look (front ++ (written ++ back)) (n + size_of s.item))
    item-again front back n l =
        items-step encoding x.abbreviations look (front ++ (written ++ back)) n
        ∙ turn_moved encoding x.abbreviations look u.bytes s.item n _ h.stands
        (step-again encoding x.abbreviations look (expression_in encoding) (expression-law encoding) u.bytes (offset_of s.item) reads h.deep.run.1 deep-read patch h.fit front back n l)
        (items_from encoding x.abbreviations look (front ++ (written ++ back)))

  pub length-bytes : (kept : List NestedItem) → Every Rewritable kept → length (bytes_from x u lists places kept) ≡ size_from kept
  unfolding Every bytes_from size_from
  length-bytes [] h = refl
  length-bytes (s ∷ kept) h =
      length-append (written s h.0) (bytes_from x u lists places kept) ∙ ap₂ ◌+◌ (length-written s h.0) (length-bytes kept h.1)

  -- at its end
  none-again : (front : List ℕ) (n : ℕ) → length front ≡ n → items_from encoding x.abbreviations look front n ≡ ([], true)
  unfolding on_step
  none-again front n l =
      items-step encoding x.abbreviations look front n
      ∙ ap (λ r. on_step n r (items_from encoding x.abbreviations look front)) (sym (step_end encoding x.abbreviations look front n (omega arith)))

  pub reread : (kept : List NestedItem) → Every Rewritable kept → (front : List ℕ) (n : ℕ) → length front ≡ n
      → items_from encoding x.abbreviations look (front ++ bytes_from x u lists places kept) n ≡ (moved_from n kept, true)
  unfolding Every bytes_from moved_from push
  reread [] h front n l = ap (λ z. items_from encoding x.abbreviations look z n) (append-nil front) ∙ none-again front n l
  reread (s ∷ kept) h front n l =
      let w : List ℕ = written s h.0 in
      let more : List ℕ = bytes_from x u lists places kept in
      item-again s h.0 front more n l
      ∙ ap (push (moved_item n s.item))
      (ap (λ z. items_from encoding x.abbreviations look z (n + size_of s.item)) (sym (append_assoc front w more))
      ∙ reread kept h.1 (front ++ w) (n + size_of s.item) (length-append front w ∙ ap₂ ◌+◌ l (length-written s h.0)))

-- ---- their places

moved-offset : (n : ℕ) (i : Item) → offset_of (moved_item n i) ≡ n
unfolding offset_of moved_item moved_entry
moved-offset n (entry x) = refl
moved-offset n (terminator a b) = refl

pub moved-places : (n : ℕ) (kept : List NestedItem) → map offset_of (moved_from n kept) ≡ map (λ (p : Place). p.new) (places_from n kept)
unfolding moved_from places_from
moved-places n [] = refl
moved-places n (s ∷ kept) = ap₂ (λ (m : ℕ) (l : List ℕ). m ∷ l) (moved-offset n s.item) (moved-places (n + size_of s.item) kept)
