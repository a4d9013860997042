-- The items of a unit are what stands at their offsets; so are those that are kept. Assumes nothing.
use mathlib.Core.Path.{◌≡◌, refl, ap, ◌∙◌, subst}
use Prim.Native.Nat.{ℕ, zero, suc, ◌-◌, ◌+◌}
use mathlib.Core.Bool.{Bool, true, false}
use mathlib.Core.List.{List, [], ◌∷◌}
use lib.ListN.{length, drop}
use Rattle.readers.specs.Cursors.{cursor}
use Rattle.readers.specs.Entries.{step_at, entry_layout}
use Rattle.readers.specs.declared.cursor.Encoding.{Encoding}
use Rattle.std.specs.Prelude.{None, Option, Some}
use Rattle.readers.specs.declared.abbreviations.Declaration.{Declaration}
use Rattle.readers.specs.declared.entries.Step.{Step}
use Rattle.readers.specs.declared.entries.Step.TheVariants.{Entry as Entry', Terminator, End}
use Rattle.marking.specs.Marks.{is_kept}
use Rattle.readers.specs.Stream.{Item, entry, terminator, Items, push, on_step, items_within, items_from}
use Rattle.rewriting.specs.Places.{NestedItem, innermost, with_if, kept_from, offset_of, size_of}
use Rattle.readers.proofs.Streams.{EntryInside, step-inside}
use native.Mathlib.Omega.{arith}
use Rattle.readers.specs.Layout.{RunOf, read_in}
use Rattle.readers.specs.Expression.{expression_in}
use Rattle.readers.specs.Abbreviations.{declared_in}
use Rattle.readers.specs.Nesting.{opened, closed}
use Rattle.marking.specs.Analysis.{Sections}
use Rattle.rewriting.specs.Rewriting.{Unit as Unit'}
use Rattle.rewriting.proofs.KeptPass.DeepReads.{EndsAt}

unfoldable pub EveryItem : (Item → Type 0) → List Item → Type 0
EveryItem P [] = Unit {0}
EveryItem P (i ∷ is) = P i × EveryItem P is

unfoldable pub Every : (NestedItem → Type 0) → List NestedItem → Type 0
Every P [] = Unit {0}
Every P (s ∷ ss) = P s × Every P ss

-- ---- what is kept of items of which something holds

module _ (P : Item → Type 0) where
  with-if : (b : Bool) (s : NestedItem) (ss : List NestedItem) → P s.item → Every (λ t. P t.item) ss → Every (λ t. P t.item) (with_if b s ss)
  unfolding with_if Every
  with-if true s ss p q = (p, q)
  with-if false s ss p q = q

  pub every-kept : (marks : List ℕ) (k : ℕ) (stack : List Bool) (is : List Item) → EveryItem P is → Every (λ t. P t.item) (kept_from marks k stack is)
  unfolding kept_from EveryItem Every
  every-kept marks k stack [] h = tt
  every-kept marks k stack (entry x ∷ is) h =
      with-if (is_kept marks k) _ _ h.0 (every-kept marks (suc k) (opened x.declaration.children (is_kept marks k) stack) is h.1)
  every-kept marks k stack (terminator a b ∷ is) h = with-if (innermost stack) _ _ h.0 (every-kept marks k (closed stack) is h.1)

-- ---- what stands at a place

module _ (e : Encoding) (abbreviations : List ℕ) (look : ℕ → Option Declaration) (unit : List ℕ) where
  unfoldable pub Stands : Item → Type 0
  Stands (entry x) = step_at e abbreviations look unit x.offset.0 ≡ Some (Entry' x)
  Stands (terminator a b) = step_at e abbreviations look unit a ≡ Some (Terminator (cursor b))

  turn-stands : (at : ℕ) (r : Option Step) → step_at e abbreviations look unit at ≡ r → (k : ℕ → Items) → ((n : ℕ) → EveryItem Stands (k n).0) → EveryItem Stands (on_step at r k).0
  unfolding on_step push EveryItem Stands
  turn-stands at (Some (Entry' x)) q k h =
      let i : EntryInside unit at x = step-inside e abbreviations look unit at x q in
      (ap (step_at e abbreviations look unit) i.here ∙ q, h x.next.at)
  turn-stands at (Some (Terminator c)) q k h = (q, h c.at)
  turn-stands at (Some End) q k h = tt
  turn-stands at None q k h = tt

  within-stand : (j at : ℕ) → EveryItem Stands (items_within e abbreviations look unit j at).0
  unfolding items_within EveryItem
  within-stand zero at = tt
  within-stand (suc j) at = turn-stands at (step_at e abbreviations look unit at) refl _ (λ n. within-stand j n)

  pub items-stand : (at : ℕ) → EveryItem Stands (items_from e abbreviations look unit at).0
  unfolding items_from
  items-stand at = within-stand (suc (length unit - at)) at

  pub kept-stand : (marks : List ℕ) (k : ℕ) (stack : List Bool) (at : ℕ) → Every (λ t. Stands t.item) (kept_from marks k stack (items_from e abbreviations look unit at).0)
  kept-stand marks k stack at = every-kept Stands marks k stack (items_from e abbreviations look unit at).0 (items-stand at)

module _ (e : Encoding) (abbreviations : List ℕ) (look : ℕ → Option Declaration) (unit : List ℕ) where
  -- a step that ends at a place is as long as the item that stands there
  pub size-of : (i : Item) (w : ℕ) → Stands e abbreviations look unit i → EndsAt (offset_of i + w) (step_at e abbreviations look unit (offset_of i)) → w ≡ size_of i
  unfolding Stands EndsAt offset_of size_of
  size-of (entry x) w s h =
      let q : x.next.at ≡ x.offset.0 + w = subst (EndsAt (x.offset.0 + w)) s h in
      omega arith
  size-of (terminator a b) w s h =
      let q : b ≡ a + w = subst (EndsAt (a + w)) s h in
      omega arith

module _ (x : Sections) (u : Unit') where
  abbrev pub StandsThere : NestedItem → Type 0
  StandsThere s = Stands u.header.encoding x.abbreviations (declared_in u.declared) u.bytes s.item

  abbrev pub deep_at : ℕ → Option RunOf
  deep_at at =
      read_in u.header.encoding.big_endian (expression_in u.header.encoding) (entry_layout u.header.encoding x.abbreviations (declared_in u.declared)) (drop at u.bytes)

  pub record Readable (s : NestedItem) : Type 0 where
    pub run : RunOf
    pub is : deep_at (offset_of s.item) ≡ Some run
