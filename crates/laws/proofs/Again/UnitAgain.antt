-- The unit that is written, read again: the items that were kept, at the places and depths of the map. Assumes nothing.
use mathlib.Core.Path.{◌≡◌, refl, ap, ap₂, sym, ◌∙◌}
use Prim.Native.Nat.{ℕ, ◌+◌, ◌≤◌}
use mathlib.Core.Bool.{true}
use mathlib.Core.List.{List, [], ◌++◌, map}
use lib.ListN.{length, length-append}
use Rattle.readers.specs.Header.{length_size}
use Rattle.readers.specs.Abbreviations.{declared_in}
use Rattle.readers.specs.Stream.{items_from}
use Rattle.marking.specs.Analysis.{Sections}
use Rattle.rewriting.specs.Places.{NestedItem, kept_from, offset_of, Place, places_from, size_from}
use Rattle.laws.specs.Moved.{depths_from}
use Rattle.laws.specs.Inner.Moved.{moved_from, ParentsKept}
use Rattle.rewriting.specs.Emission.{header_bytes}
use Rattle.rewriting.specs.Rewriting.{Unit as Unit', items_in, Lists, bytes_from, unit_bytes, refusal_from}
use Rattle.rewriting.proofs.WritePass.HeaderEmits.{length-header}
use Rattle.rewriting.proofs.KeptPass.ItemDepths.{Every, kept-stand, Readable}
use Rattle.laws.proofs.Again.Rereading.{Rewritable, rewritable, length-bytes, reread, moved-places}
use Rattle.laws.proofs.Again.ReadsAgain.{PatchedFrom, reads-again}
use Rattle.laws.proofs.Again.Fitting.{none-refused}
use Rattle.laws.proofs.Again.Depths.{depths-again, depths-placed}

-- a unit whose items are these, one after the other from where the first stands, each read deep as it was, patched
pub record ReadAgain (x : Sections) (u : Unit') (lists : Lists) (places : List Place) (kept : List NestedItem) (unit : List ℕ) : Type 0 where
  pub size : length unit ≡ u.header.first.0 + size_from kept
  pub items : items_from u.header.encoding x.abbreviations (declared_in u.declared) unit u.header.first.0 ≡ (moved_from u.header.first.0 kept, true)
  pub reads : PatchedFrom x u lists places unit u.header.first.0 kept
  pub offsets : map offset_of (moved_from u.header.first.0 kept) ≡ map (λ (p : Place). p.new) (places_from u.header.first.0 kept)
  pub depths : depths_from 0 [] (moved_from u.header.first.0 kept) ≡ map (λ (p : Place). p.depth) (places_from u.header.first.0 kept)

module _ (x : Sections) (u : Unit') (lists : Lists) (places : List Place)
    (wide : u.header.encoding.offset_size ≤ length_size u.header.encoding)
    (lo : length_size u.header.encoding ≤ u.header.first.0) (hi : u.header.first.0 ≤ length u.bytes) where
  abbrev first : ℕ
  first = u.header.first.0

  module _ (kept : List NestedItem) (h : Every (Rewritable x u lists places) kept) where
    -- the header
    abbrev front : List ℕ
    front = header_bytes u.header.encoding u.bytes first (first + size_from kept)

    length_front : length front ≡ first
    length_front = length-header u.header.encoding u.bytes first (first + size_from kept) lo hi wide

    unit-is : unit_bytes x u lists places kept ≡ front ++ bytes_from x u lists places kept
    unfolding unit_bytes
    unit-is = refl

    pub unit_size : length (unit_bytes x u lists places kept) ≡ first + size_from kept
    unit_size =
        ap length unit-is ∙ length-append front (bytes_from x u lists places kept) ∙ ap₂ ◌+◌ length_front (length-bytes x u lists places kept h)

    pub unit-items : items_from u.header.encoding x.abbreviations (declared_in u.declared) (unit_bytes x u lists places kept) first ≡ (moved_from first kept, true)
    unit-items =
        ap (λ z. items_from u.header.encoding x.abbreviations (declared_in u.declared) z first) unit-is
        ∙ reread x u lists places kept h front first length_front

  -- by marks that keep the parents, where nothing is refused
  pub unit-again : (marks : List ℕ) → ParentsKept marks 0 [] (items_in x u) → Every (Readable x u) (kept_from marks 0 [] (items_in x u))
      → refusal_from x u lists places (kept_from marks 0 [] (items_in x u)) ≡ 0
      → ReadAgain x u lists places (kept_from marks 0 [] (items_in x u)) (unit_bytes x u lists places (kept_from marks 0 [] (items_in x u)))
  unfolding items_in
  unit-again marks c q r =
      let kept : List NestedItem = kept_from marks 0 [] (items_in x u) in
      let h : Every (Rewritable x u lists places) kept =
      rewritable x u lists places kept (kept-stand u.header.encoding x.abbreviations (declared_in u.declared) u.bytes marks 0 [] first) q
      (none-refused x u lists places kept r) in
      record {
        size = unit_size kept h;
        items = unit-items kept h;
        reads = reads-again x u lists places (unit_bytes x u lists places kept) kept h (front kept h) first (length_front kept h) (unit-is kept h);
        offsets = moved-places first kept;
        depths = depths-again marks 0 (items_in x u) c first 0 ∙ sym (depths-placed first kept);
      }
