-- What is rewritten of a unit's rows is read by its abbreviations alone: where header and rows are the same with other
-- sections, another address table and another keep list, so is the answer. Assumes nothing.
use mathlib.Core.Path.{◌≡◌, refl, ap, ap₂, ◌∙◌}
use Prim.Native.Nat.{ℕ}
use mathlib.Core.Bool.{Bool}
use mathlib.Core.List.{List, [], ◌∷◌, ◌++◌}
use Rattle.std.specs.Prelude.{Err, None, Ok, Option, Result, Some}
use Rattle.readers.specs.Choice.{◌or◌}
use Rattle.readers.specs.Codes.{DW_AT_location, DW_AT_ranges}
use Rattle.readers.specs.Layout.{Read, RunOf, patch_all, write_all}
use Rattle.readers.specs.Stream.{Item, entry, terminator}
use Rattle.readers.specs.Abbreviations.{Placed, abbreviations_of}
use Rattle.readers.specs.declared.header.UnitHeader.{UnitHeader}
use Rattle.marking.specs.Analysis.{Sections, sections, EntryRow, Analysed, analysed, refused as not_analysed, values_of_entry, header_by, analysis_of}
use Rattle.marking.specs.KeepList.{KeepList}
use Rattle.marking.specs.Resolution.{marks_in}
use Rattle.rewriting.specs.Places.{NestedItem, Place, offset_of}
use Rattle.rewriting.specs.Indices.{read_indices}
use Rattle.rewriting.specs.Rewriting.{Unit, items_in, reads_or, reads_at, Lists, indices_from, item_declares}
use Rattle.rewriting.specs.Rewriting.{any_declares, list_of, lists_of, or_next, new_value, reads_refusal, refusal_from}
use Rattle.rewriting.specs.Rewriting.{bytes_from, unit_bytes, Room, or_refused, rewrite_of, marks_collected, rows_collected}
use Rattle.rewriting.specs.Rewriting.{analysed_collected, declared_collected, header_collected, collect_of}

-- the same unit with other sections
abbrev others : Sections → List ℕ → List ℕ → List ℕ → List ℕ → KeepList → Sections
others x l r t o keep = sections x.abbreviations l r t o keep x.setting

module _ (x : Sections) (l r t o : List ℕ) (keep : KeepList) (u : Unit) where
  abbrev y : Sections
  y = others x l r t o keep

  same_or : (o : Option RunOf) → reads_or x u o ≡ reads_or y u o
  unfolding reads_or
  same_or None = refl
  same_or (Some z) = refl

  same_reads : (at : ℕ) → reads_at x u at ≡ reads_at y u at
  unfolding reads_at
  same_reads at = same_or _

  same-indices : (k : ℕ) (kept : List NestedItem) → indices_from x u k kept ≡ indices_from y u k kept
  unfolding indices_from
  same-indices k [] = refl
  same-indices k (s ∷ kept) =
      ap₂ (λ (rs : List Read) (rest : List ℕ). read_indices k rs ++ rest) (same_reads (offset_of s.item)) (same-indices k kept)

  same-declares : (name : ℕ) (is : List Item) → any_declares x u name is ≡ any_declares y u name is
  unfolding any_declares item_declares values_of_entry
  same-declares name [] = refl
  same-declares name (entry z ∷ is) = ap (λ (b : Bool). item_declares x u name (entry z) or b) (same-declares name is)
  same-declares name (terminator m n ∷ is) = ap (λ (b : Bool). item_declares x u name (terminator m n) or b) (same-declares name is)

  same_lists : (type_units : Bool) (kept : List NestedItem) → lists_of x u type_units kept ≡ lists_of y u type_units kept
  unfolding lists_of list_of items_in
  same_lists type_units kept =
      rw (
        same-indices 0 kept,
        same-indices 1 kept,
        same-indices 2 kept,
        same-declares DW_AT_ranges (items_in x u),
        same-declares DW_AT_location (items_in x u),
      )

  module _ (lists : Lists) (map : List Place) where
    same-refusal : (kept : List NestedItem) → refusal_from x u lists map kept ≡ refusal_from y u lists map kept
    unfolding refusal_from
    same-refusal [] = refl
    same-refusal (s ∷ kept) =
        ap₂ (λ (rs : List Read) (n : ℕ). or_next (reads_refusal lists map s.depth rs) n) (same_reads (offset_of s.item)) (same-refusal kept)

    same_bytes : (kept : List NestedItem) → bytes_from x u lists map kept ≡ bytes_from y u lists map kept
    unfolding bytes_from
    same_bytes [] = refl
    same_bytes (s ∷ kept) =
        ap₂ (λ (rs : List Read) (rest : List ℕ). write_all u.header.encoding.big_endian (patch_all (new_value lists map s.depth) rs) ++ rest)
        (same_reads (offset_of s.item)) (same_bytes kept)

  module _ (room : Room) where
    same-rewrite : (entries kept : ℕ) (lists : Lists) (items : List NestedItem)
        → rewrite_of x room u entries kept lists items ≡ rewrite_of y room u entries kept lists items
    unfolding rewrite_of unit_bytes or_refused
    same-rewrite entries kept lists items = rw (same-refusal lists _ items, same_bytes lists _ items)

    same-marks : (type_units : Bool) (marks : List ℕ) (items : List NestedItem)
        → marks_collected x room type_units u marks items ≡ marks_collected y room type_units u marks items
    unfolding marks_collected
    same-marks type_units marks items = rw (same_lists type_units items, same-rewrite _ _ (lists_of y u type_units items) items)

    same_rows : (type_units : Bool) (rows : List EntryRow)
        → rows_collected x room type_units u rows ≡ rows_collected y room type_units u rows
    unfolding rows_collected items_in
    same_rows type_units [] = refl
    same_rows type_units (z ∷ rows) = same-marks type_units (marks_in (z ∷ rows)) _

module _ (x : Sections) (l r t o : List ℕ) (keep : KeepList) (room : Room) (type_units : Bool) (section : List ℕ) where
  abbrev other : Sections
  other = others x l r t o keep

  same-analysed : (u : Unit) (z : Analysed)
      → analysed_collected x room type_units u z ≡ analysed_collected other room type_units u z
  unfolding analysed_collected
  same-analysed u (analysed rows) = same_rows x l r t o keep u room type_units rows
  same-analysed u (not_analysed n) = refl

  module _ (q : analysis_of x section room.tables ≡ analysis_of other section room.tables) where
    same-declared : (h : UnitHeader) (d : Option (List Placed))
        → declared_collected x room type_units section h d ≡ declared_collected other room type_units section h d
    unfolding declared_collected
    same-declared h None = refl
    same-declared h (Some ds) = ap (analysed_collected x room type_units _) q ∙ same-analysed _ _

    same-headers : (h : Result (Option UnitHeader) ℕ) → header_collected x room type_units section h ≡ header_collected other room type_units section h
    unfolding header_collected
    same-headers (Ok None) = refl
    same-headers (Err n) = refl
    same-headers (Ok (Some h)) = same-declared h (abbreviations_of x.abbreviations h.abbreviations)

    pub same-collected : header_by x section ≡ header_by other section
        → collect_of x room type_units section ≡ collect_of other room type_units section
    unfolding collect_of
    same-collected h = same-headers (header_by x section) ∙ ap (header_collected other room type_units section) h
