-- Which index lists are absent (document 01, "Rewriting"): "They are absent with type units; the ranges list also where any entry, dead or kept, declares its
-- ranges attribute as sec_offset, the locations list likewise for location."
use Rattle.std.specs.Prelude.{ℕ, ◌≡◌, ◌⊎◌}
use Rattle.readers.specs.Codes.{DW_AT_location, DW_AT_ranges, DW_FORM_sec_offset}
use Rattle.readers.specs.Stream.{entry}
use Rattle.readers.specs.declared.entries.Entry.{Entry}
use Rattle.marking.specs.Analysis.{Sections, values_of_entry}
use Rattle.readers.specs.EntryAttributes.{Valued}
use Rattle.marking.specs.Members.{Member}
use Rattle.rewriting.specs.Rewriting.{Unit as Unit', items_in}

-- the attribute of list k: DW_AT_ranges of the ranges list (0), DW_AT_location of the locations list (1); the strings list (2) has none
abbrev pub ListAttribute : ℕ → ℕ → Type 0
ListAttribute k name = ((k ≡ 0) × (name ≡ DW_AT_ranges)) ⊎ ((k ≡ 1) × (name ≡ DW_AT_location))

-- an entry of the unit, dead or kept, declares that attribute as DW_FORM_sec_offset. "A sec_offset under indirect doesn't count here."
pub record DeclaresOffset (x : Sections) (u : Unit') (k : ℕ) : Type 0 where
  pub y : Entry
  pub a : Valued
  pub in_unit : Member (entry y) (items_in x u)
  pub of_entry : Member a (values_of_entry u.header.encoding x u.bytes y)
  pub attribute : ListAttribute k a.name
  pub offset : a.declared ≡ DW_FORM_sec_offset
