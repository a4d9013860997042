-- Entries of a unit (DWARF 5, 2.2, 2.3 and 7.5.2 to 7.5.4): an abbreviation code and the values of the declaration's
-- attributes; code 0 is a terminator.
use Rattle.std.specs.Prelude.{ℕ, ◌+◌, Bool, List, [], ◌∷◌, length, drop, ltb, eqb, None, Option, Some}
use Rattle.readers.specs.declared.attributes.Attribute.{Attribute}
use Rattle.readers.specs.declared.abbreviations.Declaration.{Declaration}
use Rattle.readers.specs.declared.entries.HeadStep.{HeadStep}
use Rattle.readers.specs.declared.entries.Step.{Step}
use Rattle.readers.specs.Choice.{pick}
use Rattle.readers.specs.Layout.{leb128, number, Layout, done, fail, field, Read, RunOf, as_bytes, read_in, write_all}
use Rattle.readers.specs.Forms.{attribute_layout}
use Rattle.readers.specs.Scan.{Scanned}
use Rattle.readers.specs.Abbreviations.{attributes_from}
use Rattle.readers.specs.Numbers.{uleb}
use Rattle.readers.specs.Cursors.{cursor, leb_at}
use Rattle.readers.specs.Fields.{size, field_of}
use Rattle.readers.specs.declared.cursor.Encoding.{Encoding}
use Rattle.readers.specs.declared.cursor.Cursor.{Cursor}
use Rattle.readers.specs.declared.abbreviations.AttributeSpec.{AttributeSpec}
use Rattle.readers.specs.declared.entries.HeadStep.TheVariants.{Entry as Head, Terminator as TerminatorHead, End as EndHead}
use Rattle.readers.specs.declared.entries.Step.TheVariants.{Entry as Entry', Terminator, End}

-- ---- one attribute

module _ (big : Bool) where
  -- the reads of an attribute: its value, or the form numbers of DW_FORM_indirect and then its value
  unfoldable pub attribute_of_reads : ℕ → ℕ → List Read → Option Attribute
  attribute_of_reads form at [] = None
  attribute_of_reads form at (v ∷ []) = Some (record { form = form; field = field_of big at v })
  attribute_of_reads form at (f ∷ v ∷ rs) =
      Some (record { form = f.seen; field = field_of big (at + size big f) v })

  unfoldable pub as_attribute : ℕ → ℕ → Option RunOf → Option Attribute
  as_attribute form at None = None
  as_attribute form at (Some r) = attribute_of_reads form at r.0

unfoldable pub attribute_at : Encoding → List ℕ → ℕ → ℕ → ℕ → Option Attribute
attribute_at e s at name form =
    as_attribute e.big_endian form at
    (read_in e.big_endian as_bytes (attribute_layout e name form) (drop at s))

-- where it ends
unfoldable pub attribute_end : Option Attribute → Option Cursor
attribute_end (Some a) = Some (cursor a.field.end)
attribute_end None = None

-- ---- the attributes of an entry

-- one layout after another
unfoldable pub then : Layout → Layout → Layout
then done h = h
then fail h = fail
then (field t k) h = field t (λ n. then (k n) h)

unfoldable pub attributes_layout : Encoding → List AttributeSpec → Layout
attributes_layout e [] = done
attributes_layout e (a ∷ rest) = then (attribute_layout e a.name a.form) (attributes_layout e rest)

unfoldable pub specs_layout : Encoding → Option (Scanned AttributeSpec ℕ) → Layout
specs_layout e None = fail
specs_layout e (Some r) = attributes_layout e r.0

unfoldable pub as_past : Bool → ℕ → Option RunOf → Option Cursor
as_past big at None = None
as_past big at (Some r) = Some (cursor (at + length (write_all big r.0)))

-- past the values of the attributes whose specifications start at a place of the abbreviations
unfoldable pub values_at : Encoding → List ℕ → ℕ → List ℕ → ℕ → Option Cursor
values_at e abbreviations specs unit at =
    as_past e.big_endian at
    (read_in e.big_endian as_bytes (specs_layout e (attributes_from abbreviations specs)) (drop at unit))

-- ---- entries and terminators

module _ (e : Encoding) (abbreviations : List ℕ) (look : ℕ → Option Declaration) where
  unfoldable pub found_layout : Option Declaration → Layout
  found_layout None = fail
  found_layout (Some d) = specs_layout e (attributes_from abbreviations d.attributes.at)

  -- an entry or a terminator, its declarations found by `look`
  unfoldable pub entry_layout : Layout
  entry_layout = field (number leb128) (λ code. pick (eqb code 0) done (found_layout (look code)))

  unfoldable pub entry_found : ℕ → ℕ → ℕ → Option Declaration → Option Step
  entry_found at values next None = None
  entry_found at values next (Some d) =
      Some (Entry' (record { offset = record { 0 = at }; declaration = d; values = cursor values; next = cursor next }))

  unfoldable pub step_of_reads : ℕ → List Read → Option Step
  step_of_reads at [] = None
  step_of_reads at (c ∷ rs) =
      pick (eqb c.seen 0) (Some (Terminator (cursor (at + size e.big_endian c))))
      (entry_found at (at + size e.big_endian c)
      (at + size e.big_endian c + length (write_all e.big_endian rs))
      (look c.seen))

  unfoldable pub as_step : ℕ → Option RunOf → Option Step
  as_step at None = None
  as_step at (Some r) = step_of_reads at r.0

  -- the entry or terminator at a place of the unit; its end ends the stream
  unfoldable pub step_at : List ℕ → ℕ → Option Step
  step_at unit at =
      pick (ltb at (length unit)) (as_step at (read_in e.big_endian as_bytes entry_layout (drop at unit))) (Some End)

-- ---- the head of an entry: its code and what that declares, the values of its attributes unread

module _ (look : ℕ → Option Declaration) where
  unfoldable pub head_found : ℕ → Cursor → Option Declaration → Option HeadStep
  head_found at values None = None
  head_found at values (Some d) = Some (Head (record { offset = record { 0 = at }; declaration = d; values = values }))

  unfoldable pub head_of_code : ℕ → Option (ℕ × Cursor) → Option HeadStep
  head_of_code at None = None
  head_of_code at (Some (code, values)) = pick (eqb code 0) (Some (TerminatorHead values)) (head_found at values (look code))

  -- the head of the entry, or the terminator, at a place of the unit; its end ends the stream
  unfoldable pub entry_head_at : List ℕ → ℕ → Option HeadStep
  entry_head_at unit at = pick (ltb at (length unit)) (head_of_code at (leb_at uleb unit at)) (Some EndHead)
