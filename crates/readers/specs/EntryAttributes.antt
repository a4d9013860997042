-- The attributes of an entry, one after the other: by their specifications and their values.
use Rattle.std.specs.Prelude.{ℕ, zero, suc, ◌-◌, List, [], ◌∷◌, length, None, Option, Some}
use Rattle.readers.specs.Cursors.{cursor}
use Rattle.readers.specs.Abbreviations.{spec_at}
use Rattle.readers.specs.Entries.{attribute_at}
use Rattle.readers.specs.declared.cursor.Encoding.{Encoding}
use Rattle.readers.specs.declared.abbreviations.AttributeSpec.{AttributeSpec}
use Rattle.readers.specs.declared.entry_attributes.EntryAttribute.{EntryAttribute}
use Rattle.readers.specs.declared.abbreviations.SpecStep.{SpecStep}
use Rattle.readers.specs.declared.abbreviations.SpecStep.TheVariants.{Attribute as Spec, Last as LastSpec}
use Rattle.readers.specs.declared.attributes.Attribute.{Attribute}

-- an attribute: its name, the form that it is declared with, and its value
pub record Valued : Type 0 where
  pub name : ℕ
  pub declared : ℕ
  pub value : Attribute

unfoldable pub on_attribute : AttributeSpec → Option Attribute → (ℕ → List Valued) → List Valued
on_attribute a (Some v) k = record { name = a.name; declared = a.form; value = v } ∷ k v.field.end
on_attribute a None k = []

unfoldable pub values_of : Encoding → List ℕ → List AttributeSpec → ℕ → List Valued
values_of e unit [] at = []
values_of e unit (a ∷ rest) at =
    on_attribute a (attribute_at e unit at a.name a.form) (λ next. values_of e unit rest next)

-- the specifications from a place on, up to the pair of zeros or to one that can't be read: what stands before that
-- one counts, since a test may be decided there. A checked abbreviation list has none such, and there these are all.
unfoldable pub on_spec : Option SpecStep → (AttributeSpec → List AttributeSpec) → List AttributeSpec
on_spec (Some (Spec a)) k = k a
on_spec (Some (LastSpec c)) k = []
on_spec None k = []

-- a count bounds how often
unfoldable pub specs_within : ℕ → List ℕ → ℕ → List AttributeSpec
specs_within zero s at = []
specs_within (suc k) s at = on_spec (spec_at s at) (λ a. a ∷ specs_within k s a.next.at)

unfoldable pub specs_from : List ℕ → ℕ → List AttributeSpec
specs_from s at = specs_within (suc (length s - at)) s at

-- the attributes of an entry, from the place of its specifications and that of its values on
unfoldable pub entry_values : Encoding → List ℕ → ℕ → List ℕ → ℕ → List Valued
entry_values e abbreviations specs unit at = values_of e unit (specs_from abbreviations specs) at

-- the attribute there, as the code reads it
unfoldable pub taken : AttributeSpec → Option Attribute → Option EntryAttribute
taken a (Some v) =
    Some (record { name = a.name; declared = a.form; value = v; next = a.next; values = cursor v.field.end })
taken a None = None

unfoldable pub taken_by : Encoding → List ℕ → ℕ → Option SpecStep → Option EntryAttribute
taken_by e unit at (Some (Spec a)) = taken a (attribute_at e unit at a.name a.form)
taken_by e unit at (Some (LastSpec c)) = None
taken_by e unit at None = None

unfoldable pub next_attribute : Encoding → List ℕ → ℕ → List ℕ → ℕ → Option EntryAttribute
next_attribute e abbreviations specs unit at = taken_by e unit at (spec_at abbreviations specs)
