-- An attribute as the code reads it, and where attributes end.
use Rattle.readers.specs.EntryAttributes.{Valued}
use Rattle.readers.specs.declared.entry_attributes.EntryAttribute.{EntryAttribute}

-- an attribute as the code reads it
abbrev pub valued_by : EntryAttribute → Valued
valued_by x = record { name = x.name; declared = x.declared; value = x.value }
