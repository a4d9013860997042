-- The attributes of an entry, one after the other: by their specifications and their values.
use Rattle.std.specs.Prelude.{ℕ, None, Option, Some}
use Rattle.readers.specs.Cursors.{cursor}
use Rattle.readers.specs.declared.cursor.Cursor.{Cursor}
use Rattle.readers.specs.declared.abbreviations.SpecStep.{SpecStep}
use Rattle.readers.specs.declared.abbreviations.SpecStep.TheVariants.{Attribute as Spec, Last as LastSpec}

-- where the values end, by the place that no attribute was read at: there, where the specifications end too
unfoldable pub end_by : ℕ → Option SpecStep → Option Cursor
end_by at (Some (Spec a)) = None
end_by at (Some (LastSpec c)) = Some (cursor at)
end_by at None = None
