-- Whether declarations have an attribute in sec_offset.
use Rattle.std.specs.Prelude.{ℕ, Bool, false, List, [], ◌∷◌, eqb}
use Rattle.readers.specs.Choice.{◌and◌, ◌or◌}
use Rattle.readers.specs.Codes.{DW_FORM_sec_offset}
use Rattle.readers.specs.Abbreviations.{Placed}
use Rattle.readers.specs.declared.abbreviations.AttributeSpec.{AttributeSpec}
use Rattle.readers.specs.EntryAttributes.{specs_from}

-- whether some specifications declare such an attribute, and whether any declaration does: where none does, no entry
-- does
unfoldable pub specs_declare : ℕ → List AttributeSpec → Bool
specs_declare name [] = false
specs_declare name (a ∷ rest) = (eqb a.name name and eqb a.form DW_FORM_sec_offset) or specs_declare name rest

unfoldable pub table_declares : List ℕ → ℕ → List Placed → Bool
table_declares abbreviations name [] = false
table_declares abbreviations name (d ∷ ds) =
    specs_declare name (specs_from abbreviations d.1.attributes.at) or table_declares abbreviations name ds
