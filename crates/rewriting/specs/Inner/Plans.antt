-- What is to be done with the next attribute of an entry that is written.
use Rattle.std.specs.Prelude.{◌≡◌, ℕ, false, leb, None, Option, Some}
use Rattle.readers.specs.Choice.{◌and◌}
use Rattle.readers.specs.Cursors.{cursor}
use Rattle.readers.specs.Forms.{list_form}
use Rattle.readers.specs.declared.cursor.Cursor.{Cursor}
use Rattle.readers.specs.declared.entry_attributes.EntryAttribute.{EntryAttribute}
use Rattle.rewriting.specs.declared.emit_entry.Plan.{Plan}
use Rattle.rewriting.specs.declared.emit_entry.Plan.TheVariants.{Copy, Change}

-- the values of a declared form are copied as they are
pub record Copies (form : ℕ) : Type 0 where
  pub no_expression : form ≡ 0x18 → ⊥
  pub no_reference : (leb 0x11 form and leb form 0x15) ≡ false
  pub no_indirect : form ≡ 0x16 → ⊥
  pub no_index : list_form form ≡ 3

-- the next attribute is one of those: past its value, past its specification
pub record Copied (y : Option EntryAttribute) (past next : Cursor) : Type 0 where
  pub attribute : EntryAttribute
  pub is : y ≡ Some attribute
  pub ends : attribute.values ≡ cursor attribute.value.field.end
  pub past_is : attribute.values ≡ past
  pub next_is : attribute.next ≡ next
  pub copies : Copies attribute.declared

unfoldable pub Planned : Option EntryAttribute → Option Plan → Type 0
Planned y (Some (Copy past next)) = Copied y past next
Planned y (Some (Change a)) = y ≡ Some a
Planned y None = y ≡ None
