-- An entry by its head and the end of its values.
use Rattle.std.specs.Prelude.{ℕ, List, None, Option, Some}
use Rattle.readers.specs.declared.cursor.Encoding.{Encoding}
use Rattle.readers.specs.declared.cursor.Cursor.{Cursor}
use Rattle.readers.specs.declared.entries.HeadStep.{HeadStep}
use Rattle.readers.specs.declared.entries.Step.{Step}
use Rattle.readers.specs.declared.entries.Entry.{Entry}
use Rattle.readers.specs.declared.entries.EntryHead.{EntryHead}
use Rattle.readers.specs.declared.entries.HeadStep.TheVariants.{Entry as Head, Terminator as TerminatorHead, End as EndHead}
use Rattle.readers.specs.declared.entries.Step.TheVariants.{Entry as Entry', Terminator, End}
use Rattle.readers.specs.Entries.{values_at}

-- ---- an entry by its head

abbrev pub entry_of : EntryHead → Cursor → Entry
entry_of h next = record { offset = h.offset; declaration = h.declaration; values = h.values; next = next }

-- and where its values end
unfoldable pub entry_to : EntryHead → Option Cursor → Option Step
entry_to h (Some next) = Some (Entry' (entry_of h next))
entry_to h None = None

abbrev pub head_end : Encoding → List ℕ → List ℕ → EntryHead → Option Cursor
head_end e abbreviations unit h = values_at e abbreviations h.declaration.attributes.at unit h.values.at

unfoldable pub head_step : Encoding → List ℕ → List ℕ → Option HeadStep → Option Step
head_step e abbreviations unit (Some (Head h)) = entry_to h (head_end e abbreviations unit h)
head_step e abbreviations unit (Some (TerminatorHead next)) = Some (Terminator next)
head_step e abbreviations unit (Some EndHead) = Some End
head_step e abbreviations unit None = None
