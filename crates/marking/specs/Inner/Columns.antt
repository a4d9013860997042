-- What the parts of an analysis ask of the lent columns, answer, and leave in them.
use Rattle.std.specs.Prelude.{◌≡◌, ℕ, ◌≤◌, List, length, Err, None, Ok, Option, Result, Some}
use Rattle.readers.specs.Choice.{zeros}
use Rattle.readers.specs.Abbreviations.{checked_of, index_of}
use Rattle.readers.specs.Inner.Entries.{entry_of}
use Rattle.readers.specs.Refusals.{refusal_of_step}
use Rattle.readers.specs.declared.cursor.Cursor.{Cursor}
use Rattle.readers.specs.declared.entries.Entry.{Entry}
use Rattle.readers.specs.declared.entries.EntryHead.{EntryHead}
use Rattle.readers.specs.declared.header.UnitHeader.{UnitHeader}
use Rattle.marking.specs.EntryReferences.{ReferencesFound, found, refused as refused_after}
use Rattle.marking.specs.declared.analysis.Analysis.{Analysis}
use Rattle.marking.specs.declared.analysis.EntryAnalysis.{EntryAnalysis}
use Rattle.marking.specs.declared.addresses.Verdict.{Verdict}
use Rattle.marking.specs.declared.addresses.Verdict.TheVariants.{Live, Dead}
use Rattle.marking.specs.ReferenceTable.{placed, table_after}
use Rattle.marking.specs.KeepList.{KeepList, keep_refusal}
use Rattle.marking.specs.Analysis.{EntryRow, Analysed, analysed, refused}
use Rattle.marking.specs.Columns.{ends_in, names_in, offsets_in, pad_to, parents_in, roots_in}

-- what a column holds after the entries were read into it; after a refusal only its length is said
unfoldable pub Left : (List EntryRow → List ℕ) → ℕ → Analysed → List ℕ → Type 0
Left f n (analysed rows) now = now ≡ pad_to n (f rows)
Left f n (refused k) now = length now ≡ n

-- the columns of a table, as they are lent and as they are left
pub record Outcome (a : Analysed) (offsets₀ parents₀ roots₀ ends₀ targets₀ : List ℕ)
    (offsets parents roots ends targets : List ℕ) : Type 0 where
  pub offsets_left : Left offsets_in (length offsets₀) a offsets
  pub parents_left : Left parents_in (length parents₀) a parents
  pub roots_left : Left roots_in (length roots₀) a roots
  pub ends_left : Left (ends_in 0) (length ends₀) a ends
  pub targets_left : Left names_in (length targets₀) a targets

-- cleared columns with room for so many entries and references, the index of declarations that were checked, and a keep
-- list that was taken
pub record AnalysisInput (abbreviations index : List ℕ) (from : ℕ) (unit : List ℕ) (entry_room reference_room : ℕ)
    (offsets parents roots ends targets : List ℕ) (keep : KeepList) : Type 0 where
  pub accepted : checked_of abbreviations from ≡ Ok tt
  pub indexed : index ≡ index_of abbreviations from (length index)
  pub offsets_room : entry_room ≤ length offsets
  pub parents_room : entry_room ≤ length parents
  pub roots_room : entry_room ≤ length roots
  pub ends_room : entry_room ≤ length ends
  pub targets_room : reference_room ≤ length targets
  pub offsets_clear : offsets ≡ zeros (length offsets)
  pub parents_clear : parents ≡ zeros (length parents)
  pub roots_clear : roots ≡ zeros (length roots)
  pub ends_clear : ends ≡ zeros (length ends)
  pub targets_clear : targets ≡ zeros (length targets)
  pub listed : keep_refusal keep ≡ 0

-- what an answer leaves of a column: zeros after a refusal
unfoldable pub left_by : Result Analysis ℕ → List ℕ → List ℕ
left_by (Ok a) col = col
left_by (Err n) col = zeros (length col)

-- what is to be analysed, by the header and the check of the declarations
unfoldable pub unit_checked : UnitHeader → Result (Unit {0}) ℕ → Result (Option UnitHeader) ℕ
unit_checked h (Ok u) = Ok (Some h)
unit_checked h (Err n) = Err n

unfoldable pub unit_found : List ℕ → Result (Option UnitHeader) ℕ → Result (Option UnitHeader) ℕ
unit_found abbreviations (Ok None) = Ok None
unit_found abbreviations (Err n) = Err n
unit_found abbreviations (Ok (Some h)) = unit_checked h (checked_of abbreviations h.abbreviations)

-- an entry by its head alone: where it ends is not asked by its root test, nor by its references
abbrev pub headed : EntryHead → Entry
headed h = entry_of h h.values

-- a verdict as a row has it
unfoldable pub root_number : Verdict → ℕ
root_number Live = 1
root_number Dead = 0

abbrev pub row_found : ℕ → ℕ → Cursor → Result EntryAnalysis ℕ
row_found root to next = Ok (record { root = root; to = to; next = next })

-- one entry whose values end there, or nowhere, which is 4 before anything else: the root test, then the references
unfoldable pub root_found : ℕ → ℕ → Cursor → ℕ → ReferencesFound → Result EntryAnalysis ℕ
root_found room at next root (found xs) = row_found root (placed room at xs) next
root_found room at next root (refused_after xs n) = Err n

unfoldable pub entry_answer : ℕ → ℕ → Option Cursor → Result Verdict ℕ → ReferencesFound → Result EntryAnalysis ℕ
entry_answer room at None v f = Err (refusal_of_step None)
entry_answer room at (Some next) (Ok Live) f = root_found room at next 1 f
entry_answer room at (Some next) (Ok Dead) f = root_found room at next 0 f
entry_answer room at (Some next) (Err n) f = Err n

-- any other refusal of it
unfoldable pub refusal_of : Option Cursor → ℕ → ℕ
refusal_of None n = refusal_of_step None
refusal_of (Some next) n = n

unfoldable pub entry_table : List ℕ → ℕ → Result Verdict ℕ → ReferencesFound → List ℕ
entry_table table at (Ok Live) f = table_after table at f
entry_table table at (Ok Dead) f = table_after table at f
entry_table table at (Err n) f = table
