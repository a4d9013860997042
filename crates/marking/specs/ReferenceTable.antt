-- References in a lent table, from a place on.
use Rattle.std.specs.Prelude.{ℕ, suc, List, [], ◌∷◌, length, set, ltb, Option, Err, Ok, Result}
use Rattle.readers.specs.Choice.{pick}
use Rattle.readers.specs.declared.cursor.Cursor.{Cursor}
use Rattle.marking.specs.EntryReferences.{ReferencesFound, found, refused}
use Rattle.marking.specs.declared.references.EntryScan.{EntryScan}

-- the place after a place of a table; past the table's end by one where it has no room
unfoldable pub next_place : ℕ → ℕ → ℕ
next_place room at = pick (ltb at room) (suc at) (suc room)

-- the place past more numbers that start at a place
unfoldable pub placed : ℕ → ℕ → List ℕ → ℕ
placed room at [] = at
placed room at (x ∷ xs) = placed room (next_place room at) xs

-- a table with more numbers from a place on, as far as it has room
unfoldable pub written : List ℕ → ℕ → List ℕ → List ℕ
written table at [] = table
written table at (x ∷ xs) = written (set table at x) (next_place (length table) at) xs

-- as the code answers it, and the table that it leaves
unfoldable pub scanned_to : ℕ → ℕ → ReferencesFound → Result ℕ ℕ
scanned_to room at (found xs) = Ok (placed room at xs)
scanned_to room at (refused xs n) = Err n

unfoldable pub table_after : List ℕ → ℕ → ReferencesFound → List ℕ
table_after table at (found xs) = written table at xs
table_after table at (refused xs n) = written table at xs

-- the scan of an entry also says where its values end
abbrev pub through : ℕ → Option Cursor → Result EntryScan ℕ
through place end = Ok (record { place = place; end = end })

unfoldable pub entry_scanned : Result ℕ ℕ → Option Cursor → Result EntryScan ℕ
entry_scanned (Ok place) end = through place end
entry_scanned (Err n) end = Err n
