-- The numbers that each call refuses with (document 01, "Operations and their numbers"; document 02, Points 5 and 10).
use Rattle.std.specs.Prelude.{◌≡◌, ℕ, ◌⊎◌, List, [], ◌∷◌}

-- n is one of some numbers
unfoldable pub OneOf : List ℕ → ℕ → Type 0
OneOf [] n = ⊥
OneOf (m ∷ ms) n = (n ≡ m) ⊎ OneOf ms n

-- a keep list: "19, a treatment other than 1 or 2, or not one for each tag; 20, a tag not above the one before it"
abbrev pub list_numbers : List ℕ
list_numbers = 19 ∷ 20 ∷ []

abbrev pub ListRefusal : ℕ → Type 0
ListRefusal n = OneOf list_numbers n

-- "Header in byte order: 1 cut short .., 2 a value outside the domain"
abbrev pub header_numbers : List ℕ
header_numbers = 1 ∷ 2 ∷ []

abbrev pub HeaderRefusal : ℕ → Type 0
HeaderRefusal n = OneOf header_numbers n

-- "references of an expression. In this order 2 (address size not 4 or 8), 5, 7, 11"; 2 for an offset size, too
abbrev pub ReferencesRefusal : ℕ → Type 0
ReferencesRefusal n = OneOf (2 ∷ 5 ∷ 7 ∷ 11 ∷ []) n

-- the address table: "6 .. for a byte above 1", "17, index past the end of a table that isn't empty, at 6's place"
abbrev pub table_numbers : List ℕ
table_numbers = 6 ∷ 17 ∷ []

-- "root test 5 (unreadable list or expression) or 6 (address table fails)"
abbrev pub RootRefusal : ℕ → Type 0
RootRefusal n = OneOf (5 ∷ table_numbers) n

-- "references in attribute order 5 or 7"
abbrev pub ScanRefusal : ℕ → Type 0
ScanRefusal n = OneOf (5 ∷ 7 ∷ []) n

-- "Then entry by entry: 4 unreadable entry; 10 entry table full; root test ..; references ..; once the entry's references
-- are read, 11 reference table full."
abbrev pub entries_numbers : List ℕ
entries_numbers = 4 ∷ 10 ∷ 5 ∷ 6 ∷ 17 ∷ 7 ∷ 11 ∷ []

abbrev pub EntriesRefusal : ℕ → Type 0
EntriesRefusal n = OneOf entries_numbers n

-- the header's 1 and 2, "3 abbreviations", and those of the entries
abbrev pub read_numbers : List ℕ
read_numbers = 1 ∷ 2 ∷ 3 ∷ entries_numbers

-- before them a keep list's 19 and 20
abbrev pub analysis_numbers : List ℕ
analysis_numbers = 19 ∷ 20 ∷ read_numbers

abbrev pub AnalysisRefusal : ℕ → Type 0
AnalysisRefusal n = OneOf analysis_numbers n

-- the same with tables that are long enough
abbrev pub input_numbers : List ℕ
input_numbers = 19 ∷ 20 ∷ 1 ∷ 2 ∷ 3 ∷ 4 ∷ 5 ∷ 6 ∷ 17 ∷ 7 ∷ []

abbrev pub InputRefusal : ℕ → Type 0
InputRefusal n = OneOf input_numbers n

-- "mark": 16
abbrev pub MarkRefusal : ℕ → Type 0
MarkRefusal n = OneOf (16 ∷ []) n

abbrev pub collect_numbers : List ℕ
collect_numbers = 1 ∷ 2 ∷ 3 ∷ 4 ∷ 5 ∷ 6 ∷ 7 ∷ 8 ∷ 9 ∷ 10 ∷ 11 ∷ 12 ∷ 13 ∷ 14 ∷ 17 ∷ 19 ∷ 20 ∷ []

abbrev pub CollectRefusal : ℕ → Type 0
CollectRefusal n = OneOf collect_numbers n

-- the same with room enough
abbrev pub roomy_numbers : List ℕ
roomy_numbers = 1 ∷ 2 ∷ 3 ∷ 4 ∷ 5 ∷ 6 ∷ 7 ∷ 8 ∷ 9 ∷ 17 ∷ 19 ∷ 20 ∷ []

abbrev pub RoomyRefusal : ℕ → Type 0
RoomyRefusal n = OneOf roomy_numbers n

-- "padded number": 15
abbrev pub PaddedRefusal : ℕ → Type 0
PaddedRefusal n = OneOf (15 ∷ []) n

-- 256 untouched, 257 rewritten, and 2 more where the counts have no room
abbrev pub CallNumber : ℕ → Type 0
CallNumber n = OneOf (256 ∷ 257 ∷ 258 ∷ 259 ∷ collect_numbers) n
