-- What the calls for C answer: a number, and the counts as bytes (document 01, "collect": "An accepted answer says
-- untouched or rewritten and gives the counts of entries, kept entries, map places and output bytes .. and of each list, or
-- that it is absent").
use Rattle.std.specs.Prelude.{ℕ, Bool, List, [], ◌∷◌, ◌++◌, ltb, Err, None, Ok, Option, Some}
use Rattle.readers.specs.Choice.{pick, zeros}
use Rattle.marking.specs.Columns.{pad_to}
use Rattle.marking.specs.Analysis.{sections}
use Rattle.marking.specs.KeepList.{keep_in}
use Rattle.marking.specs.declared.setting.Setting.{Setting}
use Rattle.rewriting.specs.Written.{run_bytes}
use Rattle.rewriting.specs.Rewriting.{Collected, Room, collect_of}
use Rattle.rewriting.specs.Outputs.{Answer, room_of}
use Rattle.rewriting.specs.declared.collect.Counts.{Counts}
use Rattle.rewriting.specs.declared.collect.Collected.TheVariants.{Untouched, Rewritten}

-- a list's count, 0 where it is absent
unfoldable pub count_of : Option ℕ → ℕ
count_of (Some n) = n
count_of None = 0

-- 1 where a list is present
unfoldable pub presence_of : Option ℕ → ℕ
presence_of (Some n) = 1
presence_of None = 0

-- the counts of an answer, in their order, and for each list whether it is present
abbrev pub numbers_of : Counts → List ℕ
numbers_of c =
    c.entries ∷ c.kept ∷ c.places ∷ c.bytes ∷ count_of c.ranges ∷ count_of c.locations ∷ count_of c.strings ∷ []

abbrev pub presences_of : Counts → List ℕ
presences_of c = presence_of c.ranges ∷ presence_of c.locations ∷ presence_of c.strings ∷ []

-- as bytes: eight big-endian bytes a number, a byte a list
unfoldable pub count_bytes : Counts → List ℕ
count_bytes c = run_bytes 8 (numbers_of c) ++ run_bytes 1 (presences_of c)

-- whether n bytes have no room for them (`counts-take`: they are 59)
unfoldable pub is_uncounted : ℕ → Bool
is_uncounted n = ltb n 59

-- the number of an answer whose counts have n bytes of room: a refusal's own; else 256 untouched, 257 rewritten, and 2
-- more where the counts have no room
unfoldable pub number_for : ℕ → Answer → ℕ
number_for n (Ok (Untouched c)) = pick (is_uncounted n) 258 256
number_for n (Ok (Rewritten c)) = pick (is_uncounted n) 259 257
number_for n (Err k) = k

-- the bytes of the counts: zeros after a refusal, and where they have no room
unfoldable pub accepted_counts : ℕ → Counts → List ℕ
accepted_counts n c = pick (is_uncounted n) (zeros n) (pad_to n (count_bytes c))

unfoldable pub counts_for : ℕ → Answer → List ℕ
counts_for n (Ok (Untouched c)) = accepted_counts n c
counts_for n (Ok (Rewritten c)) = accepted_counts n c
counts_for n (Err k) = zeros n

-- a number as a yes or no: 0 for no, any other for yes
abbrev pub is_yes : ℕ → Bool
is_yes n = ltb 0 n

-- what a call tells by its numbers: the ranges base; the byte order, 0 for little-endian, any other for big-endian; and
-- whether fixed addresses count, 0 for no, any other for yes
abbrev pub setting_of : ℕ → ℕ → ℕ → Setting
setting_of base big_endian fixed_addresses =
    record { ranges_base = base; big_endian = is_yes big_endian; fixed_addresses = is_yes fixed_addresses }

-- what collect makes of a call's sections and numbers
abbrev pub collected_of : List ℕ → List ℕ → List ℕ → List ℕ → List ℕ → List ℕ → List ℕ → List ℕ → ℕ → ℕ → ℕ → ℕ → Room → Collected
collected_of section abbreviations locations ranges addresses debug_ranges tags treatments base type_units big_endian fixed_addresses room =
    let setting = setting_of base big_endian fixed_addresses in
    collect_of (sections abbreviations locations ranges addresses debug_ranges (keep_in tags treatments) setting)
    room (is_yes type_units) section

-- the room of the call's own tables, 2,048 entries and 8,192 references, with lent slices of some lengths
abbrev pub own_room : ℕ → ℕ → ℕ → ℕ → ℕ → Room
own_room map ranges locations strings out = room_of 2048 16384 2048 2048 2048 2048 8192 map ranges locations strings out
