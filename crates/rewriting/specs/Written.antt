-- What the writers leave: numbers at the start of a part of the output, index lists and maps as bytes.
use Rattle.std.specs.Prelude.{ℕ, zero, suc, ◌+◌, ◌*◌, ◌-◌, ◌^◌, ◌/◌, Bool, true, List, [], ◌∷◌, ◌++◌, length, take, drop, ltb, leb, eqb}
use Rattle.readers.specs.Choice.{pick, ◌and◌, zeros, put}
use Rattle.readers.specs.Numbers.{padded, fixed_bytes, fixed_value}
use Rattle.readers.specs.Cursors.{fixed_at}
use Rattle.std.specs.Prelude.{None, Option, Some, Err, Ok, Result}
use Rattle.readers.specs.declared.cursor.Cursor.{Cursor}
use Rattle.rewriting.specs.Places.{Place}
use Rattle.readers.specs.declared.offsets.UnitOffset.{UnitOffset}

-- ---- numbers

-- whether a number goes into so many bytes of a part of n: as a ULEB128 number of at most ten bytes, in a fixed width
-- of at most eight, as one or the other
unfoldable pub groups_fit : ℕ → ℕ → ℕ → Bool
groups_fit value width n = ltb 0 width and leb width 10 and leb width n and ltb value (128 ^ width)

-- a part with bytes at its start; as it was where it has no room for them
unfoldable pub over : List ℕ → List ℕ → List ℕ
over bytes out = pick (leb (length bytes) (length out)) (bytes ++ drop (length bytes) out) out

unfoldable pub padded_answer : ℕ → ℕ → ℕ → Result (Unit {0}) ℕ
padded_answer value width n = pick (groups_fit value width n) (Ok tt) (Err 15)

unfoldable pub padded_out : ℕ → ℕ → ℕ → List ℕ
padded_out value width n = pick (groups_fit value width n) (padded (width - 1) value ++ zeros (n - width)) (zeros n)

-- ---- a table of big-endian numbers

-- the same where it has room for them, else as it was
unfoldable pub put_in : List ℕ → ℕ → List ℕ → List ℕ
put_in xs n ys = pick (leb (n + length ys) (length xs)) (put xs n ys) xs

unfoldable pub number_at : ℕ → List ℕ → ℕ → ℕ
number_at width s at = fixed_value true (take width (drop at s))

-- what a table of rows of so many bytes has in row i: the number of `width` bytes at a byte of it; 0 where there is no
-- such row
unfoldable pub row_number : ℕ → ℕ → ℕ → List ℕ → ℕ → ℕ
row_number row byte width table i = pick (ltb i (length table / row)) (number_at width table (row * i + byte)) 0

-- the number that is read, 0 where there is none
unfoldable pub value_or : Option (ℕ × Cursor) → ℕ
value_or (Some (v, c)) = v
value_or None = 0

unfoldable pub number_there : ℕ → List ℕ → ℕ → ℕ
number_there width s at = value_or (fixed_at true width s at)

-- numbers of so many bytes each
unfoldable pub run_bytes : ℕ → List ℕ → List ℕ
run_bytes width [] = []
run_bytes width (x ∷ xs) = fixed_bytes true width x ++ run_bytes width xs

-- a number of a list or of the map has eight bytes, a place of the map three numbers (document 01, "collect"; document
-- 02, Point 6: "The C call's map has eight big-endian bytes a number")
abbrev pub number_size : ℕ
number_size = 8

abbrev pub place_size : ℕ
place_size = 24

-- ---- index lists

abbrev pub list_bytes : List ℕ → List ℕ
list_bytes xs = run_bytes number_size xs

-- what any list has at a place
abbrev pub list_number : List ℕ → ℕ → ℕ
list_number list i = row_number number_size 0 number_size list i

-- ---- the map: old offset, new offset and depth of each place, eight bytes each

unfoldable pub columns : List Place → List ℕ
columns [] = []
columns (p ∷ ps) = p.old ∷ p.new ∷ p.depth ∷ columns ps

unfoldable pub map_bytes : List Place → List ℕ
map_bytes ps = run_bytes number_size (columns ps)

-- what any map has at a place: old offset, new offset, depth
abbrev pub old_at : List ℕ → ℕ → ℕ
old_at map i = row_number place_size 0 number_size map i

abbrev pub new_at : List ℕ → ℕ → ℕ
new_at map i = row_number place_size number_size number_size map i

abbrev pub depth_at : List ℕ → ℕ → ℕ
depth_at map i = row_number place_size (2 * number_size) number_size map i

-- where the halving of the places from low to high ends, by what is read at each: at the first that is not below v,
-- where the numbers ascend; n halvings are enough for n places
unfoldable pub halved : ℕ → (ℕ → ℕ) → ℕ → ℕ → ℕ → ℕ
halved zero at v low high = low
halved (suc n) at v low high =
    pick (ltb low high)
    (pick (ltb (at (low + (high - low) / 2)) v)
    (halved n at v (low + (high - low) / 2 + 1) high)
    (halved n at v low (low + (high - low) / 2)))
    low

-- what is found at place i of the first places of a map
unfoldable pub found_at : List ℕ → ℕ → ℕ → ℕ → Option UnitOffset
found_at map places v i =
    pick (ltb i places) (pick (eqb (old_at map i) v) (Some (record { 0 = new_at map i })) None) None

-- the new offset of an old one, by the first places of any map
unfoldable pub looked_up : List ℕ → ℕ → ℕ → Option UnitOffset
looked_up map places v = found_at map places v (halved places (old_at map) v 0 places)
