-- What the writers of numbers, lists and places answer and leave; tables that hold numbers.
use Rattle.std.specs.Prelude.{◌≡◌, ℕ, suc, ◌*◌, ◌-◌, ◌^◌, ◌/◌, ◌≤◌, ◌<◌, Bool, List, [], ◌∷◌, ◌++◌, length, take, drop, ltb, leb, None, Option, Some}
use Rattle.readers.specs.Choice.{pick, ◌and◌, zeros}
use Rattle.marking.specs.Members.{Member}
use Rattle.rewriting.specs.Ascending.{Ascending}
use Rattle.rewriting.specs.Indices.{insert}
use Rattle.rewriting.specs.Places.{Place, old_offsets}
use Rattle.readers.specs.declared.offsets.UnitOffset.{UnitOffset}
use Rattle.rewriting.specs.Written.{number_size, place_size, columns, groups_fit, run_bytes}

unfoldable pub bytes_fit : ℕ → ℕ → ℕ → Bool
bytes_fit value width n = leb width 8 and leb width n and ltb value (256 ^ width)

unfoldable pub number_fits : Bool → ℕ → ℕ → ℕ → Bool
number_fits is_leb value width n = pick is_leb (groups_fit value width n) (bytes_fit value width n)

-- a part where a number does not fit: as it was, but zeros where a ULEB128 number has room
unfoldable pub unfit : Bool → ℕ → List ℕ → List ℕ
unfit is_leb width out = pick (is_leb and leb width (length out)) (zeros width ++ drop width out) out

-- a writer's answer, and the part after it: the bytes at its start where they fit, and else another
pub record Put (fit : Bool) (bytes : List ℕ) (width : ℕ) (out other : List ℕ) (answer : Bool) (after : List ℕ)
    : Type 0 where
  pub told : answer ≡ fit
  pub left : after ≡ pick fit (bytes ++ drop width out) other

-- a table holds some numbers, each within its width, and zeros after them
pub record NumbersHeld (width : ℕ) (xs bytes : List ℕ) : Type 0 where
  pub are : bytes ≡ run_bytes width xs ++ zeros (length bytes - width * length xs)
  pub room : width * length xs ≤ length bytes
  pub small : (v : ℕ) → Member v xs → v < 256 ^ width

pub record ListHeld (xs bytes : List ℕ) : Type 0 where
  pub held : NumbersHeld number_size xs bytes
  pub ascending : Ascending xs

-- the last number moves down to a place, and those from there on move up
abbrev pub MovesLast : ℕ → ℕ → List ℕ → List ℕ → Type 0
MovesLast at count list after =
    (xs : List ℕ) (v : ℕ) → NumbersHeld number_size (xs ++ (v ∷ [])) list → count ≡ suc (length xs) → at ≤ length xs
    → NumbersHeld number_size (take at xs ++ (v ∷ drop at xs)) after

-- one number more: how many there are then, and the list, which is as it was where it has no room
pub record Inserted (xs : List ℕ) (value : ℕ) (list : List ℕ) (count : ℕ) (after : List ℕ) : Type 0 where
  pub counted : count ≡ length (insert value xs)
  pub holds : length (insert value xs) ≤ length list / number_size → ListHeld (insert value xs) after
  pub full : length list / number_size < length (insert value xs) → after ≡ list

abbrev pub place : ℕ → ℕ → ℕ → Place
place old new depth = record { old = old; new = new; depth = depth }

abbrev pub with_place : List Place → Place → List Place
with_place ps p = ps ++ (p ∷ [])

-- one place more in a map that has room for it
abbrev pub WithPlace : ℕ → ℕ → ℕ → ℕ → List ℕ → List ℕ → Type 0
WithPlace i old new depth map after =
    (ps : List Place) → NumbersHeld number_size (columns ps) map → i ≡ length ps → i < length map / place_size
    → NumbersHeld number_size (columns (with_place ps (place old new depth))) after

pub record MapHeld (ps : List Place) (bytes : List ℕ) : Type 0 where
  pub held : NumbersHeld number_size (columns ps) bytes
  pub ascending : Ascending (old_offsets ps)

unfoldable pub as_mapped : Option ℕ → Option UnitOffset
as_mapped None = None
as_mapped (Some n) = Some (record { 0 = n })
