-- What the parts of emission answer and leave, and the lists that they are lent.
use Rattle.std.specs.Prelude.{◌≡◌, ℕ, ◌+◌, ◌≤◌, ◌<◌, Bool, true, false, List, ◌++◌, length, drop, eqb, None, Option, Some, Err, Ok, Result}
use Rattle.readers.specs.Choice.{pick, ◌or◌}
use Rattle.readers.specs.Codes.{DW_FORM_GNU_str_index, DW_FORM_loclistx, DW_FORM_ref_udata, DW_FORM_rnglistx, DW_FORM_strx}
use Rattle.readers.specs.Layout.{Encoded, fits}
use Rattle.rewriting.specs.Inner.Written.{ListHeld}
use Rattle.rewriting.specs.Rewriting.{Lists, is_some, or_self}

-- `bytes` are to be written at the start of a part, or refused by n (0: they are not): what is answered and how the part
-- then is, if it has room for them
pub record Emits (n : ℕ) (bytes out : List ℕ) (r : Result ℕ ℕ) (out' : List ℕ) : Type 0 where
  pub size : length out' ≡ length out
  pub fine : length bytes ≤ length out → n ≡ 0 → (r ≡ Ok (length bytes)) × (out' ≡ bytes ++ drop (length bytes) out)
  pub no : length bytes ≤ length out → (n ≡ 0 → ⊥) → r ≡ Err n

-- no more bytes than there is room for, in a part that is as long as it was
pub record Within (out : List ℕ) (r : Result ℕ ℕ) (out' : List ℕ) : Type 0 where
  pub size : length out' ≡ length out
  pub room : (n : ℕ) → r ≡ Ok n → n ≤ length out

-- the same answer where so many bytes stand before
unfoldable pub onward : ℕ → Result ℕ ℕ → Result ℕ ℕ
onward done (Ok n) = Ok (done + n)
onward done (Err n) = Err n

-- ---- numbers

-- a width that a number can have, as ULEB128 (true) or in so many bytes
unfoldable pub Wide : Bool → ℕ → Type 0
Wide true w = (0 < w) × (w ≤ 10)
Wide false w = w ≤ 8

-- 9 for a number that does not fit
unfoldable pub number_refusal : Encoded → ℕ → ℕ
number_refusal e v = pick (fits e v) 0 9

-- 8 where there is no new offset
unfoldable pub offset_refusal : Encoded → ℕ → Option ℕ → ℕ
offset_refusal e v o = pick (is_some o) (number_refusal e (or_self v o)) 8

-- ---- forms

-- ref_udata, strx, loclistx, rnglistx, GNU_str_index
unfoldable pub leb_form : ℕ → Bool
leb_form f = eqb f DW_FORM_ref_udata or eqb f DW_FORM_strx or eqb f DW_FORM_loclistx or eqb f DW_FORM_rnglistx or eqb f DW_FORM_GNU_str_index

-- ---- lists as they are lent

-- an absent list, or the numbers of one that is there
unfoldable pub Lent : Option (List ℕ) → List ℕ → Option ℕ → Type 0
Lent None list None = Unit {0}
Lent None list (Some n) = ⊥
Lent (Some xs) list None = ⊥
Lent (Some xs) list (Some n) = ListHeld xs list × (n ≡ length xs)

-- the three lists of a rewriting
pub record ListsLent (lists : Lists) (ranges : List ℕ) (ranges' : Option ℕ) (locations : List ℕ) (locations' : Option ℕ)
    (strings : List ℕ) (strings' : Option ℕ) : Type 0 where
  pub those_ranges : Lent lists.ranges ranges ranges'
  pub those_locations : Lent lists.locations locations locations'
  pub those_strings : Lent lists.strings strings strings'
