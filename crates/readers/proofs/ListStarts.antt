-- Where a list starts: from the index to the place in the table, and from there to the list. Assumes nothing.
use Prim.Native.Nat.{ℕ, ◌+◌, ◌*◌, ◌/◌, ◌≤◌, ◌<◌}
use mathlib.Core.Path.{◌≡◌, refl, ap, ◌∙◌}
use mathlib.Core.Logic.{⊎_elim}
use mathlib.Core.Bool.{Bool, true, false}
use mathlib.Core.List.{List}
use native.Mathlib.Omega.{arith}
use native.Mathlib.Nat.{mul-le-mul_right, div-mul-le_self, div-lt_iff_lt-mul}
use lib.ListN.{length, take, drop}
use lib.Dec.{eqb}
use mir.Facts.{yes_leb, no_leb, eqb_yes, eqb_no}
use Rattle.readers.proofs.Choice.{pick_yes, pick_no, either}
use Rattle.readers.specs.Numbers.{fixed_value, little_value, ordered}
use Rattle.readers.specs.Cursors.{cursor, fixed_at}
use Rattle.readers.specs.Lists.{list_start, from_base, list_offset}
use Rattle.readers.specs.declared.cursor.Cursor.{Cursor}
use Rattle.readers.specs.declared.cursor.Encoding.{Encoding}
use Rattle.std.specs.Prelude.{None, Option, Some}
use Rattle.readers.proofs.Widths.{fixed-is, fixed-short}

pub start-past : (s : List ℕ) (offset : ℕ) → length s < offset → list_start s offset ≡ None
unfolding list_start
start-past s offset h = pick_no _ _ _ (no_leb {a = offset} {b = length s} h)

pub start-inside : (s : List ℕ) (offset : ℕ) → offset ≤ length s → list_start s offset ≡ Some (cursor offset)
unfolding list_start
start-inside s offset h = pick_yes _ _ _ (yes_leb {a = offset} {b = length s} h)

-- the table's entries that lie within n bytes, and those past them
pub within : (n index size : ℕ) → index ≤ n / size → index * size ≤ n
within n index size h =
    let a : index * size ≤ n / size * size = mul-le-mul_right size h in
    omega (arith, div-mul-le_self n size)

pub beyond : (n index size : ℕ) → n / size < index → 0 < size → n < index * size
beyond n index size h p = (div-lt_iff_lt-mul p).0 h

-- a number of no bytes is 0
no_bytes : (big : Bool) (l : List ℕ) → fixed_value big (take 0 l) ≡ 0
unfolding fixed_value little_value ordered
no_bytes true l = refl
no_bytes false l = refl

no-width : (big : Bool) (w : ℕ) (s : List ℕ) (at : ℕ) → w ≡ 0 → fixed_at big w s at ≡ Some (0, cursor (at + w))
no-width big w s at z =
    fixed-is big w s at (omega arith) (omega arith)
    ∙ ap (λ v. Some (v, cursor (at + w))) (ap (λ n. fixed_value big (take n (drop at s))) z ∙ no_bytes big (drop at s))

module _ (e : Encoding) (s : List ℕ) (base index : ℕ) where
  abbrev place : ℕ
  place = base + index * e.offset_size

  abbrev read : Option (ℕ × Cursor)
  read = fixed_at e.big_endian e.offset_size s place

  pub unread : read ≡ None → list_offset e s base index ≡ None
  unfolding list_offset from_base
  unread q = ap (from_base s base) q

  pub was_read : (v : ℕ) (c : Cursor) → read ≡ Some (v, c) → list_offset e s base index ≡ list_start s (base + v)
  unfolding list_offset from_base
  was_read v c q = ap (from_base s base) q

  -- an entry past the end
  pub past : length s < place → 0 < e.offset_size → list_offset e s base index ≡ None
  past h p = unread (fixed-short e.big_endian e.offset_size s place (omega arith))

  pub no_size : e.offset_size ≡ 0 → list_offset e s base index ≡ list_start s base
  no_size z =
      was_read 0 _ (no-width e.big_endian e.offset_size s place z) ∙ ap (list_start s) (let q : base + 0 ≡ base = omega arith in q)

  -- a base past the end
  pub base-past : length s < base → list_offset e s base index ≡ None
  base-past h =
      ⊎_elim
      (λ t. no_size (eqb_yes {a = e.offset_size} {b = 0} t) ∙ start-past s base h)
      (λ t. let p : e.offset_size ≡ 0 → ⊥ = eqb_no {a = e.offset_size} {b = 0} t in past (omega arith) (omega arith))
      (either (eqb e.offset_size 0))
