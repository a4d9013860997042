-- What the cursor's methods answer: the definitions, read from a place of a slice on.
use Rattle.std.specs.Prelude.{ℕ, suc, ◌+◌, ◌-◌, ◌^◌, ◌/◌, ◌%◌, Bool, List, length, drop, leb, None, Option, Some}
use Rattle.readers.specs.declared.cursor.Groups.{Groups}
use Rattle.readers.specs.Choice.{pick}
use Rattle.readers.specs.Numbers.{Groups as Read, groups}
use Rattle.readers.specs.Layout.{fixed, ReadFound, width, number_in, string_in, forms_in}
use Rattle.readers.specs.declared.cursor.Cursor.{Cursor}

abbrev pub cursor : ℕ → Cursor
cursor n = record { at = n }

-- the groups of a LEB128 number, its value in two parts
abbrev pub whole_groups : ℕ → ℕ → ℕ → Cursor → Option Groups
whole_groups low high weight next = Some (record { low = low; high = high; weight = weight; next = next })

unfoldable pub as_groups : ℕ → Option Read → Option Groups
as_groups at None = None
as_groups at (Some t) = whole_groups (t.1 % 2 ^ 63) (t.1 / 2 ^ 63) (128 ^ t.0) (cursor (at + suc t.0))

unfoldable pub groups_at : List ℕ → ℕ → Option Groups
groups_at s at = as_groups at (groups 10 (drop at s))

-- a LEB128 number by one of its readers (Numbers.antt, Layout.antt)
unfoldable pub as_leb_number : ℕ → Option Read → Option (ℕ × Cursor)
as_leb_number at None = None
as_leb_number at (Some t) = Some (t.1, cursor (at + suc t.0))

unfoldable pub leb_at : (List ℕ → Option Read) → List ℕ → ℕ → Option (ℕ × Cursor)
leb_at R s at = as_leb_number at (R (drop at s))

-- a number of w bytes
unfoldable pub as_fixed : ℕ → Option ReadFound → Option (ℕ × Cursor)
as_fixed at None = None
as_fixed at (Some t) = Some (t.1, cursor (at + width t.0))

unfoldable pub fixed_at : Bool → ℕ → List ℕ → ℕ → Option (ℕ × Cursor)
fixed_at big w s at = as_fixed at (number_in big (fixed w) (drop at s))

-- n bytes on, if they are there
unfoldable pub skip_at : List ℕ → ℕ → ℕ → Option Cursor
skip_at s at n = pick (leb n (length s - at)) (Some (cursor (at + n))) None

-- past a string and its zero byte
unfoldable pub as_moved : ℕ → Option (List ℕ × List ℕ) → Option Cursor
as_moved at None = None
as_moved at (Some r) = Some (cursor (at + length r.0))

unfoldable pub string_at : List ℕ → ℕ → Option Cursor
string_at s at = as_moved at (string_in (drop at s))

-- the form that the form numbers of DW_FORM_indirect end in
unfoldable pub as_form_number : ℕ → Option (ℕ × ℕ) → Option (ℕ × Cursor)
as_form_number at None = None
as_form_number at (Some r) = Some (r.1, cursor (at + r.0))

unfoldable pub forms_at : List ℕ → ℕ → Option (ℕ × Cursor)
forms_at s at = as_form_number at (forms_in (drop at s))
