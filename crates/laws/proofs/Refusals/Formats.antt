-- The format of a unit (document 02, Point 6), by its first four bytes: a length of the 32-bit format, a reserved number,
-- or that a length of the 64-bit one follows; and which bytes the unit is. Assumes nothing.
use mathlib.Core.Path.{◌≡◌, refl, ap, sym, ◌∙◌, subst}
use Prim.Native.Nat.{ℕ, ◌+◌, ◌-◌, ◌^◌, ◌≤◌, ◌<◌}
use mathlib.Core.Logic.{⊎_elim}
use mathlib.Core.Bool.{Bool}
use mathlib.Core.List.{List}
use native.Mathlib.Omega.{arith}
use lib.ListN.{length, take, drop}
use lib.Dec.{ltb}
use mir.Facts.{yes_ltb}
use Rattle.readers.specs.Choice.{pick}
use Rattle.readers.proofs.Choice.{pick_yes, pick-either}
use Rattle.readers.specs.Numbers.{fixed_value}
use Rattle.readers.specs.Cursors.{cursor, fixed_at}
use Rattle.readers.specs.Header.{SaysWidth, length_bytes, header_in, header_of}
use Rattle.std.specs.Prelude.{Err, Ok, Option, Result, Some}
use Rattle.readers.specs.declared.header.UnitHeader.{UnitHeader}
use Rattle.readers.proofs.Widths.{fixed-is, fixed-short}
use Rattle.readers.proofs.Headers.{four_bytes, eight-bytes, in-over, length-reserved, length-four, eight-none, length-said}
use Rattle.readers.proofs.HeaderLaws.{header-laws}
use Rattle.marking.specs.Analysis.{Sections}
use Rattle.rewriting.specs.Rewriting.{Room, refused, header_collected, collect_of}
use Rattle.laws.specs.Formats.{start, length_said}
use Rattle.marking.specs.KeepList.{keep_refusal}
use Rattle.marking.proofs.ListedHeaders.{header-taken}

-- ---- what the header is, by the first four bytes

module _ (big : Bool) (section : List ℕ) where
  read4 : 4 ≤ length section → fixed_at big 4 section 0 ≡ Some (start big section, cursor 4)
  read4 there = fixed-is big 4 section 0 (omega arith) (omega arith)

  -- a length of m behind a length field of k bytes
  abbrev Said : ℕ → ℕ → Type 0
  Said w k =
      (m : ℕ) → m ≡ fixed_value big (take w (drop (k - w) section)) → k ≤ length section
      → header_of big section ≡ pick (ltb (k + m) (2 ^ 64)) (header_in big w section m) (Err 1)

  four-said : start big section < 0xfffffff0 → Said 4 4
  four-said lo m q there =
      let less : m < 0xfffffff0 = subst (λ (z : ℕ). z < 0xfffffff0) (sym q) lo in
      length-four big section (λ z. absurd (omega (arith, z))) m (cursor 4) (read4 there ∙ ap (λ (z : ℕ). Some (z, cursor 4)) (sym q)) less
      ∙ sym (pick_yes _ _ _ (yes_ltb {a = 4 + m} {b = 2 ^ 64} (omega arith)))

  eight-said : start big section ≡ 0xffffffff → Said 8 12
  eight-said escape m q there =
      length-said big section (λ z. absurd (omega (arith, z))) (start big section) (cursor 4) (read4 (omega arith)) escape m (cursor 12)
      (fixed-is big 8 section 4 (omega arith) (omega arith) ∙ ap (λ (z : ℕ). Some (z, cursor 12)) (sym q))

  by_width : (w : ℕ) → SaysWidth (start big section) w → Said w (length_bytes w)
  by_width w says =
      ⊎_elim
      (λ y. subst (λ (v : ℕ). Said v (length_bytes v)) (sym y.0) (subst (Said 4) (sym four_bytes) (four-said y.1)))
      (λ y. subst (λ (v : ℕ). Said v (length_bytes v)) (sym y.0) (subst (Said 8) (sym eight-bytes) (eight-said y.1)))
      says

module _ (x : Sections) (section : List ℕ) where
  abbrev big : Bool
  big = x.setting.big_endian

  -- a unit that is read: 0xffffffff says that offsets have eight bytes
  pub format-law : (h : UnitHeader) → header_of x.setting.big_endian section ≡ Ok (Some h)
      → SaysWidth (start x.setting.big_endian (take h.end section)) h.encoding.offset_size
  format-law h q = (header-laws x.setting.big_endian section h q).format

  -- the header is that of the unit of so many bytes as its length says, in both formats alike, however long: `header_in` says
  -- that they must be there; 1 where it would end past 64 bits
  pub length-said-law : (w : ℕ) → SaysWidth (start x.setting.big_endian section) w → length_bytes w ≤ length section
      → let m = length_said x.setting.big_endian section w in
      header_of x.setting.big_endian section
      ≡ pick (ltb (length_bytes w + m) (2 ^ 64)) (header_in x.setting.big_endian w section m) (Err 1)
  length-said-law w says there = by_width big section w says (length_said big section w) refl there

  -- "Number 2 still stands for 0xfffffff0 to 0xfffffffe."
  pub reserved-law : 4 ≤ length section → 0xfffffff0 ≤ start x.setting.big_endian section
      → start x.setting.big_endian section < 0xffffffff
      → keep_refusal x.keep ≡ 0 → (room : Room) (type_units : Bool) → collect_of x room type_units section ≡ refused 2
  unfolding collect_of header_collected
  reserved-law there lo hi z room type_units =
      ap (header_collected x room type_units section)
      (header-taken x section z ∙ length-reserved big section (λ z. absurd (omega (arith, z))) _ (cursor 4) (read4 big section there) (λ z. absurd (omega (arith, z))) lo)

  -- a length past the section is 1
  pub length-past-law : (w : ℕ) → SaysWidth (start x.setting.big_endian section) w → length_bytes w ≤ length section
      → length section < length_bytes w + length_said x.setting.big_endian section w
      → keep_refusal x.keep ≡ 0 → (room : Room) (type_units : Bool) → collect_of x room type_units section ≡ refused 1
  unfolding collect_of header_collected
  length-past-law w says there over z room type_units =
      ap (header_collected x room type_units section)
      (header-taken x section z ∙ length-said-law w says there
      ∙ pick-either (λ (r : Result (Option UnitHeader) ℕ). r ≡ Err 1) (ltb (length_bytes w + length_said big section w) (2 ^ 64)) _ _
      (λ _. in-over big w section (length_bytes w) refl (length_said big section w) (omega arith)) (λ _. refl))

  -- and so is a length of the 64-bit format that is cut short
  pub cut-law : 4 ≤ length section → start x.setting.big_endian section ≡ 0xffffffff → length section < length_bytes 8
      → keep_refusal x.keep ≡ 0 → (room : Room) (type_units : Bool) → collect_of x room type_units section ≡ refused 1
  unfolding collect_of header_collected
  cut-law there is short z room type_units =
      ap (header_collected x room type_units section)
      (header-taken x section z ∙ eight-none big section (λ z. absurd (omega (arith, z))) _ (cursor 4) (read4 big section there) is
      (fixed-short big 8 section 4 (omega (arith, eight-bytes))))
