-- Rows that are read at once: operations of at most one operand, and list entries of two ULEB128 numbers. Assumes nothing.
use Prim.Native.Nat.{ℕ, zero, suc, ◌+◌, ◌-◌, ◌≤◌, ◌<◌}
use mathlib.Core.Path.{◌≡◌, refl, ap, sym, ◌∙◌}
use mathlib.Core.Bool.{Bool, true, false}
use mathlib.Core.List.{List}
use native.Mathlib.Omega.{arith}
use lib.ListN.{length, get_or}
use lib.Dec.{T, eqb}
use mir.Facts.{eqb_yes}
use Rattle.readers.specs.Choice.{pick, ◌and◌}
use Rattle.readers.proofs.Choice.{and_both}
use Rattle.readers.specs.Numbers.{uleb, sleb}
use Rattle.readers.specs.Operations.{rows, row_of, operation_row, list_row}
use Rattle.readers.specs.Cursors.{cursor, leb_at, fixed_at}
use Rattle.readers.specs.Fields.{field_at, row_at, exprloc_at}
use Rattle.readers.specs.Steps.{row_operation, operation_at, row_entry, list_entry_at}
use Rattle.readers.specs.Inner.Fields.{number_field}
use Rattle.readers.specs.Inner.Steps.{empty_past, one_operand, OneUleb128, two_numbers_row, third_operand}
use Rattle.readers.specs.declared.cursor.Cursor.{Cursor}
use Rattle.readers.specs.declared.cursor.Encoding.{Encoding}
use Rattle.std.specs.Prelude.{None, Option, Some}
use Rattle.readers.specs.declared.operations.ListStep.{ListStep}
use Rattle.readers.specs.declared.fields.Field.{Field}
use Rattle.readers.specs.declared.fields.Operands.{Operands}
use Rattle.readers.specs.declared.operations.ListStep.TheVariants.{Entry}
use Rattle.readers.proofs.Tokens.{a_field, a_row, on_field, on-field, on_same, row_step, field-nothing, field-number, field-signed, field-exprloc, number-address, number-leb, number_read, number-unread, row_none, row-none2, row-none3, row_read}
use Rattle.readers.proofs.Steps.{operation-step, entry-step}

-- ---- the rule of a table, on a stretch of it

-- the rule f gives v from i on, n times
unfoldable pub steady : (ℕ → ℕ) → ℕ → ℕ → ℕ → Bool
steady f v i zero = true
steady f v i (suc n) = eqb (f i) v and steady f v (suc i) n

after : (f : ℕ → ℕ) (v i n j : ℕ) → T (steady f v i n) → j < n → v ≡ f (i + j)
unfolding steady
after f v i zero j t h = absurd (omega arith)
after f v i (suc n) zero t h =
    sym (eqb_yes {a = f i} {b = v} (and_both (eqb (f i) v) (steady f v (suc i) n) t).0) ∙ ap f (let e : i ≡ i + 0 = omega arith in e)
after f v i (suc n) (suc j) t h =
    after f v (suc i) n j (and_both (eqb (f i) v) (steady f v (suc i) n) t).1 (omega arith) ∙ ap f (let e : suc i + j ≡ i + suc j = omega arith in e)

pub on-stretch : (f : ℕ → ℕ) (v i n k : ℕ) → T (steady f v i n) → i ≤ k → k < i + n → v ≡ f k
on-stretch f v i n k t lo hi = after f v i n (k - i) t (omega arith) ∙ ap f (let e : i + (k - i) ≡ k = omega arith in e)

-- ---- a row of one operand

uleb-field : (e : Encoding) (s : List ℕ) (at : ℕ) → field_at e s at 11 ≡ number_field at (leb_at uleb s at)
uleb-field e s at = field-number e s at 11 (omega arith) (omega arith) ∙ ap (number_field at) (number-leb e s at 11 (omega arith))

pub operand_read : (row : ℕ) (f : Field) (r : Option Field) → r ≡ Some f
    → Some (record { row = row; first = f; second = empty_past f; next = cursor f.end }) ≡ one_operand row r
unfolding one_operand
operand_read row f r e = rw e

pub operand-unread : (row : ℕ) (r : Option Field) → r ≡ None → None ≡ one_operand row r
unfolding one_operand
operand-unread row r e = rw e

module _ (e : Encoding) (s : List ℕ) (at l : ℕ) where
  row_one : (row_of l).second ≡ 0 → (row_of l).third ≡ 0 → row_at e s at l ≡ on_field (field_at e s at (row_of l).first) (λ f. Some (a_row f (empty_past f) (empty_past f)))
  row_one p q =
      row_step e s at l
      ∙ on_same _ _ _ _ refl
      (λ f. on-field _ (empty_past f) _ (field-nothing e s f.end (row_of l).second p)
      ∙ on-field _ (empty_past f) _ (field-nothing e s f.end (row_of l).third q))

  of_one : (r : Option Field) → one_operand l r ≡ row_operation l (on_field r (λ f. Some (a_row f (empty_past f) (empty_past f))))
  unfolding one_operand row_operation on_field
  of_one (Some f) = refl
  of_one None = refl

module _ (e : Encoding) (s : List ℕ) (at l : ℕ) (h : at < length s) (p : l ≡ operation_row (get_or s at 0)) where
  pub operation-one : (t : ℕ) → (row_of l).first ≡ t → (row_of l).second ≡ 0 → (row_of l).third ≡ 0 → one_operand l (field_at e s (at + 1) t) ≡ operation_at e s at
  operation-one t a b d =
      ap (λ (t : ℕ). one_operand l (field_at e s (at + 1) t)) (sym a)
      ∙ of_one e s (at + 1) l (field_at e s (at + 1) (row_of l).first)
      ∙ ap (row_operation l) (sym (row_one e s (at + 1) l b d))
      ∙ ap (λ (m : ℕ). row_operation m (row_at e s (at + 1) m)) p
      ∙ sym (operation-step e s at h)

  abbrev first_of : ℕ → ℕ
  first_of m = (row_of m).first

  abbrev second-of : ℕ → ℕ
  second-of m = (row_of m).second

  abbrev third_of : ℕ → ℕ
  third_of m = (row_of m).third

  -- no operand
  pub operation-bare : l ≡ 1 → one_operand l (Some (a_field 0 (at + 1) (at + 1))) ≡ operation_at e s at
  unfolding row_of rows
  operation-bare q =
      ap (one_operand l) (sym (field-nothing e s (at + 1) 0 refl)) ∙ operation-one 0 (ap first_of q) (ap second-of q) (ap third_of q)

  pub operation-signed : l ≡ 8 → (n : Option (ℕ × Cursor)) → n ≡ leb_at sleb s (at + 1) → one_operand l (number_field (at + 1) n) ≡ operation_at e s at
  unfolding row_of rows
  operation-signed q n x =
      ap (one_operand l) (ap (number_field (at + 1)) x ∙ sym (field-signed e s (at + 1) 12 refl)) ∙ operation-one 12 (ap first_of q) (ap second-of q) (ap third_of q)

  pub operation-unsigned : OneUleb128 l → (n : Option (ℕ × Cursor)) → n ≡ leb_at uleb s (at + 1) → one_operand l (number_field (at + 1) n) ≡ operation_at e s at
  operation-unsigned u n x =
      ap (one_operand l) (ap (number_field (at + 1)) x ∙ sym (uleb-field e s (at + 1))) ∙ operation-one 11 u.first u.second u.third

  pub operation-address : l ≡ 2 → (n : Option (ℕ × Cursor)) → n ≡ fixed_at e.big_endian e.address_size s (at + 1) → one_operand l (number_field (at + 1) n) ≡ operation_at e s at
  unfolding row_of rows
  operation-address q n x =
      ap (one_operand l)
      (ap (number_field (at + 1)) (x ∙ sym (number-address e s (at + 1) 9 refl)) ∙ sym (field-number e s (at + 1) 9 (omega arith) (omega arith)))
      ∙ operation-one 9 (ap first_of q) (ap second-of q) (ap third_of q)

  pub operation-nested : l ≡ 19 → (r : Option Field) → r ≡ exprloc_at s (at + 1) → one_operand l r ≡ operation_at e s at
  unfolding row_of rows
  operation-nested q r x =
      ap (one_operand l) (x ∙ sym (field-exprloc e s (at + 1) 19 refl)) ∙ operation-one 19 (ap first_of q) (ap second-of q) (ap third_of q)

  -- any other row
  pub operation-row : (r : Option Operands) → r ≡ row_at e s (at + 1) l → row_operation l r ≡ operation_at e s at
  operation-row r x = ap (row_operation l) x ∙ ap (λ (m : ℕ). row_operation m (row_at e s (at + 1) m)) p ∙ sym (operation-step e s at h)

-- the rows of one ULEB128 number
pub uleb-row : (l : ℕ) → l ≡ 7 → OneUleb128 l
unfolding row_of rows
uleb-row l q = record { first = ap (λ (m : ℕ). (row_of m).first) q; second = ap (λ (m : ℕ). (row_of m).second) q; third = ap (λ (m : ℕ). (row_of m).third) q }

pub type_row : (l : ℕ) → l ≡ 14 → OneUleb128 l
unfolding row_of rows
type_row l q = record { first = ap (λ (m : ℕ). (row_of m).first) q; second = ap (λ (m : ℕ). (row_of m).second) q; third = ap (λ (m : ℕ). (row_of m).third) q }

pub index-row : (l : ℕ) → l ≡ 22 → OneUleb128 l
unfolding row_of rows
index-row l q = record { first = ap (λ (m : ℕ). (row_of m).first) q; second = ap (λ (m : ℕ). (row_of m).second) q; third = ap (λ (m : ℕ). (row_of m).third) q }

-- ---- two ULEB128 numbers, and a third operand

pub third-read : (kind : ℕ) (f g h : Field) (d : Cursor) (r : Option Field) → r ≡ Some h → d ≡ cursor h.end
    → Some (Entry (record { kind = kind; first = f; second = g; third = h; next = d })) ≡ third_operand kind f g r
unfolding third_operand
third-read kind f g h d r x y = rw (x, y)

pub third-unread : (kind : ℕ) (f g : Field) (r : Option Field) → r ≡ None → None ≡ third_operand kind f g r
unfolding third_operand
third-unread kind f g r x = rw x

two-first : (b : Bool) → 11 ≡ (row_of (two_numbers_row b)).first
unfolding two_numbers_row pick row_of rows
two-first true = refl
two-first false = refl

two-second : (b : Bool) → 11 ≡ (row_of (two_numbers_row b)).second
unfolding two_numbers_row pick row_of rows
two-second true = refl
two-second false = refl

module _ (e : Encoding) (s : List ℕ) (at kind : ℕ) (b : Bool) (n : Option (ℕ × Cursor)) (p : n ≡ leb_at uleb s at) where
  first_field : number_field at n ≡ field_at e s at 11
  first_field = ap (number_field at) p ∙ sym (uleb-field e s at)

  pub two_none : n ≡ None → None ≡ row_entry kind (row_at e s at (two_numbers_row b))
  unfolding row_entry
  two_none h = ap (row_entry kind) (row_none e s at (two_numbers_row b) 11 (number_field at n) first_field (two-first b) (sym (number-unread at n h)))

  module _ (v : ℕ) (d : Cursor) (h : n ≡ Some (v, d)) (n' : Option (ℕ × Cursor)) (p' : n' ≡ leb_at uleb s d.at) where
    abbrev f : Field
    f = a_field v at d.at

    second-field : number_field d.at n' ≡ field_at e s d.at 11
    second-field = ap (number_field d.at) p' ∙ sym (uleb-field e s d.at)

    pub two-half : n' ≡ None → None ≡ row_entry kind (row_at e s at (two_numbers_row b))
    unfolding row_entry
    two-half h' =
        ap (row_entry kind) (row-none2 e s at (two_numbers_row b) 11 (number_field at n) first_field (two-first b) f (sym (number_read at v d n h))
        11 (number_field d.at n') second-field (two-second b) (sym (number-unread d.at n' h')))

    module _ (v' : ℕ) (d' : Cursor) (h' : n' ≡ Some (v', d')) where
      abbrev g : Field
      g = a_field v' d.at d'.at

      with-third : (t : ℕ) (r : Option Field) → t ≡ (row_of (two_numbers_row b)).third → r ≡ field_at e s d'.at t → third_operand kind f g r ≡ row_entry kind (row_at e s at (two_numbers_row b))
      unfolding row_entry third_operand
      with-third t (Some k) q x =
          ap (row_entry kind) (row_read e s at (two_numbers_row b) 11 (number_field at n) first_field (two-first b) f (sym (number_read at v d n h))
          11 (number_field d.at n') second-field (two-second b) g (sym (number_read d.at v' d' n' h')) t (Some k) x q k refl)
      with-third t None q x =
          ap (row_entry kind) (row-none3 e s at (two_numbers_row b) 11 (number_field at n) first_field (two-first b) f (sym (number_read at v d n h))
          11 (number_field d.at n') second-field (two-second b) g (sym (number_read d.at v' d' n' h')) t None x q refl)

      pub two-expression : b ≡ true → (r : Option Field) → r ≡ exprloc_at s d'.at → third_operand kind f g r ≡ row_entry kind (row_at e s at (two_numbers_row b))
      unfolding two_numbers_row pick row_of rows
      two-expression y r x =
          with-third 19 r (ap (λ (c : Bool). (row_of (two_numbers_row c)).third) (sym y)) (x ∙ sym (field-exprloc e s d'.at 19 refl))

      pub two-only : b ≡ false → third_operand kind f g (Some (a_field 0 d'.at d'.at)) ≡ row_entry kind (row_at e s at (two_numbers_row b))
      unfolding two_numbers_row pick row_of rows
      two-only y =
          with-third 0 (Some (a_field 0 d'.at d'.at)) (ap (λ (c : Bool). (row_of (two_numbers_row c)).third) (sym y)) (sym (field-nothing e s d'.at 0 refl))

module _ (e : Encoding) (location : Bool) (s : List ℕ) (at l : ℕ) (h : at < length s) (z : get_or s at 0 ≡ 0 → ⊥) (p : l ≡ list_row e.version location (get_or s at 0)) where
  pub entry_row : (r : Option Operands) → r ≡ row_at e s (at + 1) l → row_entry (get_or s at 0) r ≡ list_entry_at e location s at
  entry_row r x = ap (row_entry (get_or s at 0)) x ∙ ap (λ (m : ℕ). row_entry (get_or s at 0) (row_at e s (at + 1) m)) p ∙ sym (entry-step e location s at h z)

  entry-two : (b : Bool) → l ≡ two_numbers_row b → (r : Option ListStep) → r ≡ row_entry (get_or s at 0) (row_at e s (at + 1) (two_numbers_row b)) → r ≡ list_entry_at e location s at
  entry-two b q r x = x ∙ ap (λ (m : ℕ). row_entry (get_or s at 0) (row_at e s (at + 1) m)) (sym q) ∙ entry_row (row_at e s (at + 1) l) refl

  pub entry-pair : l ≡ 11 → (r : Option ListStep) → r ≡ row_entry (get_or s at 0) (row_at e s (at + 1) (two_numbers_row false)) → r ≡ list_entry_at e location s at
  unfolding two_numbers_row pick
  entry-pair q = entry-two false q

  pub entry-located : l ≡ 25 → (r : Option ListStep) → r ≡ row_entry (get_or s at 0) (row_at e s (at + 1) (two_numbers_row true)) → r ≡ list_entry_at e location s at
  unfolding two_numbers_row pick
  entry-located q = entry-two true q

-- what was read of a row
pub operation-made : (row : ℕ) (f : Operands) (d : Cursor) (r : Option Operands) → r ≡ Some f → d ≡ cursor f.third.end
    → Some (record { row = row; first = f.first; second = f.second; next = d }) ≡ row_operation row r
unfolding row_operation
operation-made row f d r x y = rw (x, y)

pub operation-unmade : (row : ℕ) (r : Option Operands) → r ≡ None → None ≡ row_operation row r
unfolding row_operation
operation-unmade row r x = rw x

pub entry-made : (kind : ℕ) (f : Operands) (d : Cursor) (r : Option Operands) → r ≡ Some f → d ≡ cursor f.third.end
    → Some (Entry (record { kind = kind; first = f.first; second = f.second; third = f.third; next = d })) ≡ row_entry kind r
unfolding row_entry
entry-made kind f d r x y = rw (x, y)

pub entry-unmade : (kind : ℕ) (r : Option Operands) → r ≡ None → None ≡ row_entry kind r
unfolding row_entry
entry-unmade kind r x = rw x
