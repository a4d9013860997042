-- An operation and a list entry as a byte and a row of fields, and how far each comes. Assumes nothing.
use Prim.Native.Nat.{ℕ, suc, ◌+◌, ◌≤◌, ◌<◌}
use mathlib.Core.Path.{◌≡◌, refl, ap, sym, ◌∙◌, subst}
use mathlib.Core.Logic.{⊎_elim}
use mathlib.Core.Bool.{Bool, true, false, not}
use Rattle.std.specs.Prelude.{None, Option, Some}
use mathlib.Core.List.{List, [], ◌∷◌}
use native.Mathlib.Omega.{arith}
use native.Mathlib.Numerals.{add-one}
use lib.ListN.{length, get_or, drop, drop_of_length-le}
use lib.Seq.{drop-cons}
use lib.Dec.{T, leb, ltb, eqb}
use borrow.Author.Tests.{eq-eqb, ne_eqb}
use mir.Facts.{yes_leb, no_leb, yes_ltb, no_ltb, ltb_yes, ltb_no, no_eqb, eqb_yes, eqb_no}
use Rattle.readers.specs.Choice.{pick, ◌and◌, check, bind}
use Rattle.readers.proofs.Choice.{pick_yes, pick_no, either, check-yes, bind-at}
use Rattle.readers.specs.Layout.{fixed, infixed, number, verbatim, Read, RunOf, Layout, field, done, width, copy, as_number, before, number_in, token_in, read_in, as_bytes, piece_bytes, bytes_of}
use Rattle.readers.specs.Operations.{row_layout, row_of, operation, operation_row, Codes, row_among, location_entries, location_entries4, range_entries, list_row}
use Rattle.readers.specs.Cursors.{cursor}
use Rattle.readers.specs.Fields.{size, as_row, row_at}
use Rattle.readers.specs.Steps.{row_operation, operation_of_reads, as_operation, operation_at, list_entry, row_entry, entry_of_reads, as_list_step, list_entry_at}
use Rattle.readers.specs.declared.cursor.Cursor.{Cursor}
use Rattle.readers.specs.declared.cursor.Encoding.{Encoding}
use Rattle.readers.specs.declared.fields.Field.{Field}
use Rattle.readers.specs.declared.fields.Operands.{Operands}
use Rattle.readers.specs.declared.operations.Operation.{Operation}
use Rattle.readers.specs.declared.operations.ListEntry.{ListEntry}
use Rattle.readers.specs.declared.operations.ListStep.TheVariants.{Entry, End}
use Rattle.readers.proofs.Widths.{value-one}
use Rattle.readers.proofs.Tokens.{Inside, inside-slice, row_inside}

-- ---- layout numbers

-- all codes of a list are below n, and past them there are none
unfoldable all_below : ℕ → List Codes → Bool
all_below n [] = true
all_below n (x ∷ xs) = ltb x.upto n and all_below n xs

both : (a b : Bool) → T (a and b) → T a × T b
unfolding ◌and◌
both true b t = (tt, t)
both false b t = absurd t

refuted : (a b : Bool) → T (not b) → T (not (a and b))
unfolding ◌and◌
refuted true b t = t
refuted false b t = tt

past-codes : (xs : List Codes) (n k : ℕ) → T (all_below n xs) → n ≤ k → row_among xs k ≡ 0
unfolding all_below row_among
past-codes [] n k t h = refl
past-codes (x ∷ xs) n k t h =
    let p : T (ltb x.upto n) × T (all_below n xs) = both (ltb x.upto n) (all_below n xs) t in
    let q : x.upto < n = ltb_yes {a = x.upto} {b = n} p.0 in
    pick_no _ _ _ (refuted (leb x.from k) (leb k x.upto) (no_leb {a = k} {b = x.upto} (omega arith))) ∙ past-codes xs n k p.1 h

module _ (version : ℕ) (location : Bool) (k : ℕ) where
  abbrev among : Bool → Bool → ℕ
  among old list = row_among (pick list (pick old location_entries4 location_entries) range_entries) k

  pub location4-row : location ≡ true → version ≡ 4 → list_row version location k ≡ row_among location_entries4 k
  unfolding list_row pick
  location4-row l v = ap (among (eqb version 4)) l ∙ ap (λ b. among b true) (eq-eqb version 4 v)

  pub location-row : location ≡ true → (version ≡ 4 → ⊥) → list_row version location k ≡ row_among location_entries k
  unfolding list_row pick
  location-row l v = ap (among (eqb version 4)) l ∙ ap (λ b. among b true) (ne_eqb version 4 v)

  pub range-row : location ≡ false → list_row version location k ≡ row_among range_entries k
  unfolding list_row pick
  range-row l = ap (among (eqb version 4)) l

  pub location4-past : location ≡ true → version ≡ 4 → 5 ≤ k → list_row version location k ≡ 0
  unfolding location_entries4 all_below ◌and◌
  location4-past l v h = location4-row l v ∙ past-codes location_entries4 5 k tt h

  pub location-past : location ≡ true → (version ≡ 4 → ⊥) → 9 ≤ k → list_row version location k ≡ 0
  unfolding location_entries all_below ◌and◌
  location-past l v h = location-row l v ∙ past-codes location_entries 9 k tt h

  pub range-past : location ≡ false → 8 ≤ k → list_row version location k ≡ 0
  unfolding range_entries all_below ◌and◌
  range-past l h = range-row l ∙ past-codes range_entries 8 k tt h

-- ---- a layout that begins with a byte

abbrev byte_read : ℕ → Read
byte_read b = record { seen = b; start = 0; pieces = verbatim (b ∷ []) ∷ [] }

module _ (big : Bool) (g : ℕ → Layout) where
  byte-number : (b : ℕ) (t : List ℕ) → number_in big (fixed 1) (b ∷ t) ≡ Some (infixed 1, b, t)
  unfolding number_in
  byte-number b t =
      check-yes _ _ (yes_leb {a = 1} {b = 8} (omega arith))
      ∙ check-yes _ _ (yes_leb {a = 1} {b = length (b ∷ t)} (let h : 1 ≤ suc (length t) = omega arith in h))
      ∙ ap (λ (v : ℕ). Some (infixed 1, v, t)) (value-one big b t)

  byte-token : (b : ℕ) (t : List ℕ) → token_in big as_bytes (number (fixed 1)) (b ∷ t) ≡ Some (byte_read b, t)
  unfolding token_in as_number copy width
  byte-token b t = bind-at (as_number (b ∷ t)) (byte-number b t)

  byte-first : (s : List ℕ) (at : ℕ) → at < length s
      → read_in big as_bytes (field (number (fixed 1)) g) (drop at s)
      ≡ bind (read_in big as_bytes (g (get_or s at 0)) (drop (at + 1) s)) (before (byte_read (get_or s at 0)))
  unfolding read_in
  byte-first s at h = rw (drop-cons s at 0 h, add-one at) (bind-at _ (byte-token (get_or s at 0) (drop (suc at) s)))

  no_byte : (s : List ℕ) (at : ℕ) → length s ≤ at → read_in big as_bytes (field (number (fixed 1)) g) (drop at s) ≡ None
  unfolding read_in token_in number_in bind check
  no_byte s at h = rw (drop_of_length-le s h)

-- ---- operations

module _ (e : Encoding) (s : List ℕ) (at : ℕ) where
  abbrev code : ℕ
  code = get_or s at 0

  pub operation-end : length s ≤ at → operation_at e s at ≡ None
  unfolding operation_at operation as_operation
  operation-end h = ap (as_operation e.big_endian at) (no_byte e.big_endian _ s at h)

  of_row : (b : ℕ) (o : Option RunOf)
      → as_operation e.big_endian at (bind o (before (byte_read b))) ≡ row_operation (operation_row b) (as_row e.big_endian (at + 1) o)
  unfolding as_operation operation_of_reads row_operation as_row bind before size bytes_of piece_bytes
  of_row b None = refl
  of_row b (Some r) = refl

  pub operation-step : at < length s → operation_at e s at ≡ row_operation (operation_row code) (row_at e s (at + 1) (operation_row code))
  unfolding operation_at operation row_at
  operation-step h =
      ap (as_operation e.big_endian at) (byte-first e.big_endian _ s at h)
      ∙ of_row code (read_in e.big_endian as_bytes (row_layout e (row_of (operation_row code))) (drop (at + 1) s))

-- ---- list entries

module _ (e : Encoding) (location : Bool) (s : List ℕ) (at : ℕ) where
  abbrev kind : ℕ
  kind = get_or s at 0

  pub entry-end : length s ≤ at → list_entry_at e location s at ≡ Some End
  unfolding list_entry_at
  entry-end h = pick_no _ _ _ (no_ltb {a = at} {b = length s} h)

  abbrev kinds : ℕ → Layout
  kinds k = pick (eqb k 0) done (row_layout e (row_of (list_row e.version location k)))

  of-kind : at < length s
      → list_entry_at e location s at
      ≡ as_list_step e.big_endian at (bind (read_in e.big_endian as_bytes (kinds kind) (drop (at + 1) s)) (before (byte_read kind)))
  unfolding list_entry_at list_entry
  of-kind h = pick_yes _ _ _ (yes_ltb {a = at} {b = length s} h) ∙ ap (as_list_step e.big_endian at) (byte-first e.big_endian kinds s at h)

  pub entry_zero : at < length s → kind ≡ 0 → list_entry_at e location s at ≡ Some End
  unfolding as_list_step entry_of_reads read_in bind before pick
  entry_zero h z =
      of-kind h
      ∙ ap (λ k. as_list_step e.big_endian at (bind (read_in e.big_endian as_bytes (kinds k) (drop (at + 1) s)) (before (byte_read k)))) z

  of_entry : (k : ℕ) (o : Option RunOf) → (k ≡ 0 → ⊥)
      → as_list_step e.big_endian at (bind o (before (byte_read k))) ≡ row_entry k (as_row e.big_endian (at + 1) o)
  unfolding as_list_step entry_of_reads row_entry as_row bind before size bytes_of piece_bytes
  of_entry k None h = refl
  of_entry k (Some r) h = pick_no _ _ _ (no_eqb {a = k} {b = 0} h)

  pub entry-step : at < length s → (kind ≡ 0 → ⊥) → list_entry_at e location s at ≡ row_entry kind (row_at e s (at + 1) (list_row e.version location kind))
  unfolding row_at
  entry-step h f =
      of-kind h
      ∙ of_entry kind (read_in e.big_endian as_bytes (kinds kind) (drop (at + 1) s)) f
      ∙ ap (λ g. row_entry kind (as_row e.big_endian (at + 1) (read_in e.big_endian as_bytes g (drop (at + 1) s)))) (pick_no _ _ _ (no_eqb {a = kind} {b = 0} f))

-- ---- what an operation that was read says

inside-same : (s : List ℕ) (a a' : ℕ) (f f' : Field) → a ≡ a' → f ≡ f' → Inside s a' f' → Inside s a f
inside-same s a a' f f' p q i = rw (p, q) i

-- a row after a byte ends past it
between : (e : Encoding) (s : List ℕ) (at : ℕ) (r : Operands) → at < length s
    → Inside s (at + 1) r.first × Inside s r.first.end r.second × Inside s r.second.end r.third
    → (at < r.third.end) × (r.third.end ≤ length s) × (r.second.end ≤ r.third.end)
between e s at r h i =
    let a : r.first.end ≤ length s = inside-slice s (at + 1) r.first i.0 (omega arith) in
    let b : r.second.end ≤ length s = inside-slice s r.first.end r.second i.1 a in
    let c : r.third.end ≤ length s = inside-slice s r.second.end r.third i.2 b in
    (omega (arith, i.0.after, i.0.forward, i.1.after, i.1.forward, i.2.after, i.2.forward), c, omega (arith, i.2.after, i.2.forward))

pub record Stepped (e : Encoding) (s : List ℕ) (at : ℕ) (o : Operation) : Type 0 where
  pub here : at < length s
  pub code : o.row ≡ operation_row (get_or s at 0)
  pub fields : Operands
  pub read : row_at e s (at + 1) o.row ≡ Some fields
  pub first : o.first ≡ fields.first
  pub second : o.second ≡ fields.second
  pub next : o.next ≡ cursor fields.third.end

module _ (e : Encoding) (s : List ℕ) (at : ℕ) (o : Operation) where
  stepped-in : at < length s → (r : Option Operands) → row_at e s (at + 1) (operation_row (get_or s at 0)) ≡ r
      → row_operation (operation_row (get_or s at 0)) r ≡ Some o → Stepped e s at o
  unfolding row_operation
  stepped-in h (Some r) q x =
      let y : record { row = operation_row (get_or s at 0); first = r.first; second = r.second; next = cursor r.third.end } ≡ o = cc in
      subst (Stepped e s at) y (record { here = h; code = refl; fields = r; read = q; first = refl; second = refl; next = refl })
  stepped-in h None q x = let z : ◌≡◌ {A = ℕ} 0 1 = cc in absurd (omega arith)

  pub operation-stepped : operation_at e s at ≡ Some o → Stepped e s at o
  operation-stepped x =
      ⊎_elim
      (λ t. let h : at < length s = ltb_yes {a = at} {b = length s} t in
      stepped-in h (row_at e s (at + 1) (operation_row (get_or s at 0))) refl (sym (operation-step e s at h) ∙ x))
      (λ t. let z : ◌≡◌ {A = ℕ} 0 1 = cc (operation-end e s at (ltb_no {a = at} {b = length s} t)) in absurd (omega arith))
      (either (ltb at (length s)))

  -- it ends past its place, and its operands lie between, one after the other
  pub operation-inside : operation_at e s at ≡ Some o
      → (at < o.next.at) × (o.next.at ≤ length s) × Inside s (at + 1) o.first × Inside s o.first.end o.second × (o.second.end ≤ o.next.at)
  operation-inside x =
      let q : Stepped e s at o = operation-stepped x in
      let i : Inside s (at + 1) q.fields.first × Inside s q.fields.first.end q.fields.second × Inside s q.fields.second.end q.fields.third =
      row_inside e s (at + 1) o.row q.fields q.read in
      let h : at < length s = q.here in
      let n : o.next.at ≡ q.fields.third.end = ap (λ (d : Cursor). d.at) q.next in
      let b : (at < q.fields.third.end) × (q.fields.third.end ≤ length s) × (q.fields.second.end ≤ q.fields.third.end) = between e s at q.fields h i in (
        omega (arith, b.0),
        omega (arith, b.1),
        inside-same s _ _ _ _ refl q.first i.0,
        inside-same s _ _ _ _ (ap (λ (f : Field). f.end) q.first) q.second i.1,
        omega (arith, b.2, ap (λ (f : Field). f.end) q.second),
      )

-- ---- what a list entry that was read says

pub record Entered (e : Encoding) (location : Bool) (s : List ℕ) (at : ℕ) (o : ListEntry) : Type 0 where
  pub here : at < length s
  pub kind : o.kind ≡ get_or s at 0
  pub other : get_or s at 0 ≡ 0 → ⊥
  pub fields : Operands
  pub read : row_at e s (at + 1) (list_row e.version location o.kind) ≡ Some fields
  pub first : o.first ≡ fields.first
  pub second : o.second ≡ fields.second
  pub third : o.third ≡ fields.third
  pub next : o.next ≡ cursor fields.third.end

module _ (e : Encoding) (location : Bool) (s : List ℕ) (at : ℕ) (o : ListEntry) where
  entered-in : at < length s → (get_or s at 0 ≡ 0 → ⊥) → (r : Option Operands) → row_at e s (at + 1) (list_row e.version location (get_or s at 0)) ≡ r
      → row_entry (get_or s at 0) r ≡ Some (Entry o) → Entered e location s at o
  unfolding row_entry
  entered-in h f (Some r) q x =
      let y : record { kind = get_or s at 0; first = r.first; second = r.second; third = r.third; next = cursor r.third.end } ≡ o = cc in
      subst (Entered e location s at) y (record { here = h; kind = refl; other = f; fields = r; read = q; first = refl; second = refl; third = refl; next = refl })
  entered-in h f None q x = let z : ◌≡◌ {A = ℕ} 0 1 = cc in absurd (omega arith)

  pub entry-entered : list_entry_at e location s at ≡ Some (Entry o) → Entered e location s at o
  entry-entered x =
      ⊎_elim
      (λ t. let h : at < length s = ltb_yes {a = at} {b = length s} t in
      ⊎_elim
      (λ u. let z : ◌≡◌ {A = ℕ} 0 1 = cc (entry_zero e location s at h (eqb_yes {a = get_or s at 0} {b = 0} u)) in absurd (omega arith))
      (λ u. let f : get_or s at 0 ≡ 0 → ⊥ = eqb_no {a = get_or s at 0} {b = 0} u in
      entered-in h f (row_at e s (at + 1) (list_row e.version location (get_or s at 0))) refl (sym (entry-step e location s at h f) ∙ x))
      (either (eqb (get_or s at 0) 0)))
      (λ t. let z : ◌≡◌ {A = ℕ} 0 1 = cc (entry-end e location s at (ltb_no {a = at} {b = length s} t)) in absurd (omega arith))
      (either (ltb at (length s)))

  pub entry-inside : list_entry_at e location s at ≡ Some (Entry o)
      → (at < o.next.at) × (o.next.at ≤ length s) × Inside s (at + 1) o.first × Inside s o.first.end o.second × Inside s o.second.end o.third × (o.third.end ≡ o.next.at)
  entry-inside x =
      let q : Entered e location s at o = entry-entered x in
      let i : Inside s (at + 1) q.fields.first × Inside s q.fields.first.end q.fields.second × Inside s q.fields.second.end q.fields.third =
      row_inside e s (at + 1) (list_row e.version location o.kind) q.fields q.read in
      let n : o.next.at ≡ q.fields.third.end = ap (λ (d : Cursor). d.at) q.next in
      let b : (at < q.fields.third.end) × (q.fields.third.end ≤ length s) × (q.fields.second.end ≤ q.fields.third.end) = between e s at q.fields q.here i in (
        omega (arith, b.0),
        omega (arith, b.1),
        inside-same s _ _ _ _ refl q.first i.0,
        inside-same s _ _ _ _ (ap (λ (f : Field). f.end) q.first) q.second i.1,
        inside-same s _ _ _ _ (ap (λ (f : Field). f.end) q.second) q.third i.2,
        ap (λ (f : Field). f.end) q.third ∙ sym n,
      )
