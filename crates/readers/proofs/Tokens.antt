-- Tokens and rows from a place of a slice on: what each reads, in the terms of the cursor's methods; that it reads the same whatever it is used as;
-- a row as three fields, one after the other; and how far each comes.
use Prim.Native.Nat.{ℕ, suc, ◌+◌, ◌-◌, ◌≤◌, ◌<◌, min}
use mathlib.Core.Path.{◌≡◌, refl, ap, ap₂, sym, ◌∙◌, subst}
use mathlib.Core.Logic.{⊎_elim}
use mathlib.Core.Bool.{Bool, true, false, not}
use Rattle.std.specs.Prelude.{None, Option, Some}
use mathlib.Core.List.{List, [], ◌∷◌, ◌++◌, append-nil}
use native.Mathlib.Omega.{arith}
use lib.ListN.{length, take, drop, length-append, length-drop, drop_of_length-le, get_or-eq_default}
use lib.Seq.{length-take-le, drop-drop, take-nil, take_all}
use lib.Dec.{T, leb, ltb, eqb}
use mir.Facts.{yes_leb, no_leb, leb_yes, leb_no, ltb_yes, ltb_no, no_eqb, eqb_yes, eqb_no}
use Rattle.readers.specs.Choice.{pick, check, bind}
use Rattle.readers.proofs.Choice.{pick_yes, pick_no, either, All, all-some, all_none, all-check, all-bind, all-triv, Took, took-length}
use Rattle.readers.specs.Numbers.{Groups, uleb, sleb}
use Rattle.readers.specs.Layout.{Kind, fixed, leb128, ReadFound, width, Role, Piece, verbatim, Read, ReadOf, Token, nothing, number, bounded, forms, signed, link, string, run, block, expression, unknown, field, done, as_bytes, as_leb, copy, as_number, as_link, as_bounded, as_forms, as_signed, as_string, as_block, as_expression, before, number_in, string_in, forms_in, token_in, read_in, number_bytes, piece_bytes, bytes_of}
use Rattle.readers.proofs.LayoutLaws.{length-number, NumberLaw, number-law, LebLaw, uleb-law, sleb-law, StringLaw, string-law, TokenLaw, token-law, as-bytes-law}
use Rattle.readers.specs.Tokens.{Use, plain, as', number_as, token_of}
use Rattle.readers.specs.Operations.{OperandRow as Tokens, rows, unreadable_row, row_of, row_layout}
use Rattle.readers.specs.Cursors.{cursor, as_leb_number, leb_at, as_fixed, fixed_at, skip_at, as_moved, string_at}
use Rattle.readers.specs.Fields.{linked_value, size, field_of, as_field, row_of_reads, as_row, token_at, field_at, row_at, block_field, part_of, exprloc_at}
use Rattle.readers.specs.Inner.Fields.{number_field, bounded_field, moved_field, number_at}
use Rattle.readers.specs.declared.cursor.Encoding.{Encoding}
use Rattle.readers.specs.declared.cursor.Cursor.{Cursor}
use Rattle.readers.specs.declared.fields.Field.{Field}
use Rattle.readers.specs.declared.fields.Operands.{Operands}

abbrev order : Encoding → Bool
order e = e.big_endian

abbrev pub a_field : ℕ → ℕ → ℕ → Field
a_field v a b = record { value = v; start = a; end = b }

-- one number more is left out

-- ---- a field made of a number or of a move

pub number_read : (at v : ℕ) (c : Cursor) (n : Option (ℕ × Cursor)) → n ≡ Some (v, c) → Some (a_field v at c.at) ≡ number_field at n
unfolding number_field
number_read at v c n e = rw e

pub number-unread : (at : ℕ) (n : Option (ℕ × Cursor)) → n ≡ None → None ≡ number_field at n
unfolding number_field
number-unread at n e = rw e

pub bounded-read : (at v : ℕ) (c : Cursor) (n : Option (ℕ × Cursor)) → n ≡ Some (v, c) → v ≤ 65535 → Some (a_field v at c.at) ≡ bounded_field at n
unfolding bounded_field
bounded-read at v c n e h = rw e (sym (pick_yes _ _ _ (yes_leb {a = v} {b = 65535} h)))

pub bounded-over : (at v : ℕ) (c : Cursor) (n : Option (ℕ × Cursor)) → n ≡ Some (v, c) → 65535 < v → None ≡ bounded_field at n
unfolding bounded_field
bounded-over at v c n e h = rw e (sym (pick_no _ _ _ (no_leb {a = v} {b = 65535} h)))

pub bounded-unread : (at : ℕ) (n : Option (ℕ × Cursor)) → n ≡ None → None ≡ bounded_field at n
unfolding bounded_field
bounded-unread at n e = rw e

pub block_read : (s : List ℕ) (v : ℕ) (c : Cursor) (n : Option (ℕ × Cursor)) → n ≡ Some (v, c) → v ≤ length s - c.at → Some (a_field 0 c.at (c.at + v)) ≡ block_field s n
unfolding block_field
block_read s v c n e h = rw e (sym (pick_yes _ _ _ (yes_leb {a = v} {b = length s - c.at} h)))

pub block-over : (s : List ℕ) (v : ℕ) (c : Cursor) (n : Option (ℕ × Cursor)) → n ≡ Some (v, c) → length s - c.at < v → None ≡ block_field s n
unfolding block_field
block-over s v c n e h = rw e (sym (pick_no _ _ _ (no_leb {a = v} {b = length s - c.at} h)))

pub block-unread : (s : List ℕ) (n : Option (ℕ × Cursor)) → n ≡ None → None ≡ block_field s n
unfolding block_field
block-unread s n e = rw e

pub moved-read : (at : ℕ) (c : Cursor) (m : Option Cursor) → m ≡ Some c → Some (a_field 0 at c.at) ≡ moved_field at m
unfolding moved_field
moved-read at c m e = rw e

pub moved-unread : (at : ℕ) (m : Option Cursor) → m ≡ None → None ≡ moved_field at m
unfolding moved_field
moved-unread at m e = rw e

-- ---- what a token reads

-- a number of any kind
unfoldable pub kind_at : Bool → Kind → List ℕ → ℕ → Option (ℕ × Cursor)
kind_at big k s at = as_fixed at (number_in big k (drop at s))

pub kind-fixed : (big : Bool) (w : ℕ) (s : List ℕ) (at : ℕ) → kind_at big (fixed w) s at ≡ fixed_at big w s at
unfolding kind_at fixed_at
kind-fixed big w s at = refl

as-leb : (at : ℕ) (o : Option Groups) → as_fixed at (bind o as_leb) ≡ as_leb_number at o
unfolding as_fixed as_leb as_leb_number bind width
as-leb at None = refl
as-leb at (Some t) = refl

pub kind-leb : (big : Bool) (s : List ℕ) (at : ℕ) → kind_at big leb128 s at ≡ leb_at uleb s at
unfolding kind_at leb_at number_in
kind-leb big s at = as-leb at (uleb (drop at s))

module _ (big : Bool) (at : ℕ) where
  as-copied : (v k n : ℕ) (s : List ℕ) → n ≤ length s → as_field big at (Some (copy v k n s)) ≡ Some (a_field v (at + k) (at + n))
  unfolding as_field field_of size copy bytes_of piece_bytes linked_value
  as-copied v k n s h = ap (λ m. Some (a_field v (at + k) (at + m))) (ap length (append-nil (take n s)) ∙ length-take-le n s h)

  -- the same, where its payload starts with it
  as-whole : (v n : ℕ) (s : List ℕ) → n ≤ length s → as_field big at (Some (copy v 0 n s)) ≡ Some (a_field v at (at + n))
  as-whole v n s h = as-copied v 0 n s h ∙ ap (λ m. Some (a_field v m (at + n))) (let e : at + 0 ≡ at = omega arith in e)

  on-number : (k : Kind) (s : List ℕ) (o : Option ReadFound) → All (NumberLaw big k s) o → as_field big at (bind o (as_number s)) ≡ number_field at (as_fixed at o)
  unfolding All bind as_field as_number as_fixed number_field
  on-number k s None q = refl
  on-number k s (Some r) q = as-whole r.1 (width r.0) s q.1.0

  on-link : (role : Role) (o : Option ReadFound) → as_field big at (bind o (as_link role)) ≡ number_field at (as_fixed at o)
  unfolding bind as_field field_of size bytes_of piece_bytes linked_value as_link as_fixed number_field
  on-link role None = refl
  on-link role (Some r) =
      ap₂ (λ (x y : ℕ). Some (a_field r.1 x (at + y))) (let e : at + 0 ≡ at = omega arith in e)
      (ap length (append-nil (number_bytes big r.0 r.1)) ∙ length-number big r.0 r.1)

  on-signed : (s : List ℕ) (o : Option Groups) → All (LebLaw sleb s) o → as_field big at (bind o (as_signed s)) ≡ number_field at (as_leb_number at o)
  unfolding All bind as_field as_signed as_leb_number number_field
  on-signed s None q = refl
  on-signed s (Some t) q = as-whole t.1 (suc t.0) s q.0.0

  -- a test, before and after
  on-check : (b : Bool) (r : ReadOf) (f : Field) → (T b → as_field big at (Some r) ≡ Some f) → as_field big at (check b (Some r)) ≡ pick b (Some f) None
  unfolding check pick as_field
  on-check true r f e = e tt
  on-check false r f e = refl

  on-bounded : (s : List ℕ) (o : Option Groups) → All (LebLaw uleb s) o → as_field big at (bind o (as_bounded 65535 s)) ≡ bounded_field at (as_leb_number at o)
  unfolding All bind as_field as_bounded as_leb_number bounded_field
  on-bounded s None q = refl
  on-bounded s (Some t) q =
      on-check (leb t.1 65535) (copy t.1 0 (suc t.0) s) (a_field t.1 at (at + suc t.0)) (λ _. as-whole t.1 (suc t.0) s q.0.0)

  on-string : (s : List ℕ) (o : Option (List ℕ × List ℕ)) → All (StringLaw s) o → as_field big at (bind o (as_string s)) ≡ moved_field at (as_moved at o)
  unfolding All bind as_field as_string as_moved moved_field
  on-string s None q = refl
  on-string s (Some r) q = as-whole 0 (length r.0) s q.0.0

  on-skip : (b : Bool) (c : Cursor) → pick b (Some (a_field 0 at c.at)) None ≡ moved_field at (pick b (Some c) None)
  unfolding pick moved_field
  on-skip true c = refl
  on-skip false c = refl

  on-run : (s : List ℕ) (n : ℕ) → as_field big at (check (leb n (length (drop at s))) (Some (copy 0 0 n (drop at s)))) ≡ moved_field at (skip_at s at n)
  unfolding skip_at
  on-run s n =
      on-check (leb n (length (drop at s))) (copy 0 0 n (drop at s)) (a_field 0 at (at + n)) (λ u. as-whole 0 n (drop at s) (leb_yes {a = n} {b = length (drop at s)} u))
      ∙ on-skip (leb n (length (drop at s))) (cursor (at + n))
      ∙ ap (λ m. moved_field at (pick (leb n m) (Some (cursor (at + n))) None)) (length-drop at s)

  -- what is left after w bytes
  left_after : (s rest : List ℕ) (w : ℕ) → Took (drop at s) w rest → length rest ≡ length s - (at + w)
  left_after s rest w q = omega (arith, took-length (drop at s) w rest q, length-drop at s)

  on-block : (k : Kind) (s : List ℕ) (o : Option ReadFound) → All (NumberLaw big k (drop at s)) o → as_field big at (bind o (as_block (drop at s))) ≡ block_field s (as_fixed at o)
  unfolding All bind as_field as_block as_fixed block_field
  on-block k s None q = refl
  on-block k s (Some r) q =
      let w : ℕ = width r.0 in
      on-check (leb r.1 (length r.2)) (copy 0 w (w + r.1) (drop at s)) (a_field 0 (at + w) (at + (w + r.1)))
      (λ u. as-copied 0 w (w + r.1) (drop at s)
      (let h : r.1 ≤ length r.2 = leb_yes u in omega (arith, took-length (drop at s) w r.2 q.1)))
      ∙ ap₂ (λ (x y : ℕ). pick (leb r.1 x) (Some (a_field 0 (at + w) y)) None) (left_after s r.2 w q.1) (let e : at + (w + r.1) ≡ at + w + r.1 = omega arith in e)

  on-expression : (s : List ℕ) (o : Option Groups) → All (LebLaw uleb (drop at s)) o → as_field big at (bind o (as_expression as_bytes (drop at s))) ≡ block_field s (as_leb_number at o)
  unfolding All bind as_field field_of size bytes_of piece_bytes linked_value as_expression as_bytes as_leb_number block_field
  on-expression s None q = refl
  on-expression s (Some t) q =
      let w : ℕ = suc t.0 in
      let a : List ℕ = take w (drop at s) in
      let b : List ℕ = take t.1 t.2 in
      on-check (leb t.1 (length t.2)) (record { seen = 0; start = w; pieces = verbatim a ∷ verbatim b ∷ [] }, drop t.1 t.2) (a_field 0 (at + w) (at + (w + t.1)))
      (λ u. ap (λ m. Some (a_field 0 (at + w) (at + m)))
      (length-append a (b ++ []) ∙ ap₂ ◌+◌ (length-take-le w (drop at s) q.0.0) (ap length (append-nil b) ∙ length-take-le t.1 t.2 (leb_yes u))))
      ∙ ap₂ (λ (x y : ℕ). pick (leb t.1 x) (Some (a_field 0 (at + w) y)) None) (left_after s t.2 w q.0) (let e : at + (w + t.1) ≡ at + w + t.1 = omega arith in e)

module _ (e : Encoding) (s : List ℕ) (at : ℕ) where
  pub token-nothing : token_at e s at nothing ≡ Some (a_field 0 at at)
  unfolding token_at token_in as_field field_of size bytes_of linked_value
  token-nothing = ap (λ m. Some (a_field 0 m m)) (let z : at + 0 ≡ at = omega arith in z)

  pub token-number : (k : Kind) → token_at e s at (number k) ≡ number_field at (kind_at (order e) k s at)
  unfolding token_at token_in kind_at
  token-number k = on-number (order e) at k (drop at s) (number_in (order e) k (drop at s)) (number-law (order e) k (drop at s))

  -- whatever its number stands for
  pub token-link : (k : Kind) (role : Role) → token_at e s at (link k role) ≡ number_field at (kind_at (order e) k s at)
  unfolding token_at token_in kind_at
  token-link k role = on-link (order e) at role (number_in (order e) k (drop at s))

  pub token-signed : token_at e s at signed ≡ number_field at (leb_at sleb s at)
  unfolding token_at token_in leb_at
  token-signed = on-signed (order e) at (drop at s) (sleb (drop at s)) (sleb-law (drop at s))

  pub token-bounded : token_at e s at (bounded 65535) ≡ bounded_field at (leb_at uleb s at)
  unfolding token_at token_in leb_at
  token-bounded = on-bounded (order e) at (drop at s) (uleb (drop at s)) (uleb-law (drop at s))

  pub token-string : token_at e s at string ≡ moved_field at (string_at s at)
  unfolding token_at token_in string_at
  token-string = on-string (order e) at (drop at s) (string_in (drop at s)) (string-law (drop at s))

  pub token-run : (n : ℕ) → token_at e s at (run n) ≡ moved_field at (skip_at s at n)
  unfolding token_at token_in
  token-run n = on-run (order e) at s n

  pub token_block : (k : Kind) → token_at e s at (block k) ≡ block_field s (kind_at (order e) k s at)
  unfolding token_at token_in kind_at
  token_block k = on-block (order e) at k s (number_in (order e) k (drop at s)) (number-law (order e) k (drop at s))

  pub token-expression : token_at e s at expression ≡ block_field s (leb_at uleb s at)
  unfolding token_at token_in leb_at
  token-expression = on-expression (order e) at s (uleb (drop at s)) (uleb-law (drop at s))

  pub token-unknown : token_at e s at unknown ≡ None
  unfolding token_at token_in as_field
  token-unknown = refl

  -- ---- tokens by their numbers

  pub field-nothing : (t : ℕ) → t ≡ 0 → field_at e s at t ≡ Some (a_field 0 at at)
  unfolding field_at token_of pick
  field-nothing t h = ap (field_at e s at) h ∙ token-nothing

  -- where the number is of a kind k, so is the token
  as-kind : (t : ℕ) (k : Kind) → token_of e plain t ≡ number k → number_at e s at t ≡ kind_at (order e) k s at → field_at e s at t ≡ number_field at (number_at e s at t)
  unfolding field_at
  as-kind t k p q = ap (token_at e s at) p ∙ token-number k ∙ ap (number_field at) (sym q)

  pub number-fixed : (t : ℕ) → t ≤ 8 → number_at e s at t ≡ fixed_at (order e) t s at
  unfolding number_at
  number-fixed t h = pick_yes _ _ _ (yes_leb {a = t} {b = 8} h)

  pub number-address : (t : ℕ) → t ≡ 9 → number_at e s at t ≡ fixed_at (order e) e.address_size s at
  unfolding number_at pick
  number-address t h = ap (number_at e s at) h

  pub number-offset : (t : ℕ) → t ≡ 10 → number_at e s at t ≡ fixed_at (order e) e.offset_size s at
  unfolding number_at pick
  number-offset t h = ap (number_at e s at) h

  pub number-leb : (t : ℕ) → 10 < t → number_at e s at t ≡ leb_at uleb s at
  unfolding number_at
  number-leb t h =
      pick_no _ _ _ (no_leb {a = t} {b = 8} (omega arith))
      ∙ pick_no _ _ _ (no_eqb {a = t} {b = 9} (λ x. omega arith))
      ∙ pick_no _ _ _ (no_eqb {a = t} {b = 10} (λ x. omega arith))

  token-fixed : (t : ℕ) → 0 < t → t ≤ 8 → token_of e plain t ≡ number (fixed t)
  unfolding token_of number_as
  token-fixed t lo hi = pick_no _ _ _ (no_eqb {a = t} {b = 0} (λ x. omega arith)) ∙ pick_yes _ _ _ (yes_leb {a = t} {b = 8} hi)

  pub field-number : (t : ℕ) → 0 < t → t ≤ 11 → field_at e s at t ≡ number_field at (number_at e s at t)
  unfolding token_of number_as pick
  field-number t lo hi =
      ⊎_elim
      (λ u. as-kind t (fixed t)
      (token-fixed t lo (leb_yes {a = t} {b = 8} u))
      (number-fixed t (leb_yes {a = t} {b = 8} u) ∙ sym (kind-fixed (order e) t s at)))
      (λ u. ⊎_elim
      (λ v. as-kind t (fixed e.address_size) (ap (token_of e plain) (eqb_yes {a = t} {b = 9} v)) (number-address t (eqb_yes {a = t} {b = 9} v) ∙ sym (kind-fixed (order e) e.address_size s at)))
      (λ v. ⊎_elim
      (λ w. as-kind t (fixed e.offset_size) (ap (token_of e plain) (eqb_yes {a = t} {b = 10} w)) (number-offset t (eqb_yes {a = t} {b = 10} w) ∙ sym (kind-fixed (order e) e.offset_size s at)))
      (λ w.
      let h : 8 < t = leb_no {a = t} {b = 8} u in
      let h9 : t ≡ 9 → ⊥ = eqb_no {a = t} {b = 9} v in
      let h10 : t ≡ 10 → ⊥ = eqb_no {a = t} {b = 10} w in
      let x : t ≡ 11 = omega arith in
      as-kind t leb128 (ap (token_of e plain) x) (number-leb t (omega arith) ∙ sym (kind-leb (order e) s at)))
      (either (eqb t 10)))
      (either (eqb t 9)))
      (either (leb t 8))

  pub field-signed : (t : ℕ) → t ≡ 12 → field_at e s at t ≡ number_field at (leb_at sleb s at)
  unfolding field_at token_of pick
  field-signed t h = ap (field_at e s at) h ∙ token-signed

  pub field-string : (t : ℕ) → t ≡ 13 → field_at e s at t ≡ moved_field at (string_at s at)
  unfolding field_at token_of pick
  field-string t h = ap (field_at e s at) h ∙ token-string

  pub field-run : (t : ℕ) → t ≡ 14 → field_at e s at t ≡ moved_field at (skip_at s at 16)
  unfolding field_at token_of pick
  field-run t h = ap (field_at e s at) h ∙ token-run 16

  -- a block after a length of w bytes
  block_of : (t w : ℕ) → w ≤ 8 → token_of e plain t ≡ block (fixed w) → field_at e s at t ≡ block_field s (number_at e s at w)
  unfolding field_at
  block_of t w h p = ap (token_at e s at) p ∙ token_block (fixed w) ∙ ap (block_field s) (kind-fixed (order e) w s at ∙ sym (number-fixed w h))

  pub field-block1 : (t : ℕ) → t ≡ 15 → field_at e s at t ≡ block_field s (number_at e s at 1)
  unfolding token_of pick
  field-block1 t h = block_of t 1 (omega arith) (ap (token_of e plain) h)

  pub field-block2 : (t : ℕ) → t ≡ 16 → field_at e s at t ≡ block_field s (number_at e s at 2)
  unfolding token_of pick
  field-block2 t h = block_of t 2 (omega arith) (ap (token_of e plain) h)

  pub field-block4 : (t : ℕ) → t ≡ 17 → field_at e s at t ≡ block_field s (number_at e s at 4)
  unfolding token_of pick
  field-block4 t h = block_of t 4 (omega arith) (ap (token_of e plain) h)

  pub field-block : (t : ℕ) → t ≡ 18 → field_at e s at t ≡ block_field s (leb_at uleb s at)
  unfolding field_at token_of pick
  field-block t h = ap (field_at e s at) h ∙ token_block leb128 ∙ ap (block_field s) (kind-leb (order e) s at)

  pub field-exprloc : (t : ℕ) → t ≡ 19 → field_at e s at t ≡ exprloc_at s at
  unfolding field_at token_of pick exprloc_at
  field-exprloc t h = ap (field_at e s at) h ∙ token-expression

  pub field-bounded : (t : ℕ) → t ≡ 20 → field_at e s at t ≡ bounded_field at (leb_at uleb s at)
  unfolding field_at token_of pick
  field-bounded t h = ap (field_at e s at) h ∙ token-bounded

  pub field-unknown : (t : ℕ) → 20 < t → field_at e s at t ≡ None
  unfolding field_at token_of
  field-unknown t h =
      let other : (n : ℕ) → n ≤ 20 → T (not (eqb t n)) = (λ n k. no_eqb {a = t} {b = n} (λ x. omega arith)) in
      ap (token_at e s at) (
      pick_no _ _ _ (other 0 (omega arith))
      ∙ pick_no _ _ _ (no_leb {a = t} {b = 8} (omega arith))
      ∙ pick_no _ _ _ (other 9 (omega arith))
      ∙ pick_no _ _ _ (other 10 (omega arith))
      ∙ pick_no _ _ _ (other 11 (omega arith))
      ∙ pick_no _ _ _ (other 12 (omega arith))
      ∙ pick_no _ _ _ (other 13 (omega arith))
      ∙ pick_no _ _ _ (other 14 (omega arith))
      ∙ pick_no _ _ _ (other 15 (omega arith))
      ∙ pick_no _ _ _ (other 16 (omega arith))
      ∙ pick_no _ _ _ (other 17 (omega arith))
      ∙ pick_no _ _ _ (other 18 (omega arith))
      ∙ pick_no _ _ _ (other 19 (omega arith))
      ∙ pick_no _ _ _ (other 20 (omega arith))
      ) ∙ token-unknown

  -- ---- a token reads the same number in the same bytes, whatever it is used as

  same-pick : (b : Bool) (x x' y y' : Token) → token_at e s at x ≡ token_at e s at x' → token_at e s at y ≡ token_at e s at y'
      → token_at e s at (pick b x y) ≡ token_at e s at (pick b x' y')
  unfolding pick
  same-pick true x x' y y' p q = p
  same-pick false x x' y y' p q = q

  same_number : (r : Role) (k : Kind) → token_at e s at (link k r) ≡ token_at e s at (number k)
  same_number r k = token-link k r ∙ sym (token-number k)

  pub token-use : (u : Use) (t : ℕ) → token_at e s at (token_of e u t) ≡ field_at e s at t
  unfolding field_at token_of number_as
  token-use plain t = refl
  token-use (as' r) t =
      same-pick (eqb t 0) _ _ _ _ refl
      (same-pick (leb t 8) _ _ _ _ (same_number r (fixed t))
      (same-pick (eqb t 9) _ _ _ _ (same_number r (fixed e.address_size))
      (same-pick (eqb t 10) _ _ _ _ (same_number r (fixed e.offset_size))
      (same-pick (eqb t 11) _ _ _ _ (same_number r leb128) refl))))

-- ---- a row: one field after the other

unfoldable pub on_field : Option Field → (Field → Option Operands) → Option Operands
on_field (Some f) g = g f
on_field None g = None

pub on-field : (r : Option Field) (f : Field) (g : Field → Option Operands) → r ≡ Some f → on_field r g ≡ g f
unfolding on_field
on-field r f g e = ap (λ x. on_field x g) e

pub on_none : (r : Option Field) (g : Field → Option Operands) → r ≡ None → on_field r g ≡ None
unfolding on_field
on_none r g e = ap (λ x. on_field x g) e

pub on_same : (r r' : Option Field) (g g' : Field → Option Operands) → r ≡ r' → ((f : Field) → g f ≡ g' f) → on_field r g ≡ on_field r' g'
unfolding on_field
on_same r r' g g' e h = ap (λ x. on_field x g) e ∙ each r'
  where
    each : (x : Option Field) → on_field x g ≡ on_field x g'
    each (Some f) = h f
    each None = refl

abbrev pub a_row : Field → Field → Field → Operands
a_row a b c = record { first = a; second = b; third = c }

module _ (e : Encoding) (s : List ℕ) (at : ℕ) where
  abbrev law : (t : Token) (l : List ℕ) → All (TokenLaw (order e) as_bytes t l) (token_in (order e) as_bytes t l)
  law t l = token-law (order e) as_bytes (as-bytes-law (order e)) t l

  -- what is left after what a token read
  rest_at : (at' : ℕ) (t : Token) (r : ReadOf) → TokenLaw (order e) as_bytes t (drop at' s) r → r.1 ≡ drop (at' + size (order e) r.0) s
  unfolding size
  rest_at at' t r q = q.0.1 ∙ drop-drop (length (bytes_of (order e) r.0.pieces)) at' s

  row-third : (a b : Read) (o : Option ReadOf)
      → as_row (order e) at (bind (bind (bind o (λ r. bind (read_in (order e) as_bytes done r.1) (before r.0))) (before b)) (before a))
      ≡ on_field (as_field (order e) (at + size (order e) a + size (order e) b) o)
      (λ f. Some (a_row (field_of (order e) at a) (field_of (order e) (at + size (order e) a) b) f))
  unfolding as_row row_of_reads bind read_in before on_field as_field
  row-third a b None = refl
  row-third a b (Some r) = refl

  row-second : (a : Read) (t t' : Token) (o : Option ReadOf) → All (TokenLaw (order e) as_bytes t (drop (at + size (order e) a) s)) o
      → as_row (order e) at (bind (bind o (λ r. bind (read_in (order e) as_bytes (field t' (λ _. done)) r.1) (before r.0))) (before a))
      ≡ on_field (as_field (order e) (at + size (order e) a) o)
      (λ f. on_field (token_at e s f.end t') (λ g. Some (a_row (field_of (order e) at a) f g)))
  unfolding as_row bind read_in on_field as_field field_of token_at All
  row-second a t t' None q = refl
  row-second a t t' (Some r) q =
      row-third a r.0 (token_in (order e) as_bytes t' r.1)
      ∙ ap (λ l. on_field (as_field (order e) (at + size (order e) a + size (order e) r.0) (token_in (order e) as_bytes t' l)) (λ f. Some (a_row (field_of (order e) at a) (field_of (order e) (at + size (order e) a) r.0) f)))
      (rest_at (at + size (order e) a) t r q)

  row_first : (t t' t'' : Token) (o : Option ReadOf) → All (TokenLaw (order e) as_bytes t (drop at s)) o
      → as_row (order e) at (bind o (λ r. bind (read_in (order e) as_bytes (field t' (λ _. field t'' (λ _. done))) r.1) (before r.0)))
      ≡ on_field (as_field (order e) at o)
      (λ f. on_field (token_at e s f.end t') (λ g. on_field (token_at e s g.end t'') (λ h. Some (a_row f g h))))
  unfolding as_row bind read_in on_field as_field field_of token_at All
  row_first t t' t'' None q = refl
  row_first t t' t'' (Some r) q =
      ap (λ l. as_row (order e) at (bind (read_in (order e) as_bytes (field t' (λ _. field t'' (λ _. done))) l) (before r.0))) (rest_at at t r q)
      ∙ row-second r.0 t' t'' (token_in (order e) as_bytes t' (drop (at + size (order e) r.0) s)) (law t' (drop (at + size (order e) r.0) s))

  pub row_step : (l : ℕ) → row_at e s at l
      ≡ on_field (field_at e s at (row_of l).first)
      (λ f. on_field (field_at e s f.end (row_of l).second)
      (λ g. on_field (field_at e s g.end (row_of l).third) (λ h. Some (a_row f g h))))
  unfolding row_at row_layout read_in token_at
  row_step l =
      let t : Token = token_of e (row_of l).first_use (row_of l).first in
      row_first t (token_of e (row_of l).second_use (row_of l).second) (token_of e plain (row_of l).third) (token_in (order e) as_bytes t (drop at s)) (law t (drop at s))
      ∙ on_same _ _ _ _ (token-use e s at (row_of l).first_use (row_of l).first)
      (λ f. on_same _ _ _ _ (token-use e s f.end (row_of l).second_use (row_of l).second)
      (λ g. on_same _ _ _ _ (token-use e s g.end plain (row_of l).third) (λ h. refl)))

-- ---- how far a field comes: it starts at or after its place, and ends inside the slice where its place is inside; beyond the slice only nothing is read

pub record Inside (s : List ℕ) (at : ℕ) (f : Field) : Type 0 where
  pub after : at ≤ f.start
  pub forward : f.start ≤ f.end
  pub within : f.end ≤ at + (length s - at)

pub inside-slice : (s : List ℕ) (at : ℕ) (f : Field) → Inside s at f → at ≤ length s → f.end ≤ length s
inside-slice s at f i h = omega (arith, i.within)

module _ (big : Bool) where
  abbrev Starts : ReadOf → Type 0
  Starts r = r.0.start ≤ size big r.0

  copied-starts : (v k n : ℕ) (l : List ℕ) → k ≤ n → n ≤ length l → Starts (copy v k n l)
  unfolding size copy bytes_of piece_bytes
  copied-starts v k n l h q = let m : length (take n l ++ []) ≡ n = ap length (append-nil (take n l)) ∙ length-take-le n l q in omega arith

  length-starts : (w : ℕ) (ps : List Piece) (l rest : List ℕ) → w ≤ length l → Starts (record { seen = 0; start = w; pieces = verbatim (take w l) ∷ ps }, rest)
  unfolding size bytes_of piece_bytes
  length-starts w ps l rest h = omega (arith, length-append (take w l) (bytes_of big ps), length-take-le w l h)

  start-law : (t : Token) (l : List ℕ) → All Starts (token_in big as_bytes t l)
  unfolding token_in as_number as_bounded as_forms as_signed as_link as_string as_block as_expression copy
  start-law nothing l = all-some Starts (omega arith)
  start-law (number k) l = all-bind _ _ (number_in big k l) _ (all-triv (number_in big k l)) (λ r e q. all-some Starts (omega arith))
  start-law (bounded n) l = all-bind _ _ (uleb l) _ (all-triv (uleb l)) (λ r e q. all-check _ _ _ (λ u. all-some Starts (omega arith)))
  start-law forms l = all-bind _ _ (forms_in l) _ (all-triv (forms_in l)) (λ r e q. all-some Starts (omega arith))
  start-law signed l = all-bind _ _ (sleb l) _ (all-triv (sleb l)) (λ r e q. all-some Starts (omega arith))
  start-law (link k role) l = all-bind _ _ (number_in big k l) _ (all-triv (number_in big k l)) (λ r e q. all-some Starts (omega arith))
  start-law string l = all-bind _ _ (string_in l) _ (all-triv (string_in l)) (λ r e q. all-some Starts (omega arith))
  start-law (run n) l = all-check _ _ _ (λ u. all-some Starts (omega arith))
  start-law (block k) l =
      all-bind (NumberLaw big k l) _ (number_in big k l) _ (number-law big k l)
      (λ r e q. all-check _ _ _ (λ u. all-some Starts (copied-starts 0 (width r.0) (width r.0 + r.1) l (omega arith)
      (let h : r.1 ≤ length r.2 = leb_yes u in omega (arith, took-length l (width r.0) r.2 q.1)))))
  start-law expression l =
      all-bind (LebLaw uleb l) _ (uleb l) _ (uleb-law l)
      (λ t e q. all-check _ _ _ (λ u. all-bind _ _ (as_bytes (take t.1 t.2)) _ (all-triv (as_bytes (take t.1 t.2)))
      (λ ps e' q'. all-some Starts (length-starts (suc t.0) ps l (drop t.1 t.2) q.0.0))))
  start-law unknown l = all_none _

module _ (e : Encoding) (s : List ℕ) (at : ℕ) (f : Field) where
  inside-in : (t : Token) (o : Option ReadOf) → All (TokenLaw (order e) as_bytes t (drop at s)) o → All (Starts (order e)) o → as_field (order e) at o ≡ Some f → Inside s at f
  unfolding as_field field_of All size
  inside-in t None q p x = let z : ◌≡◌ {A = ℕ} 0 1 = cc in absurd (omega arith)
  inside-in t (Some r) q p x =
      let g : field_of (order e) at r.0 ≡ f = cc in
      subst (Inside s at) g (record {
        after = omega arith;
        forward = omega (arith, p);
        within = omega (arith, q.0.0, length-drop at s);
      })

  pub token-inside : (t : Token) → token_at e s at t ≡ Some f → Inside s at f
  unfolding token_at
  token-inside t = inside-in t (token_in (order e) as_bytes t (drop at s)) (law e s at t (drop at s)) (start-law (order e) t (drop at s))

  pub field-inside : (t : ℕ) → field_at e s at t ≡ Some f → Inside s at f
  unfolding field_at
  field-inside t = token-inside (token_of e plain t)

-- what a row that was read says of each of its fields
pub record Fields (e : Encoding) (s : List ℕ) (at l : ℕ) (r : Operands) : Type 0 where
  pub first : field_at e s at (row_of l).first ≡ Some r.first
  pub second : field_at e s r.first.end (row_of l).second ≡ Some r.second
  pub third : field_at e s r.second.end (row_of l).third ≡ Some r.third

module _ (e : Encoding) (s : List ℕ) (at l : ℕ) (r : Operands) where
  third_of : (f g : Field) (o : Option Field) → field_at e s at (row_of l).first ≡ Some f → field_at e s f.end (row_of l).second ≡ Some g → field_at e s g.end (row_of l).third ≡ o
      → on_field o (λ h. Some (a_row f g h)) ≡ Some r → Fields e s at l r
  unfolding on_field
  third_of f g (Some h) a b c x =
      let q : a_row f g h ≡ r = cc in
      subst (Fields e s at l) q (record { first = a; second = b; third = c })
  third_of f g None a b c x = let z : ◌≡◌ {A = ℕ} 0 1 = cc in absurd (omega arith)

  second-of : (f : Field) (o : Option Field) → field_at e s at (row_of l).first ≡ Some f → field_at e s f.end (row_of l).second ≡ o
      → on_field o (λ g. on_field (field_at e s g.end (row_of l).third) (λ h. Some (a_row f g h))) ≡ Some r → Fields e s at l r
  unfolding on_field
  second-of f (Some g) a b x = third_of f g (field_at e s g.end (row_of l).third) a b refl x
  second-of f None a b x = let z : ◌≡◌ {A = ℕ} 0 1 = cc in absurd (omega arith)

  first_of : (o : Option Field) → field_at e s at (row_of l).first ≡ o
      → on_field o (λ f. on_field (field_at e s f.end (row_of l).second) (λ g. on_field (field_at e s g.end (row_of l).third) (λ h. Some (a_row f g h)))) ≡ Some r → Fields e s at l r
  unfolding on_field
  first_of (Some f) a x = second-of f (field_at e s f.end (row_of l).second) a refl x
  first_of None a x = let z : ◌≡◌ {A = ℕ} 0 1 = cc in absurd (omega arith)

  pub row-fields : row_at e s at l ≡ Some r → Fields e s at l r
  row-fields x = first_of (field_at e s at (row_of l).first) refl (sym (row_step e s at l) ∙ x)

  pub row_inside : row_at e s at l ≡ Some r → Inside s at r.first × Inside s r.first.end r.second × Inside s r.second.end r.third
  row_inside x =
      let q : Fields e s at l r = row-fields x in
      (field-inside e s at r.first _ q.first, field-inside e s r.first.end r.second _ q.second, field-inside e s r.second.end r.third _ q.third)

-- ---- the bytes of a field

module _ (s : List ℕ) (f : Field) where
  pub part_none : f.end ≤ f.start → [] ≡ part_of s f
  unfolding part_of
  part_none h = ap (λ n. take n (drop f.start s)) (let z : 0 ≡ f.end - f.start = omega arith in z)

  pub part-past : length s ≤ f.start → [] ≡ part_of s f
  unfolding part_of
  part-past h = sym (ap (take (f.end - f.start)) (drop_of_length-le s h) ∙ take-nil (f.end - f.start))

  pub part-rest : length s < f.end → take (length s - f.start) (drop f.start s) ≡ part_of s f
  unfolding part_of
  part-rest h =
      take_all (length s - f.start) (drop f.start s) (omega (arith, length-drop f.start s))
      ∙ sym (take_all (f.end - f.start) (drop f.start s) (omega (arith, length-drop f.start s)))

  pub part-whole : take (f.end - f.start) (drop f.start s) ≡ part_of s f
  unfolding part_of
  part-whole = refl

  -- from the least of the start and the end on, where neither is past the slice
  pub part-cut : (start end : ℕ) → start ≡ min f.start end → end ≡ min f.end (length s) → take (end - start) (drop start s) ≡ part_of s f
  part-cut start end p q =
      ⊎_elim
      (λ t.
      let h : f.start < end = ltb_yes t in
      let a : start ≡ f.start = omega arith in
      ap (λ k. take (end - start) (drop k s)) a
      ∙ ⊎_elim
      (λ u. let l : f.end ≤ length s = leb_yes u in ap (λ n. take n (drop f.start s)) (let e : end - start ≡ f.end - f.start = omega arith in e) ∙ part-whole)
      (λ u. let l : length s < f.end = leb_no u in ap (λ n. take n (drop f.start s)) (let e : end - start ≡ length s - f.start = omega arith in e) ∙ part-rest l)
      (either (leb f.end (length s))))
      (λ t.
      let h : end ≤ f.start = ltb_no t in
      ap (λ n. take n (drop start s)) (let e : end - start ≡ 0 = omega arith in e)
      ∙ ⊎_elim (λ u. part_none (leb_yes u)) (λ u. let l : f.start < f.end = leb_no u in part-past (omega arith)) (either (leb f.end f.start)))
      (either (ltb f.start end))

-- ---- a row, field by field, as it is read

-- from the cursor past the field before
pub field-from : (e : Encoding) (s : List ℕ) (t : ℕ) (r : Option Field) (d : Cursor) (n : ℕ) → r ≡ field_at e s d.at t → d ≡ cursor n → r ≡ field_at e s n t
field-from e s t r d n p q = p ∙ ap (λ (d : Cursor). field_at e s d.at t) q

module _ (e : Encoding) (s : List ℕ) (at l : ℕ) where
  pub row-over : 31 ≤ l → None ≡ row_at e s at l
  unfolding row_of rows unreadable_row
  row-over h =
      let o : (row_of l).first ≡ 21 = ap (λ (r : Tokens). r.first) (get_or-eq_default rows unreadable_row {n = l} h) in
      sym (row_step e s at l ∙ on_none _ _ (field-unknown e s at (row_of l).first (omega arith)))

  module _ (t : ℕ) (r : Option Field) (p : r ≡ field_at e s at t) (q : t ≡ (row_of l).first) where
    first_is : field_at e s at (row_of l).first ≡ r
    first_is = ap (field_at e s at) (sym q) ∙ sym p

    pub row_none : r ≡ None → None ≡ row_at e s at l
    row_none h = sym (row_step e s at l ∙ on_none _ _ (first_is ∙ h))

    module _ (f : Field) (h : r ≡ Some f) (t' : ℕ) (r' : Option Field) (p' : r' ≡ field_at e s f.end t') (q' : t' ≡ (row_of l).second) where
      second_is : field_at e s f.end (row_of l).second ≡ r'
      second_is = ap (field_at e s f.end) (sym q') ∙ sym p'

      pub row-none2 : r' ≡ None → None ≡ row_at e s at l
      row-none2 h' = sym (row_step e s at l ∙ on-field _ f _ (first_is ∙ h) ∙ on_none _ _ (second_is ∙ h'))

      module _ (f' : Field) (h' : r' ≡ Some f') (t'' : ℕ) (r'' : Option Field) (p'' : r'' ≡ field_at e s f'.end t'') (q'' : t'' ≡ (row_of l).third) where
        third-is : field_at e s f'.end (row_of l).third ≡ r''
        third-is = ap (field_at e s f'.end) (sym q'') ∙ sym p''

        pub row-none3 : r'' ≡ None → None ≡ row_at e s at l
        row-none3 h'' = sym (row_step e s at l ∙ on-field _ f _ (first_is ∙ h) ∙ on-field _ f' _ (second_is ∙ h') ∙ on_none _ _ (third-is ∙ h''))

        pub row_read : (f'' : Field) → r'' ≡ Some f'' → Some (a_row f f' f'') ≡ row_at e s at l
        row_read f'' h'' = sym (row_step e s at l ∙ on-field _ f _ (first_is ∙ h) ∙ on-field _ f' _ (second_is ∙ h') ∙ on-field _ f'' _ (third-is ∙ h''))
