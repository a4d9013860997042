-- Values that are read, or stepped over, at once by the tokens of their forms. Assumes nothing.
use Prim.Native.Nat.{ℕ, ◌+◌, ◌-◌, ◌≤◌, ◌<◌}
use mathlib.Core.Path.{◌≡◌, refl, ap, sym, ◌∙◌, subst}
use mathlib.Core.Logic.{⊎_elim}
use mathlib.Core.Bool.{Bool, true, false}
use mathlib.Core.List.{List}
use native.Mathlib.Omega.{arith}
use lib.ListN.{length}
use lib.Dec.{T, leb, eqb}
use mir.Facts.{yes_leb, no_leb, leb_yes, leb_no, no_eqb, eqb_yes, eqb_no}
use Rattle.readers.specs.Choice.{pick}
use Rattle.readers.proofs.Choice.{pick_yes, pick_no, either}
use Rattle.readers.specs.Numbers.{uleb, sleb}
use Rattle.readers.specs.Forms.{form_token, form_tokens, token_among, in_version, value_token}
use Rattle.readers.specs.Cursors.{cursor, leb_at, fixed_at, skip_at, string_at}
use Rattle.readers.specs.Fields.{token_at, field_at, exprloc_at}
use Rattle.readers.specs.Entries.{attribute_at, attribute_end}
use Rattle.readers.specs.Inner.Fields.{number_field, moved_field, number_at}
use Rattle.readers.specs.Inner.Values.{attribute_of, field_end, number_end, width_of}
use Rattle.readers.specs.declared.cursor.Encoding.{Encoding}
use Rattle.readers.specs.declared.cursor.Cursor.{Cursor}
use Rattle.std.specs.Prelude.{None, Option, Some}
use Rattle.readers.specs.declared.attributes.Attribute.{Attribute}
use Rattle.readers.specs.declared.fields.Field.{Field}
use Rattle.readers.proofs.Tokens.{a_field, field-nothing, field-number, field-signed, field-string, field-exprloc, number-fixed, number-address, number-offset, number-leb}
use Rattle.readers.proofs.Widths.{fixed-is, fixed-short, fixed-over, skip-to, skip-over}
use Rattle.readers.proofs.Values.{valued, value-sibling, value-other, in-every, attribute-direct, direct-none}

abbrev order : Encoding → Bool
order e = e.big_endian

-- ---- what is made of a field or a number

same : (form : ℕ) (r : Option Field) → attribute_of form r ≡ valued form r
unfolding attribute_of valued
same form (Some f) = refl
same form None = refl

pub value_read : (form : ℕ) (f : Field) (r : Option Field) → r ≡ Some f → Some (record { form = form; field = f }) ≡ attribute_of form r
unfolding attribute_of
value_read form f r q = rw q

pub value-unread : (form : ℕ) (r : Option Field) → r ≡ None → None ≡ attribute_of form r
unfolding attribute_of
value-unread form r q = rw q

pub number_past : (v : ℕ) (d : Cursor) (n : Option (ℕ × Cursor)) → n ≡ Some (v, d) → Some d ≡ number_end n
unfolding number_end
number_past v d n q = rw q

pub number-nowhere : (n : Option (ℕ × Cursor)) → n ≡ None → None ≡ number_end n
unfolding number_end
number-nowhere n q = rw q

pub field_past : (f : Field) (d : Cursor) (r : Option Field) → r ≡ Some f → d ≡ cursor f.end → Some d ≡ field_end r
unfolding field_end
field_past f d r q h = rw (q, h)

pub field-nowhere : (r : Option Field) → r ≡ None → None ≡ field_end r
unfolding field_end
field-nowhere r q = rw q

-- ---- widths

pub width-bytes : (e : Encoding) (t : ℕ) → t ≤ 8 → t ≡ width_of e t
unfolding width_of
width-bytes e t h = sym (pick_yes _ _ _ (yes_leb {a = t} {b = 8} h))

pub width-address : (e : Encoding) (t : ℕ) → t ≡ 9 → e.address_size ≡ width_of e t
unfolding width_of pick
width-address e t h = ap (width_of e) (sym h)

pub width-offset : (e : Encoding) (t : ℕ) → 8 < t → (t ≡ 9 → ⊥) → e.offset_size ≡ width_of e t
unfolding width_of
width-offset e t h k = sym (pick_no _ _ _ (no_leb {a = t} {b = 8} h) ∙ pick_no _ _ _ (no_eqb {a = t} {b = 9} k))

module _ (e : Encoding) (s : List ℕ) (at t : ℕ) where
  -- a number of the token's width is the token's number
  width-number : t < 11 → fixed_at (order e) (width_of e t) s at ≡ number_at e s at t
  width-number h =
      ⊎_elim
      (λ u.
      let k : t ≤ 8 = leb_yes {a = t} {b = 8} u in
      ap (λ (w : ℕ). fixed_at (order e) w s at) (sym (width-bytes e t k)) ∙ sym (number-fixed e s at t k))
      (λ u.
      let k : 8 < t = leb_no {a = t} {b = 8} u in
      ⊎_elim
      (λ v.
      let q : t ≡ 9 = eqb_yes {a = t} {b = 9} v in
      ap (λ (w : ℕ). fixed_at (order e) w s at) (sym (width-address e t q)) ∙ sym (number-address e s at t q))
      (λ v.
      let q : t ≡ 9 → ⊥ = eqb_no {a = t} {b = 9} v in
      ap (λ (w : ℕ). fixed_at (order e) w s at) (sym (width-offset e t k q)) ∙ sym (number-offset e s at t (omega arith)))
      (either (eqb t 9)))
      (either (leb t 8))

  fixed-field : 0 < t → t < 11 → field_at e s at t ≡ number_field at (fixed_at (order e) (width_of e t) s at)
  fixed-field z h = field-number e s at t z (omega arith) ∙ ap (number_field at) (sym (width-number h))

-- ---- a value by its token

module _ (e : Encoding) (s : List ℕ) (at name form t : ℕ) (p : t ≡ form_token form) where
  direct : t < 21 → in_version e.version form ≡ true → (name ≡ 0x01 → form ≡ 0x18 → ⊥) → attribute_of form (field_at e s at t) ≡ attribute_at e s at name form
  unfolding form_token form_tokens token_among pick
  direct h i x =
      ap (attribute_of form) (ap (field_at e s at) p ∙ sym (value-other e s at false name form i x (λ b _. absurd (subst T (sym b) tt))))
      ∙ same form (token_at e s at (value_token e false name form))
      ∙ sym (attribute-direct e s at name form (λ q. let z : t ≡ 21 = p ∙ ap form_token q in omega arith))

  -- no name bars it where it is no exprloc
  unbarred : (t ≡ 19 → ⊥) → name ≡ 0x01 → form ≡ 0x18 → ⊥
  unfolding form_token form_tokens token_among pick
  unbarred h n f = h (p ∙ ap form_token f)

  -- nor a version where it is no ULEB128 number
  every : (t ≡ 11 → ⊥) → in_version e.version form ≡ true
  every h = in-every e.version form (λ q. h (p ∙ q))

  pub fixed-value : 0 < t → t < 11 → (w : ℕ) → w ≡ width_of e t → (n : Option (ℕ × Cursor)) → n ≡ fixed_at (order e) w s at
      → attribute_of form (number_field at n) ≡ attribute_at e s at name form
  fixed-value z h w q n x =
      ap (attribute_of form)
      (ap (number_field at) (x ∙ ap (λ (w : ℕ). fixed_at (order e) w s at) q) ∙ sym (fixed-field e s at t z h))
      ∙ direct (omega arith) (every (λ y. omega arith)) (unbarred (λ y. omega arith))

  pub uleb-value : t ≡ 11 → in_version e.version form ≡ true → (n : Option (ℕ × Cursor)) → n ≡ leb_at uleb s at
      → attribute_of form (number_field at n) ≡ attribute_at e s at name form
  uleb-value h i n x =
      ap (attribute_of form)
      (ap (number_field at) (x ∙ sym (number-leb e s at t (omega arith))) ∙ sym (field-number e s at t (omega arith) (omega arith)))
      ∙ direct (omega arith) i (unbarred (λ y. omega arith))

-- an exprloc
module _ (e : Encoding) (s : List ℕ) (at name form : ℕ) (f : form ≡ 0x18) where
  pub exprloc-value : (name ≡ 0x01 → ⊥) → (r : Option Field) → r ≡ exprloc_at s at → attribute_of form r ≡ attribute_at e s at name form
  unfolding form_token form_tokens token_among pick
  exprloc-value h r x =
      let p : 19 ≡ form_token form = sym (ap form_token f) in
      ap (attribute_of form) (x ∙ sym (field-exprloc e s at 19 refl))
      ∙ direct e s at name form 19 p (omega arith) (every e s at name form 19 p (λ y. omega arith)) (λ n _. h n)

  pub exprloc-sibling : name ≡ 0x01 → None ≡ attribute_at e s at name form
  exprloc-sibling n =
      direct-none e s at name form None (λ q. let z : ◌≡◌ {A = ℕ} 0x18 0x16 = sym f ∙ q in omega arith) (value-sibling e s at false name form n f) refl

-- ---- where it ends

end_of : (form : ℕ) (r : Option Field) → field_end r ≡ attribute_end (attribute_of form r)
unfolding field_end attribute_end attribute_of
end_of form (Some f) = refl
end_of form None = refl

end-number : (at : ℕ) (n : Option (ℕ × Cursor)) → number_end n ≡ field_end (number_field at n)
unfolding field_end number_end number_field
end-number at (Some (v, d)) = refl
end-number at None = refl

end_moved : (at : ℕ) (m : Option Cursor) → m ≡ field_end (moved_field at m)
unfolding field_end moved_field
end_moved at (Some d) = refl
end_moved at None = refl

pub fixed-past : (big : Bool) (w : ℕ) (s : List ℕ) (at : ℕ) (m : Option Cursor) → w ≤ 8 → m ≡ skip_at s at w → m ≡ number_end (fixed_at big w s at)
fixed-past big w s at m h q =
    q
    ∙ ⊎_elim
    (λ u. let fits : w ≤ length s - at = leb_yes {a = w} {b = length s - at} u in
    sym (skip-to s at w fits) ∙ number_past _ (cursor (at + w)) _ (fixed-is big w s at h fits))
    (λ u. let over : length s - at < w = leb_no {a = w} {b = length s - at} u in
    sym (skip-over s at w over) ∙ number-nowhere _ (fixed-short big w s at over))
    (either (leb w (length s - at)))

pub fixed-far : (big : Bool) (w : ℕ) (s : List ℕ) (at : ℕ) → 8 < w → None ≡ number_end (fixed_at big w s at)
fixed-far big w s at h = number-nowhere _ (fixed-over big w s at h)

-- a number of no bytes ends where it starts
nothing-past : (big : Bool) (s : List ℕ) (at : ℕ) → number_end (fixed_at big 0 s at) ≡ Some (cursor at)
nothing-past big s at =
    sym (number_past _ (cursor (at + 0)) _ (fixed-is big 0 s at (omega arith) (omega arith)))
    ∙ ap (λ (n : ℕ). Some (cursor n)) (let q : at + 0 ≡ at = omega arith in q)

module _ (e : Encoding) (s : List ℕ) (at name form t : ℕ) (p : t ≡ form_token form) where
  -- by what its field reads
  past-direct : (r : Option Field) → attribute_of form r ≡ attribute_at e s at name form → field_end r ≡ attribute_end (attribute_at e s at name form)
  past-direct r q = end_of form r ∙ ap attribute_end q

  past-nothing : t ≡ 0 → number_end (fixed_at (order e) (width_of e t) s at) ≡ attribute_end (attribute_at e s at name form)
  unfolding width_of pick field_end
  past-nothing h =
      ap (λ (t : ℕ). number_end (fixed_at (order e) (width_of e t) s at)) h
      ∙ nothing-past (order e) s at
      ∙ past-direct (Some (a_field 0 at at))
      (ap (attribute_of form) (sym (field-nothing e s at t h))
      ∙ direct e s at name form t p (omega arith) (every e s at name form t p (λ y. omega arith)) (unbarred e s at name form t p (λ y. omega arith)))

  past-some : 0 < t → t < 11 → number_end (fixed_at (order e) (width_of e t) s at) ≡ attribute_end (attribute_at e s at name form)
  past-some z h =
      end-number at (fixed_at (order e) (width_of e t) s at)
      ∙ past-direct _ (fixed-value e s at name form t p z h (width_of e t) refl _ refl)

  pub past-width : t < 11 → (w : ℕ) → w ≡ width_of e t → (m : Option Cursor) → m ≡ number_end (fixed_at (order e) w s at) → m ≡ attribute_end (attribute_at e s at name form)
  past-width h w q m x =
      x
      ∙ ap (λ (w : ℕ). number_end (fixed_at (order e) w s at)) q
      ∙ ⊎_elim
      (λ u. past-nothing (eqb_yes {a = t} {b = 0} u))
      (λ u. let k : t ≡ 0 → ⊥ = eqb_no {a = t} {b = 0} u in past-some (omega arith) h)
      (either (eqb t 0))

  pub past-string : t ≡ 13 → (m : Option Cursor) → m ≡ string_at s at → m ≡ attribute_end (attribute_at e s at name form)
  past-string h m x =
      end_moved at m
      ∙ past-direct _ (ap (attribute_of form) (ap (moved_field at) x ∙ sym (field-string e s at t h))
      ∙ direct e s at name form t p (omega arith) (every e s at name form t p (λ y. omega arith)) (unbarred e s at name form t p (λ y. omega arith)))

  pub past-signed : t ≡ 12 → (n : Option (ℕ × Cursor)) → n ≡ leb_at sleb s at → number_end n ≡ attribute_end (attribute_at e s at name form)
  past-signed h n x =
      end-number at n
      ∙ past-direct _ (ap (attribute_of form) (ap (number_field at) x ∙ sym (field-signed e s at t h))
      ∙ direct e s at name form t p (omega arith) (every e s at name form t p (λ y. omega arith)) (unbarred e s at name form t p (λ y. omega arith)))

  pub past-uleb : t ≡ 11 → in_version e.version form ≡ true → (n : Option (ℕ × Cursor)) → n ≡ leb_at uleb s at → number_end n ≡ attribute_end (attribute_at e s at name form)
  past-uleb h i n x = end-number at n ∙ past-direct _ (uleb-value e s at name form t p h i n x)

pub past-exprloc : (e : Encoding) (s : List ℕ) (at name form : ℕ) → form ≡ 0x18 → (name ≡ 0x01 → ⊥) → (r : Option Field) → r ≡ exprloc_at s at
    → field_end r ≡ attribute_end (attribute_at e s at name form)
past-exprloc e s at name form f h r x = end_of form r ∙ ap attribute_end (exprloc-value e s at name form f h r x)

pub past-unread : (r : Option Attribute) → None ≡ r → None ≡ attribute_end r
unfolding attribute_end
past-unread r q = ap attribute_end q
