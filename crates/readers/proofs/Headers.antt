-- The header of a unit, field by field: the answer is that of the fields from here on, or a refusal. Assumes nothing.
use Prim.Native.Nat.{ℕ, ◌+◌, ◌-◌, ◌^◌, ◌≤◌, ◌<◌}
use mathlib.Core.Path.{◌≡◌, refl, ap, sym, ◌∙◌, subst}
use mathlib.Core.Logic.{◌⊎◌, ⊎_elim}
use mathlib.Core.Bool.{Bool, true, false, not}
use mathlib.Core.List.{List}
use native.Mathlib.Omega.{arith}
use lib.ListN.{length, take, get_or}
use lib.Dec.{T, leb, ltb, eqb}
use mir.Facts.{yes_leb, no_leb, ltb_no, yes_eqb, no_eqb}
use Rattle.readers.specs.Choice.{pick, ◌or◌}
use Rattle.readers.proofs.Choice.{pick_yes, pick_no, pick-either}
use Rattle.readers.specs.Cursors.{fixed_at}
use Rattle.readers.specs.Header.{present, right, length_bytes, encoding_of, header_made, fields4, fields5, header_fields, header_in, header_of, size_known}
use Rattle.readers.specs.declared.cursor.Cursor.{Cursor}
use Rattle.std.specs.Prelude.{Err, None, Ok, Option, Result, Some}
use Rattle.readers.specs.declared.header.UnitHeader.{UnitHeader}
use Rattle.readers.proofs.Widths.{fixed-one, fixed-is, fixed-short, fixed-inside}

-- ---- a field that is there or is not, and a value in the domain or not

pub present-at : (n : Option (ℕ × Cursor)) (v : ℕ) (c : Cursor) (k : ℕ → Result (Option UnitHeader) ℕ) → n ≡ Some (v, c) → present n k ≡ k v
unfolding present
present-at n v c k e = ap (λ (m : Option (ℕ × Cursor)). present m k) e

absent : (n : Option (ℕ × Cursor)) (k : ℕ → Result (Option UnitHeader) ℕ) → n ≡ None → present n k ≡ Err 1
unfolding present
absent n k e = ap (λ (m : Option (ℕ × Cursor)). present m k) e

one_of : (v a b : ℕ) → (v ≡ a) ⊎ (v ≡ b) → T (eqb v a or eqb v b)
unfolding ◌or◌
one_of v a b h = ⊎_elim (λ e. left (eqb v a) (eqb v b) (yes_eqb {a = v} {b = a} e)) (λ e. right' (eqb v a) (eqb v b) (yes_eqb {a = v} {b = b} e)) h
  where
    left : (x y : Bool) → T x → T (x or y)
    left true y t = t
    left false y t = absurd t

    right' : (x y : Bool) → T y → T (x or y)
    right' true y t = tt
    right' false y t = t

neither : (v a b : ℕ) → (v ≡ a → ⊥) → (v ≡ b → ⊥) → T (not (eqb v a or eqb v b))
unfolding ◌or◌
neither v a b f g = both (eqb v a) (eqb v b) (no_eqb {a = v} {b = a} f) (no_eqb {a = v} {b = b} g)
  where
    both : (x y : Bool) → T (not x) → T (not y) → T (not (x or y))
    both true y t u = t
    both false y t u = u

-- ---- the fields of version 5, from a place n on

module _ (big : Bool) (w : ℕ) (u : List ℕ) (n : ℕ) where
  -- what is still to be read from each field on
  unfoldable pub at_first : ℕ → ℕ → ℕ → Result (Option UnitHeader) ℕ
  at_first unit_type address_size abbreviations =
      pick (eqb unit_type 1)
      (header_made (encoding_of big 5 w address_size) u unit_type abbreviations (n + 2 + w))
      (present (fixed_at big 8 u (n + 2 + w)) (λ _. header_made (encoding_of big 5 w address_size) u unit_type abbreviations (n + 2 + w + 8)))

  unfoldable pub abbreviations_at : ℕ → ℕ → Result (Option UnitHeader) ℕ
  abbreviations_at unit_type address_size = present (fixed_at big w u (n + 2)) (at_first unit_type address_size)

  unfoldable pub at_size : ℕ → Result (Option UnitHeader) ℕ
  at_size unit_type =
      present (fixed_at big 1 u (n + 1)) (λ address_size. right (eqb address_size 4 or eqb address_size 8) (abbreviations_at unit_type address_size))

  from-type : fields5 big w u n ≡ present (fixed_at big 1 u n) (λ unit_type. right (eqb unit_type 1 or eqb unit_type 5) (at_size unit_type))
  unfolding fields5 at_size abbreviations_at at_first
  from-type = refl

  byte-none : (at : ℕ) (k : ℕ → Result (Option UnitHeader) ℕ) → length u ≤ at → present (fixed_at big 1 u at) k ≡ Err 1
  byte-none at k h = absent _ k (fixed-short big 1 u at (omega arith))

  byte_at : (at : ℕ) (k : ℕ → Result (Option UnitHeader) ℕ) → at < length u → present (fixed_at big 1 u at) k ≡ k (get_or u at 0)
  byte_at at k h = present-at _ _ _ k (fixed-one big u at h)

  pub type-none : length u ≤ n → fields5 big w u n ≡ Err 1
  type-none h = from-type ∙ byte-none n _ h

  pub type-other : n < length u → (get_or u n 0 ≡ 1 → ⊥) → (get_or u n 0 ≡ 5 → ⊥) → fields5 big w u n ≡ Err 2
  unfolding right
  type-other h f g = from-type ∙ byte_at n _ h ∙ pick_no _ _ _ (neither (get_or u n 0) 1 5 f g)

  pub type-known : n < length u → (get_or u n 0 ≡ 1) ⊎ (get_or u n 0 ≡ 5) → fields5 big w u n ≡ at_size (get_or u n 0)
  unfolding right
  type-known h f = from-type ∙ byte_at n _ h ∙ pick_yes _ _ _ (one_of (get_or u n 0) 1 5 f)

  module _ (t : ℕ) where
    pub size_none : length u ≤ n + 1 → at_size t ≡ Err 1
    unfolding at_size
    size_none h = byte-none (n + 1) _ h

    pub size-other : n + 1 < length u → size_known (get_or u (n + 1) 0) ≡ false → at_size t ≡ Err 2
    unfolding at_size right
    size-other h f = byte_at (n + 1) _ h ∙ pick_no _ _ _ (subst (λ b. T (not b)) (sym f) tt)

    pub size-known : n + 1 < length u → size_known (get_or u (n + 1) 0) ≡ true → at_size t ≡ abbreviations_at t (get_or u (n + 1) 0)
    unfolding at_size right
    size-known h f = byte_at (n + 1) _ h ∙ pick_yes _ _ _ (subst T (sym f) tt)

    module _ (a : ℕ) where
      pub abbreviations-none : fixed_at big w u (n + 2) ≡ None → abbreviations_at t a ≡ Err 1
      unfolding abbreviations_at
      abbreviations-none e = absent _ _ e

      module _ (v : ℕ) (c : Cursor) (e : fixed_at big w u (n + 2) ≡ Some (v, c)) where
        pub whole : t ≡ 1 → abbreviations_at t a ≡ header_made (encoding_of big 5 w a) u t v (n + 2 + w)
        unfolding abbreviations_at at_first
        whole h = present-at _ v c _ e ∙ pick_yes _ _ _ (yes_eqb {a = t} {b = 1} h)

        pub id-none : (t ≡ 1 → ⊥) → length u < n + 2 + w + 8 → abbreviations_at t a ≡ Err 1
        unfolding abbreviations_at at_first
        id-none h k =
            present-at _ v c _ e ∙ pick_no _ _ _ (no_eqb {a = t} {b = 1} h) ∙ absent _ _ (fixed-short big 8 u (n + 2 + w) (omega arith))

        pub id-there : (t ≡ 1 → ⊥) → n + 2 + w + 8 ≤ length u → abbreviations_at t a ≡ header_made (encoding_of big 5 w a) u t v (n + 2 + w + 8)
        unfolding abbreviations_at at_first
        id-there h k =
            present-at _ v c _ e
            ∙ pick_no _ _ _ (no_eqb {a = t} {b = 1} h)
            ∙ present-at _ _ _ _ (fixed-is big 8 u (n + 2 + w) (omega arith) (omega arith))

  -- ---- those of version 4

  pub offset-none : fixed_at big w u n ≡ None → fields4 big w u n ≡ Err 1
  unfolding fields4
  offset-none e = absent _ _ e

  module _ (v : ℕ) (c : Cursor) (e : fixed_at big w u n ≡ Some (v, c)) where
    from-size : fields4 big w u n
        ≡ present (fixed_at big 1 u (n + w)) (λ size. right (eqb size 4 or eqb size 8) (header_made (encoding_of big 4 w size) u 1 v (n + w + 1)))
    unfolding fields4
    from-size = present-at _ v c _ e

    pub size4-none : length u ≤ n + w → fields4 big w u n ≡ Err 1
    size4-none h = from-size ∙ byte-none (n + w) _ h

    module _ (there : n + w < length u) where
      pub size4-other : size_known (get_or u (n + w) 0) ≡ false → fields4 big w u n ≡ Err 2
      unfolding right
      size4-other f = from-size ∙ byte_at (n + w) _ there ∙ pick_no _ _ _ (subst (λ b. T (not b)) (sym f) tt)

      pub size4-known : size_known (get_or u (n + w) 0) ≡ true
          → fields4 big w u n ≡ header_made (encoding_of big 4 w (get_or u (n + w) 0)) u 1 v (n + w + 1)
      unfolding right
      size4-known f = from-size ∙ byte_at (n + w) _ there ∙ pick_yes _ _ _ (subst T (sym f) tt)

-- ---- the version, which stands at n

module _ (big : Bool) (w : ℕ) (u : List ℕ) (n : ℕ) (is : n ≡ length_bytes w) where
  from-version : header_fields big w u
      ≡ present (fixed_at big 2 u n) (λ version. pick (eqb version 5) (fields5 big w u (n + 2)) (pick (eqb version 4) (fields4 big w u (n + 2)) (Err 2)))
  unfolding header_fields
  from-version =
      ap (λ (m : ℕ). present (fixed_at big 2 u m) (λ version. pick (eqb version 5) (fields5 big w u (m + 2)) (pick (eqb version 4) (fields4 big w u (m + 2)) (Err 2)))) (sym is)

  pub version-none : fixed_at big 2 u n ≡ None → header_fields big w u ≡ Err 1
  version-none e = from-version ∙ absent _ _ e

  module _ (v : ℕ) (c : Cursor) (e : fixed_at big 2 u n ≡ Some (v, c)) where
    by-version : header_fields big w u ≡ pick (eqb v 5) (fields5 big w u c.at) (pick (eqb v 4) (fields4 big w u c.at) (Err 2))
    by-version =
        from-version ∙ present-at _ v c _ e
        ∙ ap (λ (m : ℕ). pick (eqb v 5) (fields5 big w u m) (pick (eqb v 4) (fields4 big w u m) (Err 2))) (sym (fixed-inside big 2 u n v c e).0)

    -- where it ends
    pub version-inside : c.at ≤ length u
    version-inside = omega (arith, (fixed-inside big 2 u n v c e).0, (fixed-inside big 2 u n v c e).1)

    pub version-five : v ≡ 5 → header_fields big w u ≡ fields5 big w u c.at
    version-five h = by-version ∙ pick_yes _ _ _ (yes_eqb {a = v} {b = 5} h)

    module _ (other : v ≡ 5 → ⊥) where
      pub version-four : v ≡ 4 → header_fields big w u ≡ fields4 big w u c.at
      version-four h = by-version ∙ pick_no _ _ _ (no_eqb {a = v} {b = 5} other) ∙ pick_yes _ _ _ (yes_eqb {a = v} {b = 4} h)

      pub version-other : (v ≡ 4 → ⊥) → header_fields big w u ≡ Err 2
      version-other h = by-version ∙ pick_no _ _ _ (no_eqb {a = v} {b = 5} other) ∙ pick_no _ _ _ (no_eqb {a = v} {b = 4} h)

-- ---- the length of a unit

pub bytes-eight : (w : ℕ) → w ≡ 8 → length_bytes w ≡ 12
unfolding length_bytes
bytes-eight w h = pick_yes _ _ _ (yes_eqb {a = w} {b = 8} h)

pub bytes-other : (w : ℕ) → (w ≡ 8 → ⊥) → length_bytes w ≡ 4
unfolding length_bytes
bytes-other w h = pick_no _ _ _ (no_eqb {a = w} {b = 8} h)

pub bytes_most : (n w : ℕ) → n ≡ length_bytes w → n ≤ 12
unfolding length_bytes
bytes_most n w q = subst (λ (k : ℕ). k ≤ 12) (sym q) (pick-either (λ (k : ℕ). k ≤ 12) (eqb w 8) 12 4 (λ _. omega arith) (λ _. omega arith))

pub four_bytes : length_bytes 4 ≡ 4
four_bytes = bytes-other 4 (λ e. absurd (omega (arith, e)))

pub eight-bytes : length_bytes 8 ≡ 12
eight-bytes = bytes-eight 8 refl

-- the unit of the n bytes after a length field of k bytes is there, or is not
module _ (big : Bool) (w : ℕ) (s : List ℕ) (k : ℕ) (is : k ≡ length_bytes w) (n : ℕ) where
  pub in-over : length s - k < n → header_in big w s n ≡ Err 1
  unfolding header_in
  in-over h = pick_no _ _ _ (no_leb {a = n} {b = length s - length_bytes w} (subst (λ (l : ℕ). length s - l < n) is h))

  pub in-there : n ≤ length s - k → header_in big w s n ≡ header_fields big w (take (k + n) s)
  unfolding header_in
  in-there h =
      pick_yes _ _ _ (yes_leb {a = n} {b = length s - length_bytes w} (subst (λ (l : ℕ). n ≤ length s - l) is h))
      ∙ ap (λ (l : ℕ). header_fields big w (take (l + n) s)) (sym is)

module _ (big : Bool) (s : List ℕ) where
  pub header-empty : length s ≡ 0 → header_of big s ≡ Ok None
  unfolding header_of
  header-empty h = pick_yes _ _ _ (yes_eqb {a = length s} {b = 0} h)

  module _ (some : length s ≡ 0 → ⊥) where
    pub length_none : fixed_at big 4 s 0 ≡ None → header_of big s ≡ Err 1
    unfolding header_of
    length_none e = pick_no _ _ _ (no_eqb {a = length s} {b = 0} some) ∙ absent _ _ e

    module _ (n : ℕ) (c : Cursor) (e : fixed_at big 4 s 0 ≡ Some (n, c)) where
      by_length : header_of big s ≡ pick (eqb n 0xffffffff) (present (fixed_at big 8 s 4) (λ m. pick (ltb (12 + m) (2 ^ 64)) (header_in big 8 s m) (Err 1)))
          (pick (leb 0xfffffff0 n) (Err 2) (header_in big 4 s n))
      unfolding header_of
      by_length = pick_no _ _ _ (no_eqb {a = length s} {b = 0} some) ∙ present-at _ n c _ e

      pub length-reserved : (n ≡ 0xffffffff → ⊥) → 0xfffffff0 ≤ n → header_of big s ≡ Err 2
      length-reserved f h = by_length ∙ pick_no _ _ _ (no_eqb {a = n} {b = 0xffffffff} f) ∙ pick_yes _ _ _ (yes_leb {a = 0xfffffff0} {b = n} h)

      pub length-four : n < 0xfffffff0 → header_of big s ≡ header_in big 4 s n
      length-four h =
          by_length
          ∙ pick_no _ _ _ (no_eqb {a = n} {b = 0xffffffff} (λ z. absurd (omega arith)))
          ∙ pick_no _ _ _ (no_leb {a = 0xfffffff0} {b = n} h)

      module _ (escape : n ≡ 0xffffffff) where
        pub eight-none : fixed_at big 8 s 4 ≡ None → header_of big s ≡ Err 1
        eight-none h = by_length ∙ pick_yes _ _ _ (yes_eqb {a = n} {b = 0xffffffff} escape) ∙ absent _ _ h

        pub length-said : (m : ℕ) (d : Cursor) → fixed_at big 8 s 4 ≡ Some (m, d)
            → header_of big s ≡ pick (ltb (12 + m) (2 ^ 64)) (header_in big 8 s m) (Err 1)
        length-said m d h = by_length ∙ pick_yes _ _ _ (yes_eqb {a = n} {b = 0xffffffff} escape) ∙ present-at _ m d _ h

        -- a section has no 2 ^ 64 bytes
        pub length-eight : (m : ℕ) (d : Cursor) → fixed_at big 8 s 4 ≡ Some (m, d) → length s < 2 ^ 64 → header_of big s ≡ header_in big 8 s m
        length-eight m d h l =
            length-said m d h
            ∙ pick-either (λ (r : Result (Option UnitHeader) ℕ). r ≡ header_in big 8 s m) (ltb (12 + m) (2 ^ 64)) (header_in big 8 s m) (Err 1)
            (λ _. refl)
            (λ t. sym (in-over big 8 s 12 (sym eight-bytes) m (let z : 2 ^ 64 ≤ 12 + m = ltb_no {a = 12 + m} {b = 2 ^ 64} t in omega arith)))
