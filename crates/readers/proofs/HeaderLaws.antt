-- What a header is, whatever the section: nothing, 1, 2, or that of a unit. It has the byte order that was told, and a
-- unit that begins with it, but for its length, is read so again. One argument for either byte order and both formats.
-- Assumes nothing.
use Prim.Native.Nat.{ℕ, ◌+◌, ◌*◌, ◌-◌, ◌^◌, ◌≤◌, ◌<◌}
use mathlib.Core.Path.{◌≡◌, refl, ap, sym, ◌∙◌, subst}
use mathlib.Core.Logic.{◌⊎◌, inl, inr, ⊎_elim}
use mathlib.Core.Bool.{Bool, true, false, not}
use mathlib.Core.List.{List, [], ◌∷◌, ◌++◌, append_assoc}
use native.Mathlib.Omega.{arith}
use lib.ListN.{length, take, drop, length-drop, length-append, take-append-drop}
use lib.Seq.{length-take-le, take_all, take_at, drop_at, take-append-le, drop-append-le, drop-append-add}
use lib.Dec.{T, leb, ltb, eqb}
use mir.Facts.{leb_yes, leb_no, ltb_yes, eqb_yes, eqb_no}
use Rattle.readers.specs.Choice.{pick, ◌or◌}
use Rattle.readers.proofs.Choice.{pick_yes, pick_no, pick-either}
use Rattle.readers.specs.Cursors.{cursor, fixed_at}
use Rattle.readers.specs.Numbers.{little_value, ordered, fixed_bytes, fixed_value}
use Rattle.readers.proofs.Numbers.{length-fixed, fixed-value}
use Rattle.readers.proofs.Widths.{fixed-is, fixed-inside}
use Rattle.readers.proofs.Headers.{present-at, four_bytes, eight-bytes, in-there, length-four, length-eight}
use Rattle.readers.specs.Header.{present, right, length_bytes, length_size, encoding_of, header_made, fields4, fields5, header_fields, header_in, header_of, with_end, SaysWidth, Headed, Known}
use Rattle.readers.specs.declared.cursor.Cursor.{Cursor}
use Rattle.readers.specs.declared.cursor.Encoding.{Encoding}
use Rattle.std.specs.Prelude.{Err, None, Ok, Option, Result, Some}
use Rattle.std.proofs.lemmas.Option.{some_pair_parts}
use Rattle.readers.specs.declared.header.UnitHeader.{UnitHeader}

one_of : (v a b : ℕ) → T (eqb v a or eqb v b) → (v ≡ a) ⊎ (v ≡ b)
unfolding ◌or◌
one_of v a b t = by (eqb v a) (eqb v b) refl refl t
  where
    by : (x y : Bool) → eqb v a ≡ x → eqb v b ≡ y → T (x or y) → (v ≡ a) ⊎ (v ≡ b)
    by true y p q t = inl (eqb_yes {a = v} {b = a} (subst T (sym p) tt))
    by false y p q t = inr (eqb_yes {a = v} {b = b} (subst T (sym q) t))

present-right : (n : Option (ℕ × Cursor)) (v : ℕ) (c : Cursor) (b : ℕ → Bool) (k : ℕ → Result (Option UnitHeader) ℕ) → n ≡ Some (v, c) → T (b v) → present n (λ w. right (b w) (k w)) ≡ k v
unfolding right
present-right n v c b k q t = present-at n v c (λ w. right (b w) (k w)) q ∙ pick_yes _ _ _ t

-- ---- the fields after the length

module _ (big : Bool) (w : ℕ) (u : List ℕ) where
  abbrev at : ℕ
  at = length_bytes w

  -- the fields of v from the length on, up to a place, are those of u
  abbrev Same : ℕ → List ℕ → Type 0
  Same n v = (p k : ℕ) → at ≤ p → k ≤ 8 → p + k ≤ n → fixed_at big k v p ≡ fixed_at big k u p

  -- what is read with them
  record FieldsLaw (h : UnitHeader) : Type 0 where
    pub encoding_is : h.encoding ≡ encoding_of big h.encoding.version w h.encoding.address_size
    pub version_is : (h.encoding.version ≡ 4) ⊎ (h.encoding.version ≡ 5)
    pub address_is : (h.encoding.address_size ≡ 4) ⊎ (h.encoding.address_size ≡ 8)
    pub headed : Headed h.encoding.version (at + w) h.unit_type h.first.0
    pub inside : h.first.0 ≤ length u
    pub end_is : h.end ≡ length u
    pub version-there : fixed_at big 2 u at ≡ Some (h.encoding.version, cursor (at + 2))
    pub again : (v : List ℕ) → Same h.first.0 v → header_fields big w v ≡ Ok (Some (with_end h (length v)))

  module _ (few : w ≤ 8) (P : Result (Option UnitHeader) ℕ → Type 0) (one : P (Err 1)) (two : P (Err 2)) (made : (h : UnitHeader) → FieldsLaw h → P (Ok (Some h))) where
    on-present : (n : Option (ℕ × Cursor)) (k : ℕ → Result (Option UnitHeader) ℕ) → ((v : ℕ) (c : Cursor) → n ≡ Some (v, c) → P (k v)) → P (present n k)
    unfolding present
    on-present (Some (v, c)) k h = h v c refl
    on-present None k h = one

    on-right : (b : Bool) (h : Result (Option UnitHeader) ℕ) → (T b → P h) → P (right b h)
    unfolding right
    on-right b h k = pick-either P b h (Err 2) k (λ _. two)

    module _ (version : ℕ) (cv : Cursor) (qv : fixed_at big 2 u at ≡ Some (version, cv)) where
      version-read : (n : ℕ) → version ≡ n → fixed_at big 2 u at ≡ Some (n, cursor (at + 2))
      version-read n q =
          qv
          ∙ ap (λ (d : Cursor). Some (version, d)) (let e : cv ≡ cursor (at + 2) = ap (λ (m : ℕ). cursor m) (fixed-inside big 2 u at version cv qv).0 in e)
          ∙ ap (λ (m : ℕ). Some (m, cursor (at + 2))) q

      -- a unit with the same version is read by the fields of that version
      by-version : (n : ℕ) (v : List ℕ) → at + 2 ≤ n → Same n v
          → header_fields big w v ≡ pick (eqb version 5) (fields5 big w v (at + 2)) (pick (eqb version 4) (fields4 big w v (at + 2)) (Err 2))
      unfolding header_fields
      by-version n v l s = present-at (fixed_at big 2 v at) version cv _ (s at 2 (omega arith) (omega arith) (omega arith) ∙ qv)

      fields5-law : T (eqb version 5) → P (fields5 big w u (at + 2))
      unfolding fields5 header_made encoding_of
      fields5-law tv =
          on-present (fixed_at big 1 u (at + 2)) _ (λ unit_type ct qt. on-right (eqb unit_type 1 or eqb unit_type 5) _ (λ tt'.
          on-present (fixed_at big 1 u (at + 2 + 1)) _ (λ address_size ca qa. on-right (eqb address_size 4 or eqb address_size 8) _ (λ ta.
          on-present (fixed_at big w u (at + 2 + 2)) _ (λ abbreviations co qo.
          let there : w ≤ length u - (at + 2 + 2) = (fixed-inside big w u (at + 2 + 2) abbreviations co qo).1 in
          let vthere : 1 ≤ length u - (at + 2 + 1) = (fixed-inside big 1 u (at + 2 + 1) address_size ca qa).1 in
          let five : version ≡ 5 = eqb_yes {a = version} {b = 5} tv in
          let e : Encoding = encoding_of big 5 w address_size in
          let on : (n : ℕ) (v : List ℕ) → at + 2 + 2 + w ≤ n → Same n v → header_fields big w v ≡ pick (eqb unit_type 1)
          (header_made e v unit_type abbreviations (at + 2 + 2 + w))
          (present (fixed_at big 8 v (at + 2 + 2 + w)) (λ _. header_made e v unit_type abbreviations (at + 2 + 2 + w + 8))) =
          (λ n v l s.
          by-version n v (omega arith) s ∙ pick_yes _ _ _ tv
          ∙ present-right (fixed_at big 1 v (at + 2)) unit_type ct (λ z. eqb z 1 or eqb z 5) _ (s (at + 2) 1 (omega arith) (omega arith) (omega arith) ∙ qt) tt'
          ∙ present-right (fixed_at big 1 v (at + 2 + 1)) address_size ca (λ z. eqb z 4 or eqb z 8) _ (s (at + 2 + 1) 1 (omega arith) (omega arith) (omega arith) ∙ qa) ta
          ∙ present-at (fixed_at big w v (at + 2 + 2)) abbreviations co _ (s (at + 2 + 2) w (omega arith) few (omega arith) ∙ qo)) in
          pick-either P (eqb unit_type 1) _ _
          (λ y. made _ (record {
            encoding_is = refl;
            version_is = inr refl;
            address_is = one_of address_size 4 8 ta;
            headed = inr (inl (refl, (eqb_yes {a = unit_type} {b = 1} y, omega arith)));
            inside = let g : at + 2 + 2 + w ≤ length u = omega arith in g;
            end_is = refl;
            version-there = version-read 5 five;
            again = (λ v s. on (at + 2 + 2 + w) v (omega arith) s ∙ pick_yes _ _ _ y);
          }))
          (λ y. on-present (fixed_at big 8 u (at + 2 + 2 + w)) _ (λ id ci qi.
          let there' : 8 ≤ length u - (at + 2 + 2 + w) = (fixed-inside big 8 u (at + 2 + 2 + w) id ci qi).1 in
          made _ (record {
            encoding_is = refl;
            version_is = inr refl;
            address_is = one_of address_size 4 8 ta;
            headed = inr (inr (refl, (⊎_elim (λ o. absurd (eqb_no {a = unit_type} {b = 1} y o)) (λ o. o) (one_of unit_type 1 5 tt'), omega arith)));
            inside = let g : at + 2 + 2 + w + 8 ≤ length u = omega arith in g;
            end_is = refl;
            version-there = version-read 5 five;
            again = (λ v s. on (at + 2 + 2 + w + 8) v (omega arith) s ∙ pick_no _ _ _ y
                ∙ present-at (fixed_at big 8 v (at + 2 + 2 + w)) id ci _ (s (at + 2 + 2 + w) 8 (omega arith) (omega arith) (omega arith) ∙ qi));
          }))))))))

      fields4-law : T (not (eqb version 5)) → T (eqb version 4) → P (fields4 big w u (at + 2))
      unfolding fields4 header_made encoding_of
      fields4-law nv tv =
          on-present (fixed_at big w u (at + 2)) _ (λ abbreviations co qo.
          on-present (fixed_at big 1 u (at + 2 + w)) _ (λ address_size ca qa. on-right (eqb address_size 4 or eqb address_size 8) _ (λ ta.
          let there : 1 ≤ length u - (at + 2 + w) = (fixed-inside big 1 u (at + 2 + w) address_size ca qa).1 in
          made _ (record {
            encoding_is = refl;
            version_is = inl refl;
            address_is = one_of address_size 4 8 ta;
            headed = inl (refl, (refl, omega arith));
            inside = let g : at + 2 + w + 1 ≤ length u = omega arith in g;
            end_is = refl;
            version-there = version-read 4 (eqb_yes {a = version} {b = 4} tv);
            again = (λ v s.
                by-version (at + 2 + w + 1) v (omega arith) s ∙ pick_no _ _ _ nv ∙ pick_yes _ _ _ tv
                ∙ present-at (fixed_at big w v (at + 2)) abbreviations co _ (s (at + 2) w (omega arith) few (omega arith) ∙ qo)
                ∙ present-right (fixed_at big 1 v (at + 2 + w)) address_size ca (λ z. eqb z 4 or eqb z 8) _ (s (at + 2 + w) 1 (omega arith) (omega arith) (omega arith) ∙ qa) ta);
          }))))

    fields-law : P (header_fields big w u)
    unfolding header_fields
    fields-law =
        on-present (fixed_at big 2 u at) _ (λ version cv qv.
        pick-either P (eqb version 5) _ _ (fields5-law version cv qv)
        (λ n. pick-either P (eqb version 4) _ (Err 2) (fields4-law version cv qv n) (λ _. two)))

-- ---- a header, and a unit that begins with it but for its length

-- what stands before the number of the length stays: nothing, or the escape of the 64-bit format
pub record HeaderLaw (big : Bool) (u : List ℕ) (h : UnitHeader) : Type 0 where
  pub known : Known big h.encoding
  -- its first four bytes say the format
  pub format : SaysWidth (fixed_value big (take 4 u)) h.encoding.offset_size
  -- its unit type, and how many bytes it has
  pub headed : Headed h.encoding.version (length_size h.encoding + h.encoding.offset_size) h.unit_type h.first.0
  pub after : length_size h.encoding + 7 ≤ h.first.0
  pub inside : h.first.0 ≤ length u
  pub short : length u < length_size h.encoding + 256 ^ h.encoding.offset_size
  pub below : length u < 2 ^ 64
  pub end_is : h.end ≡ length u
  pub version-there : fixed_at big 2 u (length_size h.encoding) ≡ Some (h.encoding.version, cursor (length_size h.encoding + 2))
  pub again : (v r : List ℕ) → length v ≤ length u
      → v ≡ take (length_size h.encoding - h.encoding.offset_size) u
      ++ (fixed_bytes big h.encoding.offset_size (length v - length_size h.encoding)
      ++ (drop (length_size h.encoding) (take h.first.0 u) ++ r))
      → header_of big v ≡ Ok (Some (with_end h (length v)))

-- fields behind a front of n bytes
module _ (big : Bool) (n : ℕ) (a m r : List ℕ) (l : length a ≡ n) where
  field_in : (k w : ℕ) → k + w ≤ length m → take w (drop (n + k) (a ++ (m ++ r))) ≡ take w (drop k m)
  field_in k w h =
      ap (λ (j : ℕ). take w (drop (j + k) (a ++ (m ++ r)))) (sym l)
      ∙ ap (take w) (drop-append-add a (m ++ r) k ∙ drop-append-le k m r (omega arith))
      ∙ take-append-le w (drop k m) r (omega (arith, length-drop k m))

  field_at : (k w : ℕ) → w ≤ 8 → k + w ≤ length m → fixed_at big w (a ++ (m ++ r)) (n + k) ≡ Some (fixed_value big (take w (drop k m)), cursor (n + k + w))
  field_at k w e h =
      fixed-is big w (a ++ (m ++ r)) (n + k) e (omega (arith, length-append a (m ++ r), length-append m r))
      ∙ ap (λ (z : List ℕ). Some (fixed_value big z, cursor (n + k + w))) (field_in k w h)

parts : (n : ℕ) (u : List ℕ) (first : ℕ) → u ≡ take n (take first u) ++ (drop n (take first u) ++ drop first u)
parts n u first =
    sym (take-append-drop first u)
    ∙ ap (λ (z : List ℕ). z ++ drop first u) (sym (take-append-drop n (take first u)))
    ∙ append_assoc (take n (take first u)) (drop n (take first u)) (drop first u)

-- a front of n bytes, and then the header as it was: its fields are the same
module _ (big : Bool) (n : ℕ) (u : List ℕ) (first : ℕ) (lo : n ≤ first) (hi : first ≤ length u) where
  abbrev middle : List ℕ
  middle = drop n (take first u)

  length-middle : length middle ≡ first - n
  length-middle = length-drop n (take first u) ∙ ap (λ (k : ℕ). k - n) (length-take-le first u hi)

  same-fields : (a r : List ℕ) → length a ≡ n → (p k : ℕ) → n ≤ p → k ≤ 8 → p + k ≤ first → fixed_at big k (a ++ (middle ++ r)) p ≡ fixed_at big k u p
  same-fields a r l p k g e f =
      let j : n + (p - n) ≡ p = omega arith in
      subst (λ (z : ℕ). fixed_at big k (a ++ (middle ++ r)) z ≡ fixed_at big k u z) j
      (field_at big n a middle r l (p - n) k e (omega (arith, length-middle))
      ∙ sym (field_at big n (take n (take first u)) middle (drop first u) (length-take-le n (take first u) (omega (arith, length-take-le first u hi))) (p - n) k e (omega (arith, length-middle)))
      ∙ ap (λ (z : List ℕ). fixed_at big k z (n + (p - n))) (sym (parts n u first)))

-- ---- a unit that begins with the header of another, but for its length; the length field has k bytes, the last w of them
-- the number

abbrev Again : Bool → List ℕ → UnitHeader → ℕ → ℕ → Type 0
Again big u h w k =
    (v r : List ℕ) → length v ≤ length u → v ≡ take (k - w) u ++ (fixed_bytes big w (length v - k) ++ (drop k (take h.first.0 u) ++ r))
    → header_of big v ≡ Ok (Some (with_end h (length v)))

module _ (big : Bool) (w : ℕ) (u : List ℕ) (h : UnitHeader) (b : FieldsLaw big w u h) where
  -- the first entry stands behind the fields
  fields-after : length_bytes w + 3 + w ≤ h.first.0
  fields-after = ⊎_elim (λ y. omega (arith, y.1.1)) (λ y. ⊎_elim (λ y. omega (arith, y.1.1)) (λ y. omega (arith, y.1.1)) y) b.headed

  module _ (k : ℕ) (is : length_bytes w ≡ k) (within : w ≤ k) (few : w ≤ 8) (under : length u < k + 256 ^ w)
      (v r : List ℕ) (no_longer : length v ≤ length u)
      (q : v ≡ take (k - w) u ++ (fixed_bytes big w (length v - k) ++ (drop k (take h.first.0 u) ++ r))) where
    abbrev number : List ℕ
    number = fixed_bytes big w (length v - k)

    abbrev rest : List ℕ
    rest = drop k (take h.first.0 u) ++ r

    after : k + 3 + w ≤ h.first.0
    after = subst (λ (z : ℕ). z + 3 + w ≤ h.first.0) is fields-after

    length-lead : length (take (k - w) u) ≡ k - w
    length-lead = length-take-le (k - w) u (omega (arith, after, b.inside))

    length_front : length (take (k - w) u ++ number) ≡ k
    length_front = length-append (take (k - w) u) number ∙ (let z : length (take (k - w) u) + length number ≡ k = omega (arith, length-lead, length-fixed big w (length v - k)) in z)

    front : v ≡ (take (k - w) u ++ number) ++ rest
    front = q ∙ sym (append_assoc (take (k - w) u) number rest)

    length-again : k + 3 + w ≤ length v
    length-again =
        let z : length v ≡ length (take (k - w) u ++ number) + length rest = ap length front ∙ length-append (take (k - w) u ++ number) rest in
        let y : length rest ≡ length (drop k (take h.first.0 u)) + length r = length-append (drop k (take h.first.0 u)) r in
        omega (arith, z, y, length_front, length-middle big k u h.first.0 (omega (arith, after)) b.inside, after)

    -- the number is read
    number-again : fixed_at big w v (k - w) ≡ Some (length v - k, cursor (k - w + w))
    number-again =
        fixed-is big w v (k - w) few (omega (arith, length-again))
        ∙ ap (λ (z : ℕ). Some (z, cursor (k - w + w)))
        (ap (fixed_value big) (ap (take w) (ap (drop (k - w)) q ∙ drop_at (take (k - w) u) (number ++ rest) (k - w) length-lead) ∙ take_at number rest w (length-fixed big w (length v - k)))
        ∙ fixed-value big w (length v - k) (omega (arith, length-again)))

    -- and then the fields
    fields-again : header_in big w v (length v - k) ≡ Ok (Some (with_end h (length v)))
    fields-again =
        in-there big w v k (sym is) (length v - k) (omega arith)
        ∙ ap (header_fields big w) (take_all (k + (length v - k)) v (omega (arith, length-again)))
        ∙ b.again v (λ p j g e f.
        ap (λ (z : List ℕ). fixed_at big j z p) front
        ∙ same-fields big k u h.first.0 (omega (arith, after)) b.inside (take (k - w) u ++ number) r length_front p j (omega (arith, is)) e f)

-- nothing stands before the number
four-again : (big : Bool) (u : List ℕ) (h : UnitHeader) → FieldsLaw big 4 u h → length u < 0xfffffff4 → Again big u h 4 4
four-again big u h b hi v r l q =
    let under : length u < 4 + 256 ^ 4 = omega arith in
    let some : 4 + 3 + 4 ≤ length v = length-again big 4 u h b 4 four_bytes (omega arith) (omega arith) under v r l q in
    length-four big v (λ z. absurd (omega (arith, z))) (length v - 4) (cursor 4)
    (number-again big 4 u h b 4 four_bytes (omega arith) (omega arith) under v r l q) (omega arith)
    ∙ fields-again big 4 u h b 4 four_bytes (omega arith) (omega arith) under v r l q

-- the escape stands before it, as it was
eight-again : (big : Bool) (u : List ℕ) (h : UnitHeader) → FieldsLaw big 8 u h → (c : Cursor) → fixed_at big 4 u 0 ≡ Some (0xffffffff, c)
    → length u < 2 ^ 64 → Again big u h 8 12
eight-again big u h b c e hi v r l q =
    let under : length u < 12 + 256 ^ 8 = omega arith in
    let some : 12 + 3 + 8 ≤ length v = length-again big 8 u h b 12 eight-bytes (omega arith) (omega arith) under v r l q in
    let t : take 4 v ≡ take 4 u =
    ap (take 4) q ∙ take_at (take 4 u) (fixed_bytes big 8 (length v - 12) ++ (drop 12 (take h.first.0 u) ++ r)) 4 (length-take-le 4 u (omega arith)) in
    let e' : fixed_at big 4 v 0 ≡ Some (0xffffffff, c) =
    fixed-is big 4 v 0 (omega arith) (omega arith)
    ∙ ap (λ (z : List ℕ). Some (fixed_value big z, cursor 4)) t
    ∙ sym (fixed-is big 4 u 0 (omega arith) (omega arith)) ∙ e in
    length-eight big v (λ z. absurd (omega (arith, z))) 0xffffffff c e' refl (length v - 12) (cursor 12)
    (number-again big 8 u h b 12 eight-bytes (omega arith) (omega arith) under v r l q) (omega arith)
    ∙ fields-again big 8 u h b 12 eight-bytes (omega arith) (omega arith) under v r l q

-- the law of a header with offsets of w bytes
module _ (big : Bool) (w : ℕ) (u : List ℕ) (h : UnitHeader) (b : FieldsLaw big w u h) where
  width_is : h.encoding.offset_size ≡ w
  unfolding encoding_of
  width_is = ap (λ (e : Encoding). e.offset_size) b.encoding_is

  lawful : (w ≡ 4) ⊎ (w ≡ 8) → SaysWidth (fixed_value big (take 4 u)) w → length u < length_bytes w + 256 ^ w → length u < 2 ^ 64 → Again big u h w (length_bytes w) → HeaderLaw big u h
  unfolding encoding_of
  lawful is format under below again =
      let wide : (P : ℕ → Type 0) → P w → P h.encoding.offset_size = (λ P p. subst P (sym width_is) p) in
      record {
        known = record {
          version_is = b.version_is;
          offset_is = wide (λ (z : ℕ). (z ≡ 4) ⊎ (z ≡ 8)) is;
          address_is = b.address_is;
          order_is = ap (λ (e : Encoding). e.big_endian) b.encoding_is;
        };
        format = wide (SaysWidth (fixed_value big (take 4 u))) format;
        headed = wide (λ (z : ℕ). Headed h.encoding.version (length_bytes z + z) h.unit_type h.first.0) b.headed;
        after = wide (λ (z : ℕ). length_bytes z + 7 ≤ h.first.0)
            (let g : length_bytes w + 7 ≤ h.first.0 = ⊎_elim (λ y. omega (arith, y, fields-after big w u h b)) (λ y. omega (arith, y, fields-after big w u h b)) is in g);
        inside = b.inside;
        short = wide (λ (z : ℕ). length u < length_bytes z + 256 ^ z) under;
        below = below;
        end_is = b.end_is;
        version-there = wide (λ (z : ℕ). fixed_at big 2 u (length_bytes z) ≡ Some (h.encoding.version, cursor (length_bytes z + 2))) b.version-there;
        again = wide (λ (z : ℕ). Again big u h z (length_bytes z)) again;
      }

-- ---- the first unit of a section

-- THE LAW of headers, by cases: what holds of no header, of both refusals and of each header that is made
module _ (big : Bool) (s : List ℕ) (P : Result (Option UnitHeader) ℕ → Type 0) (empty : length s ≡ 0 → P (Ok None)) (one : P (Err 1)) (two : P (Err 2))
    (unit : (h : UnitHeader) → HeaderLaw big (take h.end s) h → P (Ok (Some h))) where
  -- the unit's first four bytes are the section's
  start_of : (w : ℕ) → (w ≡ 4) ⊎ (w ≡ 8) → (n : ℕ) → length (take (length_bytes w + n) s) ≡ length_bytes w + n → take 4 (take (length_bytes w + n) s) ≡ take 4 s
  start_of w is n l =
      let k : 4 ≤ length_bytes w = ⊎_elim (λ y. omega (arith, ap length_bytes y, four_bytes)) (λ y. omega (arith, ap length_bytes y, eight-bytes)) is in
      sym (take-append-le 4 (take (length_bytes w + n) s) (drop (length_bytes w + n) s) (omega (arith, l, k))) ∙ ap (take 4) (take-append-drop (length_bytes w + n) s)

  -- a unit of the n bytes after the length field, by what is read again with its header
  in-width : (w : ℕ) → (w ≡ 4) ⊎ (w ≡ 8) → (n : ℕ) → n < 256 ^ w → length_bytes w + n < 2 ^ 64 → length_bytes w ≤ length s
      → SaysWidth (fixed_value big (take 4 s)) w
      → ((h : UnitHeader) → FieldsLaw big w (take (length_bytes w + n) s) h → length (take (length_bytes w + n) s) ≡ length_bytes w + n
      → Again big (take (length_bytes w + n) s) h w (length_bytes w))
      → P (header_in big w s n)
  unfolding header_in
  in-width w is n under below there format again =
      pick-either P (leb n (length s - length_bytes w)) _ (Err 1)
      (λ hi.
      let k : n ≤ length s - length_bytes w = leb_yes {a = n} {b = length s - length_bytes w} hi in
      let u : List ℕ = take (length_bytes w + n) s in
      let l : length u ≡ length_bytes w + n = length-take-le (length_bytes w + n) s (omega arith) in
      let start : take 4 u ≡ take 4 s = start_of w is n l in
      fields-law big w u (⊎_elim (λ y. omega (arith, y)) (λ y. omega (arith, y)) is) P one two
      (λ h b. unit h (subst (λ (z : ℕ). HeaderLaw big (take z s) h) (sym (b.end_is ∙ l))
      (lawful big w u h b is
      (subst (λ (t : List ℕ). SaysWidth (fixed_value big t) w) (sym start) format)
      (let z : length u < length_bytes w + 256 ^ w = omega (arith, l) in z) (let z : length u < 2 ^ 64 = omega (arith, l) in z) (again h b l)))))
      (λ _. one)

  start-value : (n : ℕ) (c : Cursor) → fixed_at big 4 s 0 ≡ Some (n, c) → 4 ≤ length s → fixed_value big (take 4 s) ≡ n
  start-value n c q there = (some_pair_parts _ _ _ _ (sym (fixed-is big 4 s 0 (omega arith) (omega arith)) ∙ q)).0

  in_four : (n : ℕ) (c : Cursor) → fixed_at big 4 s 0 ≡ Some (n, c) → n < 0xfffffff0 → 4 ≤ length s → P (header_in big 4 s n)
  in_four n c q less there =
      in-width 4 (inl refl) n (omega arith) (omega (arith, four_bytes)) (omega (arith, four_bytes)) (inl (refl, subst (λ (z : ℕ). z < 0xfffffff0) (sym (start-value n c q there)) less)) (λ h b l.
      let u : List ℕ = take (length_bytes 4 + n) s in
      subst (Again big u h 4) (sym four_bytes) (four-again big u h b (let z : length u < 0xfffffff4 = omega (arith, l, four_bytes) in z)))

  -- the escape is the unit's too
  in-eight : (c : Cursor) → fixed_at big 4 s 0 ≡ Some (0xffffffff, c) → (m : ℕ) → 12 + m < 2 ^ 64 → 12 ≤ length s → P (header_in big 8 s m)
  in-eight c q m less there =
      in-width 8 (inr refl) m (let z : m < 256 ^ 8 = omega arith in z) (omega (arith, eight-bytes)) (omega (arith, eight-bytes)) (inr (refl, start-value 0xffffffff c q (omega arith))) (λ h b l.
      let u : List ℕ = take (length_bytes 8 + m) s in
      let same : take 4 u ≡ take 4 s = start_of 8 (inr refl) m l in
      let q' : fixed_at big 4 u 0 ≡ Some (0xffffffff, c) =
      fixed-is big 4 u 0 (omega arith) (omega (arith, l, eight-bytes))
      ∙ ap (λ (z : List ℕ). Some (fixed_value big z, cursor 4)) same
      ∙ sym (fixed-is big 4 s 0 (omega arith) (omega arith)) ∙ q in
      subst (Again big u h 8) (sym eight-bytes) (eight-again big u h b c q' (let z : length u < 2 ^ 64 = omega (arith, l, eight-bytes) in z)))

  pub header-cases : P (header_of big s)
  unfolding header_of present
  header-cases =
      pick-either P (eqb (length s) 0) (Ok None) _ (λ z. empty (eqb_yes {a = length s} {b = 0} z))
      (λ _. first (fixed_at big 4 s 0) refl)
    where
      second : (c : Cursor) → fixed_at big 4 s 0 ≡ Some (0xffffffff, c) → (m : Option (ℕ × Cursor)) → fixed_at big 8 s 4 ≡ m
          → P (present m (λ n. pick (ltb (12 + n) (2 ^ 64)) (header_in big 8 s n) (Err 1)))
      second c q (Some (n, d)) r =
          pick-either P (ltb (12 + n) (2 ^ 64)) _ (Err 1)
          (λ less. in-eight c q n (ltb_yes {a = 12 + n} {b = 2 ^ 64} less) (let z : 8 ≤ length s - 4 = (fixed-inside big 8 s 4 n d r).1 in omega arith))
          (λ _. one)
      second c q None r = one

      first : (m : Option (ℕ × Cursor)) → fixed_at big 4 s 0 ≡ m → P (present m (λ n.
          pick (eqb n 0xffffffff) (present (fixed_at big 8 s 4) (λ k. pick (ltb (12 + k) (2 ^ 64)) (header_in big 8 s k) (Err 1)))
          (pick (leb 0xfffffff0 n) (Err 2) (header_in big 4 s n))))
      first (Some (n, c)) q =
          pick-either P (eqb n 0xffffffff) _ _
          (λ x. second c (q ∙ ap (λ (z : ℕ). Some (z, c)) (eqb_yes {a = n} {b = 0xffffffff} x)) (fixed_at big 8 s 4) refl)
          (λ _. pick-either P (leb 0xfffffff0 n) (Err 2) _ (λ _. two)
          (λ lo. in_four n c q (leb_no {a = 0xfffffff0} {b = n} lo) (let z : 4 ≤ length s - 0 = (fixed-inside big 4 s 0 n c q).1 in omega arith)))
      first None q = one

-- a header, where there is one
unfoldable Reads : (UnitHeader → Type 0) → Result (Option UnitHeader) ℕ → Type 0
Reads P (Ok (Some h)) = P h
Reads P (Ok None) = Unit {0}
Reads P (Err n) = Unit {0}

pub header-laws : (big : Bool) (s : List ℕ) (h : UnitHeader) → header_of big s ≡ Ok (Some h) → HeaderLaw big (take h.end s) h
unfolding Reads
header-laws big s h q =
    subst (Reads (λ h. HeaderLaw big (take h.end s) h)) q
    (header-cases big s (Reads (λ h. HeaderLaw big (take h.end s) h)) (λ _. tt) tt tt (λ h l. l))

-- ---- a section that is told the other byte order

-- two bytes are a version in one order alone
one-order : (l : List ℕ) → length l ≡ 2 → (big : Bool) → (0 < fixed_value big l) × (fixed_value big l < 256) → (0 < fixed_value (not big) l) × (fixed_value (not big) l < 256) → ⊥
unfolding fixed_value ordered little_value
one-order [] n big p q = absurd (omega (arith, n))
one-order (a ∷ []) n big p q = absurd (omega (arith, n))
one-order (a ∷ b ∷ []) n true p q = omega (arith, p.0, p.1, q.0, q.1)
one-order (a ∷ b ∷ []) n false p q = omega (arith, p.0, p.1, q.0, q.1)
one-order (a ∷ b ∷ c ∷ l) n big p q = absurd (omega (arith, n))

-- four numbers that make all ones in one order make no less in the other
module _ (a b c d : ℕ) (p : a + 256 * (b + 256 * (c + 256 * d)) ≡ 0xffffffff) where
  abbrev Least : Type 0
  Least = 0xffffffff ≤ d + 256 * (c + 256 * (b + 256 * a))

  by_size : (n : ℕ) → (n ≤ 255 → Least) → (255 < n → Least) → Least
  by_size n f g = pick-either (λ (z : ℕ). Least) (leb n 255) 0 0 (λ t. f (leb_yes {a = n} {b = 255} t)) (λ t. g (leb_no {a = n} {b = 255} t))

  least : Least
  least =
      by_size a
      (λ a'. let y : b + 256 * (c + 256 * d) ≡ 0xffffff = omega (arith, p) in
      by_size b
      (λ b'. let z : c + 256 * d ≡ 0xffff = omega (arith, y) in
      by_size c
      (λ c'. let x : d ≡ 255 = omega (arith, z) in omega (arith, p))
      (λ c'. omega (arith, p, y, z)))
      (λ b'. omega (arith, p, y)))
      (λ a'. omega (arith, p))

-- four bytes that are all ones in one order are no less in the other
ones-least : (l : List ℕ) → length l ≡ 4 → (x y : Bool) → fixed_value x l ≡ 0xffffffff → 0xffffffff ≤ fixed_value y l
unfolding fixed_value ordered little_value
ones-least [] n x y p = absurd (omega (arith, n))
ones-least (a ∷ []) n x y p = absurd (omega (arith, n))
ones-least (a ∷ b ∷ []) n x y p = absurd (omega (arith, n))
ones-least (a ∷ b ∷ c ∷ []) n x y p = absurd (omega (arith, n))
ones-least (a ∷ b ∷ c ∷ d ∷ []) n true true p = omega (arith, p)
ones-least (a ∷ b ∷ c ∷ d ∷ []) n true false p = omega (arith, least d c b a (omega (arith, p)))
ones-least (a ∷ b ∷ c ∷ d ∷ []) n false true p = omega (arith, least a b c d (omega (arith, p)))
ones-least (a ∷ b ∷ c ∷ d ∷ []) n false false p = omega (arith, p)
ones-least (a ∷ b ∷ c ∷ d ∷ e ∷ l) n x y p = absurd (omega (arith, n))

-- what a header says of the section that it was read from
module _ (big : Bool) (s : List ℕ) (h : UnitHeader) (law : HeaderLaw big (take h.end s) h) where
  length-least : 4 ≤ length_size h.encoding
  length-least = ⊎_elim (λ y. omega (arith, ap length_bytes y, four_bytes)) (λ y. omega (arith, ap length_bytes y, eight-bytes)) law.known.offset_is

  there : length_size h.encoding + 7 ≤ length (take h.end s)
  there = omega (arith, law.after, law.inside)

  inside-section : length (take h.end s) ≤ length s
  inside-section =
      let z : length s ≡ length (take h.end s) + length (drop h.end s) =
      ap length (sym (take-append-drop h.end s)) ∙ length-append (take h.end s) (drop h.end s) in omega (arith, z)

  -- the first four bytes are those of the unit
  start-in : take 4 (take h.end s) ≡ take 4 s
  start-in =
      sym (take-append-le 4 (take h.end s) (drop h.end s) (omega (arith, there, length-least))) ∙ ap (take 4) (take-append-drop h.end s)

  -- the version, behind a length field of k bytes
  version-in : (k : ℕ) → length_size h.encoding ≡ k → ((0 < fixed_value big (take 2 (drop k s))) × (fixed_value big (take 2 (drop k s)) < 256)) × (k + 2 ≤ length s)
  version-in k at =
      let u : List ℕ = take h.end s in
      let n : ℕ = h.encoding.version in
      let v : fixed_at big 2 u k ≡ Some (n, cursor (k + 2)) = subst (λ (k : ℕ). fixed_at big 2 u k ≡ Some (n, cursor (k + 2))) at law.version-there in
      let there : 2 ≤ length u - k = (fixed-inside big 2 u k n (cursor (k + 2)) v).1 in
      let said : fixed_value big (take 2 (drop k u)) ≡ n = (some_pair_parts _ _ _ _ (sym (fixed-is big 2 u k (omega arith) there) ∙ v)).0 in
      let small : (0 < n) × (n < 256) = ⊎_elim (λ y. (omega (arith, y), omega (arith, y))) (λ y. (omega (arith, y), omega (arith, y))) law.known.version_is in
      let same : take 2 (drop k s) ≡ take 2 (drop k u) =
      ap (λ (z : List ℕ). take 2 (drop k z)) (sym (take-append-drop h.end s))
      ∙ ap (take 2) (drop-append-le k u (drop h.end s) (omega arith))
      ∙ take-append-le 2 (drop k u) (drop h.end s) (omega (arith, length-drop k u)) in
      let is' : fixed_value big (take 2 (drop k s)) ≡ n = ap (fixed_value big) same ∙ said in
      ((omega (arith, is', small.0), omega (arith, is', small.1)), (let z : k + 2 ≤ length s = omega (arith, inside-section) in z))

  start-four : h.encoding.offset_size ≡ 4 → fixed_value big (take 4 s) < 0xfffffff0
  start-four w = ⊎_elim (λ y. subst (λ (l : List ℕ). fixed_value big l < 0xfffffff0) start-in y.1) (λ y. absurd (omega (arith, w, y.0))) law.format

  start-eight : h.encoding.offset_size ≡ 8 → fixed_value big (take 4 s) ≡ 0xffffffff
  start-eight w = ⊎_elim (λ y. absurd (omega (arith, w, y.0))) (λ y. subst (λ (l : List ℕ). fixed_value big l ≡ 0xffffffff) start-in y.1) law.format

-- no section is read in either order: its format would be the same, and its version has two bytes that differ
not-both : (big : Bool) (s : List ℕ) (h g : UnitHeader) → HeaderLaw big (take h.end s) h → HeaderLaw (not big) (take g.end s) g → ⊥
not-both big s h g law law' =
    ⊎_elim
    (λ (a : h.encoding.offset_size ≡ 4). ⊎_elim
    (λ (b : g.encoding.offset_size ≡ 4). same 4 (ap length_bytes a ∙ four_bytes) (ap length_bytes b ∙ four_bytes))
    (λ (b : g.encoding.offset_size ≡ 8). let z : 0xffffffff ≤ fixed_value big (take 4 s) = ones-least (take 4 s) four (not big) big (start-eight (not big) s g law' b) in
    omega (arith, z, start-four big s h law a)) law'.known.offset_is)
    (λ (a : h.encoding.offset_size ≡ 8). ⊎_elim
    (λ (b : g.encoding.offset_size ≡ 4). let z : 0xffffffff ≤ fixed_value (not big) (take 4 s) = ones-least (take 4 s) four big (not big) (start-eight big s h law a) in
    omega (arith, z, start-four (not big) s g law' b))
    (λ (b : g.encoding.offset_size ≡ 8). same 12 (ap length_bytes a ∙ eight-bytes) (ap length_bytes b ∙ eight-bytes)) law'.known.offset_is)
    law.known.offset_is
  where
    four : length (take 4 s) ≡ 4
    four = length-take-le 4 s (omega (arith, there big s h law, inside-section big s h law, length-least big s h law))

    same : (k : ℕ) → length_size h.encoding ≡ k → length_size g.encoding ≡ k → ⊥
    same k p q =
        let v : ((0 < fixed_value big (take 2 (drop k s))) × (fixed_value big (take 2 (drop k s)) < 256)) × (k + 2 ≤ length s) = version-in big s h law k p in
        one-order (take 2 (drop k s)) (length-take-le 2 (drop k s) (omega (arith, length-drop k s, v.1))) big v.0 (version-in (not big) s g law' k q).0

-- a unit that is told wrongly is refused, with 1 or 2
pub told-wrongly : (big : Bool) (s : List ℕ) (h : UnitHeader) → header_of big s ≡ Ok (Some h)
    → (header_of (not big) s ≡ Err 1) ⊎ (header_of (not big) s ≡ Err 2)
told-wrongly big s h q =
    let law : HeaderLaw big (take h.end s) h = header-laws big s h q in
    header-cases (not big) s (λ r. (r ≡ Err 1) ⊎ (r ≡ Err 2))
    (λ z. absurd (omega (arith, z, there big s h law, inside-section big s h law)))
    (inl refl) (inr refl)
    (λ g law'. absurd (not-both big s h g law law'))
