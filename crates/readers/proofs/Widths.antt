-- Numbers of a fixed width, runs of bytes and strings: the steps that the cursor's loops take, and how far a read comes.
use Prim.Native.Nat.{ℕ, zero, suc, ◌+◌, ◌-◌, ◌*◌, ◌^◌, ◌≤◌, ◌<◌}
use mathlib.Core.Path.{◌≡◌, refl, ap, ap₂, sym, ◌∙◌, subst}
use mathlib.Core.Logic.{◌⊎◌, inl, inr, ⊎_elim}
use mathlib.Core.Bool.{Bool, true, false}
use Rattle.std.specs.Prelude.{None, Option, Some}
use Rattle.std.proofs.lemmas.Option.{some_pair_parts}
use mathlib.Core.List.{List, [], ◌∷◌, reverse, reverse-cons}
use native.Mathlib.Nat.{pow-suc, pow-le-pow_right}
use native.Mathlib.Numerals.{add-one}
use native.Mathlib.Omega.{arith}
use lib.ListN.{length, get_or, take, drop, length-drop, length-reverse, get_or-append, drop_of_length-le}
use lib.Seq.{drop-cons, get_or_at, get_or-take, get_or-drop, length-take-le}
use lib.Dec.{leb}
use mir.Syntax.{w32, w64}
use Rattle.std.specs.Int.{from_le_bytes, from_be_bytes}
use mir.Facts.{yes_leb, no_leb, leb_yes, leb_no, yes_eqb, no_eqb}
use Rattle.readers.specs.Choice.{pick, bind}
use Rattle.readers.proofs.Choice.{pick_yes, pick_no, check-yes, check-no, All, either}
use Rattle.readers.specs.Numbers.{little_value, ordered, fixed_value}
use Rattle.readers.proofs.Numbers.{length-ordered}
use Rattle.readers.specs.Layout.{fixed, width, number_in, string_in}
use Rattle.readers.specs.Cursors.{cursor, as_fixed, fixed_at, skip_at, as_moved, string_at}
use Rattle.readers.specs.declared.cursor.Cursor.{Cursor}

-- ---- a number of a fixed width

module _ (big : Bool) (w : ℕ) (s : List ℕ) (at : ℕ) where
  pub fixed-over : 8 < w → fixed_at big w s at ≡ None
  unfolding fixed_at number_in as_fixed
  fixed-over h = ap (as_fixed at) (check-no _ _ (no_leb {a = w} {b = 8} h))

  pub fixed-short : length s - at < w → fixed_at big w s at ≡ None
  unfolding fixed_at number_in as_fixed
  fixed-short h =
      let e : number_in big (fixed w) (drop at s) ≡ None =
      ⊎_elim
      (λ t. check-yes _ _ t ∙ check-no _ _ (no_leb {a = w} {b = length (drop at s)} (omega (arith, length-drop at s))))
      (λ t. check-no _ _ t)
      (either (leb w 8)) in
      ap (as_fixed at) e

  pub fixed-is : w ≤ 8 → w ≤ length s - at → fixed_at big w s at ≡ Some (fixed_value big (take w (drop at s)), cursor (at + w))
  unfolding fixed_at number_in as_fixed width
  fixed-is e h =
      ap (as_fixed at) (check-yes _ _ (yes_leb {a = w} {b = 8} e) ∙ check-yes _ _ (yes_leb {a = w} {b = length (drop at s)} (omega (arith, length-drop at s))))

-- a reversed list from its end
get_d_reverse : (l : List ℕ) (i j : ℕ) → i + suc j ≡ length l → get_or (reverse l) j 0 ≡ get_or l i 0
get_d_reverse [] i j e = absurd (omega arith)
get_d_reverse (x ∷ l) zero j e = rw reverse-cons (get_or_at (reverse l) x [] 0 j (let r : length (reverse l) ≡ length l = length-reverse l in omega arith))
get_d_reverse (x ∷ l) (suc i) j e =
    rw reverse-cons (get_or-append (reverse l) (x ∷ []) 0 j (let r : length (reverse l) ≡ length l = length-reverse l in omega arith)
    ∙ get_d_reverse l i j (omega arith))

-- where the byte of the turn i stands: the most significant comes first
unfoldable pub place : Bool → ℕ → ℕ → ℕ → ℕ
place big w at i = pick big (at + i) (at + (w - 1 - i))

pub place-big : (big : Bool) (w at i k : ℕ) → big ≡ true → k ≡ at + i → k ≡ place big w at i
unfolding place pick
place-big big w at i k b e = rw b e

pub place-little : (big : Bool) (w at i k : ℕ) → big ≡ false → k ≡ at + (w - 1 - i) → k ≡ place big w at i
unfolding place pick
place-little big w at i k b e = rw b e

-- the bytes of the number, from the least significant to the most
abbrev pub bytes_at : Bool → ℕ → List ℕ → ℕ → List ℕ
bytes_at big w s at = ordered big (take w (drop at s))

there : (w : ℕ) (s : List ℕ) (at : ℕ) → w ≤ length s - at → length (take w (drop at s)) ≡ w
there w s at fits = length-take-le w (drop at s) (omega (arith, length-drop at s))

length-bytes : (big : Bool) (w : ℕ) (s : List ℕ) (at : ℕ) → w ≤ length s - at → length (bytes_at big w s at) ≡ w
length-bytes big w s at fits = length-ordered big (take w (drop at s)) ∙ there w s at fits

bytes-at : (big : Bool) (w : ℕ) (s : List ℕ) (at i : ℕ) → w ≤ length s - at → i < w → get_or (bytes_at big w s at) (w - 1 - i) 0 ≡ get_or s (place big w at i) 0
unfolding ordered place pick
bytes-at true w s at i fits h =
    get_d_reverse (take w (drop at s)) i (w - 1 - i) (let l : length (take w (drop at s)) ≡ w = there w s at fits in omega arith)
    ∙ get_or-take w (drop at s) i 0 h ∙ get_or-drop at s i 0
bytes-at false w s at i fits h = get_or-take w (drop at s) (w - 1 - i) 0 (omega arith) ∙ get_or-drop at s (w - 1 - i) 0

-- The loop after i turns: the value of the i bytes that are most significant.
pub record Partial (big : Bool) (w : ℕ) (s : List ℕ) (at value i : ℕ) : Type 0 where
  pub eight : w ≤ 8
  pub fits : w ≤ length s - at
  pub few : i ≤ w
  pub is : value ≡ little_value (drop (w - i) (bytes_at big w s at))
  pub low : value < 256 ^ i

pub partial-none : (big : Bool) (w : ℕ) (s : List ℕ) (at : ℕ) → w ≤ 8 → w ≤ length s - at → Partial big w s at 0 0
unfolding little_value
partial-none big w s at e h = record {
  eight = e;
  fits = h;
  few = omega arith;
  is = sym (ap little_value (drop_of_length-le (bytes_at big w s at) {i = w - 0} (let l : length (bytes_at big w s at) ≡ w = length-bytes big w s at h in omega arith)));
  low = omega arith;
}

module _ (big : Bool) (w : ℕ) (s : List ℕ) (at value i : ℕ) (p : Partial big w s at value i) where
  pub partial-low : i < w → value < 2 ^ 56
  partial-low h = let q : 256 ^ i ≤ 256 ^ 7 = pow-le-pow_right (omega arith) {i = i} {j = 7} (omega (arith, p.eight)) in omega (arith, p.low)

  pub partial-more : (k : ℕ) → k ≡ place big w at i → i < w → get_or s k 0 < 256 → Partial big w s at (value * 256 + get_or s k 0) (i + 1)
  unfolding little_value
  partial-more k q h b =
      let l : length (bytes_at big w s at) ≡ w = length-bytes big w s at p.fits in
      let j : ℕ = w - 1 - i in
      let e : w - (i + 1) ≡ j = omega arith in
      let e' : suc j ≡ w - i = omega arith in
      let step : little_value (drop j (bytes_at big w s at)) ≡ get_or s k 0 + 256 * value =
      ap little_value (drop-cons (bytes_at big w s at) j 0 (omega arith))
      ∙ ap₂ (λ (x y : ℕ). x + 256 * y) (bytes-at big w s at i p.fits h ∙ ap (λ n. get_or s n 0) (sym q)) (ap (λ n. little_value (drop n (bytes_at big w s at))) e' ∙ sym p.is) in
      record {
        eight = p.eight;
        fits = p.fits;
        few = omega arith;
        is = rw e (omega (arith, step));
        low = rw (add-one i, pow-suc 256 i) (omega (arith, p.low));
      }

  pub partial-all : w ≤ i → Some (value, cursor (at + w)) ≡ fixed_at big w s at
  unfolding fixed_value
  partial-all h =
      let z : w - i ≡ 0 = omega arith in
      sym (fixed-is big w s at p.eight p.fits
      ∙ ap (λ v. Some (v, cursor (at + w))) (sym (p.is ∙ ap (λ n. little_value (drop n (bytes_at big w s at))) z)))

-- ---- what a number that was read says

fixed_answer : (big : Bool) (w : ℕ) (s : List ℕ) (at : ℕ) → (fixed_at big w s at ≡ None) ⊎ ((w ≤ length s - at) × (fixed_at big w s at ≡ Some (fixed_value big (take w (drop at s)), cursor (at + w))))
fixed_answer big w s at =
    ⊎_elim
    (λ e. ⊎_elim
    (λ h. inr (leb_yes {a = w} {b = length s - at} h, fixed-is big w s at (leb_yes {a = w} {b = 8} e) (leb_yes {a = w} {b = length s - at} h)))
    (λ h. inl (fixed-short big w s at (leb_no {a = w} {b = length s - at} h)))
    (either (leb w (length s - at))))
    (λ e. inl (fixed-over big w s at (leb_no {a = w} {b = 8} e)))
    (either (leb w 8))

pub fixed-inside : (big : Bool) (w : ℕ) (s : List ℕ) (at v : ℕ) (c : Cursor) → fixed_at big w s at ≡ Some (v, c) → (c.at ≡ at + w) × (w ≤ length s - at)
fixed-inside big w s at v c e =
    ⊎_elim
    (λ n. let z : ◌≡◌ {A = ℕ} 0 1 = cc in absurd (omega arith))
    (λ y. let q : c ≡ cursor (at + w) = (some_pair_parts _ _ _ _ (sym e ∙ y.1)).1 in (ap (λ (d : Cursor). d.at) q, y.0))
    (fixed_answer big w s at)

pub value-one : (big : Bool) (b : ℕ) (s : List ℕ) → fixed_value big (take 1 (b ∷ s)) ≡ b
unfolding fixed_value little_value ordered
value-one true b s = omega arith
value-one false b s = omega arith

-- one byte
pub fixed-one : (big : Bool) (s : List ℕ) (at : ℕ) → at < length s → fixed_at big 1 s at ≡ Some (get_or s at 0, cursor (at + 1))
fixed-one big s at h =
    fixed-is big 1 s at (omega arith) (omega arith)
    ∙ ap (λ v. Some (v, cursor (at + 1))) (ap (λ l. fixed_value big (take 1 l)) (drop-cons s at 0 h) ∙ value-one big (get_or s at 0) (drop (suc at) s))

pub fixed-none : (big : Bool) (s : List ℕ) (at : ℕ) → length s ≤ at → None ≡ fixed_at big 1 s at
fixed-none big s at h = sym (fixed-short big 1 s at (omega arith))

-- bytes one by one
next : (s : List ℕ) (at : ℕ) → at < length s → drop at s ≡ get_or s at 0 ∷ drop (at + 1) s
next s at h = drop-cons s at 0 h ∙ ap (λ (n : ℕ). get_or s at 0 ∷ drop n s) (sym (add-one at))

four-there : (s : List ℕ) (at : ℕ) → at + 4 ≤ length s → drop at s ≡ get_or s at 0 ∷ get_or s (at + 1) 0 ∷ get_or s (at + 2) 0 ∷ get_or s (at + 3) 0 ∷ drop (at + 4) s
four-there s at h =
    let at' : (k : ℕ) → at + k < length s → drop (at + k) s ≡ get_or s (at + k) 0 ∷ drop (at + (k + 1)) s =
    (λ (k : ℕ) (l : at + k < length s). next s (at + k) l ∙ ap (λ (n : ℕ). get_or s (at + k) 0 ∷ drop n s) (let z : at + k + 1 ≡ at + (k + 1) = omega arith in z)) in
    next s at (omega arith)
    ∙ ap (λ (t : List ℕ). get_or s at 0 ∷ t)
    (at' 1 (omega arith) ∙ ap (λ (t : List ℕ). get_or s (at + 1) 0 ∷ t) (at' 2 (omega arith) ∙ ap (λ (t : List ℕ). get_or s (at + 2) 0 ∷ t) (at' 3 (omega arith))))

-- what four bytes come to, and eight
value-four : (a b c d : ℕ) → from_le_bytes w32 (a ∷ b ∷ c ∷ d ∷ []) ≡ little_value (a ∷ b ∷ c ∷ d ∷ [])
unfolding little_value
value-four a b c d = omega arith

turned-four : (a b c d : ℕ) → from_be_bytes w32 (a ∷ b ∷ c ∷ d ∷ []) ≡ little_value (d ∷ c ∷ b ∷ a ∷ [])
unfolding little_value
turned-four a b c d = omega arith

value-eight : (a b c d e f g h : ℕ) → from_le_bytes w64 (a ∷ b ∷ c ∷ d ∷ e ∷ f ∷ g ∷ h ∷ []) ≡ little_value (a ∷ b ∷ c ∷ d ∷ e ∷ f ∷ g ∷ h ∷ [])
unfolding little_value
value-eight a b c d e f g h = omega arith

turned-eight : (a b c d e f g h : ℕ) → from_be_bytes w64 (a ∷ b ∷ c ∷ d ∷ e ∷ f ∷ g ∷ h ∷ []) ≡ little_value (h ∷ g ∷ f ∷ e ∷ d ∷ c ∷ b ∷ a ∷ [])
unfolding little_value
turned-eight a b c d e f g h = omega arith

module _ (s : List ℕ) (at : ℕ) where
  abbrev here : ℕ → ℕ
  here k = get_or s (at + k) 0

  -- a number of w bytes by what they come to
  fixed-of : (big : Bool) (w : ℕ) → w ≤ 8 → w ≤ length s - at → (l : List ℕ) → drop at s ≡ l → (v : ℕ) → v ≡ fixed_value big (take w l)
      → Some (v, cursor (at + w)) ≡ fixed_at big w s at
  fixed-of big w m h l e v q = ap (λ v. Some (v, cursor (at + w))) (q ∙ ap (λ t. fixed_value big (take w t)) (sym e)) ∙ sym (fixed-is big w s at m h)

  module _ (h : 4 ≤ length s - at) (v : ℕ) where
    abbrev four : List ℕ
    four = get_or s at 0 ∷ here 1 ∷ here 2 ∷ here 3 ∷ []

    pub four-little : (big : Bool) → big ≡ false → v ≡ from_le_bytes w32 four → Some (v, cursor (at + 4)) ≡ fixed_at big 4 s at
    unfolding fixed_value ordered
    four-little big b q =
        subst (λ x. Some (v, cursor (at + 4)) ≡ fixed_at x 4 s at) (sym b)
        (fixed-of false 4 (omega arith) h _ (four-there s at (omega arith)) v (q ∙ value-four _ _ _ _))

    pub four-big : (big : Bool) → big ≡ true → v ≡ from_be_bytes w32 four → Some (v, cursor (at + 4)) ≡ fixed_at big 4 s at
    unfolding fixed_value ordered
    four-big big b q =
        subst (λ x. Some (v, cursor (at + 4)) ≡ fixed_at x 4 s at) (sym b)
        (fixed-of true 4 (omega arith) h _ (four-there s at (omega arith)) v (q ∙ turned-four _ _ _ _))

  module _ (h : 8 ≤ length s - at) (v : ℕ) where
    abbrev eight : List ℕ
    eight = get_or s at 0 ∷ here 1 ∷ here 2 ∷ here 3 ∷ here 4 ∷ here 5 ∷ here 6 ∷ here 7 ∷ []

    eight-there : drop at s ≡ get_or s at 0 ∷ here 1 ∷ here 2 ∷ here 3 ∷ here 4 ∷ here 5 ∷ here 6 ∷ here 7 ∷ drop (at + 8) s
    eight-there =
        let past : (k : ℕ) → at + 4 + k ≡ at + (4 + k) = (λ k. omega arith) in
        four-there s at (omega arith)
        ∙ ap (λ (t : List ℕ). get_or s at 0 ∷ here 1 ∷ here 2 ∷ here 3 ∷ t)
        (four-there s (at + 4) (omega arith) ∙ rw (past 1, past 2, past 3, past 4) refl)

    pub eight-little : (big : Bool) → big ≡ false → v ≡ from_le_bytes w64 eight → Some (v, cursor (at + 8)) ≡ fixed_at big 8 s at
    unfolding fixed_value ordered
    eight-little big b q =
        subst (λ x. Some (v, cursor (at + 8)) ≡ fixed_at x 8 s at) (sym b)
        (fixed-of false 8 (omega arith) h _ eight-there v (q ∙ value-eight _ _ _ _ _ _ _ _))

    pub eight-big : (big : Bool) → big ≡ true → v ≡ from_be_bytes w64 eight → Some (v, cursor (at + 8)) ≡ fixed_at big 8 s at
    unfolding fixed_value ordered
    eight-big big b q =
        subst (λ x. Some (v, cursor (at + 8)) ≡ fixed_at x 8 s at) (sym b)
        (fixed-of true 8 (omega arith) h _ eight-there v (q ∙ turned-eight _ _ _ _ _ _ _ _))

-- ---- a run of bytes

pub skip-over : (s : List ℕ) (at n : ℕ) → length s - at < n → None ≡ skip_at s at n
unfolding skip_at
skip-over s at n h = sym (pick_no _ _ _ (no_leb {a = n} {b = length s - at} h))

pub skip-to : (s : List ℕ) (at n : ℕ) → n ≤ length s - at → Some (cursor (at + n)) ≡ skip_at s at n
unfolding skip_at
skip-to s at n h = sym (pick_yes _ _ _ (yes_leb {a = n} {b = length s - at} h))

-- ---- a string

module _ (s : List ℕ) (at : ℕ) where
  pub string-end : length s ≤ at → string_at s at ≡ None
  unfolding string_at string_in as_moved
  string-end h = rw (drop_of_length-le s h)

  pub string-zero : at < length s → get_or s at 0 ≡ 0 → string_at s at ≡ Some (cursor (at + 1))
  unfolding string_at string_in as_moved
  string-zero h z = ap (λ l. as_moved at (string_in l)) (drop-cons s at 0 h) ∙ ap (as_moved at) (pick_yes _ _ _ (yes_eqb {a = get_or s at 0} {b = 0} z))

  longer : (b : ℕ) (o : Option (List ℕ × List ℕ)) → as_moved at (bind o (λ r. Some (b ∷ r.0, r.1))) ≡ as_moved (at + 1) o
  unfolding as_moved bind
  longer b None = refl
  longer b (Some r) = ap (λ n. Some (cursor n)) (let e : at + suc (length r.0) ≡ at + 1 + length r.0 = omega arith in e)

  pub string-more : at < length s → (get_or s at 0 ≡ 0 → ⊥) → string_at s at ≡ string_at s (at + 1)
  unfolding string_at string_in
  string-more h z =
      ap (λ l. as_moved at (string_in l)) (drop-cons s at 0 h)
      ∙ ap (as_moved at) (pick_no _ _ _ (no_eqb {a = get_or s at 0} {b = 0} z))
      ∙ longer (get_or s at 0) (string_in (drop (suc at) s))
      ∙ ap (λ n. as_moved (at + 1) (string_in (drop n s))) (sym (add-one at))

moved_inside : (n at : ℕ) (c : Cursor) (o : Option (List ℕ × List ℕ)) → All (λ r. (0 < length r.0) × (length r.0 ≤ n)) o → as_moved at o ≡ Some c → (at < c.at) × (c.at ≤ at + n)
unfolding as_moved All
moved_inside n at c None q e = let z : ◌≡◌ {A = ℕ} 0 1 = cc in absurd (omega arith)
moved_inside n at c (Some r) q e =
    let k : cursor (at + length r.0) ≡ c = cc in
    let k' : at + length r.0 ≡ c.at = ap (λ (d : Cursor). d.at) k in
    (omega (arith, q.0), omega (arith, q.1))
