-- LEB128 numbers, read byte by byte, and what their readers take. Assumes nothing.
use mathlib.Core.Path.{◌≡◌, refl, ap, ap₂, sym, ◌∙◌, subst}
use Prim.Native.Nat.{ℕ, zero, suc, ◌+◌, ◌*◌, ◌-◌, ◌^◌, ◌/◌, ◌%◌, ◌≤◌, ◌<◌}
use native.Mathlib.Omega.{arith}
use native.Mathlib.Numerals.{add-one}
use native.Mathlib.Nat.{pow-suc, pow-le-pow_right, mul-le-mul_right}
use mathlib.Core.Logic.{⊎_elim}
use mathlib.Core.List.{List, [], ◌∷◌}
use Rattle.std.specs.Prelude.{None, Option, Some}
use Rattle.std.proofs.lemmas.Option.{same_Some, some_pair_parts}
use Rattle.readers.specs.declared.cursor.Groups.{Groups}
use Rattle.readers.specs.Cursors.{whole_groups}
use lib.ListN.{length, drop, get_or, drop_of_length-le, length-drop}
use lib.Seq.{drop-cons, drop-drop, get_or-drop}
use lib.Dec.{T, ltb}
use lib.Pow.{are_bytes}
use mir.Syntax.{w8}
use mir.Val.{Fits}
use mir.Facts.{yes_ltb, no_ltb, ltb_yes, ltb_no, yes_leb, no_leb, yes_eqb, no_eqb, yes_and}
use Rattle.readers.specs.Choice.{check, bind}
use Rattle.readers.proofs.Choice.{pick_yes, pick_no, check-yes, check-no, bind-at, bind-none, bind-bind, bind-ext, either, All, all_of, all-some, all-pick, all-bind, all-triv}
use Rattle.readers.specs.Numbers.{Groups as Read, groups, below, uleb, unsigned64, sleb, signed64, negative}
use Rattle.readers.proofs.Numbers.{GroupsLaw, groups-law, ExactGroups, groups-exact}
use Rattle.readers.specs.Layout.{short, within16, forms_in, after_form}
use Rattle.readers.proofs.LayoutLaws.{LebLaw, uleb-law, sleb-law, short-law, forms-step, FormsLaw, forms-law}
use Rattle.readers.specs.Cursors.{cursor, groups_at, as_groups, leb_at, as_leb_number, forms_at, as_form_number}
use Rattle.readers.specs.declared.cursor.Cursor.{Cursor}

-- ---- a number that is being read: k bytes are behind, which came to v, and at most j are left

unfoldable pub onto : ℕ → ℕ → Read → Option Read
onto k v t = Some (k + t.0, v + t.1 * 128 ^ k, t.2)

unfoldable pub pending : ℕ → ℕ → ℕ → List ℕ → Option Read
pending j k v s = bind (groups j s) (onto k v)

spread : (v c t p : ℕ) → v + (c + 128 * t) * p ≡ v + c * p + t * (p * 128)
spread v c t p = omega arith

bind-below : (o : Option Read) (b k v : ℕ) → bind (bind o (below b)) (onto k v) ≡ bind o (onto (suc k) (v + (b - 128) * 128 ^ k))
unfolding bind below onto
bind-below None b k v = refl
bind-below (Some t) b k v =
    ap₂ (λ (x y : ℕ). Some (x, y, t.2)) (omega arith) (rw (pow-suc 128 k) (spread v (b - 128) t.1 (128 ^ k)))

onto-nothing : (o : Option Read) → o ≡ bind o (onto 0 0)
unfolding bind onto
onto-nothing None = refl
onto-nothing (Some t) = ap₂ (λ (x y : ℕ). Some (x, y, t.2)) (omega arith) (omega arith)

-- a byte that says that another follows
turn : (s : List ℕ) (i j k v : ℕ) → i < length s → 128 ≤ get_or s i 0
    → pending (suc j) k v (drop i s) ≡ pending j (k + 1) (v + (get_or s i 0 - 128) * 128 ^ k) (drop (i + 1) s)
unfolding pending groups
turn s i j k v h lo =
    rw (drop-cons s i 0 h, add-one i, add-one k)
    (ap (λ o. bind o (onto k v)) (pick_no _ _ _ (no_ltb {a = get_or s i 0} {b = 128} lo))
    ∙ bind-below (groups j (drop (suc i) s)) (get_or s i 0) k v)

-- the last byte
last : (s : List ℕ) (i j k v : ℕ) → i < length s → get_or s i 0 < 128
    → pending (suc j) k v (drop i s) ≡ Some (k, v + get_or s i 0 * 128 ^ k, drop (i + 1) s)
unfolding pending groups onto
last s i j k v h lo =
    rw (drop-cons s i 0 h, add-one i)
    (bind-at (onto k v) (pick_yes _ _ _ (yes_ltb {a = get_or s i 0} {b = 128} lo))
    ∙ ap (λ (x : ℕ). Some (x, v + get_or s i 0 * 128 ^ k, drop (suc i) s)) (omega arith))

-- nothing left
stops : (s : List ℕ) (i j k v : ℕ) → length s ≤ i → pending j k v (drop i s) ≡ None
unfolding pending bind groups
stops s i j k v h = rw (drop_of_length-le s h) (nil j)
  where
    nil : (j : ℕ) → bind (groups j []) (onto k v) ≡ None
    nil zero = refl
    nil (suc j) = refl

-- a tenth byte that says that another follows
tenth : (s : List ℕ) (i v : ℕ) → i < length s → 128 ≤ get_or s i 0 → pending 1 9 v (drop i s) ≡ None
unfolding pending groups bind
tenth s i v h lo =
    rw (drop-cons s i 0 h)
    (ap (λ o. bind o (onto 9 v)) (pick_no _ _ _ (no_ltb {a = get_or s i 0} {b = 128} lo)))

-- a number of one byte
module _ (s : List ℕ) (at : ℕ) (h : at < length s) (lo : get_or s at 0 < 128) where
  one-group : (k : ℕ) → groups (suc k) (drop at s) ≡ Some (0, get_or s at 0, drop (suc at) s)
  unfolding groups
  one-group k = rw (drop-cons s at 0 h) (pick_yes _ _ _ (yes_ltb {a = get_or s at 0} {b = 128} lo))

  pub uleb-one : Some (get_or s at 0, cursor (at + 1)) ≡ leb_at uleb s at
  unfolding leb_at uleb as_leb_number unsigned64
  uleb-one = sym (ap (as_leb_number at) (bind-at unsigned64 (one-group 9) ∙ check-yes _ _ (yes_ltb {a = get_or s at 0} {b = 2 ^ 64} (omega arith))))

  pub short-one : Some (get_or s at 0, cursor (at + 1)) ≡ leb_at short s at
  unfolding leb_at short as_leb_number within16
  short-one = sym (ap (as_leb_number at) (bind-at within16 (one-group 2) ∙ check-yes _ _ (yes_ltb {a = get_or s at 0} {b = 2 ^ 16} (omega arith))))

  -- as a signed number: bit 6 is the sign
  pub sleb-one : get_or s at 0 < 64 → Some (get_or s at 0, cursor (at + 1)) ≡ leb_at sleb s at
  unfolding leb_at sleb as_leb_number signed64 negative
  sleb-one up =
      sym (ap (as_leb_number at) (bind-at signed64 (one-group 9)
      ∙ pick_no _ _ _ (no_leb {a = 64} {b = get_or s at 0} up)
      ∙ check-yes _ _ (yes_ltb {a = get_or s at 0} {b = 2 ^ 63} (omega arith))))

  pub sleb-one-minus : 64 ≤ get_or s at 0 → Some (2 ^ 64 - 128 + get_or s at 0, cursor (at + 1)) ≡ leb_at sleb s at
  unfolding leb_at sleb as_leb_number signed64 negative
  sleb-one-minus down =
      sym (ap (as_leb_number at) (bind-at signed64 (one-group 9)
      ∙ pick_yes _ _ _ (yes_leb {a = 64} {b = get_or s at 0} down)
      ∙ check-yes _ _ (yes_leb {a = 128} {b = get_or s at 0 + 2 ^ 63} (omega arith)))
      ∙ ap (λ (v : ℕ). Some (v, cursor (at + 1))) (let e : get_or s at 0 + 2 ^ 64 - 128 ≡ 2 ^ 64 - 128 + get_or s at 0 = omega arith in e))

-- the loop's invariant: k bytes from `from` on are behind
pub record Reading (s : List ℕ) (from low weight k : ℕ) : Type 0 where
  pub few : k ≤ 9
  pub power : weight ≡ 128 ^ k
  pub small : low < 128 ^ k
  pub answer : groups 10 (drop from s) ≡ pending (10 - k) k low (drop (from + k) s)

pub begins : (s : List ℕ) (at : ℕ) → Reading s at 0 1 0
unfolding pending
begins s at =
    record {
      few = omega arith;
      power = refl;
      small = omega arith;
      answer = onto-nothing (groups 10 (drop at s)) ∙ ap (λ i. pending 10 0 0 (drop i s)) (let e : at ≡ at + 0 = omega arith in e);
    }

module _ (s : List ℕ) (from low weight k : ℕ) (r : Reading s from low weight k) where
  -- one more group has room
  pub room : k < 9 → (b : ℕ) → b < 128 → low + b * weight < 2 ^ 63
  room h b hb =
      let e : weight ≡ 128 ^ k = r.power in
      let h8 : k ≤ 8 = omega arith in
      let m : 128 ^ k ≤ 128 ^ 8 = pow-le-pow_right {n = 128} (omega arith) h8 in
      let p : b * weight ≤ 127 * weight = mul-le-mul_right weight (omega arith) in
      omega arith

  pub more : k < 9 → from + k < length s → 128 ≤ get_or s (from + k) 0 → get_or s (from + k) 0 < 256
      → Reading s from (low + (get_or s (from + k) 0 - 128) * weight) (weight * 128) (k + 1)
  more hk hi lo up =
      let b : ℕ = get_or s (from + k) 0 in
      let e : weight ≡ 128 ^ k = r.power in
      let p : (b - 128) * weight ≤ 127 * weight = mul-le-mul_right weight (omega arith) in
      let j : 10 - k ≡ suc (10 - (k + 1)) = omega arith in
      let q : 128 ^ (k + 1) ≡ 128 ^ k * 128 = ap (λ x. 128 ^ x) (add-one k) ∙ pow-suc 128 k in
      record {
        few = omega arith;
        power = omega arith;
        small = omega arith;
        answer = r.answer ∙ ap (λ x. pending x k low (drop (from + k) s)) j ∙ turn s (from + k) (10 - (k + 1)) k low hi lo
            ∙ ap (λ x. pending (10 - (k + 1)) (k + 1) (low + (b - 128) * x) (drop (from + k + 1) s)) (sym e)
            ∙ ap (λ i. pending (10 - (k + 1)) (k + 1) (low + (b - 128) * weight) (drop i s)) (let a : from + k + 1 ≡ from + (k + 1) = omega arith in a);
      }

  pub ends-short : length s ≤ from + k → None ≡ groups_at s from
  unfolding groups_at as_groups
  ends-short h = sym (ap (as_groups from) (r.answer ∙ stops s (from + k) (10 - k) k low h))

  found : from + k < length s → get_or s (from + k) 0 < 128
      → groups 10 (drop from s) ≡ Some (k, low + get_or s (from + k) 0 * weight, drop (from + k + 1) s)
  found hi lo =
      let j : 10 - k ≡ suc (9 - k) = (let f : k ≤ 9 = r.few in omega arith) in
      r.answer ∙ ap (λ x. pending x k low (drop (from + k) s)) j ∙ last s (from + k) (9 - k) k low hi lo
      ∙ ap (λ (x : ℕ). Some (k, low + get_or s (from + k) 0 * x, drop (from + k + 1) s)) (sym r.power)

  -- what was found, in its two parts
  split : (h l : ℕ) → from + k < length s → get_or s (from + k) 0 < 128 → low + get_or s (from + k) 0 * weight ≡ l + h * 2 ^ 63 → l < 2 ^ 63
      → whole_groups l h weight (cursor (from + k + 1)) ≡ groups_at s from
  unfolding groups_at as_groups
  split h l hi lo e hl =
      let v : ℕ = low + get_or s (from + k) 0 * weight in
      let e1 : l ≡ v % 2 ^ 63 = omega arith in
      let e2 : h ≡ v / 2 ^ 63 = omega arith in
      let e3 : from + k + 1 ≡ from + suc k = omega arith in
      ap (λ x. whole_groups x h weight (cursor (from + k + 1))) e1
      ∙ ap (λ x. whole_groups (v % 2 ^ 63) x weight (cursor (from + k + 1))) e2
      ∙ ap (λ x. whole_groups (v % 2 ^ 63) (v / 2 ^ 63) x (cursor (from + k + 1))) r.power
      ∙ ap (λ x. whole_groups (v % 2 ^ 63) (v / 2 ^ 63) (128 ^ k) (cursor x)) e3
      ∙ sym (ap (as_groups from) (found hi lo))

  pub ends-well : k < 9 → from + k < length s → get_or s (from + k) 0 < 128
      → whole_groups (low + get_or s (from + k) 0 * weight) 0 weight (cursor (from + k + 1)) ≡ groups_at s from
  ends-well hk hi lo = split 0 (low + get_or s (from + k) 0 * weight) hi lo (omega arith) (room hk (get_or s (from + k) 0) lo)

  -- the tenth byte
  module _ (n : k ≡ 9) where
    pub ends-tenth : from + 9 < length s → get_or s (from + 9) 0 < 128 → whole_groups low (get_or s (from + 9) 0) weight (cursor (from + 10)) ≡ groups_at s from
    ends-tenth hi lo =
        let w : weight ≡ 2 ^ 63 = r.power ∙ ap (λ x. 128 ^ x) n in
        let m : low < 2 ^ 63 = subst (λ x. low < 128 ^ x) n r.small in
        let e : get_or s (from + 9) 0 ≡ get_or s (from + k) 0 = ap (λ x. get_or s (from + x) 0) (sym n) in
        let a : from + 10 ≡ from + k + 1 = omega arith in
        ap₂ (λ x y. whole_groups low x weight (cursor y)) e a
        ∙ split (get_or s (from + k) 0) low (omega arith) (omega arith) (ap (λ x. low + get_or s (from + k) 0 * x) w) m

    pub ends-long : from + 9 < length s → 128 ≤ get_or s (from + 9) 0 → None ≡ groups_at s from
    unfolding groups_at as_groups
    ends-long hi lo = sym (ap (as_groups from) (r.answer ∙ ap (λ x. pending (10 - x) x low (drop (from + x) s)) n ∙ tenth s (from + 9) low hi lo))

-- ---- what a reader makes of the groups

-- that a slice holds bytes
abbrev pub Bytes : List ℕ → Type 0
Bytes s = (i : ℕ) → Fits w8 (get_or s i 0)

are-bytes : (s : List ℕ) → Bytes s → T (are_bytes s)
are-bytes [] h = tt
are-bytes (b ∷ s) h = yes_and (ltb b 256) (are_bytes s) (yes_ltb (h 0).fits) (are-bytes s (λ i. h (suc i)))

pub bytes-from : (s : List ℕ) (at : ℕ) → Bytes s → Bytes (drop at s)
bytes-from s at h i = rw (get_or-drop at s i 0) (h (at + i))

-- what groups that are whole say of the number that was read
pub record GroupsFound (s : List ℕ) (at low high weight : ℕ) (next : Cursor) : Type 0 where
  pub count : ℕ
  pub value : ℕ
  pub rest : List ℕ
  pub read : groups 10 (drop at s) ≡ Some (count, value, rest)
  pub parts : value ≡ low + high * 2 ^ 63
  pub small : low < 2 ^ 63
  pub power : weight ≡ 128 ^ count
  pub past : next ≡ cursor (at + suc count)
  pub few : count < 10
  pub fits : value < 128 ^ suc count

module _ (s : List ℕ) (at low high weight : ℕ) (next : Cursor) (h : Bytes s) where
  found_in : (o : Option Read) → groups 10 (drop at s) ≡ o → as_groups at o ≡ whole_groups low high weight next → GroupsFound s at low high weight next
  unfolding as_groups
  found_in None e g = let z : ◌≡◌ {A = ℕ} 0 1 = cc in absurd (omega arith)
  found_in (Some t) e g =
      let made = same_Some _ _ g in
      let e1 : t.1 % 2 ^ 63 ≡ low = ap (λ x. x.low) made in
      let e2 : t.1 / 2 ^ 63 ≡ high = ap (λ x. x.high) made in
      let e3 : 128 ^ t.0 ≡ weight = ap (λ x. x.weight) made in
      let e4 : cursor (at + suc t.0) ≡ next = ap (λ x. x.next) made in
      let law : GroupsLaw 10 (drop at s) t = all_of (GroupsLaw 10 (drop at s)) (groups-law 10 (drop at s)) e in
      let exact : ExactGroups (drop at s) t = all_of (ExactGroups (drop at s)) (groups-exact 10 (drop at s) (are-bytes (drop at s) (bytes-from s at h))) e in
      record {
        count = t.0;
        value = t.1;
        rest = t.2;
        read = e;
        parts = omega arith;
        small = omega arith;
        power = sym e3;
        past = sym e4;
        few = law.0;
        fits = exact.1;
      }

  pub whole : (r : Option Groups) → r ≡ groups_at s at → r ≡ whole_groups low high weight next → GroupsFound s at low high weight next
  unfolding groups_at
  whole r e g = found_in (groups 10 (drop at s)) refl (sym e ∙ g)

pub nowhere : (s : List ℕ) (at : ℕ) (r : Option Groups) → r ≡ groups_at s at → r ≡ None → groups 10 (drop at s) ≡ None
unfolding groups_at as_groups
nowhere s at r e g = none_in (groups 10 (drop at s)) (sym e ∙ g)
  where
    none_in : (o : Option Read) → as_groups at o ≡ None → o ≡ None
    none_in None k = refl
    none_in (Some t) k = let z : ◌≡◌ {A = ℕ} 0 1 = cc in absurd (omega arith)

-- the answer of a reader
is_none : (R : List ℕ → Option Read) (s : List ℕ) (at : ℕ) → R (drop at s) ≡ None → None ≡ leb_at R s at
unfolding leb_at as_leb_number
is_none R s at e = sym (ap (as_leb_number at) e)

is_some : (R : List ℕ → Option Read) (s : List ℕ) (at n v : ℕ) (rest : List ℕ) (next : Cursor) → next ≡ cursor (at + suc n) → R (drop at s) ≡ Some (n, v, rest)
    → Some (v, next) ≡ leb_at R s at
unfolding leb_at as_leb_number
is_some R s at n v rest next p e = ap (λ c. Some (v, c)) p ∙ sym (ap (as_leb_number at) e)

-- no groups, no number
pub uleb-none : (s : List ℕ) (at : ℕ) (r : Option Groups) → r ≡ groups_at s at → r ≡ None → None ≡ leb_at uleb s at
unfolding uleb
uleb-none s at r e g = is_none uleb s at (bind-none _ (nowhere s at r e g))

pub sleb-none : (s : List ℕ) (at : ℕ) (r : Option Groups) → r ≡ groups_at s at → r ≡ None → None ≡ leb_at sleb s at
unfolding sleb
sleb-none s at r e g = is_none sleb s at (bind-none _ (nowhere s at r e g))

power-back : (n m : ℕ) → 128 ^ n < 128 ^ m → n < m
power-back n m h =
    ⊎_elim
    (λ u. ltb_yes u)
    (λ u. absurd (let g : 128 ^ m ≤ 128 ^ n = pow-le-pow_right {n = 128} (omega arith) (ltb_no u) in omega arith))
    (either (ltb n m))

-- the two signs of a signed number, and where it does not fit
module _ (n v : ℕ) (rest : List ℕ) where
  signed_up : v < 64 * 128 ^ n → v < 2 ^ 63 → signed64 (n, v, rest) ≡ Some (n, v, rest)
  unfolding signed64 negative
  signed_up h k = pick_no _ _ _ (no_leb {a = 64 * 128 ^ n} {b = v} h) ∙ check-yes _ _ (yes_ltb {a = v} {b = 2 ^ 63} k)

  signed-up-no : v < 64 * 128 ^ n → 2 ^ 63 ≤ v → signed64 (n, v, rest) ≡ None
  unfolding signed64 negative
  signed-up-no h k = pick_no _ _ _ (no_leb {a = 64 * 128 ^ n} {b = v} h) ∙ check-no _ _ (no_ltb {a = v} {b = 2 ^ 63} k)

  signed-down : 64 * 128 ^ n ≤ v → 128 ^ suc n ≤ v + 2 ^ 63 → signed64 (n, v, rest) ≡ Some (n, v + 2 ^ 64 - 128 ^ suc n, rest)
  unfolding signed64 negative
  signed-down h k =
      pick_yes _ _ _ (yes_leb {a = 64 * 128 ^ n} {b = v} h) ∙ check-yes _ _ (yes_leb {a = 128 ^ suc n} {b = v + 2 ^ 63} k)

  signed-down-no : 64 * 128 ^ n ≤ v → v + 2 ^ 63 < 128 ^ suc n → signed64 (n, v, rest) ≡ None
  unfolding signed64 negative
  signed-down-no h k =
      pick_yes _ _ _ (yes_leb {a = 64 * 128 ^ n} {b = v} h) ∙ check-no _ _ (no_leb {a = 128 ^ suc n} {b = v + 2 ^ 63} k)

module _ (s : List ℕ) (at low high weight : ℕ) (next : Cursor) (f : GroupsFound s at low high weight next) where
  -- unsigned

  pub uleb-yes : high < 2 → Some (low + high * 2 ^ 63, next) ≡ leb_at uleb s at
  unfolding uleb unsigned64
  uleb-yes h =
      let small : f.value < 2 ^ 64 = omega arith in
      is_some uleb s at f.count (low + high * 2 ^ 63) f.rest next f.past
      (bind-at _ f.read ∙ check-yes _ _ (yes_ltb {a = f.value} {b = 2 ^ 64} small) ∙ ap (λ (x : ℕ). Some (f.count, x, f.rest)) f.parts)

  pub uleb-no : 2 ≤ high → None ≡ leb_at uleb s at
  unfolding uleb unsigned64
  uleb-no h =
      let large : 2 ^ 64 ≤ f.value = omega arith in
      is_none uleb s at (bind-at _ f.read ∙ check-no _ _ (no_ltb {a = f.value} {b = 2 ^ 64} large))

  -- signed, in ten bytes

  module _ (ten : weight ≡ 2 ^ 63) where
    nine : f.count ≡ 9
    nine =
        let p : weight ≡ 128 ^ f.count = f.power in
        let n : 8 < f.count = power-back 8 f.count (omega arith) in
        let m : f.count < 10 = f.few in
        omega arith

    signed_of : (o : Option Read) → signed64 (9, f.value, f.rest) ≡ o → sleb (drop at s) ≡ o
    unfolding sleb
    signed_of o e = bind-at signed64 f.read ∙ ap (λ (x : ℕ). signed64 (x, f.value, f.rest)) nine ∙ e

    past-ten : next ≡ cursor (at + suc 9)
    past-ten = f.past ∙ ap (λ x. cursor (at + suc x)) nine

    pub sleb-up : high ≡ 0 → Some (low, next) ≡ leb_at sleb s at
    sleb-up h =
        let e : f.value ≡ low = (let p : f.value ≡ low + high * 2 ^ 63 = f.parts in omega arith) in
        is_some sleb s at 9 low f.rest next past-ten
        (signed_of _ (signed_up 9 f.value f.rest (omega arith) (omega arith) ∙ ap (λ (x : ℕ). Some (9, x, f.rest)) e))

    pub sleb-down : high ≡ 127 → Some (low + 2 ^ 63, next) ≡ leb_at sleb s at
    sleb-down h =
        let e : f.value + 2 ^ 64 - 128 ^ 10 ≡ low + 2 ^ 63 = omega arith in
        is_some sleb s at 9 (low + 2 ^ 63) f.rest next past-ten
        (signed_of _ (signed-down 9 f.value f.rest (omega arith) (omega arith) ∙ ap (λ (x : ℕ). Some (9, x, f.rest)) e))

    pub sleb-no : (high ≡ 0 → ⊥) → (high ≡ 127 → ⊥) → None ≡ leb_at sleb s at
    sleb-no h k =
        let v : f.value < 128 ^ 10 = subst (λ x. f.value < 128 ^ suc x) nine f.fits in
        ⊎_elim
        (λ u.
        let l : high < 64 = ltb_yes u in
        let z : 0 < high = ⊎_elim (λ w. ltb_yes w) (λ w. absurd (h (let g : high ≤ 0 = ltb_no w in omega arith))) (either (ltb 0 high)) in
        is_none sleb s at (signed_of None (signed-up-no 9 f.value f.rest (omega arith) (omega arith))))
        (λ u.
        let l : 64 ≤ high = ltb_no u in
        let z : high < 127 = ⊎_elim (λ w. ltb_yes w) (λ w. absurd (k (let g : 127 ≤ high = ltb_no w in omega arith))) (either (ltb high 127)) in
        is_none sleb s at (signed_of None (signed-down-no 9 f.value f.rest (omega arith) (omega arith))))
        (either (ltb high 64))

  -- signed, in fewer

  module _ (less : weight ≡ 2 ^ 63 → ⊥) where
    most : f.count ≤ 8
    most =
        ⊎_elim
        (λ u. let g : f.count < 9 = ltb_yes u in omega arith)
        (λ u. absurd (less (f.power ∙ ap (λ x. 128 ^ x) (let g : 9 ≤ f.count = ltb_no u in let m : f.count < 10 = f.few in let e : f.count ≡ 9 = omega arith in e))))
        (either (ltb f.count 9))

    -- the number's weight, and its room
    pub light : (128 * weight ≤ 2 ^ 63) × (low < 128 * weight) × (f.value ≡ low) × (128 ^ suc f.count ≡ 128 * weight)
    light =
        let p : weight ≡ 128 ^ f.count = f.power in
        let q : 128 ^ suc f.count ≡ 128 ^ f.count * 128 = pow-suc 128 f.count in
        let m : 128 ^ f.count ≤ 128 ^ 8 = pow-le-pow_right {n = 128} (omega arith) most in
        let v : f.value < 128 ^ suc f.count = f.fits in
        (omega arith, omega arith, omega arith, omega arith)

    pub sleb-plus : low < 64 * weight → Some (low, next) ≡ leb_at sleb s at
    unfolding sleb
    sleb-plus h =
        let l = light in
        let p : weight ≡ 128 ^ f.count = f.power in
        is_some sleb s at f.count low f.rest next f.past
        (bind-at signed64 f.read ∙ signed_up f.count f.value f.rest (omega arith) (omega arith) ∙ ap (λ (x : ℕ). Some (f.count, x, f.rest)) l.2)

    pub sleb-minus : 64 * weight ≤ low → Some (2 ^ 64 - 1 - 128 * weight + 1 + low, next) ≡ leb_at sleb s at
    unfolding sleb
    sleb-minus h =
        let l = light in
        let p : weight ≡ 128 ^ f.count = f.power in
        let e : f.value + 2 ^ 64 - 128 ^ suc f.count ≡ 2 ^ 64 - 1 - 128 * weight + 1 + low = omega arith in
        is_some sleb s at f.count (2 ^ 64 - 1 - 128 * weight + 1 + low) f.rest next f.past
        (bind-at signed64 f.read ∙ signed-down f.count f.value f.rest (omega arith) (omega arith) ∙ ap (λ (x : ℕ). Some (f.count, x, f.rest)) e)

-- ---- what an answer says of the number that was read

pub record Got (R : List ℕ → Option Read) (s : List ℕ) (at v : ℕ) (next : Cursor) : Type 0 where
  pub count : ℕ
  pub rest : List ℕ
  pub read : R (drop at s) ≡ Some (count, v, rest)
  pub past : next.at ≡ at + suc count

pub leb-got : (R : List ℕ → Option Read) (s : List ℕ) (at v : ℕ) (next : Cursor) → leb_at R s at ≡ Some (v, next) → Got R s at v next
unfolding leb_at as_leb_number
leb-got R s at v next g = got (R (drop at s)) refl g
  where
    got : (o : Option Read) → R (drop at s) ≡ o → as_leb_number at o ≡ Some (v, next) → Got R s at v next
    got None e k = let z : ◌≡◌ {A = ℕ} 0 1 = cc in absurd (omega arith)
    got (Some t) e k =
        let e1 : t.1 ≡ v = (some_pair_parts _ _ _ _ k).0 in
        let e2 : cursor (at + suc t.0) ≡ next = (some_pair_parts _ _ _ _ k).1 in
        record { count = t.0; rest = t.2; read = e ∙ ap (λ (x : ℕ). Some (t.0, x, t.2)) e1; past = ap (λ (x : Cursor). x.at) (sym e2) }

pub leb-nothing : (R : List ℕ → Option Read) (s : List ℕ) (at : ℕ) → leb_at R s at ≡ None → R (drop at s) ≡ None
unfolding leb_at as_leb_number
leb-nothing R s at g = nothing (R (drop at s)) g
  where
    nothing : (o : Option Read) → as_leb_number at o ≡ None → o ≡ None
    nothing None k = refl
    nothing (Some t) k = let z : ◌≡◌ {A = ℕ} 0 1 = cc in absurd (omega arith)

-- a number that was read takes bytes, and they are there
pub leb-inside : (R : List ℕ → Option Read) → ((s : List ℕ) → All (LebLaw R s) (R s))
    → (s : List ℕ) (at v : ℕ) (next : Cursor) → leb_at R s at ≡ Some (v, next) → (at < next.at) × (next.at ≤ length s)
leb-inside R law s at v next g =
    let f : Got R s at v next = leb-got R s at v next g in
    let q : LebLaw R (drop at s) (f.count, v, f.rest) = all_of (LebLaw R (drop at s)) (law (drop at s)) f.read in
    let l : suc f.count ≤ length (drop at s) = q.0.0 in
    (omega arith, omega (arith, length-drop at s))

pub uleb-inside : (s : List ℕ) (at v : ℕ) (next : Cursor) → leb_at uleb s at ≡ Some (v, next) → (at < next.at) × (next.at ≤ length s)
uleb-inside = leb-inside uleb uleb-law

pub sleb-inside : (s : List ℕ) (at v : ℕ) (next : Cursor) → leb_at sleb s at ≡ Some (v, next) → (at < next.at) × (next.at ≤ length s)
sleb-inside = leb-inside sleb sleb-law

pub short-inside : (s : List ℕ) (at v : ℕ) (next : Cursor) → leb_at short s at ≡ Some (v, next) → (at < next.at) × (next.at ≤ length s)
short-inside = leb-inside short short-law

-- ---- a number in at most three bytes and 16 bits, byte by byte

-- a byte that says that another follows
next-group : (s : List ℕ) (at i k : ℕ) → i ≡ at + 1 → at < length s → 128 ≤ get_or s at 0
    → groups (suc k) (drop at s) ≡ bind (groups k (drop i s)) (below (get_or s at 0))
unfolding groups
next-group s at i k e h hi = rw (e, drop-cons s at 0 h, add-one at) (pick_no _ _ _ (no_ltb {a = get_or s at 0} {b = 128} hi))

-- nothing left
no-group : (s : List ℕ) (at k : ℕ) → length s ≤ at → groups k (drop at s) ≡ None
unfolding groups
no-group s at k h = rw (drop_of_length-le s h) (nil k)
  where
    nil : (k : ℕ) → groups k [] ≡ None
    nil zero = refl
    nil (suc k) = refl

nothing : (s : List ℕ) (f : Read → Option Read) → bind (groups 0 s) f ≡ None
unfolding bind groups
nothing s f = refl

pub short-end : (s : List ℕ) (at : ℕ) → length s ≤ at → None ≡ leb_at short s at
unfolding short
short-end s at h = is_none short s at (bind-none within16 (no-group s at 3 h))

module _ (s : List ℕ) (at : ℕ) (h : at < length s) (hi : 128 ≤ get_or s at 0) (up : get_or s at 0 < 256) (i : ℕ) (e : i ≡ at + 1) where
  -- two bytes
  pub short-cut : length s ≤ i → None ≡ leb_at short s at
  unfolding short
  short-cut l = is_none short s at (bind-none within16 (next-group s at i 2 e h hi ∙ bind-none (below (get_or s at 0)) (no-group s i 2 l)))

  module _ (l : i < length s) where
    pub short-two : get_or s i 0 < 128 → Some (get_or s at 0 - 128 + 128 * get_or s i 0, cursor (at + 2)) ≡ leb_at short s at
    unfolding short within16 below
    short-two lo =
        let v : ℕ = get_or s at 0 - 128 + 128 * get_or s i 0 in
        let two : groups 3 (drop at s) ≡ Some (1, v, drop (suc i) s) = next-group s at i 2 e h hi ∙ bind-at (below (get_or s at 0)) (one-group s i l lo 1) in
        is_some short s at 1 v (drop (suc i) s) (cursor (at + 2)) (ap cursor (let a : at + 2 ≡ at + suc 1 = omega arith in a))
        (bind-at within16 two ∙ check-yes _ _ (yes_ltb {a = v} {b = 2 ^ 16} (omega arith)))

    -- three bytes
    module _ (hi₁ : 128 ≤ get_or s i 0) (up₁ : get_or s i 0 < 256) (j : ℕ) (e₁ : j ≡ i + 1) where
      by-third : (o : Option Read) → groups 1 (drop j s) ≡ o → groups 3 (drop at s) ≡ bind (bind o (below (get_or s i 0))) (below (get_or s at 0))
      by-third o q =
          next-group s at i 2 e h hi
          ∙ ap (λ o. bind o (below (get_or s at 0))) (next-group s i j 1 e₁ l hi₁ ∙ ap (λ o. bind o (below (get_or s i 0))) q)

      pub short-cut-2 : length s ≤ j → None ≡ leb_at short s at
      unfolding short bind
      short-cut-2 m = is_none short s at (bind-none within16 (by-third None (no-group s j 1 m)))

      module _ (m : j < length s) where
        abbrev v : ℕ
        v = get_or s at 0 - 128 + 128 * (get_or s i 0 - 128 + 128 * get_or s j 0)

        three : get_or s j 0 < 128 → groups 3 (drop at s) ≡ Some (2, v, drop (suc j) s)
        unfolding bind below
        three lo = by-third (Some (0, get_or s j 0, drop (suc j) s)) (one-group s j m lo 0)

        pub short-three : get_or s j 0 < 4 → Some (v, cursor (at + 3)) ≡ leb_at short s at
        unfolding short within16
        short-three lo =
            is_some short s at 2 v (drop (suc j) s) (cursor (at + 3)) (ap cursor (let a : at + 3 ≡ at + suc 2 = omega arith in a))
            (bind-at within16 (three (omega arith)) ∙ check-yes _ _ (yes_ltb {a = v} {b = 2 ^ 16} (omega arith)))

        pub short-over : 4 ≤ get_or s j 0 → None ≡ leb_at short s at
        unfolding short within16 bind
        short-over k =
            ⊎_elim
            (λ u. is_none short s at (bind-at within16 (three (ltb_yes u)) ∙ check-no _ _ (no_ltb {a = v} {b = 2 ^ 16} (omega arith))))
            (λ u. is_none short s at (bind-none within16 (by-third None (next-group s j (j + 1) 0 refl m (ltb_no u) ∙ nothing (drop (j + 1) s) (below (get_or s j 0))))))
            (either (ltb (get_or s j 0) 128))

-- ---- what a short number is, by the number in at most ten bytes and 64 bits; no body is proved by these laws

-- at most k bytes are those of more that are at most k
unfoldable fewer : ℕ → Read → Option Read
fewer k t = check (ltb t.0 k) (Some t)

fewer-yes : (k : ℕ) (t : Read) → t.0 < k → fewer k t ≡ Some t
unfolding fewer
fewer-yes k t h = check-yes _ _ (yes_ltb {a = t.0} {b = k} h)

fewer-no : (k : ℕ) (t : Read) → k ≤ t.0 → fewer k t ≡ None
unfolding fewer
fewer-no k t h = check-no _ _ (no_ltb {a = t.0} {b = k} h)

fewer-below : (k b : ℕ) (t : Read) → bind (fewer k t) (below b) ≡ bind (below b t) (fewer (suc k))
unfolding below
fewer-below k b t =
    let more : Read = (suc t.0, b - 128 + 128 * t.1, t.2) in
    ⊎_elim
    (λ u. bind-at (below b) (fewer-yes k t (ltb_yes u)) ∙ sym (bind-at (fewer (suc k)) refl ∙ fewer-yes (suc k) more (let g : t.0 < k = ltb_yes u in omega arith)))
    (λ u. bind-none (below b) (fewer-no k t (ltb_no u)) ∙ sym (bind-at (fewer (suc k)) refl ∙ fewer-no (suc k) more (let g : k ≤ t.0 = ltb_no u in omega arith)))
    (either (ltb t.0 k))

none-fewer : (o : Option Read) → None ≡ bind o (fewer 0)
unfolding bind
none-fewer None = refl
none-fewer (Some t) = sym (fewer-no 0 t (omega arith))

groups-fewer : (k m : ℕ) → k ≤ m → (s : List ℕ) → groups k s ≡ bind (groups m s) (fewer k)
unfolding groups
groups-fewer zero m h s = none-fewer (groups m s)
groups-fewer (suc k) zero h s = absurd (omega arith)
groups-fewer (suc k) (suc m) h [] = sym (bind-none (fewer (suc k)) refl)
groups-fewer (suc k) (suc m) h (b ∷ s) =
    ⊎_elim
    (λ u. pick_yes _ _ _ u ∙ sym (bind-at (fewer (suc k)) (pick_yes _ _ _ u) ∙ fewer-yes (suc k) (0, b, s) (omega arith)))
    (λ u.
    pick_no _ _ _ u
    ∙ ap (λ o. bind o (below b)) (groups-fewer k m (omega arith) s)
    ∙ bind-bind (groups m s) (fewer k) (below b)
    ∙ bind-ext (groups m s) _ _ (fewer-below k b)
    ∙ sym (bind-bind (groups m s) (below b) (fewer (suc k)))
    ∙ ap (λ o. bind o (fewer (suc k))) (sym (pick_no _ _ _ u)))
    (either (ltb b 128))

uleb-groups : (o : Option Read) (t : Read) → bind o unsigned64 ≡ Some t → o ≡ Some t
unfolding bind unsigned64
uleb-groups None t e = let z : ◌≡◌ {A = ℕ} 0 1 = cc in absurd (omega arith)
uleb-groups (Some u) t e =
    ⊎_elim
    (λ y. sym (check-yes _ _ y) ∙ e)
    (λ y. let n : None ≡ Some t = sym (check-no _ (Some u) y) ∙ e in let z : ◌≡◌ {A = ℕ} 0 1 = cc in absurd (omega arith))
    (either (ltb u.1 (2 ^ 64)))

within16-over : (t : Read) → 2 ^ 16 ≤ t.1 → within16 t ≡ None
unfolding within16
within16-over t h = check-no _ _ (no_ltb {a = t.1} {b = 2 ^ 16} h)

over-either : (t : Read) → 2 ^ 16 ≤ t.1 → bind (fewer 3 t) within16 ≡ None
over-either t h =
    ⊎_elim
    (λ y. bind-at within16 (fewer-yes 3 t (ltb_yes y)) ∙ within16-over t h)
    (λ y. bind-none within16 (fewer-no 3 t (ltb_no y)))
    (either (ltb t.0 3))

short-by : (s : List ℕ) → short s ≡ bind (bind (groups 10 s) (fewer 3)) within16
unfolding short
short-by s = ap (λ o. bind o within16) (groups-fewer 3 10 (omega arith) s)

-- where that can't be read
pub short_none : (s : List ℕ) (at : ℕ) → leb_at uleb s at ≡ None → None ≡ leb_at short s at
unfolding uleb bind unsigned64
short_none s at g = is_none short s at (short-by (drop at s) ∙ over (groups 10 (drop at s)) (leb-nothing uleb s at g))
  where
    over : (o : Option Read) → bind o unsigned64 ≡ None → bind (bind o (fewer 3)) within16 ≡ None
    over None e = refl
    over (Some t) e =
        ⊎_elim
        (λ y. let n : Some t ≡ None = sym (check-yes _ (Some t) y) ∙ e in let z : ◌≡◌ {A = ℕ} 0 1 = cc in absurd (omega arith))
        (λ y. let l : 2 ^ 64 ≤ t.1 = ltb_no y in over-either t (omega arith))
        (either (ltb t.1 (2 ^ 64)))

module _ (s : List ℕ) (at v : ℕ) (next : Cursor) (g : leb_at uleb s at ≡ Some (v, next)) where
  of_groups : Got uleb s at v next
  of_groups = leb-got uleb s at v next g

  ten-groups : groups 10 (drop at s) ≡ Some (of_groups.count, v, of_groups.rest)
  unfolding uleb
  ten-groups = uleb-groups (groups 10 (drop at s)) _ of_groups.read

  pub short-yes : next.at - at ≤ 3 → v < 65536 → Some (v, next) ≡ leb_at short s at
  unfolding within16
  short-yes h k =
      let p : next.at ≡ at + suc of_groups.count = of_groups.past in
      is_some short s at of_groups.count v of_groups.rest next (ap cursor p)
      (short-by (drop at s)
      ∙ bind-at within16 (bind-at (fewer 3) ten-groups ∙ fewer-yes 3 (of_groups.count, v, of_groups.rest) (omega arith))
      ∙ check-yes _ _ (yes_ltb {a = v} {b = 2 ^ 16} k))

  pub short-long : 3 < next.at - at → None ≡ leb_at short s at
  short-long h =
      let p : next.at ≡ at + suc of_groups.count = of_groups.past in
      is_none short s at
      (short-by (drop at s) ∙ bind-none within16 (bind-at (fewer 3) ten-groups ∙ fewer-no 3 (of_groups.count, v, of_groups.rest) (omega arith)))

  pub short-no : 65536 ≤ v → None ≡ leb_at short s at
  short-no k =
      is_none short s at (short-by (drop at s) ∙ ap (λ o. bind o within16) (bind-at (fewer 3) ten-groups) ∙ over-either (of_groups.count, v, of_groups.rest) k)

-- ---- the form numbers of DW_FORM_indirect

-- past the first, the answer is that of the others
forms-shift : (at n v : ℕ) (rest : List ℕ) (o : Option (ℕ × ℕ)) → as_form_number at (bind o (after_form (n, v, rest))) ≡ as_form_number (at + suc n) o
unfolding as_form_number bind after_form
forms-shift at n v rest None = refl
forms-shift at n v rest (Some r) = ap (λ x. Some (r.1, cursor x)) (omega arith)

module _ (s : List ℕ) (at v : ℕ) (next : Cursor) where
  pub forms-more : leb_at short s at ≡ Some (v, next) → v ≡ 0x16 → forms_at s at ≡ forms_at s next.at
  unfolding forms_at
  forms-more g e =
      let f : Got short s at v next = leb-got short s at v next g in
      let q : LebLaw short (drop at s) (f.count, v, f.rest) = all_of (LebLaw short (drop at s)) (short-law (drop at s)) f.read in
      let there : f.rest ≡ drop next.at s = q.0.1 ∙ drop-drop (suc f.count) at s ∙ ap (λ x. drop x s) (sym f.past) in
      ap (as_form_number at) (forms-step (drop at s) ∙ bind-at _ f.read ∙ pick_yes _ _ _ (yes_eqb e))
      ∙ forms-shift at f.count v f.rest (forms_in f.rest)
      ∙ ap₂ (λ (x : ℕ) (y : List ℕ). as_form_number x (forms_in y)) (sym f.past) there

  pub forms-last : leb_at short s at ≡ Some (v, next) → (v ≡ 0x16 → ⊥) → Some (v, next) ≡ forms_at s at
  unfolding forms_at as_form_number
  forms-last g e =
      let f : Got short s at v next = leb-got short s at v next g in
      let c : next ≡ cursor (at + suc f.count) = ap cursor f.past in
      ap (λ c. Some (v, c)) c ∙ sym (ap (as_form_number at) (forms-step (drop at s) ∙ bind-at _ f.read ∙ pick_no _ _ _ (no_eqb e)))

pub forms-none : (s : List ℕ) (at : ℕ) → leb_at short s at ≡ None → None ≡ forms_at s at
unfolding forms_at as_form_number
forms-none s at g = sym (ap (as_form_number at) (forms-step (drop at s) ∙ bind-none _ (leb-nothing short s at g)))

forms-some : (s : List ℕ) → All (λ r. 0 < r.0) (forms_in s)
unfolding after_form
forms-some s =
    subst (All (λ r. 0 < r.0)) (sym (forms-step s))
    (all-bind _ _ (short s) _ (all-triv (short s))
    (λ t e _. all-pick _ _ _ _
    (λ u. all-bind _ _ (forms_in t.2) _ (all-triv (forms_in t.2)) (λ r e' _. all-some (λ (r : ℕ × ℕ). 0 < r.0) (omega arith)))
    (λ u. all-some (λ (r : ℕ × ℕ). 0 < r.0) (omega arith))))

pub forms-inside : (s : List ℕ) (at v : ℕ) (next : Cursor) → forms_at s at ≡ Some (v, next) → (at < next.at) × (next.at ≤ length s)
unfolding forms_at as_form_number
forms-inside s at v next g = inside (forms_in (drop at s)) refl g
  where
    inside : (o : Option (ℕ × ℕ)) → forms_in (drop at s) ≡ o → as_form_number at o ≡ Some (v, next) → (at < next.at) × (next.at ≤ length s)
    inside None e k = let z : ◌≡◌ {A = ℕ} 0 1 = cc in absurd (omega arith)
    inside (Some r) e k =
        let c : cursor (at + r.0) ≡ next = (some_pair_parts _ _ _ _ k).1 in
        let p : at + r.0 ≡ next.at = ap (λ (x : Cursor). x.at) c in
        let l : r.0 ≤ length (drop at s) = (all_of (FormsLaw (drop at s)) (forms-law (drop at s)) e).0 in
        let z : 0 < r.0 = all_of (λ (r : ℕ × ℕ). 0 < r.0) (forms-some (drop at s)) e in
        (omega arith, omega (arith, length-drop at s))
