-- Bytes that a loop writes one after the other, at the start of a part or, from its end, in the middle of it.
use Prim.Native.Nat.{ℕ, zero, suc, ◌+◌, ◌-◌, ◌*◌, ◌^◌, ◌/◌, ◌%◌, ◌≤◌, ◌<◌}
use mathlib.Core.Path.{◌≡◌, refl, ap, ap₂, sym, ◌∙◌, subst}
use mathlib.Core.Bool.{Bool, true, false}
use mathlib.Core.Logic.{⊎_elim}
use mathlib.Core.List.{List, [], ◌∷◌, ◌++◌, append-nil, reverse, reverse-cons}
use native.Mathlib.Nat.{pow-suc, div-lt_iff_lt-mul}
use native.Mathlib.Numerals.{add-one}
use native.Mathlib.Omega.{arith}
use lib.ListN.{length, get_or, take, drop, set, length-append, length-drop, length-set, drop_of_length-le, take-append-drop}
use lib.Seq.{drop-cons, take-suc, take_at, set_at, append_snoc, length-take-le}
use lib.Dec.{ltb, leb}
use mir.Facts.{ltb_yes, ltb_no}
use borrow.Author.Tests.{lt-ltb, le-ltb, le-leb, lt-leb, ltb-true, leb-true}
use Rattle.readers.specs.Choice.{pick, ◌and◌, zeros, put}
use Rattle.readers.proofs.Choice.{either}
use Rattle.readers.specs.Numbers.{padded, little_bytes, ordered, fixed_bytes}
use Rattle.readers.proofs.Numbers.{length-padded, length-fixed}
use Rattle.rewriting.specs.Written.{groups_fit, padded_answer, padded_out, over, put_in, number_at, value_or, number_there}
use Rattle.rewriting.specs.Inner.Written.{bytes_fit, number_fits, unfit, Put}
use Rattle.readers.specs.Layout.{number_bytes}
use Rattle.readers.specs.References.{encoded_by}
use Rattle.readers.specs.Cursors.{fixed_at}
use Rattle.readers.proofs.Widths.{fixed-is}
use Rattle.readers.specs.declared.cursor.Cursor.{Cursor}
use Rattle.std.specs.Prelude.{None, Option, Some, Err, Ok, Result}

-- ---- from the start of a part

-- After i bytes: what is written, then tail, is the whole; what is written stands at the start of the part.
pub record Putting (whole out₀ tail out : List ℕ) (i : ℕ) : Type 0 where
  pub done : List ℕ
  pub size : length done ≡ i
  pub all : done ++ tail ≡ whole
  pub out-is : out ≡ done ++ drop i out₀
  pub inside : i ≤ length out₀
  pub same : length out ≡ length out₀

pub putting-start : (whole out : List ℕ) → Putting whole out whole out 0
putting-start whole out = record { done = []; size = refl; all = refl; out-is = refl; inside = omega arith; same = refl }

pub putting-more : (whole out₀ tail out : List ℕ) (i b : ℕ) → i < length out₀ → Putting whole out₀ (b ∷ tail) out i → Putting whole out₀ tail (set out i b) (i + 1)
putting-more whole out₀ tail out i b h p =
    record {
      done = p.done ++ (b ∷ []);
      size = length-append p.done (b ∷ []) ∙ ap (λ n. n + 1) p.size;
      all = append_snoc p.done b tail ∙ p.all;
      out-is =
          ap (λ l. set l i b) (p.out-is ∙ ap (λ l. p.done ++ l) (drop-cons out₀ i 0 h))
          ∙ set_at p.done (get_or out₀ i 0) (drop (suc i) out₀) b i p.size
          ∙ sym (append_snoc p.done b (drop (suc i) out₀))
          ∙ ap (λ n. (p.done ++ (b ∷ [])) ++ drop n out₀) (sym (add-one i));
      inside = omega arith;
      same = length-set out i b ∙ p.same;
    }

pub putting-done : (whole out₀ out : List ℕ) (i n : ℕ) → length whole ≡ n → Putting whole out₀ [] out i → out ≡ whole ++ drop n out₀
putting-done whole out₀ out i n l p =
    let e : p.done ≡ whole = sym (append-nil p.done) ∙ p.all in
    let k : i ≡ n = sym p.size ∙ ap length e ∙ l in
    p.out-is ∙ ap₂ (λ x m. x ++ drop m out₀) e k

-- ---- zeros

pub drop-zeros : (n width : ℕ) → drop width (zeros n) ≡ zeros (n - width)
drop-zeros n zero = ap (λ m. zeros m) (let e : n ≡ n - 0 = omega arith in e)
drop-zeros zero (suc width) = ap (λ m. zeros m) (let e : 0 ≡ 0 - suc width = omega arith in e)
drop-zeros (suc n) (suc width) = drop-zeros n width ∙ ap (λ m. zeros m) (let e : n - width ≡ suc n - suc width = omega arith in e)

-- ---- a run of bytes

pub copy_more : (bytes out₀ out : List ℕ) (i : ℕ) → i < length bytes → length bytes ≤ length out₀ → Putting bytes out₀ (drop i bytes) out i
    → Putting bytes out₀ (drop (i + 1) bytes) (set out i (get_or bytes i 0)) (i + 1)
copy_more bytes out₀ out i h l p =
    putting-more bytes out₀ (drop (i + 1) bytes) out i (get_or bytes i 0) (omega arith)
    (subst (λ t. Putting bytes out₀ t out i) (drop-cons bytes i 0 h ∙ ap (λ n. get_or bytes i 0 ∷ drop n bytes) (sym (add-one i))) p)

pub copy_done : (bytes out₀ out : List ℕ) (i : ℕ) → length bytes ≤ i → Putting bytes out₀ (drop i bytes) out i → out ≡ bytes ++ drop (length bytes) out₀
copy_done bytes out₀ out i h p =
    putting-done bytes out₀ out i (length bytes) refl (subst (λ t. Putting bytes out₀ t out i) (drop_of_length-le bytes {i = i} h) p)

-- ---- digits

-- a number of at most suc k digits, and what is left of it without the lowest
pub digits-less : (base v k : ℕ) → 0 < base → ltb v (base ^ suc k) ≡ ltb (v / base) (base ^ k)
digits-less base v k h =
    ⊎_elim
    (λ t. let l : v < base ^ k * base = rw (← pow-suc base k) (ltb_yes {a = v} {b = base ^ suc k} t) in
    lt-ltb v (base ^ suc k) (ltb_yes t) ∙ sym (lt-ltb (v / base) (base ^ k) ((div-lt_iff_lt-mul h).1 l)))
    (λ t. let l : base ^ suc k ≤ v = ltb_no {a = v} {b = base ^ suc k} t in
    le-ltb v (base ^ suc k) l ∙ sym (le-ltb (v / base) (base ^ k)
    (⊎_elim (λ u. let m : v < base ^ k * base = (div-lt_iff_lt-mul h).0 (ltb_yes {a = v / base} {b = base ^ k} u) in absurd (omega (arith, pow-suc base k)))
    (λ u. ltb_no {a = v / base} {b = base ^ k} u) (either (ltb (v / base) (base ^ k))))))
    (either (ltb v (base ^ suc k)))

-- after i turns: what is left has at most width - i digits where the number has at most width
pub record Shortened (base value width rest i : ℕ) : Type 0 where
  pub few : i ≤ width
  pub same : ltb value (base ^ width) ≡ ltb rest (base ^ (width - i))

pub shortened-more : (base value width rest i : ℕ) → 0 < base → i < width → Shortened base value width rest i → Shortened base value width (rest / base) (i + 1)
shortened-more base value width rest i b h p =
    record {
      few = omega arith;
      same = p.same ∙ ap (λ n. ltb rest (base ^ n)) (let e : width - i ≡ suc (width - (i + 1)) = omega arith in e) ∙ digits-less base rest (width - (i + 1)) b;
    }

-- ---- what is answered

pub and_first : (a b : Bool) → a ≡ false → (a and b) ≡ false
unfolding ◌and◌
and_first a b e = rw e

pub and_second : (a b : Bool) → b ≡ false → (a and b) ≡ false
unfolding ◌and◌
and_second true b e = e
and_second false b e = refl

pub true-first : (a b : Bool) → (a and b) ≡ true → a ≡ true
unfolding ◌and◌
true-first true b e = refl
true-first false b e = e

pub true-second : (a b : Bool) → (a and b) ≡ true → b ≡ true
unfolding ◌and◌
true-second true b e = e
true-second false b e = let z : ◌≡◌ {A = ℕ} 0 1 = cc in absurd (omega arith)

pub refused : (fit : Bool) (bytes : List ℕ) (width : ℕ) (out other : List ℕ) → fit ≡ false → Put fit bytes width out other false other
unfolding pick
refused fit bytes width out other e = record { told = sym e; left = rw e }

pub accepted : (fit : Bool) (bytes : List ℕ) (width : ℕ) (out other after : List ℕ) → fit ≡ true → after ≡ bytes ++ drop width out → Put fit bytes width out other true after
unfolding pick
accepted fit bytes width out other after e h = record { told = sym e; left = rw e h }

module _ (value width n : ℕ) where
  pub groups_none : width ≡ 0 → groups_fit value width n ≡ false
  unfolding groups_fit
  groups_none e = and_first _ _ (le-ltb 0 width (omega arith))

  pub groups-over : 10 < width → groups_fit value width n ≡ false
  unfolding groups_fit
  groups-over h = and_second (ltb 0 width) _ (and_first _ _ (lt-leb width 10 h))

  pub groups-beyond : n < width → groups_fit value width n ≡ false
  unfolding groups_fit
  groups-beyond h = and_second (ltb 0 width) _ (and_second (leb width 10) _ (and_first _ _ (lt-leb width n h)))

  pub groups-rest : (width ≡ 0 → ⊥) → width ≤ 10 → width ≤ n → groups_fit value width n ≡ ltb value (128 ^ width)
  unfolding groups_fit ◌and◌
  groups-rest z t h = rw (lt-ltb 0 width (omega arith), le-leb width 10 t, le-leb width n h)

  -- what is known of a number that fits
  pub fit-some : groups_fit value width n ≡ true → 0 < width
  unfolding groups_fit
  fit-some e = ltb-true 0 width (true-first _ _ e)

  pub fit-room : groups_fit value width n ≡ true → width ≤ n
  unfolding groups_fit
  fit-room e = leb-true width n (true-first _ _ (true-second (leb width 10) _ (true-second (ltb 0 width) _ e)))

  pub groups-room : width ≤ n → groups_fit value width width ≡ groups_fit value width n
  unfolding groups_fit
  groups-room h = ap (λ b. ltb 0 width and leb width 10 and b and ltb value (128 ^ width)) (le-leb width width (omega arith) ∙ sym (le-leb width n h))

  pub fit_low : groups_fit value width n ≡ true → value < 128 ^ width
  unfolding groups_fit
  fit_low e = ltb-true value (128 ^ width) (true-second (leb width n) _ (true-second (leb width 10) _ (true-second (ltb 0 width) _ e)))

  pub fit_length : groups_fit value width n ≡ true → length (padded (width - 1) value) ≡ width
  fit_length e =
      let s : 0 < width = fit-some e in
      length-padded (width - 1) value ∙ (let g : suc (width - 1) ≡ width = omega arith in g)

  pub bytes-over : 8 < width → bytes_fit value width n ≡ false
  unfolding bytes_fit
  bytes-over h = and_first _ _ (lt-leb width 8 h)

  pub bytes-beyond : n < width → bytes_fit value width n ≡ false
  unfolding bytes_fit
  bytes-beyond h = and_second (leb width 8) _ (and_first _ _ (lt-leb width n h))

  pub bytes-room : bytes_fit value width n ≡ true → width ≤ n
  unfolding bytes_fit
  bytes-room e = leb-true width n (true-first _ _ (true-second (leb width 8) _ e))

  pub bytes_low : bytes_fit value width n ≡ true → value < 256 ^ width
  unfolding bytes_fit
  bytes_low e = ltb-true value (256 ^ width) (true-second (leb width n) _ (true-second (leb width 8) _ e))

  pub bytes_rest : width ≤ 8 → width ≤ n → bytes_fit value width n ≡ ltb value (256 ^ width)
  unfolding bytes_fit ◌and◌
  bytes_rest t h = rw (le-leb width 8 t, le-leb width n h)

-- in any part that has room for it
pub bytes-else : (value width n m : ℕ) → width ≤ m → bytes_fit value width n ≡ true → bytes_fit value width m ≡ true
unfolding bytes_fit
bytes-else value width n m h e =
    ap (λ b. leb width 8 and b and ltb value (256 ^ width)) (le-leb width m h ∙ sym (le-leb width n (bytes-room value width n e))) ∙ e

-- ---- a ULEB128 number

-- After i bytes: what is left of the number, in the bytes that are left.
pub record Grouping (value last : ℕ) (out₀ : List ℕ) (rest i : ℕ) (out : List ℕ) : Type 0 where
  pub few : i ≤ last
  pub room : last < length out₀
  pub low : rest < 128 ^ suc (last - i)
  pub putting : Putting (padded last value) out₀ (padded (last - i) rest) out i

pub grouping-start : (value width : ℕ) (out : List ℕ) → groups_fit value width (length out) ≡ true → Grouping value (width - 1) out value 0 out
grouping-start value width out fit =
    let s : 0 < width = fit-some value width (length out) fit in
    let r : width ≤ length out = fit-room value width (length out) fit in
    let e : width ≡ suc (width - 1 - 0) = omega arith in
    let k : width - 1 ≡ width - 1 - 0 = omega arith in
    record {
      few = omega arith;
      room = omega arith;
      low = subst (λ n. value < 128 ^ n) e (fit_low value width (length out) fit);
      putting = subst (λ n. Putting (padded (width - 1) value) out (padded n value) out 0) k (putting-start (padded (width - 1) value) out);
    }

pub grouping-more : (value last : ℕ) (out₀ : List ℕ) (rest i : ℕ) (out : List ℕ) → i < last → Grouping value last out₀ rest i out
    → Grouping value last out₀ (rest / 128) (i + 1) (set out i (rest % 128 + 128))
unfolding padded
grouping-more value last out₀ rest i out h p =
    let k : ℕ = last - (i + 1) in
    let e : last - i ≡ suc k = omega arith in
    let b : 128 + rest % 128 ≡ rest % 128 + 128 = omega arith in
    record {
      few = omega arith;
      room = p.room;
      low = (let l : rest < 128 ^ suc (suc k) = subst (λ n. rest < 128 ^ suc n) e p.low in omega arith);
      putting = putting-more (padded last value) out₀ (padded k (rest / 128)) out i (rest % 128 + 128) (omega (arith, p.room))
          (subst (λ (t : List ℕ). Putting (padded last value) out₀ t out i) (ap (λ n. padded n rest) e ∙ ap (λ (x : ℕ). x ∷ padded k (rest / 128)) b) p.putting);
    }

-- the last byte
grouping-end : (value last : ℕ) (out₀ : List ℕ) (rest i : ℕ) (out : List ℕ) → last ≤ i → Grouping value last out₀ rest i out → last - i ≡ 0
grouping-end value last out₀ rest i out h p = let f : i ≤ last = p.few in omega arith

pub grouping-low : (value last : ℕ) (out₀ : List ℕ) (rest i : ℕ) (out : List ℕ) → last ≤ i → Grouping value last out₀ rest i out → rest < 128
grouping-low value last out₀ rest i out h p =
    let l : rest < 128 ^ suc 0 = subst (λ n. rest < 128 ^ suc n) (grouping-end value last out₀ rest i out h p) p.low in omega arith

pub grouping-room : (value last : ℕ) (out₀ : List ℕ) (rest i : ℕ) (out : List ℕ) → Grouping value last out₀ rest i out → i < length out
grouping-room value last out₀ rest i out p = let f : i ≤ last = p.few in omega (arith, p.room, p.putting.same)

pub grouping-done : (value width : ℕ) (out₀ : List ℕ) (rest i : ℕ) (out : List ℕ) → groups_fit value width (length out₀) ≡ true
    → width - 1 ≤ i → Grouping value (width - 1) out₀ rest i out → set out (width - 1) rest ≡ padded (width - 1) value ++ drop width out₀
unfolding padded
grouping-done value width out₀ rest i out fit h p =
    let bytes : List ℕ = padded (width - 1) value in
    let f : i ≤ width - 1 = p.few in
    let e : width - 1 ≡ i = omega arith in
    ap (λ n. set out n rest) e
    ∙ putting-done bytes out₀ (set out i rest) (i + 1) width (fit_length value width (length out₀) fit)
    (putting-more bytes out₀ [] out i rest (omega (arith, p.room))
    (subst (λ n. Putting bytes out₀ (padded n rest) out i) (grouping-end value (width - 1) out₀ rest i out h p) p.putting))

-- ---- a little-endian number

pub record Fixing (value width : ℕ) (out₀ : List ℕ) (rest i : ℕ) (out : List ℕ) : Type 0 where
  pub few : i ≤ width
  pub putting : Putting (fixed_bytes false width value) out₀ (little_bytes (width - i) rest) out i

pub fixing-start : (value width : ℕ) (out : List ℕ) → Fixing value width out value 0 out
unfolding fixed_bytes ordered
fixing-start value width out =
    let e : width ≡ width - 0 = omega arith in
    record { few = omega arith; putting = subst (λ n. Putting (little_bytes width value) out (little_bytes n value) out 0) e (putting-start (little_bytes width value) out) }

pub fixing-more : (value width : ℕ) (out₀ : List ℕ) (rest i : ℕ) (out : List ℕ) → width ≤ length out₀ → i < width → Fixing value width out₀ rest i out
    → Fixing value width out₀ (rest / 256) (i + 1) (set out i (rest % 256))
unfolding little_bytes
fixing-more value width out₀ rest i out r h p =
    let k : ℕ = width - (i + 1) in
    let e : width - i ≡ suc k = omega arith in
    record {
      few = omega arith;
      putting = putting-more (fixed_bytes false width value) out₀ (little_bytes k (rest / 256)) out i (rest % 256) (omega arith)
          (subst (λ n. Putting (fixed_bytes false width value) out₀ (little_bytes n rest) out i) e p.putting);
    }

pub fixing-done : (value width : ℕ) (out₀ : List ℕ) (rest i : ℕ) (out : List ℕ) → width ≤ i → Fixing value width out₀ rest i out
    → out ≡ fixed_bytes false width value ++ drop width out₀
unfolding little_bytes
fixing-done value width out₀ rest i out h p =
    let e : width - i ≡ 0 = omega arith in
    putting-done (fixed_bytes false width value) out₀ out i width (length-fixed false width value)
    (subst (λ n. Putting (fixed_bytes false width value) out₀ (little_bytes n rest) out i) e p.putting)

-- ---- a number in its order

pub fixed-written : (value width : ℕ) (big order : Bool) (out after : List ℕ) → big ≡ order → bytes_fit value width (length out) ≡ true
    → after ≡ fixed_bytes order width value ++ drop width out
    → Put (bytes_fit value width (length out)) (fixed_bytes big width value) width out out true after
fixed-written value width big order out after e fit h =
    accepted _ _ _ _ _ _ fit (h ∙ ap (λ b. fixed_bytes b width value ++ drop width out) (sym e))

-- ---- a big-endian number in the middle of a table, from its last byte on

pub record Backing (value at width : ℕ) (s₀ s : List ℕ) (rest i : ℕ) : Type 0 where
  pub room : at + width ≤ length s₀
  pub done : List ℕ
  pub size : i + length done ≡ width
  pub all : reverse (little_bytes i rest) ++ done ≡ fixed_bytes true width value
  pub s-is : s ≡ take (at + i) s₀ ++ (done ++ drop (at + width) s₀)
  pub same : length s ≡ length s₀

pub backing-start : (value at width : ℕ) (s : List ℕ) → at + width ≤ length s → Backing value at width s s value width
unfolding fixed_bytes ordered
backing-start value at width s h =
    record {
      room = h;
      done = [];
      size = let e : width + 0 ≡ width = omega arith in e;
      all = append-nil (reverse (little_bytes width value));
      s-is = sym (take-append-drop (at + width) s);
      same = refl;
    }

backing-next : (value at width : ℕ) (s₀ s : List ℕ) (rest j : ℕ) → Backing value at width s₀ s rest (suc j)
    → Backing value at width s₀ (set s (at + j) (rest % 256)) (rest / 256) j
unfolding little_bytes
backing-next value at width s₀ s rest j p =
    let h : at + j < length s₀ = (let r : at + width ≤ length s₀ = p.room in let z : suc j + length p.done ≡ width = p.size in omega arith) in
    let e : at + suc j ≡ suc (at + j) = omega arith in
    let after : List ℕ = p.done ++ drop (at + width) s₀ in
    record {
      room = p.room;
      done = rest % 256 ∷ p.done;
      size = (let z : suc j + length p.done ≡ width = p.size in let g : j + suc (length p.done) ≡ width = omega arith in g);
      all = sym (append_snoc (reverse (little_bytes j (rest / 256))) (rest % 256) p.done)
          ∙ ap (λ l. l ++ p.done) (sym (reverse-cons (rest % 256) (little_bytes j (rest / 256)))) ∙ p.all;
      s-is =
          ap (λ l. set l (at + j) (rest % 256)) (p.s-is ∙ ap (λ n. take n s₀ ++ after) e ∙ ap (λ l. l ++ after) (take-suc s₀ (at + j) 0 h) ∙ append_snoc (take (at + j) s₀) (get_or s₀ (at + j) 0) after)
          ∙ set_at (take (at + j) s₀) (get_or s₀ (at + j) 0) after (rest % 256) (at + j) (length-take-le (at + j) s₀ (omega arith));
      same = length-set s (at + j) (rest % 256) ∙ p.same;
    }

pub backing-more : (value at width : ℕ) (s₀ s : List ℕ) (rest i : ℕ) → 0 < i → Backing value at width s₀ s rest i
    → Backing value at width s₀ (set s (at + (i - 1)) (rest % 256)) (rest / 256) (i - 1)
backing-more value at width s₀ s rest i h p =
    backing-next value at width s₀ s rest (i - 1) (subst (λ n. Backing value at width s₀ s rest n) (let e : i ≡ suc (i - 1) = omega arith in e) p)

pub backing-done : (value at width : ℕ) (s₀ s : List ℕ) (rest i : ℕ) → i ≤ 0 → Backing value at width s₀ s rest i
    → s ≡ put s₀ at (fixed_bytes true width value)
unfolding put little_bytes
backing-done value at width s₀ s rest i h p =
    let q : Backing value at width s₀ s rest 0 = subst (λ n. Backing value at width s₀ s rest n) (let e : i ≡ 0 = omega arith in e) p in
    let e : q.done ≡ fixed_bytes true width value = q.all in
    q.s-is ∙ ap (λ n. take n s₀ ++ (q.done ++ drop (at + width) s₀)) (let e : at + 0 ≡ at = omega arith in e)
    ∙ ap₂ (λ l n. take at s₀ ++ (l ++ drop (at + n) s₀)) e (sym (length-fixed true width value))

pub put-none : (value at width : ℕ) (s : List ℕ) → length s < at + width → s ≡ put_in s at (fixed_bytes true width value)
unfolding put_in pick
put-none value at width s h =
    sym (ap (λ b. pick b (put s at (fixed_bytes true width value)) s) (lt-leb (at + length (fixed_bytes true width value)) (length s) (omega (arith, length-fixed true width value))))

pub put_all : (value at width : ℕ) (s after : List ℕ) → at + width ≤ length s → after ≡ put s at (fixed_bytes true width value) → after ≡ put_in s at (fixed_bytes true width value)
unfolding put_in pick
put_all value at width s after h q =
    q ∙ sym (ap (λ b. pick b (put s at (fixed_bytes true width value)) s) (le-leb (at + length (fixed_bytes true width value)) (length s) (omega (arith, length-fixed true width value))))

pub put-room : (value at width : ℕ) (s after : List ℕ) → after ≡ put_in s at (fixed_bytes true width value) → at + width ≤ length s → after ≡ put s at (fixed_bytes true width value)
unfolding put_in pick
put-room value at width s after q h =
    q ∙ ap (λ b. pick b (put s at (fixed_bytes true width value)) s) (le-leb (at + length (fixed_bytes true width value)) (length s) (omega (arith, length-fixed true width value)))

-- at the start of a part
pub put_first : (value width : ℕ) (s after : List ℕ) → after ≡ put_in s 0 (fixed_bytes true width value) → width ≤ length s
    → after ≡ fixed_bytes true width value ++ drop width s
unfolding put
put_first value width s after q h =
    put-room value 0 width s after q (omega arith)
    ∙ ap (λ n. fixed_bytes true width value ++ drop n s)
    (let e : 0 + length (fixed_bytes true width value) ≡ width = omega (arith, length-fixed true width value) in e)

-- ---- a big-endian number that is read

module _ (w : ℕ) (s : List ℕ) (at : ℕ) (o : Option (ℕ × Cursor)) (q : o ≡ fixed_at true w s at) where
  pub read-value : (v : ℕ) (c : Cursor) → o ≡ Some (v, c) → v ≡ number_there w s at
  unfolding number_there value_or
  read-value v c g = sym (ap value_or (sym q ∙ g))

  pub read-nothing : o ≡ None → 0 ≡ number_there w s at
  unfolding number_there value_or
  read-nothing g = sym (ap value_or (sym q ∙ g))

-- where it is there
pub big-endian-there : (w : ℕ) (s : List ℕ) (at v : ℕ) → v ≡ number_there w s at → w ≤ 8 → at + w ≤ length s → v ≡ number_at w s at
unfolding number_there value_or number_at
big-endian-there w s at v q e h = q ∙ ap value_or (fixed-is true w s at e (omega arith))

-- ---- a padded number in a part of its own, a number in its own encoding

module _ (value width : ℕ) (out out' : List ℕ) (r : Bool) (p : Put (groups_fit value width (length out)) (padded (width - 1) value) width out out r out') where
  groups-done : r ≡ true → groups_fit value width (length out) ≡ true
  groups-done t = sym p.told ∙ t

  sized : r ≡ true → length (padded (width - 1) value) ≡ width
  sized t = fit_length value width (length out) (groups-done t)

  whole : r ≡ true → out' ≡ padded (width - 1) value ++ drop width out
  unfolding pick
  whole t = p.left ∙ ap (λ b. pick b (padded (width - 1) value ++ drop width out) out) (groups-done t)

  groups-same : r ≡ true → length out' ≡ length out
  groups-same t =
      let i : width ≤ length out = fit-room value width (length out) (groups-done t) in
      omega (arith, ap length (whole t), length-append (padded (width - 1) value) (drop width out), sized t, length-drop width out)

  pub groups-inside : r ≡ true → width ≤ length out'
  groups-inside t = omega (arith, groups-same t, fit-room value width (length out) (groups-done t))

  -- the number, and zeros for what stood behind it
  pub padded-written : r ≡ true → (rest after : List ℕ) → rest ≡ zeros (length (take (length out' - width) (drop width out')))
      → after ≡ take width out' ++ (rest ++ drop (length out' - width) (drop width out'))
      → (Ok tt ≡ padded_answer value width (length out)) × (after ≡ padded_out value width (length out))
  unfolding pick padded_answer padded_out
  padded-written t rest after z q =
      let e : groups_fit value width (length out) ≡ true = groups-done t in
      let n : ℕ = length out' - width in
      let l : length (drop width out') ≡ n = length-drop width out' in
      let k : length (take n (drop width out')) ≡ length out - width =
      length-take-le n (drop width out') (omega arith) ∙ ap (λ m. m - width) (groups-same t) in
      let one : take width out' ≡ padded (width - 1) value = ap (take width) (whole t) ∙ take_at (padded (width - 1) value) (drop width out) width (sized t) in
      let two : rest ++ drop n (drop width out') ≡ zeros (length out - width) =
      ap (λ x. rest ++ x) (drop_of_length-le (drop width out') {i = n} (omega arith)) ∙ append-nil rest ∙ z ∙ ap (λ m. zeros m) k in
      (rw e, rw e (q ∙ ap₂ (λ (x y : List ℕ). x ++ y) one two))

  pub padded-refused : r ≡ false → (after : List ℕ) → after ≡ zeros (length out')
      → (Err 15 ≡ padded_answer value width (length out)) × (after ≡ padded_out value width (length out))
  unfolding pick padded_answer padded_out
  padded-refused t after z =
      let e : groups_fit value width (length out) ≡ false = sym p.told ∙ t in
      let o : out' ≡ out = p.left ∙ ap (λ b. pick b (padded (width - 1) value ++ drop width out) out) e in
      (rw e, rw e (z ∙ ap (λ x. zeros (length x)) o))

-- what `write_uleb128_padded` leaves in a part of exactly the number's width
module _ (value width : ℕ) (answer : Result (Unit {0}) ℕ) (x : List ℕ) (told : answer ≡ padded_answer value width width) (left : x ≡ padded_out value width width) where
  padded-fit : answer ≡ Ok tt → groups_fit value width width ≡ true
  unfolding padded_answer pick
  padded-fit t = by-fit (groups_fit value width width) told
    where
      by-fit : (b : Bool) → answer ≡ pick b (Ok tt) (Err 15) → b ≡ true
      by-fit true q = refl
      by-fit false q = let z : ◌≡◌ {A = ℕ} 0 1 = cc in absurd (omega arith)

  padded-unfit : (k : ℕ) → answer ≡ Err k → groups_fit value width width ≡ false
  unfolding padded_answer pick
  padded-unfit k t = by-fit (groups_fit value width width) told
    where
      by-fit : (b : Bool) → answer ≡ pick b (Ok tt) (Err 15) → b ≡ false
      by-fit true q = let z : ◌≡◌ {A = ℕ} 0 1 = cc in absurd (omega arith)
      by-fit false q = refl

  padded-whole : answer ≡ Ok tt → x ≡ padded (width - 1) value
  unfolding padded_out pick
  padded-whole t =
      left ∙ ap (λ b. pick b (padded (width - 1) value ++ zeros (width - width)) (zeros width)) (padded-fit t)
      ∙ ap (λ n. padded (width - 1) value ++ zeros n) (let z : width - width ≡ 0 = omega arith in z) ∙ append-nil (padded (width - 1) value)

  padded-zeros : (k : ℕ) → answer ≡ Err k → x ≡ zeros width
  unfolding padded_out pick
  padded-zeros k t = left ∙ ap (λ b. pick b (padded (width - 1) value ++ zeros (width - width)) (zeros width)) (padded-unfit k t)

pub taken-length : (out : List ℕ) (width : ℕ) → width ≤ length out → width ≡ length (take width out)
taken-length out width h = sym (length-take-le width out h)

module _ (leb' big : Bool) (value width : ℕ) (out : List ℕ) where
  -- a part that is too short
  pub number-beyond : leb' ≡ true → length out < width
      → Put (number_fits leb' value width (length out)) (number_bytes big (encoded_by leb' width) value) width out (unfit leb' width out) false out
  unfolding number_fits unfit pick ◌and◌
  number-beyond e h =
      let w : leb width (length out) ≡ false = lt-leb width (length out) h in
      let g : groups_fit value width (length out) ≡ false = groups-beyond value width (length out) h in
      record { told = rw e (sym g); left = rw e (rw g (rw w)) }

  module _ (e : leb' ≡ true) (h : width ≤ length out) (n : ℕ) (same : n ≡ width) (answer : Result (Unit {0}) ℕ) (x : List ℕ) (told : answer ≡ padded_answer value width n) (left : x ≡ padded_out value width n)
      (after : List ℕ) (home : after ≡ x ++ drop width out) where
    told' : answer ≡ padded_answer value width width
    told' = told ∙ ap (padded_answer value width) same

    left' : x ≡ padded_out value width width
    left' = left ∙ ap (padded_out value width) same

    pub number-written : answer ≡ Ok tt → Put (number_fits leb' value width (length out)) (number_bytes big (encoded_by leb' width) value) width out (unfit leb' width out) true after
    unfolding number_fits number_bytes encoded_by pick
    number-written t =
        let g : groups_fit value width (length out) ≡ true = sym (groups-room value width (length out) h) ∙ padded-fit value width answer x told' left' t in
        let a : after ≡ padded (width - 1) value ++ drop width out = home ∙ ap (λ l. l ++ drop width out) (padded-whole value width answer x told' left' t) in
        record { told = rw e (sym g); left = rw e (rw g a) }

    pub number-zeros : (k : ℕ) → answer ≡ Err k → Put (number_fits leb' value width (length out)) (number_bytes big (encoded_by leb' width) value) width out (unfit leb' width out) false after
    unfolding number_fits unfit pick ◌and◌
    number-zeros k t =
        let w : leb width (length out) ≡ true = le-leb width (length out) h in
        let g : groups_fit value width (length out) ≡ false = sym (groups-room value width (length out) h) ∙ padded-unfit value width answer x told' left' k t in
        let a : after ≡ zeros width ++ drop width out = home ∙ ap (λ l. l ++ drop width out) (padded-zeros value width answer x told' left' k t) in
        record { told = rw e (sym g); left = rw e (rw g (rw w a)) }

  pub number-fixed : leb' ≡ false → (r : Bool) (after : List ℕ) → Put (bytes_fit value width (length out)) (fixed_bytes big width value) width out out r after
      → Put (number_fits leb' value width (length out)) (number_bytes big (encoded_by leb' width) value) width out (unfit leb' width out) r after
  unfolding number_fits unfit number_bytes encoded_by pick ◌and◌
  number-fixed e r after p = rw e p

-- ---- bytes over a part

pub over_none : (bytes out : List ℕ) → length out < length bytes → out ≡ over bytes out
unfolding over pick
over_none bytes out h = sym (ap (λ b. pick b (bytes ++ drop (length bytes) out) out) (lt-leb (length bytes) (length out) h))

pub over-all : (bytes out after : List ℕ) → length bytes ≤ length out → after ≡ bytes ++ drop (length bytes) out → after ≡ over bytes out
unfolding over pick
over-all bytes out after h q = q ∙ sym (ap (λ b. pick b (bytes ++ drop (length bytes) out) out) (le-leb (length bytes) (length out) h))

pub over-room : (bytes out after : List ℕ) → after ≡ over bytes out → length bytes ≤ length out → after ≡ bytes ++ drop (length bytes) out
unfolding over pick
over-room bytes out after q h = q ∙ ap (λ b. pick b (bytes ++ drop (length bytes) out) out) (le-leb (length bytes) (length out) h)
