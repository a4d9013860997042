-- Bytes put into the output one after the other, and the numbers among them. Assumes nothing.
use mathlib.Core.Path.{◌≡◌, refl, ap, ap₂, sym, ◌∙◌, subst}
use Prim.Native.Nat.{ℕ, suc, min, ◌+◌, ◌-◌, ◌^◌, ◌≤◌, ◌<◌}
use native.Mathlib.Omega.{arith}
use mathlib.Core.Bool.{Bool, true, false}
use mathlib.Core.List.{List, [], ◌++◌, append_assoc, append-nil}
use Rattle.std.specs.Prelude.{None, Option, Some, Err, Ok, Result}
use mathlib.Core.Logic.{⊎_elim}
use lib.ListN.{length, take, drop, length-append, length-drop, drop_of_length-le, take-append-drop}
use lib.Seq.{length-take-le, take_at, drop-append-add, drop-drop, take_all, take-nil}
use lib.Dec.{T, ltb, leb, eqb}
use mir.Facts.{yes_ltb, ltb_yes, ltb_no, yes_leb, no_leb, leb_yes, eqb_yes, eqb_no, no_eqb, yes_eqb}
use Rattle.readers.specs.Choice.{pick, ◌and◌, put}
use Rattle.readers.proofs.Choice.{pick_yes, pick_no, either}
use Rattle.readers.specs.Layout.{Encoded, width, number_bytes, fits}
use Rattle.readers.proofs.LayoutLaws.{length-number}
use Rattle.readers.specs.References.{encoded_by}
use Rattle.rewriting.specs.Indices.{rank_in, rank_or}
use Rattle.rewriting.specs.Written.{groups_fit, over}
use Rattle.rewriting.specs.Inner.Written.{bytes_fit, number_fits, unfit, Put, as_mapped, ListHeld}
use Rattle.rewriting.specs.Rewriting.{or_next, is_some, or_self}
use Rattle.rewriting.specs.Emission.{between, copied_count}
use Rattle.rewriting.specs.Inner.Emission.{Emits, Within, onward, Wide, number_refusal, offset_refusal, Lent}
use Rattle.rewriting.proofs.WritePass.Putting.{fit-room, bytes-room}
use Rattle.readers.specs.declared.offsets.UnitOffset.{UnitOffset}

-- ---- lists

put-none : (out : List ℕ) (at : ℕ) → put out at [] ≡ out
unfolding put
put-none out at = ap (λ n. take at out ++ drop n out) (let h : at + 0 ≡ at = omega arith in h) ∙ take-append-drop at out

length-put : (out ys : List ℕ) (at : ℕ) → at + length ys ≤ length out → length (put out at ys) ≡ length out
unfolding put
length-put out ys at h =
    let d : List ℕ = drop (at + length ys) out in
    omega (arith, length-append (take at out) (ys ++ d), length-append ys d, length-take-le at out (let k : at ≤ length out = omega arith in k), length-drop (at + length ys) out)

put-put : (out a b : List ℕ) (at : ℕ) → at + length a + length b ≤ length out → put (put out at a) (at + length a) b ≡ put out at (a ++ b)
unfolding put
put-put out a b at h =
    let p : List ℕ = take at out in
    let d : List ℕ = drop (at + length a) out in
    let lp : length p ≡ at = length-take-le at out (omega arith) in
    let l : length (p ++ a) ≡ at + length a = length-append p a ∙ ap (λ n. n + length a) lp in
    let same : p ++ (a ++ d) ≡ (p ++ a) ++ d = sym (append_assoc p a d) in
    let one : take (at + length a) (p ++ (a ++ d)) ≡ p ++ a = ap (take (at + length a)) same ∙ take_at (p ++ a) d (at + length a) l in
    let two : drop (at + length a + length b) (p ++ (a ++ d)) ≡ drop (at + length (a ++ b)) out =
    ap₂ (λ (n : ℕ) (x : List ℕ). drop n x) (let k : at + length a + length b ≡ length (p ++ a) + length b = omega arith in k) same
    ∙ drop-append-add (p ++ a) d (length b)
    ∙ drop-drop (length b) (at + length a) out
    ∙ ap (λ n. drop n out) (let k : at + length a + length b ≡ at + length (a ++ b) = omega (arith, length-append a b) in k) in
    ap₂ (λ (x y : List ℕ). x ++ (b ++ y)) one two
    ∙ append_assoc p a _
    ∙ ap (λ x. p ++ x) (sym (append_assoc a b _))

-- a part from `at` on that begins with bytes, home again
pub put-home : (out w bytes : List ℕ) (at : ℕ) → w ≡ bytes ++ drop (length bytes) (take (length out - at) (drop at out))
    → take at out ++ (w ++ drop (length out - at) (drop at out)) ≡ put out at bytes
unfolding put
put-home out w bytes at h =
    let l : length (drop at out) ≡ length out - at = length-drop at out in
    let le : length (drop at out) ≤ length out - at = omega arith in
    ap (λ x. take at out ++ (w ++ x)) (drop_of_length-le (drop at out) le)
    ∙ ap (λ x. take at out ++ x) (append-nil w ∙ h)
    ∙ ap (λ x. take at out ++ (bytes ++ drop (length bytes) x)) (take_all (length out - at) (drop at out) (omega arith))
    ∙ ap (λ x. take at out ++ (bytes ++ x)) (drop-drop (length bytes) at out)

pub part_length : (out : List ℕ) (at : ℕ) → length (take (length out - at) (drop at out)) ≡ length out - at
part_length out at = length-take-le (length out - at) (drop at out) (omega (arith, length-drop at out))

-- ---- one after the other

-- `bytes` are to be written from `at` on, or refused by n: what is answered, with the next free byte, and how the output then is, if it has room for them
pub record EmitsAt (n : ℕ) (bytes out : List ℕ) (at : ℕ) (r : Result ℕ ℕ) (out' : List ℕ) : Type 0 where
  pub size : length out' ≡ length out
  pub fine : at + length bytes ≤ length out → n ≡ 0 → (r ≡ Ok (at + length bytes)) × (out' ≡ put out at bytes)
  pub no : at + length bytes ≤ length out → (n ≡ 0 → ⊥) → r ≡ Err n

emitted-to : (a b : ℕ) → ◌≡◌ {A = Result ℕ ℕ} (Ok a) (Ok b) → a ≡ b
emitted-to a b h = cc

emitted-not : (a b : ℕ) → ◌≡◌ {A = Result ℕ ℕ} (Ok a) (Err b) → ⊥
emitted-not a b h = let z : ◌≡◌ {A = ℕ} 0 1 = cc in absurd (omega arith)

pub emits_none : (out : List ℕ) (at : ℕ) → EmitsAt 0 [] out at (Ok at) out
emits_none out at =
    record {
      size = refl;
      fine = λ _ _. (ap Ok (let h : at ≡ at + 0 = omega arith in h), sym (put-none out at));
      no = λ _ n. absurd (n refl);
    }

pub emits-as : {n m : ℕ} {a b : List ℕ} {out : List ℕ} {at : ℕ} {r : Result ℕ ℕ} {out' : List ℕ} → n ≡ m → a ≡ b → EmitsAt n a out at r out' → EmitsAt m b out at r out'
emits-as {m = m} {a = a} {out = out} {at = at} {r = r} {out' = out'} p q h =
    subst (λ x. EmitsAt m x out at r out') q (subst (λ x. EmitsAt x a out at r out') p h)

next-yes : (n m : ℕ) → n ≡ 0 → or_next n m ≡ m
unfolding or_next
next-yes n m h = pick_yes _ _ _ (yes_eqb {a = n} {b = 0} h)

next-no : (n m : ℕ) → (n ≡ 0 → ⊥) → or_next n m ≡ n
unfolding or_next
next-no n m h = pick_no _ _ _ (no_eqb {a = n} {b = 0} h)

module _ (n m : ℕ) (a b out : List ℕ) (at : ℕ) where
  pub emits_then : (to : ℕ) (out₁ : List ℕ) (r : Result ℕ ℕ) (out₂ : List ℕ) → EmitsAt n a out at (Ok to) out₁ → EmitsAt m b out₁ to r out₂
      → EmitsAt (or_next n m) (a ++ b) out at r out₂
  emits_then to out₁ r out₂ f g =
      let l : length (a ++ b) ≡ length a + length b = length-append a b in
      let s : length out₁ ≡ length out = f.size in
      record {
        size = g.size ∙ s;
        fine = λ room z. ⊎_elim
            (λ t. let n0 : n ≡ 0 = eqb_yes {a = n} {b = 0} t in
            let p : (Ok to ≡ Ok (at + length a)) × (out₁ ≡ put out at a) = f.fine (omega arith) n0 in
            let w : to ≡ at + length a = emitted-to to (at + length a) p.0 in
            let q : (r ≡ Ok (to + length b)) × (out₂ ≡ put out₁ to b) = g.fine (omega arith) (sym (next-yes n m n0) ∙ z) in (
              q.0 ∙ ap Ok (let k : to + length b ≡ at + length (a ++ b) = omega arith in k),
              q.1 ∙ ap₂ (λ (x : List ℕ) (y : ℕ). put x y b) p.1 w ∙ put-put out a b at (omega arith),
            ))
            (λ t. let n1 : n ≡ 0 → ⊥ = eqb_no {a = n} {b = 0} t in absurd (n1 (sym (next-no n m n1) ∙ z)))
            (either (eqb n 0));
        no = λ room z. ⊎_elim
            (λ t. let n0 : n ≡ 0 = eqb_yes {a = n} {b = 0} t in
            let p : (Ok to ≡ Ok (at + length a)) × (out₁ ≡ put out at a) = f.fine (omega arith) n0 in
            let w : to ≡ at + length a = emitted-to to (at + length a) p.0 in
            g.no (omega arith) (λ k. z (next-yes n m n0 ∙ k)) ∙ ap Err (sym (next-yes n m n0)))
            (λ t. absurd (emitted-not _ _ (f.no (omega arith) (eqb_no {a = n} {b = 0} t))))
            (either (eqb n 0));
      }

  pub emits-stop : (k : ℕ) (out₁ : List ℕ) → EmitsAt n a out at (Err k) out₁ → EmitsAt (or_next n m) (a ++ b) out at (Err k) out₁
  emits-stop k out₁ f =
      let l : length (a ++ b) ≡ length a + length b = length-append a b in
      let zero-not : at + length (a ++ b) ≤ length out → n ≡ 0 → ⊥ = (λ room z. emitted-not _ _ (sym (f.fine (omega arith) z).0)) in
      record {
        size = f.size;
        fine = λ room z. ⊎_elim
            (λ t. absurd (zero-not room (eqb_yes {a = n} {b = 0} t)))
            (λ t. let n1 : n ≡ 0 → ⊥ = eqb_no {a = n} {b = 0} t in absurd (n1 (sym (next-no n m n1) ∙ z)))
            (either (eqb n 0));
        no = λ room z. f.no (omega arith) (zero-not room) ∙ ap Err (sym (next-no n m (zero-not room)));
      }

-- ---- from the start of a part

module _ {n : ℕ} {bytes out : List ℕ} {r : Result ℕ ℕ} {out' : List ℕ} where
  -- from the output's first byte on
  pub at-start : Emits n bytes out r out' → EmitsAt n bytes out 0 r out'
  unfolding put
  at-start f =
      record {
        size = f.size;
        fine = λ room z. (
          (f.fine (omega arith) z).0 ∙ ap Ok (let h : length bytes ≡ 0 + length bytes = omega arith in h),
          (f.fine (omega arith) z).1 ∙ ap (λ m. bytes ++ drop m out) (let h : length bytes ≡ 0 + length bytes = omega arith in h),
        );
        no = λ room z. f.no (omega arith) z;
      }

  pub from_start : EmitsAt n bytes out 0 r out' → Emits n bytes out r out'
  unfolding put
  from_start f =
      record {
        size = f.size;
        fine = λ room z. (
          (f.fine (omega arith) z).0 ∙ ap Ok (let h : 0 + length bytes ≡ length bytes = omega arith in h),
          (f.fine (omega arith) z).1 ∙ ap (λ m. bytes ++ drop m out) (let h : 0 + length bytes ≡ length bytes = omega arith in h),
        );
        no = λ room z. f.no (omega arith) z;
      }

-- a part from `at` on, filled by another writer, and home again
module _ (out : List ℕ) (at : ℕ) (i : at ≤ length out) (x : List ℕ) where
  abbrev part : List ℕ
  part = take (length out - at) (drop at out)

  abbrev home : List ℕ
  home = take at out ++ (x ++ drop (length out - at) (drop at out))

  pub home-size : length x ≡ length part → length home ≡ length out
  home-size h =
      let d : List ℕ = drop (length out - at) (drop at out) in
      omega (arith, length-append (take at out) (x ++ d), length-append x d, length-take-le at out i, length-drop (length out - at) (drop at out), length-drop at out, part_length out at)

  pub emits-home : {n : ℕ} {bytes : List ℕ} {r : Result ℕ ℕ} → Emits n bytes part r x → EmitsAt n bytes out at (onward at r) home
  unfolding onward
  emits-home {bytes = bytes} f =
      record {
        size = home-size f.size;
        fine = λ room z.
            (let k : length bytes ≤ length part = omega (arith, part_length out at) in (ap (onward at) (f.fine k z).0, put-home out x bytes at (f.fine k z).1));
        no = λ room z. ap (onward at) (f.no (omega (arith, part_length out at)) z);
      }

-- ---- bytes that are copied

pub count_none : (bytes out : List ℕ) → length out < length bytes → 0 ≡ copied_count bytes out
unfolding copied_count
count_none bytes out h = sym (pick_no _ _ _ (no_leb {a = length bytes} {b = length out} h))

pub count-all : (bytes out : List ℕ) → length bytes ≤ length out → length bytes ≡ copied_count bytes out
unfolding copied_count
count-all bytes out h = sym (pick_yes _ _ _ (yes_leb {a = length bytes} {b = length out} h))

module _ (bytes out : List ℕ) (n : ℕ) (out' : List ℕ) (p : n ≡ copied_count bytes out) (q : out' ≡ over bytes out) where
  copied-room : n ≤ length out
  unfolding copied_count
  copied-room =
      ⊎_elim
      (λ t. let l : length bytes ≤ length out = leb_yes {a = length bytes} {b = length out} t in let w : n ≡ length bytes = p ∙ pick_yes _ _ _ t in omega arith)
      (λ t. let w : n ≡ 0 = p ∙ pick_no _ _ _ t in omega arith)
      (either (leb (length bytes) (length out)))

  copied-size : length out' ≡ length out
  unfolding over
  copied-size =
      ⊎_elim
      (λ t. let l : length bytes ≤ length out = leb_yes {a = length bytes} {b = length out} t in
      ap length (q ∙ pick_yes _ _ _ t) ∙ length-append bytes (drop (length bytes) out)
      ∙ (let z : length bytes + length (drop (length bytes) out) ≡ length out = omega (arith, length-drop (length bytes) out) in z))
      (λ t. ap length (q ∙ pick_no _ _ _ t))
      (either (leb (length bytes) (length out)))

  pub copied-within : Within out (Ok n) out'
  copied-within = record { size = copied-size; room = λ m w. subst (λ k. k ≤ length out) (emitted-to n m w) copied-room }

  copied-emits : Emits 0 bytes out (Ok n) out'
  unfolding copied_count over
  copied-emits =
      record {
        size = copied-size;
        fine = λ room _. (
          ap Ok (p ∙ pick_yes _ _ _ (yes_leb {a = length bytes} {b = length out} room)),
          q ∙ pick_yes _ _ _ (yes_leb {a = length bytes} {b = length out} room),
        );
        no = λ _ z. absurd (z refl);
      }

  -- from the first byte on
  pub copied-front : (those : List ℕ) → bytes ≡ those → EmitsAt 0 those out 0 (Ok n) out'
  copied-front those w = emits-as refl w (at-start copied-emits)

-- ---- a writer that has written so many bytes, and another one on the part behind them

pub within-start : (out : List ℕ) → Within out (Ok 0) out
within-start out = record { size = refl; room = λ n q. (let w : 0 ≡ n = emitted-to 0 n q in omega arith) }

pub within-no : (out : List ℕ) (k : ℕ) (out' : List ℕ) → length out' ≡ length out → Within out (Err k) out'
within-no out k out' s = record { size = s; room = λ n q. absurd (emitted-not n k (sym q)) }

pub within-to : (out : List ℕ) (n : ℕ) (out' : List ℕ) → length out' ≡ length out → n ≤ length out → Within out (Ok n) out'
within-to out n out' s h = record { size = s; room = λ m q. subst (λ k. k ≤ length out) (emitted-to n m q) h }

pub within-self : {out out' : List ℕ} {n : ℕ} → Within out (Ok n) out' → Within out' (Ok n) out'
within-self {out = out} {out' = out'} {n = n} f = within-to out' n out' refl (let a : n ≤ length out = f.room n refl in let s : length out' ≡ length out = f.size in omega arith)

pub size_small : {out out' : List ℕ} {r : Result ℕ ℕ} → Within out r out' → length out < 2 ^ 64 → length out' < 2 ^ 64
size_small f l = subst (λ n. n < 2 ^ 64) (sym f.size) l

pub onward-to : (at n : ℕ) (r : Result ℕ ℕ) → r ≡ Ok n → onward at r ≡ Ok (at + n)
unfolding onward
onward-to at n r q = ap (onward at) q

pub onward-no : (at n : ℕ) (r : Result ℕ ℕ) → r ≡ Err n → onward at r ≡ Err n
unfolding onward
onward-no at n r q = ap (onward at) q

onward-room : (r : Result ℕ ℕ) (at m k : ℕ) → ((n : ℕ) → r ≡ Ok n → n ≤ m) → at + m ≤ k → (n : ℕ) → onward at r ≡ Ok n → n ≤ k
unfolding onward
onward-room (Ok j) at m k h l n q = let a : j ≤ m = h j refl in let w : at + j ≡ n = emitted-to (at + j) n q in omega arith
onward-room (Err j) at m k h l n q = absurd (emitted-not n j (sym q))

module _ (out₀ out : List ℕ) (to : ℕ) (inv : Within out₀ (Ok to) out) where
  pub inside : to ≤ length out
  inside = let a : to ≤ length out₀ = inv.room to refl in let s : length out ≡ length out₀ = inv.size in omega arith

  pub emits-on : {n : ℕ} {bytes : List ℕ} {r : Result ℕ ℕ} {x : List ℕ} → Emits n bytes (take (length out - to) (drop to out)) r x
      → EmitsAt n bytes out to (onward to r) (take to out ++ (x ++ drop (length out - to) (drop to out)))
  emits-on {x = x} f = emits-home out to inside x f

  pub copied_on : (bytes : List ℕ) (n : ℕ) (x : List ℕ) → n ≡ copied_count bytes (take (length out - to) (drop to out)) → x ≡ over bytes (take (length out - to) (drop to out))
      → (those : List ℕ) → bytes ≡ those → EmitsAt 0 those out to (Ok (to + n)) (take to out ++ (x ++ drop (length out - to) (drop to out)))
  unfolding onward
  copied_on bytes n x p q those w = emits-as refl w (emits-on (copied-emits bytes (take (length out - to) (drop to out)) n x p q))

  module _ (r : Result ℕ ℕ) (x : List ℕ) (w : Within (take (length out - to) (drop to out)) r x) where
    home-as : length (take to out ++ (x ++ drop (length out - to) (drop to out))) ≡ length out₀
    home-as = home-size out to inside x w.size ∙ inv.size

    pub within-after : (z : Result ℕ ℕ) → z ≡ onward to r → Within out₀ z (take to out ++ (x ++ drop (length out - to) (drop to out)))
    within-after z q =
        record {
          size = home-as;
          room = λ n k. onward-room r to (length (take (length out - to) (drop to out))) (length out₀) w.room (omega (arith, inside, part_length out to, inv.size)) n (sym q ∙ k);
        }

    pub within_on : (n : ℕ) → r ≡ Ok n → Within out₀ (Ok (to + n)) (take to out ++ (x ++ drop (length out - to) (drop to out)))
    within_on n q = within-after (Ok (to + n)) (sym (onward-to to n r q))

    pub within-stop : (k : ℕ) → Within out₀ (Err k) (take to out ++ (x ++ drop (length out - to) (drop to out)))
    within-stop k = within-no out₀ k _ home-as

    pub after_small : length out₀ < 2 ^ 64 → (n : ℕ) → r ≡ Ok n → to + n < 2 ^ 64
    after_small l n q = let a : to + n ≤ length out₀ = (within_on n q).room (to + n) refl in omega arith

pub emits-after : {n : ℕ} {bytes out : List ℕ} {r z : Result ℕ ℕ} {out' : List ℕ} → z ≡ r → EmitsAt n bytes out 0 r out' → Emits n bytes out z out'
emits-after {n = n} {bytes = bytes} {out = out} {out' = out'} q f = subst (λ y. Emits n bytes out y out') (sym q) (from_start f)

-- ---- bytes of a slice

module _ (s : List ℕ) (from to : ℕ) where
  pub between-nothing : to ≤ from → [] ≡ between s from to
  unfolding between
  between-nothing h = ap (λ n. take n (drop from s)) (let z : 0 ≡ to - from = omega arith in z)

  pub between-past : length s ≤ from → [] ≡ between s from to
  unfolding between
  between-past h = sym (ap (take (to - from)) (drop_of_length-le s h) ∙ take-nil (to - from))

  pub between-whole : take (to - from) (drop from s) ≡ between s from to
  unfolding between
  between-whole = refl

  -- as far as the slice goes
  pub between-least : (m : ℕ) → m ≡ min to (length s) → take (m - from) (drop from s) ≡ between s from to
  unfolding between
  between-least m e =
      ⊎_elim
      (λ t. let l : length s < to = ltb_yes {a = length s} {b = to} t in
      take_all (m - from) (drop from s) (omega (arith, length-drop from s))
      ∙ sym (take_all (to - from) (drop from s) (omega (arith, length-drop from s))))
      (λ t. let l : to ≤ length s = ltb_no {a = length s} {b = to} t in
      ap (λ (n : ℕ). take (n - from) (drop from s)) (let k : m ≡ to = omega arith in k))
      (either (ltb (length s) to))

-- ---- numbers

suc-pred : (w : ℕ) → 0 < w → suc (w - 1) ≡ w
suc-pred w h = omega arith

pub wide-width : (leb' : Bool) (w : ℕ) → Wide leb' w → width (encoded_by leb' w) ≡ w
unfolding Wide width encoded_by
wide-width true w h = suc-pred w h.0
wide-width false w h = refl

pub and-true : (a b : Bool) → T a → (a and b) ≡ b
unfolding ◌and◌
and-true true b t = refl
and-true false b t = absurd t

and_last : (a b : Bool) → T b → (a and b) ≡ a
unfolding ◌and◌
and_last true true t = refl
and_last true false t = absurd t
and_last false b t = refl

fits-coded : (leb' : Bool) (w v : ℕ) → Wide leb' w → v < 2 ^ 64 → fits (encoded_by leb' w) v ≡ pick leb' (ltb v (128 ^ w)) (ltb v (256 ^ w))
unfolding Wide fits encoded_by pick
fits-coded true w v h l =
    and-true (ltb (w - 1) 10) _ (yes_ltb {a = w - 1} {b = 10} (let p : 0 < w = h.0 in let q : w ≤ 10 = h.1 in omega arith))
    ∙ and_last (ltb v (128 ^ suc (w - 1))) (ltb v (2 ^ 64)) (yes_ltb {a = v} {b = 2 ^ 64} l)
    ∙ ap (λ n. ltb v (128 ^ n)) (suc-pred w h.0)
fits-coded false w v h l = and-true (leb w 8) _ (yes_leb {a = w} {b = 8} h)

fits_by : (leb' : Bool) (w v n : ℕ) → Wide leb' w → w ≤ n → number_fits leb' v w n ≡ pick leb' (ltb v (128 ^ w)) (ltb v (256 ^ w))
unfolding Wide number_fits groups_fit bytes_fit pick
fits_by true w v n h l =
    and-true (ltb 0 w) _ (yes_ltb {a = 0} {b = w} h.0) ∙ and-true (leb w 10) _ (yes_leb {a = w} {b = 10} h.1) ∙ and-true (leb w n) _ (yes_leb {a = w} {b = n} l)
fits_by false w v n h l = and-true (leb w 8) _ (yes_leb {a = w} {b = 8} h) ∙ and-true (leb w n) _ (yes_leb {a = w} {b = n} l)

fits-room : (leb' : Bool) (w v n : ℕ) → number_fits leb' v w n ≡ true → w ≤ n
unfolding number_fits pick
fits-room true w v n h = fit-room v w n h
fits-room false w v n h = bytes-room v w n h

module _ (value w : ℕ) (leb' big : Bool) (out : List ℕ) where
  abbrev code : Encoded
  code = encoded_by leb' w

  abbrev the-bytes : List ℕ
  the-bytes = number_bytes big code value

  the-length : Wide leb' w → length the-bytes ≡ w
  the-length h = length-number big code value ∙ wide-width leb' w h

  module _ (l : value < 2 ^ 64) (x : List ℕ) (s : length x ≡ length out) (r : Bool) (did : Put (number_fits leb' value w (length out)) (number_bytes big code value) w out (unfit leb' w out) r x) where
    answered : Wide leb' w → w ≤ length out → r ≡ fits code value
    answered h g = did.told ∙ fits_by leb' w value (length out) h g ∙ sym (fits-coded leb' w value h l)

    pub number-room : r ≡ true → w ≤ length out
    number-room t = fits-room leb' w value (length out) (sym did.told ∙ t)

    pub number-yes : r ≡ true → Wide leb' w → Emits (number_refusal code value) the-bytes out (Ok w) x
    unfolding number_refusal pick
    number-yes t h =
        let z : number_refusal code value ≡ 0 = ap (λ b. pick b 0 9) (sym (answered h (number-room t)) ∙ t) in
        let n : length the-bytes ≡ w = the-length h in
        let p : x ≡ the-bytes ++ drop w out = did.left ∙ ap (λ b. pick b (the-bytes ++ drop w out) (unfit leb' w out)) (sym did.told ∙ t) in
        record {
          size = s;
          fine = λ _ _. (ap Ok (sym n), p ∙ ap (λ m. the-bytes ++ drop m out) (sym n));
          no = λ _ k. absurd (k z);
        }

    pub number-no : r ≡ false → Wide leb' w → Emits (number_refusal code value) the-bytes out (Err 9) x
    unfolding number_refusal pick
    number-no t h =
        let nine : length the-bytes ≤ length out → number_refusal code value ≡ 9 = (λ room. ap (λ b. pick b 0 9) (sym (answered h (omega (arith, the-length h))) ∙ t)) in
        record {
          size = s;
          fine = λ room z. (let q : number_refusal code value ≡ 9 = nine room in absurd (omega arith));
          no = λ room _. ap Err (sym (nine room));
        }

-- ---- offsets

mapped-some : (o : Option ℕ) (value : UnitOffset) → Some value ≡ as_mapped o → o ≡ Some value.0
unfolding as_mapped
mapped-some None value h = let z : ◌≡◌ {A = ℕ} 0 1 = cc in absurd (omega arith)
mapped-some (Some n) value h = let z : value ≡ record { 0 = n } = cc in ap (λ (y : UnitOffset). Some y.0) (sym z)

mapped-none : (o : Option ℕ) → None ≡ as_mapped o → o ≡ None
unfolding as_mapped
mapped-none None h = refl
mapped-none (Some n) h = let z : ◌≡◌ {A = ℕ} 0 1 = cc in absurd (omega arith)

module _ (new : Option UnitOffset) (w : ℕ) (leb' big : Bool) (out : List ℕ) where
  pub offset-some : (value : UnitOffset) → new ≡ Some value → (r : Result ℕ ℕ) (out' : List ℕ)
      → (Wide leb' w → Emits (number_refusal (encoded_by leb' w) value.0) (number_bytes big (encoded_by leb' w) value.0) out r out')
      → (o : Option ℕ) (v : ℕ) → new ≡ as_mapped o → Wide leb' w → Emits (offset_refusal (encoded_by leb' w) v o) (number_bytes big (encoded_by leb' w) (or_self v o)) out r out'
  unfolding offset_refusal or_self is_some pick
  offset-some value q r out' f o v p h =
      subst (λ z. Emits (offset_refusal (encoded_by leb' w) v z) (number_bytes big (encoded_by leb' w) (or_self v z)) out r out') (sym (mapped-some o value (sym q ∙ p))) (f h)

  pub offset-none : new ≡ None
      → (o : Option ℕ) (v : ℕ) → new ≡ as_mapped o → Wide leb' w → Emits (offset_refusal (encoded_by leb' w) v o) (number_bytes big (encoded_by leb' w) (or_self v o)) out (Err 8) out
  unfolding offset_refusal or_self is_some pick
  offset-none q o v p h =
      subst (λ z. Emits (offset_refusal (encoded_by leb' w) v z) (number_bytes big (encoded_by leb' w) (or_self v z)) out (Err 8) out) (sym (mapped-none o (sym q ∙ p)))
      (record { size = refl; fine = λ _ z. absurd (let q : ◌≡◌ {A = ℕ} 8 0 = z in omega arith); no = λ _ _. refl })

-- ---- indices

module _ (list : List ℕ) (count : Option ℕ) (value : ℕ) where
  pub index-rank : (n : ℕ) → count ≡ Some n → (r : ℕ) → ((xs : List ℕ) → ListHeld xs list → n ≡ length xs → r ≡ rank_in xs value)
      → (o : Option (List ℕ)) → Lent o list count → r ≡ rank_or o value
  unfolding Lent rank_or
  index-rank n q r f None h = absurd (subst (Lent None list) q h)
  index-rank n q r f (Some xs) h = let k : ListHeld xs list × (n ≡ length xs) = subst (Lent (Some xs) list) q h in f xs k.0 k.1

  pub index-self : count ≡ None → (o : Option (List ℕ)) → Lent o list count → value ≡ rank_or o value
  unfolding Lent rank_or
  index-self q None h = refl
  index-self q (Some xs) h = absurd (subst (Lent (Some xs) list) q h)
