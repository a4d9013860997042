-- Tables of big-endian numbers: what is read at a place, and what a write at a place makes of them.
use Prim.Native.Nat.{ℕ, zero, suc, ◌+◌, ◌-◌, ◌*◌, ◌/◌, ◌^◌, ◌≤◌, ◌<◌}
use mathlib.Core.Path.{◌≡◌, refl, ap, ap₂, sym, ◌∙◌, subst}
use mathlib.Core.Bool.{true}
use mathlib.Core.List.{List, [], ◌∷◌, ◌++◌, append_assoc, append-nil}
use mathlib.Core.Logic.{⊎_elim}
use native.Mathlib.Nat.{add-zero, mul_comm, mul-suc, mul-zero, le-div_iff_mul-le}
use native.Mathlib.Numerals.{add-one}
use native.Mathlib.Omega.{arith}
use lib.ListN.{length, get_or, take, drop, length-append, length-drop, length-replicate, take-append-drop}
use lib.Seq.{take_at, drop_at, drop-append-add, length-take-le}
use mir.Facts.{yes_ltb, no_ltb}
use Rattle.readers.specs.Choice.{zeros, put}
use Rattle.readers.proofs.Choice.{pick_yes, pick_no}
use Rattle.readers.specs.Numbers.{fixed_bytes, fixed_value}
use Rattle.readers.proofs.Numbers.{length-fixed, fixed-value}
use Rattle.marking.specs.Members.{Member, here, there}
use Rattle.rewriting.specs.Written.{number_at, row_number, run_bytes}
use Rattle.rewriting.specs.Inner.Written.{NumbersHeld}
use Rattle.marking.proofs.Members.{nothing-in}
use Rattle.rewriting.proofs.WritePass.Putting.{drop-zeros}
use Rattle.marking.proofs.Members.{in_either}

-- every number of a list is below a bound
abbrev pub Small : ℕ → List ℕ → Type 0
Small n xs = (v : ℕ) → Member v xs → v < n

pub small-tail : (n x : ℕ) (xs : List ℕ) → Small n (x ∷ xs) → Small n xs
small-tail n x xs h v m = h v (there m)

-- what is read in a row, and where there is none
module _ (row byte width : ℕ) (table : List ℕ) (i : ℕ) where
  pub row-there : (r : ℕ) → r ≡ row_number row byte width table i → i < length table / row → r ≡ number_at width table (row * i + byte)
  unfolding row_number
  row-there r e h = e ∙ pick_yes _ _ _ (yes_ltb {a = i} {b = length table / row} h)

  pub there-row : (r : ℕ) → i < length table / row → r ≡ number_at width table (row * i + byte) → r ≡ row_number row byte width table i
  unfolding row_number
  there-row r h e = e ∙ sym (pick_yes _ _ _ (yes_ltb {a = i} {b = length table / row} h))

  pub no_row : length table / row ≤ i → 0 ≡ row_number row byte width table i
  unfolding row_number
  no_row h = sym (pick_no _ _ _ (no_ltb {a = i} {b = length table / row} h))

-- a row is in its table
pub row_inside : (row n i : ℕ) → i < n / row → 0 < row → row * i + row ≤ n
row_inside row n i l h =
    subst (λ (k : ℕ). k ≤ n) (mul_comm (suc i) row ∙ mul-suc row i) ((le-div_iff_mul-le {k = row} {x = suc i} {y = n} h).0 l)

-- the number that a row begins with
pub first-there : (row width : ℕ) (table : List ℕ) (i r : ℕ) → r ≡ row_number row 0 width table i → i < length table / row → r ≡ number_at width table (row * i)
first-there row width table i r e h = row-there row 0 width table i r e h ∙ ap (number_at width table) (add-zero (row * i))

-- of an index list
pub number-there : (list : List ℕ) (i r : ℕ) → r ≡ row_number 8 0 8 list i → i < length list / 8 → r ≡ number_at 8 list (8 * i)
number-there list i r e h = first-there 8 8 list i r e h

module _ (w : ℕ) where
  pub length_run : (xs : List ℕ) → length (run_bytes w xs) ≡ w * length xs
  unfolding run_bytes
  length_run [] = sym (mul-zero w)
  length_run (x ∷ xs) =
      length-append (fixed_bytes true w x) (run_bytes w xs) ∙ ap₂ (λ (a b : ℕ). a + b) (length-fixed true w x) (length_run xs)
      ∙ (let e : w * suc (length xs) ≡ w * length xs + w = mul-suc w (length xs) in omega arith)

  -- a number that is read
  pub run_at : (xs rest : List ℕ) (i : ℕ) → Small (256 ^ w) xs → i < length xs → number_at w (run_bytes w xs ++ rest) (w * i) ≡ get_or xs i 0
  unfolding run_bytes number_at
  run_at [] rest i s h = absurd (omega arith)
  run_at (x ∷ xs) rest zero s h =
      ap (λ l. fixed_value true (take w l)) (ap (λ n. drop n ((fixed_bytes true w x ++ run_bytes w xs) ++ rest)) (mul-zero w) ∙ append_assoc (fixed_bytes true w x) (run_bytes w xs) rest)
      ∙ ap (fixed_value true) (take_at (fixed_bytes true w x) (run_bytes w xs ++ rest) w (length-fixed true w x))
      ∙ fixed-value true w x (s x (here refl))
  run_at (x ∷ xs) rest (suc i) s h =
      ap (λ l. fixed_value true (take w l))
      (ap₂ (λ n (l : List ℕ). drop n l) (mul-suc w i ∙ (let e : w * i + w ≡ length (fixed_bytes true w x) + w * i = (let l : length (fixed_bytes true w x) ≡ w = length-fixed true w x in omega arith) in e)) (append_assoc (fixed_bytes true w x) (run_bytes w xs) rest)
      ∙ drop-append-add (fixed_bytes true w x) (run_bytes w xs ++ rest) (w * i))
      ∙ run_at xs rest i (small-tail (256 ^ w) x xs s) (omega arith)

  pub run-append : (xs ys : List ℕ) → run_bytes w (xs ++ ys) ≡ run_bytes w xs ++ run_bytes w ys
  unfolding run_bytes
  run-append [] ys = refl
  run-append (x ∷ xs) ys = ap (λ l. fixed_bytes true w x ++ l) (run-append xs ys) ∙ sym (append_assoc (fixed_bytes true w x) (run_bytes w xs) (run_bytes w ys))

  -- a write between two parts
  put-between : (a b c : List ℕ) (v : ℕ) → length b ≡ w → put (a ++ (b ++ c)) (length a) (fixed_bytes true w v) ≡ a ++ (fixed_bytes true w v ++ c)
  unfolding put
  put-between a b c v e =
      ap₂ (λ (x y : List ℕ). x ++ (fixed_bytes true w v ++ y)) (take_at a (b ++ c) (length a) refl)
      (drop-append-add a (b ++ c) (length (fixed_bytes true w v)) ∙ drop_at b c (length (fixed_bytes true w v)) (e ∙ sym (length-fixed true w v)))

  -- a number written over another
  pub run-over : (xs ys rest : List ℕ) (old v : ℕ) → put (run_bytes w (xs ++ (old ∷ ys)) ++ rest) (w * length xs) (fixed_bytes true w v) ≡ run_bytes w (xs ++ (v ∷ ys)) ++ rest
  unfolding run_bytes
  run-over xs ys rest old v =
      let split : (z : ℕ) → run_bytes w (xs ++ (z ∷ ys)) ++ rest ≡ run_bytes w xs ++ (fixed_bytes true w z ++ (run_bytes w ys ++ rest)) =
      (λ z. ap (λ l. l ++ rest) (run-append xs (z ∷ ys)) ∙ append_assoc (run_bytes w xs) (fixed_bytes true w z ++ run_bytes w ys) rest
      ∙ ap (λ l. run_bytes w xs ++ l) (append_assoc (fixed_bytes true w z) (run_bytes w ys) rest)) in
      ap₂ (λ (l : List ℕ) (n : ℕ). put l n (fixed_bytes true w v)) (split old) (sym (length_run xs))
      ∙ put-between (run_bytes w xs) (fixed_bytes true w old) (run_bytes w ys ++ rest) v (length-fixed true w old)
      ∙ sym (split v)

  -- a number written after the last
  pub run_more : (xs rest : List ℕ) (v : ℕ) → w ≤ length rest → put (run_bytes w xs ++ rest) (w * length xs) (fixed_bytes true w v) ≡ run_bytes w (xs ++ (v ∷ [])) ++ drop w rest
  unfolding run_bytes
  run_more xs rest v h =
      ap₂ (λ (l : List ℕ) (n : ℕ). put (run_bytes w xs ++ l) n (fixed_bytes true w v)) (sym (take-append-drop w rest)) (sym (length_run xs))
      ∙ put-between (run_bytes w xs) (take w rest) (drop w rest) v (length-take-le w rest h)
      ∙ sym (ap (λ l. l ++ drop w rest) (run-append xs (v ∷ [])) ∙ append_assoc (run_bytes w xs) (fixed_bytes true w v ++ []) (drop w rest)
      ∙ ap (λ l. run_bytes w xs ++ (l ++ drop w rest)) (append-nil (fixed_bytes true w v)))

  -- a number that a table holds
  pub held_at : (xs bytes : List ℕ) (i : ℕ) → NumbersHeld w xs bytes → i < length xs → number_at w bytes (w * i) ≡ get_or xs i 0
  held_at xs bytes i h l =
      ap (λ s. number_at w s (w * i)) h.are ∙ run_at xs (zeros (length bytes - w * length xs)) i h.small l

pub length-put : (xs : List ℕ) (n : ℕ) (ys : List ℕ) → n + length ys ≤ length xs → length (put xs n ys) ≡ length xs
unfolding put
length-put xs n ys h =
    length-append (take n xs) (ys ++ drop (n + length ys) xs) ∙ (let a : length (take n xs) ≡ n = length-take-le n xs (omega arith) in
    let b : length (ys ++ drop (n + length ys) xs) ≡ length ys + length (drop (n + length ys) xs) = length-append ys (drop (n + length ys) xs) in
    let d : length (drop (n + length ys) xs) ≡ length xs - (n + length ys) = length-drop (n + length ys) xs in omega arith)

pub small-append : (n : ℕ) (xs ys : List ℕ) → Small n xs → Small n ys → Small n (xs ++ ys)
small-append n xs ys f g v m = ⊎_elim (λ (a : Member v xs). f v a) (λ (b : Member v ys). g v b) (in_either v xs ys m)

pub small_one : (n x : ℕ) → x < n → Small n (x ∷ [])
small_one n x h v (here e) = rw e h
small_one n x h v (there m) = absurd (nothing-in v m)

-- one number more in a table that has room for it
pub held_more : (w : ℕ) (xs bytes : List ℕ) (v : ℕ) → NumbersHeld w xs bytes → w * length xs + w ≤ length bytes → v < 256 ^ w
    → NumbersHeld w (xs ++ (v ∷ [])) (put bytes (w * length xs) (fixed_bytes true w v))
held_more w xs bytes v h r s =
    let m : ℕ = length bytes - w * length xs in
    let after : List ℕ = put bytes (w * length xs) (fixed_bytes true w v) in
    let f : length (fixed_bytes true w v) ≡ w = length-fixed true w v in
    let k : length after ≡ length bytes = length-put bytes (w * length xs) (fixed_bytes true w v) (omega arith) in
    let l : length (xs ++ (v ∷ [])) ≡ suc (length xs) = length-append xs (v ∷ []) ∙ add-one (length xs) in
    let p : w * length (xs ++ (v ∷ [])) ≡ w * length xs + w = ap (λ n. w * n) l ∙ mul-suc w (length xs) in
    let z : length (zeros m) ≡ m = length-replicate m 0 in
    record {
      are =
          ap (λ b. put b (w * length xs) (fixed_bytes true w v)) h.are
          ∙ run_more w xs (zeros m) v (omega arith)
          ∙ ap (λ b. run_bytes w (xs ++ (v ∷ [])) ++ b) (drop-zeros m w ∙ ap (λ n. zeros n) (let e : m - w ≡ length after - w * length (xs ++ (v ∷ [])) = omega arith in e));
      room = omega arith;
      small = small-append (256 ^ w) xs (v ∷ []) h.small (small_one (256 ^ w) v s);
    }
