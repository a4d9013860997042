-- Numbers written one after the other from a place on.
use Prim.Native.Nat.{ℕ, suc, ◌+◌, ◌*◌, ◌≤◌, ◌<◌}
use mathlib.Core.Path.{◌≡◌, refl, ap, sym, ◌∙◌}
use mathlib.Core.Bool.{true}
use mathlib.Core.List.{List, [], ◌∷◌, ◌++◌, append_assoc, append-nil}
use native.Mathlib.Nat.{mul-zero, mul-suc, mul-le-mul_left}
use native.Mathlib.Numerals.{add-one}
use native.Mathlib.Omega.{arith}
use lib.ListN.{length, get_or, take, drop, length-append, take-append-drop}
use lib.Seq.{take_at, take-suc, take-length, drop-append-add, drop-drop, length-take-le}
use Rattle.readers.specs.Numbers.{fixed_bytes}
use Rattle.readers.proofs.Numbers.{length-fixed}
use Rattle.rewriting.specs.Written.{run_bytes}
use Rattle.readers.specs.Choice.{put}
use Rattle.rewriting.proofs.ListPass.Tables.{length_run, length-put}

-- bytes put behind bytes that were put
pub put-put : (s xs ys : List ℕ) (at k : ℕ) → at + length xs ≡ k → k ≤ length s → put (put s at xs) k ys ≡ put s at (xs ++ ys)
unfolding put
put-put s xs ys at k e h =
    let a : List ℕ = take at s in
    let d : List ℕ = drop (at + length xs) s in
    let n : length (a ++ xs) ≡ k = length-append a xs ∙ (let l : length a ≡ at = length-take-le at s (omega arith) in omega arith) in
    let f : a ++ (xs ++ d) ≡ (a ++ xs) ++ d = sym (append_assoc a xs d) in
    ap (λ l. take k l ++ (ys ++ drop (k + length ys) l)) f
    ∙ ap (λ l. l ++ (ys ++ drop (k + length ys) ((a ++ xs) ++ d))) (take_at (a ++ xs) d k n)
    ∙ ap (λ m. (a ++ xs) ++ (ys ++ drop (m + length ys) ((a ++ xs) ++ d))) (sym n)
    ∙ ap (λ l. (a ++ xs) ++ (ys ++ l)) (drop-append-add (a ++ xs) d (length ys) ∙ drop-drop (length ys) (at + length xs) s)
    ∙ append_assoc a xs (ys ++ drop (at + length xs + length ys) s)
    ∙ ap (λ l. a ++ l) (sym (append_assoc xs ys (drop (at + length xs + length ys) s)))
    ∙ ap (λ m. a ++ ((xs ++ ys) ++ drop m s)) (let w : at + length xs + length ys ≡ at + length (xs ++ ys) = omega (arith, length-append xs ys) in w)

-- where a run of numbers has room: after i of them, they stand from the place on
pub record Run (numbers : List ℕ) (width at : ℕ) (s₀ s : List ℕ) (to i : ℕ) : Type 0 where
  pub same : length s ≡ length s₀
  pub at-is : to ≡ at + width * i
  pub within : i ≤ length numbers
  pub so_far : at + width * length numbers ≤ length s₀ → s ≡ put s₀ at (run_bytes width (take i numbers))

run-snoc : (w v : ℕ) (xs : List ℕ) → run_bytes w (xs ++ (v ∷ [])) ≡ run_bytes w xs ++ fixed_bytes true w v
unfolding run_bytes
run-snoc w v [] = append-nil (fixed_bytes true w v)
run-snoc w v (x ∷ xs) = ap (λ l. fixed_bytes true w x ++ l) (run-snoc w v xs) ∙ sym (append_assoc (fixed_bytes true w x) (run_bytes w xs) (fixed_bytes true w v))

pub run-start : (numbers : List ℕ) (width at : ℕ) (s : List ℕ) → Run numbers width at s s at 0
unfolding run_bytes put
run-start numbers width at s =
    record {
      same = refl;
      at-is = let e : width * 0 ≡ 0 = mul-zero width in omega arith;
      within = omega arith;
      so_far = λ h. sym (take-append-drop at s) ∙ ap (λ n. take at s ++ drop n s) (let e : at ≡ at + 0 = omega arith in e);
    }

-- a number that is still to come has room
pub run_inside : (numbers : List ℕ) (width at : ℕ) (s₀ s : List ℕ) (to i : ℕ) → Run numbers width at s₀ s to i → i < length numbers → at + width * length numbers ≤ length s₀ → to + width ≤ length s
run_inside numbers width at s₀ s to i r l h =
    let e : width * suc i ≡ width * i + width = mul-suc width i in
    let m : width * suc i ≤ width * length numbers = mul-le-mul_left width l in
    omega (arith, r.same, r.at-is)

pub run_more : (numbers : List ℕ) (width at : ℕ) (s₀ s s' : List ℕ) (to i : ℕ) → Run numbers width at s₀ s to i → i < length numbers → to + width ≤ length s
    → s' ≡ put s to (fixed_bytes true width (get_or numbers i 0)) → Run numbers width at s₀ s' (to + width) (i + 1)
run_more numbers width at s₀ s s' to i r l h e =
    let v : ℕ = get_or numbers i 0 in
    let f : length (fixed_bytes true width v) ≡ width = length-fixed true width v in
    let k : length (take i numbers) ≡ i = length-take-le i numbers r.within in
    record {
      same = ap length e ∙ length-put s to (fixed_bytes true width v) (omega arith) ∙ r.same;
      at-is = let m : width * suc i ≡ width * i + width = mul-suc width i in let n : width * (i + 1) ≡ width * suc i = ap (λ (j : ℕ). width * j) (add-one i) in omega (arith, r.at-is);
      within = omega arith;
      so_far =
          λ room.
          e ∙ ap (λ x. put x to (fixed_bytes true width v)) (r.so_far room)
          ∙ put-put s₀ (run_bytes width (take i numbers)) (fixed_bytes true width v) at to
          (ap (λ n. at + n) (length_run width (take i numbers) ∙ ap (λ n. width * n) k) ∙ sym r.at-is) (omega (arith, r.same))
          ∙ ap (λ x. put s₀ at x) (sym (run-snoc width v (take i numbers)) ∙ ap (λ x. run_bytes width x) (sym (take-suc numbers i 0 l) ∙ ap (λ n. take n numbers) (sym (add-one i))));
    }

pub run-done : (numbers : List ℕ) (width at : ℕ) (s₀ s : List ℕ) (to i : ℕ) → Run numbers width at s₀ s to i → length numbers ≤ i → at + width * length numbers ≤ length s₀
    → s ≡ put s₀ at (run_bytes width numbers)
run-done numbers width at s₀ s to i r l h =
    let e : i ≡ length numbers = omega (arith, r.within) in
    r.so_far h ∙ ap (λ x. put s₀ at (run_bytes width x)) (ap (λ n. take n numbers) e ∙ take-length numbers)
