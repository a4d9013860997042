-- What is read or else refused, as `o.ok_or(k)?` does it: both ways on. Assumes nothing.
use mathlib.Core.Path.{◌≡◌, refl, ap, sym, ◌∙◌}
use native.Mathlib.Omega.{arith}
use Prim.Native.Nat.{ℕ}
use Rattle.std.specs.Prelude.{Option, Some, None, Result, Ok, Err, IsErrAnd, ok_or}
use Rattle.std.proofs.lemmas.Result.{err_from_is_err_and}

abbrev refusal_or : {A E : Type 0} → E → Result A E → E
refusal_or k (Ok a) = k
refusal_or k (Err x) = x

abbrev told_or : {A E : Type 0} → Option A → Result A E → Option A
told_or o (Ok a) = Some a
told_or o (Err x) = o

-- the refusal: nothing was read, and the answer is the refusal
pub refused-none : {A B E : Type 0} (o : Option A) (k x : E) (r : Result A E) (s : Result B E)
    → r ≡ ok_or o k → r ≡ Err x → IsErrAnd s (λ y. y ≡ x) → (o ≡ None) × (s ≡ Err k)
refused-none None k x r s e f h =
    let p = err_from_is_err_and s h in
    let q : Err k ≡ Err x = sym e ∙ f in
    (refl, p.1 ∙ ap Err (p.2 ∙ sym (ap (refusal_or k) q)))
refused-none (Some a) k x r s e f h =
    let q : Ok a ≡ Err x = sym e ∙ f in
    let z : ◌≡◌ {A = ℕ} 0 1 = cc in
    absurd (omega arith)

-- the way on: what was read
pub read_some : {A E : Type 0} (o : Option A) (k : E) (a : A) (r : Result A E) → r ≡ ok_or o k → r ≡ Ok a → o ≡ Some a
read_some None k a r e f =
    let q : Err k ≡ Ok a = sym e ∙ f in
    let z : ◌≡◌ {A = ℕ} 0 1 = cc in
    absurd (omega arith)
read_some (Some b) k a r e f =
    let q : Ok b ≡ Ok a = sym e ∙ f in
    ap (told_or (Some b)) q

-- a refusal that `?` passes on
pub passed-on : {B E : Type 0} (s : Result B E) (x : E) → IsErrAnd s (λ y. y ≡ x) → s ≡ Err x
passed-on s x h = let p = err_from_is_err_and s h in p.1 ∙ ap Err p.2

-- equal answers hold equal values
abbrev value_or : {A E : Type 0} → A → Result A E → A
value_or d (Ok a) = a
value_or d (Err x) = d

pub same_ok : {A E : Type 0} (a b : A) → ◌≡◌ {A = Result A E} (Ok a) (Ok b) → a ≡ b
same_ok a b q = ap (value_or a) q
