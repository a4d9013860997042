-- What the code keeps of the open entries follows them: an entry opens them as the definition does, and a terminator closes them.
use mathlib.Core.Path.{◌≡◌, refl, ap, ap₂, sym, ◌∙◌, subst}
use Prim.Native.Nat.{ℕ, zero, suc, ◌+◌, ◌-◌, ◌^◌, ◌≤◌, ◌<◌}
use mathlib.Core.Bool.{Bool, true, false, not}
use mathlib.Core.List.{List, [], ◌∷◌}
use native.Mathlib.Omega.{arith}
use lib.ListN.{length, get_or}
use lib.Dec.{T}
use mir.Facts.{yes_ltb, no_ltb, yes_eqb, no_eqb}
use Rattle.readers.proofs.Choice.{pick_yes, pick_no}
use Rattle.readers.specs.Nesting.{no_parent, opened, closed, top, nesting_of, nesting_opened, nesting_closed}
use Rattle.readers.specs.declared.entries.Nesting.{Nesting}
use Rattle.readers.specs.Inner.Nesting.{Chain}

abbrev pub nesting : ℕ → ℕ → Nesting
nesting depth parent = record { depth = depth; parent = record { 0 = parent } }

pub opens : (children : Bool) (k : ℕ) (n : Nesting) → children ≡ true → n.depth < 18446744073709551615 → nesting (n.depth + 1) k ≡ nesting_opened children k n
unfolding nesting_opened
opens children k n e h = sym (pick_yes _ _ _ (subst T (sym e) tt) ∙ pick_yes _ _ _ (yes_ltb {a = n.depth} {b = 2 ^ 64 - 1} h))

pub opens-over : (children : Bool) (k : ℕ) (n : Nesting) → children ≡ true → 18446744073709551615 ≤ n.depth → n ≡ nesting_opened children k n
unfolding nesting_opened
opens-over children k n e h = sym (pick_yes _ _ _ (subst T (sym e) tt) ∙ pick_no _ _ _ (no_ltb {a = n.depth} {b = 2 ^ 64 - 1} h))

pub opens-none : (children : Bool) (k : ℕ) (n : Nesting) → children ≡ false → n ≡ nesting_opened children k n
unfolding nesting_opened
opens-none children k n e = sym (pick_no _ _ _ (subst (λ b. T (not b)) (sym e) tt))

pub closes-none : (parents : List ℕ) (n : Nesting) → n.depth ≡ 0 → n ≡ nesting_closed parents n
unfolding nesting_closed
closes-none parents n h = sym (pick_yes _ _ _ (yes_eqb {a = n.depth} {b = 0} h))

pub closes : (parents : List ℕ) (n : Nesting) → (n.depth ≡ 0 → ⊥)
    → nesting (n.depth - 1) (get_or parents n.parent.0 no_parent) ≡ nesting_closed parents n
unfolding nesting_closed
closes parents n h = sym (pick_no _ _ _ (no_eqb {a = n.depth} {b = 0} h))

pub get_d_any : (l : List ℕ) (i a b : ℕ) → i < length l → get_or l i a ≡ get_or l i b
get_d_any [] i a b h = absurd (omega arith)
get_d_any (x ∷ l) zero a b h = refl
get_d_any (x ∷ l) (suc i) a b h = get_d_any l i a b (omega arith)

-- ---- by the definition

pub opened-is : (children : Bool) (k : ℕ) (stack : List ℕ) → length stack < 2 ^ 64 - 1
    → nesting_opened children k (nesting_of stack) ≡ nesting_of (opened children k stack)
unfolding nesting_of opened top
opened-is true k stack h =
    sym (opens true k (nesting_of stack) refl (omega arith)) ∙ ap (λ (d : ℕ). nesting d k) (let e : length stack + 1 ≡ suc (length stack) = omega arith in e)
opened-is false k stack h = sym (opens-none false k (nesting_of stack) refl)

pub closed_is : (parents stack : List ℕ) → Chain parents stack → nesting_closed parents (nesting_of stack) ≡ nesting_of (closed stack)
unfolding nesting_of closed top Chain
closed_is parents [] h = sym (closes-none parents (nesting_of []) refl)
closed_is parents (k ∷ stack) h =
    sym (closes parents (nesting_of (k ∷ stack)) (λ q. absurd (let z : suc (length stack) ≡ 0 = q in omega arith)))
    ∙ ap₂ nesting (let e : suc (length stack) - 1 ≡ length stack = omega arith in e) h.0

-- a stack whose entries are each other's parents stays so
pub chain-opened : (parents : List ℕ) (children : Bool) (k : ℕ) (stack : List ℕ) → get_or parents k no_parent ≡ top stack → Chain parents stack
    → Chain parents (opened children k stack)
unfolding Chain opened
chain-opened parents true k stack e h = (e, h)
chain-opened parents false k stack e h = h

pub chain-closed : (parents stack : List ℕ) → Chain parents stack → Chain parents (closed stack)
unfolding Chain closed
chain-closed parents [] h = tt
chain-closed parents (k ∷ stack) h = h.1

pub length-opened : {A : Type 0} (children : Bool) (x : A) (stack : List A) → length (opened children x stack) ≤ suc (length stack)
unfolding opened
length-opened true x stack = omega arith
length-opened false x stack = omega arith

pub length-closed : {A : Type 0} (stack : List A) → length (closed stack) ≤ length stack
unfolding closed
length-closed [] = omega arith
length-closed (x ∷ stack) = let z : length stack ≤ suc (length stack) = omega arith in z
