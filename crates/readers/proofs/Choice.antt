-- Laws of choices, and of readings that may fail, as `All P o`: P holds of what the Option o holds, if it holds something.
use mathlib.Core.Path.{◌≡◌, refl, ap, subst, ◌∙◌}
use mathlib.Core.Bool.{Bool, true, false, not}
use mathlib.Core.Logic.{◌⊎◌, inl, inr}
use Rattle.std.specs.Prelude.{None, Option, Some}
use mathlib.Core.List.{List}
use Prim.Native.Nat.{ℕ, ◌+◌, ◌-◌, ◌≤◌}
use native.Mathlib.Omega.{arith}
use lib.ListN.{length, drop, length-drop}
use lib.Seq.{drop-drop}
use lib.Dec.{T}
use Rattle.readers.specs.Choice.{bind, check, pick, ◌and◌}

unfoldable pub All : {A : Type 0} → (A → Type 0) → Option A → Type 0
All P None = Unit {0}
All P (Some a) = P a

-- ---- choices

pub pick_yes {ℓ} : {X : Type ℓ} (b : Bool) (x y : X) → T b → pick b x y ≡ x
unfolding pick
pick_yes true x y t = refl
pick_yes false x y t = absurd t

pub pick_no {ℓ} : {X : Type ℓ} (b : Bool) (x y : X) → T (not b) → pick b x y ≡ y
unfolding pick
pick_no true x y t = absurd t
pick_no false x y t = refl

pub check-yes : {X : Type 0} (b : Bool) (x : Option X) → T b → check b x ≡ x
unfolding check
check-yes true x t = refl
check-yes false x t = absurd t

pub check-no : {X : Type 0} (b : Bool) (x : Option X) → T (not b) → check b x ≡ None
unfolding check
check-no true x t = absurd t
check-no false x t = refl

pub either : (b : Bool) → T b ⊎ T (not b)
either true = inl tt
either false = inr tt

pub pick-either {ℓ κ} : {X : Type ℓ} (P : X → Type κ) (b : Bool) (x y : X) → (T b → P x) → (T (not b) → P y) → P (pick b x y)
unfolding pick
pick-either P true x y f g = f tt
pick-either P false x y f g = g tt

-- two tests
pub and_both : (a b : Bool) → T (a and b) → T a × T b
unfolding ◌and◌
and_both true b t = (tt, t)
and_both false b t = absurd t

pub both-and : (a b : Bool) → T a → T b → T (a and b)
unfolding ◌and◌
both-and true b s t = t
both-and false b s t = absurd s

pub check-cong : {X : Type 0} (b : Bool) (x y : Option X) → (T b → x ≡ y) → check b x ≡ check b y
unfolding check
check-cong true x y h = h tt
check-cong false x y h = refl

-- ---- readings in a row

pub bind-at : {A : Type 0} {B : Type 0} {o : Option A} {a : A} (f : A → Option B) → o ≡ Some a → bind o f ≡ f a
unfolding bind
bind-at f e = ap (λ o. bind o f) e

pub bind-none : {A : Type 0} {B : Type 0} {o : Option A} (f : A → Option B) → o ≡ None → bind o f ≡ None
unfolding bind
bind-none f e = ap (λ o. bind o f) e

pub bind-cong : {A : Type 0} {B : Type 0} (P : A → Type 0) (o : Option A) (f g : A → Option B)
    → All P o → ((a : A) → o ≡ Some a → P a → f a ≡ g a) → bind o f ≡ bind o g
unfolding bind All
bind-cong P None f g h k = refl
bind-cong P (Some a) f g h k = k a refl h

pub bind-bind : {A : Type 0} {B : Type 0} {C : Type 0} (o : Option A) (f : A → Option B) (g : B → Option C)
    → bind (bind o f) g ≡ bind o (λ a. bind (f a) g)
unfolding bind
bind-bind None f g = refl
bind-bind (Some a) f g = refl

pub bind-ext : {A : Type 0} {B : Type 0} (o : Option A) (f g : A → Option B) → ((a : A) → f a ≡ g a) → bind o f ≡ bind o g
unfolding bind
bind-ext None f g h = refl
bind-ext (Some a) f g h = h a

-- ---- what holds of a reading

pub all-some : {A : Type 0} (P : A → Type 0) {a : A} → P a → All P (Some a)
unfolding All
all-some P p = p

pub all_none : {A : Type 0} (P : A → Type 0) → All P None
unfolding All
all_none P = tt

pub all_of : {A : Type 0} (P : A → Type 0) {o : Option A} {a : A} → All P o → o ≡ Some a → P a
unfolding All
all_of P h e = subst (All P) e h

pub all-pick : {A : Type 0} (P : A → Type 0) (b : Bool) (x y : Option A) → (T b → All P x) → (T (not b) → All P y) → All P (pick b x y)
unfolding pick
all-pick P true x y f g = f tt
all-pick P false x y f g = g tt

pub all-check : {A : Type 0} (P : A → Type 0) (b : Bool) (x : Option A) → (T b → All P x) → All P (check b x)
unfolding check All
all-check P true x f = f tt
all-check P false x f = tt

pub all-bind : {A : Type 0} {B : Type 0} (Q : A → Type 0) (P : B → Type 0) (o : Option A) (f : A → Option B)
    → All Q o → ((a : A) → o ≡ Some a → Q a → All P (f a)) → All P (bind o f)
unfolding bind All
all-bind Q P None f h g = tt
all-bind Q P (Some a) f h g = g a refl h

pub all-triv : {A : Type 0} (o : Option A) → All (λ (a : A). Unit {0}) o
unfolding All
all-triv None = tt
all-triv (Some a) = tt

pub all_both : {A : Type 0} (P Q : A → Type 0) (o : Option A) → All P o → All Q o → All (λ a. P a × Q a) o
unfolding All
all_both P Q None p q = tt
all_both P Q (Some a) p q = (p, q)

pub all_map : {A : Type 0} (P Q : A → Type 0) (o : Option A) → ((a : A) → P a → Q a) → All P o → All Q o
unfolding All
all_map P Q None g h = tt
all_map P Q (Some a) g h = g a h

-- ---- how far a reading came: of s it took n bytes, and rest is left

abbrev pub Took : List ℕ → ℕ → List ℕ → Type 0
Took s n rest = (n ≤ length s) × (rest ≡ drop n s)

pub took-none : (s : List ℕ) → Took s 0 s
took-none s = (omega arith, refl)

pub took-add : (s : List ℕ) (n m : ℕ) (r r' : List ℕ) → Took s n r → Took r m r' → Took s (n + m) r'
took-add s n m r r' p q =
    let l : length r ≡ length s - n = ap length p.1 ∙ length-drop n s in
    let h : m ≤ length r = q.0 in
    let k : n ≤ length s = p.0 in
    (omega arith, q.1 ∙ ap (drop m) p.1 ∙ drop-drop m n s)

pub took-length : (s : List ℕ) (n : ℕ) (r : List ℕ) → Took s n r → length s ≡ n + length r
took-length s n r p =
    let l : length r ≡ length s - n = ap length p.1 ∙ length-drop n s in
    let k : n ≤ length s = p.0 in
    omega arith
