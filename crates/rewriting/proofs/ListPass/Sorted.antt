-- An index list is ascending and holds exactly the numbers that were put into it; a number's rank is its place.
use Prim.Native.Nat.{ℕ, suc, ◌≤◌}
use mathlib.Core.Path.{◌≡◌, refl}
use mathlib.Core.List.{List, [], ◌∷◌, ◌++◌}
use mathlib.Core.Logic.{◌⊎◌, inl, inr, ⊎_elim, ◌↔◌}
use native.Mathlib.Omega.{arith}
use lib.ListN.{length}
use lib.Dec.{ltb, eqb}
use mir.Facts.{ltb_yes, ltb_no, eqb_yes, eqb_no}
use Rattle.readers.specs.Choice.{pick}
use Rattle.readers.proofs.Choice.{pick-either}
use Rattle.marking.specs.Resolution.{Ascending as From}
use Rattle.marking.specs.Members.{Member, here, there}
use Rattle.marking.proofs.Members.{nothing-in, in-cases}
use Rattle.rewriting.specs.Ascending.{Ascending}
use Rattle.rewriting.specs.Indices.{insert, insert_all}

-- ---- ascending lists

pub from_less : (a b : ℕ) (xs : List ℕ) → a ≤ b → From b xs → From a xs
unfolding From
from_less a b [] h f = tt
from_less a b (x ∷ xs) h f = let k : b ≤ x = f.0 in (omega arith, f.1)

-- ---- insertion

pub insert-from : (low v : ℕ) (xs : List ℕ) → low ≤ v → From low xs → From low (insert v xs)
unfolding From insert
insert-from low v [] h f = (h, tt)
insert-from low v (x ∷ xs) h f =
    pick-either (From low) (ltb v x) (v ∷ x ∷ xs) (pick (eqb v x) (x ∷ xs) (x ∷ insert v xs))
    (λ t. (h, (ltb_yes {a = v} {b = x} t, f.1)))
    (λ t. pick-either (From low) (eqb v x) (x ∷ xs) (x ∷ insert v xs)
    (λ u. f)
    (λ u. (f.0, insert-from (suc x) v xs (omega (arith, ltb_no {a = v} {b = x} t, eqb_no {a = v} {b = x} u)) f.1)))

all-ascending : (vs xs : List ℕ) → Ascending xs → Ascending (insert_all vs xs)
unfolding insert_all
all-ascending [] xs f = f
all-ascending (v ∷ vs) xs f = all-ascending vs (insert v xs) (insert-from 0 v xs (omega arith) f)

pub sorted-ascending : (vs : List ℕ) → Ascending (insert_all vs [])
unfolding From
sorted-ascending vs = all-ascending vs [] tt

insert-new : (v : ℕ) (xs : List ℕ) → Member v (insert v xs)
unfolding insert
insert-new v [] = here refl
insert-new v (x ∷ xs) =
    pick-either (Member v) (ltb v x) (v ∷ x ∷ xs) (pick (eqb v x) (x ∷ xs) (x ∷ insert v xs))
    (λ t. here refl)
    (λ t. pick-either (Member v) (eqb v x) (x ∷ xs) (x ∷ insert v xs) (λ u. here (eqb_yes {a = v} {b = x} u)) (λ u. there (insert-new v xs)))

insert-old : (w v : ℕ) (xs : List ℕ) → Member w xs → Member w (insert v xs)
unfolding insert
insert-old w v [] m = absurd (nothing-in w m)
insert-old w v (x ∷ xs) (here e) =
    pick-either (Member w) (ltb v x) (v ∷ x ∷ xs) (pick (eqb v x) (x ∷ xs) (x ∷ insert v xs))
    (λ t. there (here e))
    (λ t. pick-either (Member w) (eqb v x) (x ∷ xs) (x ∷ insert v xs) (λ u. here e) (λ u. here e))
insert-old w v (x ∷ xs) (there m) =
    pick-either (Member w) (ltb v x) (v ∷ x ∷ xs) (pick (eqb v x) (x ∷ xs) (x ∷ insert v xs))
    (λ t. there (there m))
    (λ t. pick-either (Member w) (eqb v x) (x ∷ xs) (x ∷ insert v xs) (λ u. there m) (λ u. there (insert-old w v xs m)))

insert-out : (w v : ℕ) (xs : List ℕ) → Member w (insert v xs) → (w ≡ v) ⊎ Member w xs
unfolding insert
insert-out w v [] = λ m. in-cases m
insert-out w v (x ∷ xs) =
    pick-either (λ (l : List ℕ). Member w l → (w ≡ v) ⊎ Member w (x ∷ xs)) (ltb v x) (v ∷ x ∷ xs) (pick (eqb v x) (x ∷ xs) (x ∷ insert v xs))
    (λ t m. in-cases m)
    (λ t. pick-either (λ (l : List ℕ). Member w l → (w ≡ v) ⊎ Member w (x ∷ xs)) (eqb v x) (x ∷ xs) (x ∷ insert v xs)
    (λ u m. inr m)
    (λ u m. ⊎_elim (λ (e : w ≡ x). inr (here e)) (λ (n : Member w (insert v xs)). ⊎_elim (λ (e : w ≡ v). inl e) (λ (k : Member w xs). inr (there k)) (insert-out w v xs n)) (in-cases m)))

all_old : (w : ℕ) (vs xs : List ℕ) → Member w xs → Member w (insert_all vs xs)
unfolding insert_all
all_old w [] xs m = m
all_old w (v ∷ vs) xs m = all_old w vs (insert v xs) (insert-old w v xs m)

all_new : (w : ℕ) (vs xs : List ℕ) → Member w vs → Member w (insert_all vs xs)
unfolding insert_all
all_new w [] xs m = absurd (nothing-in w m)
all_new w (v ∷ vs) xs (here e) = all_old w vs (insert v xs) (rw e (insert-new v xs))
all_new w (v ∷ vs) xs (there m) = all_new w vs (insert v xs) m

all-out : (w : ℕ) (vs xs : List ℕ) → Member w (insert_all vs xs) → Member w vs ⊎ Member w xs
unfolding insert_all
all-out w [] xs m = inr m
all-out w (v ∷ vs) xs m =
    ⊎_elim (λ (n : Member w vs). inl (there n)) (λ (n : Member w (insert v xs)). ⊎_elim (λ (e : w ≡ v). inl (here e)) (λ (k : Member w xs). inr k) (insert-out w v xs n))
    (all-out w vs (insert v xs) m)

-- a list holds exactly what was put into it
pub sorted-member : (v : ℕ) (vs : List ℕ) → Member v (insert_all vs []) ↔ Member v vs
sorted-member v vs =
    ((λ m. ⊎_elim (λ (n : Member v vs). n) (λ (n : Member v []). absurd (nothing-in v n)) (all-out v vs [] m)), all_new v vs [])

-- ---- insertion, one number after the others

pub insert-grows : (v : ℕ) (xs : List ℕ) → length xs ≤ length (insert v xs)
unfolding insert
insert-grows v [] = omega arith
insert-grows v (x ∷ xs) =
    pick-either (λ (l : List ℕ). length (x ∷ xs) ≤ length l) (ltb v x) (v ∷ x ∷ xs) (pick (eqb v x) (x ∷ xs) (x ∷ insert v xs))
    (λ t. omega arith)
    (λ t. pick-either (λ (l : List ℕ). length (x ∷ xs) ≤ length l) (eqb v x) (x ∷ xs) (x ∷ insert v xs) (λ u. omega arith) (λ u. omega (arith, insert-grows v xs)))

pub insert-most : (v : ℕ) (xs : List ℕ) → length (insert v xs) ≤ suc (length xs)
unfolding insert
insert-most v [] = omega arith
insert-most v (x ∷ xs) =
    pick-either (λ (l : List ℕ). length l ≤ suc (length (x ∷ xs))) (ltb v x) (v ∷ x ∷ xs) (pick (eqb v x) (x ∷ xs) (x ∷ insert v xs))
    (λ t. omega arith)
    (λ t. pick-either (λ (l : List ℕ). length l ≤ suc (length (x ∷ xs))) (eqb v x) (x ∷ xs) (x ∷ insert v xs) (λ u. omega arith) (λ u. omega (arith, insert-most v xs)))

pub all-grow : (vs xs : List ℕ) → length xs ≤ length (insert_all vs xs)
unfolding insert_all
all-grow [] xs = omega arith
all-grow (v ∷ vs) xs = omega (arith, insert-grows v xs, all-grow vs (insert v xs))

pub all_append : (vs ws xs : List ℕ) → insert_all (vs ++ ws) xs ≡ insert_all ws (insert_all vs xs)
unfolding insert_all
all_append [] ws xs = refl
all_append (v ∷ vs) ws xs = all_append vs ws (insert v xs)

pub all_more : (vs : List ℕ) (v : ℕ) → insert_all (vs ++ (v ∷ [])) [] ≡ insert v (insert_all vs [])
unfolding insert_all
all_more vs v = all_append vs (v ∷ []) []
