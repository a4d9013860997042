-- Numbers in a lent table, from a place on. Assumes nothing.
use mathlib.Core.Path.{◌≡◌, refl, ap, ap₂, sym, ◌∙◌}
use Prim.Native.Nat.{ℕ, ◌+◌, ◌≤◌, ◌<◌}
use native.Mathlib.Numerals.{add-one}
use mathlib.Core.List.{List, [], ◌∷◌, ◌++◌}
use lib.ListN.{length, set, length-set}
use lib.Seq.{set_out}
use mir.Facts.{yes_ltb, no_ltb}
use Rattle.readers.proofs.Choice.{pick_yes, pick_no}
use Rattle.marking.specs.ReferenceTable.{next_place, placed, written}

-- ---- one number

pub place_inside : (room at : ℕ) → at < room → at + 1 ≡ next_place room at
unfolding next_place
place_inside room at h = add-one at ∙ sym (pick_yes _ _ _ (yes_ltb {a = at} {b = room} h))

pub put-past : (table : List ℕ) (at x : ℕ) → length table ≤ at → (length table + 1 ≡ next_place (length table) at) × (table ≡ set table at x)
unfolding next_place
put-past table at x h = (add-one (length table) ∙ sym (pick_no _ _ _ (no_ltb {a = at} {b = length table} h)), sym (set_out table at x h))

-- ---- more of them, and then more

placed-append : (room at : ℕ) (xs ys : List ℕ) → placed room at (xs ++ ys) ≡ placed room (placed room at xs) ys
unfolding placed
placed-append room at [] ys = refl
placed-append room at (x ∷ xs) ys = placed-append room (next_place room at) xs ys

length-written : (table : List ℕ) (at : ℕ) (xs : List ℕ) → length (written table at xs) ≡ length table
unfolding written
length-written table at [] = refl
length-written table at (x ∷ xs) = length-written (set table at x) (next_place (length table) at) xs ∙ length-set table at x

written-append : (table : List ℕ) (at : ℕ) (xs ys : List ℕ) → written table at (xs ++ ys) ≡ written (written table at xs) (placed (length table) at xs) ys
unfolding placed written
written-append table at [] ys = refl
written-append table at (x ∷ xs) ys =
    let next : ℕ = next_place (length table) at in
    written-append (set table at x) next xs ys
    ∙ ap (λ n. written (written (set table at x) next xs) (placed n next xs) ys) (length-set table at x)

-- a table and a place in it, after the numbers xs from `at` on
pub record Put (table₀ : List ℕ) (at : ℕ) (xs table : List ℕ) (to : ℕ) : Type 0 where
  pub place : to ≡ placed (length table₀) at xs
  pub numbers : table ≡ written table₀ at xs

pub put-none : (table : List ℕ) (at : ℕ) → Put table at [] table at
unfolding placed written
put-none table at = record { place = refl; numbers = refl }

pub put-size : (table₀ : List ℕ) (at : ℕ) (xs table : List ℕ) (to : ℕ) → Put table₀ at xs table to → length table ≡ length table₀
put-size table₀ at xs table to h = ap length h.numbers ∙ length-written table₀ at xs

pub put-more : (table₀ : List ℕ) (at : ℕ) (xs table : List ℕ) (to : ℕ) → Put table₀ at xs table to → (ys table' : List ℕ) (to' : ℕ)
    → to' ≡ placed (length table) to ys → table' ≡ written table to ys → Put table₀ at (xs ++ ys) table' to'
put-more table₀ at xs table to h ys table' to' p q =
    record {
      place = p ∙ ap₂ (λ n m. placed n m ys) (put-size table₀ at xs table to h) h.place ∙ sym (placed-append (length table₀) at xs ys);
      numbers = q ∙ ap₂ (λ l m. written l m ys) h.numbers h.place ∙ sym (written-append table₀ at xs ys);
    }

pub put_one : (table₀ : List ℕ) (at : ℕ) (xs table : List ℕ) (to : ℕ) → Put table₀ at xs table to → (x : ℕ) (table' : List ℕ) (to' : ℕ)
    → to' ≡ next_place (length table) to → table' ≡ set table to x → Put table₀ at (xs ++ (x ∷ [])) table' to'
unfolding placed written
put_one table₀ at xs table to h x table' to' p q = put-more table₀ at xs table to h (x ∷ []) table' to' p q

pub written-size : (table : List ℕ) (at : ℕ) (xs table' : List ℕ) → table' ≡ written table at xs → length table' ≡ length table
written-size table at xs table' q = ap length q ∙ length-written table at xs
