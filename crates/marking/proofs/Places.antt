-- References that are put into a table: where it has room for them they stand one after the other, else the place is past its end. Assumes nothing.
use mathlib.Core.Path.{◌≡◌, refl, ap, ap₂, sym, ◌∙◌}
use mathlib.Core.Logic.{⊎_elim}
use Prim.Native.Nat.{ℕ, zero, suc, ◌+◌, ◌-◌, ◌≤◌, ◌<◌}
use mathlib.Core.List.{List, [], ◌∷◌, ◌++◌, append-nil}
use native.Mathlib.Omega.{arith}
use native.Mathlib.Numerals.{add-one}
use lib.ListN.{length, set, length-append}
use lib.Seq.{set_at, append_snoc}
use lib.Dec.{ltb, leb}
use mir.Facts.{no_ltb, ltb_yes, ltb_no, leb_yes, leb_no}
use Rattle.readers.specs.Choice.{zeros}
use Rattle.readers.proofs.Choice.{pick_no, either}
use Rattle.marking.specs.EntryReferences.{ReferencesFound, found, refused}
use Rattle.marking.specs.ReferenceTable.{next_place, placed, written, table_after}
use Rattle.marking.proofs.Placing.{place_inside, put-size}

next-inside : (room at : ℕ) → at < room → next_place room at ≡ suc at
next-inside room at h = sym (place_inside room at h) ∙ add-one at

next-outside : (room at : ℕ) → room ≤ at → next_place room at ≡ suc room
unfolding next_place
next-outside room at h = pick_no _ _ _ (no_ltb {a = at} {b = room} h)

pub placed-fits : (room at : ℕ) (xs : List ℕ) → at + length xs ≤ room → placed room at xs ≡ at + length xs
unfolding placed
placed-fits room at [] h = let e : at ≡ at + 0 = omega arith in e
placed-fits room at (x ∷ xs) h =
    ap (λ n. placed room n xs) (next-inside room at (let k : at + suc (length xs) ≤ room = h in omega arith))
    ∙ placed-fits room (suc at) xs (let k : at + suc (length xs) ≤ room = h in omega arith)
    ∙ (let e : suc at + length xs ≡ at + suc (length xs) = omega arith in e)

pub placed-over : (room at : ℕ) (xs : List ℕ) → room < at + length xs → room < placed room at xs
unfolding placed
placed-over room at [] h = let k : room < at + 0 = h in omega arith
placed-over room at (x ∷ xs) h =
    let k : room < at + suc (length xs) = h in
    ⊎_elim
    (λ t. rw (next-inside room at (ltb_yes {a = at} {b = room} t)) (placed-over room (suc at) xs (omega arith)))
    (λ t. rw (next-outside room at (ltb_no {a = at} {b = room} t)) (placed-over room (suc room) xs (omega arith)))
    (either (ltb at room))

-- a place inside the table is past all of them
pub fits-placed : (room at place : ℕ) (xs : List ℕ) → place ≡ placed room at xs → place ≤ room → at + length xs ≤ room
fits-placed room at place xs e h =
    ⊎_elim
    (λ t. leb_yes {a = at + length xs} {b = room} t)
    (λ t. let k : room < placed room at xs = placed-over room at xs (leb_no {a = at + length xs} {b = room} t) in absurd (omega arith))
    (either (leb (at + length xs) room))

-- a place past a part of the table: they don't all stand in that part
pub not-placed : (room at place part : ℕ) (xs : List ℕ) → place ≡ placed room at xs → part ≤ room → part < place → part < at + length xs
not-placed room at place part xs e h l =
    ⊎_elim
    (λ t. let k : at + length xs ≤ part = leb_yes {a = at + length xs} {b = part} t in
    let q : placed room at xs ≡ at + length xs = placed-fits room at xs (omega arith) in
    absurd (omega arith))
    (λ t. leb_no {a = at + length xs} {b = part} t)
    (either (leb (at + length xs) part))

length-written : (table : List ℕ) (at : ℕ) (xs : List ℕ) → length (written table at xs) ≡ length table
length-written table at xs = put-size table at xs (written table at xs) (placed (length table) at xs) (record { place = refl; numbers = refl })

pub length-table : (table : List ℕ) (at : ℕ) (f : ReferencesFound) → length (table_after table at f) ≡ length table
unfolding table_after
length-table table at (found xs) = length-written table at xs
length-table table at (refused xs n) = length-written table at xs

-- numbers after numbers, over zeros
pub written-onto : (p xs : List ℕ) (k at : ℕ) → length p ≡ at → length xs ≤ k → written (p ++ zeros k) at xs ≡ (p ++ xs) ++ zeros (k - length xs)
unfolding written
written-onto p [] k at a h = sym (ap₂ (λ (l : List ℕ) (n : ℕ). l ++ zeros n) (append-nil p) (let e : k - 0 ≡ k = omega arith in e))
written-onto p (x ∷ xs) zero at a h = let z : suc (length xs) ≤ 0 = h in absurd (omega arith)
written-onto p (x ∷ xs) (suc k) at a h =
    let hh : suc (length xs) ≤ suc k = h in
    let here : set (p ++ (0 ∷ zeros k)) at x ≡ (p ++ (x ∷ [])) ++ zeros k = set_at p 0 (zeros k) x at a ∙ sym (append_snoc p x (zeros k)) in
    let n : length (p ++ (0 ∷ zeros k)) ≡ length p + suc (length (zeros k)) = length-append p (0 ∷ zeros k) in
    let next : next_place (length (p ++ (0 ∷ zeros k))) at ≡ suc at = next-inside _ at (omega arith) in
    let l : length (p ++ (x ∷ [])) ≡ suc at = length-append p (x ∷ []) ∙ (let e : length p + 1 ≡ suc at = omega arith in e) in
    ap₂ (λ (t : List ℕ) (m : ℕ). written t m xs) here next
    ∙ written-onto (p ++ (x ∷ [])) xs k (suc at) l (omega arith)
    ∙ ap₂ (λ (t : List ℕ) (m : ℕ). t ++ zeros m) (append_snoc p x xs) (let e : k - length xs ≡ suc k - suc (length xs) = omega arith in e)
