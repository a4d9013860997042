-- "A refusal carries a number of document 01": the header's is 1 or 2, that of the references of an expression 2, 5, 7 or 11. Assumes nothing.
use mathlib.Core.Path.{◌≡◌, sym, ◌∙◌, subst, refl}
use Prim.Native.Nat.{ℕ, ◌/◌}
use mathlib.Core.Bool.{Bool, true, false, not}
use mathlib.Core.List.{List, [], ◌∷◌}
use mathlib.Core.Logic.{◌⊎◌, inl, inr, ⊎_elim}
use lib.Dec.{T, eqb, leb}
use mir.Facts.{eqb_yes, yes_eqb}
use Rattle.readers.specs.Choice.{◌and◌, ◌or◌, pick}
use Rattle.readers.proofs.Choice.{pick-either, and_both}
use Rattle.readers.specs.Header.{size_known, encoding_of, header_of}
use Rattle.readers.proofs.HeaderLaws.{header-cases}
use Rattle.readers.specs.References.{walk_of, walk_answer, references_answer}
use Rattle.laws.specs.RefusalNumbers.{OneOf, HeaderRefusal, ReferencesRefusal, list_numbers, header_numbers, ListRefusal}
use Rattle.std.specs.Prelude.{Err, None, Ok, Option, Result, Some}
use Rattle.readers.specs.declared.header.UnitHeader.{UnitHeader}
use Rattle.marking.specs.Analysis.{header_by, Sections}
use Rattle.marking.specs.KeepList.{keep_refusal, KeepList}
use Rattle.marking.proofs.ListedHeaders.{by-list}

-- ---- one of some numbers

-- the test of it, and of some numbers that they are among others
unfoldable pub is_one_of : List ℕ → ℕ → Bool
is_one_of [] n = false
is_one_of (m ∷ ms) n = eqb n m or is_one_of ms n

unfoldable pub are_of : List ℕ → List ℕ → Bool
are_of ks [] = true
are_of ks (m ∷ ms) = is_one_of ks m and are_of ks ms

or_cases : (a b : Bool) → T (a or b) → T a ⊎ T b
unfolding ◌or◌
or_cases true b t = inl tt
or_cases false b t = inr t

pub one_of : (ms : List ℕ) (n : ℕ) → T (is_one_of ms n) → OneOf ms n
unfolding OneOf is_one_of
one_of [] n t = t
one_of (m ∷ ms) n t = ⊎_elim (λ e. inl (eqb_yes {a = n} {b = m} e)) (λ u. inr (one_of ms n u)) (or_cases (eqb n m) (is_one_of ms n) t)

-- one of a few is one of more
pub wider : (ms ks : List ℕ) (n : ℕ) → T (are_of ks ms) → OneOf ms n → OneOf ks n
unfolding OneOf are_of
wider [] ks n t o = absurd o
wider (m ∷ ms) ks n t (inl e) = subst (OneOf ks) (sym e) (one_of ks m (and_both (is_one_of ks m) (are_of ks ms) t).0)
wider (m ∷ ms) ks n t (inr o) = wider ms ks n (and_both (is_one_of ks m) (are_of ks ms) t).1 o

or-first : (a b : Bool) → T (not (a or b)) → T a → ⊥
unfolding ◌or◌
or-first true b t h = t
or-first false b t h = h

or-rest : (a b : Bool) → T (not (a or b)) → T (not b)
unfolding ◌or◌
or-rest true b t = absurd t
or-rest false b t = t

-- a number that is not one of some
pub not-one-of : (ms : List ℕ) (n k : ℕ) → n ≡ k → T (not (is_one_of ms k)) → OneOf ms n → ⊥
unfolding OneOf is_one_of ◌or◌
not-one-of [] n k e t o = o
not-one-of (m ∷ ms) n k e t (inl q) = or-first (eqb k m) (is_one_of ms k) t (yes_eqb {a = k} {b = m} (sym e ∙ q))
not-one-of (m ∷ ms) n k e t (inr o) = not-one-of ms n k e (or-rest (eqb k m) (is_one_of ms k) t) o

-- none of some is one of others
unfoldable pub are_apart : List ℕ → List ℕ → Bool
are_apart ks [] = true
are_apart ks (m ∷ ms) = not (is_one_of ks m) and are_apart ks ms

pub apart : (ms ks : List ℕ) (n : ℕ) → T (are_apart ks ms) → OneOf ms n → OneOf ks n → ⊥
unfolding OneOf are_apart
apart [] ks n t o p = o
apart (m ∷ ms) ks n t (inl e) p = not-one-of ks n m e (and_both (not (is_one_of ks m)) (are_apart ks ms) t).0 p
apart (m ∷ ms) ks n t (inr o) p = apart ms ks n (and_both (not (is_one_of ks m)) (are_apart ks ms) t).1 o p

-- one of one
pub alone : (m n : ℕ) → OneOf (m ∷ []) n → n ≡ m
unfolding OneOf
alone m n (inl e) = e
alone m n (inr o) = absurd o

-- ---- the header: 1 or 2

unfoldable pub HeaderNumbered : List ℕ → Result (Option UnitHeader) ℕ → Type 0
HeaderNumbered ms (Ok None) = Unit {0}
HeaderNumbered ms (Err n) = OneOf ms n
HeaderNumbered ms (Ok (Some h)) = Unit {0}

refused-numbered : (ms : List ℕ) (n : ℕ) → OneOf ms n → HeaderNumbered ms (Err n)
unfolding HeaderNumbered
refused-numbered ms n o = o

header-among : (ms : List ℕ) → OneOf ms 1 → OneOf ms 2 → (big : Bool) (s : List ℕ) → HeaderNumbered ms (header_of big s)
unfolding HeaderNumbered
header-among ms one two big s =
    header-cases big s (HeaderNumbered ms) (λ _. tt) (refused-numbered ms 1 one) (refused-numbered ms 2 two) (λ h l. tt)

pub header-refusal : (big : Bool) (s : List ℕ) (n : ℕ) → header_of big s ≡ Err n → HeaderRefusal n
unfolding HeaderNumbered is_one_of ◌or◌
header-refusal big s n q = subst (HeaderNumbered header_numbers) q (header-among header_numbers (one_of _ 1 tt) (one_of _ 2 tt) big s)

-- ---- behind a keep list: 19 or 20 too

list-number : (a b : Bool) → (◌≡◌ {A = ℕ} (pick a (pick b 0 20) 19) 0 → ⊥) → ListRefusal (pick a (pick b 0 20) 19)
unfolding pick is_one_of ◌or◌
list-number true true n = absurd (n refl)
list-number true false n = one_of _ 20 tt
list-number false b n = one_of _ 19 tt

pub list-refusal : (keep : KeepList) → (keep_refusal keep ≡ 0 → ⊥) → ListRefusal (keep_refusal keep)
unfolding keep_refusal
list-refusal keep n = list-number _ _ n

-- the numbers of a header that is read behind a keep list
abbrev pub early_numbers : List ℕ
early_numbers = 19 ∷ 20 ∷ 1 ∷ 2 ∷ []

pub early-numbered : (x : Sections) (s : List ℕ) → HeaderNumbered early_numbers (header_by x s)
unfolding is_one_of are_of ◌or◌ ◌and◌
early-numbered x s =
    by-list x s (HeaderNumbered early_numbers)
    (λ _. header-among early_numbers (one_of _ 1 tt) (one_of _ 2 tt) x.setting.big_endian s)
    (λ n. refused-numbered early_numbers _ (wider list_numbers early_numbers _ tt (list-refusal x.keep n)))

pub early-refusal : (x : Sections) (s : List ℕ) (n : ℕ) → header_by x s ≡ Err n → OneOf early_numbers n
unfolding HeaderNumbered
early-refusal x s n q = subst (HeaderNumbered early_numbers) q (early-numbered x s)

-- ---- the references of an expression: 2, 5, 7 or 11

unfoldable ReferencesNumbered : Result ℕ ℕ → Type 0
ReferencesNumbered (Ok n) = Unit {0}
ReferencesNumbered (Err n) = ReferencesRefusal n

walk-numbered : (room : ℕ) (w : Option (ℕ × Bool)) → ReferencesNumbered (walk_answer room w)
unfolding walk_answer ReferencesNumbered is_one_of ◌or◌
walk-numbered room None = one_of _ 5 tt
walk-numbered room (Some (n, true)) = one_of _ 7 tt
walk-numbered room (Some (n, false)) = pick-either ReferencesNumbered (leb n room) (Ok n) (Err 11) (λ _. tt) (λ _. one_of _ 11 tt)

pub references-refusal : (a w : ℕ) (big : Bool) (numbers : ℕ) (s : List ℕ) (k : ℕ) → references_answer a w big numbers s ≡ Err k
    → ReferencesRefusal k
unfolding references_answer ReferencesNumbered is_one_of ◌or◌
references-refusal a w big numbers s k q =
    subst ReferencesNumbered q
    (pick-either ReferencesNumbered (size_known a and size_known w) (walk_answer (numbers / 3) (walk_of (encoding_of big 5 w a) s)) (Err 2)
    (λ _. walk-numbered (numbers / 3) (walk_of (encoding_of big 5 w a) s)) (λ _. one_of _ 2 tt))
