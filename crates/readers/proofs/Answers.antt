-- What references_of_expression answers, return by return (specs/References.antt: references_answer, references_table).
use mathlib.Core.Path.{◌≡◌, refl, ap, ap₂, sym, ◌∙◌, subst}
use Prim.Native.Nat.{ℕ, ◌*◌, ◌-◌, ◌/◌, ◌≤◌, ◌<◌}
use mathlib.Core.Bool.{Bool, true, false, not}
use Rattle.std.specs.Prelude.{Err, None, Ok, Option, Result, Some}
use Rattle.std.proofs.lemmas.Option.{some_pair_parts}
use mathlib.Core.List.{List, ◌++◌}
use native.Mathlib.Omega.{arith}
use lib.ListN.{length, length-replicate}
use lib.Dec.{T, leb, eqb}
use mir.Facts.{no_eqb, yes_leb, no_leb}
use Rattle.readers.specs.Choice.{pick, ◌and◌, ◌or◌, zeros}
use Rattle.readers.proofs.Choice.{pick_yes, pick_no}
use Rattle.readers.specs.Layout.{Piece}
use Rattle.readers.specs.Expression.{expression_in}
use Rattle.readers.specs.Header.{size_known, encoding_of}
use Rattle.readers.specs.References.{names_in, as_walk, walk_of, walk_answer, references_answer, numbers_of, names_or, references_in, answer_table, references_table, flat_from}
use Rattle.readers.specs.Inner.References.{Room}
use Rattle.readers.specs.declared.cursor.Encoding.{Encoding}
use Rattle.readers.proofs.Yields.{yields-all}

-- the references of an expression that was walked to its end, one after the other
module _ (e : Encoding) (s : List ℕ) (n : ℕ) (b : Bool) where
  walked-names : (o : Option (List Piece)) → expression_in e s ≡ o → as_walk e.big_endian o ≡ Some (n, b)
      → (flat_from e s 0 ≡ names_or e.big_endian o) × (length (flat_from e s 0) ≡ n)
  unfolding as_walk names_or
  walked-names None q w = let z : ◌≡◌ {A = ℕ} 0 1 = cc in absurd (omega arith)
  walked-names (Some ps) q w =
      let f : flat_from e s 0 ≡ names_in e.big_endian 0 ps = yields-all e s ps q in
      let k : length (names_in e.big_endian 0 ps) ≡ n = (some_pair_parts _ _ _ _ w).0 in
      (f, ap length f ∙ k)

  pub walked-flat : walk_of e s ≡ Some (n, b) → (flat_from e s 0 ≡ references_in e s) × (length (flat_from e s 0) ≡ n)
  unfolding walk_of references_in
  walked-flat w = walked-names _ refl w

pub known-4 : (n : ℕ) → n ≡ 4 → true ≡ size_known n
unfolding ◌or◌
known-4 n q = subst (λ (m : ℕ). true ≡ size_known m) (sym q) refl

pub known-8 : (n : ℕ) → (n ≡ 4 → ⊥) → eqb n 8 ≡ size_known n
unfolding ◌or◌
known-8 n q = by (eqb n 4) (no_eqb {a = n} {b = 4} q)
  where
    by : (x : Bool) → T (not x) → eqb n 8 ≡ (x or eqb n 8)
    by true t = absurd t
    by false t = refl

pub both-known : (a w : ℕ) (x y : Bool) → x ≡ size_known a → x ≡ true → y ≡ size_known w → y ≡ (size_known a and size_known w)
unfolding ◌and◌
both-known a w x y p t q = q ∙ ap (λ (b : Bool). b and size_known w) (sym t ∙ p)

pub one-unknown : (a w : ℕ) (x : Bool) → x ≡ size_known a → x ≡ false → false ≡ (size_known a and size_known w)
unfolding ◌and◌
one-unknown a w x p t = ap (λ (b : Bool). b and size_known w) (sym t ∙ p)

not-no : (x : Bool) → not x ≡ false → T x
not-no true p = tt
not-no false p = subst T p tt

-- the sizes are known, or not; the table t, cleared
module _ (a w : ℕ) (big : Bool) (s t : List ℕ) (numbers : ℕ) (cleared : t ≡ zeros numbers) (b : Bool) (known : b ≡ (size_known a and size_known w)) where
  abbrev Answers : Result ℕ ℕ → List ℕ → Type 0
  Answers r l = (r ≡ references_answer a w big numbers s) × (l ≡ references_table a w big numbers s)

  refused : (k : ℕ) → Err k ≡ references_answer a w big numbers s → Answers (Err k) t
  unfolding references_table answer_table
  refused k q = (q, cleared ∙ ap (λ r. answer_table numbers r (references_in (encoding_of big 5 w a) s)) q)

  pub refuse-size : not b ≡ true → Answers (Err 2) t
  unfolding references_answer
  refuse-size p = refused 2 (sym (pick_no _ _ _ (subst T (sym (ap not (sym known) ∙ p)) tt)))

  module _ (good : not b ≡ false) (u : Option (ℕ × Bool)) (is : u ≡ walk_of (encoding_of big 5 w a) s) where
    answer : (x : Option (ℕ × Bool)) → u ≡ x → walk_answer (numbers / 3) x ≡ references_answer a w big numbers s
    unfolding references_answer
    answer x q = ap (walk_answer (numbers / 3)) (sym q ∙ is) ∙ sym (pick_yes _ _ _ (subst T known (not-no b good)))

    pub refuse-walk : u ≡ None → Answers (Err 5) t
    unfolding walk_answer
    refuse-walk q = refused 5 (answer None q)

    module _ (n : ℕ) (c : Bool) (q : u ≡ Some (n, c)) where
      pub refuse-absolute : c ≡ true → Answers (Err 7) t
      unfolding walk_answer
      refuse-absolute p = refused 7 (ap (λ x. walk_answer (numbers / 3) (Some (n, x))) (sym p) ∙ answer (Some (n, c)) q)

      module _ (p : c ≡ false) where
        relative : pick (leb n (numbers / 3)) (Ok n) (Err 11) ≡ references_answer a w big numbers s
        unfolding walk_answer
        relative = ap (λ x. walk_answer (numbers / 3) (Some (n, x))) (sym p) ∙ answer (Some (n, c)) q

        same : length t ≡ numbers
        same = ap length cleared ∙ length-replicate numbers 0

        pub refuse-room : length t / 3 < n → Answers (Err 11) t
        refuse-room l =
            let k : numbers / 3 < n = subst (λ m. m / 3 < n) same l in
            refused 11 (sym (pick_no _ _ _ (no_leb {a = n} {b = numbers / 3} k)) ∙ relative)

        module _ (l : n ≤ length t / 3) where
          enough : n ≤ numbers / 3
          enough = subst (λ m. n ≤ m / 3) same l

          counts : Ok n ≡ references_answer a w big numbers s
          counts = sym (pick_yes _ _ _ (yes_leb {a = n} {b = numbers / 3} enough)) ∙ relative

          flat-is : (flat_from (encoding_of big 5 w a) s 0 ≡ references_in (encoding_of big 5 w a) s) × (length (flat_from (encoding_of big 5 w a) s 0) ≡ n)
          flat-is = walked-flat (encoding_of big 5 w a) s n c (sym is ∙ q)

          pub has_room : Room (flat_from (encoding_of big 5 w a) s 0) t n
          has_room = record { count = flat-is.1; fits = omega arith; cleared = cleared ∙ ap zeros (sym same) }

          pub accept : (l : List ℕ) → l ≡ numbers_of (flat_from (encoding_of big 5 w a) s 0) ++ zeros (length t - 3 * n) → Answers (Ok n) l
          unfolding references_table answer_table
          accept l f = (
            counts,
            f ∙ ap₂ (λ rs m. numbers_of rs ++ zeros (m - 3 * n)) flat-is.0 same
                ∙ ap (λ r. answer_table numbers r (references_in (encoding_of big 5 w a) s)) counts,
          )
