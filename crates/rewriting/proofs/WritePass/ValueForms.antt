-- The tokens of forms, as emission tells them apart: references, indices, what is copied. Assumes nothing.
use mathlib.Core.Path.{◌≡◌, refl, ap, sym, ◌∙◌, subst}
use Prim.Native.Nat.{ℕ, ◌≤◌}
use native.Mathlib.Omega.{arith}
use mathlib.Core.Bool.{Bool, true, false, not}
use mathlib.Core.List.{List, [], ◌∷◌}
use mathlib.Core.Logic.{⊎_elim, ◌≢◌}
use lib.Dec.{T, leb, eqb}
use mir.Facts.{eqb_yes, eqb_no, yes_eqb, leb_yes}
use Rattle.readers.specs.Choice.{pick, ◌and◌, ◌or◌}
use Rattle.readers.proofs.Choice.{pick_yes, pick_no, pick-either, either, and_both}
use Rattle.readers.specs.Layout.{Kind, fixed, leb128, Role, reference, type_reference, sibling, index, absolute, Token, link, expression}
use Rattle.readers.specs.Tokens.{Use, plain, as', number_as, token_of}
use Rattle.readers.specs.Operations.{Codes}
use Rattle.readers.specs.Forms.{form_tokens, token_among, form_token, use_of, list_form}
use Rattle.readers.specs.declared.cursor.Encoding.{Encoding}
use Rattle.readers.proofs.OperationPieces.{is_leb, is_expression}
use Rattle.rewriting.specs.Inner.Emission.{leb_form}
use Rattle.rewriting.proofs.MapPass.Exact.{use_ok}

-- ---- Bools

or-last : (a b : Bool) → T (a or b) → T (not a) → T b
unfolding ◌or◌
or-last true b h n = absurd n
or-last false b h n = h

-- ---- the one form of expressions

unfoldable one_expression : List Codes → Bool
one_expression [] = true
one_expression (x ∷ xs) = (not (eqb x.row 19) or eqb x.from 0x18) and one_expression xs

or-other : (a b : Bool) → T (not a or b) → T a → T b
unfolding ◌or◌
or-other true b h t = h
or-other false b h t = absurd t

only_one : (xs : List Codes) (f : ℕ) → T (one_expression xs) → token_among xs f ≡ 19 → f ≡ 0x18
unfolding one_expression token_among
only_one [] f h q = absurd (let z : ◌≡◌ {A = ℕ} 21 19 = q in omega arith)
only_one (x ∷ xs) f h q =
    let p = and_both (not (eqb x.row 19) or eqb x.from 0x18) (one_expression xs) h in
    ⊎_elim
    (λ t. let r : x.row ≡ 19 = sym (pick_yes _ _ _ t) ∙ q in
    sym (eqb_yes {a = x.from} {b = f} t) ∙ eqb_yes {a = x.from} {b = 0x18} (or-other (eqb x.row 19) (eqb x.from 0x18) p.0 (yes_eqb {a = x.row} {b = 19} r)))
    (λ t. only_one xs f p.1 (sym (pick_no _ _ _ t) ∙ q))
    (either (eqb x.from f))

one_form : (f : ℕ) → form_token f ≡ 19 → f ≡ 0x18
unfolding form_token form_tokens one_expression ◌and◌ ◌or◌
one_form f q = only_one form_tokens f tt q

-- ---- what copies: no expression, and no number that becomes another

unfoldable pub only_absolute : Role → Bool
only_absolute reference = false
only_absolute type_reference = false
only_absolute sibling = false
only_absolute (index k) = false
only_absolute absolute = true

number-plain : (u : Use) (k : Kind) → is_expression (number_as u k) ≡ false
unfolding is_expression number_as
number-plain plain k = refl
number-plain (as' r) k = refl

module _ (e : Encoding) where
  no_expression : (u : Use) (n : ℕ) → (n ≡ 19 → ⊥) → is_expression (token_of e u n) ≡ false
  unfolding token_of is_expression
  no_expression u n h =
      pick-either (λ x. is_expression x ≡ false) _ _ _ (λ _. refl) (λ _.
      pick-either (λ x. is_expression x ≡ false) _ _ _ (λ _. number-plain u _) (λ _.
      pick-either (λ x. is_expression x ≡ false) _ _ _ (λ _. number-plain u _) (λ _.
      pick-either (λ x. is_expression x ≡ false) _ _ _ (λ _. number-plain u _) (λ _.
      pick-either (λ x. is_expression x ≡ false) _ _ _ (λ _. number-plain u _) (λ _.
      pick-either (λ x. is_expression x ≡ false) _ _ _ (λ _. refl) (λ _.
      pick-either (λ x. is_expression x ≡ false) _ _ _ (λ _. refl) (λ _.
      pick-either (λ x. is_expression x ≡ false) _ _ _ (λ _. refl) (λ _.
      pick-either (λ x. is_expression x ≡ false) _ _ _ (λ _. refl) (λ _.
      pick-either (λ x. is_expression x ≡ false) _ _ _ (λ _. refl) (λ _.
      pick-either (λ x. is_expression x ≡ false) _ _ _ (λ _. refl) (λ _.
      pick-either (λ x. is_expression x ≡ false) _ _ _ (λ _. refl) (λ _.
      pick-either (λ x. is_expression x ≡ false) _ _ _ (λ t. absurd (h (eqb_yes {a = n} {b = 19} t))) (λ _.
      pick-either (λ x. is_expression x ≡ false) _ _ _ (λ _. refl) (λ _. refl))))))))))))))

module _ (e : Encoding) (name : ℕ) where
  abbrev pub form_number_is : ℕ → Token
  form_number_is f = token_of e (use_of name f) (form_token f)

  -- a number that becomes another
  pub record LinkForm (role : Role) (f : ℕ) : Type 0 where
    pub kind : Kind
    pub token : form_number_is f ≡ link kind role
    pub way : is_leb kind ≡ leb_form f

  pub expression-form : (f : ℕ) → f ≡ 0x18 → form_number_is f ≡ expression
  unfolding use_of form_token form_tokens token_among token_of pick ◌and◌ ◌or◌
  expression-form f h = ap form_number_is h

  -- ---- references

  abbrev pub own : Role
  own = pick (eqb name 0x01) sibling reference

  ref1 : LinkForm own 0x11
  unfolding use_of form_token form_tokens token_among token_of number_as pick ◌and◌ ◌or◌ leb_form is_leb
  ref1 = record { kind = fixed 1; token = refl; way = refl }

  ref2 : LinkForm own 0x12
  unfolding use_of form_token form_tokens token_among token_of number_as pick ◌and◌ ◌or◌ leb_form is_leb
  ref2 = record { kind = fixed 2; token = refl; way = refl }

  ref4 : LinkForm own 0x13
  unfolding use_of form_token form_tokens token_among token_of number_as pick ◌and◌ ◌or◌ leb_form is_leb
  ref4 = record { kind = fixed 4; token = refl; way = refl }

  ref8 : LinkForm own 0x14
  unfolding use_of form_token form_tokens token_among token_of number_as pick ◌and◌ ◌or◌ leb_form is_leb
  ref8 = record { kind = fixed 8; token = refl; way = refl }

  ref-udata : LinkForm own 0x15
  unfolding use_of form_token form_tokens token_among token_of number_as pick ◌and◌ ◌or◌ leb_form is_leb
  ref-udata = record { kind = leb128; token = refl; way = refl }

  at-form : (role : Role) (n f : ℕ) → LinkForm role n → T (eqb f n) → LinkForm role f
  at-form role n f h t = subst (LinkForm role) (sym (eqb_yes {a = f} {b = n} t)) h

  pub reference-form : (f : ℕ) → 0x11 ≤ f → f ≤ 0x15 → LinkForm own f
  reference-form f lo hi =
      ⊎_elim (at-form own 0x11 f ref1) (λ t1.
      ⊎_elim (at-form own 0x12 f ref2) (λ t2.
      ⊎_elim (at-form own 0x13 f ref4) (λ t3.
      ⊎_elim (at-form own 0x14 f ref8) (λ t4.
      let n1 : f ≢ 0x11 = eqb_no t1 in let n2 : f ≢ 0x12 = eqb_no t2 in let n3 : f ≢ 0x13 = eqb_no t3 in let n4 : f ≢ 0x14 = eqb_no t4 in
      let z : f ≡ 0x15 = omega arith in
      at-form own 0x15 f ref-udata (yes_eqb {a = f} {b = 0x15} z))
      (either (eqb f 0x14))) (either (eqb f 0x13))) (either (eqb f 0x12))) (either (eqb f 0x11))

  -- ---- indices

  rnglistx : LinkForm (index 0) 0x23
  unfolding use_of form_token form_tokens token_among token_of number_as pick ◌and◌ ◌or◌ leb_form is_leb
  rnglistx = record { kind = leb128; token = refl; way = refl }

  loclistx : LinkForm (index 1) 0x22
  unfolding use_of form_token form_tokens token_among token_of number_as pick ◌and◌ ◌or◌ leb_form is_leb
  loclistx = record { kind = leb128; token = refl; way = refl }

  strx : LinkForm (index 2) 0x1a
  unfolding use_of form_token form_tokens token_among token_of number_as pick ◌and◌ ◌or◌ leb_form is_leb
  strx = record { kind = leb128; token = refl; way = refl }

  strx1 : LinkForm (index 2) 0x25
  unfolding use_of form_token form_tokens token_among token_of number_as pick ◌and◌ ◌or◌ leb_form is_leb
  strx1 = record { kind = fixed 1; token = refl; way = refl }

  strx2 : LinkForm (index 2) 0x26
  unfolding use_of form_token form_tokens token_among token_of number_as pick ◌and◌ ◌or◌ leb_form is_leb
  strx2 = record { kind = fixed 2; token = refl; way = refl }

  strx3 : LinkForm (index 2) 0x27
  unfolding use_of form_token form_tokens token_among token_of number_as pick ◌and◌ ◌or◌ leb_form is_leb
  strx3 = record { kind = fixed 3; token = refl; way = refl }

  strx4 : LinkForm (index 2) 0x28
  unfolding use_of form_token form_tokens token_among token_of number_as pick ◌and◌ ◌or◌ leb_form is_leb
  strx4 = record { kind = fixed 4; token = refl; way = refl }

  gnu-index : LinkForm (index 2) 0x1f02
  unfolding use_of form_token form_tokens token_among token_of number_as pick ◌and◌ ◌or◌ leb_form is_leb
  gnu-index = record { kind = leb128; token = refl; way = refl }

  fixed-form : (f : ℕ) → 0x25 ≤ f → f ≤ 0x28 → LinkForm (index 2) f
  fixed-form f lo hi =
      ⊎_elim (at-form (index 2) 0x25 f strx1) (λ t1.
      ⊎_elim (at-form (index 2) 0x26 f strx2) (λ t2.
      ⊎_elim (at-form (index 2) 0x27 f strx3) (λ t3.
      let n1 : f ≢ 0x25 = eqb_no t1 in let n2 : f ≢ 0x26 = eqb_no t2 in let n3 : f ≢ 0x27 = eqb_no t3 in
      let z : f ≡ 0x28 = omega arith in
      at-form (index 2) 0x28 f strx4 (yes_eqb {a = f} {b = 0x28} z))
      (either (eqb f 0x27))) (either (eqb f 0x26))) (either (eqb f 0x25))

  module _ (f : ℕ) where
    abbrev is_string : Bool
    is_string = eqb f 0x1a or (leb 0x25 f and leb f 0x28) or eqb f 0x1f02

    string-form : T is_string → LinkForm (index 2) f
    string-form h =
        ⊎_elim (at-form (index 2) 0x1a f strx) (λ t1.
        ⊎_elim (λ t. let p = and_both (leb 0x25 f) (leb f 0x28) t in fixed-form f (leb_yes {a = 0x25} {b = f} p.0) (leb_yes {a = f} {b = 0x28} p.1))
        (λ t2. at-form (index 2) 0x1f02 f gnu-index (or-last (leb 0x25 f and leb f 0x28) (eqb f 0x1f02) (or-last (eqb f 0x1a) _ h t1) t2))
        (either (leb 0x25 f and leb f 0x28))) (either (eqb f 0x1a))

    pub ranges-form : list_form f ≡ 0 → LinkForm (index 0) f
    unfolding list_form
    ranges-form h =
        ⊎_elim (at-form (index 0) 0x23 f rnglistx)
        (λ t. absurd (pick-either (λ n. n ≡ 0 → ⊥) (eqb f 0x22) 1 (pick is_string 2 3) (λ _ z. absurd (omega arith)) (λ _. pick-either (λ n. n ≡ 0 → ⊥) is_string 2 3 (λ _ z. absurd (omega arith)) (λ _ z. absurd (omega arith)))
        (sym (pick_no _ _ _ t) ∙ h)))
        (either (eqb f 0x23))

    pub locations-form : list_form f ≡ 1 → LinkForm (index 1) f
    unfolding list_form
    locations-form h =
        ⊎_elim (λ t. absurd (let z : 0 ≡ 1 = sym (pick_yes _ _ _ t) ∙ h in omega arith))
        (λ t. ⊎_elim (at-form (index 1) 0x22 f loclistx)
        (λ t2. absurd (pick-either (λ n. n ≡ 1 → ⊥) is_string 2 3 (λ _ z. absurd (omega arith)) (λ _ z. absurd (omega arith)) (sym (pick_no _ _ _ t ∙ pick_no _ _ _ t2) ∙ h)))
        (either (eqb f 0x22)))
        (either (eqb f 0x23))

    pub strings-form : list_form f ≡ 2 → LinkForm (index 2) f
    unfolding list_form
    strings-form h =
        ⊎_elim (λ t. absurd (let z : 0 ≡ 2 = sym (pick_yes _ _ _ t) ∙ h in omega arith))
        (λ t. ⊎_elim (λ t2. absurd (let z : 1 ≡ 2 = sym (pick_no _ _ _ t ∙ pick_yes _ _ _ t2) ∙ h in omega arith))
        (λ t2. ⊎_elim string-form
        (λ t3. absurd (let z : 3 ≡ 2 = sym (pick_no _ _ _ t ∙ pick_no _ _ _ t2 ∙ pick_no _ _ _ t3) ∙ h in omega arith))
        (either is_string))
        (either (eqb f 0x22)))
        (either (eqb f 0x23))

    -- ---- all others

    module _ (x : f ≡ 0x18 → ⊥) (r : (leb 0x11 f and leb f 0x15) ≡ false) (n0 : list_form f ≡ 0 → ⊥) (n1 : list_form f ≡ 1 → ⊥) (n2 : list_form f ≡ 2 → ⊥) where
      no_reference : T (leb 0x11 f and leb f 0x15) → ⊥
      no_reference t = let z : T false = subst T r t in z

      pub copied-use : T (use_ok only_absolute (use_of name f))
      unfolding use_of use_ok only_absolute list_form
      copied-use =
          pick-either (λ u. T (use_ok only_absolute u)) _ _ _ (λ t. absurd (no_reference t)) (λ _.
          pick-either (λ u. T (use_ok only_absolute u)) _ _ _ (λ _. tt) (λ _.
          pick-either (λ u. T (use_ok only_absolute u)) _ _ _ (λ t. absurd (n0 (pick_yes _ _ _ t))) (λ t.
          pick-either (λ u. T (use_ok only_absolute u)) _ _ _ (λ t2. absurd (n1 (pick_no _ _ _ t ∙ pick_yes _ _ _ t2))) (λ t2.
          pick-either (λ u. T (use_ok only_absolute u)) _ _ _ (λ t3. absurd (n2 (pick_no _ _ _ t ∙ pick_no _ _ _ t2 ∙ pick_yes _ _ _ t3))) (λ _. tt)))))

      pub copied-plain : is_expression (form_number_is f) ≡ false
      copied-plain = no_expression e (use_of name f) (form_token f) (λ q. x (one_form f q))
