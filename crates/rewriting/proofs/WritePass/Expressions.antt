-- Which values are expressions: those in exprloc (0x18), not under DW_AT_sibling (0x01). Assumes nothing.
use mathlib.Core.Path.{◌≡◌, sym, ◌∙◌}
use Prim.Native.Nat.{ℕ}
use native.Mathlib.Omega.{arith}
use mathlib.Core.Bool.{Bool, true, false, not}
use mathlib.Core.List.{List, [], ◌∷◌}
use lib.Dec.{T, eqb, leb}
use mir.Facts.{eqb_yes, yes_eqb}
use Rattle.readers.specs.Choice.{pick, ◌and◌, ◌or◌}
use Rattle.readers.proofs.Choice.{pick-either, and_both}
use Rattle.readers.specs.Layout.{Kind, Token, nothing, number, bounded, forms, signed, link, string, run, block, expression, unknown}
use Rattle.readers.specs.Tokens.{Use, plain, as', number_as, token_of}
use Rattle.readers.specs.Operations.{Codes}
use Rattle.readers.specs.Forms.{form_tokens, token_among, form_token, use_of, in_version, value_token}
use Rattle.readers.specs.declared.cursor.Encoding.{Encoding}

unfoldable pub is_expression : Token → Bool
is_expression nothing = false
is_expression (number k) = false
is_expression (bounded n) = false
is_expression forms = false
is_expression signed = false
is_expression (link k r) = false
is_expression string = false
is_expression (run n) = false
is_expression (block k) = false
is_expression expression = true
is_expression unknown = false

-- token 19
module _ (e : Encoding) (u : Use) (n : ℕ) where
  abbrev Nineteen : Token → Type 0
  Nineteen t = T (is_expression t) → n ≡ 19

  no_number : (v : Use) (k : Kind) → Nineteen (number_as v k)
  unfolding number_as is_expression
  no_number plain k t = absurd t
  no_number (as' r) k t = absurd t

  nineteen : Nineteen (token_of e u n)
  unfolding token_of is_expression
  nineteen =
      pick-either Nineteen (eqb n 0) nothing _ (λ _ t. absurd t)
      (λ _. pick-either Nineteen (leb n 8) _ _ (λ _. no_number u _)
      (λ _. pick-either Nineteen (eqb n 9) _ _ (λ _. no_number u _)
      (λ _. pick-either Nineteen (eqb n 10) _ _ (λ _. no_number u _)
      (λ _. pick-either Nineteen (eqb n 11) _ _ (λ _. no_number u _)
      (λ _. pick-either Nineteen (eqb n 12) signed _ (λ _ t. absurd t)
      (λ _. pick-either Nineteen (eqb n 13) string _ (λ _ t. absurd t)
      (λ _. pick-either Nineteen (eqb n 14) (run 16) _ (λ _ t. absurd t)
      (λ _. pick-either Nineteen (eqb n 15) (block _) _ (λ _ t. absurd t)
      (λ _. pick-either Nineteen (eqb n 16) (block _) _ (λ _ t. absurd t)
      (λ _. pick-either Nineteen (eqb n 17) (block _) _ (λ _ t. absurd t)
      (λ _. pick-either Nineteen (eqb n 18) (block _) _ (λ _ t. absurd t)
      (λ _. pick-either Nineteen (eqb n 19) expression _ (λ q t. eqb_yes {a = n} {b = 19} q)
      (λ _. pick-either Nineteen (eqb n 20) (bounded 65535) unknown (λ _ t. absurd t) (λ _ t. absurd t))))))))))))))

-- of the forms only exprloc has it
unfoldable only : List Codes → Bool
only [] = true
only (x ∷ xs) = pick (eqb x.row 19) (eqb x.from 0x18) true and only xs

row-only : (a b : Bool) → T (pick a b true) → T a → T b
unfolding pick
row-only true b t u = t
row-only false b t u = absurd u

among : (f : ℕ) (xs : List Codes) → T (only xs) → token_among xs f ≡ 19 → f ≡ 0x18
unfolding only token_among
among f [] o = λ q. absurd (omega arith)
among f (x ∷ xs) o =
    let b = and_both (pick (eqb x.row 19) (eqb x.from 0x18) true) (only xs) o in
    pick-either (λ (n : ℕ). n ≡ 19 → f ≡ 0x18) (eqb x.from f) x.row (token_among xs f)
    (λ t q. sym (eqb_yes {a = x.from} {b = f} t) ∙ eqb_yes {a = x.from} {b = 0x18} (row-only (eqb x.row 19) (eqb x.from 0x18) b.0 (yes_eqb {a = x.row} {b = 19} q)))
    (λ t. among f xs b.1)

exprloc : (f : ℕ) → form_token f ≡ 19 → f ≡ 0x18
unfolding form_token form_tokens only pick ◌and◌
exprloc f = among f form_tokens tt

module _ (e : Encoding) (indirect : Bool) (name f : ℕ) where
  abbrev Exprloc : Token → Type 0
  Exprloc t = T (is_expression t) → (f ≡ 0x18) × (name ≡ 0x01 → ⊥)

  none_of : (x a b c : Bool) → T (not (x or (a and b) or c)) → T b → T a → ⊥
  unfolding ◌and◌ ◌or◌
  none_of true a b c t u v = t
  none_of false true true c t u v = t
  none_of false true false c t u v = u
  none_of false false b c t u v = v

  -- an expression is a value in exprloc, not a sibling
  pub value-exprloc : T (is_expression (value_token e indirect name f)) → (f ≡ 0x18) × (name ≡ 0x01 → ⊥)
  unfolding value_token is_expression
  value-exprloc =
      let foreign : Bool = not (in_version e.version f) in
      pick-either Exprloc (foreign or (eqb name 0x01 and eqb f 0x18) or (indirect and eqb f 0x21)) unknown (token_of e (use_of name f) (form_token f))
      (λ _ t. absurd t)
      (λ n t.
      let q : f ≡ 0x18 = exprloc f (nineteen e (use_of name f) (form_token f) t) in
      (q, λ z. none_of foreign (eqb name 0x01) (eqb f 0x18) (indirect and eqb f 0x21) n (yes_eqb {a = f} {b = 0x18} q) (yes_eqb {a = name} {b = 0x01} z)))
