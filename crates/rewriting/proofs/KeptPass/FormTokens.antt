-- A value that can be read is by the token of its form: what bars it is unreadable. Assumes nothing.
use mathlib.Core.Path.{◌≡◌, ap, sym, ◌∙◌, subst}
use mathlib.Core.Logic.{◌⊎◌, inl, inr, ⊎_elim}
use Prim.Native.Nat.{ℕ}
use native.Mathlib.Omega.{arith}
use mathlib.Core.Bool.{Bool, not}
use mathlib.Core.List.{List}
use Rattle.std.specs.Prelude.{None, Some}
use lib.Dec.{eqb}
use Rattle.readers.specs.Choice.{◌and◌, ◌or◌}
use Rattle.readers.proofs.Choice.{pick_yes, pick_no, either, All, all_none}
use Rattle.readers.specs.Layout.{ReadOf, ExpressionReader, Token, unknown, token_in}
use Rattle.readers.specs.Tokens.{token_of}
use Rattle.readers.specs.Forms.{form_token, use_of, in_version, value_token}
use Rattle.readers.specs.declared.cursor.Encoding.{Encoding}

module _ (e : Encoding) (indirect : Bool) (name f : ℕ) where
  abbrev by_form : Token
  by_form = token_of e (use_of name f) (form_token f)

  barred-or : (value_token e indirect name f ≡ unknown) ⊎ (value_token e indirect name f ≡ by_form)
  unfolding value_token
  barred-or =
      ⊎_elim (λ t. inl (pick_yes _ _ _ t)) (λ t. inr (pick_no _ _ _ t))
      (either (not (in_version e.version f) or (eqb name 0x01 and eqb f 0x18) or (indirect and eqb f 0x21)))

  module _ (big : Bool) (ex : ExpressionReader) (s : List ℕ) where
    -- nothing is read of a value that is barred
    unread : value_token e indirect name f ≡ unknown → token_in big ex (value_token e indirect name f) s ≡ None
    unfolding token_in
    unread q = ap (λ (t : Token). token_in big ex t s) q

    pub token-known : (r : ReadOf) → token_in big ex (value_token e indirect name f) s ≡ Some r → value_token e indirect name f ≡ by_form
    token-known r q =
        ⊎_elim
        (λ b. let z : None ≡ Some r = sym (unread b) ∙ q in let y : ◌≡◌ {A = ℕ} 0 1 = cc in absurd (omega arith))
        (λ k. k)
        barred-or

    -- so what holds of every value that is by its form's token holds of all that is read
    pub all_known : (P : ReadOf → Type 0) → (value_token e indirect name f ≡ by_form → All P (token_in big ex (value_token e indirect name f) s))
        → All P (token_in big ex (value_token e indirect name f) s)
    all_known P h = ⊎_elim (λ b. subst (All P) (sym (unread b)) (all_none P)) h barred-or
