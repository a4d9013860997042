-- The forms of indices and of ULEB128 numbers, by what they are compared with. Assumes nothing.
use mathlib.Core.Path.{◌≡◌, refl, ap, sym, ◌∙◌}
use Prim.Native.Nat.{ℕ}
use mathlib.Core.Bool.{true}
use lib.Dec.{eqb}
use borrow.Author.Tests.{ne_eqb}
use Rattle.readers.specs.Choice.{◌or◌}
use Rattle.rewriting.specs.Inner.Emission.{leb_form}

module _ (f : ℕ) where
  pub leb-last : (f ≡ 0x15 → ⊥) → (f ≡ 0x1a → ⊥) → (f ≡ 0x22 → ⊥) → (f ≡ 0x23 → ⊥) → eqb f 0x1f02 ≡ leb_form f
  unfolding leb_form ◌or◌
  leb-last a b c d = rw (ne_eqb f 0x15 a, ne_eqb f 0x1a b, ne_eqb f 0x22 c, ne_eqb f 0x23 d)

  leb-is : (n : ℕ) → true ≡ leb_form n → f ≡ n → true ≡ leb_form f
  leb-is n h q = h ∙ ap leb_form (sym q)

  pub leb-reference : f ≡ 0x15 → true ≡ leb_form f
  unfolding leb_form ◌or◌
  leb-reference q = leb-is 0x15 refl q

  pub leb-string : f ≡ 0x1a → true ≡ leb_form f
  unfolding leb_form ◌or◌
  leb-string q = leb-is 0x1a refl q

  pub leb-location : f ≡ 0x22 → true ≡ leb_form f
  unfolding leb_form ◌or◌
  leb-location q = leb-is 0x22 refl q

  pub leb-range : f ≡ 0x23 → true ≡ leb_form f
  unfolding leb_form ◌or◌
  leb-range q = leb-is 0x23 refl q
