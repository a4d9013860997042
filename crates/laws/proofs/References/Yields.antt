-- From the start of an expression that was walked to its end `next_reference` yields its references. Assumes nothing.
use mathlib.Core.Path.{◌≡◌, refl, sym, ◌∙◌, subst}
use Prim.Native.Nat.{ℕ}
use mathlib.Core.List.{List, [], ◌∷◌}
use native.Mathlib.Omega.{arith}
use Rattle.readers.specs.References.{Named, encoded_by, next_reference, flat_from, walk_of, references_in}
use Rattle.laws.specs.Yields.{Yields, no_more, one_more}
use Rattle.readers.specs.declared.cursor.Encoding.{Encoding}
use Rattle.std.specs.Prelude.{None, Option, Some}
use Rattle.readers.specs.declared.expressions.Reference.{Reference}
use Rattle.readers.proofs.Yields.{flat-next, flat_by}
use mathlib.Core.Bool.{Bool}
use Rattle.readers.proofs.Answers.{walked-flat}

module _ (e : Encoding) (s : List ℕ) where
  -- one after the other, these are all
  none_left : (at : ℕ) (y : Option Reference) → next_reference e s at ≡ y → (flat_by e s) y ≡ [] → Yields e s at []
  unfolding flat_by
  none_left at None p h = no_more p
  none_left at (Some r) p h = let z : ◌≡◌ {A = ℕ} 0 1 = cc in absurd (omega arith)

  one_left : (x : Named) (xs : List Named) → ((n : ℕ) → flat_from e s n ≡ xs → Yields e s n xs) → (at : ℕ) (y : Option Reference) → next_reference e s at ≡ y → (flat_by e s) y ≡ x ∷ xs
      → Yields e s at (x ∷ xs)
  unfolding flat_by
  one_left x xs ih at None p h = let z : ◌≡◌ {A = ℕ} 0 1 = cc in absurd (omega arith)
  one_left x xs ih at (Some r) p h =
      let i : (r.place, r.target.0, encoded_by r.leb r.width) ≡ x = cc in
      let j : flat_from e s r.next.at ≡ xs = cc in
      subst (λ z. Yields e s at (z ∷ xs)) i (one_more r p (ih r.next.at j))

  pub yields : (rs : List Named) (at : ℕ) → flat_from e s at ≡ rs → Yields e s at rs
  yields [] at q = none_left at _ refl (sym (flat-next e s at) ∙ q)
  yields (x ∷ xs) at q = one_left x xs (yields xs) at _ refl (sym (flat-next e s at) ∙ q)

-- the references of an expression that was walked to its end, one after the other
module _ (e : Encoding) (s : List ℕ) (n : ℕ) (b : Bool) where
  -- THE LAW of `next_reference`: from the start of an expression that was walked to its end it yields the expression's references, each once, in their order
  pub walked-yields : walk_of e s ≡ Some (n, b) → Yields e s 0 (references_in e s)
  walked-yields w = yields e s (references_in e s) 0 (walked-flat e s n b w).0
