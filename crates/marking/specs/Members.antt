-- What is in a list, and what stands at a place of it.
use Rattle.std.specs.Prelude.{ℕ, suc, ◌≡◌, List, ◌∷◌}

module _ {A : Type 0} where
  -- a is in a list
  pub data Member (a : A) : List A → Type 0 where
    here : {x : A} {xs : List A} → a ≡ x → Member a (x ∷ xs)
    there : {x : A} {xs : List A} → Member a xs → Member a (x ∷ xs)

  -- a is the one after n others
  pub data Nth (a : A) : ℕ → List A → Type 0 where
    now : {x : A} {xs : List A} → a ≡ x → Nth a 0 (x ∷ xs)
    later : {n : ℕ} {x : A} {xs : List A} → Nth a n xs → Nth a (suc n) (x ∷ xs)
