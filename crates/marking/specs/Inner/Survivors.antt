-- Survivors, as demand 3 has them: "the least set holding the first entry and all roots, the parent of each survivor,
-- every entry a survivor's non-sibling reference names, and all descendants of roots and of entries so named".
use Rattle.std.specs.Prelude.{ℕ, ◌≡◌, true}
use Rattle.marking.specs.Graph.{Graph, size, is_parent, is_root, names}
use Rattle.marking.specs.Survivors.{ClosedBy, Descendant}

-- by a graph
abbrev pub Closed : Graph → (ℕ → Type 0) → Type 0
Closed g S =
    ClosedBy (size g) (λ i. is_root g i ≡ true) (λ p i. is_parent g p i ≡ true)
    (Descendant g) (λ s t. names g s t ≡ true) S
