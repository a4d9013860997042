-- Survivors, as demand 3 has them: "the least set holding the first entry and all roots, the parent of each survivor,
-- every entry a survivor's non-sibling reference names, and all descendants of roots and of entries so named".
use Rattle.std.specs.Prelude.{ℕ, ◌<◌, ◌≡◌, true}
use Rattle.marking.specs.Graph.{Graph, size, is_parent, is_root, names}

-- d is a descendant of r
pub data Descendant (g : Graph) : ℕ → ℕ → Type 0 where
  child : {r d : ℕ} → is_parent g r d ≡ true → Descendant g r d
  deeper : {r p d : ℕ} → Descendant g r p → is_parent g p d ≡ true → Descendant g r d

-- a survivor
pub data Survivor (g : Graph) : ℕ → Type 0 where
  first : 0 < size g → Survivor g 0
  root : {i : ℕ} → is_root g i ≡ true → Survivor g i
  parent : {p i : ℕ} → is_parent g p i ≡ true → Survivor g i → Survivor g p
  named : {s t : ℕ} → names g s t ≡ true → Survivor g s → Survivor g t
  under_root : {r d : ℕ} → is_root g r ≡ true → Descendant g r d → Survivor g d
  under_named : {s t d : ℕ} → names g s t ≡ true → Survivor g s → Descendant g t d → Survivor g d

-- a root, an entry that a survivor's reference names, or a descendant of either
pub data Live (g : Graph) : ℕ → Type 0 where
  live_root : {i : ℕ} → is_root g i ≡ true → Live g i
  live_named : {s t : ℕ} → names g s t ≡ true → Survivor g s → Live g t
  live_under_root : {r d : ℕ} → is_root g r ≡ true → Descendant g r d → Live g d
  live_under_named : {s t d : ℕ} → names g s t ≡ true → Survivor g s → Descendant g t d → Live g d

-- S holds what demand 3 says of survivors: by how many entries there are, which are roots, whose parent and whose
-- descendant is which, and what a reference of which names
pub record ClosedBy (entries : ℕ) (Root : ℕ → Type 0) (Parent Under Names : ℕ → ℕ → Type 0)
    (S : ℕ → Type 0) : Type 0 where
  pub has_first : 0 < entries → S 0
  pub has_roots : (i : ℕ) → Root i → S i
  pub has_parents : (p i : ℕ) → Parent p i → S i → S p
  pub has_named : (s t : ℕ) → Names s t → S s → S t
  pub has_under_roots : (r d : ℕ) → Root r → Under r d → S d
  pub has_under_named : (s t d : ℕ) → Names s t → S s → Under t d → S d

-- "every other set like that contains it"
pub record LeastBy (entries : ℕ) (Root : ℕ → Type 0) (Parent Under Names : ℕ → ℕ → Type 0)
    (S : ℕ → Type 0) : Type 1 where
  pub closed : ClosedBy entries Root Parent Under Names S
  pub least : (R : ℕ → Type 0) → ClosedBy entries Root Parent Under Names R → (i : ℕ) → S i → R i

abbrev pub Least : Graph → (ℕ → Type 0) → Type 1
Least g S =
    LeastBy (size g) (λ i. is_root g i ≡ true) (λ p i. is_parent g p i ≡ true)
    (Descendant g) (λ s t. names g s t ≡ true) S
