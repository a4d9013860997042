-- Single markings (document 01, "Marking"). What is marked is a test on entries.
use Rattle.std.specs.Prelude.{ℕ, zero, suc, Bool, false, get_or, eqb}
use Rattle.readers.specs.Choice.{◌and◌, ◌or◌}
use Rattle.marking.specs.Below.{any}
use Rattle.marking.specs.Graph.{Graph, size, is_parent, is_root, names}

-- d is a descendant of r, by at most k steps from child to parent
unfoldable pub climbs : Graph → ℕ → ℕ → ℕ → Bool
climbs g zero r d = false
climbs g (suc k) r d = is_parent g r d or is_parent g (get_or g.parents d 0) d and climbs g k r (get_or g.parents d 0)

unfoldable pub is_descendant : Graph → ℕ → ℕ → Bool
is_descendant g r d = climbs g (size g) r d

-- a marked entry's reference names t
unfoldable pub named_by : Graph → (ℕ → Bool) → ℕ → Bool
named_by g m t = any (size g) (λ s. names g s t and m s)

-- a root, or an entry so named
unfoldable pub is_top : Graph → (ℕ → Bool) → ℕ → Bool
is_top g m i = is_root g i or named_by g m i

-- one of those, or a descendant of one
unfoldable pub is_live : Graph → (ℕ → Bool) → ℕ → Bool
is_live g m i = is_top g m i or any (size g) (λ r. is_top g m r and is_descendant g r i)

-- the first entry, a marked one's parent, or one of those
unfoldable pub justified : Graph → (ℕ → Bool) → ℕ → Bool
justified g m i = eqb i 0 or any (size g) (λ j. is_parent g i j and m j) or is_live g m i
