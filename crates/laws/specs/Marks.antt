-- What each mark says of its entry.
use Rattle.std.specs.Prelude.{ℕ, ◌<◌, ◌≡◌, true, ◌↔◌}
use Rattle.marking.specs.Graph.{Graph, names}
use Rattle.marking.specs.Survivors.{Survivor, Live}

-- ---- what a mark says of its entry

-- "L for a root, a named entry or a descendant of either", the first entry only where a survivor's reference names it
pub data MarkedLive (g : Graph) : ℕ → Type 0 where
  first_named : {s : ℕ} → names g s 0 ≡ true → Survivor g s → MarkedLive g 0
  later : {i : ℕ} → 0 < i → Live g i → MarkedLive g i

-- 3 live, 2 retained (any other kept entry), 1 dead
pub record Says (g : Graph) (i x : ℕ) : Type 0 where
  pub live : (x ≡ 3) ↔ MarkedLive g i
  pub retained : (x ≡ 2) ↔ (Survivor g i × (MarkedLive g i → ⊥))
  pub dead : (x ≡ 1) ↔ (Survivor g i → ⊥)
