-- Reading one thing after another: at a place there is one more thing and the place past it, or the end, or something
-- unreadable. A count bounds how often; the equation `Scan-step` is free of it.
use Rattle.std.specs.Prelude.{ℕ, zero, suc, ◌-◌, List, [], ◌∷◌, None, Option, Some}
use Rattle.readers.specs.Choice.{bind}

pub data Turn (A B : Type 0) : Type 0 where
  more : A → ℕ → Turn A B
  stop : B → Turn A B
  bad : Turn A B

abbrev pub Scanned : Type 0 → Type 0 → Type 0
Scanned A B = List A × B

module _ {A B : Type 0} where
  unfoldable pub push : A → Scanned A B → Option (Scanned A B)
  push a r = Some (a ∷ r.0, r.1)

  unfoldable pub on_turn : Turn A B → (A → ℕ → Option (Scanned A B)) → Option (Scanned A B)
  on_turn (more a n) k = k a n
  on_turn (stop b) k = Some ([], b)
  on_turn bad k = None

  unfoldable pub scan_within : ℕ → (ℕ → Turn A B) → ℕ → Option (Scanned A B)
  scan_within zero f at = None
  scan_within (suc k) f at = on_turn (f at) (λ a n. bind (scan_within k f n) (push a))

  -- what stands from `at` on; no place is past `end`
  unfoldable pub scan : ℕ → (ℕ → Turn A B) → ℕ → Option (Scanned A B)
  scan end f at = scan_within (suc (end - at)) f at
