-- What `place_items` leaves in the map: the places of the kept items, in a map that was cleared.
use Rattle.std.specs.Prelude.{ℕ, ◌*◌, ◌-◌, ◌≤◌, ◌≡◌, List, ◌++◌, length}
use Rattle.readers.specs.Choice.{zeros}
use Rattle.readers.specs.Stream.{Item}
use Rattle.rewriting.specs.Places.{places_from}
use Rattle.rewriting.specs.Written.{number_size, place_size, columns, map_bytes}
use Rattle.rewriting.specs.Inner.Written.{NumbersHeld}
use Rattle.rewriting.specs.Inner.Measures.{ColumnsHeld, kept_of_unit}

-- where there is room for them
pub record Fills (items : ℕ → List Item) (unit parents ends marks : List ℕ) (first : ℕ) (before after : List ℕ)
    : Type 0 where
  pub holds : ColumnsHeld items parents ends first
      → place_size * length (kept_of_unit items marks first) ≤ length before → before ≡ zeros (length before)
      → NumbersHeld number_size (columns (places_from first (kept_of_unit items marks first))) after
  pub bytes : ColumnsHeld items parents ends first
      → place_size * length (kept_of_unit items marks first) ≤ length before → before ≡ zeros (length before)
      → after ≡ map_bytes (places_from first (kept_of_unit items marks first))
      ++ zeros (length before - place_size * length (kept_of_unit items marks first))
