-- Addresses (document 01, "Roots" and "What changes shape"; document 02, Points 2 and 5).
use Rattle.std.specs.Prelude.{ℕ, ◌-◌, ◌^◌, Bool, false, List, length, get_or, ltb, eqb, Err, Ok, Result}
use Rattle.readers.specs.Choice.{pick, ◌or◌}
use Rattle.marking.specs.declared.addresses.Verdict.TheVariants.{Dead}
use Rattle.marking.specs.declared.addresses.Verdict.TheVariants.{Live}
use Rattle.marking.specs.declared.addresses.Verdict.{Verdict}

-- address 0 or all ones for size 4 or 8; any other size gives no
unfoldable pub is_tombstone : ℕ → ℕ → Bool
is_tombstone address size =
    pick (eqb size 4) (eqb address 0 or eqb address (2 ^ 32 - 1))
    (pick (eqb size 8) (eqb address 0 or eqb address (2 ^ 64 - 1))
    false)

unfoldable pub byte_liveness : ℕ → Result Verdict ℕ
byte_liveness b = pick (eqb b 0) (Ok Dead) (pick (eqb b 1) (Ok Live) (Err 6))

-- The lent table, one byte an index: 0 dead, 1 live; a failure has its number, 6 of any other byte, 17 of an index past
-- the table's end (Point 5). By an empty table no address is known, and each index counts as live (Point 2).
unfoldable pub lookup_at : List ℕ → ℕ → Result Verdict ℕ
lookup_at table index =
    pick (eqb (length table) 0) (Ok Live)
    (pick (ltb index (length table)) (byte_liveness (get_or table index 0))
    (Err 17))
