-- What a call with tables of its own leaves, and which answers are those of a table that is full.
use Rattle.std.specs.Prelude.{◌≡◌, ℕ, Bool, List, eqb}
use Rattle.readers.specs.Choice.{◌or◌}
use Rattle.rewriting.specs.Rewriting.{Room, Collected}
use Rattle.rewriting.specs.Outputs.{answer_for, map_for, list_for, output_for, ranges_in, locations_in, strings_in}
use Rattle.collector.specs.Call.{number_for, counts_for, collected_of}
use Rattle.collector.specs.declared.own_tables.Inputs.{Inputs}

-- what collect makes of a call's inputs
abbrev pub made_of : Inputs → Room → Collected
made_of i room =
    collected_of i.section.now i.abbreviations.now i.locations.now i.ranges.now i.addresses.now i.debug_ranges.now
    i.tags.now i.treatments.now i.ranges_base i.type_units i.big_endian i.fixed_addresses room

-- the number that is answered, and each slice, by its length
pub record Left (c : Collected) (r k : ℕ) (counts : List ℕ) (m : ℕ) (map : List ℕ) (a : ℕ) (ranges : List ℕ)
    (b : ℕ) (locations : List ℕ) (s : ℕ) (strings : List ℕ) (o : ℕ) (out : List ℕ) : Type 0 where
  pub number_left : r ≡ number_for k (answer_for c)
  pub counts_left : counts ≡ counts_for k (answer_for c)
  pub map_left : map ≡ map_for m c
  pub ranges_left : ranges ≡ list_for ranges_in a c
  pub locations_left : locations ≡ list_for locations_in b c
  pub strings_left : strings ≡ list_for strings_in s c
  pub out_left : out ≡ output_for o c

-- 10, the table of entries is full, or 11, that of references
unfoldable pub is_full : ℕ → Bool
is_full k = eqb k 10 or eqb k 11
