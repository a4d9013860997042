-- What a host reads in the slices that it lent (include/collector.h): numbers of eight big-endian bytes each, three a map
-- place: old offset, new offset and depth.
use Rattle.std.specs.Prelude.{◌≡◌, ℕ, ◌+◌, ◌*◌, ◌-◌, ◌^◌, ◌≤◌, ◌<◌, List, length, take, drop, None, Option, Some}
use Rattle.readers.specs.Choice.{zeros}
use Rattle.rewriting.specs.Places.{Place}
use Rattle.marking.specs.Members.{Member, Nth}
use Rattle.rewriting.specs.Written.{number_size, place_size, number_at}
use Rattle.rewriting.specs.Rewriting.{Lists, Rewrite, Collected, untouched, rewritten, refused}
use Rattle.rewriting.specs.Outputs.{map_for, output_for, list_for, ranges_in, locations_in, strings_in}

-- the k-th place of a map
unfoldable pub place_at : List ℕ → ℕ → Place
place_at map k =
    record {
      old = number_at number_size map (place_size * k);
      new = number_at number_size map (place_size * k + number_size);
      depth = number_at number_size map (place_size * k + 2 * number_size);
    }

-- the k-th number of an index list
unfoldable pub list_number_at : List ℕ → ℕ → ℕ
list_number_at list k = number_at number_size list (number_size * k)

-- a slice of `size` bytes as a map: the k-th place is read at k, all numbers are below 2^64, and zeros follow the last place
pub record MapReads (size : ℕ) (places : List Place) (map : List ℕ) : Type 0 where
  pub sized : length map ≡ size
  pub room : place_size * length places ≤ size
  pub small : (p : Place) → Member p places → (p.old < 2 ^ 64) × (p.new < 2 ^ 64) × (p.depth < 2 ^ 64)
  pub each : (k : ℕ) (p : Place) → Nth p k places → place_at map k ≡ p
  pub after : drop (place_size * length places) map ≡ zeros (size - place_size * length places)

-- a slice of `size` bytes as an index list: the k-th number is read at k, all are below 2^64, and zeros follow the last
pub record ListReads (size : ℕ) (numbers list : List ℕ) : Type 0 where
  pub sized : length list ≡ size
  pub room : number_size * length numbers ≤ size
  pub small : (v : ℕ) → Member v numbers → v < 2 ^ 64
  pub each : (k v : ℕ) → Nth v k numbers → list_number_at list k ≡ v
  pub after : drop (number_size * length numbers) list ≡ zeros (size - number_size * length numbers)

-- an absent list is zeros
unfoldable pub PresentReads : ℕ → Option (List ℕ) → List ℕ → Type 0
PresentReads size None list = list ≡ zeros size
PresentReads size (Some numbers) list = ListReads size numbers list

-- a slice of `size` bytes as the output: the new unit stands at its start, and zeros follow
pub record OutputReads (size : ℕ) (output out : List ℕ) : Type 0 where
  pub sized : length out ≡ size
  pub starts : take (length output) out ≡ output
  pub after : drop (length output) out ≡ zeros (size - length output)

-- ---- all five slices, of these lengths

module _ (map ranges locations strings out : ℕ) where
  pub record RewrittenReads (w : Rewrite) : Type 0 where
    pub map_read : MapReads map w.map (map_for map (rewritten w))
    pub ranges_read : PresentReads ranges w.lists.ranges (list_for ranges_in ranges (rewritten w))
    pub locations_read : PresentReads locations w.lists.locations (list_for locations_in locations (rewritten w))
    pub strings_read : PresentReads strings w.lists.strings (list_for strings_in strings (rewritten w))
    pub output_read : OutputReads out w.output (output_for out (rewritten w))

  -- no map and no output
  pub record UntouchedReads (n : ℕ) (l : Lists) : Type 0 where
    pub map_read : map_for map (untouched n l) ≡ zeros map
    pub ranges_read : PresentReads ranges l.ranges (list_for ranges_in ranges (untouched n l))
    pub locations_read : PresentReads locations l.locations (list_for locations_in locations (untouched n l))
    pub strings_read : PresentReads strings l.strings (list_for strings_in strings (untouched n l))
    pub output_read : output_for out (untouched n l) ≡ zeros out

  -- zeros everywhere
  pub record RefusedReads (n : ℕ) : Type 0 where
    pub map_read : map_for map (refused n) ≡ zeros map
    pub ranges_read : list_for ranges_in ranges (refused n) ≡ zeros ranges
    pub locations_read : list_for locations_in locations (refused n) ≡ zeros locations
    pub strings_read : list_for strings_in strings (refused n) ≡ zeros strings
    pub output_read : output_for out (refused n) ≡ zeros out

  unfoldable pub AnswerReads : Collected → Type 0
  AnswerReads (rewritten w) = RewrittenReads w
  AnswerReads (untouched n l) = UntouchedReads n l
  AnswerReads (refused n) = RefusedReads n
