-- What collect leaves in the lent slices, and its answer in numbers (document 01, "collect"; demand 1: "Output, map and
-- index lists hold the answer, and zeros everywhere else, for every input").
use Rattle.std.specs.Prelude.{ℕ, ◌/◌, List, length, None, Option, Some, Err, Ok, Result}
use Rattle.readers.specs.Choice.{zeros}
use Rattle.marking.specs.Analysis.{Rooms}
use Rattle.marking.specs.Columns.{pad_to, unit_rooms}
use Rattle.rewriting.specs.Written.{number_size, place_size, list_bytes, map_bytes}
use Rattle.rewriting.specs.Rewriting.{Lists, Room, Collected, untouched, rewritten, refused}
use Rattle.rewriting.specs.declared.collect.Counts.{Counts}
use Rattle.rewriting.specs.declared.collect.Collected.{Collected as Accepted}
use Rattle.rewriting.specs.declared.collect.Collected.TheVariants.{Untouched, Rewritten}

-- what there is room for, by the lengths of the slices
abbrev pub room_by : Rooms → ℕ → ℕ → ℕ → ℕ → ℕ → Room
room_by tables map ranges locations strings out =
    record {
      tables = tables;
      ranges = ranges / number_size;
      locations = locations / number_size;
      strings = strings / number_size;
      places = map / place_size;
      bytes = out;
    }

-- what a call has room for: entries and references by their tables' shortest column
abbrev pub room_of : ℕ → ℕ → ℕ → ℕ → ℕ → ℕ → ℕ → ℕ → ℕ → ℕ → ℕ → ℕ → Room
room_of marks pairs offsets parents roots ends targets map ranges locations strings out =
    room_by (unit_rooms marks pairs offsets parents roots ends targets) map ranges locations strings out

unfoldable pub list_count : Option (List ℕ) → Option ℕ
list_count None = None
list_count (Some xs) = Some (length xs)

abbrev pub counts_of : ℕ → ℕ → ℕ → ℕ → Lists → Counts
counts_of entries kept places bytes l =
    record {
      entries = entries;
      kept = kept;
      places = places;
      bytes = bytes;
      ranges = list_count l.ranges;
      locations = list_count l.locations;
      strings = list_count l.strings;
    }

-- as the code answers it: accepted, or the number of a refusal
abbrev pub Answer : Type 0
Answer = Result Accepted ℕ

unfoldable pub answer_for : Collected → Answer
answer_for (untouched n l) = Ok (Untouched (counts_of n n 0 0 l))
answer_for (rewritten w) = Ok (Rewritten (counts_of w.entries w.kept (length w.map) (length w.output) w.lists))
answer_for (refused n) = Err n

unfoldable pub map_for : ℕ → Collected → List ℕ
map_for n (untouched k l) = zeros n
map_for n (rewritten w) = pad_to n (map_bytes w.map)
map_for n (refused k) = zeros n

unfoldable pub output_for : ℕ → Collected → List ℕ
output_for n (untouched k l) = zeros n
output_for n (rewritten w) = pad_to n w.output
output_for n (refused k) = zeros n

unfoldable pub list_or : ℕ → Option (List ℕ) → List ℕ
list_or n None = zeros n
list_or n (Some xs) = pad_to n (list_bytes xs)

unfoldable pub list_for : (Lists → Option (List ℕ)) → ℕ → Collected → List ℕ
list_for f n (untouched k l) = list_or n (f l)
list_for f n (rewritten w) = list_or n (f w.lists)
list_for f n (refused k) = zeros n

abbrev pub ranges_in : Lists → Option (List ℕ)
ranges_in l = l.ranges

abbrev pub locations_in : Lists → Option (List ℕ)
locations_in l = l.locations

abbrev pub strings_in : Lists → Option (List ℕ)
strings_in l = l.strings
