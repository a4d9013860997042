-- The counts take 59 bytes, and the answers for the five-entry unit of document 01 (P1, P4, P5, P7) as the calls give them.
use mathlib.Core.Path.{◌≡◌, refl}
use Prim.Native.Nat.{ℕ}
use mathlib.Core.Bool.{true, false}
use mathlib.Core.List.{List, [], ◌∷◌, ◌++◌}
use lib.ListN.{length}
use Rattle.readers.specs.Choice.{pick, zeros}
use Rattle.readers.specs.Numbers.{little_bytes, ordered, fixed_bytes}
use Rattle.marking.specs.Columns.{pad_to}
use Rattle.rewriting.specs.Written.{run_bytes}
use Rattle.rewriting.specs.Rewriting.{untouched, refused, no_lists}
use Rattle.rewriting.specs.Outputs.{list_count, answer_for}
use Rattle.laws.specs.FiveEntries.{none3, p1}
use Rattle.rewriting.specs.declared.collect.Counts.{Counts}
use Rattle.collector.specs.Call.{count_of, presence_of, count_bytes, is_uncounted, number_for, accepted_counts, counts_for, is_yes, setting_of}

pub counts-take : (c : Counts) → length (count_bytes c) ≡ 59
unfolding count_bytes run_bytes fixed_bytes ordered little_bytes
counts-take c = refl

-- a small number in eight bytes
abbrev eight : ℕ → List ℕ
eight n = 0 ∷ 0 ∷ 0 ∷ 0 ∷ 0 ∷ 0 ∷ 0 ∷ n ∷ []

pub calls :
    (number_for 59 (answer_for p1) ≡ 257)
    × (counts_for 60 (answer_for p1) ≡ eight 5 ++ eight 3 ++ eight 4 ++ eight 18 ++ eight 0 ++ eight 0 ++ eight 0 ++ 1 ∷ 1 ∷ 1 ∷ 0 ∷ [])
    × (number_for 58 (answer_for p1) ≡ 259)
    × (counts_for 3 (answer_for p1) ≡ 0 ∷ 0 ∷ 0 ∷ [])
    × (number_for 59 (answer_for (untouched 5 none3)) ≡ 256)
    × (number_for 0 (answer_for (untouched 5 none3)) ≡ 258)
    × (counts_for 59 (answer_for (untouched 0 no_lists)) ≡ zeros 59)
    × (number_for 59 (answer_for (refused 6)) ≡ 6)
    × (counts_for 2 (answer_for (refused 6)) ≡ 0 ∷ 0 ∷ [])
    × (is_yes 0 ≡ false)
    × (is_yes 1 ≡ true)
    × (is_yes 0xffffffffffffffff ≡ true)
    × (setting_of 7 0 0 ≡ record { ranges_base = 7; big_endian = false; fixed_addresses = false })
    × (setting_of 7 1 0 ≡ record { ranges_base = 7; big_endian = true; fixed_addresses = false })
    × (setting_of 7 2 1 ≡ record { ranges_base = 7; big_endian = true; fixed_addresses = true })
    × (setting_of 7 0 2 ≡ record { ranges_base = 7; big_endian = false; fixed_addresses = true })
    × (setting_of 7 0xffffffffffffffff 0xffffffffffffffff ≡ record { ranges_base = 7; big_endian = true; fixed_addresses = true })
unfolding count_of presence_of count_bytes is_uncounted number_for accepted_counts counts_for list_count answer_for run_bytes fixed_bytes ordered little_bytes pad_to pick
calls = (refl, refl, refl, refl, refl, refl, refl, refl, refl, refl, refl, refl, refl, refl, refl, refl, refl)
