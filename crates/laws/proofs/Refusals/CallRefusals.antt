-- "A refusal carries a number of document 01", for the calls for C. Assumes nothing.
use mathlib.Core.Path.{◌≡◌, refl}
use Prim.Native.Nat.{ℕ}
use mathlib.Core.List.{List}
use Rattle.readers.specs.Choice.{◌and◌, ◌or◌}
use Rattle.readers.proofs.Choice.{pick-either}
use Rattle.laws.proofs.Refusals.ReaderRefusals.{is_one_of, are_of, one_of, wider}
use Rattle.rewriting.specs.Rewriting.{Room, Collected, untouched, rewritten, refused}
use Rattle.rewriting.specs.Outputs.{answer_for}
use Rattle.laws.specs.RefusalNumbers.{collect_numbers, CollectRefusal, CallNumber}
use Rattle.laws.proofs.Refusals.CollectRefusals.{collect-refusal}
use Rattle.collector.specs.Call.{is_uncounted, number_for, collected_of}

-- an answer whose refusal is a number of collect
number_of : (n : ℕ) (c : Collected) → ((k : ℕ) → c ≡ refused k → CollectRefusal k) → CallNumber (number_for n (answer_for c))
unfolding number_for answer_for is_one_of are_of ◌or◌ ◌and◌
number_of n (untouched k l) h = pick-either CallNumber (is_uncounted n) 258 256 (λ _. one_of _ 258 tt) (λ _. one_of _ 256 tt)
number_of n (rewritten w) h = pick-either CallNumber (is_uncounted n) 259 257 (λ _. one_of _ 259 tt) (λ _. one_of _ 257 tt)
number_of n (refused k) h = wider collect_numbers _ k tt (h k refl)

-- n is how many bytes the counts have
pub call-number : (section abbreviations locations ranges addresses debug_ranges tags treatments : List ℕ) (base type_units big_endian fixed_addresses : ℕ) (room : Room) (n : ℕ)
    → CallNumber (number_for n
    (answer_for (collected_of section abbreviations locations ranges addresses debug_ranges tags treatments base type_units big_endian fixed_addresses room)))
call-number section abbreviations locations ranges addresses debug_ranges tags treatments base type_units big_endian fixed_addresses room n =
    number_of n (collected_of section abbreviations locations ranges addresses debug_ranges tags treatments base type_units big_endian fixed_addresses room)
    (λ k q. collect-refusal _ room _ section k q)
