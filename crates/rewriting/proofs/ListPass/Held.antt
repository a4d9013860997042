-- Tables that hold nothing yet, and maps.
use Prim.Native.Nat.{ℕ, ◌-◌, ◌*◌, ◌≤◌}
use mathlib.Core.Path.{◌≡◌, ap}
use mathlib.Core.List.{[]}
use native.Mathlib.Omega.{arith}
use native.Mathlib.Nat.{mul-zero}
use lib.ListN.{length, length-replicate}
use Rattle.readers.specs.Choice.{zeros}
use Rattle.marking.specs.Resolution.{Ascending as From}
use Rattle.rewriting.specs.Written.{number_size, run_bytes}
use Rattle.rewriting.specs.Inner.Written.{NumbersHeld, ListHeld}
use Rattle.marking.proofs.Members.{nothing-in}

held_none : (width n : ℕ) → NumbersHeld width [] (zeros n)
unfolding run_bytes
held_none width n =
    let l : length (zeros n) ≡ n = length-replicate n 0 in
    let z : width * 0 ≡ 0 = mul-zero width in
    record { are = ap (λ m. zeros m) (let e : n ≡ length (zeros n) - width * 0 = omega arith in e); room = let r : width * 0 ≤ length (zeros n) = omega arith in r; small = λ v m. absurd (nothing-in v m) }

pub list-none : (n : ℕ) → ListHeld [] (zeros n)
unfolding From
list-none n = record { held = held_none number_size n; ascending = tt }
