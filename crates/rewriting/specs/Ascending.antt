-- Lists in strictly ascending order.
use Rattle.std.specs.Prelude.{ℕ, List}
use Rattle.marking.specs.Resolution.{Ascending as From}

abbrev pub Ascending : List ℕ → Type 0
Ascending xs = From 0 xs
