-- `Cursor::search` meets its contract. The invariant: the search from here on finds what the whole one does. Assumes nothing.
use Prim.Native.Nat.{◌-◌}
use mathlib.Core.Path.{◌≡◌}
use lib.ListN.{length}
use Rattle.readers.specs.Abbreviations.{search_at}
use Rattle.readers.proofs.cursor.Cursor.search.Given as goal

abbrev pub invariant-loop-c : goal.invariant-loop-c
invariant-loop-c l = search_at l.s l.to l.code l.initial.c.at ≡ search_at l.s l.to l.code l.c.at

abbrev pub decreases-loop-c : goal.decreases-loop-c
decreases-loop-c l = length l.s - l.c.at
