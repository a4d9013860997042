-- `next_kept`: what is kept from the start on is what is kept from here on. Assumes nothing.
use Prim.Native.Nat.{◌-◌}
use lib.ListN.{length}
use Rattle.readers.specs.Abbreviations.{find_at}
use Rattle.rewriting.proofs.KeptPass.KeptSteps.{stand, Walking}
use Rattle.rewriting.proofs.kept_items.next_kept.Given as goal

abbrev pub invariant-loop-at : goal.invariant-loop-at
invariant-loop-at l = Walking l.r.encoding l.abbreviations (find_at l.abbreviations l.r.from l.index) l.unit l.parents l.ends l.marks (stand l.initial.at.at l.initial.count.0 l.initial.nesting) (stand l.at.at l.count.0 l.nesting)

abbrev pub decreases-loop-at : goal.decreases-loop-at
decreases-loop-at l = length l.unit - l.at.at
