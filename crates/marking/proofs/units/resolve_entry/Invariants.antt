use Rattle.marking.proofs.Pairs.{Pairing}
use Rattle.marking.proofs.units.resolve_entry.Given as goal

abbrev pub invariant-loop-name : goal.invariant-loop-name
invariant-loop-name l = Pairing l.offsets l.names l.holder.0 l.initial.pairs l.at l.pairs l.place l.name-index
