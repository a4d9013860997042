-- `accept` meets its contract. Assumes nothing.
use mathlib.Core.Path.{ap, sym}
use Rattle.readers.specs.Inner.Abbreviations.{accepted}
use Rattle.readers.proofs.abbreviations.accept.Goals as goal

pub returns-in-Ascending : goal.returns-in-Ascending
unfolding accepted
returns-in-Ascending c = sym (ap accepted c.in-Ascending.is)

pub returns-in-Repeated : goal.returns-in-Repeated
unfolding accepted
returns-in-Repeated c = sym (ap accepted c.in-Repeated.is)
