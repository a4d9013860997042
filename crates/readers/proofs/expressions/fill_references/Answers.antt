use Rattle.readers.proofs.ReferenceTables.{fill_start, fill-never, fill_more}
use Rattle.readers.proofs.expressions.fill_references.Goals as goal

pub loop-i-init : goal.loop-i-init
loop-i-init c = fill_start _ _ _ _ c.requires

pub returns-in_default : goal.returns-in_default
returns-in_default c = absurd (fill-never _ _ _ _ _ _ _ c.loop-i.invariant c.loop-i-test.true _ c.next_reference.ensures c.in_default.is)

pub loop-i-preserved : goal.loop-i-preserved
loop-i-preserved c = fill_more _ _ _ _ _ _ _ c.loop-i.invariant c.loop-i-test.true _ _ c.next_reference.ensures c.in-Some.is
