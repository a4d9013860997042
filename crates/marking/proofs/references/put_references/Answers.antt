-- `put_references`: the invariant is that what is put, and what is named from here on, is the whole. Assumes nothing.
use Rattle.marking.proofs.NextOffsets.{putting-start, putting-end, putting-more, next-less}
use Rattle.marking.proofs.references.put_references.Goals as goal

pub loop-r-init : goal.loop-r-init
loop-r-init c = putting-start _ _ _ _

pub returns-in_default : goal.returns-in_default
returns-in_default c = putting-end _ _ _ _ _ _ _ c.loop-r.invariant _ c.next_reference.ensures c.in_default.is

pub loop-r-smaller : goal.loop-r-smaller
loop-r-smaller c = search next-less

pub loop-r-preserved : goal.loop-r-preserved
loop-r-preserved c = search putting-more
