use Rattle.readers.proofs.OwnReferences.{section-20, section-21, own-one, own-none}
use Rattle.readers.proofs.expressions.own_walk.Goals as goal
use Rattle.readers.proofs.expressions.own_walk.Goals.{then-row-eq-ROW_OFFSET-via-then-row-eq-ROW_OFFSET, then-row-eq-ROW_OFFSET-via-else-row-eq-ROW_OFFSET+then-row-eq-ROW_OFFSET_SLEB128}

pub returns-then-row-eq-ROW_OFFSET : goal.returns-then-row-eq-ROW_OFFSET
returns-then-row-eq-ROW_OFFSET c =
    elim c.then-row-eq-ROW_OFFSET.branch [
      | then-row-eq-ROW_OFFSET-via-then-row-eq-ROW_OFFSET w ↦ section-20 _ w.if-row-eq-ROW_OFFSET.true
      | then-row-eq-ROW_OFFSET-via-else-row-eq-ROW_OFFSET+then-row-eq-ROW_OFFSET_SLEB128 w ↦ section-21 _ w.if-row-eq-ROW_OFFSET_SLEB128.true
    ]

pub returns-in-Some : goal.returns-in-Some
returns-in-Some c = own-one _ c.if-row-eq-ROW_OFFSET.false c.if-row-eq-ROW_OFFSET_SLEB128.false _ c.reference_of.ensures _ c.in-Some.is

pub returns-in-None : goal.returns-in-None
returns-in-None c = own-none _ c.if-row-eq-ROW_OFFSET.false c.if-row-eq-ROW_OFFSET_SLEB128.false _ c.reference_of.ensures c.in-None.is
