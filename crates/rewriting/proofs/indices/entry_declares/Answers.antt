-- `entry_declares`: what all attributes declare is what those from here on do. Assumes nothing.
use Rattle.rewriting.proofs.ListPass.IndexTurns.{attributes-less, declares-end, declares-yes, declares-form, declares-name}
use Rattle.rewriting.proofs.indices.entry_declares.Goals as goal
use Rattle.rewriting.proofs.indices.entry_declares.Goals.{else-a-name-via-then-a-name+else-a-eq-DW_FORM_sec_offset, else-a-name-via-else-a-name}

pub returns-in_default : goal.returns-in_default
returns-in_default c = search declares-end

pub returns-then-a-eq-DW_FORM_sec_offset : goal.returns-then-a-eq-DW_FORM_sec_offset
returns-then-a-eq-DW_FORM_sec_offset c = search declares-yes

pub loop-a-smaller : goal.loop-a-smaller
loop-a-smaller c = search attributes-less

pub loop-a-preserved : goal.loop-a-preserved
loop-a-preserved c = elim c.else-a-name.branch [
  | else-a-name-via-then-a-name+else-a-eq-DW_FORM_sec_offset w ↦ search declares-form
  | else-a-name-via-else-a-name w ↦ search declares-name
]
