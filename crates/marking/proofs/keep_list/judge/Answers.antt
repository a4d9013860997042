-- `keep_refusal` asks in the order of the document. Assumes nothing.
use Rattle.marking.proofs.KeepLists.{refused-count, refused-treatment, refused-order, refused_none}
use Rattle.marking.proofs.keep_list.judge.Goals as goal
use Rattle.marking.proofs.keep_list.judge.Goals.{then-treatments-tags-via-then-treatments-tags, then-treatments-tags-via-else-treatments-tags+then-not-each_treats}

pub returns-then-treatments-tags : goal.returns-then-treatments-tags
returns-then-treatments-tags c =
    elim c.then-treatments-tags.branch [
      | then-treatments-tags-via-then-treatments-tags w ↦ search refused-count
      | then-treatments-tags-via-else-treatments-tags+then-not-each_treats w ↦ search refused-treatment
    ]

pub returns-then-not-tags_ascend : goal.returns-then-not-tags_ascend
returns-then-not-tags_ascend c = search refused-order

pub returns : goal.returns
returns c = search refused_none
