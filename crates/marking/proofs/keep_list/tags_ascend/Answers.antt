-- `tags_ascend` asks for each tag: what is left decides. Assumes nothing.
use mathlib.Core.Path.{◌∙◌}
use native.Mathlib.Omega.{arith}
use Rattle.marking.proofs.KeepLists.{tag_listed, tag_below, ascends-end, ascends-no, ascends-more}
use Rattle.marking.proofs.keep_list.tags_ascend.Goals as goal

pub returns-then-tag-least : goal.returns-then-tag-least
returns-then-tag-least c =
    let here = c.tag_of-tag.ensures ∙ tag_listed _ c.args.tags.now c.as_chunks.ensures.front c.loop-bytes.bytes-index (omega arith) in
    ascends-no _ _ _ c.loop-bytes.invariant (omega arith) _ here c.if-tag-least.true

pub overflow_add-least : goal.overflow_add-least
overflow_add-least c =
    let here = c.tag_of-tag.ensures ∙ tag_listed _ c.args.tags.now c.as_chunks.ensures.front c.loop-bytes.bytes-index (omega arith) in
    omega (arith, tag_below _ c.type_inv.tags _ _ here (omega arith))

pub loop-bytes-preserved : goal.loop-bytes-preserved
loop-bytes-preserved c =
    let here = c.tag_of-tag.ensures ∙ tag_listed _ c.args.tags.now c.as_chunks.ensures.front c.loop-bytes.bytes-index (omega arith) in
    ascends-more _ _ _ c.loop-bytes.invariant (omega arith) _ here c.if-tag-least.false

pub returns : goal.returns
returns c = ascends-end _ _ _ c.loop-bytes.invariant (omega arith)
