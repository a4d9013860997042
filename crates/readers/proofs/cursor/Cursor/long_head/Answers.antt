-- `Cursor::long_head` meets its contract. Assumes nothing.
use mathlib.Core.Path.{sym, ◌∙◌}
use Rattle.readers.proofs.Declarations.{head-no-code, head-last, head-no-tag, head-untagged, head-no-children, head-over, head-whole}
use Rattle.readers.proofs.cursor.Cursor.long_head.Goals as goal

pub returns-in_err-code : goal.returns-in_err-code
returns-in_err-code c = c.from_residual.ensures ∙ head-no-code _ _ (sym c.uleb.ensures ∙ c.in_err-code.was)

pub returns-then-code-eq0 : goal.returns-then-code-eq0
returns-then-code-eq0 c = head-last _ _ _ _ (sym c.uleb.ensures ∙ c.in_ok-code.was) c.if-code-eq0.true

pub returns-in_err-tag : goal.returns-in_err-tag
returns-in_err-tag c = c.from_residual-in_err-tag.ensures ∙ head-no-tag _ _ _ _ (sym c.uleb.ensures ∙ c.in_ok-code.was) c.if-code-eq0.false (sym c.short.ensures ∙ c.in_err-tag.was)

pub returns-then-tag-eq0 : goal.returns-then-tag-eq0
returns-then-tag-eq0 c = head-untagged _ _ _ _ (sym c.uleb.ensures ∙ c.in_ok-code.was) c.if-code-eq0.false _ _ (sym c.short.ensures ∙ c.in_ok-tag.was) c.if-tag-eq0.true

pub returns-in_err-children : goal.returns-in_err-children
returns-in_err-children c = c.from_residual-in_err-children.ensures ∙ head-no-children _ _ _ _ (sym c.uleb.ensures ∙ c.in_ok-code.was) c.if-code-eq0.false _ _ (sym c.short.ensures ∙ c.in_ok-tag.was) c.if-tag-eq0.false (sym c.fixed.ensures ∙ c.in_err-children.was)

pub returns-then-children-gt-DW_CHILDREN_yes : goal.returns-then-children-gt-DW_CHILDREN_yes
returns-then-children-gt-DW_CHILDREN_yes c = head-over _ _ _ _ (sym c.uleb.ensures ∙ c.in_ok-code.was) c.if-code-eq0.false _ _ (sym c.short.ensures ∙ c.in_ok-tag.was) c.if-tag-eq0.false _ _ (sym c.fixed.ensures ∙ c.in_ok-children.was) c.if-children-gt-DW_CHILDREN_yes.true

pub returns : goal.returns
returns c = head-whole _ _ _ _ (sym c.uleb.ensures ∙ c.in_ok-code.was) c.if-code-eq0.false _ _ (sym c.short.ensures ∙ c.in_ok-tag.was) c.if-tag-eq0.false _ _ (sym c.fixed.ensures ∙ c.in_ok-children.was) c.if-children-gt-DW_CHILDREN_yes.false
