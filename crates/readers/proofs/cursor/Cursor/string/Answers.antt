-- `Cursor::string` meets its contract. The invariant: the string from here on ends where the whole one does.
use Rattle.readers.proofs.Widths.{string-end, string-zero, string-more}
use mathlib.Core.Path.{refl, sym, ◌∙◌}
use Rattle.readers.proofs.cursor.Cursor.string.Goals as goal

pub loop-at-init : goal.loop-at-init
loop-at-init c = refl

pub returns-then-b-eq0 : goal.returns-then-b-eq0
returns-then-b-eq0 c = sym (c.loop-at.invariant ∙ string-zero _ _ c.loop-at-test.true c.if-b-eq0.true)

pub loop-at-preserved : goal.loop-at-preserved
loop-at-preserved c = c.loop-at.invariant ∙ string-more _ _ c.loop-at-test.true c.if-b-eq0.false

pub returns : goal.returns
returns c = sym (c.loop-at.invariant ∙ string-end _ _ c.loop-at-test.false)
