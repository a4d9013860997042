-- `list_offset` meets its contract: an index whose entry would lie past the end is refused before its place is computed, so nothing wraps.
-- Assumes nothing.
use mathlib.Core.Path.{sym, ◌∙◌}
use native.Mathlib.Omega.{arith}
use Rattle.readers.proofs.ListStarts.{start-past, beyond, unread, was_read, past, no_size, base-past}
use Rattle.readers.proofs.lists.list_offset.Goals as goal

pub returns-then-base-len : goal.returns-then-base-len
returns-then-base-len c = sym (base-past _ _ _ _ c.if-base-len.true)

pub returns-then-size-eq0 : goal.returns-then-size-eq0
returns-then-size-eq0 c = c.list_start.ensures ∙ sym (no_size _ _ _ _ c.if-size-eq0.true)

pub returns-then-index-len : goal.returns-then-index-len
returns-then-index-len c = sym (past _ _ _ _ (omega (arith, beyond _ _ _ c.if-index-len.true (omega arith))) (omega arith))

pub returns-in_err-offset : goal.returns-in_err-offset
returns-in_err-offset c = c.from_residual.ensures ∙ sym (unread _ _ _ _ (sym c.offset.ensures ∙ c.in_err-offset.was))

pub returns-then-offset-len : goal.returns-then-offset-len
returns-then-offset-len c = sym (was_read _ _ _ _ _ _ (sym c.offset.ensures ∙ c.in_ok-offset.was) ∙ start-past _ _ (omega arith))

pub returns : goal.returns
returns c = c.list_start-2.ensures ∙ sym (was_read _ _ _ _ _ _ (sym c.offset.ensures ∙ c.in_ok-offset.was))
