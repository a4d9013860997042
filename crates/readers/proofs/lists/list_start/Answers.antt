-- `list_start` meets its contract. Assumes nothing.
use mathlib.Core.Path.{sym}
use Rattle.readers.proofs.ListStarts.{start-past, start-inside}
use Rattle.readers.proofs.lists.list_start.Goals as goal

pub returns-then-offset-s : goal.returns-then-offset-s
returns-then-offset-s c = sym (start-past _ _ c.if-offset-s.true)

pub returns : goal.returns
returns c = sym (start-inside _ _ c.if-offset-s.false)
