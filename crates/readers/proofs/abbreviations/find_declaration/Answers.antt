-- `find_declaration` meets its contract. Assumes nothing.
use mathlib.Core.Path.{◌∙◌}
use Rattle.readers.proofs.Declarations.{find_first, find-halved, find-search}
use Rattle.readers.proofs.abbreviations.find_declaration.Goals as goal

pub returns-then-holds_code : goal.returns-then-holds_code
returns-then-holds_code c = find_first _ _ _ _ _ c.number_before.ensures _ c.slot_at-guess.ensures _ c.holds_code.ensures c.if-holds_code.true _ c.head_in.ensures

pub returns-then-holds_code-2 : goal.returns-then-holds_code-2
returns-then-holds_code-2 c = find-halved _ _ _ _ _ c.number_before.ensures _ c.slot_at-guess.ensures _ c.holds_code.ensures c.if-holds_code.false _ c.slot_of.ensures _ c.slot_at-slot.ensures _ c.holds_code-2.ensures c.if-holds_code-2.true _ c.head_in-then-holds_code-2.ensures

pub returns : goal.returns
returns c = c.search.ensures ∙ find-search _ _ _ _ _ c.number_before.ensures _ c.slot_at-guess.ensures _ c.holds_code.ensures c.if-holds_code.false _ c.slot_of.ensures _ c.slot_at-slot.ensures _ c.holds_code-2.ensures c.if-holds_code-2.false
