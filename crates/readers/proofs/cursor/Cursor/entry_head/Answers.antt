-- `Cursor::entry_head` meets its contract, by what is read of the code and its declaration. Assumes nothing.
use mathlib.Core.Path.{◌∙◌}
use Rattle.readers.proofs.Values.{head-end, head-none, head-terminator, head-unknown, head-entry}
use Rattle.readers.proofs.cursor.Cursor.entry_head.Goals as goal

pub returns-then-at-unit : goal.returns-then-at-unit
returns-then-at-unit c = search head-end

pub returns-in_err-code : goal.returns-in_err-code
returns-in_err-code c = c.from_residual.ensures ∙ head-none _ _ _ c.if-at-unit.false _ c.uleb.ensures c.in_err-code.was

pub returns-then-code-eq0 : goal.returns-then-code-eq0
returns-then-code-eq0 c = head-terminator _ _ _ c.if-at-unit.false _ c.uleb.ensures _ _ c.in_ok-code.was c.if-code-eq0.true

pub returns-in_err-declaration : goal.returns-in_err-declaration
returns-in_err-declaration c = c.from_residual-in_err-declaration.ensures
    ∙ head-unknown _ _ _ c.if-at-unit.false _ c.uleb.ensures _ _ c.in_ok-code.was c.if-code-eq0.false _ c.find_declaration.ensures c.in_err-declaration.was

pub returns : goal.returns
returns c = head-entry _ _ _ c.if-at-unit.false _ c.uleb.ensures _ _ c.in_ok-code.was c.if-code-eq0.false _ c.find_declaration.ensures _ c.in_ok-declaration.was
