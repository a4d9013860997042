-- `Cursor::declaration` meets its contract, by its head and its attribute specifications. Assumes nothing.
use mathlib.Core.Path.{ap, ◌∙◌}
use Rattle.std.specs.Prelude.{Some}
use Rattle.readers.proofs.Declarations.{declaration-none, declaration-last, declaration-no-attributes, declaration-whole}
use Rattle.readers.proofs.cursor.Cursor.declaration.Goals as goal

pub returns-in_err-d : goal.returns-in_err-d
returns-in_err-d c = c.from_residual.ensures ∙ declaration-none _ _ _ c.long_head.ensures c.in_err-d.was

pub returns-in_err-next-in-Declaration : goal.returns-in_err-next-in-Declaration
returns-in_err-next-in-Declaration c = c.from_residual-in_err-next-in-Declaration.ensures
    ∙ declaration-no-attributes _ _ _ c.long_head.ensures _ _ (c.in_ok-d.was ∙ ap Some c.in-Declaration.is) _ c.past_attributes.ensures c.in_err-next-in-Declaration.was

pub returns-in_ok-next-in-Declaration : goal.returns-in_ok-next-in-Declaration
returns-in_ok-next-in-Declaration c = declaration-whole _ _ _ c.long_head.ensures _ _ (c.in_ok-d.was ∙ ap Some c.in-Declaration.is) _ c.past_attributes.ensures _ c.in_ok-next-in-Declaration.was

pub returns-in-Last : goal.returns-in-Last
returns-in-Last c = declaration-last _ _ _ c.long_head.ensures _ (c.in_ok-d.was ∙ ap Some c.in-Last.is)
