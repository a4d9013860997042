-- `Cursor::step` meets its contract, by its head and where its values end. Assumes nothing.
use mathlib.Core.Path.{ap, ◌∙◌}
use Rattle.std.specs.Prelude.{Some}
use Rattle.readers.proofs.Values.{entry-headed, headed-unread, headed-entry, headed-terminator, headed-end, headed-none}
use Rattle.readers.proofs.cursor.Cursor.step.Goals as goal

pub returns-in_err-h : goal.returns-in_err-h
returns-in_err-h c = c.from_residual.ensures ∙ headed-none _ _ _ _ _ _ (entry-headed _ _ _ _ _ _ _ c.entry_head.ensures) c.in_err-h.was

pub returns-in_err-next-in-Entry : goal.returns-in_err-next-in-Entry
returns-in_err-next-in-Entry c = c.from_residual-in_err-next-in-Entry.ensures
    ∙ headed-unread _ _ _ _ _ _ (entry-headed _ _ _ _ _ _ _ c.entry_head.ensures) _ (c.in_ok-h.was ∙ ap Some c.in-Entry.is) _ c.past_values.ensures c.in_err-next-in-Entry.was

pub returns-in_ok-next-in-Entry : goal.returns-in_ok-next-in-Entry
returns-in_ok-next-in-Entry c = headed-entry _ _ _ _ _ _ (entry-headed _ _ _ _ _ _ _ c.entry_head.ensures) _ (c.in_ok-h.was ∙ ap Some c.in-Entry.is) _ c.past_values.ensures _ c.in_ok-next-in-Entry.was

pub returns-in-Terminator : goal.returns-in-Terminator
returns-in-Terminator c = headed-terminator _ _ _ _ _ _ (entry-headed _ _ _ _ _ _ _ c.entry_head.ensures) _ (c.in_ok-h.was ∙ ap Some c.in-Terminator.is)

pub returns-in-End : goal.returns-in-End
returns-in-End c = headed-end _ _ _ _ _ _ (entry-headed _ _ _ _ _ _ _ c.entry_head.ensures) (c.in_ok-h.was ∙ ap Some c.in-End.is)
