-- `Cursor::row` meets its contract: the tables list the tokens of the rows, and each field is read where the one before ends.
use Prim.Native.Nat.{ℕ}
use mathlib.Core.Path.{ap, ◌∙◌}
use mathlib.Core.List.{List, [], ◌∷◌}
use lib.ListN.{get_or}
use Rattle.readers.specs.Operations.{rows, unreadable_row, row_of}
use Rattle.readers.proofs.Constants.{listed, listed_from, entry_of}
use Rattle.readers.proofs.Tokens.{field-from, row-over, row_none, row-none2, row-none3, row_read}
use Rattle.readers.proofs.cursor.Cursor.row.Goals as goal

-- the tokens of a row, as its entry in the table
abbrev tokens : ℕ → List ℕ
tokens l = (row_of l).first ∷ (row_of l).second ∷ (row_of l).third ∷ []

pub returns-then-l-ge31 : goal.returns-then-l-ge31
returns-then-l-ge31 c = row-over _ _ _ _ c.if-l-ge31.true

pub returns-in_err-first : goal.returns-in_err-first
unfolding listed listed_from row_of rows unreadable_row
returns-in_err-first c = c.from_residual.ensures ∙ row_none _ _ _ _ _ _ c.field.ensures (ap (λ r. get_or r 0 0) (entry_of tokens _ 31 _ c.if-l-ge31.false)) c.in_err-first.was

pub returns-in_err-second : goal.returns-in_err-second
unfolding listed listed_from row_of rows unreadable_row
returns-in_err-second c = c.from_residual-in_err-second.ensures ∙ row-none2 _ _ _ _ _ _
    c.field.ensures (ap (λ r. get_or r 0 0) (entry_of tokens _ 31 _ c.if-l-ge31.false)) _ c.in_ok-first.was _ _
    (field-from _ _ _ _ _ _ c.field-2.ensures c.next.ensures) (ap (λ r. get_or r 1 0) (entry_of tokens _ 31 _ c.if-l-ge31.false)) c.in_err-second.was

pub returns-in_err-third : goal.returns-in_err-third
unfolding listed listed_from row_of rows unreadable_row
returns-in_err-third c = c.from_residual-in_err-third.ensures ∙ row-none3 _ _ _ _ _ _
    c.field.ensures (ap (λ r. get_or r 0 0) (entry_of tokens _ 31 _ c.if-l-ge31.false)) _ c.in_ok-first.was _ _
    (field-from _ _ _ _ _ _ c.field-2.ensures c.next.ensures) (ap (λ r. get_or r 1 0) (entry_of tokens _ 31 _ c.if-l-ge31.false)) _ c.in_ok-second.was _ _
    (field-from _ _ _ _ _ _ c.field-3.ensures c.next-2.ensures) (ap (λ r. get_or r 2 0) (entry_of tokens _ 31 _ c.if-l-ge31.false)) c.in_err-third.was

pub returns : goal.returns
unfolding listed listed_from row_of rows unreadable_row
returns c = row_read _ _ _ _ _ _
    c.field.ensures (ap (λ r. get_or r 0 0) (entry_of tokens _ 31 _ c.if-l-ge31.false)) _ c.in_ok-first.was _ _
    (field-from _ _ _ _ _ _ c.field-2.ensures c.next.ensures) (ap (λ r. get_or r 1 0) (entry_of tokens _ 31 _ c.if-l-ge31.false)) _ c.in_ok-second.was _ _
    (field-from _ _ _ _ _ _ c.field-3.ensures c.next-2.ensures) (ap (λ r. get_or r 2 0) (entry_of tokens _ 31 _ c.if-l-ge31.false)) _ c.in_ok-third.was
