-- `Cursor::field` meets its contract: each token by its method.
use mathlib.Core.Path.{◌∙◌, ap, sym}
use native.Mathlib.Omega.{arith}
use Rattle.readers.specs.Fields.{block_field}
use Rattle.readers.specs.Inner.Fields.{number_field, bounded_field, moved_field}
use Rattle.readers.proofs.Tokens.{field-nothing, field-number, field-signed, field-string, field-run, field-block1, field-block2, field-block4, field-block, field-exprloc, field-bounded, field-unknown}
use Rattle.readers.proofs.cursor.Cursor.field.Goals as goal

pub returns-in-0 : goal.returns-in-0
returns-in-0 c = sym (field-nothing _ _ _ _ c.in-0.is)

pub returns-in-0-to-11 : goal.returns-in-0-to-11
returns-in-0-to-11 c = c.number_field-in-0-to-11.ensures ∙ ap (number_field _) c.number-in-0-to-11.ensures ∙ sym (field-number _ _ _ _ (omega arith) (omega arith))

pub returns-in-12 : goal.returns-in-12
returns-in-12 c = c.number_field.ensures ∙ ap (number_field _) c.long_sleb.ensures ∙ sym (field-signed _ _ _ _ c.in-12.is)

pub returns-in-13 : goal.returns-in-13
returns-in-13 c = c.moved_field.ensures ∙ ap (moved_field _) c.string.ensures ∙ sym (field-string _ _ _ _ c.in-13.is)

pub returns-in-14 : goal.returns-in-14
returns-in-14 c = c.moved_field-in-14.ensures ∙ ap (moved_field _) c.bytes.ensures ∙ sym (field-run _ _ _ _ c.in-14.is)

pub returns-in-15 : goal.returns-in-15
returns-in-15 c = c.block_field.ensures ∙ ap (block_field _) c.number.ensures ∙ sym (field-block1 _ _ _ _ c.in-15.is)

pub returns-in-16 : goal.returns-in-16
returns-in-16 c = c.block_field-in-16.ensures ∙ ap (block_field _) c.number-in-16.ensures ∙ sym (field-block2 _ _ _ _ c.in-16.is)

pub returns-in-17 : goal.returns-in-17
returns-in-17 c = c.block_field-in-17.ensures ∙ ap (block_field _) c.number-in-17.ensures ∙ sym (field-block4 _ _ _ _ c.in-17.is)

pub returns-in-18 : goal.returns-in-18
returns-in-18 c = c.block_field-in-18.ensures ∙ ap (block_field _) c.long_uleb.ensures ∙ sym (field-block _ _ _ _ c.in-18.is)

pub returns-in-19 : goal.returns-in-19
returns-in-19 c = c.exprloc.ensures ∙ sym (field-exprloc _ _ _ _ c.in-19.is)

pub returns-in-20 : goal.returns-in-20
returns-in-20 c = c.bounded_field.ensures ∙ ap (bounded_field _) c.uleb.ensures ∙ sym (field-bounded _ _ _ _ c.in-20.is)

pub returns-in_default : goal.returns-in_default
returns-in_default c = sym (field-unknown _ _ _ _ (omega arith))
