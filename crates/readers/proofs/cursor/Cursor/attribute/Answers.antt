-- `Cursor::attribute` meets its contract, by the token of its form. Assumes nothing.
use mathlib.Core.Path.{sym, ap, ◌∙◌}
use native.Mathlib.Omega.{arith}
use Rattle.readers.specs.Inner.Values.{attribute_of}
use Rattle.readers.proofs.Values.{fixed_in, foreign-none, plain-nothing}
use Rattle.readers.proofs.ShortValues.{fixed-value, uleb-value, exprloc-value, exprloc-sibling}
use Rattle.readers.proofs.cursor.Cursor.attribute.Goals as goal

pub returns-then-token-eq-NO_BYTES : goal.returns-then-token-eq-NO_BYTES
returns-then-token-eq-NO_BYTES c = plain-nothing _ _ _ _ _ _ c.form_token-token.ensures (omega arith) (fixed_in _ _ _ c.form_token-token.ensures (omega arith)) c.if-token-eq-NO_BYTES.true

pub returns-then-token-lt-ULEB128 : goal.returns-then-token-lt-ULEB128
returns-then-token-lt-ULEB128 c = c.attribute_of.ensures ∙ ap (attribute_of _) c.number_field.ensures ∙ fixed-value _ _ _ _ _ _ c.form_token-token.ensures (omega arith) c.if-token-lt-ULEB128.true _ c.width_of.ensures _ c.fixed-n.ensures

pub returns-then-not-in_version : goal.returns-then-not-in_version
returns-then-not-in_version c = foreign-none _ _ _ _ _ _ c.form_token-token.ensures c.if-token-eq-ULEB128.true (sym c.in_version.ensures ∙ c.if-not-in_version.true)

pub returns-then-token-eq-ULEB128 : goal.returns-then-token-eq-ULEB128
returns-then-token-eq-ULEB128 c = c.attribute_of-then-token-eq-ULEB128.ensures ∙ ap (attribute_of _) c.number_field-then-token-eq-ULEB128.ensures ∙ uleb-value _ _ _ _ _ _ c.form_token-token.ensures c.if-token-eq-ULEB128.true (sym c.in_version.ensures ∙ c.if-not-in_version.false) _ c.uleb.ensures

pub returns-then-name-eq-DW_AT_sibling : goal.returns-then-name-eq-DW_AT_sibling
returns-then-name-eq-DW_AT_sibling c = exprloc-sibling _ _ _ _ _ c.if-form-eq-DW_FORM_exprloc.true c.if-name-eq-DW_AT_sibling.true

pub returns-then-form-eq-DW_FORM_exprloc : goal.returns-then-form-eq-DW_FORM_exprloc
returns-then-form-eq-DW_FORM_exprloc c = c.attribute_of-then-form-eq-DW_FORM_exprloc.ensures ∙ exprloc-value _ _ _ _ _ c.if-form-eq-DW_FORM_exprloc.true c.if-name-eq-DW_AT_sibling.false _ c.exprloc.ensures
