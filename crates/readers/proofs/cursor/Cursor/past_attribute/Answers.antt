-- `Cursor::past_attribute` meets its contract: so many bytes on, past a string or a number, or to the end of the value
-- that is read. Assumes nothing.
use mathlib.Core.Path.{sym, ◌∙◌}
use Rattle.readers.proofs.Values.{foreign-none}
use Rattle.readers.proofs.ShortValues.{past-width, past-string, past-signed, past-uleb, past-exprloc, past-unread, exprloc-sibling}
use Rattle.readers.proofs.cursor.Cursor.past_attribute.Goals as goal

pub returns-then-token-lt-ULEB128 : goal.returns-then-token-lt-ULEB128
returns-then-token-lt-ULEB128 c = past-width _ _ _ _ _ _ c.form_token-token.ensures c.if-token-lt-ULEB128.true _ c.width_of.ensures _ (c.past_fixed.ensures _)

pub returns-then-token-eq-NULL_TERMINATED : goal.returns-then-token-eq-NULL_TERMINATED
returns-then-token-eq-NULL_TERMINATED c = past-string _ _ _ _ _ _ c.form_token-token.ensures c.if-token-eq-NULL_TERMINATED.true _ c.string.ensures

pub returns-then-token-eq-SLEB128 : goal.returns-then-token-eq-SLEB128
returns-then-token-eq-SLEB128 c = c.past_number.ensures ∙ past-signed _ _ _ _ _ _ c.form_token-token.ensures c.if-token-eq-SLEB128.true _ c.sleb.ensures

pub returns-then-not-in_version : goal.returns-then-not-in_version
returns-then-not-in_version c = past-unread _ (foreign-none _ _ _ _ _ _ c.form_token-token.ensures c.if-token-eq-ULEB128.true (sym c.in_version.ensures ∙ c.if-not-in_version.true))

pub returns-then-token-eq-ULEB128 : goal.returns-then-token-eq-ULEB128
returns-then-token-eq-ULEB128 c = c.past_number-then-token-eq-ULEB128.ensures ∙ past-uleb _ _ _ _ _ _ c.form_token-token.ensures c.if-token-eq-ULEB128.true (sym c.in_version.ensures ∙ c.if-not-in_version.false) _ c.uleb.ensures

pub returns-then-name-eq-DW_AT_sibling : goal.returns-then-name-eq-DW_AT_sibling
returns-then-name-eq-DW_AT_sibling c = past-unread _ (exprloc-sibling _ _ _ _ _ c.if-form-eq-DW_FORM_exprloc.true c.if-name-eq-DW_AT_sibling.true)

pub returns-then-form-eq-DW_FORM_exprloc : goal.returns-then-form-eq-DW_FORM_exprloc
returns-then-form-eq-DW_FORM_exprloc c = c.past_field.ensures ∙ past-exprloc _ _ _ _ _ c.if-form-eq-DW_FORM_exprloc.true c.if-name-eq-DW_AT_sibling.false _ c.exprloc.ensures
