-- `fields_4` meets its contract: after each field the answer is that of the fields from there on. Assumes nothing.
use Rattle.readers.proofs.Refusing.{refused-none, read_some}
use mathlib.Core.Path.{sym, ◌∙◌}
use Rattle.readers.specs.Header.{header_made, encoding_of}
use Rattle.readers.proofs.Headers.{offset-none, size4-none, size4-other, size4-known}
use Rattle.readers.proofs.header.fields_4.Goals as goal

pub returns-in_err-abbreviations : goal.returns-in_err-abbreviations
returns-in_err-abbreviations c = (refused-none _ _ _ _ _ c.ok_or.ensures.value c.in_err-abbreviations.was c.from_residual.ensures.1).1 ∙ sym (offset-none _ _ _ _ (sym c.fixed.ensures ∙ (refused-none _ _ _ _ _ c.ok_or.ensures.value c.in_err-abbreviations.was c.from_residual.ensures.1).0))

pub returns-then-unit-size_at : goal.returns-then-unit-size_at
returns-then-unit-size_at c = sym (size4-none _ _ _ _ _ _ (sym c.fixed.ensures ∙ (read_some _ _ _ _ c.ok_or.ensures.value c.in_ok-abbreviations.was)) c.if-unit-size_at.true)

pub returns-then-not-size_known : goal.returns-then-not-size_known
returns-then-not-size_known c = sym (size4-other _ _ _ _ _ _ (sym c.fixed.ensures ∙ (read_some _ _ _ _ c.ok_or.ensures.value c.in_ok-abbreviations.was)) c.if-unit-size_at.false (sym c.size_known.ensures ∙ c.if-not-size_known.true))

pub returns : goal.returns
unfolding header_made encoding_of
returns c = sym (size4-known _ _ _ _ _ _ (sym c.fixed.ensures ∙ (read_some _ _ _ _ c.ok_or.ensures.value c.in_ok-abbreviations.was)) c.if-unit-size_at.false (sym c.size_known.ensures ∙ c.if-not-size_known.false))
