-- `header_fields` meets its contract, by the version. Assumes nothing.
use Rattle.readers.proofs.Refusing.{refused-none, read_some}
use mathlib.Core.Path.{sym, ◌∙◌}
use native.Mathlib.Omega.{arith}
use Rattle.readers.proofs.Headers.{version-none, version-inside, version-five, version-four, version-other}
use Rattle.readers.proofs.header.header_fields.Goals as goal

pub returns-in_err-version : goal.returns-in_err-version
returns-in_err-version c = (refused-none _ _ _ _ _ c.ok_or.ensures.value c.in_err-version.was c.from_residual.ensures.1).1 ∙ sym (version-none _ _ _ _ c.length_bytes.ensures (sym c.fixed.ensures ∙ (refused-none _ _ _ _ _ c.ok_or.ensures.value c.in_err-version.was c.from_residual.ensures.1).0))

pub fields_5-requires : goal.fields_5-requires
fields_5-requires c = version-inside _ _ _ _ c.length_bytes.ensures _ _ (sym c.fixed.ensures ∙ (read_some _ _ _ _ c.ok_or.ensures.value c.in_ok-version.was))

pub returns-in-5 : goal.returns-in-5
returns-in-5 c = c.fields_5.ensures ∙ sym (version-five _ _ _ _ c.length_bytes.ensures _ _ (sym c.fixed.ensures ∙ (read_some _ _ _ _ c.ok_or.ensures.value c.in_ok-version.was)) c.in-5.is)

pub fields_4-requires : goal.fields_4-requires
fields_4-requires c = version-inside _ _ _ _ c.length_bytes.ensures _ _ (sym c.fixed.ensures ∙ (read_some _ _ _ _ c.ok_or.ensures.value c.in_ok-version.was))

pub returns-in-4 : goal.returns-in-4
returns-in-4 c = c.fields_4.ensures ∙ sym (version-four _ _ _ _ c.length_bytes.ensures _ _ (sym c.fixed.ensures ∙ (read_some _ _ _ _ c.ok_or.ensures.value c.in_ok-version.was)) (λ h. omega (arith, c.in-4.is, h)) c.in-4.is)

pub returns-in_default : goal.returns-in_default
returns-in_default c = sym (version-other _ _ _ _ c.length_bytes.ensures _ _ (sym c.fixed.ensures ∙ (read_some _ _ _ _ c.ok_or.ensures.value c.in_ok-version.was)) (λ h. omega arith) (λ h. omega arith))
