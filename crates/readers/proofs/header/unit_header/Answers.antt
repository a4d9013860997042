-- `unit_header` meets its contract: one return for each length field. Assumes nothing.
use mathlib.Core.Path.{refl, sym, ◌∙◌}
use native.Mathlib.Omega.{arith}
use Rattle.readers.proofs.Refusing.{refused-none, read_some}
use Rattle.readers.proofs.Headers.{four_bytes, bytes-eight, header-empty, length_none, length-reserved, length-four, eight-none, length-eight}
use Rattle.readers.proofs.Widths.{fixed-inside}
use Rattle.readers.proofs.header.unit_header.Goals as goal

pub returns-then-section-eq0 : goal.returns-then-section-eq0
returns-then-section-eq0 c = sym (header-empty _ _ c.if-section-eq0.true)

pub returns-in_err-length : goal.returns-in_err-length
returns-in_err-length c = (refused-none _ _ _ _ _ c.ok_or.ensures.value c.in_err-length.was c.from_residual.ensures.1).1 ∙ sym (length_none _ _ c.if-section-eq0.false (sym c.fixed.ensures ∙ (refused-none _ _ _ _ _ c.ok_or.ensures.value c.in_err-length.was c.from_residual.ensures.1).0))

pub returns-in_err-wide : goal.returns-in_err-wide
returns-in_err-wide c = (refused-none _ _ _ _ _ c.ok_or-then-length-eq-ESCAPE_64.ensures.value c.in_err-wide.was c.from_residual-in_err-wide.ensures.1).1 ∙ sym (eight-none _ _ c.if-section-eq0.false _ _ (sym c.fixed.ensures ∙ (read_some _ _ _ _ c.ok_or.ensures.value c.in_ok-length.was)) c.if-length-eq-ESCAPE_64.true (sym c.fixed-then-length-eq-ESCAPE_64.ensures ∙ (refused-none _ _ _ _ _ c.ok_or-then-length-eq-ESCAPE_64.ensures.value c.in_err-wide.was c.from_residual-in_err-wide.ensures.1).0))

pub header_in-requires : goal.header_in-requires
header_in-requires c = omega (arith, bytes-eight 8 refl, (fixed-inside _ _ _ _ _ _ (sym c.fixed-then-length-eq-ESCAPE_64.ensures ∙ (read_some _ _ _ _ c.ok_or-then-length-eq-ESCAPE_64.ensures.value c.in_ok-wide.was))).1)

pub returns-then-length-eq-ESCAPE_64 : goal.returns-then-length-eq-ESCAPE_64
returns-then-length-eq-ESCAPE_64 c = c.header_in.ensures ∙ sym (length-eight _ _ c.if-section-eq0.false _ _ (sym c.fixed.ensures ∙ (read_some _ _ _ _ c.ok_or.ensures.value c.in_ok-length.was)) c.if-length-eq-ESCAPE_64.true _ _ (sym c.fixed-then-length-eq-ESCAPE_64.ensures ∙ (read_some _ _ _ _ c.ok_or-then-length-eq-ESCAPE_64.ensures.value c.in_ok-wide.was)) (omega arith))

pub returns-then-length-ge-FIRST_RESERVED : goal.returns-then-length-ge-FIRST_RESERVED
returns-then-length-ge-FIRST_RESERVED c = sym (length-reserved _ _ c.if-section-eq0.false _ _ (sym c.fixed.ensures ∙ (read_some _ _ _ _ c.ok_or.ensures.value c.in_ok-length.was)) c.if-length-eq-ESCAPE_64.false c.if-length-ge-FIRST_RESERVED.true)

pub header_in-requires-2 : goal.header_in-requires-2
header_in-requires-2 c = omega (arith, four_bytes, (fixed-inside _ _ _ _ _ _ (sym c.fixed.ensures ∙ (read_some _ _ _ _ c.ok_or.ensures.value c.in_ok-length.was))).1)

pub returns : goal.returns
returns c = c.header_in-2.ensures ∙ sym (length-four _ _ c.if-section-eq0.false _ _ (sym c.fixed.ensures ∙ (read_some _ _ _ _ c.ok_or.ensures.value c.in_ok-length.was)) (omega arith))
