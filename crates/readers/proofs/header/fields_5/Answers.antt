-- `fields_5` meets its contract: after each field the answer is that of the fields from there on. Assumes nothing.
use Rattle.readers.proofs.Refusing.{refused-none, read_some}
use mathlib.Core.Path.{sym, ◌∙◌}
use mathlib.Core.Logic.{inl, inr}
use Rattle.readers.specs.Header.{header_made, encoding_of}
use Rattle.readers.proofs.Headers.{type-none, type-other, type-known, size_none, size-other, size-known, abbreviations-none, whole, id-none, id-there}
use Rattle.readers.proofs.header.fields_5.Goals as goal
use Rattle.readers.proofs.header.fields_5.Goals.{else-unit_type-ne-DW_UT_compile-via-then-unit_type-ne-DW_UT_compile+else-unit_type-ne-DW_UT_split_compile, else-unit_type-ne-DW_UT_compile-via-else-unit_type-ne-DW_UT_compile}

pub returns-then-unit-at : goal.returns-then-unit-at
returns-then-unit-at c = sym (type-none _ _ _ _ c.if-unit-at.true)

pub returns-then-unit_type-ne-DW_UT_split_compile : goal.returns-then-unit_type-ne-DW_UT_split_compile
returns-then-unit_type-ne-DW_UT_split_compile c = sym (type-other _ _ _ _ c.if-unit-at.false c.if-unit_type-ne-DW_UT_compile.true c.if-unit_type-ne-DW_UT_split_compile.true)

pub returns-then-unit-size_at : goal.returns-then-unit-size_at
returns-then-unit-size_at c = sym ((type-known _ _ _ _ c.if-unit-at.false (elim c.else-unit_type-ne-DW_UT_compile.branch [ else-unit_type-ne-DW_UT_compile-via-then-unit_type-ne-DW_UT_compile+else-unit_type-ne-DW_UT_split_compile w ↦ inr w.if-unit_type-ne-DW_UT_split_compile.false | else-unit_type-ne-DW_UT_compile-via-else-unit_type-ne-DW_UT_compile w ↦ inl w.if-unit_type-ne-DW_UT_compile.false ])) ∙ size_none _ _ _ _ _ c.if-unit-size_at.true)

pub returns-then-not-size_known : goal.returns-then-not-size_known
returns-then-not-size_known c = sym ((type-known _ _ _ _ c.if-unit-at.false (elim c.else-unit_type-ne-DW_UT_compile.branch [ else-unit_type-ne-DW_UT_compile-via-then-unit_type-ne-DW_UT_compile+else-unit_type-ne-DW_UT_split_compile w ↦ inr w.if-unit_type-ne-DW_UT_split_compile.false | else-unit_type-ne-DW_UT_compile-via-else-unit_type-ne-DW_UT_compile w ↦ inl w.if-unit_type-ne-DW_UT_compile.false ])) ∙ size-other _ _ _ _ _ c.if-unit-size_at.false (sym c.size_known.ensures ∙ c.if-not-size_known.true))

pub returns-in_err-abbreviations : goal.returns-in_err-abbreviations
returns-in_err-abbreviations c = (refused-none _ _ _ _ _ c.ok_or.ensures.value c.in_err-abbreviations.was c.from_residual.ensures.1).1 ∙ sym (((type-known _ _ _ _ c.if-unit-at.false (elim c.else-unit_type-ne-DW_UT_compile.branch [ else-unit_type-ne-DW_UT_compile-via-then-unit_type-ne-DW_UT_compile+else-unit_type-ne-DW_UT_split_compile w ↦ inr w.if-unit_type-ne-DW_UT_split_compile.false | else-unit_type-ne-DW_UT_compile-via-else-unit_type-ne-DW_UT_compile w ↦ inl w.if-unit_type-ne-DW_UT_compile.false ]))
    ∙ size-known _ _ _ _ _ c.if-unit-size_at.false (sym c.size_known.ensures ∙ c.if-not-size_known.false)) ∙ abbreviations-none _ _ _ _ _ _ (sym c.fixed.ensures ∙ (refused-none _ _ _ _ _ c.ok_or.ensures.value c.in_err-abbreviations.was c.from_residual.ensures.1).0))

pub returns-then-unit_type-eq-DW_UT_compile : goal.returns-then-unit_type-eq-DW_UT_compile
unfolding header_made encoding_of
returns-then-unit_type-eq-DW_UT_compile c = sym (((type-known _ _ _ _ c.if-unit-at.false (elim c.else-unit_type-ne-DW_UT_compile.branch [ else-unit_type-ne-DW_UT_compile-via-then-unit_type-ne-DW_UT_compile+else-unit_type-ne-DW_UT_split_compile w ↦ inr w.if-unit_type-ne-DW_UT_split_compile.false | else-unit_type-ne-DW_UT_compile-via-else-unit_type-ne-DW_UT_compile w ↦ inl w.if-unit_type-ne-DW_UT_compile.false ]))
    ∙ size-known _ _ _ _ _ c.if-unit-size_at.false (sym c.size_known.ensures ∙ c.if-not-size_known.false))
    ∙ whole _ _ _ _ _ _ _ _ (sym c.fixed.ensures ∙ (read_some _ _ _ _ c.ok_or.ensures.value c.in_ok-abbreviations.was)) c.if-unit_type-eq-DW_UT_compile.true)

pub returns-then-unit-first : goal.returns-then-unit-first
returns-then-unit-first c = sym (((type-known _ _ _ _ c.if-unit-at.false (elim c.else-unit_type-ne-DW_UT_compile.branch [ else-unit_type-ne-DW_UT_compile-via-then-unit_type-ne-DW_UT_compile+else-unit_type-ne-DW_UT_split_compile w ↦ inr w.if-unit_type-ne-DW_UT_split_compile.false | else-unit_type-ne-DW_UT_compile-via-else-unit_type-ne-DW_UT_compile w ↦ inl w.if-unit_type-ne-DW_UT_compile.false ]))
    ∙ size-known _ _ _ _ _ c.if-unit-size_at.false (sym c.size_known.ensures ∙ c.if-not-size_known.false))
    ∙ id-none _ _ _ _ _ _ _ _ (sym c.fixed.ensures ∙ (read_some _ _ _ _ c.ok_or.ensures.value c.in_ok-abbreviations.was))
    c.if-unit_type-eq-DW_UT_compile.false c.if-unit-first.true)

pub returns : goal.returns
unfolding header_made encoding_of
returns c = sym (((type-known _ _ _ _ c.if-unit-at.false (elim c.else-unit_type-ne-DW_UT_compile.branch [ else-unit_type-ne-DW_UT_compile-via-then-unit_type-ne-DW_UT_compile+else-unit_type-ne-DW_UT_split_compile w ↦ inr w.if-unit_type-ne-DW_UT_split_compile.false | else-unit_type-ne-DW_UT_compile-via-else-unit_type-ne-DW_UT_compile w ↦ inl w.if-unit_type-ne-DW_UT_compile.false ]))
    ∙ size-known _ _ _ _ _ c.if-unit-size_at.false (sym c.size_known.ensures ∙ c.if-not-size_known.false))
    ∙ id-there _ _ _ _ _ _ _ _ (sym c.fixed.ensures ∙ (read_some _ _ _ _ c.ok_or.ensures.value c.in_ok-abbreviations.was))
    c.if-unit_type-eq-DW_UT_compile.false c.if-unit-first.false)
