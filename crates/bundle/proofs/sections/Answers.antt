-- `bundle::sections` reads the sections one after the other. Assumes nothing.
use mathlib.Core.Path.{◌∙◌}
use Rattle.bundle.proofs.Parts.{no-unit, no-abbreviations, no-locations, no-ranges, no-addresses, no-debug-ranges, more_bytes, whole}
use Rattle.bundle.proofs.sections.Goals as goal

pub returns-in_err-unit : goal.returns-in_err-unit
returns-in_err-unit c = c.from_residual.ensures ∙ no-unit _ _ c.section.ensures c.in_err-unit.was

pub returns-in_err-abbreviations : goal.returns-in_err-abbreviations
returns-in_err-abbreviations c = c.from_residual-in_err-abbreviations.ensures ∙ no-abbreviations _ _ c.section.ensures _ c.in_ok-unit.was _ c.section-2.ensures c.in_err-abbreviations.was

pub returns-in_err-locations : goal.returns-in_err-locations
returns-in_err-locations c = c.from_residual-in_err-locations.ensures ∙ no-locations _ _ c.section.ensures _ c.in_ok-unit.was _ c.section-2.ensures _ c.in_ok-abbreviations.was _ c.section-3.ensures c.in_err-locations.was

pub returns-in_err-ranges : goal.returns-in_err-ranges
returns-in_err-ranges c = c.from_residual-in_err-ranges.ensures ∙ no-ranges _ _ c.section.ensures _ c.in_ok-unit.was _ c.section-2.ensures _ c.in_ok-abbreviations.was _ c.section-3.ensures _ c.in_ok-locations.was _ c.section-4.ensures c.in_err-ranges.was

pub returns-in_err-addresses : goal.returns-in_err-addresses
returns-in_err-addresses c = c.from_residual-in_err-addresses.ensures ∙ no-addresses _ _ c.section.ensures _ c.in_ok-unit.was _ c.section-2.ensures _ c.in_ok-abbreviations.was _ c.section-3.ensures _ c.in_ok-locations.was _ c.section-4.ensures _ c.in_ok-ranges.was _ c.section-5.ensures c.in_err-addresses.was

pub returns-in_err-debug_ranges : goal.returns-in_err-debug_ranges
returns-in_err-debug_ranges c =
    c.from_residual-in_err-debug_ranges.ensures ∙ no-debug-ranges
    _ _ c.section.ensures _ c.in_ok-unit.was
    _ c.section-2.ensures _ c.in_ok-abbreviations.was
    _ c.section-3.ensures _ c.in_ok-locations.was
    _ c.section-4.ensures _ c.in_ok-ranges.was
    _ c.section-5.ensures _ c.in_ok-addresses.was
    _ c.debug_ranges_section.ensures c.in_err-debug_ranges.was

pub returns-then-debug_ranges-s : goal.returns-then-debug_ranges-s
returns-then-debug_ranges-s c =
    more_bytes
    _ _ c.section.ensures _ c.in_ok-unit.was
    _ c.section-2.ensures _ c.in_ok-abbreviations.was
    _ c.section-3.ensures _ c.in_ok-locations.was
    _ c.section-4.ensures _ c.in_ok-ranges.was
    _ c.section-5.ensures _ c.in_ok-addresses.was
    _ c.debug_ranges_section.ensures _ c.in_ok-debug_ranges.was c.if-debug_ranges-s.true

pub returns : goal.returns
returns c =
    whole
    _ _ c.section.ensures _ c.in_ok-unit.was
    _ c.section-2.ensures _ c.in_ok-abbreviations.was
    _ c.section-3.ensures _ c.in_ok-locations.was
    _ c.section-4.ensures _ c.in_ok-ranges.was
    _ c.section-5.ensures _ c.in_ok-addresses.was
    _ c.debug_ranges_section.ensures _ c.in_ok-debug_ranges.was c.if-debug_ranges-s.false
