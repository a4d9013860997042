-- What entries are read by beside their unit, as the analysis of them is given it.
use Rattle.std.specs.Prelude.{ℕ, List}
use Rattle.marking.specs.Analysis.{Sections, sections}
use Rattle.marking.specs.KeepList.{KeepList, keep_in}
use Rattle.marking.specs.declared.analysis.Lent.{Lent}

abbrev pub keep_of : Lent → KeepList
keep_of x = keep_in x.tags.now x.treatments.now

-- with such a section for .debug_ranges
abbrev pub sections_with : Lent → List ℕ → Sections
sections_with x debug_ranges =
    sections x.abbreviations.now x.locations.now x.ranges.now x.addresses.now debug_ranges (keep_of x) x.setting

-- by the one section that range lists are read in
abbrev pub sections_of : Lent → Sections
sections_of x = sections_with x x.ranges.now
