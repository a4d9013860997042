-- `bundle::debug_ranges_section`, by the version byte. Assumes nothing.
use Rattle.bundle.proofs.Parts.{section-there, section-empty}
use Rattle.bundle.proofs.debug_ranges_section.Goals as goal

pub returns-then-version-eq2 : goal.returns-then-version-eq2
returns-then-version-eq2 c = search section-there

pub returns : goal.returns
returns c = search section-empty
