-- Document 01's numbers of refusal, for each case of what the parts of rewriting answer; 0 where they refuse nothing.
use Rattle.std.specs.Prelude.{ℕ, None, Option, Some}
use Rattle.readers.specs.declared.offsets.UnitOffset.{UnitOffset}
use Rattle.rewriting.specs.declared.collect.Listed.{Listed}

-- 8: a target that is not mapped, or a sibling for which there is no place
abbrev pub refusal_of_mapped : Option UnitOffset → ℕ
refusal_of_mapped (Some n) = 0
refusal_of_mapped None = 8

-- 12: an index list that is too short
abbrev pub lists_counted : Option ℕ → Option ℕ → Option ℕ → Option Listed
lists_counted ranges locations strings = Some (record { ranges = ranges; locations = locations; strings = strings })

abbrev pub refusal_of_listed : Option Listed → ℕ
refusal_of_listed (Some l) = 0
refusal_of_listed None = 12
