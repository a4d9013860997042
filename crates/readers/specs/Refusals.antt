-- Document 01's numbers of refusal, for each case of what a reader answers; 0 where it refuses nothing.
use Rattle.std.specs.Prelude.{ℕ, true, false, Bool, None, Option, Some, Result, Ok, Err}
use Rattle.readers.specs.declared.cursor.Cursor.{Cursor}
use Rattle.readers.specs.declared.operations.ListStep.{ListStep}
use Rattle.readers.specs.declared.operations.Operation.{Operation}
use Rattle.readers.specs.declared.entries.Step.{Step}
use Rattle.readers.specs.declared.entries.Step.TheVariants.{Entry as Entry', Terminator, End}
use Rattle.readers.specs.declared.operations.ListStep.TheVariants.{Entry as ListEntry', End as ListEnd}

-- 3: the abbreviations
abbrev pub refusal_of_checked : Result (Unit {0}) ℕ → ℕ
refusal_of_checked (Ok u) = 0
refusal_of_checked (Err n) = n

-- 4: an entry, its values too
abbrev pub refusal_of_step : Option Step → ℕ
refusal_of_step (Some (Entry' x)) = 0
refusal_of_step (Some (Terminator c)) = 0
refusal_of_step (Some End) = 0
refusal_of_step None = 4

-- 5: an operation, an expression or a list; 7: an expression that names something by an offset in the section
abbrev pub refusal_of_operation : Option Operation → ℕ
refusal_of_operation (Some op) = 0
refusal_of_operation None = 5

abbrev pub refusal_of_list : Option ListStep → ℕ
refusal_of_list (Some (ListEntry' x)) = 0
refusal_of_list (Some ListEnd) = 0
refusal_of_list None = 5

-- where it holds locations: ranges that can't be resolved are live (document 01, "Roots")
abbrev pub refusal_of_locations : Option Cursor → ℕ
refusal_of_locations (Some c) = 0
refusal_of_locations None = 5

abbrev pub refusal_of_walk : Option (ℕ × Bool) → ℕ
refusal_of_walk (Some (n, false)) = 0
refusal_of_walk (Some (n, true)) = 7
refusal_of_walk None = 5
