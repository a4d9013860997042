-- `entry_room` answers the least of five numbers. Assumes nothing.
use mathlib.Core.Path.{ap, ap₂, ◌∙◌}
use Rattle.marking.specs.Columns.{least}
use Rattle.marking.proofs.UnitAnalyses.{min-least}
use Rattle.marking.proofs.analysis.entry_room.Goals as goal

pub returns : goal.returns
returns c = c.min-4.ensures ∙ min-least _ _
    ∙ ap (least _) (c.min-3.ensures ∙ min-least _ _ ∙ ap₂ least (c.min.ensures ∙ min-least _ _) (c.min-2.ensures ∙ min-least _ _))
