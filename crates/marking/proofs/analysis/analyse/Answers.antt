-- `analyse` answers by the header, and by the unit that is found or without one. Assumes nothing.
use Rattle.std.specs.Prelude.{Ok}
use mathlib.Core.Path.{sym, ◌∙◌, ap}
use lib.ListN.{length}
use Rattle.marking.specs.Analysis.{header_by}
use Rattle.marking.proofs.UnitAnalyses.{min-least, rooms-by, found-by, unit-ready, section-refusing, section-none, section-unit}
use Rattle.marking.proofs.analysis.analyse.Goals as goal

pub analyse_unit-analysis-requires : goal.analyse_unit-analysis-requires
analyse_unit-analysis-requires c = let f =
    found-by _ _ _ _ _ _ (sym c.listed_header-header.ensures) c.find_unit.ensures in
    unit-ready _ _ _ _ _ _ _
    (length c.args.offsets.now) (length c.args.parents.now) (length c.args.roots.now)
    (length c.args.reference_ends.now) (length c.args.targets.now) _ _ _ _ _
    (sym (c.in-Ok-Some.is ∙ ap Ok c.in-Ok-Some.field-0-is) ∙ f.0) f.1 (record { rows = c.entry_room-room.ensures; names = c.min.ensures ∙ min-least _ _ })
    c.clear_columns.ensures

pub returns-in-Err : goal.returns-in-Err
unfolding header_by
returns-in-Err c = let f = found-by _ _ _ _ _ _ (sym c.listed_header-header.ensures) c.find_unit.ensures in
    let a =
    section-refusing _ _ _ _ _ _ _ _ _ _ _ _ _ _ _ f.1 c.clear_columns.ensures _
    (sym c.in-Err.is ∙ f.0) in
    ((c.listed_header-header.ensures, a.0), a.1)

pub returns-in-Ok-None : goal.returns-in-Ok-None
unfolding header_by
returns-in-Ok-None c = let f = found-by _ _ _ _ _ _ (sym c.listed_header-header.ensures) c.find_unit.ensures in
    let a =
    section-none _ _ _ _ _ _ _ _ _ _ _ _ _ _ _ f.1 c.clear_columns.ensures
    (sym (c.in-Ok-None.is ∙ ap Ok c.in-Ok-None.field-0-is) ∙ f.0) in
    ((c.listed_header-header.ensures, a.0), a.1)

pub returns-in-Ok-Some : goal.returns-in-Ok-Some
unfolding header_by
returns-in-Ok-Some c = let f = found-by _ _ _ _ _ _ (sym c.listed_header-header.ensures) c.find_unit.ensures in
    let a =
    section-unit _ _ _ _ _ _ _ _ _ _ _ _ _ _ _ f.1 _ (sym (c.in-Ok-Some.is ∙ ap Ok c.in-Ok-Some.field-0-is) ∙ f.0) _ _ _ _ _ _ _
    (rooms-by (record { rows = c.entry_room-room.ensures; names = c.min.ensures ∙ min-least _ _ })
    c.clear_columns.auto.offsets c.clear_columns.auto.parents c.clear_columns.auto.roots c.clear_columns.auto.reference_ends c.clear_columns.auto.targets)
    c.clear_columns.auto.offsets c.clear_columns.auto.parents c.clear_columns.auto.roots c.clear_columns.auto.reference_ends c.clear_columns.auto.targets c.analyse_unit-analysis.ensures in
    ((c.listed_header-header.ensures, a.0), a.1)
