-- `index_lists` makes the three lists, or finds one too short. Assumes nothing.
use mathlib.Core.Path.{sym, ◌∙◌}
use Rattle.rewriting.proofs.ListPass.Listings.{type-lists, settled-ranges, settled-locations, settled-strings, ranges-short, locations-short, strings-short, lists-made}
use Rattle.rewriting.proofs.collect.index_lists.Goals as goal

pub returns-then-type_units : goal.returns-then-type_units
returns-then-type_units c = type-lists _ _ _ _ _ _ _ _ _ c.if-type_units.true _ _ _

pub returns-then-is_short : goal.returns-then-is_short
returns-then-is_short c = ranges-short _ _ _ _ _ _ _ _ _ _ _ _ _ _ _ _ (settled-ranges _ _ _ _ _ _ _ _ _ c.if-type_units.false _ _ _ c.sorted_lists-g.auto.range_list _ _ c.sorted_lists-g.ensures.0 c.settle-ranges.ensures) (c.settle-ranges.auto.list ∙ c.sorted_lists-g.auto.range_list) _ c.is_short.ensures c.if-is_short.true

pub returns-then-is_short-2 : goal.returns-then-is_short-2
returns-then-is_short-2 c = locations-short _ _ _ _ _ _ _ _ _ _ _ _ _ _ _ _ (settled-locations _ _ _ _ _ _ _ _ _ c.if-type_units.false _ _ _ c.sorted_lists-g.auto.location_list _ _ c.sorted_lists-g.ensures.1.0 c.settle-locations.ensures) (c.settle-locations.auto.list ∙ c.sorted_lists-g.auto.location_list) _ c.is_short-2.ensures c.if-is_short-2.true

pub returns-then-is_short-3 : goal.returns-then-is_short-3
returns-then-is_short-3 c = strings-short _ _ _ _ _ _ _ _ _ _ _ _ _ _ _ _ (settled-strings _ _ _ _ _ _ _ _ _ c.if-type_units.false _ _ _ c.sorted_lists-g.auto.string_list _ _ c.sorted_lists-g.ensures.1.1 c.settle-strings.ensures) (c.settle-strings.auto.list ∙ c.sorted_lists-g.auto.string_list) _ c.is_short-3.ensures c.if-is_short-3.true

pub returns : goal.returns
returns c = lists-made _ _ _ _ _ _ _ _ _ _ _ _ _ _ _ _ _ _
    (settled-ranges _ _ _ _ _ _ _ _ _ c.if-type_units.false _ _ _ c.sorted_lists-g.auto.range_list _ _ c.sorted_lists-g.ensures.0 c.settle-ranges.ensures)
    (settled-locations _ _ _ _ _ _ _ _ _ c.if-type_units.false _ _ _ c.sorted_lists-g.auto.location_list _ _ c.sorted_lists-g.ensures.1.0 c.settle-locations.ensures)
    (settled-strings _ _ _ _ _ _ _ _ _ c.if-type_units.false _ _ _ c.sorted_lists-g.auto.string_list _ _ c.sorted_lists-g.ensures.1.1 c.settle-strings.ensures)
    (c.settle-ranges.auto.list ∙ c.sorted_lists-g.auto.range_list) (c.settle-locations.auto.list ∙ c.sorted_lists-g.auto.location_list) (c.settle-strings.auto.list ∙ c.sorted_lists-g.auto.string_list)
    (sym c.if-is_short.false ∙ c.is_short.ensures) (sym c.if-is_short-2.false ∙ c.is_short-2.ensures) (sym c.if-is_short-3.false ∙ c.is_short-3.ensures)
