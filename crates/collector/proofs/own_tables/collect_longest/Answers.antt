-- `collect_longest` meets its contract: what a tier leaves that is not full. Assumes nothing.
use mathlib.Core.Path.{sym, ◌∙◌}
use native.Mathlib.Omega.{arith}
use Rattle.readers.specs.Choice.{pick}
use Rattle.marking.specs.Columns.{least, rooms_of, unit_rooms}
use Rattle.collector.proofs.Tiers.{left-larger}
use Rattle.collector.proofs.own_tables.collect_longest.Goals as goal

pub returns-then-not-is_full : goal.returns-then-not-is_full
unfolding unit_rooms rooms_of least pick
returns-then-not-is_full c =
    left-larger c.args.inputs _ _ _ _ _ _ _ _ _ _ _ _ _ (unit_rooms 1024 4096 1024 1024 1024 1024 2048) (omega arith) (omega arith)
    c.collect_in-answer.ensures (sym c.is_full.ensures ∙ c.if-not-is_full.true)
