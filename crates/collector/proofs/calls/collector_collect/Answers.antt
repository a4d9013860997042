-- `collector_collect` meets its contract: what the shortest tables leave where none is full. Assumes nothing.
use mathlib.Core.Path.{sym, ◌∙◌}
use native.Mathlib.Omega.{arith}
use Rattle.readers.specs.Choice.{pick}
use Rattle.marking.specs.Columns.{least, rooms_of, unit_rooms}
use Rattle.collector.specs.declared.own_tables.Inputs.{Inputs}
use Rattle.collector.proofs.Tiers.{left-larger}
use Rattle.collector.proofs.calls.collector_collect.Goals as goal

pub returns-then-not-is_full : goal.returns-then-not-is_full
unfolding unit_rooms rooms_of least pick
returns-then-not-is_full c =
    let inputs : Inputs = record {
      section = c.args.section;
      abbreviations = c.args.abbreviations;
      locations = c.args.locations;
      ranges = c.args.ranges;
      addresses = c.args.addresses;
      debug_ranges = c.args.debug_ranges;
      tags = c.args.tags;
      treatments = c.args.treatments;
      ranges_base = c.args.ranges_base;
      type_units = c.args.type_units;
      big_endian = c.args.big_endian;
      fixed_addresses = c.args.fixed_addresses;
    } in
    let l = left-larger inputs _ _ _ _ _ _ _ _ _ _ _ _ _ (unit_rooms 64 256 64 64 64 64 128) (omega arith) (omega arith)
    c.collect_in-answer.ensures (sym c.is_full.ensures ∙ c.if-not-is_full.true) in
    (l.number_left, l.counts_left, l.map_left, l.ranges_left, l.locations_left, l.strings_left, l.out_left)
