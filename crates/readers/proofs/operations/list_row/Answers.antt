-- `list_row` meets its contract: each table lists the layout numbers of its kinds, and there are no others. Assumes nothing.
use mathlib.Core.Path.{◌≡◌, ap, sym, ◌∙◌}
use borrow.Author.Rules.{rules}
use lib.ListN.{get_or}
use Rattle.readers.specs.Choice.{pick, ◌and◌}
use Rattle.readers.specs.Operations.{row_among, location_entries, location_entries4, range_entries}
use Rattle.readers.proofs.Constants.{listed, listed_from, entry-or}
use Rattle.readers.proofs.Steps.{location4-row, location-row, range-row, location4-past, location-past, range-past}
use Rattle.readers.proofs.operations.list_row.Goals as goal
use Rattle.readers.proofs.operations.list_row.Goals.{then-not-location, else-not-location+then-version-eq4, else-not-location+else-version-eq4}

pub returns : goal.returns
unfolding listed listed_from location_entries location_entries4 range_entries row_among pick ◌and◌
returns c =
    let e : c.unwrap_or.result ≡ get_or c.if-not-location.rows.now c.args.kind 0 = search rules in
    e
    ∙ elim c.if-not-location.branch [
      | then-not-location w ↦
          ap (λ b. get_or b.now c.args.kind 0) w.rows-is
          ∙ entry-or (row_among range_entries) 8 c.args.kind _ (λ h. sym (range-row _ _ _ w.if-not-location.true)) (λ h. sym (range-past _ _ _ w.if-not-location.true h))
      | else-not-location+then-version-eq4 w ↦
          ap (λ b. get_or b.now c.args.kind 0) w.rows-is
          ∙ entry-or (row_among location_entries4) 5 c.args.kind _ (λ h. sym (location4-row _ _ _ w.if-not-location.false w.if-version-eq4.true)) (λ h. sym (location4-past _ _ _ w.if-not-location.false w.if-version-eq4.true h))
      | else-not-location+else-version-eq4 w ↦
          ap (λ b. get_or b.now c.args.kind 0) w.rows-is
          ∙ entry-or (row_among location_entries) 9 c.args.kind _ (λ h. sym (location-row _ _ _ w.if-not-location.false w.if-version-eq4.false)) (λ h. sym (location-past _ _ _ w.if-not-location.false w.if-version-eq4.false h))
    ]
