-- `lookup` answers by the table's byte; past its end that it fails; by an empty table that the index is live. Assumes nothing.
use Rattle.marking.proofs.Lookups.{no_table, past-table, byte-zero, byte_one, byte-other}
use Rattle.marking.proofs.addresses.lookup.Goals as goal

pub returns-then-table-eq0 : goal.returns-then-table-eq0
returns-then-table-eq0 c = search no_table

pub returns-then-index-table : goal.returns-then-index-table
returns-then-index-table c = search past-table

pub returns-then-b-eq0 : goal.returns-then-b-eq0
returns-then-b-eq0 c = search byte-zero

pub returns-then-b-eq1 : goal.returns-then-b-eq1
returns-then-b-eq1 c = search byte_one

pub returns : goal.returns
returns c = search byte-other
