-- `operation_row` meets its contract: the table lists the layout numbers of the codes, and the common codes have theirs.
-- Assumes nothing.
use mathlib.Core.Path.{sym, ap}
use native.Mathlib.Omega.{arith}
use Rattle.readers.specs.Choice.{pick, ◌and◌}
use Rattle.readers.specs.Operations.{operations, row_among, operation_row}
use Rattle.readers.proofs.Constants.{listed, listed_from, entry}
use Rattle.readers.proofs.ShortRows.{steady, on-stretch}
use Rattle.readers.proofs.operations.operation_row.Goals as goal

pub returns-then-code-le-DW_OP_reg31 : goal.returns-then-code-le-DW_OP_reg31
unfolding steady operation_row operations row_among pick ◌and◌
returns-then-code-le-DW_OP_reg31 c = on-stretch operation_row 1 0x30 64 c.args.code tt (omega arith) (omega arith)

pub returns-then-code-le-DW_OP_breg31 : goal.returns-then-code-le-DW_OP_breg31
unfolding steady operation_row operations row_among pick ◌and◌
returns-then-code-le-DW_OP_breg31 c = on-stretch operation_row 8 0x70 32 c.args.code tt (omega arith) (omega arith)

pub returns-then-code-eq-DW_OP_fbreg : goal.returns-then-code-eq-DW_OP_fbreg
unfolding operation_row operations row_among pick ◌and◌
returns-then-code-eq-DW_OP_fbreg c = sym (ap operation_row c.if-code-eq-DW_OP_fbreg.true)

pub returns-then-code-eq-DW_OP_piece : goal.returns-then-code-eq-DW_OP_piece
unfolding operation_row operations row_among pick ◌and◌
returns-then-code-eq-DW_OP_piece c = sym (ap operation_row c.if-code-eq-DW_OP_piece.true)

pub returns-then-code-eq-DW_OP_call_frame_cfa : goal.returns-then-code-eq-DW_OP_call_frame_cfa
unfolding operation_row operations row_among pick ◌and◌
returns-then-code-eq-DW_OP_call_frame_cfa c = sym (ap operation_row c.if-code-eq-DW_OP_call_frame_cfa.true)

pub returns-then-code-eq-DW_OP_stack_value : goal.returns-then-code-eq-DW_OP_stack_value
unfolding operation_row operations row_among pick ◌and◌
returns-then-code-eq-DW_OP_stack_value c = sym (ap operation_row c.if-code-eq-DW_OP_stack_value.true)

pub returns-then-code-eq-DW_OP_addrx : goal.returns-then-code-eq-DW_OP_addrx
unfolding operation_row operations row_among pick ◌and◌
returns-then-code-eq-DW_OP_addrx c = sym (ap operation_row c.if-code-eq-DW_OP_addrx.true)

pub returns-then-code-eq-DW_OP_entry_value : goal.returns-then-code-eq-DW_OP_entry_value
unfolding operation_row operations row_among pick ◌and◌
returns-then-code-eq-DW_OP_entry_value c = sym (ap operation_row c.if-code-eq-DW_OP_entry_value.true)

pub returns-then-code-eq-DW_OP_convert : goal.returns-then-code-eq-DW_OP_convert
unfolding operation_row operations row_among pick ◌and◌
returns-then-code-eq-DW_OP_convert c = sym (ap operation_row c.if-code-eq-DW_OP_convert.true)

pub returns-then-code-eq-DW_OP_addr : goal.returns-then-code-eq-DW_OP_addr
unfolding operation_row operations row_among pick ◌and◌
returns-then-code-eq-DW_OP_addr c = sym (ap operation_row c.if-code-eq-DW_OP_addr.true)

pub returns-then-code-eq-DW_OP_plus_uconst : goal.returns-then-code-eq-DW_OP_plus_uconst
unfolding operation_row operations row_among pick ◌and◌
returns-then-code-eq-DW_OP_plus_uconst c = sym (ap operation_row c.if-code-eq-DW_OP_plus_uconst.true)

pub returns : goal.returns
unfolding listed listed_from operation_row operations row_among pick ◌and◌
returns c = entry operation_row 256 c.args.code (omega arith)
