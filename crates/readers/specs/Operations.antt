-- The operand layout of every operation (DWARF 5, 7.7.1, table 7.9, and the GNU codes of document 01), and the
-- layouts of range and location list entries (7.25, 7.7.3; in version 4 those of the DebugFission proposal): each a row
-- of tokens, by its number.
use Rattle.std.specs.Prelude.{Bool, List, [], ◌∷◌, ℕ, suc, get_or, leb, eqb}
use Rattle.readers.specs.Choice.{pick, ◌and◌}
use Rattle.readers.specs.Codes.{DW_OP_addr, DW_OP_deref, DW_OP_const1u, DW_OP_const1s, DW_OP_const2u}
use Rattle.readers.specs.Codes.{DW_OP_const2s, DW_OP_const4u, DW_OP_const4s, DW_OP_const8u}
use Rattle.readers.specs.Codes.{DW_OP_const8s, DW_OP_constu, DW_OP_consts, DW_OP_dup, DW_OP_drop}
use Rattle.readers.specs.Codes.{DW_OP_over, DW_OP_pick, DW_OP_swap, DW_OP_rot, DW_OP_xderef}
use Rattle.readers.specs.Codes.{DW_OP_abs, DW_OP_and, DW_OP_div, DW_OP_minus, DW_OP_mod, DW_OP_mul}
use Rattle.readers.specs.Codes.{DW_OP_neg, DW_OP_not, DW_OP_or, DW_OP_plus, DW_OP_plus_uconst}
use Rattle.readers.specs.Codes.{DW_OP_shl, DW_OP_shr, DW_OP_shra, DW_OP_xor, DW_OP_bra, DW_OP_eq}
use Rattle.readers.specs.Codes.{DW_OP_ge, DW_OP_gt, DW_OP_le, DW_OP_lt, DW_OP_ne, DW_OP_skip}
use Rattle.readers.specs.Codes.{DW_OP_lit0, DW_OP_lit31, DW_OP_reg0, DW_OP_reg31, DW_OP_breg0}
use Rattle.readers.specs.Codes.{DW_OP_breg31, DW_OP_regx, DW_OP_fbreg, DW_OP_bregx, DW_OP_piece}
use Rattle.readers.specs.Codes.{DW_OP_deref_size, DW_OP_xderef_size, DW_OP_nop, DW_OP_push_object_address}
use Rattle.readers.specs.Codes.{DW_OP_call2, DW_OP_call4, DW_OP_call_ref, DW_OP_form_tls_address}
use Rattle.readers.specs.Codes.{DW_OP_call_frame_cfa, DW_OP_bit_piece, DW_OP_implicit_value}
use Rattle.readers.specs.Codes.{DW_OP_stack_value, DW_OP_implicit_pointer, DW_OP_addrx, DW_OP_constx}
use Rattle.readers.specs.Codes.{DW_OP_entry_value, DW_OP_const_type, DW_OP_regval_type, DW_OP_deref_type}
use Rattle.readers.specs.Codes.{DW_OP_xderef_type, DW_OP_convert, DW_OP_reinterpret}
use Rattle.readers.specs.Codes.{DW_OP_GNU_push_tls_address, DW_OP_GNU_implicit_pointer}
use Rattle.readers.specs.Codes.{DW_OP_GNU_entry_value, DW_OP_GNU_const_type, DW_OP_GNU_regval_type}
use Rattle.readers.specs.Codes.{DW_OP_GNU_deref_type, DW_OP_GNU_convert, DW_OP_GNU_reinterpret}
use Rattle.readers.specs.Codes.{DW_OP_GNU_parameter_ref, DW_OP_GNU_addr_index, DW_OP_GNU_const_index}
use Rattle.readers.specs.Codes.{DW_OP_GNU_variable_value, DW_RLE_base_addressx, DW_RLE_startx_endx}
use Rattle.readers.specs.Codes.{DW_RLE_startx_length, DW_RLE_offset_pair, DW_RLE_base_address}
use Rattle.readers.specs.Codes.{DW_RLE_start_end, DW_RLE_start_length, DW_LLE_base_addressx}
use Rattle.readers.specs.Codes.{DW_LLE_startx_endx, DW_LLE_startx_length, DW_LLE_offset_pair}
use Rattle.readers.specs.Codes.{DW_LLE_default_location, DW_LLE_base_address, DW_LLE_start_end}
use Rattle.readers.specs.Codes.{DW_LLE_start_length, DW_LLE_GNU_base_address_selection_entry}
use Rattle.readers.specs.Codes.{DW_LLE_GNU_start_end_entry, DW_LLE_GNU_start_length_entry}
use Rattle.readers.specs.Codes.{DW_LLE_GNU_offset_pair_entry}
use Rattle.readers.specs.Layout.{fixed, Role, reference, type_reference, absolute, number, Layout, done, field}
use Rattle.readers.specs.Tokens.{Use, plain, as', token_of, no_bytes, bytes, address, offset, uleb128, sleb128}
use Rattle.readers.specs.Tokens.{block1, block2, block_uleb128, exprloc, register, unreadable}
use Rattle.readers.specs.declared.cursor.Encoding.{Encoding}

-- ---- rows: up to three tokens, by the numbers of Tokens.antt, and what the first two are used as

pub record OperandRow : Type 0 where
  pub first : ℕ
  pub second : ℕ
  pub third : ℕ
  pub first_use : Use
  pub second_use : Use

abbrev row3 : ℕ → ℕ → ℕ → OperandRow
row3 a b c = record { first = a; second = b; third = c; first_use = plain; second_use = plain }

abbrev row2 : ℕ → ℕ → OperandRow
row2 a b = row3 a b no_bytes

abbrev row1 : ℕ → OperandRow
row1 a = row2 a no_bytes

abbrev row0 : OperandRow
row0 = row1 no_bytes

-- the first, or the second, names something
abbrev first_as : Role → OperandRow → OperandRow
first_as role r =
    record { first = r.first; second = r.second; third = r.third; first_use = as' role; second_use = r.second_use }

abbrev second_as : Role → OperandRow → OperandRow
second_as role r =
    record { first = r.first; second = r.second; third = r.third; first_use = r.first_use; second_use = as' role }

unfoldable pub unreadable_row : OperandRow
unreadable_row = row1 unreadable

-- The rows, each at its number.
unfoldable pub rows : List OperandRow
rows =
    unreadable_row  -- row_unreadable
    ∷ row0  -- row_none
    ∷ row1 address  -- row_address
    ∷ row1 (bytes 1)  -- row_bytes1
    ∷ row1 (bytes 2)  -- row_bytes2
    ∷ row1 (bytes 4)  -- row_bytes4
    ∷ row1 (bytes 8)  -- row_bytes8
    ∷ row1 uleb128  -- row_uleb128
    ∷ row1 sleb128  -- row_sleb128
    ∷ row1 register  -- row_register
    ∷ row2 register sleb128  -- row_register_sleb128
    ∷ row2 uleb128 uleb128  -- row_uleb128_uleb128
    ∷ first_as reference (row1 (bytes 2))  -- row_reference2
    ∷ first_as reference (row1 (bytes 4))  -- row_reference4
    ∷ first_as type_reference (row1 uleb128)  -- row_type
    ∷ second_as type_reference (row2 register uleb128)  -- row_register_type
    ∷ second_as type_reference (row2 (bytes 1) uleb128)  -- row_bytes1_type
    ∷ first_as type_reference (row2 uleb128 block1)  -- row_type_block1
    ∷ row1 block_uleb128  -- row_block
    ∷ row1 exprloc  -- row_expression
    ∷ first_as absolute (row1 offset)  -- row_offset
    ∷ first_as absolute (row2 offset sleb128)  -- row_offset_sleb128
    ∷ row1 uleb128  -- row_address_index
    ∷ row2 address address  -- row_address_address
    ∷ row2 address uleb128  -- row_address_uleb128
    ∷ row3 uleb128 uleb128 exprloc  -- row_uleb128_uleb128_expression
    ∷ row3 address address exprloc  -- row_address_address_expression
    ∷ row3 address uleb128 exprloc  -- row_address_uleb128_expression
    ∷ row3 uleb128 uleb128 block2  -- row_uleb128_uleb128_block2
    ∷ row3 uleb128 (bytes 4) block2  -- row_uleb128_bytes4_block2
    ∷ row3 (bytes 4) (bytes 4) block2  -- row_bytes4_bytes4_block2
    ∷ []

-- The numbers of the rows: places in the list above, in its order, each one more than the one before it.
abbrev pub row_unreadable : ℕ
row_unreadable = 0

abbrev pub row_none : ℕ
row_none = suc row_unreadable

abbrev pub row_address : ℕ
row_address = suc row_none

abbrev pub row_bytes1 : ℕ
row_bytes1 = suc row_address

abbrev pub row_bytes2 : ℕ
row_bytes2 = suc row_bytes1

abbrev pub row_bytes4 : ℕ
row_bytes4 = suc row_bytes2

abbrev pub row_bytes8 : ℕ
row_bytes8 = suc row_bytes4

abbrev pub row_uleb128 : ℕ
row_uleb128 = suc row_bytes8

abbrev pub row_sleb128 : ℕ
row_sleb128 = suc row_uleb128

abbrev pub row_register : ℕ
row_register = suc row_sleb128

abbrev pub row_register_sleb128 : ℕ
row_register_sleb128 = suc row_register

abbrev pub row_uleb128_uleb128 : ℕ
row_uleb128_uleb128 = suc row_register_sleb128

abbrev pub row_reference2 : ℕ
row_reference2 = suc row_uleb128_uleb128

abbrev pub row_reference4 : ℕ
row_reference4 = suc row_reference2

abbrev pub row_type : ℕ
row_type = suc row_reference4

abbrev pub row_register_type : ℕ
row_register_type = suc row_type

abbrev pub row_bytes1_type : ℕ
row_bytes1_type = suc row_register_type

abbrev pub row_type_block1 : ℕ
row_type_block1 = suc row_bytes1_type

abbrev pub row_block : ℕ
row_block = suc row_type_block1

abbrev pub row_expression : ℕ
row_expression = suc row_block

abbrev pub row_offset : ℕ
row_offset = suc row_expression

abbrev pub row_offset_sleb128 : ℕ
row_offset_sleb128 = suc row_offset

abbrev pub row_address_index : ℕ
row_address_index = suc row_offset_sleb128

abbrev pub row_address_address : ℕ
row_address_address = suc row_address_index

abbrev pub row_address_uleb128 : ℕ
row_address_uleb128 = suc row_address_address

abbrev pub row_uleb128_uleb128_expression : ℕ
row_uleb128_uleb128_expression = suc row_address_uleb128

abbrev pub row_address_address_expression : ℕ
row_address_address_expression = suc row_uleb128_uleb128_expression

abbrev pub row_address_uleb128_expression : ℕ
row_address_uleb128_expression = suc row_address_address_expression

abbrev pub row_uleb128_uleb128_block2 : ℕ
row_uleb128_uleb128_block2 = suc row_address_uleb128_expression

abbrev pub row_uleb128_bytes4_block2 : ℕ
row_uleb128_bytes4_block2 = suc row_uleb128_uleb128_block2

abbrev pub row_bytes4_bytes4_block2 : ℕ
row_bytes4_bytes4_block2 = suc row_uleb128_bytes4_block2

unfoldable pub row_of : ℕ → OperandRow
row_of l = get_or rows l unreadable_row

-- A row of tokens; none of them steers the others.
unfoldable pub row_layout : Encoding → OperandRow → Layout
row_layout e r =
    field (token_of e r.first_use r.first) (λ _.
    field (token_of e r.second_use r.second) (λ _.
    field (token_of e plain r.third) (λ _. done)))

-- ---- operations

-- the codes `from` to `upto`, and the number of their row
pub record Codes : Type 0 where
  pub from : ℕ
  pub upto : ℕ
  pub row : ℕ

abbrev codes : ℕ → ℕ → ℕ → Codes
codes a b l = record { from = a; upto = b; row = l }

abbrev pub code : ℕ → ℕ → Codes
code a l = codes a a l

unfoldable pub operations : List Codes
operations =
    code DW_OP_addr row_address
    ∷ code DW_OP_deref row_none
    ∷ code DW_OP_const1u row_bytes1
    ∷ code DW_OP_const1s row_bytes1
    ∷ code DW_OP_const2u row_bytes2
    ∷ code DW_OP_const2s row_bytes2
    ∷ code DW_OP_const4u row_bytes4
    ∷ code DW_OP_const4s row_bytes4
    ∷ code DW_OP_const8u row_bytes8
    ∷ code DW_OP_const8s row_bytes8
    ∷ code DW_OP_constu row_uleb128
    ∷ code DW_OP_consts row_sleb128
    ∷ code DW_OP_dup row_none
    ∷ code DW_OP_drop row_none
    ∷ code DW_OP_over row_none
    ∷ code DW_OP_pick row_bytes1
    ∷ code DW_OP_swap row_none
    ∷ code DW_OP_rot row_none
    ∷ code DW_OP_xderef row_none
    ∷ code DW_OP_abs row_none
    ∷ code DW_OP_and row_none
    ∷ code DW_OP_div row_none
    ∷ code DW_OP_minus row_none
    ∷ code DW_OP_mod row_none
    ∷ code DW_OP_mul row_none
    ∷ code DW_OP_neg row_none
    ∷ code DW_OP_not row_none
    ∷ code DW_OP_or row_none
    ∷ code DW_OP_plus row_none
    ∷ code DW_OP_plus_uconst row_uleb128
    ∷ code DW_OP_shl row_none
    ∷ code DW_OP_shr row_none
    ∷ code DW_OP_shra row_none
    ∷ code DW_OP_xor row_none
    ∷ code DW_OP_bra row_bytes2
    ∷ code DW_OP_eq row_none
    ∷ code DW_OP_ge row_none
    ∷ code DW_OP_gt row_none
    ∷ code DW_OP_le row_none
    ∷ code DW_OP_lt row_none
    ∷ code DW_OP_ne row_none
    ∷ code DW_OP_skip row_bytes2
    ∷ codes DW_OP_lit0 DW_OP_lit31 row_none
    ∷ codes DW_OP_reg0 DW_OP_reg31 row_none
    ∷ codes DW_OP_breg0 DW_OP_breg31 row_sleb128
    ∷ code DW_OP_regx row_register
    ∷ code DW_OP_fbreg row_sleb128
    ∷ code DW_OP_bregx row_register_sleb128
    ∷ code DW_OP_piece row_uleb128
    ∷ code DW_OP_deref_size row_bytes1
    ∷ code DW_OP_xderef_size row_bytes1
    ∷ code DW_OP_nop row_none
    ∷ code DW_OP_push_object_address row_none
    ∷ code DW_OP_call2 row_reference2
    ∷ code DW_OP_call4 row_reference4
    ∷ code DW_OP_call_ref row_offset
    ∷ code DW_OP_form_tls_address row_none
    ∷ code DW_OP_call_frame_cfa row_none
    ∷ code DW_OP_bit_piece row_uleb128_uleb128
    ∷ code DW_OP_implicit_value row_block
    ∷ code DW_OP_stack_value row_none
    ∷ code DW_OP_implicit_pointer row_offset_sleb128
    ∷ code DW_OP_addrx row_address_index
    ∷ code DW_OP_constx row_uleb128
    ∷ code DW_OP_entry_value row_expression
    ∷ code DW_OP_const_type row_type_block1
    ∷ code DW_OP_regval_type row_register_type
    ∷ code DW_OP_deref_type row_bytes1_type
    ∷ code DW_OP_xderef_type row_bytes1_type
    ∷ code DW_OP_convert row_type
    ∷ code DW_OP_reinterpret row_type
    ∷ code DW_OP_GNU_push_tls_address row_none
    ∷ code DW_OP_GNU_implicit_pointer row_offset_sleb128
    ∷ code DW_OP_GNU_entry_value row_expression
    ∷ code DW_OP_GNU_const_type row_type_block1
    ∷ code DW_OP_GNU_regval_type row_register_type
    ∷ code DW_OP_GNU_deref_type row_bytes1_type
    ∷ code DW_OP_GNU_convert row_type
    ∷ code DW_OP_GNU_reinterpret row_type
    ∷ code DW_OP_GNU_parameter_ref row_reference4
    ∷ code DW_OP_GNU_addr_index row_address_index
    ∷ code DW_OP_GNU_const_index row_uleb128
    ∷ code DW_OP_GNU_variable_value row_offset
    ∷ []

-- the row of a code; unreadable where no codes hold it
unfoldable pub row_among : List Codes → ℕ → ℕ
row_among [] c = row_unreadable
row_among (x ∷ xs) c = pick (leb x.from c and leb c x.upto) x.row (row_among xs c)

unfoldable pub operation_row : ℕ → ℕ
operation_row c = row_among operations c

-- 2.5: an operation is a code of one byte and its operands
unfoldable pub operation : Encoding → Layout
operation e = field (number (fixed 1)) (λ c. row_layout e (row_of (operation_row c)))

-- ---- list entries: a kind of one byte, and its operands. An end of list has no row.

-- 7.25, table 7.30
unfoldable pub range_entries : List Codes
range_entries =
    code DW_RLE_base_addressx row_uleb128
    ∷ code DW_RLE_startx_endx row_uleb128_uleb128
    ∷ code DW_RLE_startx_length row_uleb128_uleb128
    ∷ code DW_RLE_offset_pair row_uleb128_uleb128
    ∷ code DW_RLE_base_address row_address
    ∷ code DW_RLE_start_end row_address_address
    ∷ code DW_RLE_start_length row_address_uleb128
    ∷ []

-- 7.7.3, table 7.10
unfoldable pub location_entries : List Codes
location_entries =
    code DW_LLE_base_addressx row_uleb128
    ∷ code DW_LLE_startx_endx row_uleb128_uleb128_expression
    ∷ code DW_LLE_startx_length row_uleb128_uleb128_expression
    ∷ code DW_LLE_offset_pair row_uleb128_uleb128_expression
    ∷ code DW_LLE_default_location row_expression
    ∷ code DW_LLE_base_address row_address
    ∷ code DW_LLE_start_end row_address_address_expression
    ∷ code DW_LLE_start_length row_address_uleb128_expression
    ∷ []

-- version 4 (DebugFission, "Location Lists"): addresses are indices, lengths and offsets have four bytes, and after them
-- comes an expression with a length of two
unfoldable pub location_entries4 : List Codes
location_entries4 =
    code DW_LLE_GNU_base_address_selection_entry row_uleb128
    ∷ code DW_LLE_GNU_start_end_entry row_uleb128_uleb128_block2
    ∷ code DW_LLE_GNU_start_length_entry row_uleb128_bytes4_block2
    ∷ code DW_LLE_GNU_offset_pair_entry row_bytes4_bytes4_block2
    ∷ []

-- by the unit's version, of a location list or a range list; .debug_ranges of version 4 has no kinds
unfoldable pub list_row : ℕ → Bool → ℕ → ℕ
list_row version location k =
    row_among (pick location (pick (eqb version 4) location_entries4 location_entries) range_entries) k
