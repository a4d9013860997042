-- The codes of the standard, by its own names: those that the definitions use.
use Rattle.std.specs.Prelude.{ℕ}

-- ---- tags (DWARF 5, 7.5.3, table 7.3)

abbrev pub DW_TAG_compile_unit : ℕ
DW_TAG_compile_unit = 0x11

abbrev pub DW_TAG_subprogram : ℕ
DW_TAG_subprogram = 0x2e

abbrev pub DW_TAG_variable : ℕ
DW_TAG_variable = 0x34

-- ---- whether an entry has children (7.5.3, table 7.4)

abbrev pub DW_CHILDREN_yes : ℕ
DW_CHILDREN_yes = 0x01

-- ---- attribute names (7.5.4, table 7.5)

abbrev pub DW_AT_sibling : ℕ
DW_AT_sibling = 0x01

abbrev pub DW_AT_location : ℕ
DW_AT_location = 0x02

abbrev pub DW_AT_low_pc : ℕ
DW_AT_low_pc = 0x11

abbrev pub DW_AT_ranges : ℕ
DW_AT_ranges = 0x55

abbrev pub DW_AT_rnglists_base : ℕ
DW_AT_rnglists_base = 0x74

abbrev pub DW_AT_loclists_base : ℕ
DW_AT_loclists_base = 0x8c

-- ---- forms (7.5.6, table 7.6), and one of GNU's split units

abbrev pub DW_FORM_addr : ℕ
DW_FORM_addr = 0x01

abbrev pub DW_FORM_block2 : ℕ
DW_FORM_block2 = 0x03

abbrev pub DW_FORM_block4 : ℕ
DW_FORM_block4 = 0x04

abbrev pub DW_FORM_data2 : ℕ
DW_FORM_data2 = 0x05

abbrev pub DW_FORM_data4 : ℕ
DW_FORM_data4 = 0x06

abbrev pub DW_FORM_data8 : ℕ
DW_FORM_data8 = 0x07

abbrev pub DW_FORM_string : ℕ
DW_FORM_string = 0x08

abbrev pub DW_FORM_block : ℕ
DW_FORM_block = 0x09

abbrev pub DW_FORM_block1 : ℕ
DW_FORM_block1 = 0x0a

abbrev pub DW_FORM_data1 : ℕ
DW_FORM_data1 = 0x0b

abbrev pub DW_FORM_flag : ℕ
DW_FORM_flag = 0x0c

abbrev pub DW_FORM_sdata : ℕ
DW_FORM_sdata = 0x0d

abbrev pub DW_FORM_strp : ℕ
DW_FORM_strp = 0x0e

abbrev pub DW_FORM_udata : ℕ
DW_FORM_udata = 0x0f

abbrev pub DW_FORM_ref_addr : ℕ
DW_FORM_ref_addr = 0x10

abbrev pub DW_FORM_ref1 : ℕ
DW_FORM_ref1 = 0x11

abbrev pub DW_FORM_ref2 : ℕ
DW_FORM_ref2 = 0x12

abbrev pub DW_FORM_ref4 : ℕ
DW_FORM_ref4 = 0x13

abbrev pub DW_FORM_ref8 : ℕ
DW_FORM_ref8 = 0x14

abbrev pub DW_FORM_ref_udata : ℕ
DW_FORM_ref_udata = 0x15

abbrev pub DW_FORM_indirect : ℕ
DW_FORM_indirect = 0x16

abbrev pub DW_FORM_sec_offset : ℕ
DW_FORM_sec_offset = 0x17

abbrev pub DW_FORM_exprloc : ℕ
DW_FORM_exprloc = 0x18

abbrev pub DW_FORM_flag_present : ℕ
DW_FORM_flag_present = 0x19

abbrev pub DW_FORM_strx : ℕ
DW_FORM_strx = 0x1a

abbrev pub DW_FORM_addrx : ℕ
DW_FORM_addrx = 0x1b

abbrev pub DW_FORM_ref_sup4 : ℕ
DW_FORM_ref_sup4 = 0x1c

abbrev pub DW_FORM_strp_sup : ℕ
DW_FORM_strp_sup = 0x1d

abbrev pub DW_FORM_data16 : ℕ
DW_FORM_data16 = 0x1e

abbrev pub DW_FORM_line_strp : ℕ
DW_FORM_line_strp = 0x1f

abbrev pub DW_FORM_ref_sig8 : ℕ
DW_FORM_ref_sig8 = 0x20

abbrev pub DW_FORM_implicit_const : ℕ
DW_FORM_implicit_const = 0x21

abbrev pub DW_FORM_loclistx : ℕ
DW_FORM_loclistx = 0x22

abbrev pub DW_FORM_rnglistx : ℕ
DW_FORM_rnglistx = 0x23

abbrev pub DW_FORM_ref_sup8 : ℕ
DW_FORM_ref_sup8 = 0x24

abbrev pub DW_FORM_strx1 : ℕ
DW_FORM_strx1 = 0x25

abbrev pub DW_FORM_strx2 : ℕ
DW_FORM_strx2 = 0x26

abbrev pub DW_FORM_strx3 : ℕ
DW_FORM_strx3 = 0x27

abbrev pub DW_FORM_strx4 : ℕ
DW_FORM_strx4 = 0x28

abbrev pub DW_FORM_addrx1 : ℕ
DW_FORM_addrx1 = 0x29

abbrev pub DW_FORM_addrx2 : ℕ
DW_FORM_addrx2 = 0x2a

abbrev pub DW_FORM_addrx3 : ℕ
DW_FORM_addrx3 = 0x2b

abbrev pub DW_FORM_addrx4 : ℕ
DW_FORM_addrx4 = 0x2c

abbrev pub DW_FORM_GNU_addr_index : ℕ
DW_FORM_GNU_addr_index = 0x1f01

abbrev pub DW_FORM_GNU_str_index : ℕ
DW_FORM_GNU_str_index = 0x1f02

-- ---- operations (7.7.1, table 7.9), and GNU's

abbrev pub DW_OP_addr : ℕ
DW_OP_addr = 0x03

abbrev pub DW_OP_deref : ℕ
DW_OP_deref = 0x06

abbrev pub DW_OP_const1u : ℕ
DW_OP_const1u = 0x08

abbrev pub DW_OP_const1s : ℕ
DW_OP_const1s = 0x09

abbrev pub DW_OP_const2u : ℕ
DW_OP_const2u = 0x0a

abbrev pub DW_OP_const2s : ℕ
DW_OP_const2s = 0x0b

abbrev pub DW_OP_const4u : ℕ
DW_OP_const4u = 0x0c

abbrev pub DW_OP_const4s : ℕ
DW_OP_const4s = 0x0d

abbrev pub DW_OP_const8u : ℕ
DW_OP_const8u = 0x0e

abbrev pub DW_OP_const8s : ℕ
DW_OP_const8s = 0x0f

abbrev pub DW_OP_constu : ℕ
DW_OP_constu = 0x10

abbrev pub DW_OP_consts : ℕ
DW_OP_consts = 0x11

abbrev pub DW_OP_dup : ℕ
DW_OP_dup = 0x12

abbrev pub DW_OP_drop : ℕ
DW_OP_drop = 0x13

abbrev pub DW_OP_over : ℕ
DW_OP_over = 0x14

abbrev pub DW_OP_pick : ℕ
DW_OP_pick = 0x15

abbrev pub DW_OP_swap : ℕ
DW_OP_swap = 0x16

abbrev pub DW_OP_rot : ℕ
DW_OP_rot = 0x17

abbrev pub DW_OP_xderef : ℕ
DW_OP_xderef = 0x18

abbrev pub DW_OP_abs : ℕ
DW_OP_abs = 0x19

abbrev pub DW_OP_and : ℕ
DW_OP_and = 0x1a

abbrev pub DW_OP_div : ℕ
DW_OP_div = 0x1b

abbrev pub DW_OP_minus : ℕ
DW_OP_minus = 0x1c

abbrev pub DW_OP_mod : ℕ
DW_OP_mod = 0x1d

abbrev pub DW_OP_mul : ℕ
DW_OP_mul = 0x1e

abbrev pub DW_OP_neg : ℕ
DW_OP_neg = 0x1f

abbrev pub DW_OP_not : ℕ
DW_OP_not = 0x20

abbrev pub DW_OP_or : ℕ
DW_OP_or = 0x21

abbrev pub DW_OP_plus : ℕ
DW_OP_plus = 0x22

abbrev pub DW_OP_plus_uconst : ℕ
DW_OP_plus_uconst = 0x23

abbrev pub DW_OP_shl : ℕ
DW_OP_shl = 0x24

abbrev pub DW_OP_shr : ℕ
DW_OP_shr = 0x25

abbrev pub DW_OP_shra : ℕ
DW_OP_shra = 0x26

abbrev pub DW_OP_xor : ℕ
DW_OP_xor = 0x27

abbrev pub DW_OP_bra : ℕ
DW_OP_bra = 0x28

abbrev pub DW_OP_eq : ℕ
DW_OP_eq = 0x29

abbrev pub DW_OP_ge : ℕ
DW_OP_ge = 0x2a

abbrev pub DW_OP_gt : ℕ
DW_OP_gt = 0x2b

abbrev pub DW_OP_le : ℕ
DW_OP_le = 0x2c

abbrev pub DW_OP_lt : ℕ
DW_OP_lt = 0x2d

abbrev pub DW_OP_ne : ℕ
DW_OP_ne = 0x2e

abbrev pub DW_OP_skip : ℕ
DW_OP_skip = 0x2f

abbrev pub DW_OP_lit0 : ℕ
DW_OP_lit0 = 0x30

abbrev pub DW_OP_lit31 : ℕ
DW_OP_lit31 = 0x4f

abbrev pub DW_OP_reg0 : ℕ
DW_OP_reg0 = 0x50

abbrev pub DW_OP_reg31 : ℕ
DW_OP_reg31 = 0x6f

abbrev pub DW_OP_breg0 : ℕ
DW_OP_breg0 = 0x70

abbrev pub DW_OP_breg31 : ℕ
DW_OP_breg31 = 0x8f

abbrev pub DW_OP_regx : ℕ
DW_OP_regx = 0x90

abbrev pub DW_OP_fbreg : ℕ
DW_OP_fbreg = 0x91

abbrev pub DW_OP_bregx : ℕ
DW_OP_bregx = 0x92

abbrev pub DW_OP_piece : ℕ
DW_OP_piece = 0x93

abbrev pub DW_OP_deref_size : ℕ
DW_OP_deref_size = 0x94

abbrev pub DW_OP_xderef_size : ℕ
DW_OP_xderef_size = 0x95

abbrev pub DW_OP_nop : ℕ
DW_OP_nop = 0x96

abbrev pub DW_OP_push_object_address : ℕ
DW_OP_push_object_address = 0x97

abbrev pub DW_OP_call2 : ℕ
DW_OP_call2 = 0x98

abbrev pub DW_OP_call4 : ℕ
DW_OP_call4 = 0x99

abbrev pub DW_OP_call_ref : ℕ
DW_OP_call_ref = 0x9a

abbrev pub DW_OP_form_tls_address : ℕ
DW_OP_form_tls_address = 0x9b

abbrev pub DW_OP_call_frame_cfa : ℕ
DW_OP_call_frame_cfa = 0x9c

abbrev pub DW_OP_bit_piece : ℕ
DW_OP_bit_piece = 0x9d

abbrev pub DW_OP_implicit_value : ℕ
DW_OP_implicit_value = 0x9e

abbrev pub DW_OP_stack_value : ℕ
DW_OP_stack_value = 0x9f

abbrev pub DW_OP_implicit_pointer : ℕ
DW_OP_implicit_pointer = 0xa0

abbrev pub DW_OP_addrx : ℕ
DW_OP_addrx = 0xa1

abbrev pub DW_OP_constx : ℕ
DW_OP_constx = 0xa2

abbrev pub DW_OP_entry_value : ℕ
DW_OP_entry_value = 0xa3

abbrev pub DW_OP_const_type : ℕ
DW_OP_const_type = 0xa4

abbrev pub DW_OP_regval_type : ℕ
DW_OP_regval_type = 0xa5

abbrev pub DW_OP_deref_type : ℕ
DW_OP_deref_type = 0xa6

abbrev pub DW_OP_xderef_type : ℕ
DW_OP_xderef_type = 0xa7

abbrev pub DW_OP_convert : ℕ
DW_OP_convert = 0xa8

abbrev pub DW_OP_reinterpret : ℕ
DW_OP_reinterpret = 0xa9

abbrev pub DW_OP_GNU_push_tls_address : ℕ
DW_OP_GNU_push_tls_address = 0xe0

abbrev pub DW_OP_GNU_implicit_pointer : ℕ
DW_OP_GNU_implicit_pointer = 0xf2

abbrev pub DW_OP_GNU_entry_value : ℕ
DW_OP_GNU_entry_value = 0xf3

abbrev pub DW_OP_GNU_const_type : ℕ
DW_OP_GNU_const_type = 0xf4

abbrev pub DW_OP_GNU_regval_type : ℕ
DW_OP_GNU_regval_type = 0xf5

abbrev pub DW_OP_GNU_deref_type : ℕ
DW_OP_GNU_deref_type = 0xf6

abbrev pub DW_OP_GNU_convert : ℕ
DW_OP_GNU_convert = 0xf7

abbrev pub DW_OP_GNU_reinterpret : ℕ
DW_OP_GNU_reinterpret = 0xf9

abbrev pub DW_OP_GNU_parameter_ref : ℕ
DW_OP_GNU_parameter_ref = 0xfa

abbrev pub DW_OP_GNU_addr_index : ℕ
DW_OP_GNU_addr_index = 0xfb

abbrev pub DW_OP_GNU_const_index : ℕ
DW_OP_GNU_const_index = 0xfc

abbrev pub DW_OP_GNU_variable_value : ℕ
DW_OP_GNU_variable_value = 0xfd

-- ---- kinds of location list entries (7.7.3, table 7.10)

abbrev pub DW_LLE_base_addressx : ℕ
DW_LLE_base_addressx = 0x01

abbrev pub DW_LLE_startx_endx : ℕ
DW_LLE_startx_endx = 0x02

abbrev pub DW_LLE_startx_length : ℕ
DW_LLE_startx_length = 0x03

abbrev pub DW_LLE_offset_pair : ℕ
DW_LLE_offset_pair = 0x04

abbrev pub DW_LLE_default_location : ℕ
DW_LLE_default_location = 0x05

abbrev pub DW_LLE_base_address : ℕ
DW_LLE_base_address = 0x06

abbrev pub DW_LLE_start_end : ℕ
DW_LLE_start_end = 0x07

abbrev pub DW_LLE_start_length : ℕ
DW_LLE_start_length = 0x08

-- ---- kinds of location list entries in version 4 (DebugFission, "Location Lists"); 0 ends the list

abbrev pub DW_LLE_GNU_base_address_selection_entry : ℕ
DW_LLE_GNU_base_address_selection_entry = 0x01

abbrev pub DW_LLE_GNU_start_end_entry : ℕ
DW_LLE_GNU_start_end_entry = 0x02

abbrev pub DW_LLE_GNU_start_length_entry : ℕ
DW_LLE_GNU_start_length_entry = 0x03

abbrev pub DW_LLE_GNU_offset_pair_entry : ℕ
DW_LLE_GNU_offset_pair_entry = 0x04

-- ---- kinds of range list entries (7.25, table 7.30)

abbrev pub DW_RLE_end_of_list : ℕ
DW_RLE_end_of_list = 0x00

abbrev pub DW_RLE_base_addressx : ℕ
DW_RLE_base_addressx = 0x01

abbrev pub DW_RLE_startx_endx : ℕ
DW_RLE_startx_endx = 0x02

abbrev pub DW_RLE_startx_length : ℕ
DW_RLE_startx_length = 0x03

abbrev pub DW_RLE_offset_pair : ℕ
DW_RLE_offset_pair = 0x04

abbrev pub DW_RLE_base_address : ℕ
DW_RLE_base_address = 0x05

abbrev pub DW_RLE_start_end : ℕ
DW_RLE_start_end = 0x06

abbrev pub DW_RLE_start_length : ℕ
DW_RLE_start_length = 0x07

-- ---- unit types (7.5.1, table 7.2)

abbrev pub DW_UT_compile : ℕ
DW_UT_compile = 0x01

abbrev pub DW_UT_split_compile : ℕ
DW_UT_split_compile = 0x05

abbrev pub DW_CHILDREN_no : ℕ
DW_CHILDREN_no = 0x00

abbrev pub DW_LLE_end_of_list : ℕ
DW_LLE_end_of_list = 0x00
