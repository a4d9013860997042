-- The forms of attribute values (DWARF 5, 7.5.6, table 7.6), DW_FORM_GNU_addr_index and DW_FORM_GNU_str_index.
use Rattle.std.specs.Prelude.{Bool, true, false, not, List, [], ◌∷◌, ℕ, eqb, leb}
use Rattle.readers.specs.Choice.{pick, ◌and◌, ◌or◌}
use Rattle.readers.specs.Codes.{DW_AT_sibling, DW_FORM_addr, DW_FORM_block2, DW_FORM_block4}
use Rattle.readers.specs.Codes.{DW_FORM_data2, DW_FORM_data4, DW_FORM_data8, DW_FORM_string}
use Rattle.readers.specs.Codes.{DW_FORM_block, DW_FORM_block1, DW_FORM_data1, DW_FORM_flag}
use Rattle.readers.specs.Codes.{DW_FORM_sdata, DW_FORM_strp, DW_FORM_udata, DW_FORM_ref_addr}
use Rattle.readers.specs.Codes.{DW_FORM_ref1, DW_FORM_ref2, DW_FORM_ref4, DW_FORM_ref8}
use Rattle.readers.specs.Codes.{DW_FORM_ref_udata, DW_FORM_indirect, DW_FORM_sec_offset, DW_FORM_exprloc}
use Rattle.readers.specs.Codes.{DW_FORM_flag_present, DW_FORM_strx, DW_FORM_addrx, DW_FORM_ref_sup4}
use Rattle.readers.specs.Codes.{DW_FORM_strp_sup, DW_FORM_data16, DW_FORM_line_strp, DW_FORM_ref_sig8}
use Rattle.readers.specs.Codes.{DW_FORM_implicit_const, DW_FORM_loclistx, DW_FORM_rnglistx}
use Rattle.readers.specs.Codes.{DW_FORM_ref_sup8, DW_FORM_strx1, DW_FORM_strx2, DW_FORM_strx3}
use Rattle.readers.specs.Codes.{DW_FORM_strx4, DW_FORM_addrx1, DW_FORM_addrx2, DW_FORM_addrx3}
use Rattle.readers.specs.Codes.{DW_FORM_addrx4, DW_FORM_GNU_addr_index, DW_FORM_GNU_str_index}
use Rattle.readers.specs.Layout.{reference, sibling, index, absolute, Token, forms, unknown, Layout, done, field}
use Rattle.readers.specs.Tokens.{Use, plain, as', token_of, no_bytes, bytes, address, offset, uleb128, sleb128}
use Rattle.readers.specs.Tokens.{null_terminated, data16, unreadable, block1, block2, block4, block_uleb128}
use Rattle.readers.specs.Tokens.{exprloc}
use Rattle.readers.specs.Operations.{Codes, code}
use Rattle.readers.specs.declared.cursor.Encoding.{Encoding}

-- Each form and its token.
unfoldable pub form_tokens : List Codes
form_tokens =
    code DW_FORM_addr address
    ∷ code DW_FORM_block2 block2
    ∷ code DW_FORM_block4 block4
    ∷ code DW_FORM_data2 (bytes 2)
    ∷ code DW_FORM_data4 (bytes 4)
    ∷ code DW_FORM_data8 (bytes 8)
    ∷ code DW_FORM_string null_terminated
    ∷ code DW_FORM_block block_uleb128
    ∷ code DW_FORM_block1 block1
    ∷ code DW_FORM_data1 (bytes 1)
    ∷ code DW_FORM_flag (bytes 1)
    ∷ code DW_FORM_sdata sleb128
    ∷ code DW_FORM_strp offset
    ∷ code DW_FORM_udata uleb128
    ∷ code DW_FORM_ref_addr offset
    ∷ code DW_FORM_ref1 (bytes 1)
    ∷ code DW_FORM_ref2 (bytes 2)
    ∷ code DW_FORM_ref4 (bytes 4)
    ∷ code DW_FORM_ref8 (bytes 8)
    ∷ code DW_FORM_ref_udata uleb128
    ∷ code DW_FORM_sec_offset offset
    ∷ code DW_FORM_exprloc exprloc
    ∷ code DW_FORM_flag_present no_bytes
    ∷ code DW_FORM_strx uleb128
    ∷ code DW_FORM_addrx uleb128
    ∷ code DW_FORM_ref_sup4 (bytes 4)
    ∷ code DW_FORM_strp_sup offset
    ∷ code DW_FORM_data16 data16
    ∷ code DW_FORM_line_strp offset
    ∷ code DW_FORM_ref_sig8 (bytes 8)
    ∷ code DW_FORM_implicit_const no_bytes
    ∷ code DW_FORM_loclistx uleb128
    ∷ code DW_FORM_rnglistx uleb128
    ∷ code DW_FORM_ref_sup8 (bytes 8)
    ∷ code DW_FORM_strx1 (bytes 1)
    ∷ code DW_FORM_strx2 (bytes 2)
    ∷ code DW_FORM_strx3 (bytes 3)
    ∷ code DW_FORM_strx4 (bytes 4)
    ∷ code DW_FORM_addrx1 (bytes 1)
    ∷ code DW_FORM_addrx2 (bytes 2)
    ∷ code DW_FORM_addrx3 (bytes 3)
    ∷ code DW_FORM_addrx4 (bytes 4)
    ∷ code DW_FORM_GNU_addr_index uleb128
    ∷ code DW_FORM_GNU_str_index uleb128
    ∷ []

-- the token of a form; unreadable for a form that is none of these
unfoldable pub token_among : List Codes → ℕ → ℕ
token_among [] f = unreadable
token_among (x ∷ xs) f = pick (eqb x.from f) x.row (token_among xs f)

unfoldable pub form_token : ℕ → ℕ
form_token f = token_among form_tokens f

-- What a rewriting may change in a value: the references within the unit (ref1 to ref8, ref_udata), as siblings under
-- DW_AT_sibling; indices by their form alone (document 01, "Rewriting"): rnglistx, loclistx, and strx, strx1 to strx4
-- and GNU_str_index.
unfoldable pub use_of : ℕ → ℕ → Use
use_of name f =
    pick (leb DW_FORM_ref1 f and leb f DW_FORM_ref_udata) (as' (pick (eqb name DW_AT_sibling) sibling reference))
    (pick (eqb f DW_FORM_ref_addr) (as' absolute)
    (pick (eqb f DW_FORM_rnglistx) (as' (index 0))
    (pick (eqb f DW_FORM_loclistx) (as' (index 1))
    (pick (eqb f DW_FORM_strx or (leb DW_FORM_strx1 f and leb f DW_FORM_strx4) or eqb f DW_FORM_GNU_str_index)
    (as' (index 2))
    plain))))

-- The list that an index counts in, by its form: rnglistx 0; loclistx 1; strx, strx1 to strx4 and GNU_str_index 2; 3
-- for a form that is no index.
unfoldable pub list_form : ℕ → ℕ
list_form f =
    pick (eqb f DW_FORM_rnglistx) 0
    (pick (eqb f DW_FORM_loclistx) 1
    (pick (eqb f DW_FORM_strx or (leb DW_FORM_strx1 f and leb f DW_FORM_strx4) or eqb f DW_FORM_GNU_str_index) 2
    3))

-- Document 02, Point 4: version 4 has DW_FORM_GNU_addr_index, but not rnglistx and loclistx ("are 4 there"). The other
-- forms are of both versions.
unfoldable pub in_version : ℕ → ℕ → Bool
in_version version f =
    pick (eqb version 4) (not (eqb f DW_FORM_rnglistx or eqb f DW_FORM_loclistx)) (not (eqb f DW_FORM_GNU_addr_index))

-- Document 01, "Readers": a sibling in exprloc, and implicit_const under indirect, are unreadable. So is a form that the
-- unit's version does not have (document 02, Point 4).
unfoldable pub value_token : Encoding → Bool → ℕ → ℕ → Token
value_token e indirect name f =
    pick
    (not (in_version e.version f)
    or (eqb name DW_AT_sibling and eqb f DW_FORM_exprloc) or (indirect and eqb f DW_FORM_implicit_const))
    unknown
    (token_of e (use_of name f) (form_token f))

-- 7.5.3: the value of an attribute of a name and a declared form
unfoldable pub attribute_layout : Encoding → ℕ → ℕ → Layout
attribute_layout e name f =
    pick (eqb f DW_FORM_indirect)
    (field forms (λ g. field (value_token e true name g) (λ _. done)))
    (field (value_token e false name f) (λ _. done))
