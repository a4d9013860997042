-- The tokens that forms, operations and list entries are laid out by, each by a number, so that constant tables can
-- name them.
use Rattle.std.specs.Prelude.{ℕ, suc, eqb, leb}
use Rattle.readers.specs.Choice.{pick}
use Rattle.readers.specs.Layout.{Kind, fixed, leb128, Role, Token, nothing, number, bounded, signed, link, string, run, block, expression, unknown}
use Rattle.readers.specs.declared.cursor.Encoding.{Encoding}

-- ---- the numbers of the tokens, each one more than the one before it

-- no bytes
abbrev pub no_bytes : ℕ
no_bytes = 0

-- a number of 1 to 8 bytes
abbrev pub bytes : ℕ → ℕ
bytes width = width

-- an address, in the unit's address_size
abbrev pub address : ℕ
address = suc (bytes 8)

-- an offset into a section, in the offset size of the unit's format
abbrev pub offset : ℕ
offset = suc address

-- an unsigned LEB128 number
abbrev pub uleb128 : ℕ
uleb128 = suc offset

-- a signed LEB128 number
abbrev pub sleb128 : ℕ
sleb128 = suc uleb128

-- a string up to its null byte
abbrev pub null_terminated : ℕ
null_terminated = suc sleb128

-- 16 bytes
abbrev pub data16 : ℕ
data16 = suc null_terminated

-- a length of one byte, and that many bytes
abbrev pub block1 : ℕ
block1 = suc data16

-- a length of two bytes, and that many bytes
abbrev pub block2 : ℕ
block2 = suc block1

-- a length of four bytes, and that many bytes
abbrev pub block4 : ℕ
block4 = suc block2

-- an unsigned LEB128 length, and that many bytes
abbrev pub block_uleb128 : ℕ
block_uleb128 = suc block4

-- an unsigned LEB128 length, and an expression of that many bytes
abbrev pub exprloc : ℕ
exprloc = suc block_uleb128

-- an unsigned LEB128 number of a register, at most 65535
abbrev pub register : ℕ
register = suc exprloc

-- nothing that can be read
abbrev pub unreadable : ℕ
unreadable = suc register

-- Whether a number may be changed by a rewriting, and as what.
pub data Use : Type 0 where
  plain : Use
  as' : Role → Use

unfoldable pub number_as : Use → Kind → Token
number_as plain k = number k
number_as (as' r) k = link k r

-- ---- what each reads

module _ (e : Encoding) (u : Use) where
  unfoldable pub token_of : ℕ → Token
  token_of t =
      pick (eqb t no_bytes) nothing
      (pick (leb t (bytes 8)) (number_as u (fixed t))
      (pick (eqb t address) (number_as u (fixed e.address_size))
      (pick (eqb t offset) (number_as u (fixed e.offset_size))
      (pick (eqb t uleb128) (number_as u leb128)
      (pick (eqb t sleb128) signed
      (pick (eqb t null_terminated) string
      (pick (eqb t data16) (run 16)
      (pick (eqb t block1) (block (fixed 1))
      (pick (eqb t block2) (block (fixed 2))
      (pick (eqb t block4) (block (fixed 4))
      (pick (eqb t block_uleb128) (block leb128)
      (pick (eqb t exprloc) expression
      (pick (eqb t register) (bounded 65535)
      unknown)))))))))))))
