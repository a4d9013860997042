-- Layouts: what stands in the bytes, as data. One reader reads every layout, and the laws of reading are proved once
-- for all of them (proofs/LayoutLaws.antt): what was read takes so many bytes; it is read so again whatever follows; and
-- patched at its own width it is read again as patched.
use Rattle.std.specs.Prelude.{ℕ, zero, suc, ◌+◌, ◌^◌, Bool, List, [], ◌∷◌, ◌++◌, length, take, drop, T, leb, ltb, eqb, None, Option, Some}
use Rattle.readers.specs.Choice.{pick, check, bind, ◌and◌}
use Rattle.readers.specs.Codes.{DW_FORM_indirect}
use Rattle.readers.specs.Numbers.{Groups, groups, uleb, sleb}
use Rattle.readers.specs.Numbers.{padded, fixed_bytes, fixed_value}

-- ---- what a layout is made of

-- How a number is written: in w bytes, or as ULEB128.
pub data Kind : Type 0 where
  fixed : ℕ → Kind
  leb128 : Kind

-- How a number that was read is written: in w bytes, or as ULEB128 in n bytes and a last one.
pub data Encoded : Type 0 where
  infixed : ℕ → Encoded
  inleb : ℕ → Encoded

-- What a number that a rewriting may change stands for: the offset of an entry; such an offset or 0 for none (the
-- type operands of 2.5.1.1 to 2.5.1.3 and 2.5.1.6); DW_AT_sibling's offset; an index into the ranges, locations or
-- strings (0, 1, 2); an offset from the section's start, which no rewriting changes.
pub data Role : Type 0 where
  reference : Role
  type_reference : Role
  sibling : Role
  index : ℕ → Role
  absolute : Role

-- A token: what one step of a layout reads.
pub data Token : Type 0 where
  nothing : Token  -- no bytes
  number : Kind → Token  -- a number; what follows may go by it
  bounded : ℕ → Token  -- a ULEB128 number, at most so large
  forms : Token  -- what stands before a value of DW_FORM_indirect: form numbers, up to the first that is another form
  signed : Token  -- a SLEB128 number
  link : Kind → Role → Token  -- a number that a rewriting may change; what follows never goes by it
  string : Token  -- up to and with a zero byte
  run : ℕ → Token  -- so many bytes
  block : Kind → Token  -- a length, and so many bytes
  expression : Token  -- a ULEB128 length, and an expression of so many bytes
  unknown : Token  -- nothing that can be read

-- A layout: a token, and then a layout that goes by its value.
pub data Layout : Type 0 where
  done : Layout
  fail : Layout
  field : Token → (ℕ → Layout) → Layout

-- ---- what is read

-- Bytes that are verbatim, or a number that a rewriting may change.
pub data Piece : Type 0 where
  verbatim : List ℕ → Piece
  patchable : Encoded → Role → ℕ → Piece

-- What a token read: the value that the layout goes by, how far in its payload begins, its pieces.
pub record Read : Type 0 where
  pub seen : ℕ
  pub start : ℕ
  pub pieces : List Piece

-- How an expression's bytes are read: as bytes (`as_bytes`), or operation by operation (Expression.antt).
abbrev pub ExpressionReader : Type 0
ExpressionReader = List ℕ → Option (List Piece)

unfoldable pub as_bytes : ExpressionReader
as_bytes s = Some (verbatim s ∷ [])

unfoldable pub width : Encoded → ℕ
width (infixed w) = w
width (inleb n) = suc n

abbrev pub ReadFound : Type 0
ReadFound = Encoded × ℕ × List ℕ

unfoldable pub as_leb : Groups → Option ReadFound
as_leb t = Some (inleb t.0, t.1, t.2)

-- a string with its zero byte (7.5.5, class string)
unfoldable pub string_in : List ℕ → Option (List ℕ × List ℕ)
string_in [] = None
string_in (b ∷ s) = pick (eqb b 0) (Some (b ∷ [], s)) (bind (string_in s) (λ r. Some (b ∷ r.0, r.1)))

-- A number in at most three bytes and 16 bits: a tag, a name or a form (document 01, "Readers").
unfoldable pub within16 : Groups → Option Groups
within16 t = check (ltb t.1 (2 ^ 16)) (Some t)

unfoldable pub short : List ℕ → Option Groups
short s = bind (groups 3 s) within16

-- 7.5.3, DW_FORM_indirect: the form of the value stands in the entry, and may be indirect again.
-- How many bytes the form numbers take, and the form that they end in; at most k numbers.
unfoldable pub after_form : Groups → ℕ × ℕ → Option (ℕ × ℕ)
after_form t r = Some (suc t.0 + r.0, r.1)

unfoldable pub forms_within : ℕ → List ℕ → Option (ℕ × ℕ)
forms_within zero s = None
forms_within (suc k) s =
    bind (short s) (λ t. pick (eqb t.1 DW_FORM_indirect) (bind (forms_within k t.2) (after_form t)) (Some (suc t.0, t.1)))

unfoldable pub forms_in : List ℕ → Option (ℕ × ℕ)
forms_in s = forms_within (length s) s

abbrev pub ReadOf : Type 0
ReadOf = Read × List ℕ

-- n bytes of s that are verbatim, with the value v; the payload begins after k of them
unfoldable pub copy : ℕ → ℕ → ℕ → List ℕ → ReadOf
copy v k n s = (record { seen = v; start = k; pieces = verbatim (take n s) ∷ [] }, drop n s)

unfoldable pub as_number : List ℕ → ReadFound → Option ReadOf
as_number s r = Some (copy r.1 0 (width r.0) s)

unfoldable pub as_link : Role → ReadFound → Option ReadOf
as_link role r = Some (record { seen = 0; start = 0; pieces = patchable r.0 role r.1 ∷ [] }, r.2)

unfoldable pub as_bounded : ℕ → List ℕ → Groups → Option ReadOf
as_bounded n s t = check (leb t.1 n) (Some (copy t.1 0 (suc t.0) s))

unfoldable pub as_forms : List ℕ → ℕ × ℕ → Option ReadOf
as_forms s r = Some (copy r.1 0 r.0 s)

unfoldable pub as_signed : List ℕ → Groups → Option ReadOf
as_signed s t = Some (copy t.1 0 (suc t.0) s)

unfoldable pub as_string : List ℕ → List ℕ × List ℕ → Option ReadOf
as_string s r = Some (copy 0 0 (length r.0) s)

unfoldable pub as_block : List ℕ → ReadFound → Option ReadOf
as_block s r = check (leb r.1 (length r.2)) (Some (copy 0 (width r.0) (width r.0 + r.1) s))

unfoldable pub as_expression : ExpressionReader → List ℕ → Groups → Option ReadOf
as_expression ex s t =
    check (leb t.1 (length t.2))
    (bind (ex (take t.1 t.2))
    (λ ps. Some (record { seen = 0; start = suc t.0; pieces = verbatim (take (suc t.0) s) ∷ ps }, drop t.1 t.2)))

abbrev pub RunOf : Type 0
RunOf = List Read × List ℕ

unfoldable pub before : Read → RunOf → Option RunOf
before r q = Some (r ∷ q.0, q.1)

module _ (big : Bool) where
  -- a number of at most eight bytes, so that it fits 64 bits
  unfoldable pub number_in : Kind → List ℕ → Option ReadFound
  number_in (fixed w) s = check (leb w 8) (check (leb w (length s)) (Some (infixed w, fixed_value big (take w s), drop w s)))
  number_in leb128 s = bind (uleb s) as_leb

  unfoldable pub token_in : ExpressionReader → Token → List ℕ → Option ReadOf
  token_in ex nothing s = Some (record { seen = 0; start = 0; pieces = [] }, s)
  token_in ex (number k) s = bind (number_in k s) (as_number s)
  token_in ex (bounded n) s = bind (uleb s) (as_bounded n s)
  token_in ex forms s = bind (forms_in s) (as_forms s)
  token_in ex signed s = bind (sleb s) (as_signed s)
  token_in ex (link k r) s = bind (number_in k s) (as_link r)
  token_in ex string s = bind (string_in s) (as_string s)
  token_in ex (run n) s = check (leb n (length s)) (Some (copy 0 0 n s))
  token_in ex (block k) s = bind (number_in k s) (as_block s)
  token_in ex expression s = bind (uleb s) (as_expression ex s)
  token_in ex unknown s = None

  -- THE reader: the tokens of a layout one after the other
  unfoldable pub read_in : ExpressionReader → Layout → List ℕ → Option RunOf
  read_in ex done s = Some ([], s)
  read_in ex fail s = None
  read_in ex (field t k) s = bind (token_in ex t s) (λ r. bind (read_in ex (k r.0.seen) r.1) (before r.0))

  -- ---- what is written

  unfoldable pub number_bytes : Encoded → ℕ → List ℕ
  number_bytes (infixed w) v = fixed_bytes big w v
  number_bytes (inleb n) v = padded n v

  unfoldable pub piece_bytes : Piece → List ℕ
  piece_bytes (verbatim l) = l
  piece_bytes (patchable e r v) = number_bytes e v

  unfoldable pub bytes_of : List Piece → List ℕ
  bytes_of [] = []
  bytes_of (p ∷ ps) = piece_bytes p ++ bytes_of ps

  unfoldable pub write_all : List Read → List ℕ
  write_all [] = []
  write_all (r ∷ rs) = bytes_of r.pieces ++ write_all rs

-- A patch: what becomes of a number, by its role.
abbrev pub Patch : Type 0
Patch = Role → ℕ → ℕ

unfoldable pub patch_piece : Patch → Piece → Piece
patch_piece f (verbatim l) = verbatim l
patch_piece f (patchable e r v) = patchable e r (f r v)

unfoldable pub patch_pieces : Patch → List Piece → List Piece
patch_pieces f [] = []
patch_pieces f (p ∷ ps) = patch_piece f p ∷ patch_pieces f ps

unfoldable pub patch_read : Patch → Read → Read
patch_read f r = record { seen = r.seen; start = r.start; pieces = patch_pieces f r.pieces }

unfoldable pub patch_all : Patch → List Read → List Read
patch_all f [] = []
patch_all f (r ∷ rs) = patch_read f r ∷ patch_all f rs

-- whether a number can be written so
unfoldable pub fits : Encoded → ℕ → Bool
fits (infixed w) v = leb w 8 and ltb v (256 ^ w)
fits (inleb n) v = ltb n 10 and ltb v (128 ^ suc n) and ltb v (2 ^ 64)

abbrev pub Fit : Encoded → ℕ → Type 0
Fit e v = T (fits e v)
