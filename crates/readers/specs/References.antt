-- The references of an expression (document 01, "References" and "references of an expression").
use Rattle.std.specs.Prelude.{ℕ, ◌+◌, ◌*◌, ◌-◌, ◌/◌, Bool, true, false, List, [], ◌∷◌, ◌++◌, length, ltb, leb, eqb}
use Rattle.std.specs.Prelude.{Err, None, Ok, Option, Result, Some}
use Rattle.readers.specs.declared.expressions.Reference.{Reference}
use Rattle.readers.specs.Choice.{pick, ◌or◌, ◌and◌, zeros}
use Rattle.readers.specs.Header.{size_known, encoding_of}
use Rattle.readers.specs.Operations.{row_reference2, row_reference4, row_type, row_bytes1_type, row_type_block1}
use Rattle.readers.specs.Operations.{row_expression}
use Rattle.readers.specs.Layout.{Encoded, infixed, inleb, width, reference, type_reference, sibling, index}
use Rattle.readers.specs.Layout.{absolute, Piece, verbatim, patchable, piece_bytes}
use Rattle.readers.specs.Expression.{expression_in}
use Rattle.readers.specs.Scan.{Turn, more, stop, Scanned, scan}
use Rattle.readers.specs.Steps.{operation_at}
use Rattle.readers.specs.Refusals.{refusal_of_walk}
use Rattle.readers.specs.declared.cursor.Encoding.{Encoding}
use Rattle.readers.specs.declared.cursor.Cursor.{Cursor}
use Rattle.readers.specs.declared.fields.Field.{Field}
use Rattle.readers.specs.declared.operations.Operation.{Operation}

-- A reference: where its operand stands, the offset that it names, how the operand is written.
abbrev pub Named : Type 0
Named = ℕ × ℕ × Encoded

-- Operands of call2, call4 and GNU_parameter_ref, and, where not zero, of the type operations.
unfoldable pub name_in : ℕ → Piece → List Named
name_in at (verbatim l) = []
name_in at (patchable e reference v) = (at, v, e) ∷ []
name_in at (patchable e type_reference v) = pick (eqb v 0) [] ((at, v, e) ∷ [])
name_in at (patchable e sibling v) = []
name_in at (patchable e (index k) v) = []
name_in at (patchable e absolute v) = []

-- the references of pieces whose first byte is at a place
unfoldable pub names_in : Bool → ℕ → List Piece → List Named
names_in big at [] = []
names_in big at (p ∷ ps) = name_in at p ++ names_in big (at + length (piece_bytes big p)) ps

unfoldable pub is_absolute : Piece → Bool
is_absolute (verbatim l) = false
is_absolute (patchable e reference v) = false
is_absolute (patchable e type_reference v) = false
is_absolute (patchable e sibling v) = false
is_absolute (patchable e (index k) v) = false
is_absolute (patchable e absolute v) = true

-- whether an offset in the section is among the pieces
unfoldable pub any_absolute : List Piece → Bool
any_absolute [] = false
any_absolute (p ∷ ps) = is_absolute p or any_absolute ps

-- ---- the walk of a whole expression

unfoldable pub as_walk : Bool → Option (List Piece) → Option (ℕ × Bool)
as_walk big None = None
as_walk big (Some ps) = Some (length (names_in big 0 ps), any_absolute ps)

unfoldable pub walk_of : Encoding → List ℕ → Option (ℕ × Bool)
walk_of e s = as_walk e.big_endian (expression_in e s)

-- ---- one reference after the other: operation by operation, going on inside an entry value

-- the entry that an operand names; b: whether the operand is a ULEB128 number
unfoldable pub named : Field → Bool → Cursor → Option Reference
named f b c =
    Some (record { place = f.start; target = record { 0 = f.value }; leb = b; width = f.end - f.start; next = c })

unfoldable pub named_type : Field → Cursor → Option Reference
named_type f c = pick (eqb f.value 0) None (named f true c)

-- By the rows of Operations.antt, in their order: two name an entry, four a type, by their first or their second
-- operand.
unfoldable pub reference_of : Operation → Option Reference
reference_of op =
    pick (ltb op.row row_reference2) None
    (pick (leb op.row row_reference4) (named op.first false op.next)
    (pick (eqb op.row row_type) (named_type op.first op.next)
    (pick (leb op.row row_bytes1_type) (named_type op.second op.next)
    (pick (eqb op.row row_type_block1) (named_type op.first op.next)
    None))))

unfoldable pub yield_turn : Option Reference → Cursor → Turn (Unit {0}) (Option Reference)
yield_turn (Some r) c = stop (Some r)
yield_turn None c = more tt c.at

-- the one row that holds an expression is an entry value's
unfoldable pub operation_turn : Option Operation → Turn (Unit {0}) (Option Reference)
operation_turn (Some op) =
    pick (eqb op.row row_expression) (more tt op.first.start) (yield_turn (reference_of op) op.next)
operation_turn None = stop None

unfoldable pub walk_turn : Encoding → List ℕ → ℕ → Turn (Unit {0}) (Option Reference)
walk_turn e s at = pick (ltb at (length s)) (operation_turn (operation_at e s at)) (stop None)

unfoldable pub yielded : Option (Scanned (Unit {0}) (Option Reference)) → Option Reference
yielded None = None
yielded (Some r) = r.1

unfoldable pub next_reference : Encoding → List ℕ → ℕ → Option Reference
next_reference e s at = yielded (scan (length s) (walk_turn e s) at)

-- ---- all of them: at each operation its own references, going on inside an entry value

-- how an operand of n bytes is written: true for a ULEB128 number
unfoldable pub encoded_by : Bool → ℕ → Encoded
encoded_by true n = inleb (n - 1)
encoded_by false n = infixed n

unfoldable pub names_of : Option Reference → List Named
names_of (Some r) = (r.place, r.target.0, encoded_by r.leb r.width) ∷ []
names_of None = []

unfoldable pub flat_operation : Option Operation → Turn (List Named) (Unit {0})
flat_operation (Some op) =
    pick (eqb op.row row_expression) (more [] op.first.start) (more (names_of (reference_of op)) op.next.at)
flat_operation None = stop tt

unfoldable pub flat_turn : Encoding → List ℕ → ℕ → Turn (List Named) (Unit {0})
flat_turn e s at = pick (ltb at (length s)) (flat_operation (operation_at e s at)) (stop tt)

unfoldable pub flat : List (List Named) → List Named
flat [] = []
flat (l ∷ ls) = l ++ flat ls

unfoldable pub flattened : Option (Scanned (List Named) (Unit {0})) → List Named
flattened None = []
flattened (Some r) = flat r.0

unfoldable pub flat_from : Encoding → List ℕ → ℕ → List Named
flat_from e s at = flattened (scan (length s) (flat_turn e s) at)

-- ---- the public call

-- in this order 2, 5, 7, 11; a table holds a third as many references as numbers
unfoldable pub walk_answer : ℕ → Option (ℕ × Bool) → Result ℕ ℕ
walk_answer room None = Err (refusal_of_walk None)
walk_answer room (Some (n, true)) = Err (refusal_of_walk (Some (n, true)))
walk_answer room (Some (n, false)) = pick (leb n room) (Ok n) (Err 11)

-- by the size of an address and that of an offset (document 02, Point 6: "4 or 8; any other is 2"), the byte order, and
-- how many numbers the table has
unfoldable pub references_answer : ℕ → ℕ → Bool → ℕ → List ℕ → Result ℕ ℕ
references_answer a w big numbers s =
    pick (size_known a and size_known w)
    (walk_answer (numbers / 3) (walk_of (encoding_of big 5 w a) s)) (Err 2)

-- three numbers each: the place, the offset, the width in bytes
unfoldable pub numbers_of : List Named → List ℕ
numbers_of [] = []
numbers_of (r ∷ rs) = r.0 ∷ r.1 ∷ width r.2 ∷ numbers_of rs

-- the references of a readable expression
unfoldable pub names_or : Bool → Option (List Piece) → List Named
names_or big None = []
names_or big (Some ps) = names_in big 0 ps

unfoldable pub references_in : Encoding → List ℕ → List Named
references_in e s = names_or e.big_endian (expression_in e s)

-- the references, and zeros after them; zeros after a refusal
unfoldable pub answer_table : ℕ → Result ℕ ℕ → List Named → List ℕ
answer_table numbers (Ok n) rs = numbers_of rs ++ zeros (numbers - 3 * n)
answer_table numbers (Err k) rs = zeros numbers

unfoldable pub references_table : ℕ → ℕ → Bool → ℕ → List ℕ → List ℕ
references_table a w big numbers s =
    answer_table numbers (references_answer a w big numbers s) (references_in (encoding_of big 5 w a) s)
