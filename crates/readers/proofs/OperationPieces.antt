-- The pieces of an operation that was read: the references and section offsets that they hold are those that the operation names by its row.
use mathlib.Core.Path.{◌≡◌, refl, ap, ap₂, sym, ◌∙◌, subst}
use Prim.Native.Nat.{ℕ, zero, suc, ◌+◌, ◌-◌, ◌≤◌, ◌<◌}
use mathlib.Core.Bool.{Bool, true, false, not}
use mathlib.Core.Logic.{⊎_elim, ◌≢◌}
use mathlib.Core.List.{List, [], ◌∷◌, ◌++◌, append_assoc, append-nil}
use native.Mathlib.Omega.{arith}
use lib.ListN.{length, length-append}
use lib.Dec.{T, ltb, eqb}
use mir.Facts.{ltb_yes, eqb_yes, eqb_no}
use Rattle.readers.specs.Choice.{pick, bind, ◌and◌, ◌or◌}
use Rattle.readers.proofs.Choice.{pick-either, either, All, all-some, all_none, all-check, all-bind, all-triv}
use Rattle.readers.specs.Numbers.{uleb, sleb}
use Rattle.readers.specs.Layout.{fixed, leb128, Kind, Encoded, infixed, inleb, Role, reference, type_reference, sibling, index, absolute, Token, nothing, number, bounded, forms, signed, link, string, run, block, expression, unknown, Piece, verbatim, patchable, ReadOf, as_bytes, width, number_in, forms_in, string_in, as_number, as_bounded, as_forms, as_signed, as_link, as_string, as_block, as_expression, copy, token_in, bytes_of, piece_bytes, number_bytes}
use Rattle.readers.proofs.LayoutLaws.{kind_of, NumberLaw, number-law, length-number}
use Rattle.readers.specs.Tokens.{number_as, token_of}
use Rattle.readers.specs.Operations.{rows, unreadable_row, row_of, Codes, operations, row_among, operation_row}
use Rattle.readers.specs.Fields.{size, field_of, linked_value}
use Rattle.readers.specs.References.{Named, name_in, names_in, is_absolute, any_absolute, named, named_type, reference_of, encoded_by, names_of}
use Rattle.readers.specs.declared.cursor.Encoding.{Encoding}
use Rattle.readers.specs.declared.cursor.Cursor.{Cursor}
use Rattle.readers.specs.declared.fields.Field.{Field}
use Rattle.std.specs.Prelude.{None, Option, Some}
use Rattle.readers.specs.declared.expressions.Reference.{Reference}
use Rattle.readers.proofs.OperationReads.{token1, token2, token3}

-- ---- names and section offsets of pieces in a row

same-pick : (b : Bool) (x y : Named) → length (pick b [] (x ∷ [])) ≡ length (pick b [] (y ∷ []))
unfolding pick
same-pick true x y = refl
same-pick false x y = refl

pub or_assoc : (a b c : Bool) → (a or (b or c)) ≡ ((a or b) or c)
unfolding ◌or◌
or_assoc true b c = refl
or_assoc false b c = refl

module _ (big : Bool) where
  pub names-append : (at : ℕ) (ps qs : List Piece) → names_in big at (ps ++ qs) ≡ names_in big at ps ++ names_in big (at + length (bytes_of big ps)) qs
  unfolding names_in bytes_of
  names-append at [] qs = ap (λ n. names_in big n qs) (let h : at ≡ at + 0 = omega arith in h)
  names-append at (p ∷ ps) qs =
      let n : at + length (piece_bytes big p) + length (bytes_of big ps) ≡ at + length (piece_bytes big p ++ bytes_of big ps) = omega (arith, length-append (piece_bytes big p) (bytes_of big ps)) in
      ap (λ x. name_in at p ++ x) (names-append (at + length (piece_bytes big p)) ps qs ∙ ap (λ m. names_in big (at + length (piece_bytes big p)) ps ++ names_in big m qs) n)
      ∙ sym (append_assoc (name_in at p) _ _)

  same_name : (m n : ℕ) (p : Piece) → length (name_in m p) ≡ length (name_in n p)
  unfolding name_in
  same_name m n (verbatim l) = refl
  same_name m n (patchable e reference v) = refl
  same_name m n (patchable e type_reference v) = same-pick (eqb v 0) (m, v, e) (n, v, e)
  same_name m n (patchable e sibling v) = refl
  same_name m n (patchable e (index k) v) = refl
  same_name m n (patchable e absolute v) = refl

  -- how many names there are does not depend on the place
  pub same_count : (m n : ℕ) (ps : List Piece) → length (names_in big m ps) ≡ length (names_in big n ps)
  unfolding names_in
  same_count m n [] = refl
  same_count m n (p ∷ ps) =
      length-append (name_in m p) _ ∙ ap₂ ◌+◌ (same_name m n p) (same_count (m + length (piece_bytes big p)) (n + length (piece_bytes big p)) ps) ∙ sym (length-append (name_in n p) _)

pub absolute-append : (ps qs : List Piece) → any_absolute (ps ++ qs) ≡ (any_absolute ps or any_absolute qs)
unfolding any_absolute ◌or◌
absolute-append [] qs = refl
absolute-append (p ∷ ps) qs = ap (λ x. is_absolute p or x) (absolute-append ps qs) ∙ or_assoc (is_absolute p) (any_absolute ps) (any_absolute qs)

-- ---- what one token names

unfoldable pub is_leb : Kind → Bool
is_leb (fixed w) = false
is_leb leb128 = true

encoded-is : (c : Encoded) → encoded_by (is_leb (kind_of c)) (width c) ≡ c
unfolding encoded_by is_leb kind_of width
encoded-is (infixed w) = refl
encoded-is (inleb n) = ap inleb (let h : suc n - 1 ≡ n = omega arith in h)

unfoldable pub token_names : Token → Field → List Named
token_names (link k reference) f = (f.start, f.value, encoded_by (is_leb k) (f.end - f.start)) ∷ []
token_names (link k type_reference) f = pick (eqb f.value 0) [] ((f.start, f.value, encoded_by (is_leb k) (f.end - f.start)) ∷ [])
token_names (link k sibling) f = []
token_names (link k (index n)) f = []
token_names (link k absolute) f = []
token_names nothing f = []
token_names (number k) f = []
token_names (bounded n) f = []
token_names forms f = []
token_names signed f = []
token_names string f = []
token_names (run n) f = []
token_names (block k) f = []
token_names expression f = []
token_names unknown f = []

unfoldable pub token_absolute : Token → Bool
token_absolute (link k reference) = false
token_absolute (link k type_reference) = false
token_absolute (link k sibling) = false
token_absolute (link k (index n)) = false
token_absolute (link k absolute) = true
token_absolute nothing = false
token_absolute (number k) = false
token_absolute (bounded n) = false
token_absolute forms = false
token_absolute signed = false
token_absolute string = false
token_absolute (run n) = false
token_absolute (block k) = false
token_absolute expression = false
token_absolute unknown = false

-- a link's field is as wide as its number is written
unfoldable pub Sized : Token → Field → Type 0
Sized (link k role) f = width (encoded_by (is_leb k) (f.end - f.start)) ≡ f.end - f.start
Sized nothing f = Unit {0}
Sized (number k) f = Unit {0}
Sized (bounded n) f = Unit {0}
Sized forms f = Unit {0}
Sized signed f = Unit {0}
Sized string f = Unit {0}
Sized (run n) f = Unit {0}
Sized (block k) f = Unit {0}
Sized expression f = Unit {0}
Sized unknown f = Unit {0}

module _ (big : Bool) where
  -- what the pieces of a token name at a place is what its field there names, and the field is as wide as they are written
  abbrev pub Names : ℕ → Token → ReadOf → Type 0
  Names at t r = (names_in big at r.0.pieces ≡ token_names t (field_of big at r.0)) × (any_absolute r.0.pieces ≡ token_absolute t) × Sized t (field_of big at r.0)

  link-names : (at : ℕ) (k : Kind) (role : Role) (c : Encoded) (v : ℕ) (s : List ℕ) → kind_of c ≡ k
      → Names at (link k role) (record { seen = 0; start = 0; pieces = patchable c role v ∷ [] }, s)
  unfolding names_in name_in any_absolute is_absolute token_names token_absolute Sized field_of size linked_value bytes_of piece_bytes ◌or◌
  link-names at k role c v s kind =
      let h : at + 0 ≡ at = omega arith in
      let l : length (number_bytes big c v ++ []) ≡ width c = ap length (append-nil (number_bytes big c v)) ∙ length-number big c v in
      let w : at + length (number_bytes big c v ++ []) - (at + 0) ≡ width c = omega arith in
      let n : encoded_by (is_leb k) (width c) ≡ c = ap (λ j. encoded_by (is_leb j) (width c)) (sym kind) ∙ encoded-is c in
      roles role h (ap (encoded_by (is_leb k)) w ∙ n) (ap (λ m. width (encoded_by (is_leb k) m)) w ∙ ap width n ∙ sym w)
    where
      roles : (role : Role) → at + 0 ≡ at
          → encoded_by (is_leb k) (at + length (number_bytes big c v ++ []) - (at + 0)) ≡ c
          → width (encoded_by (is_leb k) (at + length (number_bytes big c v ++ []) - (at + 0))) ≡ at + length (number_bytes big c v ++ []) - (at + 0)
          → Names at (link k role) (record { seen = 0; start = 0; pieces = patchable c role v ∷ [] }, s)
      roles reference h w z = (ap₂ (λ x y. (x, v, y) ∷ []) (sym h) (sym w), refl, z)
      roles type_reference h w z = (append-nil _ ∙ ap₂ (λ x y. pick (eqb v 0) [] ((x, v, y) ∷ [])) (sym h) (sym w), refl, z)
      roles sibling h w z = (refl, refl, z)
      roles (index n) h w z = (refl, refl, z)
      roles absolute h w z = (refl, refl, z)

  copy-names : (at : ℕ) (t : Token) (v k n : ℕ) (s : List ℕ) → token_names t (field_of big at (copy v k n s).0) ≡ [] → token_absolute t ≡ false → Sized t (field_of big at (copy v k n s).0) → Names at t (copy v k n s)
  unfolding names_in name_in any_absolute is_absolute copy ◌or◌
  copy-names at t v k n s p q z = (sym p, sym q, z)

  pub token-names : (at : ℕ) (t : Token) (s : List ℕ) → All (Names at t) (token_in big as_bytes t s)
  unfolding token_in as_number as_bounded as_forms as_signed as_link as_string as_block as_expression as_bytes bind names_in name_in any_absolute is_absolute token_names token_absolute Sized ◌or◌
  token-names at nothing s = all-some (Names at nothing) (refl, refl, tt)
  token-names at (number k) s = all-bind (λ _. Unit {0}) _ (number_in big k s) _ (all-triv _) (λ r q u. all-some (Names at (number k)) (copy-names at (number k) _ _ _ s refl refl tt))
  token-names at (bounded n) s = all-bind (λ _. Unit {0}) _ (uleb s) _ (all-triv _) (λ r q u. all-check _ _ _ (λ w. all-some (Names at (bounded n)) (copy-names at (bounded n) _ _ _ s refl refl tt)))
  token-names at forms s = all-bind (λ _. Unit {0}) _ (forms_in s) _ (all-triv _) (λ r q u. all-some (Names at forms) (copy-names at forms _ _ _ s refl refl tt))
  token-names at signed s = all-bind (λ _. Unit {0}) _ (sleb s) _ (all-triv _) (λ r q u. all-some (Names at signed) (copy-names at signed _ _ _ s refl refl tt))
  token-names at (link k role) s = all-bind (NumberLaw big k s) _ (number_in big k s) _ (number-law big k s) (λ r q u. all-some (Names at (link k role)) (link-names at k role r.0 r.1 r.2 u.0))
  token-names at string s = all-bind (λ _. Unit {0}) _ (string_in s) _ (all-triv _) (λ r q u. all-some (Names at string) (copy-names at string _ _ _ s refl refl tt))
  token-names at (run n) s = all-check _ _ _ (λ w. all-some (Names at (run n)) (copy-names at (run n) _ _ _ s refl refl tt))
  token-names at (block k) s = all-bind (λ _. Unit {0}) _ (number_in big k s) _ (all-triv _) (λ r q u. all-check _ _ _ (λ w. all-some (Names at (block k)) (copy-names at (block k) _ _ _ s refl refl tt)))
  token-names at expression s = all-bind (λ _. Unit {0}) _ (uleb s) _ (all-triv _) (λ r q u. all-check _ _ _ (λ w. all-some (Names at expression) (refl, refl, tt)))
  token-names at unknown s = all_none _

-- ---- what the tokens of each row name

infixr 20 ◌&◌
-- P of n numbers in a row
pub data Each (P : ℕ → Type 0) : ℕ → ℕ → Type 0 where
  end : {from : ℕ} → Each P from zero
  ◌&◌ : {from n : ℕ} → P from → Each P (suc from) n → Each P from (suc n)

each_at : (P : ℕ → Type 0) (from n i : ℕ) → Each P from n → from ≤ i → i < from + n → P i
each_at P from zero i end lo hi = absurd (omega arith)
each_at P from (suc n) i (p & h) lo hi =
    ⊎_elim (λ q. subst P (eqb_yes {a = from} {b = i} q) p)
    (λ q. each_at P (suc from) n i h (let w : from ≢ i = eqb_no q in omega arith) (omega arith))
    (either (eqb from i))

unfoldable pub rows_below : ℕ → List Codes → Bool
rows_below n [] = true
rows_below n (x ∷ xs) = ltb x.row n and rows_below n xs

and_both : (a b : Bool) → T (a and b) → T a × T b
unfolding ◌and◌
and_both true b h = (tt, h)
and_both false b h = absurd h

below-among : (n : ℕ) (xs : List Codes) (c : ℕ) → 0 < n → T (rows_below n xs) → row_among xs c < n
unfolding rows_below row_among
below-among n [] c z h = z
below-among n (x ∷ xs) c z h =
    let q : T (ltb x.row n) × T (rows_below n xs) = and_both _ _ h in
    pick-either (λ r. r < n) _ _ _ (λ _. ltb_yes q.0) (λ _. below-among n xs c z q.1)

-- no operation has one of the rows that list entries alone have
pub row_below : (c : ℕ) → operation_row c < 23
unfolding operation_row operations rows_below ◌and◌
row_below c = below-among 23 operations c (omega arith) tt

pick-names : (b : Bool) (y : Option Reference) → pick b [] (names_of y) ≡ names_of (pick b None y)
unfolding pick names_of
pick-names true y = refl
pick-names false y = refl

-- a reference's width is that of how its operand is written
unfoldable pub Wide : Option Reference → Type 0
Wide (Some r) = width (encoded_by r.leb r.width) ≡ r.width
Wide None = Unit {0}

wide_type : (f : Field) (c : Cursor) → width (encoded_by true (f.end - f.start)) ≡ f.end - f.start → Wide (named_type f c)
unfolding named_type named Wide
wide_type f c w = pick-either Wide _ _ _ (λ _. tt) (λ _. w)

unfoldable pub is_expression : Token → Bool
is_expression nothing = false
is_expression (number k) = false
is_expression (bounded n) = false
is_expression forms = false
is_expression signed = false
is_expression (link k r) = false
is_expression string = false
is_expression (run n) = false
is_expression (block k) = false
is_expression expression = true
is_expression unknown = false

module _ (e : Encoding) where
  abbrev pub RowNames : ℕ → Type 0
  RowNames l = (f g h : Field) (n : Cursor)
      → token_names (token1 e l) f ++ (token_names (token2 e l) g ++ token_names (token3 e l) h) ≡ names_of (reference_of (record { row = l; first = f; second = g; next = n }))

  row-names-each : Each RowNames 0 23
  unfolding rows row_of unreadable_row token_of number_as pick token_names is_leb reference_of named named_type names_of
  row-names-each =
      (λ f g h n. refl) & (λ f g h n. refl) & (λ f g h n. refl) & (λ f g h n. refl) & (λ f g h n. refl) & (λ f g h n. refl)
      & (λ f g h n. refl) & (λ f g h n. refl) & (λ f g h n. refl) & (λ f g h n. refl) & (λ f g h n. refl) & (λ f g h n. refl)
      & (λ f g h n. refl) & (λ f g h n. refl) & (λ f g h n. append-nil _ ∙ pick-names (eqb f.value 0) (named f true n)) & (λ f g h n. append-nil _ ∙ pick-names (eqb g.value 0) (named g true n)) & (λ f g h n. append-nil _ ∙ pick-names (eqb g.value 0) (named g true n)) & (λ f g h n. append-nil _ ∙ pick-names (eqb f.value 0) (named f true n))
      & (λ f g h n. refl) & (λ f g h n. refl) & (λ f g h n. refl) & (λ f g h n. refl) & (λ f g h n. refl) & end

  pub row-names : (l : ℕ) → l < 23 → RowNames l
  row-names l h = each_at RowNames 0 23 l row-names-each (omega arith) (omega arith)

  abbrev pub RowWide : ℕ → Type 0
  RowWide l = (f g : Field) (n : Cursor) → Sized (token1 e l) f → Sized (token2 e l) g → Wide (reference_of (record { row = l; first = f; second = g; next = n }))

  row-wide-each : Each RowWide 0 23
  unfolding rows row_of unreadable_row token_of number_as pick Sized is_leb reference_of named Wide
  row-wide-each =
      (λ f g n a b. tt) & (λ f g n a b. tt) & (λ f g n a b. tt) & (λ f g n a b. tt) & (λ f g n a b. tt) & (λ f g n a b. tt)
      & (λ f g n a b. tt) & (λ f g n a b. tt) & (λ f g n a b. tt) & (λ f g n a b. tt) & (λ f g n a b. tt) & (λ f g n a b. tt)
      & (λ f g n a b. a) & (λ f g n a b. a) & (λ f g n a b. wide_type f n a) & (λ f g n a b. wide_type g n b) & (λ f g n a b. wide_type g n b) & (λ f g n a b. wide_type f n a)
      & (λ f g n a b. tt) & (λ f g n a b. tt) & (λ f g n a b. tt) & (λ f g n a b. tt) & (λ f g n a b. tt) & end

  pub row-wide : (l : ℕ) → l < 23 → RowWide l
  row-wide l h = each_at RowWide 0 23 l row-wide-each (omega arith) (omega arith)

  abbrev pub RowAbsolute : ℕ → Type 0
  RowAbsolute l = (token_absolute (token1 e l) or (token_absolute (token2 e l) or token_absolute (token3 e l))) ≡ (eqb l 20 or eqb l 21)

  row-absolute-each : Each RowAbsolute 0 23
  unfolding rows row_of unreadable_row token_of number_as pick token_absolute ◌or◌
  row-absolute-each =
      refl & refl & refl & refl & refl & refl & refl & refl & refl & refl & refl & refl
      & refl & refl & refl & refl & refl & refl & refl & refl & refl & refl & refl & end

  pub row-absolute : (l : ℕ) → l < 23 → RowAbsolute l
  row-absolute l h = each_at RowAbsolute 0 23 l row-absolute-each (omega arith) (omega arith)

  -- only row 19 holds an expression
  abbrev pub RowPlain : ℕ → Type 0
  RowPlain l = T (not (eqb l 19)) → (is_expression (token1 e l) ≡ false) × (is_expression (token2 e l) ≡ false) × (is_expression (token3 e l) ≡ false)

  row-plain-each : Each RowPlain 0 23
  unfolding rows row_of unreadable_row token_of number_as pick is_expression
  row-plain-each =
      (λ _. (refl, refl, refl)) & (λ _. (refl, refl, refl)) & (λ _. (refl, refl, refl)) & (λ _. (refl, refl, refl)) & (λ _. (refl, refl, refl)) & (λ _. (refl, refl, refl))
      & (λ _. (refl, refl, refl)) & (λ _. (refl, refl, refl)) & (λ _. (refl, refl, refl)) & (λ _. (refl, refl, refl)) & (λ _. (refl, refl, refl)) & (λ _. (refl, refl, refl))
      & (λ _. (refl, refl, refl)) & (λ _. (refl, refl, refl)) & (λ _. (refl, refl, refl)) & (λ _. (refl, refl, refl)) & (λ _. (refl, refl, refl)) & (λ _. (refl, refl, refl))
      & (λ _. (refl, refl, refl)) & (λ u. absurd u) & (λ _. (refl, refl, refl)) & (λ _. (refl, refl, refl)) & (λ _. (refl, refl, refl)) & end

  pub row_plain : (l : ℕ) → l < 23 → RowPlain l
  row_plain l h = each_at RowPlain 0 23 l row-plain-each (omega arith) (omega arith)
