-- What an operation that was read is: its code, its three tokens, and the fields that they give (specs/Steps.antt).
use mathlib.Core.Path.{◌≡◌, refl, ap, sym, ◌∙◌, subst}
use Prim.Native.Nat.{ℕ, suc, ◌+◌, ◌≤◌, ◌<◌}
use mathlib.Core.Bool.{Bool}
use Rattle.std.specs.Prelude.{None, Option, Some}
use mathlib.Core.List.{List, [], ◌∷◌, ◌++◌}
use native.Mathlib.Omega.{arith}
use lib.ListN.{length, take, drop, length-append, length-drop}
use lib.Seq.{length-take-le}
use lib.Dec.{leb}
use mir.Facts.{leb_yes}
use Rattle.readers.specs.Choice.{check, bind}
use Rattle.readers.proofs.Choice.{bind-at, bind-none, All, all-some, all_none, all_of, all-check, all-bind, all-triv, Took, took-add, took-length}
use Rattle.readers.specs.Numbers.{Groups, uleb, sleb, fixed_value}
use Rattle.readers.specs.Layout.{fixed, infixed, Token, nothing, number, bounded, forms, signed, link, string, run, block, expression, unknown, verbatim, Read, ReadOf, ExpressionReader, as_bytes, width, number_in, forms_in, string_in, as_number, as_bounded, as_forms, as_signed, as_link, as_string, as_block, as_expression, copy, token_in, read_in, before, bytes_of, piece_bytes}
use Rattle.readers.proofs.LayoutLaws.{NumberLaw, number-law, LebLaw, uleb-law, TokenLaw, token-law, as-bytes-law}
use Rattle.readers.specs.Tokens.{token_of, plain}
use Rattle.readers.specs.Operations.{row_layout, row_of, operation, operation_row}
use Rattle.readers.specs.Cursors.{cursor}
use Rattle.readers.specs.Fields.{size, field_of, row_of_reads}
use Rattle.readers.specs.Steps.{row_operation, operation_of_reads, as_operation, operation_at}
use Rattle.readers.specs.declared.cursor.Encoding.{Encoding}
use Rattle.readers.specs.declared.operations.Operation.{Operation}

-- the tokens of a row
abbrev pub token1 : Encoding → ℕ → Token
token1 e l = token_of e (row_of l).first_use (row_of l).first

abbrev pub token2 : Encoding → ℕ → Token
token2 e l = token_of e (row_of l).second_use (row_of l).second

abbrev pub token3 : Encoding → ℕ → Token
token3 e l = token_of e plain (row_of l).third

module _ (e : Encoding) where
  abbrev big : Bool
  big = e.big_endian

  -- the operation at a place, of the bytes from there on
  abbrev pub operation_in : List ℕ → ℕ → Option Operation
  operation_in x at = as_operation big at (read_in big as_bytes (operation e) x)

  abbrev pub made_of : ℕ → Read → Read → Read → Read → Operation
  made_of at c a b d =
      record {
        row = operation_row c.seen;
        first = field_of big (at + size big c) a;
        second = field_of big (at + size big c + size big a) b;
        next = cursor (at + size big c + size big a + size big b + size big d);
      }

  -- x holds the operation op, whose place is at: its code c and its tokens a, b, d, each read from what the one before left
  pub record OperationHeld (x : List ℕ) (at : ℕ) (op : Operation) : Type 0 where
    pub c : Read
    pub a : Read
    pub b : Read
    pub d : Read
    pub x1 : List ℕ
    pub x2 : List ℕ
    pub x3 : List ℕ
    pub rest : List ℕ
    pub code : token_in big as_bytes (number (fixed 1)) x ≡ Some (c, x1)
    pub first : token_in big as_bytes (token1 e (operation_row c.seen)) x1 ≡ Some (a, x2)
    pub second : token_in big as_bytes (token2 e (operation_row c.seen)) x2 ≡ Some (b, x3)
    pub third : token_in big as_bytes (token3 e (operation_row c.seen)) x3 ≡ Some (d, rest)
    pub made : op ≡ made_of at c a b d

  unfoldable pub Cases : List ℕ → ℕ → Option Operation → Type 0
  Cases x at (Some op) = OperationHeld x at op
  Cases x at None = read_in big as_bytes (operation e) x ≡ None

  -- the reader, token by token
  pub read-four : (ex : ExpressionReader) (x : List ℕ) (c a b d : Read) (x1 x2 x3 rest : List ℕ)
      → token_in big ex (number (fixed 1)) x ≡ Some (c, x1)
      → token_in big ex (token1 e (operation_row c.seen)) x1 ≡ Some (a, x2)
      → token_in big ex (token2 e (operation_row c.seen)) x2 ≡ Some (b, x3)
      → token_in big ex (token3 e (operation_row c.seen)) x3 ≡ Some (d, rest)
      → read_in big ex (operation e) x ≡ Some (c ∷ a ∷ b ∷ d ∷ [], rest)
  unfolding operation row_layout read_in before bind
  read-four ex x c a b d x1 x2 x3 rest p0 p1 p2 p3 =
      bind-at _ p0 ∙ bind-at _ (bind-at _ p1 ∙ bind-at _ (bind-at _ p2 ∙ bind-at _ (bind-at _ p3)))

  none-case : (x : List ℕ) (at : ℕ) → read_in big as_bytes (operation e) x ≡ None → Cases x at (operation_in x at)
  unfolding Cases as_operation
  none-case x at q = subst (λ o. Cases x at (as_operation big at o)) (sym q) q

  module _ (x : List ℕ) (at : ℕ) where
    case3 : (c a b : Read) (x1 x2 x3 : List ℕ)
        → token_in big as_bytes (number (fixed 1)) x ≡ Some (c, x1)
        → token_in big as_bytes (token1 e (operation_row c.seen)) x1 ≡ Some (a, x2)
        → token_in big as_bytes (token2 e (operation_row c.seen)) x2 ≡ Some (b, x3)
        → (o : Option ReadOf) → token_in big as_bytes (token3 e (operation_row c.seen)) x3 ≡ o → Cases x at (operation_in x at)
    unfolding Cases as_operation operation_of_reads row_of_reads row_operation field_of operation row_layout read_in
    case3 c a b x1 x2 x3 p0 p1 p2 None p3 = none-case x at (bind-at _ p0 ∙ bind-none _ (bind-at _ p1 ∙ bind-none _ (bind-at _ p2 ∙ bind-none _ (bind-none _ p3))))
    case3 c a b x1 x2 x3 p0 p1 p2 (Some d) p3 =
        subst (λ o. Cases x at (as_operation big at o)) (sym (read-four as_bytes x c a b d.0 x1 x2 x3 d.1 p0 p1 p2 p3))
        (record { c = c; a = a; b = b; d = d.0; x1 = x1; x2 = x2; x3 = x3; rest = d.1; code = p0; first = p1; second = p2; third = p3; made = refl })

    case2 : (c a : Read) (x1 x2 : List ℕ)
        → token_in big as_bytes (number (fixed 1)) x ≡ Some (c, x1)
        → token_in big as_bytes (token1 e (operation_row c.seen)) x1 ≡ Some (a, x2)
        → (o : Option ReadOf) → token_in big as_bytes (token2 e (operation_row c.seen)) x2 ≡ o → Cases x at (operation_in x at)
    unfolding operation row_layout read_in
    case2 c a x1 x2 p0 p1 None p2 = none-case x at (bind-at _ p0 ∙ bind-none _ (bind-at _ p1 ∙ bind-none _ (bind-none _ p2)))
    case2 c a x1 x2 p0 p1 (Some b) p2 = case3 c a b.0 x1 x2 b.1 p0 p1 p2 _ refl

    case1 : (c : Read) (x1 : List ℕ)
        → token_in big as_bytes (number (fixed 1)) x ≡ Some (c, x1)
        → (o : Option ReadOf) → token_in big as_bytes (token1 e (operation_row c.seen)) x1 ≡ o → Cases x at (operation_in x at)
    unfolding operation row_layout read_in
    case1 c x1 p0 None p1 = none-case x at (bind-at _ p0 ∙ bind-none _ (bind-none _ p1))
    case1 c x1 p0 (Some a) p1 = case2 c a.0 x1 a.1 p0 p1 _ refl

    case0 : (o : Option ReadOf) → token_in big as_bytes (number (fixed 1)) x ≡ o → Cases x at (operation_in x at)
    unfolding operation row_layout read_in
    case0 None p0 = none-case x at (bind-none _ p0)
    case0 (Some c) p0 = case1 c.0 c.1 p0 _ refl

    -- an operation is read token by token, or not at all
    pub cases : Cases x at (operation_in x at)
    cases = case0 _ refl

-- ---- where the fields stand

module _ (e : Encoding) where
  copy_start : (v k n : ℕ) (s : List ℕ) → k ≤ n → n ≤ length s → (copy v k n s).0.start ≤ size (big e) (copy v k n s).0
  unfolding copy size bytes_of piece_bytes
  copy_start v k n s h l = omega (arith, length-append (take n s) [], length-take-le n s l)

  expression-start : (s : List ℕ) (t : Groups) → Took s (suc t.0) t.2
      → suc t.0 ≤ size (big e) (record { seen = 0; start = suc t.0; pieces = verbatim (take (suc t.0) s) ∷ verbatim (take t.1 t.2) ∷ [] })
  unfolding size bytes_of piece_bytes
  expression-start s t q =
      let a : List ℕ = take (suc t.0) s in
      let b : List ℕ = take t.1 t.2 ++ [] in
      let h : suc t.0 ≤ length s = q.0 in
      omega (arith, length-append a b, length-take-le (suc t.0) s h)

  -- a payload begins inside its token
  start-inside : (t : Token) (s : List ℕ) → All (λ r. r.0.start ≤ size (big e) r.0) (token_in (big e) as_bytes t s)
  unfolding token_in as_number as_bounded as_forms as_signed as_link as_string as_block as_expression as_bytes copy bind
  start-inside nothing s = all-some (λ (r : ReadOf). r.0.start ≤ size (big e) r.0) (omega arith)
  start-inside (number k) s = all-bind (λ _. Unit {0}) _ (number_in (big e) k s) _ (all-triv _) (λ r q u. all-some (λ (r : ReadOf). r.0.start ≤ size (big e) r.0) (omega arith))
  start-inside (bounded n) s = all-bind (λ _. Unit {0}) _ (uleb s) _ (all-triv _) (λ r q u. all-check _ _ _ (λ w. all-some (λ (r : ReadOf). r.0.start ≤ size (big e) r.0) (omega arith)))
  start-inside forms s = all-bind (λ _. Unit {0}) _ (forms_in s) _ (all-triv _) (λ r q u. all-some (λ (r : ReadOf). r.0.start ≤ size (big e) r.0) (omega arith))
  start-inside signed s = all-bind (λ _. Unit {0}) _ (sleb s) _ (all-triv _) (λ r q u. all-some (λ (r : ReadOf). r.0.start ≤ size (big e) r.0) (omega arith))
  start-inside (link k role) s = all-bind (λ _. Unit {0}) _ (number_in (big e) k s) _ (all-triv _) (λ r q u. all-some (λ (r : ReadOf). r.0.start ≤ size (big e) r.0) (omega arith))
  start-inside string s = all-bind (λ _. Unit {0}) _ (string_in s) _ (all-triv _) (λ r q u. all-some (λ (r : ReadOf). r.0.start ≤ size (big e) r.0) (omega arith))
  start-inside (run n) s = all-check _ _ _ (λ w. all-some (λ (r : ReadOf). r.0.start ≤ size (big e) r.0) (omega arith))
  start-inside (block k) s =
      all-bind (NumberLaw (big e) k s) _ (number_in (big e) k s) _ (number-law (big e) k s)
      (λ r q u. all-check _ _ _ (λ w. all-some (λ (r : ReadOf). r.0.start ≤ size (big e) r.0)
      (copy_start 0 (width r.0) (width r.0 + r.1) s (omega arith)
      (let h : r.1 ≤ length r.2 = leb_yes w in omega (arith, took-length s (width r.0) r.2 u.1)))))
  start-inside expression s =
      all-bind (LebLaw uleb s) _ (uleb s) _ (uleb-law s)
      (λ r q u. all-check _ _ _ (λ w. all-some (λ (r : ReadOf). r.0.start ≤ size (big e) r.0) (expression-start s r u.0)))
  start-inside unknown s = all_none _

  -- a token that was read took so many bytes
  pub token-took : (t : Token) (s : List ℕ) (r : Read) (rest : List ℕ) → token_in (big e) as_bytes t s ≡ Some (r, rest) → Took s (size (big e) r) rest
  unfolding size
  token-took t s r rest q = (all_of (TokenLaw (big e) as_bytes t s) (token-law (big e) as_bytes (as-bytes-law (big e)) t s) q).0

  -- a code is one byte, and nothing that a rewriting changes
  code-law : (s : List ℕ) → All (λ r. (1 ≤ length s) × (r.0.pieces ≡ verbatim (take 1 s) ∷ []) × (size (big e) r.0 ≡ 1)) (token_in (big e) as_bytes (number (fixed 1)) s)
  unfolding token_in as_number copy size bytes_of piece_bytes number_in width
  code-law s =
      all-bind (λ t. (t.0 ≡ infixed 1) × (1 ≤ length s)) _ (check (leb 1 8) (check (leb 1 (length s)) (Some (infixed 1, fixed_value (big e) (take 1 s), drop 1 s)))) _
      (all-check _ _ _ (λ u. all-check _ _ _ (λ v. all-some (λ t. (t.0 ≡ infixed 1) × (1 ≤ length s)) (refl, leb_yes v))))
      (λ t q u. all-some (λ r. (1 ≤ length s) × (r.0.pieces ≡ verbatim (take 1 s) ∷ []) × (size (big e) r.0 ≡ 1)) (
        u.1,
        ap (λ w. verbatim (take (width w) s) ∷ []) u.0,
        ap (λ w. length (take (width w) s ++ [])) u.0 ∙ (let h : 1 ≤ length s = u.1 in omega (arith, length-append (take 1 s) [], length-take-le 1 s h)),
      ))

  module _ (x : List ℕ) (at : ℕ) (op : Operation) (h : OperationHeld e x at op) where
    abbrev pub span : ℕ
    span = size (big e) h.c + size (big e) h.a + size (big e) h.b + size (big e) h.d

    pub code_is : (1 ≤ length x) × (h.c.pieces ≡ verbatim (take 1 x) ∷ []) × (size (big e) h.c ≡ 1)
    code_is = all_of (λ r. (1 ≤ length x) × (r.0.pieces ≡ verbatim (take 1 x) ∷ []) × (size (big e) r.0 ≡ 1)) (code-law x) h.code

    pub first-from : Took x (size (big e) h.c) h.x1
    first-from = token-took _ x h.c h.x1 h.code

    pub rest-is : Took x span h.rest
    rest-is =
        took-add x _ _ h.x3 h.rest
        (took-add x _ _ h.x2 h.x3 (took-add x _ _ h.x1 h.x2 first-from (token-took _ h.x1 h.a h.x2 h.first)) (token-took _ h.x2 h.b h.x3 h.second))
        (token-took _ h.x3 h.d h.rest h.third)

    pub past : op.next.at ≡ at + span
    past = ap (λ (o : Operation). o.next.at) h.made ∙ (let q : at + size (big e) h.c + size (big e) h.a + size (big e) h.b + size (big e) h.d ≡ at + span = omega arith in q)

    pub starts : op.first.start ≡ at + 1 + h.a.start
    unfolding field_of
    starts = ap (λ (o : Operation). o.first.start) h.made ∙ (let q : size (big e) h.c ≡ 1 = code_is.2 in let p : at + size (big e) h.c + h.a.start ≡ at + 1 + h.a.start = omega arith in p)

    pub ends : op.first.end ≡ at + 1 + size (big e) h.a
    unfolding field_of
    ends = ap (λ (o : Operation). o.first.end) h.made ∙ (let q : size (big e) h.c ≡ 1 = code_is.2 in let p : at + size (big e) h.c + size (big e) h.a ≡ at + 1 + size (big e) h.a = omega arith in p)

    first-inside : h.a.start ≤ size (big e) h.a
    first-inside = all_of (λ r. r.0.start ≤ size (big e) r.0) (start-inside _ h.x1) h.first

    -- it stands inside what it was read of
    pub held-inside : (at < op.next.at) × (op.next.at ≤ at + length x) × (at < op.first.start) × (op.first.start ≤ op.first.end) × (op.first.end ≤ op.next.at)
    held-inside =
        let q : size (big e) h.c ≡ 1 = code_is.2 in
        let m : span ≤ length x = rest-is.0 in
        let f : h.a.start ≤ size (big e) h.a = first-inside in
        let p : op.next.at ≡ at + span = past in
        let b : op.first.start ≡ at + 1 + h.a.start = starts in
        let n : op.first.end ≡ at + 1 + size (big e) h.a = ends in
        (omega arith, omega arith, omega arith, omega arith, omega arith)

  -- the operation at a place, with what it holds
  pub operation-held : (s : List ℕ) (at : ℕ) (op : Operation) → operation_at e s at ≡ Some op → OperationHeld e (drop at s) at op
  unfolding operation_at Cases
  operation-held s at op q = subst (λ o. Cases e (drop at s) at o) q (cases e (drop at s) at)

  pub operation-none : (s : List ℕ) (at : ℕ) → operation_at e s at ≡ None → read_in (big e) as_bytes (operation e) (drop at s) ≡ None
  unfolding operation_at Cases
  operation-none s at q = subst (λ o. Cases e (drop at s) at o) q (cases e (drop at s) at)

  -- THE LAW of places: an operation stands inside the slice, its first operand inside it
  pub operation-inside : (s : List ℕ) (at : ℕ) (op : Operation) → operation_at e s at ≡ Some op
      → (at < op.next.at) × (op.next.at ≤ length s) × (at < op.first.start) × (op.first.start ≤ op.first.end) × (op.first.end ≤ op.next.at)
  operation-inside s at op q =
      let h : OperationHeld e (drop at s) at op = operation-held s at op q in
      let one : 1 ≤ length (drop at s) = (code_is (drop at s) at op h).0 in
      let w : (at < op.next.at) × (op.next.at ≤ at + length (drop at s)) × (at < op.first.start) × (op.first.start ≤ op.first.end) × (op.first.end ≤ op.next.at) = held-inside (drop at s) at op h in
      let n : op.next.at ≤ length s = omega (arith, w.1, length-drop at s) in
      (w.0, n, w.2, w.3, w.4)
