-- One step of an expression that is read to its end: an operation's own pieces, or those of the expression that an entry value holds, and then the rest.
use mathlib.Core.Path.{◌≡◌, refl, ap, ap₂, sym, ◌∙◌, subst}
use Prim.Native.Nat.{ℕ, suc, ◌+◌, ◌-◌, ◌≤◌}
use mathlib.Core.Bool.{Bool, true, false, not}
use Rattle.std.specs.Prelude.{None, Option, Some}
use mathlib.Core.List.{List, [], ◌∷◌, ◌++◌, append-nil}
use native.Mathlib.Omega.{arith}
use lib.ListN.{length, take, drop, length-append}
use lib.Seq.{length-take-le, drop-drop}
use lib.Dec.{T, leb, eqb}
use mir.Facts.{leb_yes, yes_leb, eqb_yes}
use Rattle.readers.specs.Choice.{pick, check, bind, ◌or◌}
use Rattle.readers.proofs.Choice.{check-yes, bind-at, bind-none, All, all-some, all_of, all-check, all-bind}
use Rattle.readers.specs.Numbers.{Groups, uleb}
use Rattle.readers.specs.Layout.{fixed, Token, nothing, number, bounded, forms, signed, link, string, run, block, expression, unknown, Layout, done, fail, field, Piece, verbatim, Read, ReadOf, RunOf, ExpressionReader, as_bytes, as_expression, token_in, read_in, before, bytes_of, piece_bytes}
use Rattle.readers.proofs.LayoutLaws.{LebLaw, uleb-law, bytes-append}
use Rattle.readers.specs.Tokens.{token_of, number_as}
use Rattle.readers.specs.Operations.{rows, unreadable_row, row_of, row_layout, operation, operation_row}
use Rattle.readers.specs.Fields.{size, field_of}
use Rattle.readers.specs.Expression.{all_pieces, and_rest, expression_in}
use Rattle.readers.proofs.Expression.{expression-more}
use Rattle.readers.specs.References.{names_in, name_in, any_absolute, is_absolute, reference_of, names_of}
use Rattle.readers.specs.declared.cursor.Encoding.{Encoding}
use Rattle.readers.specs.declared.operations.Operation.{Operation}
use Rattle.readers.proofs.OperationReads.{token1, token2, token3, made_of, OperationHeld, read-four, span, code_is, first-from, past, starts, ends}
use Rattle.readers.proofs.OperationPieces.{names-append, absolute-append, token_names, token_absolute, Names, token-names, row_below, row-names, row-absolute, Wide, row-wide, is_expression, row_plain}

-- ---- tokens that are no expression are read alike by all

pub plain-token : (big : Bool) (ex ex' : ExpressionReader) (t : Token) (s : List ℕ) → is_expression t ≡ false → token_in big ex t s ≡ token_in big ex' t s
unfolding token_in is_expression
plain-token big ex ex' nothing s h = refl
plain-token big ex ex' (number k) s h = refl
plain-token big ex ex' (bounded n) s h = refl
plain-token big ex ex' forms s h = refl
plain-token big ex ex' signed s h = refl
plain-token big ex ex' (link k r) s h = refl
plain-token big ex ex' string s h = refl
plain-token big ex ex' (run n) s h = refl
plain-token big ex ex' (block k) s h = refl
plain-token big ex ex' expression s h = let z : true ≡ false = h in cc
plain-token big ex ex' unknown s h = refl

module _ (big : Bool) (ex : ExpressionReader) where
  -- as bytes a token is read wherever it is read by another reader, and as far
  unfoldable Alike : Option ReadOf → Option ReadOf → Type 0
  Alike None p = Unit {0}
  Alike (Some r) None = ⊥
  Alike (Some r) (Some q) = (r.0.seen ≡ q.0.seen) × (r.1 ≡ q.1)

  alike_same : (o : Option ReadOf) → Alike o o
  unfolding Alike
  alike_same None = tt
  alike_same (Some r) = (refl, refl)

  alike-checked : (b : Bool) (x : Option ReadOf) (y : ReadOf) → Alike x (Some y) → Alike (check b x) (check b (Some y))
  unfolding check Alike
  alike-checked true x y h = h
  alike-checked false x y h = tt

  alike-part : (o : Option (List Piece)) (f : List Piece → ReadOf) (y : ReadOf) → ((ps : List Piece) → ((f ps).0.seen ≡ y.0.seen) × ((f ps).1 ≡ y.1))
      → Alike (bind o (λ ps. Some (f ps))) (Some y)
  unfolding bind Alike
  alike-part None f y h = tt
  alike-part (Some ps) f y h = h ps

  alike-expression : (s : List ℕ) (u : Option Groups) → Alike (bind u (as_expression ex s)) (bind u (as_expression as_bytes s))
  unfolding bind as_expression as_bytes Alike
  alike-expression s None = tt
  alike-expression s (Some t) = alike-checked (leb t.1 (length t.2)) _ _ (alike-part (ex (take t.1 t.2)) _ _ (λ ps. (refl, refl)))

  alike : (t : Token) (s : List ℕ) → Alike (token_in big ex t s) (token_in big as_bytes t s)
  unfolding token_in
  alike nothing s = alike_same _
  alike (number k) s = alike_same _
  alike (bounded n) s = alike_same _
  alike forms s = alike_same _
  alike signed s = alike_same _
  alike (link k r) s = alike_same _
  alike string s = alike_same _
  alike (run n) s = alike_same _
  alike (block k) s = alike_same _
  alike expression s = alike-expression s (uleb s)
  alike unknown s = alike_same _

  before-none : (r : Read) (o : Option RunOf) → bind o (before r) ≡ None → o ≡ None
  unfolding bind before
  before-none r None h = refl
  before-none r (Some q) h = cc

  none-field : (t : Token) (k : ℕ → Layout) (s : List ℕ) → read_in big as_bytes (field t k) s ≡ None
      → ((n : ℕ) (x : List ℕ) → read_in big as_bytes (k n) x ≡ None → read_in big ex (k n) x ≡ None)
      → (o : Option ReadOf) → token_in big ex t s ≡ o → (p : Option ReadOf) → token_in big as_bytes t s ≡ p → Alike o p → read_in big ex (field t k) s ≡ None
  unfolding read_in Alike
  none-field t k s h ih None q p q' a = bind-none _ q
  none-field t k s h ih (Some r) q None q' a = absurd a
  none-field t k s h ih (Some r) q (Some r') q' a =
      bind-at _ q
      ∙ bind-none _ (ap₂ (λ n x. read_in big ex (k n) x) a.0 a.1 ∙ ih r'.0.seen r'.1 (before-none r'.0 _ (sym (bind-at _ q') ∙ h)))

  -- what cannot be read as bytes cannot be read
  pub unreadable : (g : Layout) (s : List ℕ) → read_in big as_bytes g s ≡ None → read_in big ex g s ≡ None
  unfolding read_in
  unreadable done s h = h
  unreadable fail s h = h
  unreadable (field t k) s h = none-field t k s h (λ n x. unreadable (k n) x) _ refl _ refl (alike t s)

code-plain : is_expression (number (fixed 1)) ≡ false
unfolding is_expression
code-plain = refl

nothing-plain : is_expression nothing ≡ false
unfolding is_expression
nothing-plain = refl

-- ---- the token of an entry value: a length, and so many bytes

unfoldable pub EntryLaw : List ℕ → ReadOf → Groups → Type 0
EntryLaw s r t =
    (uleb s ≡ Some t) × (t.1 ≤ length t.2) × (suc t.0 ≤ length s) × (t.2 ≡ drop (suc t.0) s)
    × (r ≡ (record { seen = 0; start = suc t.0; pieces = verbatim (take (suc t.0) s) ∷ verbatim (take t.1 t.2) ∷ [] }, drop t.1 t.2))

pub entry-token : (big : Bool) (s : List ℕ) → All (λ r. (t : Groups) × EntryLaw s r t) (token_in big as_bytes expression s)
unfolding token_in as_expression as_bytes bind EntryLaw
entry-token big s =
    all-bind (LebLaw uleb s) _ (uleb s) _ (uleb-law s)
    (λ t q u. all-check _ _ _ (λ w. all-some (λ r. (t : Groups) × EntryLaw s r t) (t, (q, leb_yes w, u.0.0, u.0.1, refl))))

-- by any reader: the same length, and what that reader makes of the bytes
pub entry_read : (big : Bool) (ex : ExpressionReader) (s : List ℕ) (r : ReadOf) (t : Groups) → EntryLaw s r t
    → token_in big ex expression s ≡ bind (ex (take t.1 t.2)) (λ ps. Some (record { seen = 0; start = suc t.0; pieces = verbatim (take (suc t.0) s) ∷ ps }, drop t.1 t.2))
unfolding token_in as_expression EntryLaw
entry_read big ex s r t q = bind-at _ q.0 ∙ check-yes _ _ (yes_leb {a = t.1} {b = length t.2} q.1)

-- the tokens of row 19
entry_first : (e : Encoding) → token1 e 19 ≡ expression
unfolding rows row_of unreadable_row token_of number_as pick
entry_first e = refl

entry-second : (e : Encoding) → token2 e 19 ≡ nothing
unfolding rows row_of unreadable_row token_of number_as pick
entry-second e = refl

entry-third : (e : Encoding) → token3 e 19 ≡ nothing
unfolding rows row_of unreadable_row token_of number_as pick
entry-third e = refl

-- no bytes
nothing_read : (big : Bool) (s : List ℕ) → All (λ r. (r.0.pieces ≡ []) × (r.1 ≡ s)) (token_in big as_bytes nothing s)
unfolding token_in
nothing_read big s = all-some (λ (r : ReadOf). (r.0.pieces ≡ []) × (r.1 ≡ s)) (refl, refl)

module _ (e : Encoding) (x : List ℕ) (at : ℕ) (op : Operation) (h : OperationHeld e x at op) where
  abbrev big : Bool
  big = e.big_endian

  -- its own pieces
  abbrev pub own : List Piece
  own = all_pieces (h.c ∷ h.a ∷ h.b ∷ h.d ∷ [])

  row_is : op.row ≡ operation_row h.c.seen
  row_is = ap (λ (o : Operation). o.row) h.made

  names-of : (k : ℕ) (t : Token) (s : List ℕ) (r : Read) (y : List ℕ) → token_in big as_bytes t s ≡ Some (r, y) → Names big k t (r, y)
  names-of k t s r y q = all_of (Names big k t) (token-names big k t s) q

  pub own-names : names_in big at own ≡ names_of (reference_of op)
  unfolding all_pieces size token_names
  own-names =
      let n0 : Names big at (number (fixed 1)) (h.c, h.x1) = names-of at _ x h.c h.x1 h.code in
      let k1 : ℕ = at + size big h.c in
      let n1 : Names big k1 (token1 e (operation_row h.c.seen)) (h.a, h.x2) = names-of k1 _ h.x1 h.a h.x2 h.first in
      let k2 : ℕ = k1 + size big h.a in
      let n2 : Names big k2 (token2 e (operation_row h.c.seen)) (h.b, h.x3) = names-of k2 _ h.x2 h.b h.x3 h.second in
      let k3 : ℕ = k2 + size big h.b in
      let n3 : Names big k3 (token3 e (operation_row h.c.seen)) (h.d, h.rest) = names-of k3 _ h.x3 h.d h.rest h.third in
      names-append big at h.c.pieces _ ∙ ap (λ l. l ++ names_in big k1 (h.a.pieces ++ (h.b.pieces ++ (h.d.pieces ++ [])))) n0.0
      ∙ names-append big k1 h.a.pieces _
      ∙ ap₂ ◌++◌ n1.0 (names-append big k2 h.b.pieces _ ∙ ap₂ ◌++◌ n2.0 (ap (names_in big k3) (append-nil h.d.pieces) ∙ n3.0))
      ∙ row-names e (operation_row h.c.seen) (row_below h.c.seen) (field_of big k1 h.a) (field_of big k2 h.b) (field_of big k3 h.d) (made_of e at h.c h.a h.b h.d).next
      ∙ ap (λ (o : Operation). names_of (reference_of o)) (sym h.made)

  pub own-wide : Wide (reference_of op)
  own-wide =
      let k1 : ℕ = at + size big h.c in
      let k2 : ℕ = k1 + size big h.a in
      subst (λ (o : Operation). Wide (reference_of o)) (sym h.made)
      (row-wide e (operation_row h.c.seen) (row_below h.c.seen) (field_of big k1 h.a) (field_of big k2 h.b) (made_of e at h.c h.a h.b h.d).next
      (names-of k1 _ h.x1 h.a h.x2 h.first).2
      (names-of k2 _ h.x2 h.b h.x3 h.second).2)

  pub own-absolute : any_absolute own ≡ (eqb op.row 20 or eqb op.row 21)
  unfolding all_pieces token_absolute ◌or◌
  own-absolute =
      absolute-append h.c.pieces _ ∙ ap (λ b. b or any_absolute (h.a.pieces ++ (h.b.pieces ++ (h.d.pieces ++ [])))) (names-of at _ x h.c h.x1 h.code).1
      ∙ absolute-append h.a.pieces _
      ∙ ap₂ ◌or◌ (names-of at _ h.x1 h.a h.x2 h.first).1
      (absolute-append h.b.pieces _ ∙ ap₂ ◌or◌ (names-of at _ h.x2 h.b h.x3 h.second).1 (ap any_absolute (append-nil h.d.pieces) ∙ (names-of at _ h.x3 h.d h.rest h.third).1))
      ∙ row-absolute e (operation_row h.c.seen) (row_below h.c.seen)
      ∙ ap (λ l. eqb l 20 or eqb l 21) (sym row_is)

  pub own-size : length (bytes_of big own) ≡ span e x at op h
  unfolding all_pieces size
  own-size =
      let p : (ps qs : List Piece) → length (bytes_of big (ps ++ qs)) ≡ length (bytes_of big ps) + length (bytes_of big qs) = (λ ps qs. ap length (bytes-append big ps qs) ∙ length-append (bytes_of big ps) (bytes_of big qs)) in
      let a : length (bytes_of big (h.d.pieces ++ [])) ≡ length (bytes_of big h.d.pieces) = ap (λ ps. length (bytes_of big ps)) (append-nil h.d.pieces) in
      omega (arith, p h.c.pieces (h.a.pieces ++ (h.b.pieces ++ (h.d.pieces ++ []))), p h.a.pieces (h.b.pieces ++ (h.d.pieces ++ [])), p h.b.pieces (h.d.pieces ++ []), a)

  -- an operation that is no entry value
  pub deep-plain : T (not (eqb op.row 19)) → expression_in e x ≡ bind (expression_in e h.rest) (λ qs. Some (own ++ qs))
  unfolding and_rest
  deep-plain t =
      let q : (is_expression (token1 e (operation_row h.c.seen)) ≡ false) × (is_expression (token2 e (operation_row h.c.seen)) ≡ false) × (is_expression (token3 e (operation_row h.c.seen)) ≡ false)
      = row_plain e (operation_row h.c.seen) (row_below h.c.seen) (subst (λ l. T (not (eqb l 19))) row_is t) in
      expression-more e x (let l : 1 ≤ length x = (code_is e x at op h).0 in omega arith)
      ∙ bind-at _ (read-four e (expression_in e) x h.c h.a h.b h.d h.x1 h.x2 h.x3 h.rest
      (plain-token big (expression_in e) as_bytes (number (fixed 1)) x code-plain ∙ h.code)
      (plain-token big (expression_in e) as_bytes _ h.x1 q.0 ∙ h.first)
      (plain-token big (expression_in e) as_bytes _ h.x2 q.1 ∙ h.second)
      (plain-token big (expression_in e) as_bytes _ h.x3 q.2 ∙ h.third))

  module _ (t : T (eqb op.row 19)) where
    row-19 : operation_row h.c.seen ≡ 19
    row-19 = sym row_is ∙ eqb_yes {a = op.row} {b = 19} t

    pub entry-held : (g : Groups) × EntryLaw h.x1 (h.a, h.x2) g
    entry-held =
        all_of (λ r. (g : Groups) × EntryLaw h.x1 r g) (entry-token big h.x1)
        (ap (λ k. token_in big as_bytes k h.x1) (sym (ap (token1 e) row-19 ∙ entry_first e)) ∙ h.first)

    second-nothing : (h.b.pieces ≡ []) × (h.x3 ≡ h.x2)
    second-nothing =
        all_of (λ r. (r.0.pieces ≡ []) × (r.1 ≡ h.x2)) (nothing_read big h.x2)
        (ap (λ k. token_in big as_bytes k h.x2) (sym (ap (token2 e) row-19 ∙ entry-second e)) ∙ h.second)

    third-nothing : (h.d.pieces ≡ []) × (h.rest ≡ h.x3)
    third-nothing =
        all_of (λ r. (r.0.pieces ≡ []) × (r.1 ≡ h.x3)) (nothing_read big h.x3)
        (ap (λ k. token_in big as_bytes k h.x3) (sym (ap (token3 e) row-19 ∙ entry-third e)) ∙ h.third)

    -- its code and its length
    abbrev pub lead : List Piece
    lead = verbatim (take 1 x) ∷ verbatim (take (suc entry-held.0.0) h.x1) ∷ []

    abbrev pub inner : List ℕ
    inner = take entry-held.0.1 entry-held.0.2

    entry-some : (ps : List Piece) → expression_in e inner ≡ Some ps → expression_in e x ≡ bind (expression_in e h.rest) (λ qs. Some ((lead ++ ps) ++ qs))
    unfolding and_rest EntryLaw all_pieces
    entry-some ps q =
        let g : Groups = entry-held.0 in
        let a : Read = record { seen = 0; start = suc g.0; pieces = verbatim (take (suc g.0) h.x1) ∷ ps } in
        let two : h.x2 ≡ drop g.1 g.2 = ap (λ (r : ReadOf). r.1) entry-held.1.4 in
        let own_is : all_pieces (h.c ∷ a ∷ h.b ∷ h.d ∷ []) ≡ lead ++ ps =
        ap₂ (λ (u v : List Piece). u ++ (verbatim (take (suc g.0) h.x1) ∷ (ps ++ v))) (code_is e x at op h).1 (ap₂ (λ (u v : List Piece). u ++ (v ++ [])) second-nothing.0 third-nothing.0)
        ∙ ap (λ (l : List Piece). verbatim (take 1 x) ∷ verbatim (take (suc g.0) h.x1) ∷ l) (append-nil ps) in
        expression-more e x (let l : 1 ≤ length x = (code_is e x at op h).0 in omega arith)
        ∙ bind-at _ (read-four e (expression_in e) x h.c a h.b h.d h.x1 h.x2 h.x3 h.rest
        (plain-token big (expression_in e) as_bytes (number (fixed 1)) x code-plain ∙ h.code)
        (ap (λ k. token_in big (expression_in e) k h.x1) (ap (token1 e) row-19 ∙ entry_first e)
        ∙ entry_read big (expression_in e) h.x1 (h.a, h.x2) g entry-held.1 ∙ bind-at _ q ∙ ap (λ y. Some (a, y)) (sym two))
        (plain-token big (expression_in e) as_bytes _ h.x2 (ap is_expression (ap (token2 e) row-19 ∙ entry-second e) ∙ nothing-plain) ∙ h.second)
        (plain-token big (expression_in e) as_bytes _ h.x3 (ap is_expression (ap (token3 e) row-19 ∙ entry-third e) ∙ nothing-plain) ∙ h.third))
        ∙ ap (λ l. bind (expression_in e h.rest) (λ qs. Some (l ++ qs))) own_is

    entry-none : expression_in e inner ≡ None → expression_in e x ≡ None
    unfolding operation row_layout read_in
    entry-none q =
        let g : Groups = entry-held.0 in
        expression-more e x (let l : 1 ≤ length x = (code_is e x at op h).0 in omega arith)
        ∙ bind-none _ (bind-at _ (plain-token big (expression_in e) as_bytes (number (fixed 1)) x code-plain ∙ h.code)
        ∙ bind-none _ (bind-none _ (ap (λ k. token_in big (expression_in e) k h.x1) (ap (token1 e) row-19 ∙ entry_first e)
        ∙ entry_read big (expression_in e) h.x1 (h.a, h.x2) g entry-held.1 ∙ bind-none _ q)))

    deep-case : (o : Option (List Piece)) → expression_in e inner ≡ o → expression_in e x ≡ bind o (λ ps. bind (expression_in e h.rest) (λ qs. Some ((lead ++ ps) ++ qs)))
    unfolding bind
    deep-case None q = entry-none q
    deep-case (Some ps) q = entry-some ps q

    -- an entry value: its code and length, the expression that it holds, and then the rest
    pub deep-entry : expression_in e x ≡ bind (expression_in e inner) (λ ps. bind (expression_in e h.rest) (λ qs. Some ((lead ++ ps) ++ qs)))
    deep-entry = deep-case _ refl

    pub lead-names : (k : ℕ) → names_in big k lead ≡ []
    unfolding names_in name_in
    lead-names k = refl

    pub lead-absolute : any_absolute lead ≡ false
    unfolding any_absolute is_absolute ◌or◌
    lead-absolute = refl

    first-wide : (h.a.start ≡ suc entry-held.0.0) × (size big h.a ≡ suc entry-held.0.0 + length inner) × (length inner ≡ entry-held.0.1)
    unfolding EntryLaw size bytes_of piece_bytes
    first-wide =
        let g : Groups = entry-held.0 in
        let u : suc g.0 ≤ length h.x1 = entry-held.1.2 in
        let v : g.1 ≤ length g.2 = entry-held.1.1 in
        let one : length (take (suc g.0) h.x1 ++ (inner ++ [])) ≡ suc g.0 + length inner =
        omega (arith, length-append (take (suc g.0) h.x1) (inner ++ []), length-append inner [], length-take-le (suc g.0) h.x1 u) in (
          ap (λ (r : ReadOf). r.0.start) entry-held.1.4,
          ap (λ (r : ReadOf). length (bytes_of big r.0.pieces)) entry-held.1.4 ∙ one,
          length-take-le g.1 g.2 v,
        )

    pub lead-size : at + length (bytes_of big lead) ≡ op.first.start
    unfolding EntryLaw bytes_of piece_bytes
    lead-size =
        let g : Groups = entry-held.0 in
        let u : suc g.0 ≤ length h.x1 = entry-held.1.2 in
        let l : 1 ≤ length x = (code_is e x at op h).0 in
        let s : op.first.start ≡ at + 1 + h.a.start = starts e x at op h in
        let w : h.a.start ≡ suc g.0 = first-wide.0 in
        omega (arith, length-append (take 1 x) (take (suc g.0) h.x1 ++ []), length-append (take (suc g.0) h.x1) [], length-take-le 1 x l, length-take-le (suc g.0) h.x1 u)

    pub inner-size : length inner ≡ op.first.end - op.first.start
    inner-size =
        let s : op.first.start ≡ at + 1 + h.a.start = starts e x at op h in
        let n : op.first.end ≡ at + 1 + size big h.a = ends e x at op h in
        let w : h.a.start ≡ suc entry-held.0.0 = first-wide.0 in
        let v : size big h.a ≡ suc entry-held.0.0 + length inner = first-wide.1 in
        omega arith

    -- the expression is the operand's payload
    pub inner-is : inner ≡ take (op.first.end - op.first.start) (drop (op.first.start - at) x)
    unfolding EntryLaw
    inner-is =
        let g : Groups = entry-held.0 in
        let s : op.first.start ≡ at + 1 + h.a.start = starts e x at op h in
        let w : h.a.start ≡ suc g.0 = first-wide.0 in
        let c : size big h.c ≡ 1 = (code_is e x at op h).2 in
        let k : size big h.c + suc g.0 ≡ op.first.start - at = omega arith in
        let l : g.1 ≡ op.first.end - op.first.start = sym first-wide.2 ∙ inner-size in
        ap₂ (λ n y. take n y) l
        (entry-held.1.3 ∙ ap (drop (suc g.0)) (first-from e x at op h).1 ∙ drop-drop (suc g.0) (size big h.c) x ∙ ap (λ n. drop n x) k)

    pub inner-ends : op.first.end ≡ op.next.at
    unfolding size bytes_of
    inner-ends =
        let n : op.first.end ≡ at + 1 + size big h.a = ends e x at op h in
        let c : size big h.c ≡ 1 = (code_is e x at op h).2 in
        let p : op.next.at ≡ at + span e x at op h = past e x at op h in
        let b : size big h.b ≡ 0 = ap (λ ps. length (bytes_of big ps)) second-nothing.0 in
        let d : size big h.d ≡ 0 = ap (λ ps. length (bytes_of big ps)) third-nothing.0 in
        omega arith
