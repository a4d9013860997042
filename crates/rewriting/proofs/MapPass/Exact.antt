-- Of bytes, what was read is exactly what is written of it: the pieces of a reading are the bytes it took, every number in them fits its width, and its links have no other roles than the
-- layout's. Assumes nothing.
use mathlib.Core.Path.{◌≡◌, refl, ap, ap₂, sym, ◌∙◌, subst}
use Prim.Native.Nat.{ℕ, zero, suc, ◌^◌, ◌<◌}
use mathlib.Core.Bool.{Bool, true, false}
use mathlib.Core.List.{List, [], ◌∷◌, ◌++◌, append_assoc, append-nil}
use lib.ListN.{length, take, drop, get_or, take-append-drop}
use lib.Seq.{length-take-le}
use lib.Dec.{T, ltb}
use lib.Pow.{are_bytes}
use mir.Facts.{yes_ltb, ltb_yes, leb_yes, and_yes, yes_and}
use Rattle.readers.specs.Choice.{◌and◌}
use Rattle.readers.proofs.Choice.{pick-either, All, all-some, all_none, all-check, all-bind, all_both, all-triv, and_both}
use Rattle.readers.specs.Numbers.{Groups, groups, uleb, unsigned64, sleb, fixed_value, fixed_bytes}
use Rattle.readers.proofs.Numbers.{GroupsLaw, groups-law, ExactGroups, groups-exact, fixed-bytes}
use Rattle.readers.specs.Layout.{Kind, fixed, leb128, Role, reference, type_reference, sibling, index, absolute, Token, nothing, number, bounded, forms, signed, link, string, run, block, expression, unknown, Layout, done, fail, field, Piece, verbatim, patchable, Read, ReadOf, RunOf, ExpressionReader, ReadFound, as_leb, copy, as_number, as_link, as_bounded, as_forms, as_signed, as_string, as_block, as_expression, number_in, forms_in, string_in, token_in, read_in, before, number_bytes, piece_bytes, bytes_of, write_all, Fit}
use Rattle.readers.proofs.LayoutLaws.{LebLaw, uleb-law, bytes-append, fit-fixed, fit-leb}
use Rattle.readers.specs.Tokens.{Use, plain, as', number_as, token_of}
use Rattle.readers.specs.Operations.{OperandRow, rows, row_of, unreadable_row, row_layout, operation, operation_row}
use Rattle.readers.specs.Expression.{all_pieces, and_rest, expression_within, expression_in}
use Rattle.readers.proofs.Expression.{write-pieces}
use Rattle.readers.specs.declared.cursor.Encoding.{Encoding}
use Rattle.readers.proofs.Lebs.{Bytes}

-- ---- bytes

-- a slice's numbers are bytes
pub are-bytes : (s : List ℕ) → Bytes s → T (are_bytes s)
are-bytes [] h = tt
are-bytes (b ∷ s) h = yes_and (ltb b 256) (are_bytes s) (yes_ltb (h 0).fits) (are-bytes s (λ i. h (suc i)))

pub are-left : (a b : List ℕ) → T (are_bytes (a ++ b)) → T (are_bytes a)
are-left [] b h = tt
are-left (x ∷ a) b h = let p : T (ltb x 256) × T (are_bytes (a ++ b)) = and_yes (ltb x 256) (are_bytes (a ++ b)) h in yes_and (ltb x 256) (are_bytes a) p.0 (are-left a b p.1)

pub are-right : (a b : List ℕ) → T (are_bytes (a ++ b)) → T (are_bytes b)
are-right [] b h = h
are-right (x ∷ a) b h = are-right a b (and_yes (ltb x 256) (are_bytes (a ++ b)) h).1

pub are-take : (n : ℕ) (s : List ℕ) → T (are_bytes s) → T (are_bytes (take n s))
are-take n s h = are-left (take n s) (drop n s) (subst (λ x. T (are_bytes x)) (sym (take-append-drop n s)) h)

pub are-drop : (n : ℕ) (s : List ℕ) → T (are_bytes s) → T (are_bytes (drop n s))
are-drop n s h = are-right (take n s) (drop n s) (subst (λ x. T (are_bytes x)) (sym (take-append-drop n s)) h)

-- ---- roles

unfoldable pub use_ok : (Role → Bool) → Use → Bool
use_ok ok plain = true
use_ok ok (as' r) = ok r

unfoldable pub token_ok : (Role → Bool) → Token → Bool
token_ok ok nothing = true
token_ok ok (number k) = true
token_ok ok (bounded n) = true
token_ok ok forms = true
token_ok ok signed = true
token_ok ok (link k r) = ok r
token_ok ok string = true
token_ok ok (run n) = true
token_ok ok (block k) = true
token_ok ok expression = true
token_ok ok unknown = true

unfoldable pub LayoutOk : (Role → Bool) → Layout → Type 0
LayoutOk ok done = Unit {0}
LayoutOk ok fail = Unit {0}
LayoutOk ok (field t k) = T (token_ok ok t) × ((n : ℕ) → LayoutOk ok (k n))

unfoldable pub Right : (Role → Bool) → Piece → Type 0
Right ok (verbatim l) = Unit {0}
Right ok (patchable e r v) = Fit e v × T (ok r)

unfoldable pub Rights : (Role → Bool) → List Piece → Type 0
Rights ok [] = Unit {0}
Rights ok (p ∷ ps) = Right ok p × Rights ok ps

unfoldable pub AllRights : (Role → Bool) → List Read → Type 0
AllRights ok [] = Unit {0}
AllRights ok (r ∷ rs) = Rights ok r.pieces × AllRights ok rs

pub rights-append : (ok : Role → Bool) (ps qs : List Piece) → Rights ok ps → Rights ok qs → Rights ok (ps ++ qs)
unfolding Rights
rights-append ok [] qs a b = b
rights-append ok (p ∷ ps) qs a b = (a.0, rights-append ok ps qs a.1 b)

rights-pieces : (ok : Role → Bool) (rs : List Read) → AllRights ok rs → Rights ok (all_pieces rs)
unfolding AllRights all_pieces Rights
rights-pieces ok [] a = tt
rights-pieces ok (r ∷ rs) a = rights-append ok r.pieces (all_pieces rs) a.0 (rights-pieces ok rs a.1)

module _ (big : Bool) (ok : Role → Bool) where
  abbrev pub Exactly : List ℕ → List Piece → Type 0
  Exactly s ps = (bytes_of big ps ≡ s) × Rights ok ps

  abbrev pub ExactReader : ExpressionReader → Type 0
  ExactReader ex = (s : List ℕ) → T (are_bytes s) → All (Exactly s) (ex s)

  abbrev pub TokenExact : List ℕ → ReadOf → Type 0
  TokenExact s r = (bytes_of big r.0.pieces ++ r.1 ≡ s) × Rights ok r.0.pieces

  abbrev pub RunExact : List ℕ → RunOf → Type 0
  RunExact s r = (write_all big r.0 ++ r.1 ≡ s) × AllRights ok r.0

  -- ---- numbers

  abbrev NumberExact : List ℕ → ReadFound → Type 0
  NumberExact s t = (number_bytes big t.0 t.1 ++ t.2 ≡ s) × Fit t.0 t.1

  pub number-exact : (k : Kind) (s : List ℕ) → T (are_bytes s) → All (NumberExact s) (number_in big k s)
  unfolding number_in number_bytes uleb unsigned64 as_leb
  number-exact (fixed w) s h =
      all-check _ _ _ (λ u8. all-check _ _ _ (λ u.
      let l : length (take w s) ≡ w = length-take-le w s (leb_yes u) in
      let f : (fixed_bytes big (length (take w s)) (fixed_value big (take w s)) ≡ take w s) × (fixed_value big (take w s) < 256 ^ length (take w s)) = fixed-bytes big (take w s) (are-take w s h) in
      all-some (NumberExact s) (
        ap (λ x. x ++ drop w s) (ap (λ n. fixed_bytes big n (fixed_value big (take w s))) (sym l) ∙ f.0) ∙ take-append-drop w s,
        fit-fixed w _ (leb_yes u8) (subst (λ n. fixed_value big (take w s) < 256 ^ n) l f.1),
      )))
  number-exact leb128 s h =
      all-bind (λ t. (GroupsLaw 10 s t × ExactGroups s t) × (t.1 < 2 ^ 64)) _ (uleb s) _
      (all-bind (λ t. GroupsLaw 10 s t × ExactGroups s t) _ (groups 10 s) _ (all_both _ _ _ (groups-law 10 s) (groups-exact 10 s h))
      (λ a e q. all-check _ _ _ (λ u. all-some _ (q, ltb_yes u))))
      (λ a e q. all-some (NumberExact s) (sym q.0.1.0, fit-leb _ _ q.0.0.0 q.0.1.1 q.1))

  -- ---- tokens

  copy-exact : (v k n : ℕ) (s : List ℕ) → TokenExact s (copy v k n s)
  unfolding copy bytes_of piece_bytes Rights Right
  copy-exact v k n s = (ap (λ x. x ++ drop n s) (append-nil (take n s)) ∙ take-append-drop n s, (tt, tt))

  nothing-exact : (s : List ℕ) → TokenExact s (record { seen = 0; start = 0; pieces = [] }, s)
  unfolding bytes_of Rights
  nothing-exact s = (refl, tt)

  link-exact : (role : Role) (s : List ℕ) (t : ReadFound) → T (ok role) → NumberExact s t → TokenExact s (record { seen = 0; start = 0; pieces = patchable t.0 role t.1 ∷ [] }, t.2)
  unfolding bytes_of piece_bytes Rights Right
  link-exact role s t o q = (ap (λ x. x ++ t.2) (append-nil (number_bytes big t.0 t.1)) ∙ q.0, ((q.1, o), tt))

  expression-exact : (s : List ℕ) (t : Groups) → LebLaw uleb s t → (ps : List Piece) → Exactly (take t.1 t.2) ps
      → TokenExact s (record { seen = 0; start = suc t.0; pieces = verbatim (take (suc t.0) s) ∷ ps }, drop t.1 t.2)
  unfolding bytes_of piece_bytes Rights Right
  expression-exact s t q ps p =
      let a : List ℕ = take (suc t.0) s in (
        append_assoc a (bytes_of big ps) (drop t.1 t.2)
            ∙ ap (λ x. a ++ (x ++ drop t.1 t.2)) p.0
            ∙ ap (λ x. a ++ x) (take-append-drop t.1 t.2 ∙ q.0.1)
            ∙ take-append-drop (suc t.0) s,
        (tt, p.1),
      )

  module _ (ex : ExpressionReader) (law : ExactReader ex) where
    pub token-exact : (t : Token) → T (token_ok ok t) → (s : List ℕ) → T (are_bytes s) → All (TokenExact s) (token_in big ex t s)
    unfolding token_ok token_in as_number as_bounded as_forms as_signed as_link as_string as_block as_expression
    token-exact nothing o s h = all-some (TokenExact s) (nothing-exact s)
    token-exact (number k) o s h = all-bind (λ _. Unit {0}) _ (number_in big k s) _ (all-triv _) (λ r e q. all-some (TokenExact s) (copy-exact _ _ _ s))
    token-exact (bounded n) o s h = all-bind (λ _. Unit {0}) _ (uleb s) _ (all-triv _) (λ r e q. all-check _ _ _ (λ u. all-some (TokenExact s) (copy-exact _ _ _ s)))
    token-exact forms o s h = all-bind (λ _. Unit {0}) _ (forms_in s) _ (all-triv _) (λ r e q. all-some (TokenExact s) (copy-exact _ _ _ s))
    token-exact signed o s h = all-bind (λ _. Unit {0}) _ (sleb s) _ (all-triv _) (λ r e q. all-some (TokenExact s) (copy-exact _ _ _ s))
    token-exact (link k role) o s h = all-bind (NumberExact s) _ (number_in big k s) _ (number-exact k s h) (λ t e q. all-some (TokenExact s) (link-exact role s t o q))
    token-exact string o s h = all-bind (λ _. Unit {0}) _ (string_in s) _ (all-triv _) (λ r e q. all-some (TokenExact s) (copy-exact _ _ _ s))
    token-exact (run n) o s h = all-check _ _ _ (λ u. all-some (TokenExact s) (copy-exact _ _ _ s))
    token-exact (block k) o s h = all-bind (λ _. Unit {0}) _ (number_in big k s) _ (all-triv _) (λ r e q. all-check _ _ _ (λ u. all-some (TokenExact s) (copy-exact _ _ _ s)))
    token-exact expression o s h =
        all-bind (LebLaw uleb s) _ (uleb s) _ (uleb-law s)
        (λ t e q. all-check _ _ _ (λ u.
        all-bind (Exactly (take t.1 t.2)) _ (ex (take t.1 t.2)) _
        (law (take t.1 t.2) (are-take t.1 t.2 (subst (λ x. T (are_bytes x)) (sym q.0.1) (are-drop (suc t.0) s h))))
        (λ ps e' p. all-some (TokenExact s) (expression-exact s t q ps p))))
    token-exact unknown o s h = all_none _

    pub read-exact : (g : Layout) → LayoutOk ok g → (s : List ℕ) → T (are_bytes s) → All (RunExact s) (read_in big ex g s)
    unfolding read_in LayoutOk write_all before AllRights
    read-exact done o s h = all-some (RunExact s) (refl, tt)
    read-exact fail o s h = all_none _
    read-exact (field t k) o s h =
        all-bind (TokenExact s) _ (token_in big ex t s) _ (token-exact t o.0 s h)
        (λ r e q.
        all-bind (RunExact r.1) _ (read_in big ex (k r.0.seen) r.1) _
        (read-exact (k r.0.seen) (o.1 r.0.seen) r.1 (are-right (bytes_of big r.0.pieces) r.1 (subst (λ x. T (are_bytes x)) (sym q.0) h)))
        (λ r' e' q'. all-some (RunExact s) (
          append_assoc (bytes_of big r.0.pieces) (write_all big r'.0) r'.1 ∙ ap (λ x. bytes_of big r.0.pieces ++ x) q'.0 ∙ q.0,
          (q.1, q'.1),
        )))

-- ---- layouts

module _ (ok : Role → Bool) (e : Encoding) where
  number_ok : (u : Use) (k : Kind) → T (use_ok ok u) → T (token_ok ok (number_as u k))
  unfolding use_ok token_ok number_as
  number_ok plain k h = tt
  number_ok (as' r) k h = h

  pub token-ok : (u : Use) (t : ℕ) → T (use_ok ok u) → T (token_ok ok (token_of e u t))
  unfolding token_of token_ok
  token-ok u t h =
      pick-either (λ x. T (token_ok ok x)) _ _ _ (λ _. tt) (λ _.
      pick-either (λ x. T (token_ok ok x)) _ _ _ (λ _. number_ok u _ h) (λ _.
      pick-either (λ x. T (token_ok ok x)) _ _ _ (λ _. number_ok u _ h) (λ _.
      pick-either (λ x. T (token_ok ok x)) _ _ _ (λ _. number_ok u _ h) (λ _.
      pick-either (λ x. T (token_ok ok x)) _ _ _ (λ _. number_ok u _ h) (λ _.
      pick-either (λ x. T (token_ok ok x)) _ _ _ (λ _. tt) (λ _.
      pick-either (λ x. T (token_ok ok x)) _ _ _ (λ _. tt) (λ _.
      pick-either (λ x. T (token_ok ok x)) _ _ _ (λ _. tt) (λ _.
      pick-either (λ x. T (token_ok ok x)) _ _ _ (λ _. tt) (λ _.
      pick-either (λ x. T (token_ok ok x)) _ _ _ (λ _. tt) (λ _.
      pick-either (λ x. T (token_ok ok x)) _ _ _ (λ _. tt) (λ _.
      pick-either (λ x. T (token_ok ok x)) _ _ _ (λ _. tt) (λ _.
      pick-either (λ x. T (token_ok ok x)) _ _ _ (λ _. tt) (λ _.
      pick-either (λ x. T (token_ok ok x)) _ _ _ (λ _. tt) (λ _. tt))))))))))))))

  unfoldable rows_ok : List OperandRow → Bool
  rows_ok [] = true
  rows_ok (r ∷ rs) = use_ok ok r.first_use and (use_ok ok r.second_use and rows_ok rs)

  row-among : (rs : List OperandRow) (l : ℕ) → T (rows_ok rs) → T (use_ok ok (get_or rs l unreadable_row).first_use) × T (use_ok ok (get_or rs l unreadable_row).second_use)
  unfolding rows_ok unreadable_row use_ok
  row-among [] l h = (tt, tt)
  row-among (r ∷ rs) zero h = let p = and_both (use_ok ok r.first_use) (use_ok ok r.second_use and rows_ok rs) h in (p.0, (and_both (use_ok ok r.second_use) (rows_ok rs) p.1).0)
  row-among (r ∷ rs) (suc l) h =
      let p = and_both (use_ok ok r.first_use) (use_ok ok r.second_use and rows_ok rs) h in row-among rs l (and_both (use_ok ok r.second_use) (rows_ok rs) p.1).1

  row_ok : (r : OperandRow) → T (use_ok ok r.first_use) → T (use_ok ok r.second_use) → LayoutOk ok (row_layout e r)
  unfolding LayoutOk row_layout use_ok
  row_ok r a b = (token-ok r.first_use r.first a, λ _. (token-ok r.second_use r.second b, λ _. (token-ok plain r.third tt, λ _. tt)))

  operation-ok : T (rows_ok rows) → LayoutOk ok (operation e)
  unfolding LayoutOk operation token_ok row_of
  operation-ok h = (tt, λ c. row_ok (row_of (operation_row c)) (row-among rows (operation_row c) h).0 (row-among rows (operation_row c) h).1)

-- the roles that an expression has
unfoldable pub in_expression : Role → Bool
in_expression reference = true
in_expression type_reference = true
in_expression sibling = false
in_expression (index k) = false
in_expression absolute = true

module _ (e : Encoding) where
  rows-plain : T (rows_ok in_expression e rows)
  unfolding rows_ok rows use_ok in_expression unreadable_row ◌and◌
  rows-plain = tt

  within-exact : (f : ℕ) → ExactReader e.big_endian in_expression (expression_within e f)
  unfolding expression_within and_rest bytes_of Rights
  within-exact zero [] h = all-some (Exactly e.big_endian in_expression []) (refl, tt)
  within-exact zero (b ∷ s) h = all_none _
  within-exact (suc f) [] h = all-some (Exactly e.big_endian in_expression []) (refl, tt)
  within-exact (suc f) (b ∷ s) h =
      all-bind (RunExact e.big_endian in_expression (b ∷ s)) _ (read_in e.big_endian (expression_within e f) (operation e) (b ∷ s)) _
      (read-exact e.big_endian in_expression (expression_within e f) (within-exact f) (operation e) (operation-ok in_expression e rows-plain) (b ∷ s) h)
      (λ r x q.
      all-bind (Exactly e.big_endian in_expression r.1) _ (expression_within e f r.1) _
      (within-exact f r.1 (are-right (write_all e.big_endian r.0) r.1 (subst (λ y. T (are_bytes y)) (sym q.0) h)))
      (λ qs x' q'. all-some (Exactly e.big_endian in_expression (b ∷ s)) (
        bytes-append e.big_endian (all_pieces r.0) qs ∙ ap₂ (λ (y z : List ℕ). y ++ z) (write-pieces e.big_endian r.0) q'.0 ∙ q.0,
        rights-append in_expression (all_pieces r.0) qs (rights-pieces in_expression r.0 q.1) q'.1,
      )))

  -- THE LAW of expressions: what was read of bytes is what is written of it, its numbers fit, its roles are those of expressions
  pub expression-exactly : ExactReader e.big_endian in_expression (expression_in e)
  unfolding expression_in
  expression-exactly s h = within-exact (length s) s h
