-- Every index that is read of an entry goes into one of the three lists: its kind is below 3. By the tables of forms and operations. Assumes nothing.
use mathlib.Core.Path.{◌≡◌, sym, subst}
use Prim.Native.Nat.{ℕ, zero, suc, ◌<◌}
use native.Mathlib.Omega.{arith}
use mathlib.Core.Bool.{Bool, true, false}
use mathlib.Core.List.{List, [], ◌∷◌, ◌++◌}
use Rattle.std.specs.Prelude.{None, Option, Some}
use Rattle.readers.specs.declared.abbreviations.Declaration.{Declaration}
use lib.ListN.{length, get_or, take}
use lib.Dec.{T, ltb, eqb, leb}
use mir.Facts.{ltb_yes}
use Rattle.readers.specs.Choice.{◌and◌}
use Rattle.readers.proofs.Choice.{pick-either, All, all-some, all_none, all_of, all-check, all-bind, all-triv, and_both}
use Rattle.readers.specs.Numbers.{uleb, sleb}
use Rattle.readers.specs.Layout.{Encoded, Role, reference, type_reference, sibling, index, absolute, Token, nothing, number, bounded, forms, signed, link, string, run, block, expression, unknown, Layout, done, fail, field, Piece, verbatim, patchable, Read, ReadOf, RunOf, ExpressionReader, string_in, forms_in, as_number, as_bounded, as_forms, as_signed, as_link, as_string, as_block, as_expression, copy, before, number_in, token_in, read_in}
use Rattle.readers.specs.Tokens.{Use, plain, as', number_as, token_of}
use Rattle.readers.specs.Forms.{use_of, form_token, value_token, attribute_layout}
use Rattle.readers.specs.Operations.{OperandRow, unreadable_row, rows, row_of, row_layout, operation_row, operation}
use Rattle.readers.specs.Expression.{all_pieces, and_rest, expression_within, expression_in}
use Rattle.readers.specs.Scan.{Scanned}
use Rattle.readers.specs.Abbreviations.{attributes_from}
use Rattle.readers.specs.Entries.{then, attributes_layout, specs_layout, found_layout, entry_layout}
use Rattle.readers.specs.declared.abbreviations.AttributeSpec.{AttributeSpec}
use Rattle.readers.specs.declared.cursor.Encoding.{Encoding}
use Rattle.marking.specs.Members.{Member, here, there}
use Rattle.marking.proofs.Members.{nothing-in}

-- ---- a role, a token, a layout

unfoldable listed : Role → Bool
listed reference = true
listed type_reference = true
listed sibling = true
listed (index k) = ltb k 3
listed absolute = true

unfoldable listed_use : Use → Bool
listed_use plain = true
listed_use (as' r) = listed r

unfoldable Listed : List Piece → Type 0
Listed [] = Unit {0}
Listed (verbatim l ∷ ps) = Listed ps
Listed (patchable e r v ∷ ps) = T (listed r) × Listed ps

unfoldable AllListed : List Read → Type 0
AllListed [] = Unit {0}
AllListed (r ∷ rs) = Listed r.pieces × AllListed rs

unfoldable TokenListed : Token → Type 0
TokenListed nothing = Unit {0}
TokenListed (number k) = Unit {0}
TokenListed (bounded n) = Unit {0}
TokenListed forms = Unit {0}
TokenListed signed = Unit {0}
TokenListed (link k r) = T (listed r)
TokenListed string = Unit {0}
TokenListed (run n) = Unit {0}
TokenListed (block k) = Unit {0}
TokenListed expression = Unit {0}
TokenListed unknown = Unit {0}

unfoldable LayoutListed : Layout → Type 0
LayoutListed done = Unit {0}
LayoutListed fail = Unit {0}
LayoutListed (field t g) = TokenListed t × ((n : ℕ) → LayoutListed (g n))

listed-append : (ps qs : List Piece) → Listed ps → Listed qs → Listed (ps ++ qs)
unfolding Listed
listed-append [] qs p q = q
listed-append (verbatim l ∷ ps) qs p q = listed-append ps qs p q
listed-append (patchable e r v ∷ ps) qs p q = (p.0, listed-append ps qs p.1 q)

all-pieces : (rs : List Read) → AllListed rs → Listed (all_pieces rs)
unfolding AllListed all_pieces Listed
all-pieces [] h = tt
all-pieces (r ∷ rs) h = listed-append r.pieces (all_pieces rs) h.0 (all-pieces rs h.1)

-- ---- what is read by such a layout

module _ (big : Bool) (ex : ExpressionReader) (inner : (s : List ℕ) → All Listed (ex s)) where
  abbrev One : ReadOf → Type 0
  One r = Listed r.0.pieces

  token-listed : (t : Token) → TokenListed t → (s : List ℕ) → All One (token_in big ex t s)
  unfolding token_in TokenListed Listed as_number as_bounded as_forms as_signed as_link as_string as_block as_expression copy
  token-listed nothing h s = all-some One tt
  token-listed (number k) h s = all-bind _ One (number_in big k s) _ (all-triv (number_in big k s)) (λ r q _. all-some One tt)
  token-listed (bounded n) h s = all-bind _ One (uleb s) _ (all-triv (uleb s)) (λ r q _. all-check One _ _ (λ u. all-some One tt))
  token-listed forms h s = all-bind _ One (forms_in s) _ (all-triv (forms_in s)) (λ r q _. all-some One tt)
  token-listed signed h s = all-bind _ One (sleb s) _ (all-triv (sleb s)) (λ r q _. all-some One tt)
  token-listed (link k role) h s = all-bind _ One (number_in big k s) _ (all-triv (number_in big k s)) (λ r q _. all-some One (h, tt))
  token-listed string h s = all-bind _ One (string_in s) _ (all-triv (string_in s)) (λ r q _. all-some One tt)
  token-listed (run n) h s = all-check One _ _ (λ u. all-some One tt)
  token-listed (block k) h s = all-bind _ One (number_in big k s) _ (all-triv (number_in big k s)) (λ r q _. all-check One _ _ (λ u. all-some One tt))
  token-listed expression h s =
      all-bind _ One (uleb s) _ (all-triv (uleb s))
      (λ t q _. all-check One _ _ (λ u. all-bind Listed One (ex (take t.1 t.2)) _ (inner (take t.1 t.2)) (λ ps p l. all-some One l)))
  token-listed unknown h s = all_none One

  abbrev Run : RunOf → Type 0
  Run r = AllListed r.0

  layout-listed : (g : Layout) → LayoutListed g → (s : List ℕ) → All Run (read_in big ex g s)
  unfolding read_in before LayoutListed AllListed
  layout-listed done h s = all-some Run tt
  layout-listed fail h s = all_none Run
  layout-listed (field t g) h s =
      all-bind One Run (token_in big ex t s) _ (token-listed t h.0 s)
      (λ r q l. all-bind Run Run (read_in big ex (g r.0.seen) r.1) _ (layout-listed (g r.0.seen) (h.1 r.0.seen) r.1) (λ z p m. all-some Run (l, m)))

-- ---- the tables

number-listed : (u : Use) (k : _) → T (listed_use u) → TokenListed (number_as u k)
unfolding number_as listed_use TokenListed
number-listed plain k h = tt
number-listed (as' r) k h = h

of-listed : (e : Encoding) (u : Use) → T (listed_use u) → (n : ℕ) → TokenListed (token_of e u n)
unfolding token_of TokenListed
of-listed e u h n =
    let P : Token → Type 0 = TokenListed in
    pick-either P (eqb n 0) nothing _ (λ _. tt)
    (λ _. pick-either P (leb n 8) _ _ (λ _. number-listed u _ h)
    (λ _. pick-either P (eqb n 9) _ _ (λ _. number-listed u _ h)
    (λ _. pick-either P (eqb n 10) _ _ (λ _. number-listed u _ h)
    (λ _. pick-either P (eqb n 11) _ _ (λ _. number-listed u _ h)
    (λ _. pick-either P (eqb n 12) signed _ (λ _. tt)
    (λ _. pick-either P (eqb n 13) string _ (λ _. tt)
    (λ _. pick-either P (eqb n 14) (run 16) _ (λ _. tt)
    (λ _. pick-either P (eqb n 15) (block _) _ (λ _. tt)
    (λ _. pick-either P (eqb n 16) (block _) _ (λ _. tt)
    (λ _. pick-either P (eqb n 17) (block _) _ (λ _. tt)
    (λ _. pick-either P (eqb n 18) (block _) _ (λ _. tt)
    (λ _. pick-either P (eqb n 19) expression _ (λ _. tt)
    (λ _. pick-either P (eqb n 20) (bounded 65535) unknown (λ _. tt) (λ _. tt))))))))))))))

use-listed : (name f : ℕ) → T (listed_use (use_of name f))
unfolding use_of listed_use listed
use-listed name f =
    let P : Use → Type 0 = (λ u. T (listed_use u)) in
    pick-either P (leb 0x11 f and leb f 0x15) _ _ (λ _. pick-either (λ (r : Role). T (listed r)) (eqb name 0x01) sibling reference (λ _. tt) (λ _. tt))
    (λ _. pick-either P (eqb f 0x10) _ _ (λ _. tt)
    (λ _. pick-either P (eqb f 0x23) _ _ (λ _. tt)
    (λ _. pick-either P (eqb f 0x22) _ _ (λ _. tt)
    (λ _. pick-either P _ (as' (index 2)) plain (λ _. tt) (λ _. tt)))))

unfoldable listed_rows : List OperandRow → Bool
listed_rows [] = true
listed_rows (r ∷ rs) = listed_use r.first_use and (listed_use r.second_use and listed_rows rs)

abbrev ListedRow : OperandRow → Type 0
ListedRow r = T (listed_use r.first_use) × T (listed_use r.second_use)

row_listed : (rs : List OperandRow) → T (listed_rows rs) → (l : ℕ) → ListedRow (get_or rs l unreadable_row)
unfolding listed_rows unreadable_row listed_use
row_listed [] h l = (tt, tt)
row_listed (r ∷ rs) h zero = let a = and_both _ _ h in (a.0, (and_both _ _ a.1).0)
row_listed (r ∷ rs) h (suc l) = row_listed rs (and_both _ _ (and_both _ _ h).1).1 l

rows-listed : T (listed_rows rows)
unfolding listed_rows rows unreadable_row listed_use listed ◌and◌
rows-listed = tt

module _ (e : Encoding) where
  operation-listed : LayoutListed (operation e)
  unfolding operation row_layout row_of LayoutListed TokenListed listed_use
  operation-listed = (
    tt,
    λ c.
        let p : ListedRow (row_of (operation_row c)) = row_listed rows rows-listed (operation_row c) in
        (of-listed e _ p.0 _, λ _. (of-listed e _ p.1 _, λ _. (of-listed e plain tt _, λ _. tt))),
  )

  within-listed : (f : ℕ) (s : List ℕ) → All Listed (expression_within e f s)
  unfolding expression_within and_rest Listed
  within-listed zero [] = all-some Listed tt
  within-listed zero (b ∷ s) = all_none Listed
  within-listed (suc f) [] = all-some Listed tt
  within-listed (suc f) (b ∷ s) =
      all-bind (λ (r : RunOf). AllListed r.0) Listed (read_in e.big_endian (expression_within e f) (operation e) (b ∷ s)) _
      (layout-listed e.big_endian (expression_within e f) (within-listed f) (operation e) operation-listed (b ∷ s))
      (λ r q h. all-bind Listed Listed (expression_within e f r.1) _ (within-listed f r.1) (λ qs p l. all-some Listed (listed-append (all_pieces r.0) qs (all-pieces r.0 h) l)))

  expression-listed : (s : List ℕ) → All Listed (expression_in e s)
  unfolding expression_in
  expression-listed s = within-listed (length s) s

  -- ---- entries

  value-listed : (indirect : Bool) (name f : ℕ) → TokenListed (value_token e indirect name f)
  unfolding value_token TokenListed
  value-listed indirect name f = pick-either TokenListed _ unknown (token_of e (use_of name f) (form_token f)) (λ _. tt) (λ _. of-listed e (use_of name f) (use-listed name f) (form_token f))

  attribute-listed : (name f : ℕ) → LayoutListed (attribute_layout e name f)
  unfolding attribute_layout LayoutListed TokenListed
  attribute-listed name f = pick-either LayoutListed (eqb f 0x16) _ _ (λ _. (tt, λ g. (value-listed true name g, λ _. tt))) (λ _. (value-listed false name f, λ _. tt))

  then-listed : (g h : Layout) → LayoutListed g → LayoutListed h → LayoutListed (then g h)
  unfolding then LayoutListed
  then-listed done h p q = q
  then-listed fail h p q = tt
  then-listed (field t k) h p q = (p.0, λ n. then-listed (k n) h (p.1 n) q)

  attributes-listed : (specs : List AttributeSpec) → LayoutListed (attributes_layout e specs)
  unfolding attributes_layout LayoutListed
  attributes-listed [] = tt
  attributes-listed (a ∷ rest) = then-listed (attribute_layout e a.name a.form) (attributes_layout e rest) (attribute-listed a.name a.form) (attributes-listed rest)

  specs-listed : (o : Option (Scanned AttributeSpec ℕ)) → LayoutListed (specs_layout e o)
  unfolding specs_layout LayoutListed
  specs-listed None = tt
  specs-listed (Some r) = attributes-listed r.0

  module _ (abbreviations : List ℕ) (look : ℕ → Option Declaration) where
    found-listed : (f : Option Declaration) → LayoutListed (found_layout e abbreviations look f)
    unfolding found_layout LayoutListed
    found-listed None = tt
    found-listed (Some d) = specs-listed (attributes_from abbreviations d.attributes.at)

    entry_listed : LayoutListed (entry_layout e abbreviations look)
    unfolding entry_layout LayoutListed TokenListed
    entry_listed = (tt, λ code. pick-either LayoutListed (eqb code 0) done _ (λ _. tt) (λ _. found-listed (look code)))

    -- ---- one index

    piece_kind : (ps : List Piece) → Listed ps → (c : Encoded) (k v : ℕ) → Member (patchable c (index k) v) ps → T (ltb k 3)
    unfolding Listed listed
    piece_kind [] h c k v m = absurd (nothing-in (patchable c (index k) v) m)
    piece_kind (verbatim l ∷ ps) h c k v (here q) = let z : ◌≡◌ {A = ℕ} 0 1 = cc in absurd (omega arith)
    piece_kind (verbatim l ∷ ps) h c k v (there m) = piece_kind ps h c k v m
    piece_kind (patchable d r n ∷ ps) h c k v (here q) = let z : index k ≡ r = cc in subst (λ (s : Role). T (listed s)) (sym z) h.0
    piece_kind (patchable d r n ∷ ps) h c k v (there m) = piece_kind ps h.1 c k v m

    read-kind : (rs : List Read) → AllListed rs → (r : Read) → Member r rs → (c : Encoded) (k v : ℕ) → Member (patchable c (index k) v) r.pieces → T (ltb k 3)
    unfolding AllListed
    read-kind [] h r i c k v m = absurd (nothing-in r i)
    read-kind (q ∷ rs) h r (here z) c k v m = piece_kind q.pieces h.0 c k v (subst (λ (y : Read). Member (patchable c (index k) v) y.pieces) z m)
    read-kind (q ∷ rs) h r (there i) c k v m = read-kind rs h.1 r i c k v m

    -- THE kind of an index of an entry
    pub index-kind : (s : List ℕ) (all : RunOf) → read_in e.big_endian (expression_in e) (entry_layout e abbreviations look) s ≡ Some all
        → (r : Read) → Member r all.0 → (c : Encoded) (k v : ℕ) → Member (patchable c (index k) v) r.pieces → k < 3
    index-kind s all q r i c k v m =
        ltb_yes {a = k} {b = 3}
        (read-kind all.0 (all_of (λ (z : RunOf). AllListed z.0) (layout-listed e.big_endian (expression_in e) expression-listed (entry_layout e abbreviations look) entry_listed s) q) r i c k v m)
