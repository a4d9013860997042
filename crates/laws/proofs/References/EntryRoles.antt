-- The numbers of a role in an entry that can be read deep are those of its attributes with that use, where no operation has
-- the role: siblings. Assumes nothing.
use mathlib.Core.Path.{◌≡◌, refl, ap, ap₂, sym, ◌∙◌, subst}
use Prim.Native.Nat.{ℕ, zero, suc, ◌≤◌}
use native.Mathlib.Omega.{arith}
use mathlib.Core.Bool.{Bool, true, false, not}
use mathlib.Core.List.{List, [], ◌∷◌, ◌++◌, append_assoc, append-nil}
use Rattle.std.specs.Prelude.{Option, Some}
use Rattle.readers.specs.declared.abbreviations.Declaration.{Declaration}
use Rattle.readers.specs.declared.entries.Step.{Step}
use mathlib.Core.Logic.{⊎_elim, ◌↔◌}
use lib.ListN.{length, get_or, take, drop}
use lib.Dec.{T, eqb, leb}
use mir.Facts.{leb_yes, eqb_yes, eqb_no, no_eqb}
use Rattle.readers.specs.Choice.{pick, ◌and◌, ◌or◌, bind}
use Rattle.readers.proofs.Choice.{pick_yes, pick_no, pick-either, either, bind-at, check-yes, All, all-some, all_none, all_of, all-bind, all-check, all_map, all-triv, and_both}
use Rattle.readers.specs.Numbers.{uleb, sleb}
use Rattle.readers.specs.Layout.{Encoded, Kind, leb128, Role, reference, type_reference, sibling, index, absolute, Token, nothing, number, bounded, forms, signed, link, string, run, block, expression, unknown, Layout, done, fail, field, Piece, verbatim, patchable, Read, ReadOf, RunOf, ExpressionReader, as_bytes, copy, as_number, as_bounded, as_forms, as_signed, as_link, as_string, as_block, as_expression, number_in, forms_in, string_in, token_in, read_in, before}
use Rattle.readers.specs.Expression.{all_pieces, and_rest, expression_within, expression_in}
use Rattle.readers.specs.Operations.{OperandRow, unreadable_row, rows, row_of, row_layout, operation_row, operation}
use Rattle.readers.specs.Tokens.{Use, plain, as', number_as, token_of}
use Rattle.readers.specs.Forms.{form_tokens, token_among, form_token, use_of, value_token}
use Rattle.readers.specs.Fields.{linked_value, field_of}
use Rattle.readers.specs.Entries.{entry_layout, step_at}
use Rattle.readers.specs.declared.cursor.Encoding.{Encoding}
use Rattle.readers.specs.declared.attributes.Attribute.{Attribute}
use Rattle.readers.specs.EntryAttributes.{Valued}
use Rattle.marking.specs.Members.{Member, here, there}
use Rattle.marking.proofs.Members.{nothing-in, in_left, in_right, in_either}
use Rattle.laws.specs.SameRoles.{RoleRead}
use Rattle.laws.proofs.References.NamedPieces.{only}
use Rattle.rewriting.proofs.KeptPass.EntryReads.{TokenRead, StepBy, deep-by}
use Rattle.rewriting.proofs.KeptPass.FormTokens.{all_known}

-- ---- uses

-- whether a use is one that operands of operations have: no sibling, no index
unfoldable operand_use : Use → Bool
operand_use plain = true
operand_use (as' reference) = true
operand_use (as' type_reference) = true
operand_use (as' sibling) = false
operand_use (as' (index k)) = false
operand_use (as' absolute) = true

no-and : (a b : Bool) → (T a → T b → ⊥) → T (not (a and b))
unfolding ◌and◌
no-and true true h = h tt tt
no-and true false h = tt
no-and false b h = tt

no_or : (a b c : Bool) → T (not a) → T (not b) → T (not c) → T (not (a or b or c))
unfolding ◌or◌
no_or true b c h k m = absurd h
no_or false true c h k m = absurd k
no_or false false true h k m = absurd m
no_or false false false h k m = tt

above : (n f : ℕ) → n ≤ f → (f ≡ n → ⊥) → suc n ≤ f
above n f l h = omega arith

-- ref1 to ref8 and ref_udata, strx1 to strx4, one by one
no-reference-form : (f : ℕ) → (f ≡ 0x11 → ⊥) → (f ≡ 0x12 → ⊥) → (f ≡ 0x13 → ⊥) → (f ≡ 0x14 → ⊥) → (f ≡ 0x15 → ⊥) → 0x11 ≤ f → f ≤ 0x15 → ⊥
no-reference-form f a b c d e l h =
    let z : 0x16 ≤ f = above 0x15 f (above 0x14 f (above 0x13 f (above 0x12 f (above 0x11 f l a) b) c) d) e in below f z h
  where
    below : (f : ℕ) → 0x16 ≤ f → f ≤ 0x15 → ⊥
    below f l h = omega arith

no-string-form : (f : ℕ) → (f ≡ 0x25 → ⊥) → (f ≡ 0x26 → ⊥) → (f ≡ 0x27 → ⊥) → (f ≡ 0x28 → ⊥) → 0x25 ≤ f → f ≤ 0x28 → ⊥
no-string-form f a b c d l h =
    let z : 0x29 ≤ f = above 0x28 f (above 0x27 f (above 0x26 f (above 0x25 f l a) b) c) d in below f z h
  where
    below : (f : ℕ) → 0x29 ≤ f → f ≤ 0x28 → ⊥
    below f l h = omega arith

-- a role that is sought, by a test for it
module _ (sought : Role → Bool) (no_reference : sought reference ≡ false) (no-type : sought type_reference ≡ false) (no-absolute : sought absolute ≡ false) where
  unfoldable pub role_sought : Role → ℕ → List ℕ
  role_sought r v = pick (sought r) (v ∷ []) []

  unfoldable pub piece_sought : Piece → List ℕ
  piece_sought (verbatim l) = []
  piece_sought (patchable e r v) = role_sought r v

  unfoldable pub pieces_sought : List Piece → List ℕ
  pieces_sought [] = []
  pieces_sought (p ∷ ps) = piece_sought p ++ pieces_sought ps

  unfoldable pub reads_sought : List Read → List ℕ
  reads_sought [] = []
  reads_sought (r ∷ rs) = pieces_sought r.pieces ++ reads_sought rs

  -- by its use
  unfoldable pub use_sought : Use → Bool
  use_sought plain = false
  use_sought (as' r) = sought r

  unfoldable pub own_sought : ℕ → Attribute → List ℕ
  own_sought name v = pick (use_sought (use_of name v.form)) (v.field.value ∷ []) []

  unfoldable pub values_sought : List Valued → List ℕ
  values_sought [] = []
  values_sought (a ∷ rest) = own_sought a.name a.value ++ values_sought rest

  in-append : (ps qs : List Piece) → pieces_sought (ps ++ qs) ≡ pieces_sought ps ++ pieces_sought qs
  unfolding pieces_sought
  in-append [] qs = refl
  in-append (p ∷ ps) qs = ap (λ (l : List ℕ). piece_sought p ++ l) (in-append ps qs) ∙ sym (append_assoc (piece_sought p) (pieces_sought ps) (pieces_sought qs))

  read-append : (rs qs : List Read) → reads_sought (rs ++ qs) ≡ reads_sought rs ++ reads_sought qs
  unfolding reads_sought
  read-append [] qs = refl
  read-append (r ∷ rs) qs =
      ap (λ (l : List ℕ). pieces_sought r.pieces ++ l) (read-append rs qs) ∙ sym (append_assoc (pieces_sought r.pieces) (reads_sought rs) (reads_sought qs))

  in_pieces : (rs : List Read) → pieces_sought (all_pieces rs) ≡ reads_sought rs
  unfolding all_pieces pieces_sought reads_sought
  in_pieces [] = refl
  in_pieces (r ∷ rs) = in-append r.pieces (all_pieces rs) ∙ ap (λ (l : List ℕ). pieces_sought r.pieces ++ l) (in_pieces rs)

  -- ---- the numbers that a token with a value is

  unfoldable token_sought : Token → ℕ → List ℕ
  token_sought nothing v = []
  token_sought (number w) v = []
  token_sought (bounded n) v = []
  token_sought forms v = []
  token_sought signed v = []
  token_sought (link w r) v = role_sought r v
  token_sought string v = []
  token_sought (run n) v = []
  token_sought (block w) v = []
  token_sought expression v = []
  token_sought unknown v = []

  abbrev NoneSought : ExpressionReader → Type 0
  NoneSought ex = (s : List ℕ) → All (λ (ps : List Piece). pieces_sought ps ≡ []) (ex s)

  module _ (big : Bool) (ex : ExpressionReader) where
    -- a token that was read: read as bytes too, and what is sought of it by its value
    record SoughtToken (t : Token) (s : List ℕ) (r : ReadOf) : Type 0 where
      pub it : Read
      pub is : token_in big as_bytes t s ≡ Some (it, r.1)
      pub alike : r.0.seen ≡ it.seen
      pub numbers : pieces_sought r.0.pieces ≡ token_sought t (linked_value it.pieces it.seen)

    link-sought : (e : _) (r : Role) (v : ℕ) → pieces_sought (patchable e r v ∷ []) ≡ role_sought r v
    unfolding pieces_sought piece_sought
    link-sought e r v = append-nil _

    module _ (none-sought : NoneSought ex) where
      token-sought : (t : Token) (s : List ℕ) → All (SoughtToken t s) (token_in big ex t s)
      unfolding token_in token_sought pieces_sought piece_sought as_number as_bounded as_forms as_signed as_link as_string as_block as_expression as_bytes copy linked_value bind
      token-sought nothing s = all-some (SoughtToken nothing s) (record { it = _; is = refl; alike = refl; numbers = refl })
      token-sought (number w) s =
          all-bind _ _ (number_in big w s) _ (all-triv (number_in big w s))
          (λ r q _. all-some (SoughtToken (number w) s) (record { it = _; is = bind-at _ q; alike = refl; numbers = refl }))
      token-sought (bounded n) s =
          all-bind _ _ (uleb s) _ (all-triv (uleb s))
          (λ r q _. all-check _ _ _ (λ u. all-some (SoughtToken (bounded n) s) (record { it = _; is = bind-at _ q ∙ check-yes _ _ u; alike = refl; numbers = refl })))
      token-sought forms s =
          all-bind _ _ (forms_in s) _ (all-triv (forms_in s))
          (λ r q _. all-some (SoughtToken forms s) (record { it = _; is = bind-at _ q; alike = refl; numbers = refl }))
      token-sought signed s =
          all-bind _ _ (sleb s) _ (all-triv (sleb s))
          (λ r q _. all-some (SoughtToken signed s) (record { it = _; is = bind-at _ q; alike = refl; numbers = refl }))
      token-sought (link w role) s =
          all-bind _ _ (number_in big w s) _ (all-triv (number_in big w s))
          (λ r q _. all-some (SoughtToken (link w role) s) (record { it = _; is = bind-at _ q; alike = refl; numbers = link-sought r.0 role r.1 }))
      token-sought string s =
          all-bind _ _ (string_in s) _ (all-triv (string_in s))
          (λ r q _. all-some (SoughtToken string s) (record { it = _; is = bind-at _ q; alike = refl; numbers = refl }))
      token-sought (run n) s = all-check _ _ _ (λ u. all-some (SoughtToken (run n) s) (record { it = _; is = check-yes _ _ u; alike = refl; numbers = refl }))
      token-sought (block w) s =
          all-bind _ _ (number_in big w s) _ (all-triv (number_in big w s))
          (λ r q _. all-check _ _ _ (λ u. all-some (SoughtToken (block w) s) (record { it = _; is = bind-at _ q ∙ check-yes _ _ u; alike = refl; numbers = refl })))
      token-sought expression s =
          all-bind _ _ (uleb s) _ (all-triv (uleb s))
          (λ t q _. all-check _ _ _ (λ u.
          all-bind (λ (ps : List Piece). pieces_sought ps ≡ []) _ (ex (take t.1 t.2)) _ (none-sought (take t.1 t.2))
          (λ ps q' n. all-some (SoughtToken expression s) (record {
            it = record { seen = 0; start = suc t.0; pieces = verbatim (take (suc t.0) s) ∷ verbatim (take t.1 t.2) ∷ [] };
            is = bind-at _ q ∙ check-yes _ _ u;
            alike = refl;
            numbers = n;
          }))))
      token-sought unknown s = all_none _

      -- ---- a layout without them

      unfoldable Without : Layout → Type 0
      Without done = Unit {0}
      Without fail = Unit {0}
      Without (field t g) = ((v : ℕ) → token_sought t v ≡ []) × ((n : ℕ) → Without (g n))

      none_read : (g : Layout) → Without g → (s : List ℕ) → All (λ (r : RunOf). reads_sought r.0 ≡ []) (read_in big ex g s)
      unfolding read_in before reads_sought Without
      none_read done h s = all-some (λ (r : RunOf). reads_sought r.0 ≡ []) refl
      none_read fail h s = all_none _
      none_read (field t g) h s =
          all-bind (SoughtToken t s) _ (token_in big ex t s) _ (token-sought t s)
          (λ r q i. all-bind (λ (r : RunOf). reads_sought r.0 ≡ []) _ (read_in big ex (g r.0.seen) r.1) _ (none_read (g r.0.seen) (h.1 r.0.seen) r.1)
          (λ r' q' n. all-some (λ (r : RunOf). reads_sought r.0 ≡ []) (ap₂ ◌++◌ (i.numbers ∙ h.0 _) n)))

  -- ---- a use that is not sought

  none_of : (b : Bool) (v : ℕ) → b ≡ false → pick b (v ∷ []) [] ≡ []
  unfolding pick
  none_of b v q = ap (λ (b : Bool). pick b (v ∷ []) []) q

  operand-none : (u : Use) → T (operand_use u) → use_sought u ≡ false
  unfolding operand_use use_sought
  operand-none plain t = refl
  operand-none (as' reference) t = no_reference
  operand-none (as' type_reference) t = no-type
  operand-none (as' sibling) t = absurd t
  operand-none (as' (index k)) t = absurd t
  operand-none (as' absolute) t = no-absolute

  no_number : (u : Use) → use_sought u ≡ false → (w : Kind) (v : ℕ) → token_sought (number_as u w) v ≡ []
  unfolding use_sought number_as token_sought role_sought
  no_number plain h w v = refl
  no_number (as' r) h w v = none_of (sought r) v h

  abbrev Empty : ℕ → Token → Type 0
  Empty v t = token_sought t v ≡ []

  no-token : (e : Encoding) (u : Use) → use_sought u ≡ false → (n v : ℕ) → token_sought (token_of e u n) v ≡ []
  unfolding token_of token_sought
  no-token e u h n v =
      pick-either (Empty v) (eqb n 0) nothing _ (λ _. refl)
      (λ _. pick-either (Empty v) (leb n 8) _ _ (λ _. no_number u h _ v)
      (λ _. pick-either (Empty v) (eqb n 9) _ _ (λ _. no_number u h _ v)
      (λ _. pick-either (Empty v) (eqb n 10) _ _ (λ _. no_number u h _ v)
      (λ _. pick-either (Empty v) (eqb n 11) _ _ (λ _. no_number u h _ v)
      (λ _. pick-either (Empty v) (eqb n 12) signed _ (λ _. refl)
      (λ _. pick-either (Empty v) (eqb n 13) string _ (λ _. refl)
      (λ _. pick-either (Empty v) (eqb n 14) (run 16) _ (λ _. refl)
      (λ _. pick-either (Empty v) (eqb n 15) (block _) _ (λ _. refl)
      (λ _. pick-either (Empty v) (eqb n 16) (block _) _ (λ _. refl)
      (λ _. pick-either (Empty v) (eqb n 17) (block _) _ (λ _. refl)
      (λ _. pick-either (Empty v) (eqb n 18) (block _) _ (λ _. refl)
      (λ _. pick-either (Empty v) (eqb n 19) expression _ (λ _. refl)
      (λ _. pick-either (Empty v) (eqb n 20) (bounded 65535) unknown (λ _. refl) (λ _. refl))))))))))))))

  -- ---- operations have none

  abbrev PlainRow : OperandRow → Type 0
  PlainRow r = (use_sought r.first_use ≡ false) × (use_sought r.second_use ≡ false)

  unfoldable plain_rows : List OperandRow → Bool
  plain_rows [] = true
  plain_rows (r ∷ rs) = operand_use r.first_use and (operand_use r.second_use and plain_rows rs)

  plain_row : (rs : List OperandRow) → T (plain_rows rs) → (l : ℕ) → PlainRow (get_or rs l unreadable_row)
  unfolding plain_rows unreadable_row use_sought
  plain_row [] h l = (refl, refl)
  plain_row (r ∷ rs) h zero =
      let a = and_both _ _ h in
      let b = and_both _ _ a.1 in
      (operand-none r.first_use a.0, operand-none r.second_use b.0)
  plain_row (r ∷ rs) h (suc l) = plain_row rs (and_both _ _ (and_both _ _ h).1).1 l

  rows-plain : T (plain_rows rows)
  unfolding plain_rows rows unreadable_row operand_use ◌and◌
  rows-plain = tt

  row-of : (l : ℕ) → PlainRow (row_of l)
  unfolding row_of
  row-of l = plain_row rows rows-plain l

  module _ (e : Encoding) where
    module _ (ex : ExpressionReader) (none-sought : NoneSought ex) where
      operation-without : Without e.big_endian ex none-sought (operation e)
      unfolding Without operation row_layout token_sought use_sought
      operation-without = (
        (λ v. refl),
        λ c.
            let p : PlainRow (row_of (operation_row c)) = row-of (operation_row c) in (
              no-token e _ p.0 _,
              λ _. (no-token e _ p.1 _, λ _. (no-token e plain refl _, λ _. tt)),
            ),
      )

    within_none : (f : ℕ) → NoneSought (expression_within e f)
    unfolding expression_within pieces_sought and_rest
    within_none zero [] = all-some (λ (ps : List Piece). pieces_sought ps ≡ []) refl
    within_none zero (b ∷ s) = all_none _
    within_none (suc f) [] = all-some (λ (ps : List Piece). pieces_sought ps ≡ []) refl
    within_none (suc f) (b ∷ s) =
        all-bind (λ (r : RunOf). reads_sought r.0 ≡ []) _ (read_in e.big_endian (expression_within e f) (operation e) (b ∷ s)) _
        (none_read e.big_endian (expression_within e f) (within_none f) (operation e) (operation-without (expression_within e f) (within_none f)) (b ∷ s))
        (λ r q n. all-bind (λ (ps : List Piece). pieces_sought ps ≡ []) _ (expression_within e f r.1) _ (within_none f r.1)
        (λ qs q' n'. all-some (λ (ps : List Piece). pieces_sought ps ≡ []) (in-append (all_pieces r.0) qs ∙ ap₂ ◌++◌ (in_pieces r.0 ∙ n) n')))

    -- expressions have none
    pub expression-none : NoneSought (expression_in e)
    unfolding expression_in
    expression-none s = within_none (length s) s

    -- ---- the number of a value

    abbrev Chosen : ℕ → ℕ → Type 0
    Chosen name f = (v : ℕ) → token_sought (token_of e (use_of name f) (form_token f)) v ≡ pick (use_sought (use_of name f)) (v ∷ []) []

    of-10 : (name : ℕ) → Chosen name 0x10
    unfolding token_sought role_sought token_of number_as use_of form_token form_tokens token_among use_sought pick ◌and◌ ◌or◌
    of-10 name v = refl

    of-11 : (name : ℕ) → Chosen name 0x11
    unfolding token_sought role_sought token_of number_as use_of form_token form_tokens token_among use_sought pick ◌and◌ ◌or◌
    of-11 name v = refl

    of-12 : (name : ℕ) → Chosen name 0x12
    unfolding token_sought role_sought token_of number_as use_of form_token form_tokens token_among use_sought pick ◌and◌ ◌or◌
    of-12 name v = refl

    of-13 : (name : ℕ) → Chosen name 0x13
    unfolding token_sought role_sought token_of number_as use_of form_token form_tokens token_among use_sought pick ◌and◌ ◌or◌
    of-13 name v = refl

    of-14 : (name : ℕ) → Chosen name 0x14
    unfolding token_sought role_sought token_of number_as use_of form_token form_tokens token_among use_sought pick ◌and◌ ◌or◌
    of-14 name v = refl

    of-15 : (name : ℕ) → Chosen name 0x15
    unfolding token_sought role_sought token_of number_as use_of form_token form_tokens token_among use_sought pick ◌and◌ ◌or◌
    of-15 name v = refl

    of-1a : (name : ℕ) → Chosen name 0x1a
    unfolding token_sought role_sought token_of number_as use_of form_token form_tokens token_among use_sought pick ◌and◌ ◌or◌
    of-1a name v = refl

    of-22 : (name : ℕ) → Chosen name 0x22
    unfolding token_sought role_sought token_of number_as use_of form_token form_tokens token_among use_sought pick ◌and◌ ◌or◌
    of-22 name v = refl

    of-23 : (name : ℕ) → Chosen name 0x23
    unfolding token_sought role_sought token_of number_as use_of form_token form_tokens token_among use_sought pick ◌and◌ ◌or◌
    of-23 name v = refl

    of-25 : (name : ℕ) → Chosen name 0x25
    unfolding token_sought role_sought token_of number_as use_of form_token form_tokens token_among use_sought pick ◌and◌ ◌or◌
    of-25 name v = refl

    of-26 : (name : ℕ) → Chosen name 0x26
    unfolding token_sought role_sought token_of number_as use_of form_token form_tokens token_among use_sought pick ◌and◌ ◌or◌
    of-26 name v = refl

    of-27 : (name : ℕ) → Chosen name 0x27
    unfolding token_sought role_sought token_of number_as use_of form_token form_tokens token_among use_sought pick ◌and◌ ◌or◌
    of-27 name v = refl

    of-28 : (name : ℕ) → Chosen name 0x28
    unfolding token_sought role_sought token_of number_as use_of form_token form_tokens token_among use_sought pick ◌and◌ ◌or◌
    of-28 name v = refl

    of-1f02 : (name : ℕ) → Chosen name 0x1f02
    unfolding token_sought role_sought token_of number_as use_of form_token form_tokens token_among use_sought pick ◌and◌ ◌or◌
    of-1f02 name v = refl

    of_plain : (name f : ℕ) → use_of name f ≡ plain → Chosen name f
    unfolding use_sought
    of_plain name f h v =
        let z : use_sought (use_of name f) ≡ false = ap use_sought h in
        no-token e (use_of name f) z (form_token f) v ∙ sym (none_of (use_sought (use_of name f)) v z)

    otherwise : (name f g : ℕ) → Chosen name g → ((f ≡ g → ⊥) → Chosen name f) → Chosen name f
    otherwise name f g c k = ⊎_elim (λ t. subst (Chosen name) (sym (eqb_yes {a = f} {b = g} t)) c) (λ t. k (eqb_no {a = f} {b = g} t)) (either (eqb f g))

    chosen : (name f : ℕ) → Chosen name f
    unfolding use_of
    chosen name f =
        otherwise name f 0x10 (of-10 name) (λ n10.
        otherwise name f 0x11 (of-11 name) (λ n11.
        otherwise name f 0x12 (of-12 name) (λ n12.
        otherwise name f 0x13 (of-13 name) (λ n13.
        otherwise name f 0x14 (of-14 name) (λ n14.
        otherwise name f 0x15 (of-15 name) (λ n15.
        otherwise name f 0x1a (of-1a name) (λ n1a.
        otherwise name f 0x22 (of-22 name) (λ n22.
        otherwise name f 0x23 (of-23 name) (λ n23.
        otherwise name f 0x25 (of-25 name) (λ n25.
        otherwise name f 0x26 (of-26 name) (λ n26.
        otherwise name f 0x27 (of-27 name) (λ n27.
        otherwise name f 0x28 (of-28 name) (λ n28.
        otherwise name f 0x1f02 (of-1f02 name) (λ n1f02.
        of_plain name f
        (pick_no _ _ _ (no-and (leb 0x11 f) (leb f 0x15)
        (λ t u. no-reference-form f n11 n12 n13 n14 n15 (leb_yes {a = 0x11} {b = f} t) (leb_yes {a = f} {b = 0x15} u)))
        ∙ pick_no _ _ _ (no_eqb {a = f} {b = 0x10} n10)
        ∙ pick_no _ _ _ (no_eqb {a = f} {b = 0x23} n23)
        ∙ pick_no _ _ _ (no_eqb {a = f} {b = 0x22} n22)
        ∙ pick_no _ _ _ (no_or (eqb f 0x1a) (leb 0x25 f and leb f 0x28) (eqb f 0x1f02) (no_eqb {a = f} {b = 0x1a} n1a)
        (no-and (leb 0x25 f) (leb f 0x28)
        (λ t u. no-string-form f n25 n26 n27 n28 (leb_yes {a = 0x25} {b = f} t) (leb_yes {a = f} {b = 0x28} u)))
        (no_eqb {a = f} {b = 0x1f02} n1f02)))))))))))))))))

    -- ---- a value that was read deep

    module _ (unit : List ℕ) where
      abbrev big : Bool
      big = e.big_endian

      abbrev deep : ExpressionReader
      deep = expression_in e

      token-read : (indirect : Bool) (name form at : ℕ)
          → All (TokenRead pieces_sought own_sought e unit indirect name form at) (token_in big deep (value_token e indirect name form) (drop at unit))
      unfolding own_sought field_of
      token-read indirect name form at =
          let t : Token = value_token e indirect name form in
          all_known e indirect name form big deep (drop at unit) (TokenRead pieces_sought own_sought e unit indirect name form at) (λ known.
          all_map (SoughtToken big deep t (drop at unit)) (TokenRead pieces_sought own_sought e unit indirect name form at) (token_in big deep t (drop at unit))
          (λ r i.
          let v : ℕ = linked_value i.it.pieces i.it.seen in
          record {
            it = i.it;
            is = i.is;
            numbers = i.numbers ∙ ap (λ (t : Token). token_sought t v) known ∙ chosen name form v;
          })
          (token-sought big deep expression-none t (drop at unit)))

      copied_none : (l : List ℕ) → pieces_sought (verbatim l ∷ []) ≡ []
      unfolding pieces_sought piece_sought
      copied_none l = refl

      -- ---- an entry or a terminator

      no_code : (at : ℕ) (r : ReadOf) → token_in big deep (number leb128) (drop at unit) ≡ Some r → pieces_sought r.0.pieces ≡ []
      unfolding token_sought
      no_code at r q =
          (all_of (SoughtToken big deep (number leb128) (drop at unit)) (token-sought big deep expression-none (number leb128) (drop at unit)) q).numbers

      more-reads : (r : Read) (rs : List Read) → reads_sought (r ∷ rs) ≡ pieces_sought r.pieces ++ reads_sought rs
      unfolding reads_sought
      more-reads r rs = refl

      no_reads : reads_sought [] ≡ []
      unfolding reads_sought
      no_reads = refl

      more-values : (a : Valued) (rest : List Valued) → values_sought (a ∷ rest) ≡ own_sought a.name a.value ++ values_sought rest
      unfolding values_sought
      more-values a rest = refl

      no-values : values_sought [] ≡ []
      unfolding values_sought
      no-values = refl

      module _ (abbreviations : List ℕ) (look : ℕ → Option Declaration) where
        abbrev pub StepSought : Option Step → List ℕ → Type 0
        StepSought s ns = StepBy values_sought e unit abbreviations s ns

        -- THE numbers sought in what is read deep at a place, by the step there
        pub deep-sought : (at : ℕ) (all : RunOf) → read_in big deep (entry_layout e abbreviations look) (drop at unit) ≡ Some all
            → StepSought (step_at e abbreviations look unit at) (reads_sought all.0)
        deep-sought at all q =
            deep-by pieces_sought reads_sought values_sought own_sought no_reads more-reads no-values more-values e unit token-read copied_none no_code abbreviations look at all q

  -- ---- a number that is sought has the role

  module _ (own : Role) (own_is : T (sought own)) (only-own : (r : Role) → T (sought r) → r ≡ own) (v : ℕ) where
    record OwnIn (ps : List Piece) : Type 0 where
      pub encoded : Encoded
      pub within : Member (patchable encoded own v) ps

    piece-out : (p : Piece) (ps : List Piece) → Member v (piece_sought p) → OwnIn (p ∷ ps)
    unfolding piece_sought role_sought
    piece-out (verbatim l) ps m = absurd (nothing-in v m)
    piece-out (patchable e r w) ps m =
        pick-either (λ (l : List ℕ). Member v l → OwnIn (patchable e r w ∷ ps)) (sought r) (w ∷ []) []
        (λ t n. record { encoded = e; within = here (ap (patchable e own) (only v w n) ∙ ap (λ (r : Role). patchable e r w) (sym (only-own r t))) })
        (λ t n. absurd (nothing-in v n)) m

    pieces-out : (ps : List Piece) → Member v (pieces_sought ps) → OwnIn ps
    unfolding pieces_sought
    pieces-out [] m = absurd (nothing-in v m)
    pieces-out (p ∷ ps) m =
        ⊎_elim
        (λ n. piece-out p ps n)
        (λ n. let q : OwnIn ps = pieces-out ps n in record { encoded = q.encoded; within = there q.within })
        (in_either v (piece_sought p) (pieces_sought ps) m)

    own_in : (e : Encoded) → Member v (piece_sought (patchable e own v))
    unfolding piece_sought role_sought
    own_in e = subst (Member v) (sym (pick_yes _ _ _ own_is)) (here refl)

    pieces-in : (ps : List Piece) (e : Encoded) → Member (patchable e own v) ps → Member v (pieces_sought ps)
    unfolding pieces_sought
    pieces-in [] e m = absurd (nothing-in (patchable e own v) m)
    pieces-in (p ∷ ps) e (here q) = in_left v (piece_sought p) (pieces_sought ps) (subst (λ (z : Piece). Member v (piece_sought z)) q (own_in e))
    pieces-in (p ∷ ps) e (there m) = in_right v (piece_sought p) (pieces_sought ps) (pieces-in ps e m)

    reads-out : (rs : List Read) → Member v (reads_sought rs) → RoleRead rs own v
    unfolding reads_sought
    reads-out [] m = absurd (nothing-in v m)
    reads-out (r ∷ rs) m =
        ⊎_elim
        (λ n. let q : OwnIn r.pieces = pieces-out r.pieces n in record { read = r; among = here refl; encoded = q.encoded; within = q.within })
        (λ n. let q : RoleRead rs own v = reads-out rs n in record { read = q.read; among = there q.among; encoded = q.encoded; within = q.within })
        (in_either v (pieces_sought r.pieces) (reads_sought rs) m)

    reads_in_lem : (rs : List Read) (r : Read) → Member r rs → Member v (pieces_sought r.pieces) → Member v (reads_sought rs)
    unfolding reads_sought
    reads_in_lem [] r m n = absurd (nothing-in r m)
    reads_in_lem (q ∷ rs) r (here e) n = in_left v (pieces_sought q.pieces) (reads_sought rs) (subst (λ (z : Read). Member v (pieces_sought z.pieces)) e n)
    reads_in_lem (q ∷ rs) r (there m) n = in_right v (pieces_sought q.pieces) (reads_sought rs) (reads_in_lem rs r m n)

    pub reads-members : (rs : List Read) → Member v (reads_sought rs) ↔ RoleRead rs own v
    reads-members rs = (reads-out rs, λ q. reads_in_lem rs q.read q.among (pieces-in q.read.pieces q.encoded q.within))
