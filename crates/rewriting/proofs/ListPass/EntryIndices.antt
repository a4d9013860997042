-- The indices of an entry that can be read deep are those of its attributes: expressions have none. Assumes nothing.
use mathlib.Core.Path.{◌≡◌, refl, ap, ap₂, sym, ◌∙◌, subst}
use Prim.Native.Nat.{ℕ, zero, suc, ◌≤◌, ◌<◌}
use native.Mathlib.Omega.{arith}
use mathlib.Core.Bool.{Bool, true, false, not}
use mathlib.Core.List.{List, [], ◌∷◌, ◌++◌, append_assoc, append-nil}
use Rattle.std.specs.Prelude.{Option, Some}
use Rattle.readers.specs.declared.abbreviations.Declaration.{Declaration}
use mathlib.Core.Logic.{⊎_elim}
use lib.ListN.{length, get_or, take, drop}
use lib.Dec.{T, eqb, leb}
use mir.Facts.{leb_yes, leb_no, eqb_yes, eqb_no}
use Rattle.readers.specs.Choice.{pick, ◌and◌, ◌or◌, bind}
use Rattle.readers.proofs.Choice.{pick_no, pick-either, either, bind-at, check-yes, All, all-some, all_none, all_of, all-bind, all-check, all_map, all-triv, and_both}
use Rattle.readers.specs.Numbers.{uleb, sleb}
use Rattle.readers.specs.Layout.{Kind, leb128, Role, reference, type_reference, sibling, index, absolute, Token, nothing, number, bounded, forms, signed, link, string, run, block, expression, unknown, Layout, done, fail, field, Piece, verbatim, patchable, Read, ReadOf, RunOf, ExpressionReader, as_bytes, copy, as_number, as_bounded, as_forms, as_signed, as_link, as_string, as_block, as_expression, number_in, forms_in, string_in, token_in, read_in, before}
use Rattle.readers.specs.Expression.{all_pieces, and_rest, expression_within, expression_in}
use Rattle.readers.specs.Operations.{OperandRow, unreadable_row, rows, row_of, row_layout, operation_row, operation}
use Rattle.readers.specs.Tokens.{Use, plain, as', number_as, token_of}
use Rattle.readers.specs.Forms.{form_tokens, token_among, form_token, use_of, value_token}
use Rattle.readers.specs.Fields.{linked_value, field_of}
use Rattle.readers.specs.Entries.{entry_layout, step_at}
use Rattle.readers.specs.declared.cursor.Encoding.{Encoding}
use Rattle.readers.specs.declared.attributes.Attribute.{Attribute}
use Rattle.readers.specs.EntryAttributes.{Valued}
use Rattle.rewriting.specs.Indices.{index_in, indices_in, read_indices}
use Rattle.rewriting.specs.Inner.IndexLists.{form_list, value_index, value_indices}
use Rattle.readers.specs.Inner.Forms.{role_list, use_list}
use Rattle.readers.proofs.FormKinds.{list-low, list-high, form-list}
use Rattle.rewriting.proofs.KeptPass.EntryReads.{TokenRead, StepBy, deep-by}
use Rattle.rewriting.proofs.KeptPass.FormTokens.{all_known}

-- ---- indices of some pieces after others

module _ (k : ℕ) where
  in-append : (ps qs : List Piece) → indices_in k (ps ++ qs) ≡ indices_in k ps ++ indices_in k qs
  unfolding indices_in
  in-append [] qs = refl
  in-append (p ∷ ps) qs = ap (λ (l : List ℕ). index_in k p ++ l) (in-append ps qs) ∙ sym (append_assoc (index_in k p) (indices_in k ps) (indices_in k qs))

  in_pieces : (rs : List Read) → indices_in k (all_pieces rs) ≡ read_indices k rs
  unfolding all_pieces indices_in read_indices
  in_pieces [] = refl
  in_pieces (r ∷ rs) = in-append r.pieces (all_pieces rs) ∙ ap (λ (l : List ℕ). indices_in k r.pieces ++ l) (in_pieces rs)

  -- ---- the index that a token with a value is

  unfoldable role_index : Role → ℕ → List ℕ
  role_index reference v = []
  role_index type_reference v = []
  role_index sibling v = []
  role_index (index j) v = pick (eqb j k) (v ∷ []) []
  role_index absolute v = []

  unfoldable token_index : Token → ℕ → List ℕ
  token_index nothing v = []
  token_index (number w) v = []
  token_index (bounded n) v = []
  token_index forms v = []
  token_index signed v = []
  token_index (link w r) v = role_index r v
  token_index string v = []
  token_index (run n) v = []
  token_index (block w) v = []
  token_index expression v = []
  token_index unknown v = []

  abbrev NoIndices : ExpressionReader → Type 0
  NoIndices ex = (s : List ℕ) → All (λ (ps : List Piece). indices_in k ps ≡ []) (ex s)

  module _ (big : Bool) (ex : ExpressionReader) where
    -- a token that was read: read as bytes too, and its indices by its value
    record Indexed (t : Token) (s : List ℕ) (r : ReadOf) : Type 0 where
      pub it : Read
      pub is : token_in big as_bytes t s ≡ Some (it, r.1)
      pub alike : r.0.seen ≡ it.seen
      pub indices : indices_in k r.0.pieces ≡ token_index t (linked_value it.pieces it.seen)

    link-index : (e : _) (r : Role) (v : ℕ) → indices_in k (patchable e r v ∷ []) ≡ role_index r v
    unfolding indices_in index_in role_index
    link-index e reference v = refl
    link-index e type_reference v = refl
    link-index e sibling v = refl
    link-index e (index j) v = append-nil _
    link-index e absolute v = refl

    module _ (no-indices : NoIndices ex) where
      token-indexed : (t : Token) (s : List ℕ) → All (Indexed t s) (token_in big ex t s)
      unfolding token_in token_index indices_in index_in as_number as_bounded as_forms as_signed as_link as_string as_block as_expression as_bytes copy linked_value bind
      token-indexed nothing s = all-some (Indexed nothing s) (record { it = _; is = refl; alike = refl; indices = refl })
      token-indexed (number w) s =
          all-bind _ _ (number_in big w s) _ (all-triv (number_in big w s))
          (λ r q _. all-some (Indexed (number w) s) (record { it = _; is = bind-at _ q; alike = refl; indices = refl }))
      token-indexed (bounded n) s =
          all-bind _ _ (uleb s) _ (all-triv (uleb s))
          (λ r q _. all-check _ _ _ (λ u. all-some (Indexed (bounded n) s) (record { it = _; is = bind-at _ q ∙ check-yes _ _ u; alike = refl; indices = refl })))
      token-indexed forms s =
          all-bind _ _ (forms_in s) _ (all-triv (forms_in s))
          (λ r q _. all-some (Indexed forms s) (record { it = _; is = bind-at _ q; alike = refl; indices = refl }))
      token-indexed signed s =
          all-bind _ _ (sleb s) _ (all-triv (sleb s))
          (λ r q _. all-some (Indexed signed s) (record { it = _; is = bind-at _ q; alike = refl; indices = refl }))
      token-indexed (link w role) s =
          all-bind _ _ (number_in big w s) _ (all-triv (number_in big w s))
          (λ r q _. all-some (Indexed (link w role) s) (record { it = _; is = bind-at _ q; alike = refl; indices = link-index r.0 role r.1 }))
      token-indexed string s =
          all-bind _ _ (string_in s) _ (all-triv (string_in s))
          (λ r q _. all-some (Indexed string s) (record { it = _; is = bind-at _ q; alike = refl; indices = refl }))
      token-indexed (run n) s = all-check _ _ _ (λ u. all-some (Indexed (run n) s) (record { it = _; is = check-yes _ _ u; alike = refl; indices = refl }))
      token-indexed (block w) s =
          all-bind _ _ (number_in big w s) _ (all-triv (number_in big w s))
          (λ r q _. all-check _ _ _ (λ u. all-some (Indexed (block w) s) (record { it = _; is = bind-at _ q ∙ check-yes _ _ u; alike = refl; indices = refl })))
      token-indexed expression s =
          all-bind _ _ (uleb s) _ (all-triv (uleb s))
          (λ t q _. all-check _ _ _ (λ u.
          all-bind (λ (ps : List Piece). indices_in k ps ≡ []) _ (ex (take t.1 t.2)) _ (no-indices (take t.1 t.2))
          (λ ps q' n. all-some (Indexed expression s) (record {
            it = record { seen = 0; start = suc t.0; pieces = verbatim (take (suc t.0) s) ∷ verbatim (take t.1 t.2) ∷ [] };
            is = bind-at _ q ∙ check-yes _ _ u;
            alike = refl;
            indices = n;
          }))))
      token-indexed unknown s = all_none _

      -- ---- a layout without indices

      unfoldable Without : Layout → Type 0
      Without done = Unit {0}
      Without fail = Unit {0}
      Without (field t g) = ((v : ℕ) → token_index t v ≡ []) × ((n : ℕ) → Without (g n))

      none_read : (g : Layout) → Without g → (s : List ℕ) → All (λ (r : RunOf). read_indices k r.0 ≡ []) (read_in big ex g s)
      unfolding read_in before read_indices Without
      none_read done h s = all-some (λ (r : RunOf). read_indices k r.0 ≡ []) refl
      none_read fail h s = all_none _
      none_read (field t g) h s =
          all-bind (Indexed t s) _ (token_in big ex t s) _ (token-indexed t s)
          (λ r q i. all-bind (λ (r : RunOf). read_indices k r.0 ≡ []) _ (read_in big ex (g r.0.seen) r.1) _ (none_read (g r.0.seen) (h.1 r.0.seen) r.1)
          (λ r' q' n. all-some (λ (r : RunOf). read_indices k r.0 ≡ []) (ap₂ ◌++◌ (i.indices ∙ h.0 _) n)))

  module _ (small : k < 3) where
    not_three : eqb 3 k ≡ false
    not_three = ⊎_elim (λ t. absurd (let z : 3 ≡ k = eqb_yes {a = 3} {b = k} t in omega arith)) (λ t. no_true (eqb 3 k) t) (either (eqb 3 k))
      where
        no_true : (b : Bool) → T (not b) → b ≡ false
        no_true true h = absurd h
        no_true false h = refl

    no-role : (r : Role) → role_list r ≡ 3 → (v : ℕ) → role_index r v ≡ []
    unfolding role_list role_index pick
    no-role reference h v = refl
    no-role type_reference h v = refl
    no-role sibling h v = refl
    no-role (index j) h v = let z : j ≡ 3 = h in ap (λ (j : ℕ). pick (eqb j k) (v ∷ []) []) z ∙ ap (λ (b : Bool). pick b (v ∷ []) []) not_three
    no-role absolute h v = refl

    no_number : (u : Use) → use_list u ≡ 3 → (w : Kind) (v : ℕ) → token_index (number_as u w) v ≡ []
    unfolding use_list number_as token_index
    no_number plain h w v = refl
    no_number (as' r) h w v = no-role r h v

    abbrev Empty : ℕ → Token → Type 0
    Empty v t = token_index t v ≡ []

    no-token : (e : Encoding) (u : Use) → use_list u ≡ 3 → (n v : ℕ) → token_index (token_of e u n) v ≡ []
    unfolding token_of token_index
    no-token e u h n v =
        pick-either (Empty v) (eqb n 0) nothing _ (λ _. refl)
        (λ _. pick-either (Empty v) (leb n 8) _ _ (λ _. no_number u h _ v)
        (λ _. pick-either (Empty v) (eqb n 9) _ _ (λ _. no_number u h _ v)
        (λ _. pick-either (Empty v) (eqb n 10) _ _ (λ _. no_number u h _ v)
        (λ _. pick-either (Empty v) (eqb n 11) _ _ (λ _. no_number u h _ v)
        (λ _. pick-either (Empty v) (eqb n 12) signed _ (λ _. refl)
        (λ _. pick-either (Empty v) (eqb n 13) string _ (λ _. refl)
        (λ _. pick-either (Empty v) (eqb n 14) (run 16) _ (λ _. refl)
        (λ _. pick-either (Empty v) (eqb n 15) (block _) _ (λ _. refl)
        (λ _. pick-either (Empty v) (eqb n 16) (block _) _ (λ _. refl)
        (λ _. pick-either (Empty v) (eqb n 17) (block _) _ (λ _. refl)
        (λ _. pick-either (Empty v) (eqb n 18) (block _) _ (λ _. refl)
        (λ _. pick-either (Empty v) (eqb n 19) expression _ (λ _. refl)
        (λ _. pick-either (Empty v) (eqb n 20) (bounded 65535) unknown (λ _. refl) (λ _. refl))))))))))))))

    -- ---- operations have none

    abbrev PlainRow : OperandRow → Type 0
    PlainRow r = (use_list r.first_use ≡ 3) × (use_list r.second_use ≡ 3)

    unfoldable plain_rows : List OperandRow → Bool
    plain_rows [] = true
    plain_rows (r ∷ rs) = eqb (use_list r.first_use) 3 and (eqb (use_list r.second_use) 3 and plain_rows rs)

    plain_row : (rs : List OperandRow) → T (plain_rows rs) → (l : ℕ) → PlainRow (get_or rs l unreadable_row)
    unfolding plain_rows unreadable_row use_list
    plain_row [] h l = (refl, refl)
    plain_row (r ∷ rs) h zero =
        let a = and_both _ _ h in
        let b = and_both _ _ a.1 in
        (eqb_yes {a = use_list r.first_use} {b = 3} a.0, eqb_yes {a = use_list r.second_use} {b = 3} b.0)
    plain_row (r ∷ rs) h (suc l) = plain_row rs (and_both _ _ (and_both _ _ h).1).1 l

    rows-plain : T (plain_rows rows)
    unfolding plain_rows rows unreadable_row use_list role_list ◌and◌
    rows-plain = tt

    row-of : (l : ℕ) → PlainRow (row_of l)
    unfolding row_of
    row-of l = plain_row rows rows-plain l

    module _ (e : Encoding) where
      module _ (ex : ExpressionReader) (no-indices : NoIndices ex) where
        operation-without : Without e.big_endian ex no-indices (operation e)
        unfolding Without operation row_layout token_index use_list
        operation-without = (
          (λ v. refl),
          λ c.
              let p : PlainRow (row_of (operation_row c)) = row-of (operation_row c) in (
                no-token e _ p.0 _,
                λ _. (no-token e _ p.1 _, λ _. (no-token e plain refl _, λ _. tt)),
              ),
        )

      within_none : (f : ℕ) → NoIndices (expression_within e f)
      unfolding expression_within indices_in and_rest
      within_none zero [] = all-some (λ (ps : List Piece). indices_in k ps ≡ []) refl
      within_none zero (b ∷ s) = all_none _
      within_none (suc f) [] = all-some (λ (ps : List Piece). indices_in k ps ≡ []) refl
      within_none (suc f) (b ∷ s) =
          all-bind (λ (r : RunOf). read_indices k r.0 ≡ []) _ (read_in e.big_endian (expression_within e f) (operation e) (b ∷ s)) _
          (none_read e.big_endian (expression_within e f) (within_none f) (operation e) (operation-without (expression_within e f) (within_none f)) (b ∷ s))
          (λ r q n. all-bind (λ (ps : List Piece). indices_in k ps ≡ []) _ (expression_within e f r.1) _ (within_none f r.1)
          (λ qs q' n'. all-some (λ (ps : List Piece). indices_in k ps ≡ []) (in-append (all_pieces r.0) qs ∙ ap₂ ◌++◌ (in_pieces r.0 ∙ n) n')))

      -- expressions have no indices
      pub expression-none : NoIndices (expression_in e)
      unfolding expression_in
      expression-none s = within_none (length s) s

      -- ---- the index of a value

      abbrev Chosen : ℕ → ℕ → Type 0
      Chosen name f = (v : ℕ) → token_index (token_of e (use_of name f) (form_token f)) v ≡ pick (eqb (form_list f) k) (v ∷ []) []

      abbrev here : (name f g : ℕ) → f ≡ g → Chosen name g → Chosen name f
      here name f g h c = subst (Chosen name) (sym h) c

      of-23 : (name : ℕ) → Chosen name 0x23
      unfolding token_index role_index token_of number_as use_of form_token form_tokens token_among form_list use_list role_list pick ◌and◌ ◌or◌
      of-23 name v = refl

      of-22 : (name : ℕ) → Chosen name 0x22
      unfolding token_index role_index token_of number_as use_of form_token form_tokens token_among form_list use_list role_list pick ◌and◌ ◌or◌
      of-22 name v = refl

      of-1a : (name : ℕ) → Chosen name 0x1a
      unfolding token_index role_index token_of number_as use_of form_token form_tokens token_among form_list use_list role_list pick ◌and◌ ◌or◌
      of-1a name v = refl

      of-25 : (name : ℕ) → Chosen name 0x25
      unfolding token_index role_index token_of number_as use_of form_token form_tokens token_among form_list use_list role_list pick ◌and◌ ◌or◌
      of-25 name v = refl

      of-26 : (name : ℕ) → Chosen name 0x26
      unfolding token_index role_index token_of number_as use_of form_token form_tokens token_among form_list use_list role_list pick ◌and◌ ◌or◌
      of-26 name v = refl

      of-27 : (name : ℕ) → Chosen name 0x27
      unfolding token_index role_index token_of number_as use_of form_token form_tokens token_among form_list use_list role_list pick ◌and◌ ◌or◌
      of-27 name v = refl

      of-28 : (name : ℕ) → Chosen name 0x28
      unfolding token_index role_index token_of number_as use_of form_token form_tokens token_among form_list use_list role_list pick ◌and◌ ◌or◌
      of-28 name v = refl

      of-1f02 : (name : ℕ) → Chosen name 0x1f02
      unfolding token_index role_index token_of number_as use_of form_token form_tokens token_among form_list use_list role_list pick ◌and◌ ◌or◌
      of-1f02 name v = refl

      of_none : (name f : ℕ) → use_list (use_of name f) ≡ 3 → form_list f ≡ 3 → Chosen name f
      of_none name f h g v =
          no-token e (use_of name f) h (form_token f) v
          ∙ sym (ap (λ (n : ℕ). pick (eqb n k) (v ∷ []) []) g ∙ ap (λ (b : Bool). pick b (v ∷ []) []) not_three ∙ pick_no false (v ∷ []) [] tt)

      -- whether a form is an index, and else that it is none
      chosen : (name f : ℕ) → Chosen name f
      unfolding form_list
      chosen name f =
          ⊎_elim (λ t. here name f 0x23 (eqb_yes {a = f} {b = 0x23} t) (of-23 name)) (λ r.
          ⊎_elim (λ t. here name f 0x22 (eqb_yes {a = f} {b = 0x22} t) (of-22 name)) (λ l.
          ⊎_elim (λ t. here name f 0x1a (eqb_yes {a = f} {b = 0x1a} t) (of-1a name)) (λ s.
          ⊎_elim (λ t. here name f 0x1f02 (eqb_yes {a = f} {b = 0x1f02} t) (of-1f02 name)) (λ g.
          ⊎_elim (λ t. here name f 0x25 (eqb_yes {a = f} {b = 0x25} t) (of-25 name)) (λ a.
          ⊎_elim (λ t. here name f 0x26 (eqb_yes {a = f} {b = 0x26} t) (of-26 name)) (λ b.
          ⊎_elim (λ t. here name f 0x27 (eqb_yes {a = f} {b = 0x27} t) (of-27 name)) (λ c.
          ⊎_elim (λ t. here name f 0x28 (eqb_yes {a = f} {b = 0x28} t) (of-28 name)) (λ d.
          ⊎_elim
          (λ t. let h : f ≤ 0x24 = leb_yes {a = f} {b = 0x24} t in
          of_none name f
          (sym (list-low f (omega arith) (eqb_no {a = f} {b = 0x23} r) (eqb_no {a = f} {b = 0x22} l) (eqb_no {a = f} {b = 0x1a} s) ∙ form-list name f))
          (sym (list-low f (omega arith) (eqb_no {a = f} {b = 0x23} r) (eqb_no {a = f} {b = 0x22} l) (eqb_no {a = f} {b = 0x1a} s) ∙ form-list 0 f)))
          (λ t. let h : 0x28 < f = omega (arith, leb_no {a = f} {b = 0x24} t, eqb_no {a = f} {b = 0x25} a, eqb_no {a = f} {b = 0x26} b, eqb_no {a = f} {b = 0x27} c, eqb_no {a = f} {b = 0x28} d) in
          of_none name f
          (sym (list-high f h (eqb_no {a = f} {b = 0x1f02} g) ∙ form-list name f))
          (sym (list-high f h (eqb_no {a = f} {b = 0x1f02} g) ∙ form-list 0 f)))
          (either (leb f 0x24)))
          (either (eqb f 0x28)))
          (either (eqb f 0x27)))
          (either (eqb f 0x26)))
          (either (eqb f 0x25)))
          (either (eqb f 0x1f02)))
          (either (eqb f 0x1a)))
          (either (eqb f 0x22)))
          (either (eqb f 0x23))

      -- ---- a value that was read deep

      module _ (unit : List ℕ) where
        abbrev big : Bool
        big = e.big_endian

        abbrev deep : ExpressionReader
        deep = expression_in e

        abbrev own : ℕ → Attribute → List ℕ
        own name v = value_index k v

        token-read : (indirect : Bool) (name form at : ℕ)
            → All (TokenRead (indices_in k) own e unit indirect name form at) (token_in big deep (value_token e indirect name form) (drop at unit))
        unfolding value_index field_of
        token-read indirect name form at =
            let t : Token = value_token e indirect name form in
            all_known e indirect name form big deep (drop at unit) (TokenRead (indices_in k) own e unit indirect name form at) (λ known.
            all_map (Indexed big deep t (drop at unit)) (TokenRead (indices_in k) own e unit indirect name form at) (token_in big deep t (drop at unit))
            (λ r i.
            let v : ℕ = linked_value i.it.pieces i.it.seen in
            record {
              it = i.it;
              is = i.is;
              numbers = i.indices ∙ ap (λ (t : Token). token_index t v) known ∙ chosen name form v;
            })
            (token-indexed big deep expression-none t (drop at unit)))

        copied_none : (l : List ℕ) → indices_in k (verbatim l ∷ []) ≡ []
        unfolding indices_in index_in
        copied_none l = refl

        -- ---- an entry or a terminator

        no_code : (at : ℕ) (r : ReadOf) → token_in big deep (number leb128) (drop at unit) ≡ Some r → indices_in k r.0.pieces ≡ []
        unfolding token_index
        no_code at r q = (all_of (Indexed big deep (number leb128) (drop at unit)) (token-indexed big deep expression-none (number leb128) (drop at unit)) q).indices

        no_reads : read_indices k [] ≡ []
        unfolding read_indices
        no_reads = refl

        more-reads : (r : Read) (rs : List Read) → read_indices k (r ∷ rs) ≡ indices_in k r.pieces ++ read_indices k rs
        unfolding read_indices
        more-reads r rs = refl

        no-values : value_indices k [] ≡ []
        unfolding value_indices
        no-values = refl

        more-values : (a : Valued) (rest : List Valued) → value_indices k (a ∷ rest) ≡ own a.name a.value ++ value_indices k rest
        unfolding value_indices
        more-values a rest = refl

        -- THE indices of what is read deep at a place, by the step there: those of an entry's values
        pub deep-indices : (abbreviations : List ℕ) (look : ℕ → Option Declaration) (at : ℕ) (all : RunOf)
            → read_in big deep (entry_layout e abbreviations look) (drop at unit) ≡ Some all
            → StepBy (value_indices k) e unit abbreviations (step_at e abbreviations look unit at) (read_indices k all.0)
        deep-indices abbreviations look at all q =
            deep-by (indices_in k) (read_indices k) (value_indices k) own no_reads more-reads no-values more-values e unit token-read copied_none no_code abbreviations look at all q
