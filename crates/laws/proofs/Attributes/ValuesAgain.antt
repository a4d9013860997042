-- A value that was read deep, and the same patched at its own widths and read at another place: by the reader of attributes both are read, and are the same but for the number that the
-- patch changes. Assumes nothing.
use mathlib.Core.Path.{◌≡◌, refl, ap, ap₂, sym, ◌∙◌, subst}
use Prim.Native.Nat.{ℕ, suc, ◌+◌, ◌-◌, ◌≤◌}
use native.Mathlib.Omega.{arith}
use mathlib.Core.Bool.{Bool, false, not}
use Rattle.std.specs.Prelude.{Some}
use mathlib.Core.List.{List, [], ◌∷◌, ◌++◌, append-nil}
use mathlib.Core.Logic.{⊎_elim}
use lib.ListN.{length, take, drop, length-append, length-drop, take-append-drop, drop_of_length-le}
use lib.Seq.{length-take-le, take_at, drop_at, drop-append-le, drop-drop}
use lib.Dec.{T, eqb, leb}
use mir.Facts.{leb_yes, leb_no, eqb_yes}
use Rattle.readers.specs.Choice.{pick, ◌and◌, ◌or◌, bind}
use Rattle.readers.proofs.Choice.{pick_yes, pick_no, either, bind-at, check-yes, All, all-some, all_none, all_of, all-bind, all-check, all-triv, and_both}
use Rattle.readers.specs.Numbers.{uleb, sleb}
use Rattle.readers.specs.Layout.{Kind, Encoded, Role, index, Token, nothing, number, bounded, forms, signed, link, string, run, block, expression, unknown, Piece, verbatim, patchable, Read, ReadOf, ExpressionReader, as_bytes, copy, as_number, as_bounded, as_forms, as_signed, as_link, as_string, as_block, as_expression, number_in, forms_in, string_in, token_in, bytes_of, piece_bytes, Patch, patch_piece, patch_pieces, patch_read}
use Rattle.readers.proofs.LayoutLaws.{LebLaw, uleb-law, TokenLaw, token-law, WholeLaw, FitPieces, same_size}
use Rattle.readers.specs.Expression.{expression_in}
use Rattle.readers.proofs.Expression.{expression-law}
use Rattle.readers.specs.Tokens.{Use, plain, as', number_as, token_of}
use Rattle.readers.specs.Forms.{form_token, form_tokens, token_among, use_of, list_form}
use Rattle.readers.specs.Fields.{size, linked_value}
use Rattle.readers.specs.declared.cursor.Encoding.{Encoding}
use Rattle.rewriting.specs.Emission.{between}
use Rattle.laws.specs.AttributesAgain.{new_number, SameOperations}
use Rattle.rewriting.proofs.MapPass.Exact.{use_ok, token_ok, token-ok, Exactly, in_expression, expression-exactly}
use Rattle.rewriting.proofs.WritePass.Expressions.{is_expression}
use Rattle.rewriting.proofs.WritePass.ValueForms.{form_number_is, own, LinkForm, reference-form, ranges-form, locations-form, strings-form}

-- ---- parts of bytes

-- what stands in a from k on, whatever follows it
prefix-part : (a r : List ℕ) (k : ℕ) → take (length a - k) (drop k (a ++ r)) ≡ drop k a
prefix-part a r k =
    ⊎_elim
    (λ t. let h : k ≤ length a = leb_yes {a = k} {b = length a} t in
    ap (take (length a - k)) (drop-append-le k a r h) ∙ take_at (drop k a) r (length a - k) (length-drop k a))
    (λ t. let h : length a ≤ k = (let z = leb_no {a = k} {b = length a} t in omega (arith, z)) in
    ap (λ (n : ℕ). take n (drop k (a ++ r))) (let z : length a - k ≡ 0 = omega arith in z) ∙ sym (drop_of_length-le a h))
    (either (leb k (length a)))

-- the payload of what was read from s on
abbrev pub part_of : Bool → List ℕ → Read → List ℕ
part_of big s r = take (size big r - r.start) (drop r.start s)

pub between-part : (s : List ℕ) (o start width : ℕ) → between s (o + start) (o + width) ≡ take (width - start) (drop start (drop o s))
unfolding between
between-part s o start width =
    ap₂ (λ (n : ℕ) (l : List ℕ). take n l) (let e : o + width - (o + start) ≡ width - start = omega arith in e) (sym (drop-drop start o s))

unfoldable tail_of : List Piece → List Piece
tail_of [] = []
tail_of (p ∷ ps) = ps

-- ---- which tokens copy

abbrev pub no_role : Role → Bool
no_role r = false

-- what a number that a token reads becomes
unfoldable pub token_number : Patch → Token → ℕ → ℕ
token_number f nothing v = v
token_number f (number k) v = v
token_number f (bounded n) v = v
token_number f forms v = v
token_number f signed v = v
token_number f (link k r) v = f r v
token_number f string v = v
token_number f (run n) v = v
token_number f (block k) v = v
token_number f expression v = v
token_number f unknown v = v

module _ (f : Patch) where
  no-link : (t : Token) → T (token_ok no_role t) → (v : ℕ) → token_number f t v ≡ v
  unfolding token_ok token_number
  no-link nothing h v = refl
  no-link (number k) h v = refl
  no-link (bounded n) h v = refl
  no-link forms h v = refl
  no-link signed h v = refl
  no-link (link k r) h v = absurd h
  no-link string h v = refl
  no-link (run n) h v = refl
  no-link (block k) h v = refl
  no-link expression h v = refl
  no-link unknown h v = refl

  module _ (e : Encoding) (name form : ℕ) where
    abbrev Same : Type 0
    Same = (v : ℕ) → token_number f (form_number_is e name form) v ≡ new_number f (use_of name form) v

    patchable-use : (role : Role) → LinkForm e name role form → use_of name form ≡ as' role → Same
    unfolding token_number new_number
    patchable-use role l q v = ap (λ (t : Token). token_number f t v) l.token ∙ sym (ap (λ (u : Use). new_number f u v) q)

    pub plain-use : use_of name form ≡ plain → T (token_ok no_role (form_number_is e name form))
    unfolding use_ok
    plain-use q = subst (λ (u : Use). T (token_ok no_role (token_of e u (form_token form)))) (sym q) (token-ok no_role e plain (form_token form) tt)

    unlinked-use : use_of name form ≡ plain → Same
    unfolding new_number
    unlinked-use q v = no-link (form_number_is e name form) (plain-use q) v ∙ sym (ap (λ (u : Use). new_number f u v) q)

    absolute-use : form ≡ 0x10 → Same
    unfolding use_of form_token form_tokens token_among token_of number_as pick ◌and◌ ◌or◌ token_number new_number
    absolute-use q v = ap (λ (n : ℕ). token_number f (form_number_is e name n) v) q ∙ sym (ap (λ (n : ℕ). new_number f (use_of name n) v) q)

    -- a form's number becomes what its use says
    pub use-number : Same
    unfolding use_of list_form
    use-number =
        ⊎_elim (λ t1. let p = and_both (leb 0x11 form) (leb form 0x15) t1 in
        patchable-use (own e name) (reference-form e name form (leb_yes {a = 0x11} {b = form} p.0) (leb_yes {a = form} {b = 0x15} p.1)) (pick_yes _ _ _ t1))
        (λ t1. ⊎_elim (λ t2. absolute-use (eqb_yes {a = form} {b = 0x10} t2))
        (λ t2. ⊎_elim (λ t3. patchable-use (index 0) (ranges-form e name form (pick_yes _ _ _ t3)) (pick_no _ _ _ t1 ∙ pick_no _ _ _ t2 ∙ pick_yes _ _ _ t3))
        (λ t3. ⊎_elim (λ t4. patchable-use (index 1) (locations-form e name form (pick_no _ _ _ t3 ∙ pick_yes _ _ _ t4)) (pick_no _ _ _ t1 ∙ pick_no _ _ _ t2 ∙ pick_no _ _ _ t3 ∙ pick_yes _ _ _ t4))
        (λ t4. ⊎_elim
        (λ t5. patchable-use (index 2) (strings-form e name form (pick_no _ _ _ t3 ∙ pick_no _ _ _ t4 ∙ pick_yes _ _ _ t5))
        (pick_no _ _ _ t1 ∙ pick_no _ _ _ t2 ∙ pick_no _ _ _ t3 ∙ pick_no _ _ _ t4 ∙ pick_yes _ _ _ t5))
        (λ t5. unlinked-use (pick_no _ _ _ t1 ∙ pick_no _ _ _ t2 ∙ pick_no _ _ _ t3 ∙ pick_no _ _ _ t4 ∙ pick_no _ _ _ t5))
        (either (eqb form 0x1a or (leb 0x25 form and leb form 0x28) or eqb form 0x1f02)))
        (either (eqb form 0x22)))
        (either (eqb form 0x23)))
        (either (eqb form 0x10)))
        (either (leb 0x11 form and leb form 0x15))

-- ---- what a token reads

module _ (e : Encoding) (f : Patch) where
  abbrev big : Bool
  big = e.big_endian

  abbrev ex : ExpressionReader
  ex = expression_in e

  -- a token that is no expression is read alike by both readers
  pub same-reader : (t : Token) → T (not (is_expression t)) → (s : List ℕ) → token_in big ex t s ≡ token_in big as_bytes t s
  unfolding is_expression token_in
  same-reader nothing h s = refl
  same-reader (number k) h s = refl
  same-reader (bounded n) h s = refl
  same-reader forms h s = refl
  same-reader signed h s = refl
  same-reader (link k r) h s = refl
  same-reader string h s = refl
  same-reader (run n) h s = refl
  same-reader (block k) h s = refl
  same-reader expression h s = absurd h
  same-reader unknown h s = refl

  -- its bytes are those that it took, and no patch changes them
  record CopiedRead (s : List ℕ) (r : ReadOf) : Type 0 where
    pub rest : List ℕ
    pub whole : s ≡ bytes_of big r.0.pieces ++ rest
    pub same : patch_pieces f r.0.pieces ≡ r.0.pieces
    pub value : linked_value r.0.pieces r.0.seen ≡ r.0.seen

  copy_read : (v k n : ℕ) (s : List ℕ) → CopiedRead s (copy v k n s)
  unfolding copy bytes_of piece_bytes patch_pieces patch_piece linked_value
  copy_read v k n s =
      record { rest = drop n s; whole = sym (ap (λ (x : List ℕ). x ++ drop n s) (append-nil (take n s)) ∙ take-append-drop n s); same = refl; value = refl }

  verbatim-read : (t : Token) → T (token_ok no_role t) → T (not (is_expression t)) → (s : List ℕ) → All (CopiedRead s) (token_in big ex t s)
  unfolding token_ok is_expression token_in as_number as_bounded as_forms as_signed as_string as_block bytes_of patch_pieces linked_value
  verbatim-read nothing o x s = all-some (CopiedRead s) (record { rest = s; whole = refl; same = refl; value = refl })
  verbatim-read (number k) o x s = all-bind (λ _. Unit {0}) _ (number_in big k s) _ (all-triv _) (λ r e q. all-some (CopiedRead s) (copy_read _ _ _ s))
  verbatim-read (bounded n) o x s = all-bind (λ _. Unit {0}) _ (uleb s) _ (all-triv _) (λ r e q. all-check _ _ _ (λ u. all-some (CopiedRead s) (copy_read _ _ _ s)))
  verbatim-read forms o x s = all-bind (λ _. Unit {0}) _ (forms_in s) _ (all-triv _) (λ r e q. all-some (CopiedRead s) (copy_read _ _ _ s))
  verbatim-read signed o x s = all-bind (λ _. Unit {0}) _ (sleb s) _ (all-triv _) (λ r e q. all-some (CopiedRead s) (copy_read _ _ _ s))
  verbatim-read (link k r) o x s = absurd o
  verbatim-read string o x s = all-bind (λ _. Unit {0}) _ (string_in s) _ (all-triv _) (λ r e q. all-some (CopiedRead s) (copy_read _ _ _ s))
  verbatim-read (run n) o x s = all-check _ _ _ (λ u. all-some (CopiedRead s) (copy_read _ _ _ s))
  verbatim-read (block k) o x s = all-bind (λ _. Unit {0}) _ (number_in big k s) _ (all-triv _) (λ r e q. all-check _ _ _ (λ u. all-some (CopiedRead s) (copy_read _ _ _ s)))
  verbatim-read expression o x s = absurd x
  verbatim-read unknown o x s = all_none _

  -- a number that a patch may change
  pub record LinkRead (role : Role) (r : ReadOf) : Type 0 where
    pub code : Encoded
    pub value : ℕ
    pub is : r.0 ≡ record { seen = 0; start = 0; pieces = patchable code role value ∷ [] }

  pub link-read : (k : Kind) (role : Role) (s : List ℕ) → All (LinkRead role) (token_in big ex (link k role) s)
  unfolding token_in as_link
  link-read k role s =
      all-bind (λ _. Unit {0}) _ (number_in big k s) _ (all-triv _) (λ t q _. all-some (LinkRead role) (record { code = t.0; value = t.1; is = refl }))

  -- an expression: read as bytes too, its payload is what was read
  pub record ExpressionRead (s : List ℕ) (r : ReadOf) : Type 0 where
    pub it : Read
    pub is : token_in big as_bytes expression s ≡ Some (it, r.1)
    pub length-bytes : List ℕ
    pub length-width : length length-bytes ≡ it.start
    pub pieces : List Piece
    pub shape : r.0 ≡ record { seen = 0; start = it.start; pieces = verbatim length-bytes ∷ pieces }
    pub value : linked_value it.pieces it.seen ≡ 0
    pub wide : size big it ≡ size big r.0
    pub inner : ex (part_of big s it) ≡ Some pieces

  pub expression-read : (s : List ℕ) → All (ExpressionRead s) (token_in big ex expression s)
  unfolding token_in as_expression as_bytes bytes_of piece_bytes size linked_value bind
  expression-read s =
      all-bind (LebLaw uleb s) _ (uleb s) _ (uleb-law s)
      (λ t q law. all-check _ _ _ (λ u.
      all-bind (WholeLaw big ex (take t.1 t.2)) (ExpressionRead s) (ex (take t.1 t.2)) _ (expression-law e (take t.1 t.2))
      (λ ps k wl.
      let a : List ℕ = take (suc t.0) s in
      let b : List ℕ = take t.1 t.2 in
      let la : length a ≡ suc t.0 = length-take-le (suc t.0) s law.0.0 in
      let lb : length b ≡ t.1 = length-take-le t.1 t.2 (leb_yes {a = t.1} {b = length t.2} u) in
      let lw : length (bytes_of big ps) ≡ length b = wl.0 in
      let w : length (a ++ (b ++ [])) ≡ suc t.0 + t.1 = omega (arith, length-append a (b ++ []), length-append b []) in
      all-some (ExpressionRead s) (record {
        it = record { seen = 0; start = suc t.0; pieces = verbatim a ∷ verbatim b ∷ [] };
        is = bind-at _ q ∙ check-yes _ _ u;
        length-bytes = a;
        length-width = la;
        pieces = ps;
        shape = refl;
        value = refl;
        wide = (let n : length (a ++ (b ++ [])) ≡ length (a ++ bytes_of big ps) = omega (arith, length-append a (bytes_of big ps)) in n);
        inner =
            ap ex (ap₂ (λ (n : ℕ) (l : List ℕ). take n l) (let n : length (a ++ (b ++ [])) - suc t.0 ≡ t.1 = omega arith in n) (sym law.0.1)) ∙ k;
      }))))

  -- ---- a token, twice

  -- what t read of s as v, and what it reads of the patched bytes of v: both as bytes
  pub record TokenTwice (t : Token) (s s' : List ℕ) (v : Read) (rest back : List ℕ) : Type 0 where
    pub it : Read
    pub is : token_in big as_bytes t s ≡ Some (it, rest)
    pub wide : size big it ≡ size big v
    pub it' : Read
    pub is' : token_in big as_bytes t s' ≡ Some (it', back)
    pub wide' : size big it' ≡ size big v
    pub start : it'.start ≡ it.start
    pub number : linked_value it'.pieces it'.seen ≡ token_number f t (linked_value it.pieces it.seen)
    pub bytes : T (token_ok no_role t) → T (not (is_expression t)) → part_of big s' it' ≡ part_of big s it
    pub operations : t ≡ expression → SameOperations f e (part_of big s it) (part_of big s' it')

  module _ (s s' : List ℕ) (v : Read) (rest back : List ℕ) (fit : FitPieces f v.pieces) (after : s' ≡ bytes_of big (patch_pieces f v.pieces) ++ back) where
    -- patched it is read again
    pub again : (t : Token) → token_in big ex t s ≡ Some (v, rest) → token_in big ex t s' ≡ Some (patch_read f v, back)
    again t q = ap (token_in big ex t) after ∙ (all_of (TokenLaw big ex t s) (token-law big ex (expression-law e) t s) q).1 f back fit

    pub patched-size : size big (patch_read f v) ≡ size big v
    unfolding size patch_read
    patched-size = same_size big f v.pieces

    verbatim-twice : (t : Token) → T (token_ok no_role t) → T (not (is_expression t)) → (t ≡ expression → ⊥) → token_in big ex t s ≡ Some (v, rest) → TokenTwice t s s' v rest back
    unfolding patch_read size
    verbatim-twice t o x n q =
        let c : CopiedRead s (v, rest) = all_of (CopiedRead s) (verbatim-read t o x s) q in
        let a : List ℕ = bytes_of big v.pieces in
        let p : s' ≡ a ++ back = after ∙ ap (λ (ps : List Piece). bytes_of big ps ++ back) c.same in
        record {
          it = v;
          is = sym (same-reader t x s) ∙ q;
          wide = refl;
          it' = v;
          is' = sym (same-reader t x s') ∙ again t q ∙ ap (λ (ps : List Piece). Some (record { seen = v.seen; start = v.start; pieces = ps }, back)) c.same;
          wide' = refl;
          start = refl;
          number = sym (no-link f t o (linked_value v.pieces v.seen));
          bytes = (λ _ _. ap (λ (z : List ℕ). take (length a - v.start) (drop v.start z)) p ∙ prefix-part a back v.start
              ∙ sym (ap (λ (z : List ℕ). take (length a - v.start) (drop v.start z)) c.whole ∙ prefix-part a c.rest v.start));
          operations = (λ z. absurd (n z));
        }

    link-twice : (k : Kind) (role : Role) → token_in big ex (link k role) s ≡ Some (v, rest) → TokenTwice (link k role) s s' v rest back
    unfolding patch_read patch_pieces patch_piece linked_value token_number token_ok is_expression
    link-twice k role q =
        let c : LinkRead role (v, rest) = all_of (LinkRead role) (link-read k role s) q in
        record {
          it = v;
          is = sym (same-reader (link k role) tt s) ∙ q;
          wide = refl;
          it' = patch_read f v;
          is' = sym (same-reader (link k role) tt s') ∙ again (link k role) q;
          wide' = patched-size;
          start = refl;
          number =
              ap (λ (r : Read). linked_value (patch_pieces f r.pieces) r.seen) c.is
              ∙ sym (ap (λ (r : Read). f role (linked_value r.pieces r.seen)) c.is);
          bytes = (λ o _. absurd o);
          operations = (λ z. let y : ◌≡◌ {A = ℕ} 0 1 = cc in absurd (omega arith));
        }

    expression-twice : token_in big ex expression s ≡ Some (v, rest) → TokenTwice expression s s' v rest back
    unfolding patch_read patch_pieces patch_piece token_number is_expression tail_of bytes_of piece_bytes size
    expression-twice q =
        let c : ExpressionRead s (v, rest) = all_of (ExpressionRead s) (expression-read s) q in
        let d : ExpressionRead s' (patch_read f v, back) = all_of (ExpressionRead s') (expression-read s') (again expression q) in
        let ps : d.pieces ≡ patch_pieces f c.pieces =
        sym (ap (λ (r : Read). tail_of r.pieces) d.shape) ∙ ap (λ (r : Read). tail_of (patch_pieces f r.pieces)) c.shape in
        let st : d.it.start ≡ c.it.start = sym (ap (λ (r : Read). r.start) d.shape) ∙ ap (λ (r : Read). r.start) c.shape in
        let b : List ℕ = bytes_of big (patch_pieces f c.pieces) in
        let whole : bytes_of big (patch_pieces f v.pieces) ≡ c.length-bytes ++ b = ap (λ (r : Read). bytes_of big (patch_pieces f r.pieces)) c.shape in
        let wide : size big d.it ≡ length (c.length-bytes ++ b) = d.wide ∙ ap length whole in
        let part : part_of big s' d.it ≡ b =
        ap (λ (n : ℕ). take (n - d.it.start) (drop d.it.start s')) wide
        ∙ ap₂ (λ (n : ℕ) (z : List ℕ). take (length (c.length-bytes ++ b) - n) (drop n z)) st (after ∙ ap (λ (z : List ℕ). z ++ back) whole)
        ∙ prefix-part (c.length-bytes ++ b) back c.it.start
        ∙ drop_at c.length-bytes b c.it.start c.length-width in
        record {
          it = c.it;
          is = c.is;
          wide = c.wide;
          it' = d.it;
          is' = d.is;
          wide' = d.wide ∙ patched-size;
          start = st;
          number = d.value ∙ sym c.value;
          bytes = (λ _ x. absurd x);
          operations = (λ _. record {
            pieces = c.pieces;
            were = c.inner;
            are = d.inner ∙ ap (λ (l : List Piece). Some l) ps;
            old_bytes = (λ h. sym (all_of (Exactly big in_expression (part_of big s c.it)) (expression-exactly e (part_of big s c.it) h) c.inner).0);
            new_bytes = part;
          });
        }

    pub token_twice : (t : Token) → token_in big ex t s ≡ Some (v, rest) → TokenTwice t s s' v rest back
    unfolding token_ok is_expression
    token_twice nothing q = verbatim-twice nothing tt tt (λ z. let y : ◌≡◌ {A = ℕ} 0 1 = cc in absurd (omega arith)) q
    token_twice (number k) q = verbatim-twice (number k) tt tt (λ z. let y : ◌≡◌ {A = ℕ} 0 1 = cc in absurd (omega arith)) q
    token_twice (bounded n) q = verbatim-twice (bounded n) tt tt (λ z. let y : ◌≡◌ {A = ℕ} 0 1 = cc in absurd (omega arith)) q
    token_twice forms q = verbatim-twice forms tt tt (λ z. let y : ◌≡◌ {A = ℕ} 0 1 = cc in absurd (omega arith)) q
    token_twice signed q = verbatim-twice signed tt tt (λ z. let y : ◌≡◌ {A = ℕ} 0 1 = cc in absurd (omega arith)) q
    token_twice (link k r) q = link-twice k r q
    token_twice string q = verbatim-twice string tt tt (λ z. let y : ◌≡◌ {A = ℕ} 0 1 = cc in absurd (omega arith)) q
    token_twice (run n) q = verbatim-twice (run n) tt tt (λ z. let y : ◌≡◌ {A = ℕ} 0 1 = cc in absurd (omega arith)) q
    token_twice (block k) q = verbatim-twice (block k) tt tt (λ z. let y : ◌≡◌ {A = ℕ} 0 1 = cc in absurd (omega arith)) q
    token_twice expression q = expression-twice q
    token_twice unknown q = verbatim-twice unknown tt tt (λ z. let y : ◌≡◌ {A = ℕ} 0 1 = cc in absurd (omega arith)) q
