-- The law of layouts holds of expressions too, nested ones included.
use mathlib.Core.Path.{◌≡◌, refl, ap, ap₂, sym, ◌∙◌}
use Prim.Native.Nat.{ℕ, zero, suc, ◌+◌, ◌≤◌, ◌<◌}
use mathlib.Core.Bool.{Bool}
use Rattle.std.specs.Prelude.{Some}
use mathlib.Core.List.{List, [], ◌∷◌, ◌++◌}
use native.Mathlib.Omega.{arith}
use lib.ListN.{length, take, drop, length-append, length-take}
use lib.Seq.{length-take-le}
use Rattle.readers.specs.Choice.{bind}
use Rattle.readers.proofs.Choice.{bind-at, bind-cong, check-cong, All, all-some, all_none, all-bind, all_both, all_map, all-triv, took-length}
use Rattle.readers.specs.Numbers.{uleb}
use Rattle.readers.specs.Layout.{fixed, width, Encoded, infixed, inleb, Token, nothing, number, bounded, forms, signed, link, string, run, block, expression, unknown, Layout, done, fail, field, Piece, Read, ReadOf, ExpressionReader, number_in, as_number, copy, as_expression, token_in, read_in, before, bytes_of, piece_bytes, write_all, Patch, patch_pieces, patch_read, patch_all, verbatim}
use Rattle.readers.proofs.LayoutLaws.{kind_of, NumberLaw, number-law, LebLaw, uleb-law, TokenLaw, token-law, ReadLaw, read-law, FitPieces, FitAll, WholeLaw, ExpressionLaw, bytes-append, patch-append, fit_append, same_size}
use Rattle.readers.specs.Operations.{operation}
use Rattle.readers.specs.declared.cursor.Encoding.{Encoding}
use Rattle.readers.specs.Expression.{all_pieces, and_rest, big, expression_in, expression_within}

-- ---- pieces of reads, written and patched

pub write-pieces : (big : Bool) (rs : List Read) → bytes_of big (all_pieces rs) ≡ write_all big rs
unfolding all_pieces write_all bytes_of
write-pieces big [] = refl
write-pieces big (r ∷ rs) = bytes-append big r.pieces (all_pieces rs) ∙ ap (λ x. bytes_of big r.pieces ++ x) (write-pieces big rs)

pub patch-pieces : (f : Patch) (rs : List Read) → patch_pieces f (all_pieces rs) ≡ all_pieces (patch_all f rs)
unfolding all_pieces patch_all patch_pieces patch_read
patch-pieces f [] = refl
patch-pieces f (r ∷ rs) = patch-append f r.pieces (all_pieces rs) ∙ ap (λ x. patch_pieces f r.pieces ++ x) (patch-pieces f rs)

pub fit-pieces : (f : Patch) (rs : List Read) → FitPieces f (all_pieces rs) → FitAll f rs
unfolding all_pieces FitAll FitPieces
fit-pieces f [] h = tt
fit-pieces f (r ∷ rs) h =
    let q : FitPieces f r.pieces × FitPieces f (all_pieces rs) = fit_append f r.pieces (all_pieces rs) h in
    (q.0, fit-pieces f rs q.1)

-- ---- an operation takes at least its code

one-wide : (t : Encoded) → kind_of t ≡ fixed 1 → 0 < width t
unfolding kind_of width
one-wide (infixed w) q = let h : w ≡ 1 = cc in omega arith
one-wide (inleb n) q = omega arith

module _ (b : Bool) (ex : ExpressionReader) where
  pub takes-byte : (k : ℕ → Layout) (s : List ℕ) → All (λ r. 0 < length (write_all b r.0)) (read_in b ex (field (number (fixed 1)) k) s)
  unfolding read_in token_in as_number copy write_all bytes_of piece_bytes before
  takes-byte k s =
      all-bind (λ r. 0 < length (bytes_of b r.0.pieces)) _ (token_in b ex (number (fixed 1)) s) _
      (all-bind (NumberLaw b (fixed 1) s) _ (number_in b (fixed 1) s) _ (number-law b (fixed 1) s)
      (λ t e q. all-some (λ r. 0 < length (bytes_of b r.0.pieces))
      (let w : 0 < width t.0 = one-wide t.0 q.0 in
      omega (arith, length-append (take (width t.0) s) [], length-take-le (width t.0) s q.1.0))))
      (λ r e q. all-bind (λ r'. Unit {0}) _ (read_in b ex (k r.0.seen) r.1) _ (all-triv _)
      (λ r' e' q'. all-some (λ z. 0 < length (write_all b z.0)) (omega (arith, length-append (bytes_of b r.0.pieces) (write_all b r'.0)))))

-- ---- the laws of expressions

module _ (e : Encoding) where
  within-nil : (f : ℕ) → expression_within e f [] ≡ Some []
  unfolding expression_within
  within-nil zero = refl
  within-nil (suc f) = refl

  within_step : (f : ℕ) (s : List ℕ) → 0 < length s
      → expression_within e (suc f) s ≡ bind (read_in (big e) (expression_within e f) (operation e) s) (and_rest (expression_within e f))
  unfolding expression_within
  within_step f [] h = absurd (omega arith)
  within_step f (b ∷ s) h = refl

  nil-law : (f : ℕ) → WholeLaw (big e) (expression_within e f) [] []
  unfolding bytes_of patch_pieces
  nil-law f = (refl, λ p _. within-nil f)

  operation-law : (ex : ExpressionReader) → ExpressionLaw (big e) ex → (s : List ℕ)
      → All (λ r. ReadLaw (big e) ex (operation e) s r × (0 < length (write_all (big e) r.0))) (read_in (big e) ex (operation e) s)
  unfolding operation
  operation-law ex law s = all_both _ _ _ (read-law (big e) ex law (operation e) s) (takes-byte (big e) ex _ s)

  cons-law : (f : ℕ) → ExpressionLaw (big e) (expression_within e f) → (s : List ℕ)
      → All (WholeLaw (big e) (expression_within e (suc f)) s) (bind (read_in (big e) (expression_within e f) (operation e) s) (and_rest (expression_within e f)))
  unfolding and_rest
  cons-law f law s =
      all-bind (λ r. ReadLaw (big e) (expression_within e f) (operation e) s r × (0 < length (write_all (big e) r.0))) _
      (read_in (big e) (expression_within e f) (operation e) s) _ (operation-law (expression_within e f) law s)
      (λ r e1 q. all-bind (WholeLaw (big e) (expression_within e f) r.1) _ (expression_within e f r.1) _ (law r.1)
      (λ qs e2 q'. all-some (WholeLaw (big e) (expression_within e (suc f)) s) (
        ap length (bytes-append (big e) (all_pieces r.0) qs) ∙ length-append (bytes_of (big e) (all_pieces r.0)) (bytes_of (big e) qs)
            ∙ ap₂ ◌+◌ (ap length (write-pieces (big e) r.0)) q'.0 ∙ sym (took-length s _ r.1 q.0.0),
        λ p h.
            let hh : FitPieces p (all_pieces r.0) × FitPieces p qs = fit_append p (all_pieces r.0) qs h in
            let a : List ℕ = write_all (big e) (patch_all p r.0) in
            let b : List ℕ = bytes_of (big e) (patch_pieces p qs) in
            let ea : bytes_of (big e) (patch_pieces p (all_pieces r.0)) ≡ a =
            ap (bytes_of (big e)) (patch-pieces p r.0) ∙ write-pieces (big e) (patch_all p r.0) in
            let la : length a ≡ length (write_all (big e) r.0) =
            ap length (sym ea) ∙ same_size (big e) p (all_pieces r.0) ∙ ap length (write-pieces (big e) r.0) in
            let en : patch_pieces p (all_pieces r.0 ++ qs) ≡ all_pieces (patch_all p r.0) ++ patch_pieces p qs =
            patch-append p (all_pieces r.0) qs ∙ ap (λ x. x ++ patch_pieces p qs) (patch-pieces p r.0) in
            ap (expression_within e (suc f))
            (ap (bytes_of (big e)) (patch-append p (all_pieces r.0) qs)
            ∙ bytes-append (big e) (patch_pieces p (all_pieces r.0)) (patch_pieces p qs)
            ∙ ap (λ x. x ++ b) ea)
            ∙ within_step f (a ++ b) (omega (arith, length-append a b))
            ∙ bind-at _ (q.0.1 p b (fit-pieces p r.0 hh.0))
            ∙ bind-at _ (q'.1 p hh.1)
            ∙ ap (λ (x : List Piece). Some x) (sym en),
      )))

  pub within-law : (f : ℕ) → ExpressionLaw (big e) (expression_within e f)
  unfolding expression_within
  within-law zero [] = all-some (WholeLaw (big e) (expression_within e zero) []) (nil-law zero)
  within-law zero (b ∷ s) = all_none _
  within-law (suc f) [] = all-some (WholeLaw (big e) (expression_within e (suc f)) []) (nil-law (suc f))
  within-law (suc f) (b ∷ s) = cons-law f (within-law f) (b ∷ s)

  -- what was read of an expression is as wide as it is; patched at its own widths it is read again as patched
  pub expression-law : ExpressionLaw (big e) (expression_in e)
  unfolding expression_in
  expression-law s =
      all_map (WholeLaw (big e) (expression_within e (length s)) s) (WholeLaw (big e) (expression_in e) s) (expression_within e (length s) s)
      (λ ps q. (q.0, λ f h. ap (λ n. expression_within e n (bytes_of (big e) (patch_pieces f ps))) (same_size (big e) f ps ∙ q.0) ∙ q.1 f h))
      (within-law (length s) s)

-- ---- the same without the count

module _ (b : Bool) (ex ex' : ExpressionReader) (lawless : ExpressionLaw b ex') where
  abbrev Same : ℕ → Type 0
  Same n = (s : List ℕ) → length s ≤ n → ex s ≡ ex' s

  token-same : (n : ℕ) → Same n → (t : Token) (s : List ℕ) → length s ≤ n → token_in b ex t s ≡ token_in b ex' t s
  unfolding token_in as_expression
  token-same n h nothing s l = refl
  token-same n h (number k) s l = refl
  token-same n h (bounded m) s l = refl
  token-same n h forms s l = refl
  token-same n h signed s l = refl
  token-same n h (link k r) s l = refl
  token-same n h string s l = refl
  token-same n h (run m) s l = refl
  token-same n h (block k) s l = refl
  token-same n h expression s l =
      bind-cong (LebLaw uleb s) (uleb s) _ _ (uleb-law s)
      (λ t e q. check-cong _ _ _ (λ u. ap (λ o. bind o (λ ps. Some (
        record { seen = 0; start = suc t.0; pieces = verbatim (take (suc t.0) s) ∷ ps },
        drop t.1 t.2,
      )))
      (h (take t.1 t.2) (omega (arith, length-take t.1 t.2, took-length s (suc t.0) t.2 q.0)))))
  token-same n h unknown s l = refl

  pub read_same : (n : ℕ) → Same n → (g : Layout) (s : List ℕ) → length s ≤ n → read_in b ex g s ≡ read_in b ex' g s
  unfolding read_in
  read_same n h done s l = refl
  read_same n h fail s l = refl
  read_same n h (field t k) s l =
      ap (λ o. bind o (λ r. bind (read_in b ex (k r.0.seen) r.1) (before r.0))) (token-same n h t s l)
      ∙ bind-cong (TokenLaw b ex' t s) (token_in b ex' t s) _ _ (token-law b ex' lawless t s)
      (λ r e q. ap (λ o. bind o (before r.0)) (read_same n h (k r.0.seen) r.1 (omega (arith, took-length s _ r.1 q.0))))

  -- a layout that begins with a byte leaves its expressions fewer bytes
  read-less : (k : ℕ → Layout) (s : List ℕ) → ((t : List ℕ) → length t < length s → ex t ≡ ex' t)
      → read_in b ex (field (number (fixed 1)) k) s ≡ read_in b ex' (field (number (fixed 1)) k) s
  unfolding read_in token_in as_number copy
  read-less k s h =
      bind-cong (λ r. length r.1 < length s) (bind (number_in b (fixed 1) s) (as_number s)) _ _
      (all-bind (NumberLaw b (fixed 1) s) _ (number_in b (fixed 1) s) _ (number-law b (fixed 1) s)
      (λ t e q. all-some (λ (r : ReadOf). length r.1 < length s)
      (let w : 0 < width t.0 = one-wide t.0 q.0 in
      let h : width t.0 ≤ length s = q.1.0 in
      omega (arith, lib.ListN.length-drop (width t.0) s))))
      (λ r e q. ap (λ o. bind o (before r.0)) (read_same (length r.1) (λ t l. h t (omega arith)) (k r.0.seen) r.1 (omega arith)))

module _ (e : Encoding) where
  operation-less : (ex ex' : ExpressionReader) → ExpressionLaw (big e) ex' → (s : List ℕ) → ((t : List ℕ) → length t < length s → ex t ≡ ex' t)
      → read_in (big e) ex (operation e) s ≡ read_in (big e) ex' (operation e) s
  unfolding operation
  operation-less ex ex' law s h = read-less (big e) ex ex' law _ s h

  one-step : (ex ex' : ExpressionReader) → ExpressionLaw (big e) ex' → (s : List ℕ) → ((t : List ℕ) → length t < length s → ex t ≡ ex' t)
      → bind (read_in (big e) ex (operation e) s) (and_rest ex) ≡ bind (read_in (big e) ex' (operation e) s) (and_rest ex')
  unfolding and_rest
  one-step ex ex' law s h =
      ap (λ o. bind o (and_rest ex)) (operation-less ex ex' law s h)
      ∙ bind-cong (λ r. ReadLaw (big e) ex' (operation e) s r × (0 < length (write_all (big e) r.0))) (read_in (big e) ex' (operation e) s) _ _
      (operation-law e ex' law s)
      (λ r e1 q. ap (λ o. bind o (λ qs. Some (all_pieces r.0 ++ qs))) (h r.1 (omega (arith, took-length s _ r.1 q.0.0))))

  -- any count that is large enough gives the same
  same : (f g : ℕ) (s : List ℕ) → length s ≤ f → length s ≤ g → expression_within e f s ≡ expression_within e g s
  unfolding expression_within
  same zero zero s hf hg = refl
  same zero (suc g) [] hf hg = refl
  same zero (suc g) (b ∷ s) hf hg = absurd (let h : suc (length s) ≤ 0 = hf in omega arith)
  same (suc f) zero [] hf hg = refl
  same (suc f) zero (b ∷ s) hf hg = absurd (let h : suc (length s) ≤ 0 = hg in omega arith)
  same (suc f) (suc g) [] hf hg = refl
  same (suc f) (suc g) (b ∷ s) hf hg =
      one-step (expression_within e f) (expression_within e g) (within-law e g) (b ∷ s)
      (λ t l. same f g t (let h : suc (length s) ≤ suc f = hf in let k : suc (length t) ≤ suc (length s) = l in omega arith)
      (let h : suc (length s) ≤ suc g = hg in let k : suc (length t) ≤ suc (length s) = l in omega arith))

  -- THE EQUATIONS of expressions
  pub expression-none : expression_in e [] ≡ Some []
  unfolding expression_in expression_within
  expression-none = refl

  pub expression-more : (s : List ℕ) → 0 < length s → expression_in e s ≡ bind (read_in (big e) (expression_in e) (operation e) s) (and_rest (expression_in e))
  unfolding expression_in expression_within
  expression-more [] h = absurd (omega arith)
  expression-more (b ∷ s) h =
      one-step (expression_within e (length s)) (expression_in e) (expression-law e) (b ∷ s)
      (λ t l. same (length s) (length t) t (let k : suc (length t) ≤ suc (length s) = l in omega arith) (omega arith))
