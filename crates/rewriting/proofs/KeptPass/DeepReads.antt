-- What is read deep, its expressions operation by operation, is read as bytes too: with the same values seen, the same widths and the same rest.
-- So the step over an entry or a terminator goes by a deep reading of it, and comes as far. Assumes nothing.
use mathlib.Core.Path.{◌≡◌, refl, ap, ap₂, sym, ◌∙◌, subst}
use Prim.Native.Nat.{ℕ, suc, ◌+◌, ◌≤◌, ◌<◌}
use mathlib.Core.Bool.{Bool, not}
use Rattle.std.specs.Prelude.{None, Option, Some}
use Rattle.readers.specs.declared.entries.Step.{Step}
use mathlib.Core.List.{List, [], ◌∷◌, ◌++◌}
use mathlib.Core.Logic.{◌⊎◌, inl, inr, ⊎_elim}
use native.Mathlib.Omega.{arith}
use lib.ListN.{length, take, drop, length-append, length-drop}
use lib.Seq.{length-take-le}
use lib.Dec.{T, eqb}
use mir.Facts.{yes_ltb}
use Rattle.readers.specs.Choice.{pick, bind}
use Rattle.readers.proofs.Choice.{pick_yes, pick_no, either, check-yes, bind-at, All, all-some, all_none, all_of, all-check, all-bind, all-triv}
use Rattle.readers.specs.Numbers.{uleb}
use Rattle.readers.specs.Layout.{leb128, width, Encoded, infixed, inleb, Token, nothing, number, bounded, forms, signed, link, string, run, block, expression, unknown, Layout, done, fail, field, verbatim, Read, ReadOf, RunOf, ExpressionReader, as_bytes, number_in, as_number, copy, as_expression, token_in, read_in, before, bytes_of, piece_bytes, write_all, Patch, patch_read, patch_all}
use Rattle.readers.proofs.LayoutLaws.{kind_of, NumberLaw, number-law, LebLaw, uleb-law, ReadLaw, read-law, WholeLaw, ExpressionLaw, same_size}
use Rattle.readers.specs.Fields.{size}
use Rattle.readers.specs.Cursors.{cursor}
use Rattle.readers.specs.Entries.{found_layout, entry_layout, entry_found, step_of_reads, as_step, step_at}
use Rattle.readers.specs.declared.cursor.Encoding.{Encoding}
use Rattle.readers.specs.declared.abbreviations.Declaration.{Declaration}
use Rattle.readers.specs.declared.entries.Step.TheVariants.{Entry as Entry', Terminator, End}

-- ---- reads that see the same and are as wide, one by one

unfoldable pub Like : Bool → List Read → List Read → Type 0
Like big [] [] = Unit {0}
Like big [] (q ∷ qs) = ⊥
Like big (r ∷ rs) [] = ⊥
Like big (r ∷ rs) (q ∷ qs) = (r.seen ≡ q.seen) × (size big r ≡ size big q) × Like big rs qs

pub like-width : (big : Bool) (rs qs : List Read) → Like big rs qs → length (write_all big rs) ≡ length (write_all big qs)
unfolding Like write_all size
like-width big [] [] h = refl
like-width big [] (q ∷ qs) h = absurd h
like-width big (r ∷ rs) [] h = absurd h
like-width big (r ∷ rs) (q ∷ qs) h =
    length-append (bytes_of big r.pieces) (write_all big rs)
    ∙ ap₂ ◌+◌ h.1 (like-width big rs qs h.2)
    ∙ sym (length-append (bytes_of big q.pieces) (write_all big qs))

-- patched reads are like the reads
pub like-patched : (big : Bool) (f : Patch) (rs : List Read) → Like big (patch_all f rs) rs
unfolding Like patch_all patch_read size
like-patched big f [] = tt
like-patched big f (r ∷ rs) = (refl, same_size big f r.pieces, like-patched big f rs)

-- ---- as bytes: a token, a layout

module _ (big : Bool) (ex : ExpressionReader) where
  pub record TokenAsBytes (t : Token) (s : List ℕ) (r : ReadOf) : Type 0 where
    pub it : Read
    pub is : token_in big as_bytes t s ≡ Some (it, r.1)
    pub alike : r.0.seen ≡ it.seen
    pub wide : size big r.0 ≡ size big it

  same-token : (t : Token) (s : List ℕ) (o : Option ReadOf) → token_in big as_bytes t s ≡ o → All (TokenAsBytes t s) o
  unfolding All
  same-token t s None q = tt
  same-token t s (Some r) q = record { it = r.0; is = q; alike = refl; wide = refl }

  pub record LayoutAsBytes (g : Layout) (s : List ℕ) (r : RunOf) : Type 0 where
    pub those : List Read
    pub are : read_in big as_bytes g s ≡ Some (those, r.1)
    pub like : Like big r.0 those

  module _ (law : ExpressionLaw big ex) where
    expression-as-bytes : (s : List ℕ) → All (TokenAsBytes expression s) (token_in big ex expression s)
    unfolding token_in as_expression as_bytes size bytes_of piece_bytes bind
    expression-as-bytes s =
        all-bind (LebLaw uleb s) _ (uleb s) _ (uleb-law s)
        (λ t q u. all-check _ _ _ (λ w.
        all-bind (WholeLaw big ex (take t.1 t.2)) _ (ex (take t.1 t.2)) _ (law (take t.1 t.2))
        (λ ps q' whole.
        let a : List ℕ = take (suc t.0) s in
        let b : List ℕ = take t.1 t.2 in
        all-some (TokenAsBytes expression s) (record {
          it = record { seen = 0; start = suc t.0; pieces = verbatim a ∷ verbatim b ∷ [] };
          is = bind-at _ q ∙ check-yes _ _ w;
          alike = refl;
          wide =
              (let n : length (a ++ bytes_of big ps) ≡ length (a ++ (b ++ [])) =
              omega (arith, whole.0, length-append a (bytes_of big ps), length-append a (b ++ []), length-append b []) in n);
        }))))

    pub token-as-bytes : (t : Token) (s : List ℕ) → All (TokenAsBytes t s) (token_in big ex t s)
    unfolding token_in
    token-as-bytes nothing s = same-token nothing s _ refl
    token-as-bytes (number k) s = same-token (number k) s _ refl
    token-as-bytes (bounded n) s = same-token (bounded n) s _ refl
    token-as-bytes forms s = same-token forms s _ refl
    token-as-bytes signed s = same-token signed s _ refl
    token-as-bytes (link k r) s = same-token (link k r) s _ refl
    token-as-bytes string s = same-token string s _ refl
    token-as-bytes (run n) s = same-token (run n) s _ refl
    token-as-bytes (block k) s = same-token (block k) s _ refl
    token-as-bytes expression s = expression-as-bytes s
    token-as-bytes unknown s = same-token unknown s _ refl

    pub all-as-bytes : (g : Layout) (s : List ℕ) → All (LayoutAsBytes g s) (read_in big ex g s)
    unfolding read_in before Like
    all-as-bytes done s = all-some (LayoutAsBytes done s) (record { those = []; are = refl; like = tt })
    all-as-bytes fail s = all_none _
    all-as-bytes (field t k) s =
        all-bind (TokenAsBytes t s) _ (token_in big ex t s) _ (token-as-bytes t s)
        (λ r e q. all-bind (LayoutAsBytes (k r.0.seen) r.1) _ (read_in big ex (k r.0.seen) r.1) _ (all-as-bytes (k r.0.seen) r.1)
        (λ r' e' q'. all-some (LayoutAsBytes (field t k) s) (record {
          those = q.it ∷ q'.those;
          are = bind-at _ q.is ∙ bind-at _ (ap (λ n. read_in big as_bytes (k n) r.1) (sym q.alike) ∙ q'.are);
          like = (q.alike, q.wide, q'.like);
        })))

    -- what is read deep is read as bytes, with the same values seen, the same widths and the same rest
    pub as_bytes_lem : (g : Layout) (s : List ℕ) (rs : List Read) (rest : List ℕ) → read_in big ex g s ≡ Some (rs, rest) → LayoutAsBytes g s (rs, rest)
    as_bytes_lem g s rs rest h = all_of (LayoutAsBytes g s) (all-as-bytes g s) h

-- ---- a layout that begins with a LEB128 number takes at least a byte

leb-wide : (t : Encoded) → kind_of t ≡ leb128 → 0 < width t
unfolding kind_of width
leb-wide (infixed w) q = let z : ◌≡◌ {A = ℕ} 0 1 = cc in absurd (omega arith)
leb-wide (inleb n) q = omega arith

takes-leb : (b : Bool) (ex : ExpressionReader) (k : ℕ → Layout) (s : List ℕ) → All (λ r. 0 < length (write_all b r.0)) (read_in b ex (field (number leb128) k) s)
unfolding read_in token_in as_number copy write_all bytes_of piece_bytes before
takes-leb b ex k s =
    all-bind (λ r. 0 < length (bytes_of b r.0.pieces)) _ (token_in b ex (number leb128) s) _
    (all-bind (NumberLaw b leb128 s) _ (number_in b leb128 s) _ (number-law b leb128 s)
    (λ t e q. all-some (λ r. 0 < length (bytes_of b r.0.pieces))
    (let w : 0 < width t.0 = leb-wide t.0 q.0 in omega (arith, length-append (take (width t.0) s) [], length-take-le (width t.0) s q.1.0))))
    (λ r e q. all-bind (λ r'. Unit {0}) _ (read_in b ex (k r.0.seen) r.1) _ (all-triv _)
    (λ r' e' q'. all-some (λ z. 0 < length (write_all b z.0)) (omega (arith, length-append (bytes_of b r.0.pieces) (write_all b r'.0)))))

-- ---- entries and terminators

-- where a step comes to, if it is one over an entry or a terminator
unfoldable pub EndsAt : ℕ → Option Step → Type 0
EndsAt n (Some (Entry' x)) = x.next.at ≡ n
EndsAt n (Some (Terminator c)) = c.at ≡ n
EndsAt n (Some End) = ⊥
EndsAt n None = ⊥

module _ (e : Encoding) (abbreviations : List ℕ) (look : ℕ → Option Declaration) where
  abbrev order : Bool
  order = e.big_endian

  -- the step over what was read goes by the values seen and the widths
  pub like-step : (at : ℕ) (rs qs : List Read) → Like order rs qs → step_of_reads e abbreviations look at rs ≡ step_of_reads e abbreviations look at qs
  unfolding Like step_of_reads
  like-step at [] [] h = refl
  like-step at [] (q ∷ qs) h = absurd h
  like-step at (r ∷ rs) [] h = absurd h
  like-step at (r ∷ rs) (q ∷ qs) h =
      ap₂ (λ (c w : ℕ). pick (eqb c 0) (Some (Terminator (cursor (at + w)))) (entry_found e abbreviations look at (at + w) (at + w + length (write_all order rs)) (look c))) h.0 h.1
      ∙ ap (λ (n : ℕ). pick (eqb q.seen 0) (Some (Terminator (cursor (at + size order q)))) (entry_found e abbreviations look at (at + size order q) (at + size order q + n) (look q.seen)))
      (like-width order rs qs h.2)

  -- what the reads of a terminator are, and those of an entry
  pub record TerminatorRead (rs : List Read) : Type 0 where
    pub code : Read
    pub is : rs ≡ code ∷ []
    pub zero : T (eqb code.seen 0)

  pub record EntryRead (rs : List Read) : Type 0 where
    pub code : Read
    pub others : List Read
    pub is : rs ≡ code ∷ others
    pub other : T (not (eqb code.seen 0))
    pub declaration : Declaration
    pub found : look code.seen ≡ Some declaration

  abbrev pub Sort : RunOf → Type 0
  Sort r = TerminatorRead r.0 ⊎ EntryRead r.0

  module _ (ex : ExpressionReader) where
    found-kind : (c : Read) → T (not (eqb c.seen 0)) → (s : List ℕ) (f : Option Declaration) → look c.seen ≡ f
        → All Sort (bind (read_in order ex (found_layout e abbreviations look f) s) (before c))
    unfolding found_layout before bind read_in
    found-kind c t s (Some d) h =
        all-bind _ _ (read_in order ex (found_layout e abbreviations look (Some d)) s) _ (all-triv _)
        (λ r q _. all-some Sort (inr (record { code = c; others = r.0; is = refl; other = t; declaration = d; found = h })))
    found-kind c t s None h = all_none _

    pub kind-read : (s : List ℕ) → All Sort (read_in order ex (entry_layout e abbreviations look) s)
    unfolding read_in entry_layout before bind
    kind-read s =
        all-bind _ _ (token_in order ex (number leb128) s) _ (all-triv (token_in order ex (number leb128) s))
        (λ r q _. ⊎_elim
        (λ t. subst (λ g. All Sort (bind (read_in order ex g r.1) (before r.0))) (sym (pick_yes _ _ _ t))
        (all-some Sort (inl (record { code = r.0; is = refl; zero = t }))))
        (λ t. subst (λ g. All Sort (bind (read_in order ex g r.1) (before r.0))) (sym (pick_no _ _ _ t))
        (found-kind r.0 t r.1 (look r.0.seen) refl))
        (either (eqb r.0.seen 0)))

  pub terminator-step : (at : ℕ) (rs : List Read) → TerminatorRead rs → step_of_reads e abbreviations look at rs ≡ Some (Terminator (cursor (at + length (write_all order rs))))
  unfolding step_of_reads write_all size
  terminator-step at rs h =
      ap (step_of_reads e abbreviations look at) h.is
      ∙ pick_yes _ _ _ h.zero
      ∙ ap (λ (n : ℕ). Some (Terminator (cursor (at + n))))
      (let n : length (bytes_of order h.code.pieces) ≡ length (bytes_of order h.code.pieces ++ []) = omega (arith, length-append (bytes_of order h.code.pieces) []) in n)
      ∙ ap (λ l. Some (Terminator (cursor (at + length (write_all order l))))) (sym h.is)

  pub entry-step : (at : ℕ) (rs : List Read) (h : EntryRead rs)
      → step_of_reads e abbreviations look at rs
      ≡ Some (Entry' (record { offset = record { 0 = at }; declaration = h.declaration; values = cursor (at + size order h.code); next = cursor (at + length (write_all order rs)) }))
  unfolding step_of_reads entry_found write_all size
  entry-step at rs h =
      let a : List ℕ = bytes_of order h.code.pieces in
      let b : List ℕ = write_all order h.others in
      ap (step_of_reads e abbreviations look at) h.is
      ∙ pick_no _ _ _ h.other
      ∙ ap (entry_found e abbreviations look at (at + length a) (at + length a + length b)) h.found
      ∙ ap (λ (n : ℕ). Some (Entry' (record { offset = record { 0 = at }; declaration = h.declaration; values = cursor (at + length a); next = cursor n })))
      (let n : at + length a + length b ≡ at + length (a ++ b) = omega (arith, length-append a b) in n)
      ∙ ap (λ l. Some (Entry' (record { offset = record { 0 = at }; declaration = h.declaration; values = cursor (at + length a); next = cursor (at + length (write_all order l)) }))) (sym h.is)

  module _ (ex : ExpressionReader) (law : ExpressionLaw order ex) (unit : List ℕ) (at : ℕ) (rs : List Read) (rest : List ℕ)
      (deep : read_in order ex (entry_layout e abbreviations look) (drop at unit) ≡ Some (rs, rest)) where
    abbrev deep_law : ReadLaw order ex (entry_layout e abbreviations look) (drop at unit) (rs, rest)
    deep_law = all_of (ReadLaw order ex (entry_layout e abbreviations look) (drop at unit)) (read-law order ex law (entry_layout e abbreviations look) (drop at unit)) deep

    pub deep-takes : 0 < length (write_all order rs)
    unfolding entry_layout
    deep-takes = all_of (λ (r : RunOf). 0 < length (write_all order r.0)) (takes-leb order ex _ (drop at unit)) deep

    pub deep-inside : at + length (write_all order rs) ≤ length unit
    deep-inside =
        let l : length (write_all order rs) ≤ length (drop at unit) = deep_law.0.0 in
        omega (arith, deep-takes, length-drop at unit)

    -- the step at a place goes by the deep reading there
    pub deep_step : step_at e abbreviations look unit at ≡ step_of_reads e abbreviations look at rs
    unfolding step_at as_step
    deep_step =
        let b : LayoutAsBytes order ex (entry_layout e abbreviations look) (drop at unit) (rs, rest) = as_bytes_lem order ex law (entry_layout e abbreviations look) (drop at unit) rs rest deep in
        pick_yes _ _ _ (yes_ltb {a = at} {b = length unit} (omega (arith, deep-takes, deep-inside)))
        ∙ ap (as_step e abbreviations look at) b.are
        ∙ sym (like-step at rs b.those b.like)

    pub deep-kind : TerminatorRead rs ⊎ EntryRead rs
    deep-kind = all_of Sort (kind-read ex (drop at unit)) deep

    pub deep-terminator : TerminatorRead rs → step_at e abbreviations look unit at ≡ Some (Terminator (cursor (at + length (write_all order rs))))
    deep-terminator h = deep_step ∙ terminator-step at rs h

    pub deep-entry : (h : EntryRead rs) → step_at e abbreviations look unit at
        ≡ Some (Entry' (record { offset = record { 0 = at }; declaration = h.declaration; values = cursor (at + size order h.code); next = cursor (at + length (write_all order rs)) }))
    deep-entry h = deep_step ∙ entry-step at rs h

    -- it is one over an entry or a terminator, and comes to where the deep reading does
    pub deep-ends : EndsAt (at + length (write_all order rs)) (step_at e abbreviations look unit at)
    unfolding EndsAt
    deep-ends = ⊎_elim (λ h. rw (deep-terminator h) refl) (λ h. rw (deep-entry h) refl) deep-kind
