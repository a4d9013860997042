-- THE LAW OF LAYOUTS, `read-law`: what was read takes so many bytes; it is read so again whatever follows; patched at its own
-- widths it is read again as patched.
use mathlib.Core.Path.{◌≡◌, refl, ap, ap₂, sym, ◌∙◌, subst}
use Prim.Native.Nat.{ℕ, zero, suc, ◌+◌, ◌^◌, ◌≤◌, ◌<◌}
use mathlib.Core.Bool.{Bool, not}
use Rattle.std.specs.Prelude.{None, Option, Some}
use mathlib.Core.List.{List, [], ◌∷◌, ◌++◌, append_assoc, append-nil}
use native.Mathlib.Omega.{arith}
use lib.ListN.{length, take, drop, length-append, length-drop}
use lib.Seq.{length-take-le, take_at, drop_at, take-append-le, take-take, take-add}
use lib.Dec.{T, leb, ltb, eqb}
use mir.Facts.{yes_ltb, ltb_yes, yes_leb, leb_yes}
use Rattle.readers.specs.Choice.{pick, bind, ◌and◌}
use Rattle.readers.proofs.Choice.{pick_yes, pick_no, and_both, both-and, check-yes, bind-at, bind-none, bind-cong, All, all-some, all_none, all_of, all-pick, all-check, all-bind, all_map, all-triv, Took, took-none, took-add, took-length}
use Rattle.readers.specs.Numbers.{Groups, groups, uleb, unsigned64, sleb, signed64, fixed_bytes, fixed_value}
use Rattle.readers.proofs.Numbers.{GroupsLaw, groups-law, groups-padded, length-padded, length-fixed, fixed-value}
use Rattle.readers.specs.Layout.{Encoded, ExpressionReader, Fit, fits, ReadFound, Kind, Layout, Patch, Piece, Read, ReadOf, Role, RunOf, Token, after_form, as_block, as_bounded, as_bytes, as_expression, as_forms, as_leb, as_link, as_number, as_signed, as_string, before, block, bounded, bytes_of, verbatim, copy, done, expression, fail, field, fixed, forms, forms_in, forms_within, infixed, inleb, leb128, link, patchable, nothing, number, number_bytes, number_in, patch_all, patch_piece, patch_pieces, patch_read, piece_bytes, read_in, run, short, signed, string, string_in, token_in, unknown, width, within16, write_all}

unfoldable pub kind_of : Encoded → Kind
kind_of (infixed w) = fixed w
kind_of (inleb n) = leb128

unfoldable pub FitPiece : Patch → Piece → Type 0
FitPiece f (verbatim l) = Unit {0}
FitPiece f (patchable e r v) = Fit e (f r v)

unfoldable pub FitPieces : Patch → List Piece → Type 0
FitPieces f [] = Unit {0}
FitPieces f (p ∷ ps) = FitPiece f p × FitPieces f ps

unfoldable pub FitAll : Patch → List Read → Type 0
FitAll f [] = Unit {0}
FitAll f (r ∷ rs) = FitPieces f r.pieces × FitAll f rs

-- ---- the laws

-- n bytes of s before any rest: what a reading that takes n bytes sees
module _ (s rest : List ℕ) (n : ℕ) (h : n ≤ length s) where
  length-kept : length (take n s) ≡ n
  length-kept = length-take-le n s h

  kept-take : (m : ℕ) → m ≤ n → take m (take n s ++ rest) ≡ take m s
  kept-take m k =
      take-append-le m (take n s) rest (let l : length (take n s) ≡ n = length-kept in omega arith) ∙ take-take m n s k

  kept-drop : drop n (take n s ++ rest) ≡ rest
  kept-drop = drop_at (take n s) rest n length-kept

  kept-fits : n ≤ length (take n s ++ rest)
  kept-fits = let l : length (take n s) ≡ n = length-kept in omega (arith, length-append (take n s) rest)

-- a number that can be written so, by its parts
pub fixed-fit : (w v : ℕ) → Fit (infixed w) v → (w ≤ 8) × (v < 256 ^ w)
unfolding fits
fixed-fit w v h = let p = and_both (leb w 8) (ltb v (256 ^ w)) h in (leb_yes {a = w} {b = 8} p.0, ltb_yes {a = v} {b = 256 ^ w} p.1)

pub fit-fixed : (w v : ℕ) → w ≤ 8 → v < 256 ^ w → Fit (infixed w) v
unfolding fits
fit-fixed w v h k = both-and (leb w 8) (ltb v (256 ^ w)) (yes_leb {a = w} {b = 8} h) (yes_ltb {a = v} {b = 256 ^ w} k)

pub leb-fit : (n v : ℕ) → Fit (inleb n) v → (n < 10) × (v < 128 ^ suc n) × (v < 2 ^ 64)
unfolding fits
leb-fit n v h =
    let p = and_both (ltb n 10) (ltb v (128 ^ suc n) and ltb v (2 ^ 64)) h in
    let q = and_both (ltb v (128 ^ suc n)) (ltb v (2 ^ 64)) p.1 in
    (ltb_yes {a = n} {b = 10} p.0, ltb_yes {a = v} {b = 128 ^ suc n} q.0, ltb_yes {a = v} {b = 2 ^ 64} q.1)

pub fit-leb : (n v : ℕ) → n < 10 → v < 128 ^ suc n → v < 2 ^ 64 → Fit (inleb n) v
unfolding fits
fit-leb n v h k l =
    both-and (ltb n 10) (ltb v (128 ^ suc n) and ltb v (2 ^ 64)) (yes_ltb {a = n} {b = 10} h)
    (both-and (ltb v (128 ^ suc n)) (ltb v (2 ^ 64)) (yes_ltb {a = v} {b = 128 ^ suc n} k) (yes_ltb {a = v} {b = 2 ^ 64} l))

module _ (big : Bool) where
  -- ---- numbers: written and read

  pub length-number : (e : Encoded) (v : ℕ) → length (number_bytes big e v) ≡ width e
  unfolding number_bytes width
  length-number (infixed w) v = length-fixed big w v
  length-number (inleb n) v = length-padded n v

  pub number-written : (e : Encoded) (v : ℕ) (rest : List ℕ) → Fit e v → number_in big (kind_of e) (number_bytes big e v ++ rest) ≡ Some (e, v, rest)
  unfolding number_bytes kind_of number_in uleb unsigned64 as_leb
  number-written (infixed w) v rest h =
      let l : length (fixed_bytes big w v) ≡ w = length-fixed big w v in
      let t : take w (fixed_bytes big w v ++ rest) ≡ fixed_bytes big w v = take_at (fixed_bytes big w v) rest w l in
      check-yes _ _ (yes_leb {a = w} {b = 8} (fixed-fit w v h).0)
      ∙ check-yes _ _ (yes_leb {a = w} {b = length (fixed_bytes big w v ++ rest)} (omega (arith, length-append (fixed_bytes big w v) rest)))
      ∙ ap₂ (λ (x : ℕ) (y : List ℕ). Some (infixed w, x, y)) (ap (fixed_value big) t ∙ fixed-value big w v (fixed-fit w v h).1) (drop_at (fixed_bytes big w v) rest w l)
  number-written (inleb n) v rest h =
      let p = leb-fit n v h in
      bind-at _ (bind-at _ (groups-padded 10 n v rest p.0 p.1) ∙ check-yes _ _ (yes_ltb {a = v} {b = 2 ^ 64} p.2))

  abbrev pub NumberLaw : Kind → List ℕ → ReadFound → Type 0
  NumberLaw k s t =
      (kind_of t.0 ≡ k) × Took s (width t.0) t.2
      × ((rest : List ℕ) → number_in big k (take (width t.0) s ++ rest) ≡ Some (t.0, t.1, rest))

  pub number-law : (k : Kind) (s : List ℕ) → All (NumberLaw k s) (number_in big k s)
  unfolding kind_of width number_in uleb unsigned64 as_leb
  number-law (fixed w) s =
      all-check _ _ _ (λ u8. all-check _ _ _ (λ u.
      all-some (NumberLaw (fixed w) s) (
        refl,
        (leb_yes u, refl),
        λ rest.
            check-yes _ _ u8
            ∙ check-yes _ _ (yes_leb {a = w} {b = length (take w s ++ rest)} (kept-fits s rest w (leb_yes u)))
            ∙ ap₂ (λ (x : List ℕ) (y : List ℕ). Some (infixed w, fixed_value big x, y))
            (take_at (take w s) rest w (length-take-le w s (leb_yes u))) (kept-drop s rest w (leb_yes u)),
      )))
  number-law leb128 s =
      all-bind (λ t. GroupsLaw 10 s t × (t.1 < 2 ^ 64)) _ (uleb s) _
      (all-bind (GroupsLaw 10 s) _ (groups 10 s) _ (groups-law 10 s) (λ a e q. all-check _ _ _ (λ u. all-some _ (q, ltb_yes u))))
      (λ a e q. all-some (NumberLaw leb128 s) (
        refl,
        (q.0.1, q.0.2),
        λ rest.
            bind-at _ (bind-at _ (q.0.3 rest) ∙ check-yes _ _ (yes_ltb {a = a.1} {b = 2 ^ 64} q.1)),
      ))

-- ---- LEB128 numbers: a reader that judges a number by how many bytes it has and by its value

abbrev pub LebLaw : (List ℕ → Option Groups) → List ℕ → Groups → Type 0
LebLaw R s t = Took s (suc t.0) t.2 × ((rest : List ℕ) → R (take (suc t.0) s ++ rest) ≡ Some (t.0, t.1, rest))

-- a judgement that goes by those two alone
abbrev Judges : (Groups → Option Groups) → Type 0
Judges judge = (n v : ℕ) (r : List ℕ) → All (λ t. (t.0 ≡ n) × (t.2 ≡ r) × ((r' : List ℕ) → judge (n, v, r') ≡ Some (t.0, t.1, r'))) (judge (n, v, r))

judged-law : (k : ℕ) (judge : Groups → Option Groups) → Judges judge → (s : List ℕ) → All (LebLaw (λ s. bind (groups k s) judge) s) (bind (groups k s) judge)
judged-law k judge J s =
    all-bind (GroupsLaw k s) _ (groups k s) judge (groups-law k s)
    (λ a e q. all_map _ _ (judge a)
    (λ t p. (
      (rw p.0 q.1, rw p.0 (p.1 ∙ q.2)),
      λ rest. subst (λ (m : ℕ). bind (groups k (take (suc m) s ++ rest)) judge ≡ Some (t.0, t.1, rest)) (sym p.0) (bind-at judge (q.3 rest) ∙ p.2 rest),
    ))
    (J a.0 a.1 a.2))

pub uleb-law : (s : List ℕ) → All (LebLaw uleb s) (uleb s)
unfolding uleb unsigned64
uleb-law s = judged-law 10 unsigned64 (λ n v r. all-check _ _ _ (λ u. all-some _ (refl, refl, λ r'. check-yes _ _ u))) s

pub short-law : (s : List ℕ) → All (LebLaw short s) (short s)
unfolding short within16
short-law s = judged-law 3 within16 (λ n v r. all-check _ _ _ (λ u. all-some _ (refl, refl, λ r'. check-yes _ _ u))) s

pub sleb-law : (s : List ℕ) → All (LebLaw sleb s) (sleb s)
unfolding sleb signed64
sleb-law s =
    judged-law 10 signed64 (λ n v r.
    all-pick _ _ _ _
    (λ u. all-check _ _ _ (λ w. all-some _ (refl, refl, λ r'. pick_yes _ _ _ u ∙ check-yes _ _ w)))
    (λ u. all-check _ _ _ (λ w. all-some _ (refl, refl, λ r'. pick_no _ _ _ u ∙ check-yes _ _ w)))) s

-- ---- strings and chains of forms

abbrev pub StringLaw : List ℕ → List ℕ × List ℕ → Type 0
StringLaw s r = Took s (length r.0) r.1 × (r.0 ≡ take (length r.0) s) × ((rest : List ℕ) → string_in (r.0 ++ rest) ≡ Some (r.0, rest))

pub string-law : (s : List ℕ) → All (StringLaw s) (string_in s)
unfolding string_in
string-law [] = all_none _
string-law (b ∷ s) =
    all-pick _ (eqb b 0) _ _
    (λ t. all-some (StringLaw (b ∷ s)) ((let g : 1 ≤ suc (length s) = omega arith in g, refl), refl, λ rest. pick_yes _ _ _ t))
    (λ t. all-bind (StringLaw s) _ (string_in s) _ (string-law s)
    (λ r e q. all-some (StringLaw (b ∷ s)) (
      (let g : suc (length r.0) ≤ suc (length s) = omega (arith, q.0.0) in g, q.0.1),
      ap (λ (x : List ℕ). b ∷ x) q.1,
      λ rest. pick_no _ _ _ t ∙ bind-at _ (q.2 rest),
    )))

-- a part of a prefix, and what follows it
pub prefix-split : (s rest : List ℕ) (n m : ℕ) → n + m ≤ length s → take (n + m) s ++ rest ≡ take n s ++ (take m (drop n s) ++ rest)
prefix-split s rest n m h = ap (λ x. x ++ rest) (take-add n m s) ∙ append_assoc (take n s) (take m (drop n s)) rest

pub short-nil : (s : List ℕ) → length s ≤ 0 → short s ≡ None
unfolding short groups bind
short-nil [] h = refl
short-nil (b ∷ s) h = absurd (let g : suc (length s) ≤ 0 = h in omega arith)

abbrev pub FormsLaw : List ℕ → ℕ × ℕ → Type 0
FormsLaw s r = (r.0 ≤ length s) × ((k : ℕ) (rest : List ℕ) → r.0 ≤ k → forms_within k (take r.0 s ++ rest) ≡ Some (r.0, r.1))

forms-last : (s : List ℕ) (t : Groups) → LebLaw short s t → T (not (eqb t.1 0x16)) → (k : ℕ) (rest : List ℕ)
    → suc t.0 ≤ k → forms_within k (take (suc t.0) s ++ rest) ≡ Some (suc t.0, t.1)
unfolding forms_within
forms-last s t q u zero rest h = absurd (omega arith)
forms-last s t q u (suc k) rest h = bind-at _ (q.1 rest) ∙ pick_no _ _ _ u

forms-more : (s : List ℕ) (t : Groups) → LebLaw short s t → T (eqb t.1 0x16) → (r : ℕ × ℕ) → FormsLaw t.2 r
    → (k : ℕ) (rest : List ℕ) → suc t.0 + r.0 ≤ k → forms_within k (take (suc t.0 + r.0) s ++ rest) ≡ Some (suc t.0 + r.0, r.1)
unfolding forms_within after_form
forms-more s t q u r q' zero rest h = absurd (omega arith)
forms-more s t q u r q' (suc k) rest h =
    let l : suc t.0 + r.0 ≤ length s = (let l : r.0 ≤ length t.2 = q'.0 in omega (arith, took-length s (suc t.0) t.2 q.0)) in
    ap (forms_within (suc k)) (prefix-split s rest (suc t.0) r.0 l)
    ∙ bind-at _ (q.1 (take r.0 (drop (suc t.0) s) ++ rest))
    ∙ pick_yes _ _ _ u
    ∙ bind-at (after_form t) (ap (λ x. forms_within k (take r.0 x ++ rest)) (sym q.0.1) ∙ q'.1 k rest (omega arith))

forms-within-law : (k : ℕ) (s : List ℕ) → All (FormsLaw s) (forms_within k s)
unfolding forms_within after_form
forms-within-law zero s = all_none _
forms-within-law (suc k) s =
    all-bind (LebLaw short s) _ (short s) _ (short-law s)
    (λ t e q. all-pick _ _ _ _
    (λ u. all-bind (FormsLaw t.2) _ (forms_within k t.2) _ (forms-within-law k t.2)
    (λ r e' q'. all-some (FormsLaw s) (
      let l : r.0 ≤ length t.2 = q'.0 in omega (arith, took-length s (suc t.0) t.2 q.0),
      forms-more s t q u r q',
    )))
    (λ u. all-some (FormsLaw s) (q.0.0, forms-last s t q u)))

-- any count of at least the bytes gives the same
forms-same : (k : ℕ) (s : List ℕ) (k' : ℕ) → length s ≤ k → length s ≤ k' → forms_within k s ≡ forms_within k' s
unfolding forms_within
forms-same zero s zero h h' = refl
forms-same zero s (suc k') h h' = sym (bind-none _ (short-nil s (omega arith)))
forms-same (suc k) s zero h h' = bind-none _ (short-nil s (omega arith))
forms-same (suc k) s (suc k') h h' =
    bind-cong (LebLaw short s) (short s) _ _ (short-law s)
    (λ t e q. ap (λ o. pick (eqb t.1 0x16) (bind o (after_form t)) (Some (suc t.0, t.1)))
    (forms-same k t.2 k' (omega (arith, took-length s (suc t.0) t.2 q.0)) (omega (arith, took-length s (suc t.0) t.2 q.0))))

forms-unfold : (s : List ℕ) (k : ℕ) → length s ≤ k
    → forms_within (suc k) s ≡ bind (short s) (λ t. pick (eqb t.1 0x16) (bind (forms_within (length t.2) t.2) (after_form t)) (Some (suc t.0, t.1)))
unfolding forms_within
forms-unfold s k h =
    bind-cong (LebLaw short s) (short s) _ _ (short-law s)
    (λ t e q. ap (λ o. pick (eqb t.1 0x16) (bind o (after_form t)) (Some (suc t.0, t.1)))
    (forms-same k t.2 (length t.2) (omega (arith, took-length s (suc t.0) t.2 q.0)) (omega arith)))

-- one form number, and then the others
pub forms-step : (s : List ℕ) → forms_in s ≡ bind (short s) (λ t. pick (eqb t.1 0x16) (bind (forms_in t.2) (after_form t)) (Some (suc t.0, t.1)))
unfolding forms_in
forms-step s = forms-same (length s) s (suc (length s)) (omega arith) (omega arith) ∙ forms-unfold s (length s) (omega arith)

pub forms-law : (s : List ℕ) → All (FormsLaw s) (forms_in s)
unfolding forms_in
forms-law s = forms-within-law (length s) s

-- ---- tokens: what a token read is as wide as what it took; patched it is read so again; and it is read so again whatever follows

abbrev pub WholeLaw : Bool → ExpressionReader → List ℕ → List Piece → Type 0
WholeLaw big ex s ps = (length (bytes_of big ps) ≡ length s) × ((f : Patch) → FitPieces f ps → ex (bytes_of big (patch_pieces f ps)) ≡ Some (patch_pieces f ps))

abbrev pub ExpressionLaw : Bool → ExpressionReader → Type 0
ExpressionLaw big ex = (s : List ℕ) → All (WholeLaw big ex s) (ex s)

pub bytes-append : (big : Bool) (ps qs : List Piece) → bytes_of big (ps ++ qs) ≡ bytes_of big ps ++ bytes_of big qs
unfolding bytes_of
bytes-append big [] qs = refl
bytes-append big (p ∷ ps) qs =
    ap (λ x. piece_bytes big p ++ x) (bytes-append big ps qs)
    ∙ sym (append_assoc (piece_bytes big p) (bytes_of big ps) (bytes_of big qs))

pub patch-append : (f : Patch) (ps qs : List Piece) → patch_pieces f (ps ++ qs) ≡ patch_pieces f ps ++ patch_pieces f qs
unfolding patch_pieces
patch-append f [] qs = refl
patch-append f (p ∷ ps) qs = ap (λ x. patch_piece f p ∷ x) (patch-append f ps qs)

pub fit_append : (f : Patch) (ps qs : List Piece) → FitPieces f (ps ++ qs) → FitPieces f ps × FitPieces f qs
unfolding FitPieces
fit_append f [] qs h = (tt, h)
fit_append f (p ∷ ps) qs h = let q : FitPieces f ps × FitPieces f qs = fit_append f ps qs h.1 in ((h.0, q.0), q.1)

module _ (big : Bool) where
  same-piece : (f : Patch) (p : Piece) → length (piece_bytes big (patch_piece f p)) ≡ length (piece_bytes big p)
  unfolding patch_piece piece_bytes
  same-piece f (verbatim l) = refl
  same-piece f (patchable e r v) = length-number big e (f r v) ∙ sym (length-number big e v)

  -- a patch keeps every width
  pub same_size : (f : Patch) (ps : List Piece) → length (bytes_of big (patch_pieces f ps)) ≡ length (bytes_of big ps)
  unfolding patch_pieces bytes_of
  same_size f [] = refl
  same_size f (p ∷ ps) = simp (length-append, same-piece, same_size f ps)

  abbrev pub TokenLaw : ExpressionReader → Token → List ℕ → ReadOf → Type 0
  TokenLaw ex t s r =
      Took s (length (bytes_of big r.0.pieces)) r.1
      × ((f : Patch) (rest : List ℕ) → FitPieces f r.0.pieces
      → token_in big ex t (bytes_of big (patch_pieces f r.0.pieces) ++ rest) ≡ Some (patch_read f r.0, rest))
      × ((rest : List ℕ) → token_in big ex t (take (length (bytes_of big r.0.pieces)) s ++ rest) ≡ Some (r.0, rest))

  -- Layouts: what was read is as wide as what was taken; patched it is read again as patched, whatever follows; and
  -- it is read so again whatever follows.
  abbrev pub ReadLaw : ExpressionReader → Layout → List ℕ → RunOf → Type 0
  ReadLaw ex g s r =
      Took s (length (write_all big r.0)) r.1
      × ((f : Patch) (rest : List ℕ) → FitAll f r.0 → read_in big ex g (write_all big (patch_all f r.0) ++ rest) ≡ Some (patch_all f r.0, rest))
      × ((rest : List ℕ) → read_in big ex g (take (length (write_all big r.0)) s ++ rest) ≡ Some (r.0, rest))

  -- a token whose bytes are all verbatim
  copied-law : (ex : ExpressionReader) (t : Token) (s : List ℕ) (v k n : ℕ) → n ≤ length s
      → ((rest : List ℕ) → token_in big ex t (take n s ++ rest) ≡ Some (copy v k n (take n s ++ rest))) → TokenLaw ex t s (copy v k n s)
  unfolding copy bytes_of piece_bytes patch_pieces patch_piece patch_read
  copied-law ex t s v k n h again =
      let one : take n s ++ [] ≡ take n s = append-nil (take n s) in
      let l : length (take n s ++ []) ≡ n = ap length one ∙ length-take-le n s h in
      let same : (rest : List ℕ) → token_in big ex t (take n s ++ rest) ≡ Some (record { seen = v; start = k; pieces = verbatim (take n s) ∷ [] }, rest) =
      (λ rest. again rest
      ∙ ap₂ (λ (x y : List ℕ). Some (record { seen = v; start = k; pieces = verbatim x ∷ [] }, y))
      (kept-take s rest n h n (omega arith)) (kept-drop s rest n h)) in (
        rw l (h, refl),
        (λ f rest _. ap (λ x. token_in big ex t (x ++ rest)) one ∙ same rest),
        (λ rest. ap (λ m. token_in big ex t (take m s ++ rest)) l ∙ same rest),
      )

  again-number : (ex : ExpressionReader) (k : Kind) (s : List ℕ) (r : ReadFound) → NumberLaw big k s r
      → (rest : List ℕ) → token_in big ex (number k) (take (width r.0) s ++ rest) ≡ Some (copy r.1 0 (width r.0) (take (width r.0) s ++ rest))
  unfolding token_in as_number
  again-number ex k s r q rest = bind-at _ (q.2 rest)

  -- a length and so many bytes, before any rest
  again-block : (ex : ExpressionReader) (k : Kind) (s : List ℕ) (r : ReadFound) → NumberLaw big k s r → r.1 ≤ length r.2
      → (rest : List ℕ) → token_in big ex (block k) (take (width r.0 + r.1) s ++ rest)
      ≡ Some (copy 0 (width r.0) (width r.0 + r.1) (take (width r.0 + r.1) s ++ rest))
  unfolding token_in as_block
  again-block ex k s r q h rest =
      let w : ℕ = width r.0 in
      let l : length s ≡ w + length r.2 = took-length s w r.2 q.1 in
      let body : List ℕ = take r.1 (drop w s) in
      let lb : length body ≡ r.1 = length-take-le r.1 (drop w s) (omega (arith, length-drop w s)) in
      let e : take (w + r.1) s ++ rest ≡ take w s ++ (body ++ rest) = prefix-split s rest w r.1 (omega arith) in
      subst (λ x. bind (number_in big k x) (as_block x) ≡ Some (copy 0 w (w + r.1) x)) (sym e)
      (bind-at _ (q.2 (body ++ rest))
      ∙ check-yes _ _ (yes_leb {a = r.1} {b = length (body ++ rest)} (omega (arith, length-append body rest))))

  module _ (ex : ExpressionReader) (law : ExpressionLaw big ex) where
    expression-law : (s : List ℕ) (t : Groups) → LebLaw uleb s t → (h : t.1 ≤ length t.2) (ps : List Piece) → ex (take t.1 t.2) ≡ Some ps
        → TokenLaw ex expression s (record { seen = 0; start = suc t.0; pieces = verbatim (take (suc t.0) s) ∷ ps }, drop t.1 t.2)
    unfolding token_in as_expression bytes_of piece_bytes patch_pieces patch_piece patch_read FitPieces
    expression-law s t q h ps e =
        let w : ℕ = suc t.0 in
        let a : List ℕ = take w s in
        let body : List ℕ = take t.1 t.2 in
        let whole : WholeLaw big ex body ps = all_of (WholeLaw big ex body) (law body) e in
        let lb : length body ≡ t.1 = length-take-le t.1 t.2 h in
        let lp : length (bytes_of big ps) ≡ t.1 = whole.0 ∙ lb in
        let la : length a ≡ w = length-take-le w s q.0.0 in
        let n : length (a ++ bytes_of big ps) ≡ w + t.1 = length-append a (bytes_of big ps) ∙ ap₂ ◌+◌ la lp in
        let found : (b rest : List ℕ) (qs : List Piece) → length b ≡ t.1 → ex b ≡ Some qs
        → bind (uleb (a ++ (b ++ rest))) (as_expression ex (a ++ (b ++ rest)))
        ≡ Some (record { seen = 0; start = w; pieces = verbatim a ∷ qs }, rest) =
        (λ b rest qs l k.
        bind-at _ (q.1 (b ++ rest))
        ∙ check-yes _ _ (yes_leb {a = t.1} {b = length (b ++ rest)} (omega (arith, length-append b rest)))
        ∙ bind-at _ (ap ex (take_at b rest t.1 l) ∙ k)
        ∙ ap₂ (λ (x y : List ℕ). Some (record { seen = 0; start = w; pieces = verbatim x ∷ qs }, y)) (take_at a (b ++ rest) w la) (drop_at b rest t.1 l)) in (
          rw n (took-add s w t.1 t.2 (drop t.1 t.2) q.0 (h, refl)),
          (λ f rest fit.
              ap (λ x. bind (uleb x) (as_expression ex x)) (append_assoc a (bytes_of big (patch_pieces f ps)) rest)
              ∙ found (bytes_of big (patch_pieces f ps)) rest (patch_pieces f ps) (same_size f ps ∙ lp) (whole.1 f fit.1)),
          (λ rest.
              ap (λ m. bind (uleb (take m s ++ rest)) (as_expression ex (take m s ++ rest))) n
              ∙ ap (λ x. bind (uleb x) (as_expression ex x))
              (prefix-split s rest w t.1 (omega (arith, took-length s w t.2 q.0)) ∙ ap (λ x. a ++ (take t.1 x ++ rest)) (sym q.0.1))
              ∙ found body rest ps lb e),
        )

    nothing-law : (s : List ℕ) → TokenLaw ex nothing s (record { seen = 0; start = 0; pieces = [] }, s)
    unfolding token_in bytes_of patch_pieces patch_read
    nothing-law s = (took-none s, (λ f rest _. refl), (λ rest. refl))

    link-law : (k : Kind) (role : Role) (s : List ℕ) (r : ReadFound) → NumberLaw big k s r
        → TokenLaw ex (link k role) s (record { seen = 0; start = 0; pieces = patchable r.0 role r.1 ∷ [] }, r.2)
    unfolding token_in as_link bytes_of piece_bytes patch_pieces patch_piece patch_read FitPieces FitPiece
    link-law k role s r q =
        let n : (v : ℕ) → length (number_bytes big r.0 v ++ []) ≡ width r.0 =
        (λ v. ap length (append-nil (number_bytes big r.0 v)) ∙ length-number big r.0 v) in (
          rw (n r.1) q.1,
          (λ f rest fit.
              ap (λ x. bind (number_in big k (x ++ rest)) (as_link role)) (append-nil (number_bytes big r.0 (f role r.1)))
              ∙ bind-at _ (rw (← q.0) (number-written big r.0 (f role r.1) rest fit.0))),
          (λ rest. ap (λ m. bind (number_in big k (take m s ++ rest)) (as_link role)) (n r.1) ∙ bind-at _ (q.2 rest)),
        )

    pub token-law : (t : Token) (s : List ℕ) → All (TokenLaw ex t s) (token_in big ex t s)
    unfolding token_in forms_in as_number as_bounded as_forms as_signed as_link as_string as_block as_expression
    token-law nothing s = all-some (TokenLaw ex nothing s) (nothing-law s)
    token-law (number k) s =
        all-bind (NumberLaw big k s) _ (number_in big k s) _ (number-law big k s)
        (λ r e q. all-some (TokenLaw ex (number k) s) (copied-law ex (number k) s _ _ _ q.1.0 (again-number ex k s r q)))
    token-law (bounded n) s =
        all-bind (LebLaw uleb s) _ (uleb s) _ (uleb-law s)
        (λ r e q. all-check _ _ _ (λ u. all-some (TokenLaw ex (bounded n) s)
        (copied-law ex (bounded n) s _ _ _ q.0.0 (λ rest. bind-at _ (q.1 rest) ∙ check-yes _ _ u))))
    token-law forms s =
        all-bind (FormsLaw s) _ (forms_in s) _ (forms-law s)
        (λ r e q. all-some (TokenLaw ex forms s)
        (copied-law ex forms s _ _ _ q.0 (λ rest. bind-at _ (q.1 (length (take r.0 s ++ rest)) rest (kept-fits s rest r.0 q.0)))))
    token-law signed s =
        all-bind (LebLaw sleb s) _ (sleb s) _ (sleb-law s)
        (λ r e q. all-some (TokenLaw ex signed s) (copied-law ex signed s _ _ _ q.0.0 (λ rest. bind-at _ (q.1 rest))))
    token-law (link k role) s =
        all-bind (NumberLaw big k s) _ (number_in big k s) _ (number-law big k s) (λ r e q. all-some (TokenLaw ex (link k role) s) (link-law k role s r q))
    token-law string s =
        all-bind (StringLaw s) _ (string_in s) _ (string-law s)
        (λ r e q. all-some (TokenLaw ex string s)
        (copied-law ex string s _ _ _ q.0.0 (λ rest. bind-at _ (ap (λ x. string_in (x ++ rest)) (sym q.1) ∙ q.2 rest))))
    token-law (run n) s =
        all-check _ _ _ (λ u. all-some (TokenLaw ex (run n) s)
        (copied-law ex (run n) s _ _ _ (leb_yes u) (λ rest. check-yes _ _ (yes_leb {a = n} {b = length (take n s ++ rest)} (kept-fits s rest n (leb_yes u))))))
    token-law (block k) s =
        all-bind (NumberLaw big k s) _ (number_in big k s) _ (number-law big k s)
        (λ r e q. all-check _ _ _ (λ u. all-some (TokenLaw ex (block k) s)
        (copied-law ex (block k) s _ _ _ (let h : r.1 ≤ length r.2 = leb_yes u in omega (arith, took-length s (width r.0) r.2 q.1))
        (again-block ex k s r q (leb_yes u)))))
    token-law expression s =
        all-bind (LebLaw uleb s) _ (uleb s) _ (uleb-law s)
        (λ r e q. all-check _ _ _ (λ u.
        all-bind _ _ (ex (take r.1 r.2)) _ (all-triv (ex (take r.1 r.2)))
        (λ ps e' _. all-some (TokenLaw ex expression s) (expression-law s r q (leb_yes u) ps e'))))
    token-law unknown s = all_none _

    pub read-law : (g : Layout) (s : List ℕ) → All (ReadLaw ex g s) (read_in big ex g s)
    unfolding read_in write_all patch_all FitAll before patch_read
    read-law done s = all-some (ReadLaw ex done s) (took-none s, (λ f rest _. refl), (λ rest. refl))
    read-law fail s = all_none _
    read-law (field t k) s =
        all-bind (TokenLaw ex t s) _ (token_in big ex t s) _ (token-law t s)
        (λ r e q. all-bind (ReadLaw ex (k r.0.seen) r.1) _ (read_in big ex (k r.0.seen) r.1) _ (read-law (k r.0.seen) r.1)
        (λ r' e' q'.
        let a : List ℕ = bytes_of big r.0.pieces in
        let b : List ℕ = write_all big r'.0 in
        let n : length (a ++ b) ≡ length a + length b = length-append a b in
        let l : length s ≡ length a + length r.1 = took-length s (length a) r.1 q.0 in
        let lb : length b ≤ length r.1 = q'.0.0 in
        all-some (ReadLaw ex (field t k) s) (
          rw n (took-add s (length a) (length b) r.1 r'.1 q.0 q'.0),
          (λ f rest h.
              ap (λ x. read_in big ex (field t k) x) (append_assoc (bytes_of big (patch_pieces f r.0.pieces)) (write_all big (patch_all f r'.0)) rest)
              ∙ bind-at _ (q.1 f (write_all big (patch_all f r'.0) ++ rest) h.0)
              ∙ bind-at _ (q'.1 f rest h.1)),
          (λ rest.
              ap (λ m. read_in big ex (field t k) (take m s ++ rest)) n
              ∙ ap (read_in big ex (field t k))
              (prefix-split s rest (length a) (length b) (omega arith)
              ∙ ap (λ x. take (length a) s ++ (take (length b) x ++ rest)) (sym q.0.1))
              ∙ bind-at _ (q.2 (take (length b) r.1 ++ rest))
              ∙ bind-at _ (q'.2 rest)),
        )))

-- expressions as bytes obey the law
pub as-bytes-law : (big : Bool) → ExpressionLaw big as_bytes
unfolding as_bytes bytes_of piece_bytes patch_pieces patch_piece
as-bytes-law big s =
    all-some (WholeLaw big as_bytes s) (ap length (append-nil s), λ f _. ap (λ (x : List ℕ). Some (verbatim x ∷ [])) (append-nil s))
