-- Laws of LEB128 and fixed widths: a number that was written is read again, and bytes that were read are written again.
use mathlib.Core.Path.{◌≡◌, refl, ap, ap₂, sym, ◌∙◌}
use Prim.Native.Nat.{ℕ, zero, suc, ◌+◌, ◌*◌, ◌-◌, ◌^◌, ◌/◌, ◌%◌, ◌≤◌, ◌<◌}
use mathlib.Core.Bool.{Bool, true, false}
use Rattle.std.specs.Prelude.{Some}
use mathlib.Core.List.{List, [], ◌∷◌, ◌++◌, reverse, reverse-reverse, reverse-cons}
use native.Mathlib.Omega.{arith}
use lib.ListN.{length, take, drop, length-reverse}
use lib.Dec.{T, ltb, lt→ltb}
use mir.Facts.{yes_ltb, no_ltb, ltb_yes, ltb_no, and_yes, yes_and}
use lib.Pow.{are_bytes}
use Rattle.readers.proofs.Choice.{pick_yes, pick_no, bind-at, All, all-some, all_none, all-pick, all-bind}
use Rattle.readers.specs.Numbers.{Groups, below, fixed_bytes, fixed_value, groups, little_bytes, little_value, ordered, padded}

pub length-padded : (n v : ℕ) → length (padded n v) ≡ suc n
unfolding padded
length-padded zero v = refl
length-padded (suc n) v = ap suc (length-padded n (v / 128))

-- what is written is read again, whatever follows
pub groups-padded : (k n v : ℕ) (rest : List ℕ) → n < k → v < 128 ^ suc n → groups k (padded n v ++ rest) ≡ Some (n, v, rest)
unfolding padded groups below
groups-padded zero n v rest hk hv = absurd (omega arith)
groups-padded (suc k) zero v rest hk hv = pick_yes _ _ _ (lt→ltb v 128 hv)
groups-padded (suc k) (suc n) v rest hk hv =
    pick_no _ _ _ (no_ltb {a = 128 + v % 128} {b = 128} (omega arith))
    ∙ bind-at (below (128 + v % 128)) (groups-padded k n (v / 128) rest (omega arith) (omega arith))
    ∙ ap (λ (x : ℕ). Some (suc n, x, rest)) (omega arith)

-- what a number that was read says of the bytes before it: it took suc t.0 of them, and these, before anything
-- else, are read so again
abbrev pub GroupsLaw : ℕ → List ℕ → Groups → Type 0
GroupsLaw k s t =
    (t.0 < k) × (suc t.0 ≤ length s) × (t.2 ≡ drop (suc t.0) s)
    × ((rest : List ℕ) → groups k (take (suc t.0) s ++ rest) ≡ Some (t.0, t.1, rest))

pub groups-law : (k : ℕ) (s : List ℕ) → All (GroupsLaw k s) (groups k s)
unfolding groups below
groups-law zero s = all_none _
groups-law (suc k) [] = all_none _
groups-law (suc k) (b ∷ s) =
    all-pick (GroupsLaw (suc k) (b ∷ s)) (ltb b 128) _ _
    (λ t. all-some _ (omega arith, let g : 1 ≤ suc (length s) = omega arith in g, refl, λ rest. pick_yes _ _ _ t))
    (λ t. all-bind (GroupsLaw k s) _ (groups k s) (below b) (groups-law k s)
    (λ a e q. all-some (GroupsLaw (suc k) (b ∷ s)) (
      let g : a.0 < k = q.0 in omega arith,
      let g : suc (suc a.0) ≤ suc (length s) = (let g : suc a.0 ≤ length s = q.1 in omega arith) in g,
      q.2,
      λ rest. pick_no _ _ _ t ∙ bind-at (below b) (q.3 rest),
    )))

are-cons : (b : ℕ) (s : List ℕ) → b < 256 → T (are_bytes s) → T (are_bytes (b ∷ s))
are-cons b s h t = yes_and (ltb b 256) (are_bytes s) (yes_ltb h) t

are-un : (b : ℕ) (s : List ℕ) → T (are_bytes (b ∷ s)) → (b < 256) × T (are_bytes s)
are-un b s h = let p : T (ltb b 256) × T (are_bytes s) = and_yes (ltb b 256) (are_bytes s) h in (ltb_yes p.0, p.1)

-- the converse, of bytes: what is read as (n, v) is v padded to n bytes and a last one
abbrev pub ExactGroups : List ℕ → Groups → Type 0
ExactGroups s t = (s ≡ padded t.0 t.1 ++ t.2) × (t.1 < 128 ^ suc t.0)

pub groups-exact : (k : ℕ) (s : List ℕ) → T (are_bytes s) → All (ExactGroups s) (groups k s)
unfolding padded groups below
groups-exact zero s h = all_none _
groups-exact (suc k) [] h = all_none _
groups-exact (suc k) (b ∷ s) h =
    all-pick (ExactGroups (b ∷ s)) (ltb b 128) _ _
    (λ t. all-some _ (refl, ltb_yes t))
    (λ t. all-bind (ExactGroups s) _ (groups k s) (below b) (groups-exact k s (are-un b s h).1)
    (λ a e q.
    let lo : 128 ≤ b = ltb_no t in
    let hi : b < 256 = (are-un b s h).0 in
    let r : (s ≡ padded a.0 a.1 ++ a.2) × (a.1 < 128 ^ suc a.0) = q in
    let e1 : b ≡ 128 + (b - 128 + 128 * a.1) % 128 = omega arith in
    let e2 : a.1 ≡ (b - 128 + 128 * a.1) / 128 = omega arith in
    all-some (ExactGroups (b ∷ s)) (ap₂ {C = List ℕ} ◌∷◌ e1 (r.0 ∙ ap (λ x. padded a.0 x ++ a.2) e2), omega arith)))

length-little : (w v : ℕ) → length (little_bytes w v) ≡ w
unfolding little_bytes
length-little zero v = refl
length-little (suc w) v = ap suc (length-little w (v / 256))

little-value : (w v : ℕ) → v < 256 ^ w → little_value (little_bytes w v) ≡ v
unfolding little_bytes little_value
little-value zero v h = omega arith
little-value (suc w) v h = let ih : little_value (little_bytes w (v / 256)) ≡ v / 256 = little-value w (v / 256) (omega arith) in omega arith

little-bytes : (s : List ℕ) → T (are_bytes s) → (little_bytes (length s) (little_value s) ≡ s) × (little_value s < 256 ^ length s)
unfolding little_bytes little_value
little-bytes [] h = (refl, omega arith)
little-bytes (b ∷ s) h =
    let hb : (b < 256) × T (are_bytes s) = are-un b s h in
    let ih : (little_bytes (length s) (little_value s) ≡ s) × (little_value s < 256 ^ length s) = little-bytes s hb.1 in
    let e1 : (b + 256 * little_value s) % 256 ≡ b = omega arith in
    let e2 : (b + 256 * little_value s) / 256 ≡ little_value s = omega arith in
    let e3 : b + 256 * little_value s < 256 ^ suc (length s) = omega arith in
    (ap₂ {C = List ℕ} ◌∷◌ e1 (ap (little_bytes (length s)) e2 ∙ ih.0), e3)

are-append : (s t : List ℕ) → T (are_bytes s) → T (are_bytes t) → T (are_bytes (s ++ t))
are-append [] t hs ht = ht
are-append (b ∷ s) t hs ht = are-cons b (s ++ t) (are-un b s hs).0 (are-append s t (are-un b s hs).1 ht)

are-reverse : (s : List ℕ) → T (are_bytes s) → T (are_bytes (reverse s))
are-reverse [] h = tt
are-reverse (b ∷ s) h = rw reverse-cons (are-append (reverse s) (b ∷ []) (are-reverse s (are-un b s h).1) (are-cons b [] (are-un b s h).0 tt))

are-ordered : (big : Bool) (s : List ℕ) → T (are_bytes s) → T (are_bytes (ordered big s))
unfolding ordered
are-ordered true s h = are-reverse s h
are-ordered false s h = h

ordered-ordered : (big : Bool) (s : List ℕ) → ordered big (ordered big s) ≡ s
unfolding ordered
ordered-ordered true s = reverse-reverse s
ordered-ordered false s = refl

pub length-ordered : (big : Bool) (s : List ℕ) → length (ordered big s) ≡ length s
unfolding ordered
length-ordered true s = length-reverse s
length-ordered false s = refl

pub length-fixed : (big : Bool) (w v : ℕ) → length (fixed_bytes big w v) ≡ w
unfolding fixed_bytes
length-fixed big w v = length-ordered big (little_bytes w v) ∙ length-little w v

pub fixed-value : (big : Bool) (w v : ℕ) → v < 256 ^ w → fixed_value big (fixed_bytes big w v) ≡ v
unfolding fixed_bytes fixed_value
fixed-value big w v h = ap little_value (ordered-ordered big (little_bytes w v)) ∙ little-value w v h

-- the converse, of bytes: bytes are what writes their value in their width
pub fixed-bytes : (big : Bool) (s : List ℕ) → T (are_bytes s) → (fixed_bytes big (length s) (fixed_value big s) ≡ s) × (fixed_value big s < 256 ^ length s)
unfolding fixed_bytes fixed_value
fixed-bytes big s h =
    let l : length (ordered big s) ≡ length s = length-ordered big s in
    let p : (little_bytes (length (ordered big s)) (little_value (ordered big s)) ≡ ordered big s)
    × (little_value (ordered big s) < 256 ^ length (ordered big s)) = little-bytes (ordered big s) (are-ordered big s h) in
    (ap (λ n. ordered big (little_bytes n (little_value (ordered big s)))) (sym l) ∙ ap (ordered big) p.0 ∙ ordered-ordered big s, rw l at p.1)
