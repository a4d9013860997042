-- The map as a table: its columns, what is read at a place, the place of an old offset, and one place more.
use Prim.Native.Nat.{ℕ, zero, suc, ◌+◌, ◌*◌, ◌^◌, ◌/◌, ◌≤◌, ◌<◌}
use mathlib.Core.Path.{◌≡◌, refl, ap, sym, ◌∙◌}
use mathlib.Core.Bool.{true, false}
use mathlib.Core.List.{List, [], ◌∷◌, ◌++◌}
use mathlib.Core.Logic.{⊎_elim}
use Rattle.std.specs.Prelude.{None, Some}
use native.Mathlib.Numerals.{add-one}
use native.Mathlib.Omega.{arith}
use lib.ListN.{length, get_or, drop, length-append}
use lib.Seq.{drop-cons}
use lib.Dec.{ltb, leb, eqb}
use mir.Facts.{ltb_yes, ltb_no, yes_ltb, no_ltb, yes_eqb, no_eqb, eqb_yes, eqb_no}
use borrow.Author.Tests.{le-leb, lt-leb}
use Rattle.readers.specs.Choice.{pick, ◌and◌, put}
use Rattle.readers.proofs.Choice.{pick_yes, pick_no, either}
use Rattle.readers.specs.Numbers.{fixed_bytes}
use Rattle.readers.proofs.Numbers.{length-fixed}
use Rattle.marking.specs.Resolution.{Ascending as From}
use Rattle.rewriting.specs.Ascending.{Ascending}
use Rattle.rewriting.specs.Indices.{rank_in}
use Rattle.rewriting.specs.Places.{Place, new_of, first_from, or_else, sibling_of, old_offsets}
use Rattle.rewriting.specs.Written.{number_size, place_size, number_at, columns, old_at, new_at, depth_at, halved, found_at, looked_up}
use Rattle.rewriting.specs.Inner.Written.{NumbersHeld, MapHeld, place, with_place, as_mapped}
use Rattle.readers.specs.declared.offsets.UnitOffset.{UnitOffset}
use Rattle.rewriting.proofs.ListPass.Tables.{row-there, first-there, held_at, held_more, length-put}
use Rattle.rewriting.proofs.ListPass.Ranks.{rank_is, rank_most, halved-rank}

-- ---- columns

pub length-olds : (ps : List Place) → length (old_offsets ps) ≡ length ps
unfolding old_offsets
length-olds [] = refl
length-olds (p ∷ ps) = ap suc (length-olds ps)

pub length-columns : (ps : List Place) → length (columns ps) ≡ 3 * length ps
unfolding columns
length-columns [] = refl
length-columns (p ∷ ps) = let e : length (columns ps) ≡ 3 * length ps = length-columns ps in let g : suc (suc (suc (length (columns ps)))) ≡ 3 * suc (length ps) = omega arith in g

columns-append : (ps : List Place) (p : Place) → columns (ps ++ (p ∷ [])) ≡ ((columns ps ++ (p.old ∷ [])) ++ (p.new ∷ [])) ++ (p.depth ∷ [])
unfolding columns
columns-append [] p = refl
columns-append (q ∷ ps) p = ap (λ (l : List ℕ). q.old ∷ q.new ∷ q.depth ∷ l) (columns-append ps p)

abbrev pub nowhere : Place
nowhere = place 0 0 0

pub old_of : (ps : List Place) (i : ℕ) → get_or (old_offsets ps) i 0 ≡ (get_or ps i nowhere).old
unfolding old_offsets
old_of [] i = refl
old_of (p ∷ ps) zero = refl
old_of (p ∷ ps) (suc i) = old_of ps i

three : (i : ℕ) → 3 * suc i ≡ suc (suc (suc (3 * i)))
three i = omega arith

column-old : (ps : List Place) (i : ℕ) → get_or (columns ps) (3 * i) 0 ≡ (get_or ps i nowhere).old
unfolding columns
column-old [] i = refl
column-old (p ∷ ps) zero = refl
column-old (p ∷ ps) (suc i) = ap (λ n. get_or (p.old ∷ p.new ∷ p.depth ∷ columns ps) n 0) (three i) ∙ column-old ps i

column-new : (ps : List Place) (i : ℕ) → get_or (columns ps) (suc (3 * i)) 0 ≡ (get_or ps i nowhere).new
unfolding columns
column-new [] i = refl
column-new (p ∷ ps) zero = refl
column-new (p ∷ ps) (suc i) = ap (λ n. get_or (p.old ∷ p.new ∷ p.depth ∷ columns ps) (suc n) 0) (three i) ∙ column-new ps i

column-depth : (ps : List Place) (i : ℕ) → get_or (columns ps) (suc (suc (3 * i))) 0 ≡ (get_or ps i nowhere).depth
unfolding columns
column-depth [] i = refl
column-depth (p ∷ ps) zero = refl
column-depth (p ∷ ps) (suc i) = ap (λ n. get_or (p.old ∷ p.new ∷ p.depth ∷ columns ps) (suc (suc n)) 0) (three i) ∙ column-depth ps i

-- ---- what is read at a place

module _ (map : List ℕ) (i r : ℕ) where
  pub old-there : r ≡ old_at map i → i < length map / place_size → r ≡ number_at number_size map (place_size * i)
  old-there e h = first-there place_size number_size map i r e h

  pub new-there : r ≡ new_at map i → i < length map / place_size → r ≡ number_at number_size map (place_size * i + number_size)
  new-there e h = row-there place_size number_size number_size map i r e h

  pub depth-there : r ≡ depth_at map i → i < length map / place_size → r ≡ number_at number_size map (place_size * i + 2 * number_size)
  depth-there e h = row-there place_size (2 * number_size) number_size map i r e h

module _ (ps : List Place) (map : List ℕ) (h : MapHeld ps map) (i : ℕ) (l : i < length ps) where
  at-column : (k at : ℕ) → k < 3 * length ps → at ≡ number_size * k → number_at number_size map at ≡ get_or (columns ps) k 0
  at-column k at b e = ap (λ n. number_at number_size map n) e ∙ held_at number_size (columns ps) map k h.held (omega (arith, length-columns ps))

  pub room_at : i < length map / place_size
  room_at = let r : number_size * length (columns ps) ≤ length map = h.held.room in omega (arith, length-columns ps)

  pub old-held : (r : ℕ) → (i < length map / place_size → r ≡ number_at number_size map (place_size * i)) → r ≡ (get_or ps i nowhere).old
  old-held r f = f room_at ∙ at-column (3 * i) (place_size * i) (omega arith) (omega arith) ∙ column-old ps i

  pub new-held : (r : ℕ) → (i < length map / place_size → r ≡ number_at number_size map (place_size * i + number_size)) → r ≡ (get_or ps i nowhere).new
  new-held r f = f room_at ∙ at-column (suc (3 * i)) (place_size * i + number_size) (omega arith) (omega arith) ∙ column-new ps i

  pub depth-held : (r : ℕ) → (i < length map / place_size → r ≡ number_at number_size map (place_size * i + 2 * number_size)) → r ≡ (get_or ps i nowhere).depth
  depth-held r f = f room_at ∙ at-column (suc (suc (3 * i))) (place_size * i + 2 * number_size) (omega arith) (omega arith) ∙ column-depth ps i

-- ---- the place of an old offset

new-from : (low : ℕ) (ps : List Place) (v i : ℕ) → From low (old_offsets ps) → i < length ps → (get_or ps i nowhere).old ≡ v → new_of ps v ≡ Some (get_or ps i nowhere).new
unfolding new_of old_offsets From
new-from low [] v i f h e = absurd (omega arith)
new-from low (p ∷ ps) v zero f h e = pick_yes _ _ _ (yes_eqb {a = p.old} {b = v} e)
new-from low (p ∷ ps) v (suc i) f h e =
    let k : suc p.old ≤ (get_or ps i nowhere).old = from_old (suc p.old) ps i f.1 (omega arith) in
    pick_no _ _ _ (no_eqb {a = p.old} {b = v} (λ z. omega arith)) ∙ new-from (suc p.old) ps v i f.1 (omega arith) e
  where
    from_old : (low : ℕ) (ps : List Place) (i : ℕ) → From low (old_offsets ps) → i < length ps → low ≤ (get_or ps i nowhere).old
    from_old low [] i f h = absurd (omega arith)
    from_old low (p ∷ ps) zero f h = f.0
    from_old low (p ∷ ps) (suc i) f h = let k : low ≤ p.old = f.0 in let l : suc p.old ≤ (get_or ps i nowhere).old = from_old (suc p.old) ps i f.1 (omega arith) in omega arith

new-absent : (ps : List Place) (v : ℕ) → ((i : ℕ) → i < length ps → (get_or ps i nowhere).old ≡ v → ⊥) → new_of ps v ≡ None
unfolding new_of
new-absent [] v f = refl
new-absent (p ∷ ps) v f = pick_no _ _ _ (no_eqb {a = p.old} {b = v} (λ e. f 0 (omega arith) e)) ∙ new-absent ps v (λ i h e. f (suc i) (omega arith) e)

-- ---- the first place that is no deeper

pub first-skip : (ps : List Place) (depth v : ℕ) → first_from ps depth v ≡ first_from (drop (rank_in (old_offsets ps) v) ps) depth v
unfolding first_from old_offsets rank_in ◌and◌
first-skip [] depth v = refl
first-skip (p ∷ ps) depth v =
    ⊎_elim
    (λ t. ap (λ b. pick (b and leb p.depth depth) (Some p.new) (first_from ps depth v)) (lt-leb v p.old (ltb_yes {a = p.old} {b = v} t))
    ∙ pick_no false _ _ tt ∙ first-skip ps depth v
    ∙ ap (λ n. first_from (drop n (p ∷ ps)) depth v) (sym (pick_yes (ltb p.old v) (suc (rank_in (old_offsets ps) v)) 0 t)))
    (λ t. ap (λ n. first_from (drop n (p ∷ ps)) depth v) (sym (pick_no (ltb p.old v) (suc (rank_in (old_offsets ps) v)) 0 t)))
    (either (ltb p.old v))

module _ (ps : List Place) (depth v i : ℕ) (l : i < length ps) where
  first-open : first_from (drop i ps) depth v
      ≡ pick (leb v (get_or ps i nowhere).old and leb (get_or ps i nowhere).depth depth) (Some (get_or ps i nowhere).new) (first_from (drop (suc i) ps) depth v)
  unfolding first_from
  first-open = ap (λ x. first_from x depth v) (drop-cons ps i nowhere l)

  pub first-here : v ≤ (get_or ps i nowhere).old → (get_or ps i nowhere).depth ≤ depth → first_from (drop i ps) depth v ≡ Some (get_or ps i nowhere).new
  unfolding pick ◌and◌
  first-here a b = first-open ∙ rw (le-leb v (get_or ps i nowhere).old a, le-leb (get_or ps i nowhere).depth depth b)

  pub first_on : v ≤ (get_or ps i nowhere).old → depth < (get_or ps i nowhere).depth → first_from (drop i ps) depth v ≡ first_from (drop (i + 1) ps) depth v
  unfolding pick ◌and◌
  first_on a b = first-open ∙ rw (le-leb v (get_or ps i nowhere).old a, lt-leb (get_or ps i nowhere).depth depth b, add-one i)

-- ---- what the search for an old offset answers

module _ (ps : List Place) (map : List ℕ) (places old i o : ℕ) (h : MapHeld ps map) (e : places ≡ length ps) where
  module _ (l : i < places) (is-old : i < length map / place_size → o ≡ number_at number_size map (place_size * i)) where
    pub found-new : (n : ℕ) → o ≡ old → (i < length map / place_size → n ≡ number_at number_size map (place_size * i + number_size)) → new_of ps old ≡ Some n
    found-new n q f =
        new-from 0 ps old i h.ascending (omega arith) (sym (old-held ps map h i (omega arith) o is-old) ∙ q) ∙ ap (λ x. Some x) (sym (new-held ps map h i (omega arith) n f))

    pub other_none : i ≡ rank_in (old_offsets ps) old → (o ≡ old → ⊥) → new_of ps old ≡ None
    other_none r q =
        new-absent ps old (λ j b k.
        let s : rank_in (old_offsets ps) old ≡ j = rank_is (old_offsets ps) old j h.ascending (omega (arith, length-olds ps)) (old_of ps j ∙ k) in
        q (old-held ps map h i (omega arith) o is-old ∙ ap (λ m. (get_or ps m nowhere).old) (r ∙ s) ∙ k))

  pub beyond-none : places ≤ i → i ≡ rank_in (old_offsets ps) old → new_of ps old ≡ None
  beyond-none l r =
      new-absent ps old (λ j b k.
      let s : rank_in (old_offsets ps) old ≡ j = rank_is (old_offsets ps) old j h.ascending (omega (arith, length-olds ps)) (old_of ps j ∙ k) in omega arith)

pub sibling-to : (ps : List Place) (depth old : ℕ) (n : UnitOffset) → new_of ps old ≡ Some n.0 → Some n ≡ as_mapped (sibling_of ps depth old)
unfolding as_mapped sibling_of or_else
sibling-to ps depth old n e = rw e

-- ---- one place more

pub place-put : (ps : List Place) (map map₁ map₂ map₃ : List ℕ) (i old new depth : ℕ) → i < length map / place_size
    → (place_size * i + number_size ≤ length map → map₁ ≡ put map (place_size * i) (fixed_bytes true number_size old))
    → (place_size * i + number_size + number_size ≤ length map₁ → map₂ ≡ put map₁ (place_size * i + number_size) (fixed_bytes true number_size new))
    → (place_size * i + 2 * number_size + number_size ≤ length map₂ → map₃ ≡ put map₂ (place_size * i + 2 * number_size) (fixed_bytes true number_size depth))
    → NumbersHeld number_size (columns ps) map → i ≡ length ps → old < 2 ^ 64 → new < 2 ^ 64 → depth < 2 ^ 64
    → NumbersHeld number_size (columns (with_place ps (place old new depth))) map₃
place-put ps map map₁ map₂ map₃ i old new depth r f g k h e a b d =
    let c : length (columns ps) ≡ 3 * length ps = length-columns ps in
    let xs₁ : List ℕ = columns ps ++ (old ∷ []) in
    let xs₂ : List ℕ = xs₁ ++ (new ∷ []) in
    let c₁ : length xs₁ ≡ length (columns ps) + 1 = length-append (columns ps) (old ∷ []) in
    let c₂ : length xs₂ ≡ length xs₁ + 1 = length-append xs₁ (new ∷ []) in
    let m₁ : map₁ ≡ put map (number_size * length (columns ps)) (fixed_bytes true number_size old) = f (omega arith) ∙ ap (λ n. put map n (fixed_bytes true number_size old)) (let q : place_size * i ≡ number_size * length (columns ps) = omega arith in q) in
    let l₁ : length map₁ ≡ length map = ap length m₁ ∙ length-put map (number_size * length (columns ps)) (fixed_bytes true number_size old) (omega (arith, length-fixed true number_size old)) in
    let h₁ : NumbersHeld number_size xs₁ map₁ = rw m₁ (held_more number_size (columns ps) map old h (omega arith) a) in
    let m₂ : map₂ ≡ put map₁ (number_size * length xs₁) (fixed_bytes true number_size new) = g (omega arith) ∙ ap (λ n. put map₁ n (fixed_bytes true number_size new)) (let q : place_size * i + number_size ≡ number_size * length xs₁ = omega arith in q) in
    let l₂ : length map₂ ≡ length map = ap length m₂ ∙ length-put map₁ (number_size * length xs₁) (fixed_bytes true number_size new) (omega (arith, length-fixed true number_size new)) ∙ l₁ in
    let h₂ : NumbersHeld number_size xs₂ map₂ = rw m₂ (held_more number_size xs₁ map₁ new h₁ (omega arith) b) in
    let m₃ : map₃ ≡ put map₂ (number_size * length xs₂) (fixed_bytes true number_size depth) = k (omega arith) ∙ ap (λ n. put map₂ n (fixed_bytes true number_size depth)) (let q : place_size * i + 2 * number_size ≡ number_size * length xs₂ = omega arith in q) in
    rw (columns-append ps (place old new depth), m₃) (held_more number_size xs₂ map₂ depth h₂ (omega arith) d)

-- what is read in the search for a place
pub old-read : (map : List ℕ) (i r : ℕ) → (i < length map / place_size → r ≡ number_at number_size map (place_size * i)) → {places : ℕ} (ps : List Place) → MapHeld ps map → places ≡ length (old_offsets ps)
    → i < length (old_offsets ps) → r ≡ get_or (old_offsets ps) i 0
old-read map i r f ps h e l = old-held ps map h i (omega (arith, length-olds ps)) r f ∙ sym (old_of ps i)

-- ---- the search in any map

module _ (map : List ℕ) (places i v : ℕ) where
  pub found-there : (n : UnitOffset) → i < places → old_at map i ≡ v → n.0 ≡ new_at map i → Some n ≡ found_at map places v i
  unfolding found_at
  found-there n l e f = sym (pick_yes _ _ _ (yes_ltb {a = i} {b = places} l) ∙ pick_yes _ _ _ (yes_eqb {a = old_at map i} {b = v} e) ∙ ap (λ k. Some (record { 0 = k })) (sym f))

  pub found-other : i < places → (old_at map i ≡ v → ⊥) → None ≡ found_at map places v i
  unfolding found_at
  found-other l e = sym (pick_yes _ _ _ (yes_ltb {a = i} {b = places} l) ∙ pick_no _ _ _ (no_eqb {a = old_at map i} {b = v} e))

  pub found-beyond : places ≤ i → None ≡ found_at map places v i
  unfolding found_at
  found-beyond l = sym (pick_no _ _ _ (no_ltb {a = i} {b = places} l))

pub looked-is : (map : List ℕ) (places i v : ℕ) → i ≡ halved places (old_at map) v 0 places → found_at map places v i ≡ looked_up map places v
unfolding looked_up
looked-is map places i v is = ap (found_at map places v) is

-- in a map that holds places: the rank, and the new offset
pub rank-held : (ps : List Place) (map : List ℕ) (places v : ℕ) → MapHeld ps map → places ≡ length ps → halved places (old_at map) v 0 places ≡ rank_in (old_offsets ps) v
rank-held ps map places v h e =
    let s : places ≡ length (old_offsets ps) = e ∙ sym (length-olds ps) in
    halved-rank (old_at map) v (old_offsets ps) h.ascending
    (λ i l. old-read map i (old_at map i) (old-there map i (old_at map i) refl) {places = places} ps h s l)
    places 0 places (omega arith) (omega arith) (let r : rank_in (old_offsets ps) v ≤ length (old_offsets ps) = rank_most (old_offsets ps) v in omega arith) (omega arith)

-- what a search from a guess on finds
pub hinted-held : (map : List ℕ) (places v r : ℕ)
    → ((xs : List ℕ) → Ascending xs → places ≡ length xs → ((i : ℕ) → i < length xs → old_at map i ≡ get_or xs i 0) → r ≡ rank_in xs v)
    → (ps : List Place) → MapHeld ps map → places ≡ length ps → r ≡ rank_in (old_offsets ps) v
hinted-held map places v r q ps h e =
    let s : places ≡ length (old_offsets ps) = e ∙ sym (length-olds ps) in
    q (old_offsets ps) h.ascending s
    (λ i l. old-read map i (old_at map i) (old-there map i (old_at map i) refl) {places = places} ps h s l)

pub looked-held : (ps : List Place) (map : List ℕ) (places v : ℕ) → MapHeld ps map → places ≡ length ps → looked_up map places v ≡ as_mapped (new_of ps v)
unfolding looked_up found_at as_mapped
looked-held ps map places v h e =
    let i : ℕ = halved places (old_at map) v 0 places in
    let r : i ≡ rank_in (old_offsets ps) v = rank-held ps map places v h e in
    let o : i < length map / place_size → old_at map i ≡ number_at number_size map (place_size * i) = old-there map i (old_at map i) refl in
    ⊎_elim
    (λ t. let l : i < places = ltb_yes {a = i} {b = places} t in
    pick_yes _ _ _ t
    ∙ ⊎_elim
    (λ u. let q : old_at map i ≡ v = eqb_yes {a = old_at map i} {b = v} u in
    let f : new_of ps v ≡ Some (new_at map i) = found-new ps map places v i (old_at map i) h e l o (new_at map i) q (new-there map i (new_at map i) refl) in
    pick_yes _ _ _ u ∙ sym (ap as_mapped f))
    (λ u. let f : new_of ps v ≡ None = other_none ps map places v i (old_at map i) h e l o r (λ q. eqb_no {a = old_at map i} {b = v} u q) in
    pick_no _ _ _ u ∙ sym (ap as_mapped f))
    (either (eqb (old_at map i) v)))
    (λ t. let f : new_of ps v ≡ None = beyond-none ps map places v i 0 h e (ltb_no {a = i} {b = places} t) r in
    pick_no _ _ _ t ∙ sym (ap as_mapped f))
    (either (ltb i places))
