-- The references of a unit resolved from columns that hold its rows, entry by entry. Assumes nothing.
use mathlib.Core.Path.{◌≡◌, refl, ap, ap₂, sym, ◌∙◌, subst}
use Prim.Native.Nat.{ℕ, zero, suc, ◌+◌, ◌*◌, ◌-◌, ◌≤◌, ◌<◌}
use native.Mathlib.Omega.{arith}
use mathlib.Core.List.{List, [], ◌∷◌, ◌++◌, append_assoc, append-nil}
use lib.ListN.{length, get_or, take, drop, length-append, take-append-drop}
use lib.Seq.{get_or-take, get_or_at, take_at, drop-append-add, take-length, take-append_seam, drop-append_seam, append_snoc}
use Rattle.std.proofs.lemmas.List.{length-take}
use Rattle.readers.specs.Choice.{zeros, put}
use Rattle.marking.specs.Analysis.{EntryRow, Rooms}
use Rattle.marking.specs.Columns.{offsets_in, names_in, ends_in, pad_to}
use Rattle.marking.specs.Resolution.{pairs_of_entry, pairs_from, pairs_in, Ascending}
use Rattle.marking.specs.Inner.Resolution.{ResolveInput, ReferenceColumns}
use Rattle.marking.proofs.Rows.{UnitRows, rowed-from, offsets-ascend, length-offsets}
use Rattle.marking.proofs.Pairs.{pairs-few, length-put}

-- ---- rows after rows

pub names-append : (xs ys : List EntryRow) → names_in (xs ++ ys) ≡ names_in xs ++ names_in ys
unfolding names_in
names-append [] ys = refl
names-append (x ∷ xs) ys = ap (λ (l : List ℕ). x.names ++ l) (names-append xs ys) ∙ sym (append_assoc x.names (names_in xs) (names_in ys))

pub length-ends : (m : ℕ) (rows : List EntryRow) → length (ends_in m rows) ≡ length rows
unfolding ends_in
length-ends m [] = refl
length-ends m (r ∷ rs) = ap suc (length-ends (m + length r.names) rs)

pub ends-append : (m : ℕ) (xs ys : List EntryRow) → ends_in m (xs ++ ys) ≡ ends_in m xs ++ ends_in (m + length (names_in xs)) ys
unfolding ends_in names_in
ends-append m [] ys = ap (λ (k : ℕ). ends_in k ys) (let z : m ≡ m + 0 = omega arith in z)
ends-append m (x ∷ xs) ys =
    let k : ℕ = m + length x.names in
    ap (λ (l : List ℕ). k ∷ l)
    (ends-append k xs ys
    ∙ ap (λ (n : ℕ). ends_in k xs ++ ends_in n ys)
    (let z : m + length x.names + length (names_in xs) ≡ m + length (x.names ++ names_in xs) = omega (arith, length-append x.names (names_in xs)) in z))

pub pairs-after : (os : List ℕ) (i : ℕ) (xs ys : List EntryRow) → pairs_from os i (xs ++ ys) ≡ pairs_from os i xs ++ pairs_from os (i + length xs) ys
unfolding pairs_from
pairs-after os i [] ys = ap (λ (k : ℕ). pairs_from os k ys) (let z : i ≡ i + 0 = omega arith in z)
pairs-after os i (x ∷ xs) ys =
    let p : List ℕ = pairs_of_entry os i x.names in
    ap (λ (l : List ℕ). p ++ l)
    (pairs-after os (suc i) xs ys ∙ ap (λ (k : ℕ). pairs_from os (suc i) xs ++ pairs_from os k ys) (let z : suc i + length xs ≡ i + suc (length xs) = omega arith in z))
    ∙ sym (append_assoc p (pairs_from os (suc i) xs) (pairs_from os (i + suc (length xs)) ys))

-- one row more
pairs_next : (os : List ℕ) (xs : List EntryRow) (r : EntryRow) → pairs_from os 0 (xs ++ (r ∷ [])) ≡ pairs_from os 0 xs ++ pairs_of_entry os (length xs) r.names
unfolding pairs_from
pairs_next os xs r =
    pairs-after os 0 xs (r ∷ [])
    ∙ ap (λ (l : List ℕ). pairs_from os 0 xs ++ l)
    (append-nil (pairs_of_entry os (0 + length xs) r.names) ∙ ap (λ (k : ℕ). pairs_of_entry os k r.names) (let z : 0 + length xs ≡ length xs = omega arith in z))

names-next : (xs : List EntryRow) (r : EntryRow) → length (names_in (xs ++ (r ∷ []))) ≡ length (names_in xs) + length r.names
unfolding names_in
names-next xs r = ap length (names-append xs (r ∷ [])) ∙ length-append (names_in xs) (r.names ++ []) ∙ ap (λ (l : List ℕ). length (names_in xs) + length l) (append-nil r.names)

pub pairs-most : (os : List ℕ) (i : ℕ) (rows : List EntryRow) → length (pairs_from os i rows) ≤ 2 * length (names_in rows)
unfolding pairs_from names_in
pairs-most os i [] = omega arith
pairs-most os i (r ∷ rs) =
    let a = length-append (pairs_of_entry os i r.names) (pairs_from os (suc i) rs) in
    let b = length-append r.names (names_in rs) in
    omega (arith, a, b, pairs-few os i r.names, pairs-most os (suc i) rs)

-- ---- numbers put after those of a padded column

pub drop-zeros : (m n : ℕ) → drop m (zeros n) ≡ zeros (n - m)
drop-zeros zero n = ap zeros (let z : n ≡ n - 0 = omega arith in z)
drop-zeros (suc m) zero = ap zeros (let z : 0 ≡ 0 - suc m = omega arith in z)
drop-zeros (suc m) (suc n) = drop-zeros m n ∙ ap zeros (let z : n - m ≡ suc n - suc m = omega arith in z)

put-padded : (n : ℕ) (xs ys : List ℕ) (m : ℕ) → m ≡ length xs → put (pad_to n xs) m ys ≡ pad_to n (xs ++ ys)
unfolding put pad_to
put-padded n xs ys m e =
    let k : ℕ = n - length xs in
    ap₂ (λ (a b : List ℕ). a ++ (ys ++ b)) (take_at xs (zeros k) m (sym e))
    (ap (λ (j : ℕ). drop (j + length ys) (xs ++ zeros k)) e ∙ drop-append-add xs (zeros k) (length ys) ∙ drop-zeros (length ys) k
    ∙ ap zeros (let z : n - length xs - length ys ≡ n - length (xs ++ ys) = omega (arith, length-append xs ys) in z))
    ∙ sym (append_assoc xs ys (zeros (n - length (xs ++ ys))))

-- ---- one entry after the other

-- the rows that are done and those that are left
pub record Turning (rows : List EntryRow) (pairs₀ pairs : List ℕ) (place from i : ℕ) : Type 0 where
  pub done : List EntryRow
  pub left : List EntryRow
  pub whole : rows ≡ done ++ left
  pub amount : length done ≡ i
  pub names : from ≡ length (names_in done)
  pub count : 2 * place ≡ length (pairs_from (offsets_in rows) 0 done)
  pub filled : pairs ≡ pad_to (length pairs₀) (pairs_from (offsets_in rows) 0 done)
  pub size : length pairs ≡ length pairs₀

record Next (left : List EntryRow) : Type 0 where
  pub row : EntryRow
  pub rest : List EntryRow
  pub is : left ≡ row ∷ rest

next_of : (left : List EntryRow) → 0 < length left → Next left
next_of [] h = absurd (omega arith)
next_of (r ∷ rs) h = record { row = r; rest = rs; is = refl }

nil-of : (left : List EntryRow) → length left ≡ 0 → left ≡ []
nil-of [] h = refl
nil-of (r ∷ rs) h = let g : suc (length rs) ≡ 0 = h in absurd (omega arith)

-- the same at an index that is the turn's number
pub turning-at : {rows : List EntryRow} {pairs₀ pairs : List ℕ} {place from i j : ℕ} → j ≡ i → Turning rows pairs₀ pairs place from i → Turning rows pairs₀ pairs place from j
turning-at e t = rw e t

module _ (offsets ends : List ℕ) (n : ℕ) (targets pairs₀ : List ℕ) (rows : List EntryRow) (h : ReferenceColumns rows offsets ends n targets pairs₀) where
  pub turning-start : Turning rows pairs₀ pairs₀ 0 0 0
  unfolding names_in pairs_from pad_to
  turning-start = record {
    done = [];
    left = rows;
    whole = refl;
    amount = refl;
    names = refl;
    count = refl;
    filled = h.cleared ∙ ap zeros (let z : length pairs₀ ≡ length pairs₀ - 0 = omega arith in z);
    size = refl;
  }

  targets-are : targets ≡ names_in rows ++ drop (length (names_in rows)) targets
  targets-are = sym (take-append-drop (length (names_in rows)) targets) ∙ ap (λ (l : List ℕ). l ++ drop (length (names_in rows)) targets) h.named

  names-inside : length (names_in rows) ≤ length targets
  names-inside = omega (arith, ap length targets-are, length-append (names_in rows) (drop (length (names_in rows)) targets))

  pub ends-inside : n ≤ length ends
  ends-inside =
      let a : length (take n ends) ≡ n = ap length h.stops ∙ length-ends 0 rows ∙ h.count in
      let b : length (take n ends ++ drop n ends) ≡ length ends = ap length (take-append-drop n ends) in
      omega (arith, a, b, length-append (take n ends) (drop n ends))

  module _ (done rest : List EntryRow) (r : EntryRow) (whole : rows ≡ done ++ (r ∷ rest)) where
    all-names : names_in rows ≡ names_in done ++ (r.names ++ names_in rest)
    unfolding names_in
    all-names = ap names_in whole ∙ names-append done (r ∷ rest)

    names-few : length (names_in done) + length r.names ≤ length (names_in rows)
    names-few =
        omega (arith, ap length all-names, length-append (names_in done) (r.names ++ names_in rest), length-append r.names (names_in rest))

    end_is : get_or ends (length done) 0 ≡ length (names_in done) + length r.names
    unfolding ends_in
    end_is =
        let l : length done < n = omega (arith, ap length whole, length-append done (r ∷ rest), h.count) in
        sym (get_or-take n ends (length done) 0 l)
        ∙ ap (λ (s : List ℕ). get_or s (length done) 0) (h.stops ∙ ap (ends_in 0) whole ∙ ends-append 0 done (r ∷ rest))
        ∙ get_or_at (ends_in 0 done) _ _ 0 (length done) (length-ends 0 done)
        ∙ (let z : 0 + length (names_in done) + length r.names ≡ length (names_in done) + length r.names = omega arith in z)

    names_are : take (length r.names) (drop (length (names_in done)) targets) ≡ r.names
    names_are =
        let t : List ℕ = drop (length (names_in rows)) targets in
        let a : targets ≡ names_in done ++ (r.names ++ (names_in rest ++ t)) =
        targets-are ∙ ap (λ (l : List ℕ). l ++ t) all-names ∙ append_assoc (names_in done) (r.names ++ names_in rest) t
        ∙ ap (λ (l : List ℕ). names_in done ++ l) (append_assoc r.names (names_in rest) t) in
        ap (λ (l : List ℕ). take (length r.names) (drop (length (names_in done)) l)) a
        ∙ ap (take (length r.names)) (drop-append_seam (names_in done) (r.names ++ (names_in rest ++ t)))
        ∙ take-append_seam r.names (names_in rest ++ t)

  module _ (pairs : List ℕ) (place from i : ℕ) (p : Turning rows pairs₀ pairs place from i) where
    pub turning-end : n ≤ i → (2 * place ≡ length (pairs_in rows)) × (pairs ≡ pad_to (length pairs₀) (pairs_in rows))
    unfolding pairs_in
    turning-end l =
        let z : length p.left ≡ 0 = omega (arith, ap length p.whole, length-append p.done p.left, h.count, p.amount) in
        let e : p.done ≡ rows = sym (p.whole ∙ ap (λ (s : List EntryRow). p.done ++ s) (nil-of p.left z) ∙ append-nil p.done) in (
          p.count ∙ ap (λ (s : List EntryRow). length (pairs_from (offsets_in rows) 0 s)) e,
          p.filled ∙ ap (λ (s : List EntryRow). pad_to (length pairs₀) (pairs_from (offsets_in rows) 0 s)) e,
        )

    module _ (l : i < n) where
      next : Next p.left
      next = next_of p.left (omega (arith, ap length p.whole, length-append p.done p.left, h.count, p.amount))

      split : rows ≡ p.done ++ (next.row ∷ next.rest)
      split = p.whole ∙ ap (λ (s : List EntryRow). p.done ++ s) next.is

      to_is : get_or ends i 0 ≡ from + length next.row.names
      to_is =
          ap (λ (k : ℕ). get_or ends k 0) (sym p.amount)
          ∙ end_is p.done next.rest next.row split
          ∙ ap (λ (k : ℕ). k + length next.row.names) (sym p.names)

      -- the row's references stand inside the table
      pub turning-forward : from ≤ get_or ends i 0
      turning-forward = omega (arith, to_is)

      pub turning-inside : get_or ends i 0 ≤ length targets
      turning-inside = omega (arith, to_is, names-few p.done next.rest next.row split, names-inside, p.names)

      pub turning-ready : (os names : List ℕ) → os ≡ take n offsets → names ≡ take (get_or ends i 0 - from) (drop from targets)
          → ResolveInput os (length os) names 0 (length names) pairs place
      turning-ready os names e f =
          let few = names-few p.done next.rest next.row split in
          let t : get_or ends i 0 ≡ from + length next.row.names = to_is in
          let o : Ascending 0 os = rw e h.searched.ascending in
          let m : length names ≤ get_or ends i 0 - from = rw f (omega (arith, length-take (get_or ends i 0 - from) (drop from targets))) in
          record {
            searched = record { inside = omega arith; ascending = rw (take-length os) o };
            forward = omega arith;
            inside = omega arith;
            room = omega (arith, few, p.names, p.count, p.size, h.room, pairs-most (offsets_in rows) 0 p.done);
          }

      made-is : pairs_of_entry (take n offsets) i (take (get_or ends i 0 - from) (drop from targets)) ≡ pairs_of_entry (offsets_in rows) (length p.done) next.row.names
      made-is =
          let t : get_or ends i 0 ≡ from + length next.row.names = to_is in
          let k : get_or ends i 0 - from ≡ length next.row.names = omega arith in
          ap₂ (λ (a b : ℕ). pairs_of_entry (take n offsets) i (take a (drop b targets))) k p.names
          ∙ ap (pairs_of_entry (take n offsets) i) (names_are p.done next.rest next.row split)
          ∙ ap₂ (λ (os : List ℕ) (a : ℕ). pairs_of_entry os a next.row.names) h.starts (sym p.amount)

      module _ (place' : ℕ) (pairs' : List ℕ)
          (answer : 2 * place' ≡ 2 * place + length (pairs_of_entry (take n offsets) i (take (get_or ends i 0 - from) (drop from targets))))
          (written : pairs' ≡ put pairs (2 * place) (pairs_of_entry (take n offsets) i (take (get_or ends i 0 - from) (drop from targets)))) where
        pub turning-more : Turning rows pairs₀ pairs' place' (get_or ends i 0) (i + 1)
        turning-more =
            let os : List ℕ = offsets_in rows in
            let r : EntryRow = next.row in
            let made : List ℕ = pairs_of_entry os (length p.done) r.names in
            let few = names-few p.done next.rest r split in
            let same : pairs_of_entry (take n offsets) i (take (get_or ends i 0 - from) (drop from targets)) ≡ made = made-is in
            let all : pairs_from os 0 (p.done ++ (r ∷ [])) ≡ pairs_from os 0 p.done ++ made = pairs_next os p.done r in
            let fits : 2 * place + length made ≤ length pairs =
            omega (arith, few, p.count, p.size, h.room, pairs-most os 0 p.done, pairs-few os (length p.done) r.names) in
            record {
              done = p.done ++ (r ∷ []);
              left = next.rest;
              whole = split ∙ sym (append_snoc p.done r next.rest);
              amount = length-append p.done (r ∷ []) ∙ ap (λ (k : ℕ). k + 1) p.amount;
              names = to_is ∙ ap (λ (k : ℕ). k + length r.names) p.names ∙ sym (names-next p.done r);
              count =
                  answer ∙ ap₂ (λ (k : ℕ) (s : List ℕ). k + length s) p.count same
                  ∙ sym (length-append (pairs_from os 0 p.done) made) ∙ ap length (sym all);
              filled =
                  written ∙ ap₂ (λ (s t : List ℕ). put s (2 * place) t) p.filled same
                  ∙ put-padded (length pairs₀) (pairs_from os 0 p.done) made (2 * place) p.count
                  ∙ ap (pad_to (length pairs₀)) (sym all);
              size = ap length (written ∙ ap (put pairs (2 * place)) same) ∙ length-put pairs (2 * place) made fits ∙ p.size;
            }

-- ---- columns as an analysis leaves them

pub padded-few : (xs column : List ℕ) → column ≡ pad_to (length column) xs → length xs ≤ length column
unfolding pad_to
padded-few xs column e = omega (arith, ap length e, length-append xs (zeros (length column - length xs)))

pub padded-take : (n : ℕ) (xs column : List ℕ) → length xs ≡ n → column ≡ pad_to (length column) xs → take n column ≡ xs
unfolding pad_to
padded-take n xs column l e = ap (take n) e ∙ take_at xs (zeros (length column - length xs)) n l

module _ (unit : List ℕ) (room : Rooms) (first : ℕ) (rows : List EntryRow) (u : UnitRows unit room first rows) (offsets ends targets pairs : List ℕ) where
  pub rows-held : offsets ≡ pad_to (length offsets) (offsets_in rows) → ends ≡ pad_to (length ends) (ends_in 0 rows)
      → targets ≡ pad_to (length targets) (names_in rows) → pairs ≡ zeros (length pairs) → 2 * length (names_in rows) ≤ length pairs
      → ReferenceColumns rows offsets ends (length rows) targets pairs
  rows-held o e t p k =
      let start : take (length rows) offsets ≡ offsets_in rows = padded-take (length rows) (offsets_in rows) offsets (length-offsets rows) o in
      record {
        count = refl;
        searched = record {
          inside = omega (arith, padded-few (offsets_in rows) offsets o, length-offsets rows);
          ascending =
              subst (Ascending 0) (sym start)
              (offsets-ascend (length unit) 0 0 rows (rowed-from (length unit) 0 first 0 rows (omega arith) u.rowed));
        };
        starts = start;
        stops = padded-take (length rows) (ends_in 0 rows) ends (length-ends 0 rows) e;
        named = padded-take (length (names_in rows)) (names_in rows) targets refl t;
        room = k;
        cleared = p;
      }
