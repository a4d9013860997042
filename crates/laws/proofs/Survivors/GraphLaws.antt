-- The graph of a unit says what its rows say: parents, roots, and which entry a reference names, by its offset. Assumes nothing but that the offsets ascend.
use mathlib.Core.Path.{◌≡◌, refl, ap, sym, ◌∙◌, subst}
use Prim.Native.Nat.{ℕ, zero, suc, ◌+◌, ◌*◌, ◌≤◌, ◌<◌}
use native.Mathlib.Omega.{arith}
use mathlib.Core.Bool.{true}
use mathlib.Core.List.{List, [], ◌∷◌, ◌++◌}
use Rattle.std.specs.Prelude.{None, Option, Some}
use mathlib.Core.Logic.{◌⊎◌, inl, inr, ⊎_elim, ◌↔◌}
use lib.ListN.{length, get_or}
use lib.Dec.{eqb}
use mir.Facts.{eqb_yes, yes_eqb, no_eqb}
use borrow.Author.Tests.{eqb-true, eq-eqb}
use Rattle.readers.proofs.Choice.{pick_yes, pick_no, pick-either}
use Rattle.marking.specs.Graph.{is_parent, is_root, references, names}
use Rattle.marking.proofs.Graphs.{IsParent, parent-out, parent_in, root-out, root_in, Names, names-out, names_in_lem}
use Rattle.marking.specs.Analysis.{EntryRow}
use Rattle.marking.specs.Columns.{offsets_in, parents_in, roots_in}
use Rattle.marking.specs.Resolution.{entry_from, pair_for, pairs_of_entry, pairs_from, pairs_in, graph_of, Ascending}
use Rattle.marking.specs.Members.{Member, here, there, Nth, now, later}
use Rattle.laws.specs.UnitSurvivors.{ParentIn, RootIn, NamesIn}
use Rattle.marking.proofs.Members.{nothing-in, from_member}
use Rattle.marking.proofs.Rows.{length-parents}

-- ---- the row of an entry

pub record RowAt (rows : List EntryRow) (i : ℕ) : Type 0 where
  pub row : EntryRow
  pub at : Nth row i rows

row_at : (rows : List EntryRow) (i : ℕ) → i < length rows → RowAt rows i
row_at [] i h = absurd (omega arith)
row_at (r ∷ rows) zero h = record { row = r; at = now refl }
row_at (r ∷ rows) (suc i) h = let q : RowAt rows i = row_at rows i (omega arith) in record { row = q.row; at = later q.at }

nth_inside : (r : EntryRow) (i : ℕ) (rows : List EntryRow) → Nth r i rows → i < length rows
nth_inside r i [] m = elim m [ ]
nth_inside r i (x ∷ rows) (now e) = omega arith
nth_inside r i (x ∷ rows) (later {n = j} m) = let h : j < length rows = nth_inside r j rows m in omega arith

nth-parent : (r : EntryRow) (i : ℕ) (rows : List EntryRow) → Nth r i rows → get_or (parents_in rows) i 0 ≡ r.parent
unfolding parents_in
nth-parent r i [] m = elim m [ ]
nth-parent r i (x ∷ rows) (now e) = ap (λ (z : EntryRow). z.parent) (sym e)
nth-parent r i (x ∷ rows) (later {n = j} m) = nth-parent r j rows m

pub nth-root : (r : EntryRow) (i : ℕ) (rows : List EntryRow) → Nth r i rows → get_or (roots_in rows) i 0 ≡ r.root
unfolding roots_in
nth-root r i [] m = elim m [ ]
nth-root r i (x ∷ rows) (now e) = ap (λ (z : EntryRow). z.root) (sym e)
nth-root r i (x ∷ rows) (later {n = j} m) = nth-root r j rows m

-- ---- parents and roots

module _ (rows : List EntryRow) where
  row-parent : (p i : ℕ) → is_parent (graph_of rows) p i ≡ true → ParentIn rows p i
  unfolding graph_of
  row-parent p i q =
      let o : IsParent (graph_of rows) p i = parent-out (graph_of rows) p i q in
      let a : RowAt rows i = row_at rows i (omega (arith, o.inside, length-parents rows)) in
      record { row = a.row; at = a.at; is = sym (nth-parent a.row i rows a.at) ∙ o.is; some_parent = o.some }

  parent_row : (p i : ℕ) → ParentIn rows p i → is_parent (graph_of rows) p i ≡ true
  unfolding graph_of
  parent_row p i a =
      let q : get_or (parents_in rows) i 0 ≡ p = nth-parent a.row i rows a.at ∙ a.is in
      subst (λ (z : ℕ). is_parent (graph_of rows) z i ≡ true) q
      (parent_in (graph_of rows) i (omega (arith, nth_inside a.row i rows a.at, length-parents rows)) (λ z. a.some_parent (sym q ∙ z)))

  pub parent-law : (p i : ℕ) → (is_parent (graph_of rows) p i ≡ true) ↔ ParentIn rows p i
  parent-law p i = (row-parent p i, parent_row p i)

  row-root : (i : ℕ) → is_root (graph_of rows) i ≡ true → RootIn rows i
  unfolding graph_of
  row-root i q =
      let o = root-out (graph_of rows) i q in
      let l : i < length (parents_in rows) = o.0 in
      let a : RowAt rows i = row_at rows i (omega (arith, length-parents rows)) in
      record { row = a.row; at = a.at; is = sym (nth-root a.row i rows a.at) ∙ eqb-true (get_or (roots_in rows) i 0) 1 o.1 }

  root-row : (i : ℕ) → RootIn rows i → is_root (graph_of rows) i ≡ true
  unfolding graph_of
  root-row i a =
      root_in (graph_of rows) i (omega (arith, nth_inside a.row i rows a.at, length-parents rows))
      (eq-eqb (get_or (roots_in rows) i 0) 1 (nth-root a.row i rows a.at ∙ a.is))

  pub root-law : (i : ℕ) → (is_root (graph_of rows) i ≡ true) ↔ RootIn rows i
  root-law i = (row-root i, root-row i)

-- ---- the entry at an offset

record EntryAt (rows : List EntryRow) (k v t : ℕ) : Type 0 where
  pub row : EntryRow
  pub place : ℕ
  pub at : Nth row place rows
  pub is : t ≡ k + place
  pub offset_is : row.offset ≡ v

entry-out : (rows : List EntryRow) (k v t : ℕ) → entry_from k (offsets_in rows) v ≡ Some t → EntryAt rows k v t
unfolding entry_from offsets_in
entry-out [] k v t q = let z : ◌≡◌ {A = ℕ} 0 1 = cc in absurd (omega arith)
entry-out (r ∷ rows) k v t q =
    pick-either (λ (o : Option ℕ). o ≡ Some t → EntryAt (r ∷ rows) k v t) (eqb r.offset v) (Some k) (entry_from (suc k) (offsets_in rows) v)
    (λ e p. record { row = r; place = 0; at = now refl; is = (let z : k ≡ t = cc in omega arith); offset_is = eqb_yes {a = r.offset} {b = v} e })
    (λ e p. let a : EntryAt rows (suc k) v t = entry-out rows (suc k) v t p in
    record { row = a.row; place = suc a.place; at = later a.at; is = omega (arith, a.is); offset_is = a.offset_is }) q

offset-member : (r : EntryRow) (i : ℕ) (rows : List EntryRow) → Nth r i rows → Member r.offset (offsets_in rows)
unfolding offsets_in
offset-member r i [] m = elim m [ ]
offset-member r i (x ∷ rows) (now e) = here (ap (λ (z : EntryRow). z.offset) e)
offset-member r i (x ∷ rows) (later {n = j} m) = there (offset-member r j rows m)

entry_in : (low : ℕ) (rows : List EntryRow) → Ascending low (offsets_in rows) → (k i : ℕ) (r : EntryRow) → Nth r i rows → entry_from k (offsets_in rows) r.offset ≡ Some (k + i)
unfolding entry_from offsets_in Ascending
entry_in low [] f k i r m = elim m [ ]
entry_in low (x ∷ rows) f k i r (now e) =
    pick_yes _ _ _ (yes_eqb {a = x.offset} {b = r.offset} (ap (λ (z : EntryRow). z.offset) (sym e))) ∙ ap (λ (z : ℕ). Some z) (let q : k ≡ k + 0 = omega arith in q)
entry_in low (x ∷ rows) f k i r (later {n = j} m) =
    let h : suc x.offset ≤ r.offset = from_member (suc x.offset) r.offset (offsets_in rows) f.1 (offset-member r j rows m) in
    pick_no _ _ _ (no_eqb {a = x.offset} {b = r.offset} (omega arith))
    ∙ entry_in (suc x.offset) rows f.1 (suc k) j r m
    ∙ ap (λ (z : ℕ). Some z) (let q : suc k + j ≡ k + suc j = omega arith in q)

-- ---- pairs

module _ (s t : ℕ) where
  unfoldable Pair : List ℕ → Type 0
  Pair [] = ⊥
  Pair (a ∷ []) = ⊥
  Pair (a ∷ b ∷ xs) = ((a ≡ s) × (b ≡ t)) ⊎ Pair xs

  pair-from : (xs : List ℕ) (j : ℕ) → 2 * j + 1 < length xs → get_or xs (2 * j) 0 ≡ s → get_or xs (2 * j + 1) 0 ≡ t → Pair xs
  unfolding Pair
  pair-from [] j h p q = absurd (omega arith)
  pair-from (a ∷ []) j h p q = absurd (omega arith)
  pair-from (a ∷ b ∷ xs) zero h p q = inl (p, q)
  pair-from (a ∷ b ∷ xs) (suc j) h p q =
      let d : 2 * suc j ≡ suc (suc (2 * j)) = omega arith in
      let c : 2 * suc j + 1 ≡ suc (suc (2 * j + 1)) = omega arith in
      inr (pair-from xs j (omega arith) (sym (ap (λ (z : ℕ). get_or (a ∷ b ∷ xs) z 0) d) ∙ p) (sym (ap (λ (z : ℕ). get_or (a ∷ b ∷ xs) z 0) c) ∙ q))

  record PairAt (xs : List ℕ) : Type 0 where
    pub place : ℕ
    pub inside : 2 * place + 1 < length xs
    pub first : get_or xs (2 * place) 0 ≡ s
    pub second : get_or xs (2 * place + 1) 0 ≡ t

  pair-at : (xs : List ℕ) → Pair xs → PairAt xs
  unfolding Pair
  pair-at [] p = absurd p
  pair-at (a ∷ []) p = absurd p
  pair-at (a ∷ b ∷ xs) p =
      ⊎_elim
      (λ (q : (a ≡ s) × (b ≡ t)). record { place = 0; inside = omega arith; first = q.0; second = q.1 })
      (λ (q : Pair xs).
      let r : PairAt xs = pair-at xs q in
      let d : 2 * suc r.place ≡ suc (suc (2 * r.place)) = omega arith in
      let c : 2 * suc r.place + 1 ≡ suc (suc (2 * r.place + 1)) = omega arith in
      record {
        place = suc r.place;
        inside = omega (arith, r.inside);
        first = ap (λ (z : ℕ). get_or (a ∷ b ∷ xs) z 0) d ∙ r.first;
        second = ap (λ (z : ℕ). get_or (a ∷ b ∷ xs) z 0) c ∙ r.second;
      }) p

  -- those of an entry's references, and then others
  record NamedAmong (os : List ℕ) (ts : List ℕ) : Type 0 where
    pub offset : ℕ
    pub among : Member offset ts
    pub finds : entry_from 0 os offset ≡ Some t

  module _ (os : List ℕ) (i : ℕ) where
    held_more : (v : ℕ) (ts ys : List ℕ) → ((i ≡ s) × NamedAmong os ts) ⊎ Pair ys → ((i ≡ s) × NamedAmong os (v ∷ ts)) ⊎ Pair ys
    held_more v ts ys =
        ⊎_elim (λ (h : (i ≡ s) × NamedAmong os ts). inl (h.0, record { offset = h.1.offset; among = there h.1.among; finds = h.1.finds })) (λ (h : Pair ys). inr h)

    held_one : (v : ℕ) (ts ys zs : List ℕ) → (Pair (zs ++ ys) → ((i ≡ s) × NamedAmong os ts) ⊎ Pair ys) → (o : Option ℕ) → entry_from 0 os v ≡ o
        → Pair ((pair_for i o ++ zs) ++ ys) → ((i ≡ s) × NamedAmong os (v ∷ ts)) ⊎ Pair ys
    unfolding pair_for Pair
    held_one v ts ys zs k None q p = held_more v ts ys (k p)
    held_one v ts ys zs k (Some u) q p =
        ⊎_elim
        (λ (h : (i ≡ s) × (u ≡ t)). inl (h.0, record { offset = v; among = here refl; finds = q ∙ ap (λ (z : ℕ). Some z) h.1 }))
        (λ (h : Pair (zs ++ ys)). held_more v ts ys (k h)) p

    held_out : (ts ys : List ℕ) → Pair (pairs_of_entry os i ts ++ ys) → ((i ≡ s) × NamedAmong os ts) ⊎ Pair ys
    unfolding pairs_of_entry
    held_out [] ys p = inr p
    held_out (v ∷ ts) ys p = held_one v ts ys (pairs_of_entry os i ts) (held_out ts ys) (entry_from 0 os v) refl p

    over-one : (o : Option ℕ) (zs ys : List ℕ) → Pair (zs ++ ys) → Pair ((pair_for i o ++ zs) ++ ys)
    unfolding pair_for Pair
    over-one None zs ys p = p
    over-one (Some u) zs ys p = inr p

    this-one : (o : Option ℕ) (zs ys : List ℕ) → i ≡ s → o ≡ Some t → Pair ((pair_for i o ++ zs) ++ ys)
    unfolding pair_for Pair
    this-one None zs ys e q = let z : ◌≡◌ {A = ℕ} 0 1 = cc in absurd (omega arith)
    this-one (Some u) zs ys e q = inl (e, cc)

    held-over : (ts ys : List ℕ) → Pair ys → Pair (pairs_of_entry os i ts ++ ys)
    unfolding pairs_of_entry
    held-over [] ys p = p
    held-over (v ∷ ts) ys p = over-one (entry_from 0 os v) (pairs_of_entry os i ts) ys (held-over ts ys p)

    held_in : (ts ys : List ℕ) → i ≡ s → (v : ℕ) → Member v ts → entry_from 0 os v ≡ Some t → Pair (pairs_of_entry os i ts ++ ys)
    unfolding pairs_of_entry
    held_in [] ys e v m q = absurd (nothing-in v m)
    held_in (z ∷ ts) ys e v (here h) q = this-one (entry_from 0 os z) (pairs_of_entry os i ts) ys e (ap (entry_from 0 os) (sym h) ∙ q)
    held_in (z ∷ ts) ys e v (there m) q = over-one (entry_from 0 os z) (pairs_of_entry os i ts) ys (held_in ts ys e v m q)

  -- those of rows from entry k on
  record HeldBy (os : List ℕ) (k : ℕ) (rows : List EntryRow) : Type 0 where
    pub row : EntryRow
    pub place : ℕ
    pub at : Nth row place rows
    pub is : s ≡ k + place
    pub held : NamedAmong os row.names

  rows_out : (os : List ℕ) (k : ℕ) (rows : List EntryRow) → Pair (pairs_from os k rows) → HeldBy os k rows
  unfolding pairs_from Pair
  rows_out os k [] p = absurd p
  rows_out os k (r ∷ rows) p =
      ⊎_elim
      (λ (h : (k ≡ s) × NamedAmong os r.names). record { row = r; place = 0; at = now refl; is = (let e : k ≡ s = h.0 in omega arith); held = h.1 })
      (λ (h : Pair (pairs_from os (suc k) rows)).
      let a : HeldBy os (suc k) rows = rows_out os (suc k) rows h in
      record { row = a.row; place = suc a.place; at = later a.at; is = omega (arith, a.is); held = a.held })
      (held_out os k r.names (pairs_from os (suc k) rows) p)

  rows_in : (os : List ℕ) (k : ℕ) (rows : List EntryRow) (i : ℕ) (r : EntryRow) → Nth r i rows → s ≡ k + i → NamedAmong os r.names → Pair (pairs_from os k rows)
  unfolding pairs_from
  rows_in os k [] i r m e h = elim m [ ]
  rows_in os k (x ∷ rows) i r (now q) e h =
      held_in os k x.names (pairs_from os (suc k) rows) (omega arith) h.offset (subst (λ (z : EntryRow). Member h.offset z.names) q h.among) h.finds
  rows_in os k (x ∷ rows) i r (later {n = j} m) e h = held-over os k x.names (pairs_from os (suc k) rows) (rows_in os (suc k) rows j r m (omega arith) h)

module _ (rows : List EntryRow) (low : ℕ) (ascending : Ascending low (offsets_in rows)) (s t : ℕ) where
  row-names : names (graph_of rows) s t ≡ true → NamesIn rows s t
  unfolding graph_of references pairs_in
  row-names q =
      let n : Names (graph_of rows) s t = names-out (graph_of rows) s t q in
      let p : Pair s t (pairs_from (offsets_in rows) 0 rows) = pair-from s t (pairs_from (offsets_in rows) 0 rows) n.at (omega (arith, n.inside)) n.holder-is n.target_is in
      let h : HeldBy s t (offsets_in rows) 0 rows = rows_out s t (offsets_in rows) 0 rows p in
      let f : EntryAt rows 0 h.held.offset t = entry-out rows 0 h.held.offset t h.held.finds in
      record {
        row = h.row;
        at = subst (λ (z : ℕ). Nth h.row z rows) (let e : h.place ≡ s = omega (arith, h.is) in e) h.at;
        named = f.row;
        named_at = subst (λ (z : ℕ). Nth f.row z rows) (let e : f.place ≡ t = omega (arith, f.is) in e) f.at;
        among = subst (λ (z : ℕ). Member z h.row.names) (sym f.offset_is) h.held.among;
      }

  names-row : NamesIn rows s t → names (graph_of rows) s t ≡ true
  unfolding graph_of references pairs_in
  names-row n =
      let f : entry_from 0 (offsets_in rows) n.named.offset ≡ Some t =
      entry_in low rows ascending 0 t n.named n.named_at ∙ ap (λ (z : ℕ). Some z) (let e : 0 + t ≡ t = omega arith in e) in
      let a : PairAt s t (pairs_from (offsets_in rows) 0 rows) =
      pair-at s t (pairs_from (offsets_in rows) 0 rows)
      (rows_in s t (offsets_in rows) 0 rows s n.row n.at (omega arith) (record { offset = n.named.offset; among = n.among; finds = f })) in
      subst (λ (z : ℕ). names (graph_of rows) z t ≡ true) a.first
      (subst (λ (z : ℕ). names (graph_of rows) (get_or (pairs_from (offsets_in rows) 0 rows) (2 * a.place) 0) z ≡ true) a.second
      (names_in_lem (graph_of rows) a.place (omega (arith, a.inside))))

  pub names-law : (names (graph_of rows) s t ≡ true) ↔ NamesIn rows s t
  names-law = (row-names, names-row)
