-- Sound marks that are settled, with the first entry's own mark, are the marks of the definition.
use Prim.Native.Nat.{ℕ, zero, suc, ◌+◌, ◌*◌, ◌/◌, ◌≤◌, ◌<◌}
use mathlib.Core.Path.{◌≡◌, refl, sym, ◌∙◌}
use mathlib.Core.List.{List, [], ◌∷◌}
use mathlib.Core.Bool.{Bool, true, false, false≢true}
use mathlib.Core.Logic.{⊎_elim}
use native.Mathlib.Omega.{arith}
use lib.ListN.{length, get_or, set}
use lib.Seq.{ext_get_or}
use lib.Dec.{leb, eqb}
use borrow.Author.Tests.{eqb-true, eq-eqb, ne_eqb, leb-true, le-leb, lt-leb}
use Rattle.readers.specs.Choice.{pick, ◌and◌}
use Rattle.marking.specs.Below.{tab}
use Rattle.marking.specs.Graph.{Graph, size, holder, target, references, is_parent, names}
use Rattle.marking.specs.Survivors.{Descendant, child, deeper, Survivor, first, Live, live_root, live_named, live_under_root, live_under_named}
use Rattle.marking.specs.Inner.Survivors.{Closed}
use Rattle.marking.specs.Markings.{is_live, named_by}
use Rattle.marking.specs.Marks.{has, kept_of, mark_of, marks_of}
use Rattle.marking.specs.Inner.Passes.{Sound, Settled, DownAt, AlongAt, UpAt, end_first, names_first, names_first_at}
use Rattle.marking.proofs.Tests.{and-out, and_in, any_out, any-in, by-true, same_test, split}
use Rattle.marking.proofs.Tables.{length-tab, get_or-tab}
use Rattle.marking.proofs.Graphs.{WellFormed, parent-out, names-out, names_in_lem}
use Rattle.marking.proofs.Survivors.{kept-least}
use Rattle.marking.proofs.Markings.{named-by-in, named-by-out}
use Rattle.marking.proofs.Rounds.{kept_out, kept_in_lem}
use Rattle.marking.proofs.Letters.{live-is, is_live_lem}

-- ---- the first entry's own mark

pub end_none : (rs m : List ℕ) → length m ≤ 0 → m ≡ end_first rs m
unfolding end_first
end_none rs [] h = refl
end_none rs (x ∷ m) h = absurd (omega arith)

pub end_live : (rs m : List ℕ) (b : Bool) (v : ℕ) → 0 < length m → b ≡ names_first rs m → b ≡ true → v ≡ 3 → set m 0 v ≡ end_first rs m
unfolding end_first pick
end_live rs [] b v h e q r = absurd (omega arith)
end_live rs (x ∷ m) b v h e q r = rw (← e, q, r)

pub end_kept : (rs m : List ℕ) (b : Bool) (v : ℕ) → 0 < length m → b ≡ names_first rs m → b ≡ false → v ≡ 2 → set m 0 v ≡ end_first rs m
unfolding end_first pick
end_kept rs [] b v h e q r = absurd (omega arith)
end_kept rs (x ∷ m) b v h e q r = rw (← e, q, r)

length-end : (rs m : List ℕ) → length (end_first rs m) ≡ length m
unfolding end_first
length-end rs [] = refl
length-end rs (x ∷ m) = refl

end-at-first : (rs m : List ℕ) → 0 < length m → get_or (end_first rs m) 0 0 ≡ pick (names_first rs m) 3 2
unfolding end_first
end-at-first rs [] h = absurd (omega arith)
end-at-first rs (x ∷ m) h = refl

end-at : (rs m : List ℕ) (i : ℕ) → (i ≡ 0 → ⊥) → get_or (end_first rs m) i 0 ≡ get_or m i 0
unfolding end_first
end-at rs [] i n = refl
end-at rs (x ∷ m) zero n = absurd (n refl)
end-at rs (x ∷ m) (suc i) n = refl

-- whether reference j is of a kept entry and names the first one
pub first-other : (rs m : List ℕ) (j : ℕ) → (get_or rs (2 * j + 1) 0 ≡ 0 → ⊥) → names_first_at rs m j ≡ false
unfolding names_first_at
first-other rs m j h = by-true _ (λ e. h (eqb-true _ _ (and-out _ _ e).1))

pub first-low : (rs m : List ℕ) (j : ℕ) → get_or m (get_or rs (2 * j) 0) 0 < 2 → names_first_at rs m j ≡ false
unfolding names_first_at ◌and◌
first-low rs m j h = rw (lt-leb 2 (get_or m (get_or rs (2 * j) 0) 0) h)

pub first-yes : (rs m : List ℕ) (j : ℕ) → get_or rs (2 * j + 1) 0 ≡ 0 → 2 ≤ get_or m (get_or rs (2 * j) 0) 0 → names_first_at rs m j ≡ true
unfolding names_first_at
first-yes rs m j e h = and_in (le-leb 2 _ h) (eq-eqb _ 0 e)

-- ---- settled marks hold every survivor and every live entry

module _ (g : Graph) (m : List ℕ) (s : Sound g m) (q : Settled g.parents g.pairs m) where
  down_step : (p i : ℕ) → is_parent g p i ≡ true → 3 ≤ get_or m p 0 → 3 ≤ get_or m i 0
  unfolding DownAt
  down_step p i e h =
      let w = parent-out g p i e in
      q.down i w.inside (rw w.is w.some) (rw w.is h)

  up_step : (p i : ℕ) → is_parent g p i ≡ true → 2 ≤ get_or m i 0 → 2 ≤ get_or m p 0
  unfolding UpAt
  up_step p i e h =
      let w = parent-out g p i e in
      rw (← w.is) (q.up i w.inside (rw w.is w.some) h)

  along-step : (a t : ℕ) → names g a t ≡ true → 2 ≤ get_or m a 0 → 3 ≤ get_or m t 0
  unfolding AlongAt references
  along-step a t e h =
      let w = names-out g a t e in
      rw (← w.target_is) (q.along w.at w.inside (rw w.holder-is h))

  under-step : {r d : ℕ} → Descendant g r d → 3 ≤ get_or m r 0 → 3 ≤ get_or m d 0
  under-step {r} {d} (child e) h = down_step r d e h
  under-step {r} {d} (deeper {p = p} u e) h = down_step p d e (under-step u h)

  settled-closed : Closed g (λ i. 2 ≤ get_or m i 0)
  settled-closed = record {
    has_first = s.first;
    has_roots = λ i e. omega (arith, s.roots i e);
    has_parents = up_step;
    has_named = λ a t e h. omega (arith, along-step a t e h);
    has_under_roots = λ r d e u. omega (arith, under-step u (s.roots r e));
    has_under_named = λ a t d e h u. omega (arith, under-step u (along-step a t e h));
  }

  settled-kept : (i : ℕ) → Survivor g i → 2 ≤ get_or m i 0
  settled-kept = kept-least g (λ i. 2 ≤ get_or m i 0) settled-closed

  settled-live : (i : ℕ) → Live g i → 3 ≤ get_or m i 0
  settled-live i (live_root e) = s.roots i e
  settled-live i (live_named {s = a} e k) = along-step a i e (settled-kept a k)
  settled-live i (live_under_root {r = r} e u) = under-step u (s.roots r e)
  settled-live i (live_under_named {s = a} {t = t} e k u) = under-step u (along-step a t e (settled-kept a k))

-- ---- and no others

mark-is : (a l : Bool) (x : ℕ) → 1 ≤ x → x ≤ 3 → (a ≡ true → 2 ≤ x) → (2 ≤ x → a ≡ true) → (l ≡ true → 3 ≤ x) → (3 ≤ x → l ≡ true) → x ≡ pick a (pick l 3 2) 1
unfolding pick
mark-is true true x h k up un lp ln = omega (arith, lp refl)
mark-is true false x h k up un lp ln = ⊎_elim (λ (b : 2 < x). absurd (false≢true (ln b))) (λ (b : x ≤ 2). omega (arith, up refl)) (split 2 x)
mark-is false l x h k up un lp ln = ⊎_elim (λ (b : 1 < x). absurd (false≢true (un b))) (λ (b : x ≤ 1). omega arith) (split 1 x)

module _ (g : Graph) (v : WellFormed g) (m : List ℕ) (s : Sound g m) (q : Settled g.parents g.pairs m) where
  first_to : names_first g.pairs m ≡ true → named_by g (has (kept_of g)) 0 ≡ true
  unfolding names_first names_first_at references
  first_to e =
      let w = any_out (length g.pairs / 2) (names_first_at g.pairs m) e in
      let b = and-out (leb 2 (get_or m (holder g w.at) 0)) (eqb (target g w.at) 0) w.holds in
      named-by-in g v (has (kept_of g)) (holder g w.at) 0 (rw (eqb-true (target g w.at) 0 b.1) at (names_in_lem g w.at w.inside)) (kept_in_lem g v (holder g w.at) (s.kept (holder g w.at) (leb-true 2 (get_or m (holder g w.at) 0) b.0)))

  first-from : named_by g (has (kept_of g)) 0 ≡ true → names_first g.pairs m ≡ true
  unfolding names_first references
  first-from e =
      let w = named-by-out g (has (kept_of g)) 0 e in
      let r = names-out g w.by 0 w.does in
      any-in (length g.pairs / 2) (names_first_at g.pairs m) r.at r.inside (first-yes g.pairs m r.at r.target_is (rw r.holder-is (settled-kept g m s q w.by (kept_out g w.by w.marked))))

  mark-later : (i : ℕ) → i < size g → (i ≡ 0 → ⊥) → get_or m i 0 ≡ mark_of g (kept_of g) i
  unfolding mark_of pick
  mark-later i h n =
      rw (ne_eqb i 0 n)
      (mark-is (has (kept_of g) i) (is_live g (has (kept_of g)) i) (get_or m i 0) (s.least i h) (s.most i) (λ e. settled-kept g m s q i (kept_out g i e)) (λ k. kept_in_lem g v i (s.kept i k)) (λ e. settled-live g m s q i (live-is g v i e)) (λ k. is_live_lem g v i (s.live i k)))

  mark-first : 0 < size g → get_or (end_first g.pairs m) 0 0 ≡ mark_of g (kept_of g) 0
  unfolding mark_of pick
  mark-first h = end-at-first g.pairs m (omega (arith, s.long)) ∙ rw (kept_in_lem g v 0 (first h), same_test _ _ first_to first-from)

  pub settled-marks : end_first g.pairs m ≡ marks_of g
  unfolding marks_of
  settled-marks =
      ext_get_or 0 (end_first g.pairs m) (tab (size g) (mark_of g (kept_of g))) (length-end g.pairs m ∙ s.long ∙ sym (length-tab (size g) (mark_of g (kept_of g)))) (λ i h. each i (omega (arith, length-end g.pairs m, s.long)))
    where
      each : (i : ℕ) → i < size g → get_or (end_first g.pairs m) i 0 ≡ get_or (tab (size g) (mark_of g (kept_of g))) i 0
      each zero h = mark-first h ∙ sym (get_or-tab (size g) (mark_of g (kept_of g)) 0 h)
      each (suc i) h = end-at g.pairs m (suc i) (λ e. absurd (omega arith)) ∙ mark-later (suc i) h (λ e. absurd (omega arith)) ∙ sym (get_or-tab (size g) (mark_of g (kept_of g)) (suc i) h)
