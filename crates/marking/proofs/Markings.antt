-- What the tests of a single marking say, and what a list of markings leaves.
use Prim.Native.Nat.{ℕ, zero, suc, ◌<◌}
use mathlib.Core.Path.{◌≡◌, refl}
use mathlib.Core.Bool.{Bool, true, false≢true}
use mathlib.Core.Logic.{⊎_elim}
use native.Mathlib.Omega.{arith}
use lib.ListN.{get_or}
use borrow.Author.Tests.{eqb-true, eq-eqb}
use Rattle.readers.specs.Choice.{◌and◌, ◌or◌}
use Rattle.marking.specs.Graph.{Graph, size, is_parent, is_root, names}
use Rattle.marking.specs.Survivors.{Descendant, child, deeper, Survivor, first, root, parent, named, under_root, under_named}
use Rattle.marking.specs.Inner.Survivors.{Closed}
use Rattle.marking.specs.Markings.{climbs, is_descendant, named_by, is_top, is_live, justified}
use Rattle.marking.proofs.Tests.{and-out, and_in, or-out, or_inl, or_inr, any_out, any-in}
use Rattle.marking.proofs.Graphs.{WellFormed, parent-out, parent-below, parent-inside, holder-inside, target-inside, root-out, under-inside}

-- ---- descendants

climbs-out : (g : Graph) (k r d : ℕ) → climbs g k r d ≡ true → Descendant g r d
unfolding climbs
climbs-out g zero r d e = absurd (false≢true e)
climbs-out g (suc k) r d e =
    ⊎_elim (λ p. child p) (λ p. let b = and-out _ _ p in deeper (climbs-out g k r (get_or g.parents d 0) b.1) b.0)
    (or-out (is_parent g r d) (is_parent g (get_or g.parents d 0) d and climbs g k r (get_or g.parents d 0)) e)

climbs-in : (g : Graph) → WellFormed g → (k : ℕ) {r d : ℕ} → d < k → Descendant g r d → climbs g k r d ≡ true
unfolding climbs
climbs-in g v zero {r} {d} h u = absurd (omega arith)
climbs-in g v (suc k) {r} {d} h (child e) = or_inl _ e
climbs-in g v (suc k) {r} {d} h (deeper {p = p} u e) =
    let q = parent-out g p d e in
    or_inr (is_parent g r d) (rw q.is (and_in e (climbs-in g v k (omega (arith, parent-below g v p d e)) u)))

pub descendant-out : (g : Graph) (r d : ℕ) → is_descendant g r d ≡ true → Descendant g r d
unfolding is_descendant
descendant-out g r d e = climbs-out g (size g) r d e

pub descendant-in : (g : Graph) → WellFormed g → (r d : ℕ) → Descendant g r d → is_descendant g r d ≡ true
unfolding is_descendant
descendant-in g v r d u = climbs-in g v (size g) (under-inside u) u

-- ---- names of marked entries

pub named-by-in : (g : Graph) → WellFormed g → (m : ℕ → Bool) (s t : ℕ) → names g s t ≡ true → m s ≡ true → named_by g m t ≡ true
unfolding named_by
named-by-in g v m s t e h = any-in (size g) (λ s. names g s t and m s) s (holder-inside g v s t e) (and_in e h)

pub record NamedBy (g : Graph) (m : ℕ → Bool) (t : ℕ) : Type 0 where
  pub by : ℕ
  pub does : names g by t ≡ true
  pub marked : m by ≡ true

pub named-by-out : (g : Graph) (m : ℕ → Bool) (t : ℕ) → named_by g m t ≡ true → NamedBy g m t
unfolding named_by
named-by-out g m t e =
    let w = any_out (size g) (λ s. names g s t and m s) e in
    let b = and-out (names g w.at t) (m w.at) w.holds in
    record { by = w.at; does = b.0; marked = b.1 }

-- ---- live entries: what the test tells, by cases, and when it holds

module _ (g : Graph) (m : ℕ → Bool) (i : ℕ) (P : Type 0) (on-root : is_root g i ≡ true → P) (on-named : (s : ℕ) → names g s i ≡ true → m s ≡ true → P)
    (on-under-root : (r : ℕ) → is_root g r ≡ true → Descendant g r i → P) (on-under-named : (s t : ℕ) → names g s t ≡ true → m s ≡ true → Descendant g t i → P) where
  far : (r : ℕ) → (is_top g m r and is_descendant g r i) ≡ true → P
  unfolding is_top
  far r e =
      let b = and-out (is_root g r or named_by g m r) (is_descendant g r i) e in
      let u = descendant-out g r i b.1 in
      ⊎_elim (λ q. on-under-root r q u) (λ q. let w = named-by-out g m r q in on-under-named w.by r w.does w.marked u) (or-out (is_root g r) (named_by g m r) b.0)

  pub live_out : is_live g m i ≡ true → P
  unfolding is_live is_top
  live_out e =
      ⊎_elim (λ p. ⊎_elim on-root (λ q. let w = named-by-out g m i q in on-named w.by w.does w.marked) (or-out _ _ p)) (λ p. let w = any_out _ _ p in far w.at w.holds)
      (or-out _ _ e)

module _ (g : Graph) (v : WellFormed g) (m : ℕ → Bool) where
  pub live-root-in : (i : ℕ) → is_root g i ≡ true → is_live g m i ≡ true
  unfolding is_live is_top
  live-root-in i e = or_inl _ (or_inl _ e)

  pub live-named-in : (s i : ℕ) → names g s i ≡ true → m s ≡ true → is_live g m i ≡ true
  unfolding is_live is_top
  live-named-in s i e h = or_inl _ (or_inr _ (named-by-in g v m s i e h))

  under-in : (r i : ℕ) → r < size g → Descendant g r i → is_top g m r ≡ true → is_live g m i ≡ true
  unfolding is_live
  under-in r i h u e = or_inr _ (any-in _ _ r h (and_in e (descendant-in g v r i u)))

  pub live-under-root-in : (r i : ℕ) → is_root g r ≡ true → Descendant g r i → is_live g m i ≡ true
  unfolding is_top
  live-under-root-in r i e u = under-in r i (root-out g r e).0 u (or_inl _ e)

  pub live-under-named-in : (s t i : ℕ) → names g s t ≡ true → m s ≡ true → Descendant g t i → is_live g m i ≡ true
  unfolding is_top
  live-under-named-in s t i e h u = under-in t i (target-inside g v s t e) u (or_inr _ (named-by-in g v m s t e h))

-- ---- why an entry may be marked, one case for each of the document's words

pub data Reason (g : Graph) (m : ℕ → Bool) : ℕ → Type 0 where
  is_first : Reason g m 0
  by_root : {i : ℕ} → is_root g i ≡ true → Reason g m i
  by_parent : {p i : ℕ} → is_parent g p i ≡ true → m i ≡ true → Reason g m p
  is_named : {s t : ℕ} → names g s t ≡ true → m s ≡ true → Reason g m t
  is_under_root : {r d : ℕ} → is_root g r ≡ true → Descendant g r d → Reason g m d
  is_under_named : {s t d : ℕ} → names g s t ≡ true → m s ≡ true → Descendant g t d → Reason g m d

pub reason-out : (g : Graph) (m : ℕ → Bool) (i : ℕ) → justified g m i ≡ true → Reason g m i
unfolding justified
reason-out g m i e =
    ⊎_elim (λ p. rw (eqb-true i 0 p) is_first)
    (λ p. ⊎_elim (λ q. let w = any_out _ _ q in let b = and-out _ _ w.holds in by_parent b.0 b.1)
    (λ q. live_out g m i (Reason g m i) (λ r. by_root r) (λ s r h. is_named r h) (λ t r u. is_under_root r u) (λ s t r h u. is_under_named r h u) q) (or-out _ _ p))
    (or-out _ _ e)

pub reason-in : (g : Graph) → WellFormed g → (m : ℕ → Bool) (i : ℕ) → Reason g m i → justified g m i ≡ true
unfolding justified
reason-in g v m i is_first = or_inl _ (eq-eqb 0 0 refl)
reason-in g v m i (by_root e) = or_inr _ (or_inr _ (live-root-in g v m i e))
reason-in g v m i (by_parent {i = j} e h) = or_inr _ (or_inl _ (any-in _ _ j (parent-out g i j e).inside (and_in e h)))
reason-in g v m i (is_named {s = s} e h) = or_inr _ (or_inr _ (live-named-in g v m s i e h))
reason-in g v m i (is_under_root {r = r} e u) = or_inr _ (or_inr _ (live-under-root-in g v m r i e u))
reason-in g v m i (is_under_named {s = s} {t = t} e h u) = or_inr _ (or_inr _ (live-under-named-in g v m s t i e h u))

-- a reason among survivors makes a survivor
pub reason_kept : (g : Graph) (m : ℕ → Bool) → ((i : ℕ) → m i ≡ true → Survivor g i) → (i : ℕ) → i < size g → Reason g m i → Survivor g i
reason_kept g m s i h is_first = first h
reason_kept g m s i h (by_root e) = root e
reason_kept g m s i h (by_parent {i = j} e k) = parent e (s j k)
reason_kept g m s i h (is_named {s = a} e k) = named e (s a k)
reason_kept g m s i h (is_under_root e u) = under_root e u
reason_kept g m s i h (is_under_named {s = a} e k u) = under_named e (s a k) u

-- where every entry with a reason is marked, the marked ones are closed
pub reasons-closed : (g : Graph) → WellFormed g → (m : ℕ → Bool) → ((i : ℕ) → i < size g → Reason g m i → m i ≡ true) → Closed g (λ i. m i ≡ true)
reasons-closed g v m f = record {
  has_first = λ h. f 0 h is_first;
  has_roots = λ i e. f i (root-out g i e).0 (by_root e);
  has_parents = λ p i e k. f p (parent-inside g v p i e) (by_parent e k);
  has_named = λ s t e k. f t (target-inside g v s t e) (is_named e k);
  has_under_roots = λ r d e u. f d (under-inside u) (is_under_root e u);
  has_under_named = λ s t d e k u. f d (under-inside u) (is_under_named e k u);
}
