-- One store that raises a mark, and what finds nothing to raise.
use Prim.Native.Nat.{ℕ, zero, suc, ◌+◌, ◌*◌, ◌/◌, ◌≤◌, ◌<◌}
use mathlib.Core.Path.{◌≡◌, refl, ◌∙◌}
use mathlib.Core.List.{List, [], ◌∷◌}
use mathlib.Core.Bool.{Bool, true, false, not, true≢false, false≢true}
use native.Mathlib.Nat.{not-suc-le-zero, le_of_suc-le-suc}
use native.Mathlib.Omega.{arith}
use native.Mathlib.Decide.{ℕ_discrete}
use lib.Dec.{eqb}
use borrow.Author.Tests.{eq-eqb}
use lib.ListN.{length, get_or, set, length-set}
use lib.Seq.{get_or-set_same, get_or-set_other}
use Rattle.readers.specs.Nesting.{no_parent}
use Rattle.marking.specs.Graph.{Graph, size, is_root, references, holder, parent_fits, pair_fits}
use Rattle.marking.specs.Survivors.{Survivor, parent, Live, live_named}
use Rattle.marking.specs.Inner.Passes.{sum, Sound, Pass, Raised, WithParents, WithPairs, DownAt, AlongAt, UpAt, ParentsFit, PairsFit}
use Rattle.marking.proofs.Tests.{every-at}
use Rattle.marking.proofs.Graphs.{parent_in, names_in_lem, parent-fits, pair_fits_lem}
use Rattle.marking.proofs.Survivors.{live-kept, live-down}

-- the marks with v at k
data At (m : List ℕ) (k v i : ℕ) : Type 0 where
  here : i ≡ k → get_or (set m k v) i 0 ≡ v → At m k v i
  there : get_or (set m k v) i 0 ≡ get_or m i 0 → At m k v i

at : (m : List ℕ) (k v : ℕ) → k < length m → (i : ℕ) → At m k v i
at m k v h i = go (ℕ_discrete i k)
  where
    go : Dec (i ≡ k) → At m k v i
    go (yes q) = here q (rw q (get_or-set_same m k v 0 h))
    go (no q) = there (get_or-set_other m k i v 0 q)

pub sum-set : (m : List ℕ) (k v : ℕ) → k < length m → get_or m k 0 < v → sum m < sum (set m k v)
unfolding sum
sum-set [] k v h l = absurd (not-suc-le-zero h)
sum-set (x ∷ m) zero v h l = omega arith
sum-set (x ∷ m) (suc k) v h l = omega (arith, sum-set m k v (le_of_suc-le-suc h) l)

-- a mark that is raised with reason
pub raised : (g : Graph) (m : List ℕ) (k v : ℕ) → Sound g m → k < length m → v ≤ 3 → get_or m k 0 < v → Survivor g k → (3 ≤ v → Live g k) → Sound g (set m k v)
raised g m k v s h top l kept live = record {
  long = length-set m k v ∙ s.long;
  most = λ i. most i (at m k v h i);
  least = λ i b. least i b (at m k v h i);
  kept = λ i b. kept_of_lem i b (at m k v h i);
  live = λ i b. live_of i b (at m k v h i);
  roots = λ i e. root-of i e (at m k v h i);
  first = λ b. first_of b (at m k v h 0);
}
  where
    most : (i : ℕ) → At m k v i → get_or (set m k v) i 0 ≤ 3
    most i (here q e) = omega arith
    most i (there e) = omega (arith, s.most i)

    least : (i : ℕ) → i < size g → At m k v i → 1 ≤ get_or (set m k v) i 0
    least i b (here q e) = omega arith
    least i b (there e) = omega (arith, s.least i b)

    kept_of_lem : (i : ℕ) → 2 ≤ get_or (set m k v) i 0 → At m k v i → Survivor g i
    kept_of_lem i b (here q e) = rw q kept
    kept_of_lem i b (there e) = s.kept i (omega arith)

    live_of : (i : ℕ) → 3 ≤ get_or (set m k v) i 0 → At m k v i → Live g i
    live_of i b (here q e) = rw q (live (omega arith))
    live_of i b (there e) = s.live i (omega arith)

    root-of : (i : ℕ) → is_root g i ≡ true → At m k v i → 3 ≤ get_or (set m k v) i 0
    root-of i r (here q e) = let t : 3 ≤ get_or m k 0 = rw (← q) (s.roots i r) in omega arith
    root-of i r (there e) = omega (arith, s.roots i r)

    first_of : 0 < size g → At m k v 0 → 2 ≤ get_or (set m k v) 0 0
    first_of b (here q e) = let t : 2 ≤ get_or m k 0 = rw (← q) (s.first b) in omega arith
    first_of b (there e) = omega (arith, s.first b)

-- nothing is done
pub idle : {On : Graph → Type 0} {C : Type 0} {m : List ℕ} → C → Pass On C m m false
idle c = record { spread = record { sound = λ g o s. s }; more = λ e. absurd (false≢true e); same = λ e. refl; done = λ e. c }

-- a mark is raised, or none is
by-raise : (On : Graph → Type 0) (C : Type 0) (m m' : List ℕ) (s l t v : ℕ) (r : Bool) → Raised m m' s l t v r → t < length m
    → (l ≤ get_or m s 0 → get_or m t 0 < v → (g : Graph) → On g → Sound g m → Sound g (set m t v))
    → ((l ≤ get_or m s 0 → v ≤ get_or m t 0) → C) → Pass On C m m' r
by-raise On C m m' s l t v true q h f d =
    let k = q.rose refl in
    rw k.2 (record { spread = record { sound = f k.0 k.1 }; more = λ e. sum-set m t v h k.1; same = λ e. absurd (true≢false e); done = λ e. absurd (true≢false e) })
by-raise On C m m' s l t v false q h f d = rw (q.same refl) (idle (d (q.done refl)))

-- what a look at a parent or a pair finds is an entry
pub parent-before : (ps m : List ℕ) (i : ℕ) → ParentsFit ps m → i < length m → (get_or ps i 0 ≡ no_parent → ⊥) → get_or ps i 0 < length m
parent-before ps m i w h n =
    omega (arith, parent-fits ps i (every-at (length ps) (parent_fits ps) w.fit i (rw (← w.long) h)) n)

pub pair_inside : (rs m : List ℕ) (j : ℕ) → PairsFit rs m → j < length rs / 2 → (get_or rs (2 * j) 0 < length m) × (get_or rs (2 * j + 1) 0 < length m)
pair_inside rs m j w h = pair_fits_lem rs (length m) j (every-at (length rs / 2) (pair_fits rs (length m)) w j h)

module _ (ps m m' : List ℕ) (i : ℕ) (r : Bool) where
  pub down-pass : ParentsFit ps m → i < length m → (get_or ps i 0 ≡ no_parent → ⊥) → Raised m m' (get_or ps i 0) 3 i 3 r
      → Pass (WithParents ps) (DownAt ps m i) m m' r
  unfolding DownAt
  down-pass w h n q = by-raise (WithParents ps) _ m m' _ 3 i 3 r q h sound (λ d _. d)
    where
      live : 3 ≤ get_or m (get_or ps i 0) 0 → (g : Graph) → g.parents ≡ ps → Sound g m → Live g i
      live k g o s = live-down (s.live (get_or g.parents i 0) (rw o k)) (parent_in g i (rw (← s.long) h) (rw o n))

      sound : 3 ≤ get_or m (get_or ps i 0) 0 → get_or m i 0 < 3 → (g : Graph) → g.parents ≡ ps → Sound g m → Sound g (set m i 3)
      sound k l g o s = raised g m i 3 s h (omega arith) l (live-kept (live k g o s)) (λ _. live k g o s)

  pub up-pass : ParentsFit ps m → i < length m → (get_or ps i 0 ≡ no_parent → ⊥) → Raised m m' i 2 (get_or ps i 0) 2 r
      → Pass (WithParents ps) (UpAt ps m i) m m' r
  unfolding UpAt
  up-pass w h n q = by-raise (WithParents ps) _ m m' i 2 _ 2 r q in-m sound (λ d _. d)
    where
      in-m : get_or ps i 0 < length m
      in-m = parent-before ps m i w h n

      sound : 2 ≤ get_or m i 0 → get_or m (get_or ps i 0) 0 < 2 → (g : Graph) → g.parents ≡ ps → Sound g m → Sound g (set m (get_or ps i 0) 2)
      sound k l g o s = raised g m (get_or ps i 0) 2 s in-m (omega arith) l (rw (← o) (parent (parent_in g i (rw (← s.long) h) (rw o n)) (s.kept i k))) (λ b. absurd (omega arith))

-- where there is no parent
pub down-none : (ps m : List ℕ) (i : ℕ) → get_or ps i 0 ≡ no_parent → Pass (WithParents ps) (DownAt ps m i) m m (not (eqb (get_or ps i 0) no_parent))
unfolding DownAt
down-none ps m i e = rw (eq-eqb (get_or ps i 0) no_parent e) (idle (λ n. absurd (n e)))

pub up_none : (ps m : List ℕ) (i : ℕ) → get_or ps i 0 ≡ no_parent → Pass (WithParents ps) (UpAt ps m i) m m (not (eqb (get_or ps i 0) no_parent))
unfolding UpAt
up_none ps m i e = rw (eq-eqb (get_or ps i 0) no_parent e) (idle (λ n. absurd (n e)))

-- where the entry is not kept
pub up-low : (ps m : List ℕ) (i : ℕ) → get_or m i 0 < 2 → Pass (WithParents ps) (UpAt ps m i) m m false
unfolding UpAt
up-low ps m i h = idle (λ n k. absurd (omega arith))

pub along-pass : (rs m m' : List ℕ) (j : ℕ) (r : Bool) → PairsFit rs m → j < length rs / 2 → Raised m m' (get_or rs (2 * j) 0) 2 (get_or rs (2 * j + 1) 0) 3 r
    → Pass (WithPairs rs) (AlongAt rs m j) m m' r
unfolding AlongAt references
along-pass rs m m' j r w h q = by-raise (WithPairs rs) _ m m' _ 2 _ 3 r q in-m sound (λ d. d)
  where
    in-m : get_or rs (2 * j + 1) 0 < length m
    in-m = (pair_inside rs m j w h).1

    live : 2 ≤ get_or m (get_or rs (2 * j) 0) 0 → (g : Graph) → g.pairs ≡ rs → Sound g m → Live g (get_or rs (2 * j + 1) 0)
    live k g o s = rw (← o) (live_named (names_in_lem g j (rw o h)) (s.kept (holder g j) (rw o k)))

    sound : 2 ≤ get_or m (get_or rs (2 * j) 0) 0 → get_or m (get_or rs (2 * j + 1) 0) 0 < 3 → (g : Graph) → g.pairs ≡ rs → Sound g m → Sound g (set m (get_or rs (2 * j + 1) 0) 3)
    sound k l g o s = raised g m (get_or rs (2 * j + 1) 0) 3 s in-m (omega arith) l (live-kept (live k g o s)) (λ _. live k g o s)

pub pairs-fit-still : (rs m m' : List ℕ) → PairsFit rs m → length m' ≡ length m → PairsFit rs m'
pairs-fit-still rs m m' w e = rw e w
