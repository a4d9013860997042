-- The marks at the start are sound.
use Prim.Native.Nat.{ℕ, ◌≤◌, ◌<◌}
use mathlib.Core.Path.{◌≡◌, refl, ◌∙◌}
use mathlib.Core.List.{List}
use mathlib.Core.Bool.{Bool, true, false}
use mathlib.Core.Logic.{◌⊎◌, inl, inr, ⊎_elim}
use native.Mathlib.Omega.{arith}
use lib.ListN.{length, get_or, get_or-eq_default}
use lib.Dec.{eqb}
use borrow.Author.Tests.{eqb-true, eq-eqb, ne_eqb}
use Rattle.readers.specs.Choice.{pick}
use Rattle.marking.specs.Below.{tab}
use Rattle.marking.specs.Graph.{Graph, size}
use Rattle.marking.specs.Survivors.{Survivor, first, root, Live, live_root}
use Rattle.marking.specs.Inner.Passes.{Sound, start_mark}
use Rattle.marking.proofs.Tests.{split}
use Rattle.marking.proofs.Tables.{length-tab, get_or-tab}
use Rattle.marking.proofs.Graphs.{WellFormed, root-out, root_in}

-- the mark that `start` writes, by its two tests
pub start-root : (os : List ℕ) (i v : ℕ) → get_or os i 0 ≡ 1 → v ≡ 3 → v ≡ start_mark os i
unfolding start_mark pick
start-root os i v p q = rw (eq-eqb (get_or os i 0) 1 p) q

pub start_first : (os : List ℕ) (i v : ℕ) → (get_or os i 0 ≡ 1 → ⊥) → i ≡ 0 → v ≡ 2 → v ≡ start_mark os i
unfolding start_mark pick
start_first os i v p q r = rw (ne_eqb (get_or os i 0) 1 p, eq-eqb i 0 q) r

pub start-rest : (os : List ℕ) (i v : ℕ) → (get_or os i 0 ≡ 1 → ⊥) → (i ≡ 0 → ⊥) → v ≡ 1 → v ≡ start_mark os i
unfolding start_mark pick
start-rest os i v p q r = rw (ne_eqb (get_or os i 0) 1 p, ne_eqb i 0 q) r

-- what such a mark says
three : (a z : Bool) → 3 ≤ pick a 3 (pick z 2 1) → a ≡ true
unfolding pick
three true z h = refl
three false true h = absurd (omega arith)
three false false h = absurd (omega arith)

two : (a z : Bool) → 2 ≤ pick a 3 (pick z 2 1) → (a ≡ true) ⊎ (z ≡ true)
unfolding pick
two true z h = inl refl
two false true h = inr refl
two false false h = absurd (omega arith)

range : (a z : Bool) → (1 ≤ pick a 3 (pick z 2 1)) × (pick a 3 (pick z 2 1) ≤ 3)
unfolding pick
range true z = omega arith
range false true = omega arith
range false false = omega arith

at-least-two : (a : Bool) → 2 ≤ pick a 3 (pick (eqb 0 0) 2 1)
unfolding pick
at-least-two true = omega arith
at-least-two false = omega arith

module _ (g : Graph) (v : WellFormed g) where
  start : List ℕ
  start = tab (length g.roots) (start_mark g.roots)

  start-long : length start ≡ size g
  unfolding start
  start-long = length-tab _ _ ∙ v.same-roots

  start-at : (i : ℕ) → i < size g → get_or start i 0 ≡ pick (eqb (get_or g.roots i 0) 1) 3 (pick (eqb i 0) 2 1)
  unfolding start start_mark
  start-at i h = get_or-tab (length g.roots) (start_mark g.roots) i (omega (arith, v.same-roots))

  start-inside : (i k : ℕ) → 0 < k → k ≤ get_or start i 0 → i < size g
  start-inside i k p h = ⊎_elim (λ b. b) (λ b. absurd (omega (arith, get_or-eq_default start 0 {n = i} (omega (arith, start-long))))) (split i (size g))

  kept_of_lem : (i : ℕ) → 2 ≤ get_or start i 0 → Survivor g i
  kept_of_lem i h =
      let b = start-inside i 2 (omega arith) h in
      ⊎_elim (λ e. root (root_in g i b e)) (λ e. let z = eqb-true i 0 e in rw z (first (omega arith))) (two (eqb (get_or g.roots i 0) 1) (eqb i 0) (rw (start-at i b) at h))

  live_of : (i : ℕ) → 3 ≤ get_or start i 0 → Live g i
  live_of i h = let b = start-inside i 3 (omega arith) h in live_root (root_in g i b (three (eqb (get_or g.roots i 0) 1) (eqb i 0) (rw (start-at i b) at h)))

  most-of : (i : ℕ) → get_or start i 0 ≤ 3
  most-of i =
      ⊎_elim (λ b. rw (start-at i b) (range (eqb (get_or g.roots i 0) 1) (eqb i 0)).1) (λ b. omega (arith, get_or-eq_default start 0 {n = i} (omega (arith, start-long)))) (split i (size g))

  pub start-sound : (m : List ℕ) → m ≡ tab (length g.roots) (start_mark g.roots) → Sound g m
  unfolding start pick
  start-sound m e = rw e (record {
    long = start-long;
    most = most-of;
    least = λ i h. rw (start-at i h) (range (eqb (get_or g.roots i 0) 1) (eqb i 0)).0;
    kept = kept_of_lem;
    live = live_of;
    roots = λ i r. let b = root-out g i r in rw (start-at i b.0, b.1) (omega arith);
    first = λ h. rw (start-at 0 h) (at-least-two (eqb (get_or g.roots 0 0) 1));
  })
