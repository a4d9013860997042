-- What the tests on a graph say, and what a well-formed graph has.
use Prim.Native.Nat.{ℕ, ◌+◌, ◌*◌, ◌<◌}
use mathlib.Core.Path.{◌≡◌, refl}
use mathlib.Core.List.{List}
use mathlib.Core.Bool.{true, not}
use mathlib.Core.Logic.{⊎_elim}
use native.Mathlib.Omega.{arith}
use lib.ListN.{length, get_or}
use lib.Dec.{ltb, eqb}
use borrow.Author.Tests.{ltb-true, lt-ltb, eqb-true, eqb-false, eq-eqb, ne_eqb, not-true}
use Rattle.readers.specs.Choice.{◌and◌}
use Rattle.marking.specs.Below.{every}
use Rattle.readers.specs.Nesting.{no_parent}
use Rattle.marking.specs.Graph.{Graph, size, is_parent, is_root, names, references, holder, target, parent_fits, pair_fits, well_formed}
use Rattle.marking.specs.Survivors.{Descendant, child, deeper}
use Rattle.marking.proofs.Tests.{and-out, and_in, or-out, any_out, any-in, every-at}

-- ---- parents

pub record IsParent (g : Graph) (p i : ℕ) : Type 0 where
  pub inside : i < size g
  pub is : get_or g.parents i 0 ≡ p
  pub some : p ≡ no_parent → ⊥

pub parent-out : (g : Graph) (p i : ℕ) → is_parent g p i ≡ true → IsParent g p i
unfolding is_parent
parent-out g p i e =
    let a = and-out (ltb i (size g)) (eqb (get_or g.parents i 0) p and not (eqb p no_parent)) e in
    let b = and-out (eqb (get_or g.parents i 0) p) (not (eqb p no_parent)) a.1 in
    record { inside = ltb-true i (size g) a.0; is = eqb-true (get_or g.parents i 0) p b.0; some = eqb-false p no_parent (not-true (eqb p no_parent) b.1) }

not_eqb : {a b : ℕ} → (a ≡ b → ⊥) → not (eqb a b) ≡ true
not_eqb {a} {b} n = rw (ne_eqb a b n)

pub parent_in : (g : Graph) (i : ℕ) → i < size g → (get_or g.parents i 0 ≡ no_parent → ⊥) → is_parent g (get_or g.parents i 0) i ≡ true
unfolding is_parent
parent_in g i h n = and_in (lt-ltb i (size g) h) (and_in (eq-eqb (get_or g.parents i 0) (get_or g.parents i 0) refl) (not_eqb n))

pub under-inside : {g : Graph} {r d : ℕ} → Descendant g r d → d < size g
under-inside {g} {r} {d} (child e) = (parent-out g r d e).inside
under-inside {g} {r} {d} (deeper {p = p} u e) = (parent-out g p d e).inside

-- ---- roots

pub root-out : (g : Graph) (i : ℕ) → is_root g i ≡ true → (i < size g) × (eqb (get_or g.roots i 0) 1 ≡ true)
unfolding is_root
root-out g i e = let a = and-out (ltb i (size g)) (eqb (get_or g.roots i 0) 1) e in (ltb-true i (size g) a.0, a.1)

pub root_in : (g : Graph) (i : ℕ) → i < size g → eqb (get_or g.roots i 0) 1 ≡ true → is_root g i ≡ true
unfolding is_root
root_in g i h e = and_in (lt-ltb i (size g) h) e

-- ---- references

pub record Names (g : Graph) (s t : ℕ) : Type 0 where
  pub at : ℕ
  pub inside : at < references g
  pub holder-is : holder g at ≡ s
  pub target_is : target g at ≡ t

pub names-out : (g : Graph) (s t : ℕ) → names g s t ≡ true → Names g s t
unfolding names
names-out g s t e =
    let w = any_out (references g) (λ j. eqb (holder g j) s and eqb (target g j) t) e in
    let b = and-out (eqb (holder g w.at) s) (eqb (target g w.at) t) w.holds in
    record { at = w.at; inside = w.inside; holder-is = eqb-true (holder g w.at) s b.0; target_is = eqb-true (target g w.at) t b.1 }

pub names_in_lem : (g : Graph) (j : ℕ) → j < references g → names g (holder g j) (target g j) ≡ true
unfolding names
names_in_lem g j h = any-in (references g) (λ k. eqb (holder g k) (holder g j) and eqb (target g k) (target g j)) j h (and_in (eq-eqb (holder g j) (holder g j) refl) (eq-eqb (target g j) (target g j) refl))

-- ---- numbers that fit

pub parent-fits : (ps : List ℕ) (i : ℕ) → parent_fits ps i ≡ true → (get_or ps i 0 ≡ no_parent → ⊥) → get_or ps i 0 < i
unfolding parent_fits
parent-fits ps i e n =
    ⊎_elim (λ p. absurd (n (eqb-true (get_or ps i 0) no_parent p))) (λ p. ltb-true (get_or ps i 0) i p) (or-out (eqb (get_or ps i 0) no_parent) (ltb (get_or ps i 0) i) e)

pub pair_fits_lem : (rs : List ℕ) (n j : ℕ) → pair_fits rs n j ≡ true → (get_or rs (2 * j) 0 < n) × (get_or rs (2 * j + 1) 0 < n)
unfolding pair_fits
pair_fits_lem rs n j e =
    let b = and-out (ltb (get_or rs (2 * j) 0) n) (ltb (get_or rs (2 * j + 1) 0) n) e in
    (ltb-true _ _ b.0, ltb-true _ _ b.1)

-- what the laws use of a well-formed graph
pub record WellFormed (g : Graph) : Type 0 where
  pub same-roots : length g.roots ≡ size g
  pub parents-fit : every (size g) (parent_fits g.parents) ≡ true
  pub pairs-fit : every (references g) (pair_fits g.pairs (size g)) ≡ true

pub well-formed : (g : Graph) → well_formed g ≡ true → WellFormed g
unfolding well_formed
well-formed g e =
    let a = and-out _ _ e in
    let b = and-out _ _ a.1 in
    let c = and-out _ _ b.1 in
    record { same-roots = eqb-true _ _ a.0; parents-fit = b.0; pairs-fit = c.0 }

module _ (g : Graph) (v : WellFormed g) where
  pub parent-below : (p i : ℕ) → is_parent g p i ≡ true → p < i
  parent-below p i e =
      let q = parent-out g p i e in
      rw (← q.is) (parent-fits g.parents i (every-at (size g) (parent_fits g.parents) v.parents-fit i q.inside) (rw q.is q.some))

  pub parent-inside : (p i : ℕ) → is_parent g p i ≡ true → p < size g
  parent-inside p i e = omega (arith, parent-below p i e, (parent-out g p i e).inside)

  pair_inside : (j : ℕ) → j < references g → (holder g j < size g) × (target g j < size g)
  pair_inside j h = pair_fits_lem g.pairs (size g) j (every-at (references g) (pair_fits g.pairs (size g)) v.pairs-fit j h)

  pub holder-inside : (s t : ℕ) → names g s t ≡ true → s < size g
  holder-inside s t e = let w = names-out g s t e in rw (← w.holder-is) (pair_inside w.at w.inside).0

  pub target-inside : (s t : ℕ) → names g s t ≡ true → t < size g
  target-inside s t e = let w = names-out g s t e in rw (← w.target_is) (pair_inside w.at w.inside).1
