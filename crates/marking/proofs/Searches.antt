-- The search of a key among keys that rise, and of an offset. Assumes nothing.
use mathlib.Core.Path.{◌≡◌, refl, ap, sym, subst, ◌∙◌}
use Prim.Native.Nat.{ℕ, zero, suc, ◌+◌, ◌≤◌, ◌<◌}
use native.Mathlib.Nat.{eq-or-lt_of_le}
use native.Mathlib.Omega.{arith}
use mathlib.Core.List.{List, [], ◌∷◌}
use Rattle.std.specs.Prelude.{None, Some}
use mathlib.Core.Logic.{⊎_elim}
use lib.ListN.{length, get_or}
use lib.Seq.{take-length}
use borrow.Author.Tests.{tests}
use mir.Facts.{yes_eqb, no_eqb}
use Rattle.std.specs.Cmp.{ranks}
use Rattle.std.specs.List.{HoldsAt}
use Rattle.std.specs.List.Sorted.{IsBinarySearchResult, IsNonDecreasingBy}
use Rattle.std.specs.Ordering.{MatchOrdering, nat_cmp, ordering_index}
use Rattle.std.proofs.Common.{Ordering, Equal, Err}
use Rattle.std.proofs.lemmas.List.{get_or_default}
use Rattle.readers.proofs.Choice.{pick_yes, pick_no}
use Rattle.marking.specs.Resolution.{entry_from, Ascending}
use Rattle.marking.specs.Inner.Resolution.{as_entry, Searched}
use Rattle.marking.proofs.Tests.{split}
use Rattle.marking.proofs.Rows.{ascending-from, ascending-at}

entry-none : (k : ℕ) (os : List ℕ) (t : ℕ) → ((i : ℕ) → i < length os → get_or os i 0 ≡ t → ⊥) → entry_from k os t ≡ None
unfolding entry_from
entry-none k [] t h = refl
entry-none k (o ∷ os) t h =
    pick_no _ _ _ (no_eqb {a = o} {b = t} (h 0 (omega arith)))
    ∙ entry-none (suc k) os t (λ i l. h (suc i) (omega arith))

entry-some : (low k : ℕ) (os : List ℕ) (t : ℕ) → Ascending low os → (i : ℕ) → i < length os → get_or os i 0 ≡ t → entry_from k os t ≡ Some (k + i)
unfolding entry_from Ascending
entry-some low k [] t a i l q = absurd (omega arith)
entry-some low k (o ∷ os) t a zero l q = pick_yes _ _ _ (yes_eqb {a = o} {b = t} q) ∙ ap (λ (n : ℕ). Some n) (let z : k ≡ k + 0 = omega arith in z)
entry-some low k (o ∷ os) t a (suc i) l q =
    let b : suc o ≤ get_or os i 0 = ascending-from (suc o) os a.1 i (omega arith) in
    let p : get_or os i 0 ≡ t = q in
    pick_no _ _ _ (no_eqb {a = o} {b = t} (λ z. absurd (omega arith)))
    ∙ entry-some (suc o) (suc k) os t a.1 i (omega arith) q
    ∙ ap (λ (n : ℕ). Some n) (let z : suc k + i ≡ k + suc i = omega arith in z)

-- ---- what a search by a key finds, where the keys rise

module _ {X : Type 0} (n : X → ℕ) (xs : List X) (t : ℕ) where
  pub key-found : (i : ℕ) (d : X) → HoldsAt (λ y. nat_cmp (n y) t ≡ Equal) xs i → n (get_or xs i d) ≡ t
  key-found i d h = subst (λ (o : Ordering). MatchOrdering o (n (get_or xs i d) < t) (n (get_or xs i d) ≡ t) (t < n (get_or xs i d))) (h d) (ranks (n (get_or xs i d)) t)

  pub key-missing : (i : ℕ) → IsBinarySearchResult (λ y. nat_cmp (n y) t) xs (Err i) → IsNonDecreasingBy n xs → (k : ℕ) (d : X) → k < length xs → n (get_or xs k d) ≡ t → ⊥
  key-missing i h up k d l e =
      let parted = h (λ a b x le lt. higher (n (get_or xs a x)) (n (get_or xs b x)) (up a b x le lt)) in
      ⊎_elim
      (λ (w : k < i). let z : n (get_or xs k d) < t = subst (λ (o : Ordering). MatchOrdering o (n (get_or xs k d) < t) (n (get_or xs k d) ≡ t) (t < n (get_or xs k d))) (parted.0 k d (omega arith) w) (ranks (n (get_or xs k d)) t) in absurd (omega arith))
      (λ (w : i ≤ k). let z : t < n (get_or xs k d) = subst (λ (o : Ordering). MatchOrdering o (n (get_or xs k d) < t) (n (get_or xs k d) ≡ t) (t < n (get_or xs k d))) (parted.1 k d w l) (ranks (n (get_or xs k d)) t) in absurd (omega arith))
      (split k i)
    where
      higher : (a b : ℕ) → a ≤ b → ordering_index (nat_cmp a t) ≤ ordering_index (nat_cmp b t)
      higher a b le = grind (arith, tests)

-- ---- an offset

module _ (offsets : List ℕ) (t : ℕ) (s : Searched offsets (length offsets)) where
  ascending : Ascending 0 offsets
  ascending = subst (Ascending 0) (take-length offsets) s.ascending

  rise : IsNonDecreasingBy (λ x. x) offsets
  rise i j d h l =
      ⊎_elim
      (λ (e : i ≡ j). rw e (omega arith))
      (λ (w : i < j). omega (arith, ascending-at 0 offsets ascending i j w l, get_or_default offsets i d 0 (omega arith), get_or_default offsets j d 0 l))
      (eq-or-lt_of_le h)

  pub entry-at : (m : ℕ) → m < length offsets → get_or offsets m 0 ≡ t → Some (record { 0 = m }) ≡ as_entry (entry_from 0 offsets t)
  unfolding as_entry
  entry-at m l q =
      sym (ap as_entry (entry-some 0 0 offsets t ascending m l q ∙ ap (λ (k : ℕ). Some k) (let z : 0 + m ≡ m = omega arith in z)))

  pub entry-nowhere : (i : ℕ) → IsBinarySearchResult (λ y. nat_cmp y t) offsets (Err i) → None ≡ as_entry (entry_from 0 offsets t)
  unfolding as_entry
  entry-nowhere i h = sym (ap as_entry (entry-none 0 offsets t (λ k l q. key-missing (λ x. x) offsets t i h rise k 0 l q)))
