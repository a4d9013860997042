-- What a root test says by some address table, and by none: live stays live, and what is not refused is not refused. Assumes nothing.
use mathlib.Core.Path.{◌≡◌, refl, sym, subst}
use Prim.Native.Nat.{ℕ, zero, suc}
use mathlib.Core.Bool.{Bool, true, false, false≢true}
use mathlib.Core.List.{List, []}
use mathlib.Core.Logic.{◌⊎◌, inl, inr, ⊎_elim}
use lib.ListN.{length}
use Rattle.readers.specs.Choice.{pick}
use Rattle.readers.specs.Steps.{operation_at, list_entry_at}
use Rattle.readers.specs.declared.cursor.Encoding.{Encoding}
use Rattle.std.specs.Prelude.{None, Option, Some, Err, Ok, Result}
use Rattle.readers.specs.declared.cursor.Cursor.{Cursor}
use Rattle.readers.specs.declared.operations.ListStep.{ListStep}
use Rattle.readers.specs.declared.operations.ListEntry.{ListEntry}
use Rattle.readers.specs.declared.operations.ListStep.TheVariants.{Entry, End}
use Rattle.readers.specs.declared.operations.Operation.{Operation}
use Rattle.readers.specs.declared.attributes.Attribute.{Attribute}
use Rattle.marking.specs.Addresses.{lookup_at}
use Rattle.marking.proofs.Lookups.{no_table}
use Rattle.marking.specs.declared.addresses.Verdict.{Verdict}
use Rattle.marking.specs.declared.addresses.Verdict.TheVariants.{Live, Dead}
use Rattle.marking.specs.Walking.{go, stop, on_next, walk_within, walk}
use Rattle.marking.specs.Roots.{Flagged, place, RootTurn, toward, or_else, on_lookup, range_entry}
use Rattle.marking.specs.Roots.{range_step, ranges_live, operation_live, operation_step, location_live, low_pc}
use Rattle.laws.proofs.Tables.BySeveralTables.{Verdicts}
use Rattle.marking.specs.KeepList.{treated}
use lib.Dec.{eqb}
use borrow.Author.Tests.{eqb-true}
use Rattle.marking.proofs.Tests.{either}

-- ---- verdicts

-- a verdict by a table, and one by none
unfoldable pub Held : Result Verdict ℕ → Result Verdict ℕ → Type 0
Held (Ok Live) w = w ≡ Ok Live
Held (Ok Dead) w = (w ≡ Ok Live) ⊎ (w ≡ Ok Dead)
Held (Err n) w = Unit {0}

pub held-live : (v : Result Verdict ℕ) → Held v (Ok Live)
unfolding Held
held-live (Ok Live) = refl
held-live (Ok Dead) = inl refl
held-live (Err n) = tt

pub held_same : (v : Result Verdict ℕ) → Held v v
unfolding Held
held_same (Ok Live) = refl
held_same (Ok Dead) = inr refl
held_same (Err n) = tt

held-refused : (n : ℕ) (w : Result Verdict ℕ) → Held (Err n) w
unfolding Held
held-refused n w = tt

refused-treated : (n k : ℕ) (w : Result Verdict ℕ) → Held (treated k (Err n)) (treated k w)
unfolding Held treated
refused-treated n k w = tt

held-either : (k : ℕ) → Held (treated k (Ok Dead)) (treated k (Ok Live))
unfolding Held treated pick
held-either k =
    ⊎_elim (λ a. let z : k ≡ 1 = eqb-true k 1 a in rw z refl)
    (λ a. rw a (⊎_elim (λ b. rw b (inr refl)) (λ b. rw b (inl refl)) (either (eqb k 2)))) (either (eqb k 1))

-- a treatment takes nothing from the second alone
pub held-treated : (k : ℕ) (v w : Result Verdict ℕ) → Held v w → Held (treated k v) (treated k w)
unfolding Held
held-treated k (Ok Live) w q = subst (λ (z : Result Verdict ℕ). Held (treated k (Ok Live)) (treated k z)) (sym q) (held_same (treated k (Ok Live)))
held-treated k (Ok Dead) w (inl q) = subst (λ (z : Result Verdict ℕ). Held (treated k (Ok Dead)) (treated k z)) (sym q) (held-either k)
held-treated k (Ok Dead) w (inr q) = subst (λ (z : Result Verdict ℕ). Held (treated k (Ok Dead)) (treated k z)) (sym q) (held_same (treated k (Ok Dead)))
held-treated k (Err n) w q = refused-treated n k w

pub held-else : (v w v' w' : Result Verdict ℕ) → Held v v' → Held w w' → Held (or_else v w) (or_else v' w')
unfolding Held or_else
held-else (Ok Live) w v' w' q h = subst (λ (z : Result Verdict ℕ). or_else z w' ≡ Ok Live) (sym q) refl
held-else (Ok Dead) w v' w' (inl q) h = subst (λ (z : Result Verdict ℕ). Held w (or_else z w')) (sym q) (held-live w)
held-else (Ok Dead) w v' w' (inr q) h = subst (λ (z : Result Verdict ℕ). Held w (or_else z w')) (sym q) h
held-else (Err n) w v' w' q h = tt

both-pick : {X : Type 0} (R : X → X → Type 0) (c : Bool) (x y x' y' : X) → R x x' → R y y' → R (pick c x y) (pick c x' y')
unfolding pick
both-pick R true x y x' y' p q = p
both-pick R false x y x' y' p q = q

-- what is said of an index, or of an operation, by the table, and by none
unfoldable Shown : Result Verdict ℕ → Result Verdict ℕ → Type 0
Shown (Ok Live) m = m ≡ Ok Live
Shown (Ok Dead) m = (m ≡ Ok Live) ⊎ (m ≡ Ok Dead)
Shown (Err n) m = Unit {0}

shown-alive : (l m : Result Verdict ℕ) → m ≡ Ok Live → Shown l m
unfolding Shown
shown-alive (Ok Live) m q = q
shown-alive (Ok Dead) m q = inl q
shown-alive (Err n) m q = tt

shown-same : (l : Result Verdict ℕ) → Shown l l
unfolding Shown
shown-same (Ok Live) = refl
shown-same (Ok Dead) = inr refl
shown-same (Err n) = tt

looked-shown : (table : List ℕ) (index : ℕ) → Shown (lookup_at table index) (lookup_at [] index)
looked-shown table index = shown-alive _ _ (sym (no_table [] index refl))

-- what follows it
module _ {X : Type 0} (R : X → X → Type 0) (refuse : Result Verdict ℕ → X) (fails : (n : ℕ) (u : X) → R (refuse (Err n)) u) where
  by-lookup : (l m : Result Verdict ℕ) → Shown l m → (a b u v : X) → R a u → R b u → R b v → R (on_lookup l refuse a b) (on_lookup m refuse u v)
  unfolding on_lookup Shown
  by-lookup (Ok Live) m s a b u v p q r = subst (λ (m : Result Verdict ℕ). R a (on_lookup m refuse u v)) (sym s) p
  by-lookup (Ok Dead) m (inl s) a b u v p q r = subst (λ (m : Result Verdict ℕ). R b (on_lookup m refuse u v)) (sym s) q
  by-lookup (Ok Dead) m (inr s) a b u v p q r = subst (λ (m : Result Verdict ℕ). R b (on_lookup m refuse u v)) (sym s) r
  by-lookup (Err n) m s a b u v p q r = fails n _

  asked : (table : List ℕ) (index : ℕ) (a b u v : X) → R a u → R b u → R b v
      → R (on_lookup (lookup_at table index) refuse a b) (on_lookup (lookup_at [] index) refuse u v)
  asked table index a b u v p q r = by-lookup (lookup_at table index) (lookup_at [] index) (looked-shown table index) a b u v p q r

-- ---- walks, side by side at one place

abbrev flagged : ℕ → Bool → Flagged
flagged n b = record { at = n; flag = b }

module _ (F : Bool → Bool → Type 0) where
  data Turns : RootTurn → RootTurn → Type 0 where
    on : {n : ℕ} {a b : Bool} → F a b → Turns (go (flagged n a)) (go (flagged n b))
    found : {t : RootTurn} → Turns t (stop (Ok Live))
    failed : {n : ℕ} {t : RootTurn} → Turns (stop (Err n)) t
    ended : {v w : Result Verdict ℕ} → Held v w → Turns (stop v) (stop w)

  next-held : {t u : RootTurn} → Turns t u → (k h : Flagged → Result Verdict ℕ)
      → ((n : ℕ) (a b : Bool) → F a b → Held (k (flagged n a)) (h (flagged n b))) → Held (on_next t k) (on_next u h)
  unfolding on_next Held
  next-held (on {n} {a} {b} q) k h each = each n a b q
  next-held (found {t}) k h each = held-live (on_next t k)
  next-held failed k h each = tt
  next-held (ended q) k h each = q

  module _ (f g : Flagged → RootTurn) (each : (n : ℕ) (a b : Bool) → F a b → Turns (f (flagged n a)) (g (flagged n b))) where
    within_held : (k n : ℕ) (a b : Bool) → F a b → Held (walk_within k f (Ok Dead) (flagged n a)) (walk_within k g (Ok Dead) (flagged n b))
    unfolding walk_within
    within_held zero n a b q = held_same (Ok Dead)
    within_held (suc k) n a b q = next-held (each n a b q) _ _ (λ m c d r. within_held k m c d r)

    walk-held : (end n : ℕ) (a b : Bool) → F a b → Held (walk place end f (Ok Dead) (flagged n a)) (walk place end g (Ok Dead) (flagged n b))
    unfolding walk
    walk-held end n a b q = within_held _ n a b q

-- ---- range lists: a base that is dead by none is dead by the table

abbrev Base : Bool → Bool → Type 0
Base a b = b ≡ true → a ≡ true

module _ (e : Encoding) (table : List ℕ) where
  pair_held : (x : ListEntry) (a b : Bool) → Base a b → Turns Base (pick a (toward x a) (stop (Ok Live))) (pick b (toward x b) (stop (Ok Live)))
  unfolding pick
  pair_held x a false q = found
  pair_held x true true q = on q
  pair_held x false true q = absurd (false≢true (q refl))

  entry-held : (x : ListEntry) (a b : Bool) → Base a b → Turns Base (range_entry e table a x) (range_entry e [] b x)
  unfolding range_entry
  entry-held x a b q =
      both-pick (Turns Base) _ _ _ _ _ (asked (Turns Base) stop (λ n u. failed) table _ _ _ _ _ (on (λ z. z)) (on (λ z. refl)) (on (λ z. z)))
      (both-pick (Turns Base) _ _ _ _ _ (asked (Turns Base) stop (λ n u. failed) table _ _ _ _ _ found found (on q))
      (both-pick (Turns Base) _ _ _ _ _ (pair_held x a b q)
      (both-pick (Turns Base) _ _ _ _ _ (on (λ z. z))
      (both-pick (Turns Base) _ _ _ _ _ (on q) found))))

  step-held : (t : Option ListStep) (a b : Bool) → Base a b → Turns Base (range_step e table a t) (range_step e [] b t)
  unfolding range_step
  step-held (Some (Entry x)) a b q = entry-held x a b q
  step-held (Some End) a b q = ended (held_same (Ok Dead))
  step-held None a b q = failed

  ranges-held : (s : List ℕ) (o : Option Cursor) → Held (ranges_live e table s o) (ranges_live e [] s o)
  unfolding ranges_live
  ranges-held s (Some c) =
      walk-held Base (λ p. range_step e table p.flag (list_entry_at e false s p.at)) (λ p. range_step e [] p.flag (list_entry_at e false s p.at))
      (λ n a b q. step-held (list_entry_at e false s n) a b q) (length s) c.at false false (λ z. z)
  ranges-held s None = held_same (Ok Live)

-- ---- locations: a live index that was met by the table was met by none

abbrev Met : Bool → Bool → Type 0
Met a b = a ≡ true → b ≡ true

module _ (e : Encoding) (fixed : Bool) (table : List ℕ) where
  operation-shown : (op : Operation) → Shown (operation_live e fixed table op) (operation_live e fixed [] op)
  unfolding operation_live
  operation-shown op = both-pick Shown _ _ _ _ _ (looked-shown table _) (shown-same _)

  operation-held : (o : Option Operation) (a b : Bool) → Met a b → Turns Met (operation_step e fixed table a o) (operation_step e fixed [] b o)
  unfolding operation_step
  operation-held (Some op) a b q =
      by-lookup (Turns Met) stop (λ n u. failed) _ _ (operation-shown op) _ _ _ _ (on (λ z. refl)) (on (λ z. refl)) (on q)
  operation-held None a b q = failed

  end-held : (a b : Bool) → Met a b → Held (pick a (Ok Live) (Ok Dead)) (pick b (Ok Live) (Ok Dead))
  unfolding pick
  end-held a true q = held-live _
  end-held false false q = held_same (Ok Dead)
  end-held true false q = absurd (false≢true (q refl))

  location-held : (s : List ℕ) → Held (location_live e fixed table s) (location_live e fixed [] s)
  unfolding location_live
  location-held s =
      walk-held Met _ _
      (λ n a b q. both-pick (Turns Met) _ _ _ _ _ (operation-held (operation_at e s n) a b q) (ended (end-held a b q))) (length s) 0 false false (λ z. z)

low_held : (e : Encoding) (table : List ℕ) (v : Attribute) → Held (low_pc e table v) (low_pc e [] v)
unfolding low_pc
low_held e table v =
    both-pick Held _ _ _ _ _ (asked Held (λ r. r) held-refused table _ _ _ _ _ (held_same (Ok Live)) (held-live (Ok Dead)) (held_same (Ok Dead))) (held_same _)

-- by a table (true) and by the empty one (false)
pub held : (fixed : Bool) (table : List ℕ) → Verdicts (λ (i : Bool). fixed) (λ (i : Bool). pick i table []) (λ v. Held (v true) (v false))
unfolding pick
held fixed table =
    record {
      of_live = held_same (Ok Live);
      of-dead = held_same (Ok Dead);
      of-else = λ v w p q. held-else (v true) (w true) (v false) (w false) p q;
      of-low-pc = λ e a. low_held e table a;
      of-location = λ e s. location-held e fixed table s;
      of-ranges = λ e s o. ranges-held e table s o;
      of-offset = λ e s o. held_same _;
    }
