-- "The table's lookup now says which happened, and everything that asks it passes that on" (document 02, Point 5): which indices an
-- answer goes by, and the first of them at which the table fails. Assumes nothing.
use mathlib.Core.Path.{◌≡◌, refl, ap, sym, ◌∙◌, subst}
use Prim.Native.Nat.{ℕ}
use mathlib.Core.List.{List, [], ◌∷◌, ◌++◌}
use mathlib.Core.Logic.{⊎_elim}
use Rattle.marking.specs.Members.{here, there}
use Rattle.marking.proofs.Members.{nothing-in, in_left, in_right, in_either}
use Rattle.marking.specs.Addresses.{lookup_at}
use Rattle.std.specs.Prelude.{Err, Ok, Result}
use Rattle.marking.specs.declared.addresses.Verdict.TheVariants.{Dead}
use Rattle.marking.specs.declared.addresses.Verdict.TheVariants.{Live}
use Rattle.marking.specs.declared.addresses.Verdict.{Verdict}
use Rattle.laws.specs.AddressTables.{Failure, NoneFails, SameAt, FailedBy, AnsweredBy}
use Rattle.laws.specs.RefusalNumbers.{OneOf}
use Rattle.laws.proofs.Tables.Failures.{live-no-failure, dead-no-failure, failure-fails, fails-failure}
use Rattle.laws.proofs.Tables.FromLookups.{NoRefusal, Carried}

module _ (t : List ℕ) where
  -- indices that were asked, at none of which t fails
  pub record Passed : Type 0 where
    pub asked : List ℕ
    pub fine : NoneFails t asked

  -- a table that says the same of them
  abbrev Alike : Passed → List ℕ → Type 0
  Alike a table = SameAt t table a.asked

  alone : (index : ℕ) → ((n : ℕ) → lookup_at t index ≡ Err n → ⊥) → NoneFails t (index ∷ [])
  alone index never k n (here e) f = never n (sym (ap (lookup_at t) e) ∙ failure-fails t k n f)
  alone index never k n (there m) f = nothing-in k m

  none-asked : Passed
  none-asked = record { asked = []; fine = λ index n m f. nothing-in index m }

  one-asked : (index : ℕ) → ((n : ℕ) → lookup_at t index ≡ Err n → ⊥) → Passed
  one-asked index never = record { asked = index ∷ []; fine = alone index never }

  both : Passed → Passed → Passed
  both a b =
      record {
        asked = a.asked ++ b.asked;
        fine = λ index n m f. ⊎_elim (λ l. a.fine index n l f) (λ r. b.fine index n r f) (in_either index a.asked b.asked m);
      }

  in-first : (a b : Passed) (table : List ℕ) → Alike (both a b) table → Alike a table
  unfolding both
  in-first a b table s index m = s index (in_left index a.asked b.asked m)

  in-second : (a b : Passed) (table : List ℕ) → Alike (both a b) table → Alike b table
  unfolding both
  in-second a b table s index m = s index (in_right index a.asked b.asked m)

  module _ (others : List ℕ) where
    -- by all tables that say the same of what was asked one value, or one refusal that is not the table's; or t fails at the next index, and
    -- each of them that does is refused so
    pub data Settled {X : Type 0} (refuse : ℕ → X) (f : List ℕ → X) : Type 0 where
      value : (a : Passed) (c : X) → NoRefusal refuse c → ((table : List ℕ) → Alike a table → f table ≡ c) → Settled refuse f
      other : (a : Passed) (n : ℕ) → OneOf others n → ((table : List ℕ) → Alike a table → f table ≡ refuse n) → Settled refuse f
      failed : (a : Passed) (index n : ℕ) → lookup_at t index ≡ Err n
          → ((table : List ℕ) → Alike a table → (m : ℕ) → lookup_at table index ≡ Err m → f table ≡ refuse m) → Settled refuse f

    -- what follows a value
    settled-after : {X Y : Type 0} (refuse' : ℕ → Y) (f : List ℕ → X) (g : List ℕ → X → Y) (a : Passed) (c : X)
        → ((table : List ℕ) → Alike a table → f table ≡ c) → Settled refuse' (λ table. g table c) → Settled refuse' (λ table. g table (f table))
    settled-after refuse' f g a c e (value b d never h) =
        value (both a b) d never (λ table s. ap (g table) (e table (in-first a b table s)) ∙ h table (in-second a b table s))
    settled-after refuse' f g a c e (other b n o h) =
        other (both a b) n o (λ table s. ap (g table) (e table (in-first a b table s)) ∙ h table (in-second a b table s))
    settled-after refuse' f g a c e (failed b index n l d) =
        failed (both a b) index n l (λ table s m r. ap (g table) (e table (in-first a b table s)) ∙ d table (in-second a b table s) m r)

    settled-then : {X Y : Type 0} (refuse : ℕ → X) (refuse' : ℕ → Y) (f : List ℕ → X) (g : List ℕ → X → Y) → Settled refuse f
        → ((table : List ℕ) (n : ℕ) → g table (refuse n) ≡ refuse' n) → ((c : X) → NoRefusal refuse c → Settled refuse' (λ table. g table c))
        → Settled refuse' (λ table. g table (f table))
    settled-then refuse refuse' f g (value a c never e) keeps each = settled-after refuse' f g a c e (each c never)
    settled-then refuse refuse' f g (other a n o e) keeps each = other a n o (λ table s. ap (g table) (e table s) ∙ keeps table n)
    settled-then refuse refuse' f g (failed a index n l d) keeps each =
        failed a index n l (λ table s m r. ap (g table) (d table s m r) ∙ keeps table m)

    by_value : (index : ℕ) (c : Result Verdict ℕ) → NoRefusal Err c → lookup_at t index ≡ c → Settled Err (λ table. lookup_at table index)
    unfolding one-asked
    by_value index c never q = value (one-asked index (λ n f. never n (sym q ∙ f))) c never (λ table s. s index (here refl) ∙ q)

    by_answer : (index : ℕ) (c : Result Verdict ℕ) → lookup_at t index ≡ c → Settled Err (λ table. lookup_at table index)
    by_answer index (Err n) q = failed none-asked index n q (λ table s m r. r)
    by_answer index (Ok Live) q = by_value index (Ok Live) live-no-failure q
    by_answer index (Ok Dead) q = by_value index (Ok Dead) dead-no-failure q

    pub settling : Carried {I = List ℕ} (λ table. table) others (λ X. Settled {X = X})
    settling =
        record {
          of-value = λ refuse c never. value none-asked c never (λ table s. refl);
          of-refusal = λ refuse n o. other none-asked n o (λ table s. refl);
          of-then = settled-then;
          of-lookup = λ index. by_answer index (lookup_at t index) refl;
        }

    -- t says what it says
    itself : (a : Passed) → Alike a t
    itself a index m = refl

    -- what holds of every value, and of every refusal with some of the numbers, holds of the answer by t
    pub settled-of : ((index n : ℕ) → Failure t index n → OneOf others n) → {X : Type 0} (refuse : ℕ → X) (P : X → Type 0)
        → ((c : X) → NoRefusal refuse c → P c) → ((n : ℕ) → OneOf others n → P (refuse n)) → (f : List ℕ → X) → Settled refuse f → P (f t)
    settled-of fails refuse P fine bad f (value a c never e) = subst P (sym (e t (itself a))) (fine c never)
    settled-of fails refuse P fine bad f (other a n o e) = subst P (sym (e t (itself a))) (bad n o)
    settled-of fails refuse P fine bad f (failed a index n l d) =
        subst P (sym (d t (itself a) n l)) (bad n (fails index n (fails-failure t index n l)))

    module _ {X : Type 0} (refuse : ℕ → X) (f : List ℕ → X) where
      -- a refusal with a number that is none of the others
      pub settled-failure : ((m n : ℕ) → refuse m ≡ refuse n → m ≡ n) → Settled refuse f → (n : ℕ) → (OneOf others n → ⊥) → f t ≡ refuse n
          → FailedBy f refuse t n
      settled-failure same (value a c never e) n apart q = absurd (never n (sym (e t (itself a)) ∙ q))
      settled-failure same (other a k o e) n apart q = absurd (apart (subst (OneOf others) (same k n (sym (e t (itself a)) ∙ q)) o))
      settled-failure same (failed a index k l d) n apart q =
          record {
            asked = a.asked;
            fine = a.fine;
            index = index;
            failure = subst (Failure t index) (same k n (sym (d t (itself a) k l) ∙ q)) (fails-failure t index k l);
            decides = λ table m s g. d table s m (failure-fails table index m g);
          }

      -- any other answer
      pub settled-answer : Settled refuse f → ((index n : ℕ) → Failure t index n → f t ≡ refuse n → ⊥) → AnsweredBy f t
      settled-answer (value a c never e) apart = record { asked = a.asked; fine = a.fine; decides = λ table s. e table s ∙ sym (e t (itself a)) }
      settled-answer (other a n o e) apart = record { asked = a.asked; fine = a.fine; decides = λ table s. e table s ∙ sym (e t (itself a)) }
      settled-answer (failed a index n l d) apart = absurd (apart index n (fails-failure t index n l) (d t (itself a) n l))
