-- What is asked by tables of ones: from some length on the answer is that by the empty table. Assumes nothing.
use mathlib.Core.Path.{◌≡◌, refl, ap, sym, ◌∙◌}
use Prim.Native.Nat.{ℕ, zero, suc, ◌+◌, ◌<◌}
use native.Mathlib.Omega.{arith}
use mathlib.Core.List.{List, []}
use mathlib.Core.Logic.{◌⊎◌, inl, inr}
use lib.ListN.{length, get_or}
use Rattle.marking.specs.Addresses.{lookup_at}
use Rattle.marking.proofs.Lookups.{no_table, byte_one}
use Rattle.std.specs.Prelude.{Err, Ok}
use Rattle.marking.specs.declared.addresses.Verdict.TheVariants.{Live}
use Rattle.laws.specs.AddressTables.{ones, Eventually}
use Rattle.laws.proofs.Tables.FromLookups.{NoRefusal, Carried}

-- ---- from some number on

-- a value that is equal to another from some number on
abbrev pub Soon : {X : Type 0} → (ℕ → X) → X → Type 0
Soon f c = Eventually (λ n. f n ≡ c)

pub at_once : {X : Type 0} (c : X) → Soon (λ n. c) c
at_once c = record { from = 0; holds = λ n l. refl }

pub soon-ap : {X Y : Type 0} (g : X → Y) (f : ℕ → X) (c : X) → Soon f c → Soon (λ n. g (f n)) (g c)
soon-ap g f c s = record { from = s.from; holds = λ n l. ap g (s.holds n l) }

-- first that a value is c, then that what is made of c is d
pub soon-then : {X Y : Type 0} (g : ℕ → X → Y) (f : ℕ → X) (c : X) (d : Y) → Soon f c → Soon (λ n. g n c) d → Soon (λ n. g n (f n)) d
soon-then g f c d s t =
    record { from = s.from + t.from; holds = λ n l. ap (g n) (s.holds n (omega arith)) ∙ t.holds n (omega arith) }

-- ---- tables of ones

ones-length : (n : ℕ) → length (ones n) ≡ n
unfolding ones
ones-length zero = refl
ones-length (suc n) = ap suc (ones-length n)

ones-at : (n i : ℕ) → i < n → get_or (ones n) i 0 ≡ 1
unfolding ones
ones-at zero i h = absurd (omega arith)
ones-at (suc n) zero h = refl
ones-at (suc n) (suc i) h = ones-at n i (omega arith)

lookup-soon : (i : ℕ) → Soon (λ n. lookup_at (ones n) i) (lookup_at [] i)
lookup-soon i =
    record {
      from = suc i;
      holds = λ n l.
          let one : get_or (ones n) i 0 ≡ 1 = ones-at n i (omega arith) in
          sym (byte_one (ones n) i (omega (arith, ones-length n)) (λ z. omega arith) one) ∙ no_table [] i refl;
    }

-- ---- by tables of ones as by the empty one, which is that of length 0

pub record Refusing {X : Type 0} (refuse : ℕ → X) (c : X) : Type 0 where
  pub number : ℕ
  pub is : c ≡ refuse number

pub record AsEmpty {X : Type 0} (refuse : ℕ → X) (f : ℕ → X) : Type 0 where
  pub soon : Soon f (f 0)
  pub by-empty : Refusing refuse (f 0) ⊎ NoRefusal refuse (f 0)

module _ {X Y : Type 0} (refuse : ℕ → X) (refuse' : ℕ → Y) (f : ℕ → X) (g : ℕ → X → Y) (keeps : (n m : ℕ) → g n (refuse m) ≡ refuse' m) where
  then_by : Soon f (f 0) → Refusing refuse (f 0) ⊎ NoRefusal refuse (f 0) → ((c : X) → NoRefusal refuse c → AsEmpty refuse' (λ n. g n c))
      → AsEmpty refuse' (λ n. g n (f n))
  then_by s (inl r) each =
      let to : (n : ℕ) → g n (f 0) ≡ refuse' r.number = λ n. ap (g n) r.is ∙ keeps n r.number in
      record {
        soon = soon-then g f (f 0) _ s (record { from = 0; holds = λ n l. to n ∙ sym (to 0) });
        by-empty = inl (record { number = r.number; is = to 0 });
      }
  then_by s (inr never) each =
      let h = each (f 0) never in
      record { soon = soon-then g f (f 0) _ s h.soon; by-empty = h.by-empty }

live-by-empty : (i : ℕ) → NoRefusal Err (lookup_at [] i)
live-by-empty i n q = let l : Ok Live ≡ Err n = no_table [] i refl ∙ q in let z : ◌≡◌ {A = ℕ} 0 1 = cc in omega arith

pub all_live : (others : List ℕ) → Carried ones others (λ X. AsEmpty {X = X})
unfolding ones
all_live others =
    record {
      of-value = λ refuse c never. record { soon = at_once c; by-empty = inr never };
      of-refusal = λ refuse n o. record { soon = at_once (refuse n); by-empty = inl (record { number = n; is = refl }) };
      of-then = λ refuse refuse' f g p keeps each. then_by refuse refuse' f g keeps p.soon p.by-empty each;
      of-lookup = λ i. record { soon = lookup-soon i; by-empty = inr (live-by-empty i) };
    }
