-- How an address table fails at an index: by a byte above 1 with 6, past the end of a table that isn't empty with 17 (document 02,
-- Point 5). Assumes nothing.
use Rattle.marking.specs.declared.addresses.Verdict.{Verdict}
use mathlib.Core.Path.{◌≡◌, sym, ◌∙◌, subst}
use Prim.Native.Nat.{ℕ, ◌≤◌, ◌<◌}
use native.Mathlib.Omega.{arith}
use mathlib.Core.List.{List, []}
use mathlib.Core.Logic.{⊎_elim}
use lib.ListN.{length, get_or}
use lib.Dec.{eqb, ltb}
use mir.Facts.{eqb_yes, eqb_no, ltb_yes, ltb_no}
use Rattle.readers.specs.Choice.{◌or◌}
use Rattle.readers.proofs.Choice.{either}
use Rattle.marking.specs.Addresses.{lookup_at}
use Rattle.std.specs.Prelude.{Err, Ok, Result}
use Rattle.marking.specs.declared.addresses.Verdict.TheVariants.{Dead}
use Rattle.marking.specs.declared.addresses.Verdict.TheVariants.{Live}
use Rattle.marking.proofs.Lookups.{no_table, past-table, byte-zero, byte_one, byte-other}
use Rattle.laws.specs.AddressTables.{Failure, byte_above, past_end}
use Rattle.laws.specs.RefusalNumbers.{OneOf, table_numbers}
use Rattle.laws.proofs.Refusals.ReaderRefusals.{is_one_of, one_of}

pub live-no-failure : (n : ℕ) → Ok Live ≡ Err n → ⊥
live-no-failure n q = let z : ◌≡◌ {A = ℕ} 0 1 = cc in omega arith

pub dead-no-failure : (n : ℕ) → Ok Dead ≡ Err n → ⊥
dead-no-failure n q = let z : ◌≡◌ {A = ℕ} 0 1 = cc in omega arith

same_number : (m n : ℕ) → ◌≡◌ {A = Result Verdict ℕ} (Err m) (Err n) → m ≡ n
same_number m n q = cc

module _ (table : List ℕ) (index : ℕ) where
  -- THE failures of a table, each with its number
  pub failure-fails : (n : ℕ) → Failure table index n → lookup_at table index ≡ Err n
  failure-fails n (byte_above h b) = sym (byte-other table index h (λ z. omega arith) (λ z. omega arith))
  failure-fails n (past_end s h) = sym (past-table table index (λ z. omega arith) h)

  module _ (n : ℕ) (q : lookup_at table index ≡ Err n) where
    abbrev numbered : (m : ℕ) → Err m ≡ lookup_at table index → Failure table index m → Failure table index n
    numbered m l f = subst (Failure table index) (same_number m n (l ∙ q)) f

    byte-fails : index < length table → Failure table index n
    byte-fails h =
        ⊎_elim (λ z. absurd (dead-no-failure n (byte-zero table index h (eqb_yes z) ∙ q)))
        (λ z. ⊎_elim (λ o. absurd (live-no-failure n (byte_one table index h (eqb_no z) (eqb_yes o) ∙ q)))
        (λ o.
        let z' : get_or table index 0 ≡ 0 → ⊥ = eqb_no z in
        let o' : get_or table index 0 ≡ 1 → ⊥ = eqb_no o in
        numbered 6 (byte-other table index h z' o') (byte_above h (omega (arith, z', o'))))
        (either (eqb (get_or table index 0) 1))) (either (eqb (get_or table index 0) 0))

    pub fails-failure : Failure table index n
    fails-failure =
        ⊎_elim (λ z. absurd (live-no-failure n (no_table table index (eqb_yes z) ∙ q)))
        (λ z.
        let z' : length table ≡ 0 → ⊥ = eqb_no z in
        ⊎_elim (λ h. byte-fails (ltb_yes h))
        (λ h.
        let h' : length table ≤ index = ltb_no {a = index} {b = length table} h in
        numbered 17 (past-table table index z' h') (past_end (omega (arith, z')) h'))
        (either (ltb index (length table)))) (either (eqb (length table) 0))

  -- 6 or 17
  pub failure-number : (n : ℕ) → Failure table index n → OneOf table_numbers n
  unfolding is_one_of ◌or◌
  failure-number n (byte_above h b) = one_of _ 6 tt
  failure-number n (past_end s h) = one_of _ 17 tt

-- none of the empty table
pub no-failure : (index n : ℕ) → Failure [] index n → ⊥
no-failure index n (byte_above h b) = omega arith
no-failure index n (past_end s h) = omega arith
