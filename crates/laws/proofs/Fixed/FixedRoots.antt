-- Variables at a fixed address (document 02, Point 7): which are roots by their test where the choice is on. Assumes nothing.
use mathlib.Core.Path.{◌≡◌, refl, ap, sym, ◌∙◌}
use Prim.Native.Nat.{ℕ}
use native.Mathlib.Omega.{arith}
use mathlib.Core.Bool.{Bool, true, false}
use mathlib.Core.List.{List, ◌++◌}
use mathlib.Core.Logic.{inl, inr, ⊎_elim}
use lib.Dec.{eqb}
use borrow.Author.Tests.{eqb-true}
use Rattle.readers.specs.Choice.{pick}
use Rattle.readers.specs.Codes.{DW_TAG_variable}
use Rattle.readers.specs.EntryAttributes.{Valued}
use Rattle.readers.specs.declared.cursor.Encoding.{Encoding}
use Rattle.readers.specs.declared.entries.Entry.{Entry}
use Rattle.std.specs.Prelude.{Err, Ok, Result}
use Rattle.marking.specs.declared.addresses.Verdict.{Verdict}
use Rattle.marking.specs.declared.addresses.Verdict.TheVariants.{Live, Dead}
use Rattle.marking.specs.Roots.{locations, Ranges, root_test}
use Rattle.marking.specs.Analysis.{Sections, tag_of, values_of_entry, test_of}
use Rattle.marking.proofs.RootTests.{variable-is}
use Rattle.marking.proofs.Tests.{either}
use Rattle.laws.specs.AddressTables.{with_fixed}
use Rattle.laws.specs.FixedAddresses.{FixedLocation, FixedVariable, AlsoRoot}
use Rattle.laws.proofs.Tables.NotRead.{behind-locations}
use Rattle.laws.proofs.Fixed.FixedLocations.{Counted, locations-counted, locations-found}

dead-not-live : ◌≡◌ {A = Result Verdict ℕ} (Ok Dead) (Ok Live) → ⊥
dead-not-live q = let z : ◌≡◌ {A = ℕ} 0 1 = cc in omega arith

-- ---- the root test

module _ (e : Encoding) (x : Ranges) (fixed : Bool) (unit : List ℕ) (tag : ℕ) (attributes : List Valued) where
  is-variable : tag ≡ DW_TAG_variable → root_test e x fixed unit tag attributes ≡ locations e fixed x.table unit attributes
  is-variable v = sym (variable-is e x fixed unit tag attributes (λ z. omega (arith, v)) v _ refl)

module _ (e : Encoding) (x : Sections) (unit : List ℕ) (base : ℕ) (y : Entry) where
  abbrev attributes : List Valued
  attributes = values_of_entry e x unit y

  by-location : tag_of y ≡ DW_TAG_variable → (fixed : Bool) → test_of e (with_fixed x fixed) unit base y ≡ locations e fixed x.addresses unit attributes
  unfolding test_of values_of_entry
  by-location v fixed = is-variable e _ fixed unit (tag_of y) attributes v

  also-variable : FixedVariable e x unit y → test_of e (with_fixed x true) unit base y ≡ Ok Dead → ⊥
  also-variable f q = locations-found e x.addresses unit attributes f.has (sym (by-location f.tag true) ∙ q)

  only-variable : tag_of y ≡ DW_TAG_variable
      → Counted (test_of e (with_fixed x false) unit base y) (test_of e (with_fixed x true) unit base y) (FixedVariable e x unit y)
  only-variable v =
      ⊎_elim (λ q. inl (by-location v true ∙ q ∙ sym (by-location v false))) (λ q. inr (by-location v true ∙ q.0, record { tag = v; has = q.1 }))
      (locations-counted e x.addresses unit attributes)

  other_tag : eqb (tag_of y) DW_TAG_variable ≡ false → test_of e (with_fixed x true) unit base y ≡ test_of e (with_fixed x false) unit base y
  unfolding test_of values_of_entry root_test pick
  other_tag n = rw n

  -- THE roots where fixed addresses count: "a variable is also a root if its exprloc location has a DW_OP_addr whose address isn't a tombstone"
  pub fixed-roots-law : AlsoRoot (test_of e (with_fixed x false) unit base y) (test_of e (with_fixed x true) unit base y) (FixedVariable e x unit y)
  fixed-roots-law =
      record {
        also = also-variable;
        only = ⊎_elim (λ t. only-variable (eqb-true _ _ t)) (λ t. inl (other_tag t)) (either (eqb (tag_of y) DW_TAG_variable));
      }

  live-not-dead : (v : Result Verdict ℕ) → ((n : ℕ) → v ≡ Err n → ⊥) → (v ≡ Ok Dead → ⊥) → v ≡ Ok Live
  live-not-dead (Ok Live) d n = refl
  live-not-dead (Ok Dead) d n = absurd (n refl)
  live-not-dead (Err m) d n = absurd (d m refl)

  -- "Such a DW_OP_addr ends the root test": where a variable's attributes up to some place have it, and none up to there is refused, it is a
  -- root whatever stands behind them
  pub ended-law : tag_of y ≡ DW_TAG_variable → (vs more : List Valued) → values_of_entry e x unit y ≡ vs ++ more → FixedLocation e unit vs
      → ((n : ℕ) → locations e true x.addresses unit vs ≡ Err n → ⊥) → test_of e (with_fixed x true) unit base y ≡ Ok Live
  ended-law v vs more q f d =
      by-location v true
      ∙ ap (locations e true x.addresses unit) q
      ∙ behind-locations (Ok Live) dead-not-live e x.addresses more true unit vs (live-not-dead _ d (locations-found e x.addresses unit vs f))
