-- What survives where fixed addresses count (document 02, Point 7): each variable that has one, and all that survives where they do not.
-- Assumes nothing.
use mathlib.Core.Path.{◌≡◌, refl, ap, sym, ◌∙◌, subst}
use Prim.Native.Nat.{ℕ}
use mathlib.Core.Bool.{Bool, true, false, not}
use mathlib.Core.List.{List}
use mathlib.Core.Logic.{inl, inr}
use lib.ListN.{take}
use Rattle.readers.specs.declared.cursor.Encoding.{Encoding}
use Rattle.readers.specs.declared.entries.Entry.{Entry}
use Rattle.std.specs.Prelude.{Err, Ok, Result}
use Rattle.marking.specs.declared.addresses.Verdict.{Verdict}
use Rattle.marking.specs.declared.addresses.Verdict.TheVariants.{Live, Dead}
use Rattle.marking.specs.Survivors.{Survivor}
use Rattle.marking.specs.Analysis.{Sections, Rooms, EntryRow, analysed, analysis_of, root_of}
use Rattle.marking.specs.EntryRows.{unit_items}
use Rattle.marking.specs.Resolution.{graph_of}
use Rattle.laws.specs.AddressTables.{with_fixed, NoneLost}
use Rattle.laws.specs.FixedAddresses.{FixedVariable}
use Rattle.laws.specs.UnitSurvivors.{FirstUnit, EntryAt}
use Rattle.laws.specs.KeepLists.{Treats}
use Rattle.laws.proofs.Survivors.UnitLaws.{unit-survivors}
use Rattle.laws.proofs.Survivors.RowsAt.{RowAt, row_at, not-dead-root}
use Rattle.laws.proofs.Tables.BySeveralTables.{Verdicts}
use Rattle.laws.proofs.Tables.LiveVerdicts.{Held, held-live, held_same, held-else}
use Rattle.laws.proofs.Tables.NoneLost.{all-kept}
use Rattle.laws.proofs.Fixed.FixedLocations.{Counted, location-counted}
use Rattle.laws.proofs.Fixed.FixedRoots.{fixed-roots-law}
use Rattle.marking.specs.KeepList.{treatment_of, treated, never_root}
use Rattle.marking.proofs.KeepLists.{still-live, still-refused}
use Rattle.readers.specs.Codes.{DW_TAG_variable}
use Rattle.laws.proofs.Keep.Treatments.{treatment-listed}

-- ---- the variables

-- a verdict that is not dead is not made so but by treatment 2
not-dead-treated : (k : ℕ) (v : Result Verdict ℕ) → (k ≡ never_root → ⊥) → (v ≡ Ok Dead → ⊥) → treated k v ≡ Ok Dead → ⊥
not-dead-treated k (Ok Live) n d q = d (still-live k (Ok Live) refl n ∙ q)
not-dead-treated k (Ok Dead) n d q = d refl
not-dead-treated k (Err m) n d q = d (still-refused k (Err m) m refl ∙ q)

-- THE variables at a fixed address: where they count, each is a survivor of its unit, but for a keep list by which no variable is a root
pub fixed-kept-law : (x : Sections) (section : List ℕ) (room : Rooms) (rows : List EntryRow) → analysis_of (with_fixed x true) section room ≡ analysed rows
    → (Treats x.keep DW_TAG_variable never_root → ⊥) → (u : FirstUnit (with_fixed x true) section rows) (k : ℕ) (y : Entry) → EntryAt y k (unit_items x section u.header u.declared).0
    → FixedVariable u.header.encoding x (take u.header.end section) y → Survivor (graph_of rows) k
unfolding root_of
fixed-kept-law x section room rows q n u k y at f =
    let e : Encoding = u.header.encoding in
    let unit : List ℕ = take u.header.end section in
    let w : RowAt e (with_fixed x true) unit y k rows = row_at e (with_fixed x true) unit y k _ _ _ _ _ rows at u.each in
    let r : w.row.root ≡ 1 = not-dead-root _ _ w.of.root_is (not-dead-treated _ _ (λ z. n (treatment-listed x.keep _ 1 (ap (treatment_of x.keep) (sym f.tag) ∙ z))) ((fixed-roots-law e x unit _ y).also f)) in
    (unit-survivors (with_fixed x true) section room rows q).least.closed.has_roots k (record { row = w.row; at = w.at; is = r })

-- ---- all that survives without

counted-held : (off on : Result Verdict ℕ) (F : Type 0) → Counted off on F → Held off on
counted-held off on F (inl q) = subst (Held off) (sym q) (held_same off)
counted-held off on F (inr q) = subst (Held off) (sym q.0) (held-live off)

-- off (true) and on (false)
choice-held : (table : List ℕ) → Verdicts (λ (i : Bool). not i) (λ (i : Bool). table) (λ v. Held (v true) (v false))
choice-held table =
    record {
      of_live = held_same (Ok Live);
      of-dead = held_same (Ok Dead);
      of-else = λ v w p q. held-else (v true) (w true) (v false) (w false) p q;
      of-low-pc = λ e a. held_same _;
      of-location = λ e s. counted-held _ _ _ (location-counted e table s);
      of-ranges = λ e s o. held_same _;
      of-offset = λ e s o. held_same _;
    }

-- THE survivors where fixed addresses do not count survive where they do
pub more-kept-law : (x : Sections) (section : List ℕ) (room : Rooms) (rows : List EntryRow)
    → analysis_of (with_fixed x false) section room ≡ analysed rows → NoneLost (with_fixed x true) section room rows
more-kept-law x section room rows q = all-kept x (λ (i : Bool). not i) (λ i. x.addresses) (choice-held x.addresses) section room rows q
