-- One section of range lists is read, chosen by the version: an analysis by the chosen one alone is the same. Assumes
-- nothing.
use mathlib.Core.Path.{◌≡◌, refl, ap, sym, ◌∙◌}
use Prim.Native.Nat.{ℕ, suc, ◌+◌}
use mathlib.Core.Bool.{Bool, true, false}
use mathlib.Core.List.{List, [], ◌∷◌}
use Rattle.std.specs.Prelude.{None, Option, Some, Err, Ok, Result}
use lib.ListN.{length}
use lib.Dec.{ltb, leb, eqb}
use mir.Facts.{yes_eqb, no_eqb}
use Rattle.readers.specs.Choice.{pick}
use Rattle.readers.proofs.Choice.{pick_yes, pick_no, pick-either}
use Rattle.readers.specs.Abbreviations.{Placed, declared_in, abbreviations_of}
use Rattle.readers.specs.Nesting.{opened, closed, top}
use Rattle.readers.specs.EntryAttributes.{Valued}
use Rattle.readers.specs.Stream.{Item, entry, terminator, items_from}
use Rattle.readers.specs.declared.cursor.Encoding.{Encoding}
use Rattle.readers.specs.declared.entries.Entry.{Entry}
use Rattle.marking.specs.Analysis.{Sections, sections, ranges_for, Rooms, Reached, reached, start_of, Analysed, refused, onto, on_verdict, on_found, tag_of, values_of_entry, test_of, root_of, names_of, base_of, analyse_items, on_declared, unit_analysed}
use Rattle.marking.specs.EntryReferences.{ReferencesFound, found, refused as refused_after}
use Rattle.marking.specs.KeepList.{KeepList, treatment_of, treated}
use Rattle.marking.specs.Roots.{ranges_by, root_test}
use Rattle.marking.specs.declared.addresses.Verdict.{Verdict}
use Rattle.marking.specs.declared.addresses.Verdict.TheVariants.{Live, Dead}
use Rattle.marking.specs.declared.setting.Setting.{Setting}

module _ (e : Encoding) (ranges older : List ℕ) where
  pub debug-ranges-for : e.version ≡ 4 → older ≡ ranges_for e ranges older
  unfolding ranges_for
  debug-ranges-for v = sym (pick_yes _ _ _ (yes_eqb {a = e.version} {b = 4} v))

  pub rnglists-for : (e.version ≡ 4 → ⊥) → ranges ≡ ranges_for e ranges older
  unfolding ranges_for
  rnglists-for v = sym (pick_no _ _ _ (no_eqb {a = e.version} {b = 4} v))

-- a choice between one section and itself
same-for : (e : Encoding) (s : List ℕ) → ranges_for e s s ≡ s
unfolding ranges_for
same-for e s = pick-either (λ (z : List ℕ). z ≡ s) (eqb e.version 4) s s (λ _. refl) (λ _. refl)

verdict-same : (v w : Result Verdict ℕ) → v ≡ w → (k g : ℕ → Analysed) → ((n : ℕ) → k n ≡ g n) → on_verdict v k ≡ on_verdict w g
unfolding on_verdict
verdict-same v w q k g h = ap (λ (x : Result Verdict ℕ). on_verdict x k) q ∙ of w
  where
    of : (w : Result Verdict ℕ) → on_verdict w k ≡ on_verdict w g
    of (Ok Live) = h 1
    of (Ok Dead) = h 0
    of (Err n) = refl

found-same : (f : ReferencesFound) (k g : List ℕ → Analysed) → ((xs : List ℕ) → k xs ≡ g xs) → on_found f k ≡ on_found f g
unfolding on_found
found-same (found xs) k g h = h xs
found-same (refused_after xs n) k g h = refl

-- a root test in one section
pub rooted : (k : ℕ) (e : Encoding) (ranges table : List ℕ) (ranges_base base : ℕ) (fixed : Bool) (unit : List ℕ) (tag : ℕ) (values : List Valued) (w : Result Verdict ℕ)
    → w ≡ treated k (root_test e (ranges_by ranges table ranges_base base) fixed unit tag values)
    → w ≡ treated k (root_test e (ranges_by (ranges_for e ranges ranges) table ranges_base base) fixed unit tag values)
rooted k e ranges table ranges_base base fixed unit tag values w q =
    q ∙ ap (λ (z : List ℕ). treated k (root_test e (ranges_by z table ranges_base base) fixed unit tag values)) (sym (same-for e ranges))

module _ (e : Encoding) (a l r t o : List ℕ) (keep : KeepList) (setting : Setting) (unit : List ℕ) (room : Rooms) where
  -- all that is lent, and with the chosen section alone
  abbrev lent : Sections
  lent = sections a l r t o keep setting

  abbrev chosen : Sections
  chosen = sections a l (ranges_for e r o) t (ranges_for e r o) keep setting

  root-same : (base : ℕ) (y : Entry) → root_of e chosen unit base y ≡ root_of e lent unit base y
  unfolding root_of test_of ranges_for pick values_of_entry
  root-same base y = sym (rooted (treatment_of keep (tag_of y)) e (ranges_for e r o) t setting.ranges_base base setting.fixed_addresses unit (tag_of y) (values_of_entry e lent unit y) _ refl)

  items-same : (p : Reached) (items : List Item) (whole : Bool) → analyse_items e chosen unit room p items whole ≡ analyse_items e lent unit room p items whole
  unfolding analyse_items base_of names_of values_of_entry
  items-same p [] true = refl
  items-same p [] false = refl
  items-same p (terminator x y ∷ rest) whole = items-same (reached p.count p.references (closed p.stack) p.rnglists_base p.loclists_base) rest whole
  items-same p (entry y ∷ rest) whole =
      let rb : ℕ = base_of e lent unit 0x74 p.rnglists_base y in
      let lb : ℕ = base_of e lent unit 0x8c p.loclists_base y in
      ap (λ (z : Analysed). pick (ltb p.count room.entries) z (refused 10))
      (verdict-same (root_of e chosen unit rb y) (root_of e lent unit rb y) (root-same rb y) _ _ (λ root.
      found-same (names_of e lent unit lb y) _ _ (λ names.
      ap (λ (z : Analysed). pick (leb (p.references + length names) room.references)
      (onto (record { offset = y.offset.0; parent = top p.stack; root = root; names = names }) z) (refused 11))
      (items-same
      (reached (suc p.count) (p.references + length names) (opened y.declaration.children p.count p.stack) rb lb) rest whole))))

  pub unit-same : (from first : ℕ) → unit_analysed e chosen unit room from first ≡ unit_analysed e lent unit room from first
  unfolding unit_analysed on_declared
  unit-same from first = declared (abbreviations_of a from)
    where
      declared : (d : Option (List Placed))
          → on_declared d (λ ds. let items = items_from e a (declared_in ds) unit first in analyse_items e chosen unit room (start_of e) items.0 items.1)
          ≡ on_declared d (λ ds. let items = items_from e a (declared_in ds) unit first in analyse_items e lent unit room (start_of e) items.0 items.1)
      declared None = refl
      declared (Some ds) = items-same (start_of e) (items_from e a (declared_in ds) unit first).0 (items_from e a (declared_in ds) unit first).1
