-- What survives by a keep list (document 02, Point 10): every entry whose tag has treatment 1; and one whose tag has treatment 2 through a
-- reference or its family, as any other entry that is no root. Assumes nothing.
use mathlib.Core.Path.{◌≡◌, sym, ◌∙◌, subst}
use Prim.Native.Nat.{ℕ, ◌<◌}
use native.Mathlib.Omega.{arith}
use mathlib.Core.List.{List}
use mathlib.Core.Logic.{◌↔◌}
use lib.ListN.{take}
use Rattle.readers.specs.Codes.{DW_AT_rnglists_base}
use Rattle.readers.specs.declared.entries.Entry.{Entry}
use Rattle.std.specs.Prelude.{Ok, Result}
use Rattle.marking.specs.declared.addresses.Verdict.{Verdict}
use Rattle.marking.specs.declared.addresses.Verdict.TheVariants.{Live}
use Rattle.marking.specs.KeepList.{always_root, never_root}
use Rattle.marking.specs.Survivors.{Survivor, first, root, parent, named, under_root, under_named}
use Rattle.marking.specs.Analysis.{Sections, Rooms, EntryRow, analysed, tag_of, test_of, root_of, base_of, analysis_of}
use Rattle.marking.specs.EntryRows.{unit_items}
use Rattle.marking.specs.Resolution.{graph_of}
use Rattle.laws.specs.KeepLists.{Treats, Decided, TreatedBy, KeptThrough, as_first, as_parent, by_reference, below_root, below_named}
use Rattle.laws.specs.UnitSurvivors.{RootIn, FirstUnit, EntryAt, SurvivorsOf}
use Rattle.laws.proofs.Survivors.UnitLaws.{unit-survivors}
use Rattle.laws.proofs.Survivors.GraphLaws.{nth-root}
use Rattle.laws.proofs.Survivors.MarkingSteps.{below_out}
use Rattle.laws.proofs.Survivors.RowsAt.{RowAt, row_at, live-not-dead, not-dead-root, dead-no-root, tested-decided}
use Rattle.laws.proofs.Keep.Treatments.{treatment-law}
use Rattle.marking.proofs.ListedHeaders.{analysed-taken}

-- ---- the row of an entry

not-both : (r : ℕ) → r ≡ 0 → r ≡ 1 → ⊥
not-both r p q = omega arith

module _ (x : Sections) (section : List ℕ) (room : Rooms) (rows : List EntryRow) (analysis : analysis_of x section room ≡ analysed rows)
    (u : FirstUnit x section rows) (k : ℕ) (y : Entry) (at : EntryAt y k (unit_items x section u.header u.declared).0) where
  abbrev unit : List ℕ
  unit = take u.header.end section

  abbrev survivors : SurvivorsOf x section rows
  survivors = unit-survivors x section room rows analysis

  abbrev own : RowAt u.header.encoding x unit y k rows
  own = row_at u.header.encoding x unit y k _ _ _ _ _ rows at u.each

  abbrev base : ℕ
  base = base_of u.header.encoding x unit DW_AT_rnglists_base own.rnglists_base y

  abbrev test : Result Verdict ℕ
  test = test_of u.header.encoding x unit base y

  by-list : TreatedBy x.keep (tag_of y) test (root_of u.header.encoding x unit base y)
  by-list = treatment-law u.header.encoding x unit base y (analysed-taken x section room rows analysis)

  decided : Decided test
  decided n q = tested-decided _ _ own.of.root_is n (by-list.refused n q)

  -- THE entries that are always roots: each is one, so it survives
  pub always-law : Treats x.keep (tag_of y) always_root → RootIn rows k × Survivor (graph_of rows) k
  always-law t =
      let live : root_of u.header.encoding x unit base y ≡ Ok Live = by-list.always t decided in
      let is : own.row.root ≡ 1 = not-dead-root _ _ own.of.root_is (λ d. live-not-dead (sym live ∙ d)) in
      let r : RootIn rows k = record { row = own.row; at = own.at; is = is } in
      (r, survivors.least.closed.has_roots k r)

  -- "2 never a root"
  no-root : Treats x.keep (tag_of y) never_root → RootIn rows k → ⊥
  no-root t r =
      not-both _ (nth-root own.row k rows own.at ∙ dead-no-root _ _ own.of.root_is (by-list.never t decided))
      (nth-root r.row k rows r.at ∙ r.is)

  -- an entry that is no root survives in these ways
  through-out : (i : ℕ) → (RootIn rows i → ⊥) → Survivor (graph_of rows) i → KeptThrough rows (Survivor (graph_of rows)) i
  through-out i n (first h) = as_first (subst (λ (m : ℕ). 0 < m) survivors.graph.entries h)
  through-out i n (root q) = absurd (n ((survivors.graph.roots i).0 q))
  through-out i n (parent {p = p} {i = c} q s) = as_parent ((survivors.graph.parents p c).0 q) s
  through-out i n (named {s = s} {t = t} q k) = by_reference ((survivors.graph.references s t).0 q) k
  through-out i n (under_root {r = r} q d) = below_root ((survivors.graph.roots r).0 q) (below_out rows (graph_of rows) survivors.graph d)
  through-out i n (under_named {s = s} {t = t} q k d) =
      below_named ((survivors.graph.references s t).0 q) k (below_out rows (graph_of rows) survivors.graph d)

  through-in : (i : ℕ) → KeptThrough rows (Survivor (graph_of rows)) i → Survivor (graph_of rows) i
  through-in i (as_first h) = survivors.least.closed.has_first h
  through-in i (as_parent {p} {i = c} q s) = survivors.least.closed.has_parents p c q s
  through-in i (by_reference {s} {t} q k) = survivors.least.closed.has_named s t q k
  through-in i (below_root {r} {d} q b) = survivors.least.closed.has_under_roots r d q b
  through-in i (below_named {s} {t} {d} q k b) = survivors.least.closed.has_under_named s t d q k b

  -- THE entries that are never roots: "Treatment 2 doesn't stop an entry from being kept through a reference or its family", and nothing
  -- else keeps one
  pub never-law : Treats x.keep (tag_of y) never_root
      → (RootIn rows k → ⊥) × (Survivor (graph_of rows) k ↔ KeptThrough rows (Survivor (graph_of rows)) k)
  never-law t = (no-root t, (through-out k (no-root t), through-in k))
