-- Two keep lists that treat the tags of a unit's entries alike have one answer; so a list that has none of its tags changes nothing, and
-- neither does the empty one (document 02, Point 10: "Tags not listed are judged as before"). Assumes nothing.
use mathlib.Core.Path.{◌≡◌, refl, ap, sym, ◌∙◌, subst}
use Prim.Native.Nat.{ℕ, suc}
use mathlib.Core.Bool.{Bool}
use mathlib.Core.List.{List, [], ◌∷◌}
use mathlib.Core.Logic.{⊎_elim}
use lib.ListN.{take}
use Rattle.readers.specs.Lists.{list_base}
use Rattle.readers.specs.Nesting.{closed}
use Rattle.readers.specs.Stream.{Item, entry, terminator}
use Rattle.readers.specs.declared.cursor.Encoding.{Encoding}
use Rattle.readers.specs.declared.entries.Entry.{Entry}
use Rattle.std.specs.Prelude.{Result}
use Rattle.marking.specs.declared.addresses.Verdict.{Verdict}
use Rattle.marking.specs.KeepList.{KeepList, keep_refusal, each_treats, ascends, treatment_in, treatment_of, treated}
use Rattle.marking.specs.Analysis.{Sections, Rooms, EntryRow, Analysed, analysed, refused as not_analysed, tag_of, values_of_entry, test_of, root_of, names_of}
use Rattle.marking.specs.Analysis.{base_of, analysis_of}
use Rattle.marking.specs.EntryRows.{Tested, RowsOf, unit_items}
use Rattle.marking.proofs.EachRow.{items-rows}
use Rattle.marking.proofs.ListedHeaders.{header-taken}
use Rattle.rewriting.specs.Rewriting.{Room, collect_of}
use Rattle.readers.specs.Choice.{pick, ◌and◌}
use Rattle.laws.specs.KeepLists.{with_keep, no_list, SameEntries, no_entries, TreatAlike, ListsNone}
use Rattle.laws.specs.UnitSurvivors.{EntryAt, next, behind_entry, behind_terminator}
use Rattle.laws.proofs.Survivors.UnitLaws.{unit-survivors, same_rows}
use Rattle.laws.proofs.Tables.SameRewriting.{same-collected}
use Rattle.laws.proofs.Keep.SameRefusals.{same-refusals-law}
use Rattle.laws.proofs.Keep.Treatments.{untreated-tag}

-- ---- rows

module _ (e : Encoding) (x : Sections) (one other : KeepList) (unit : List ℕ) where
  root-same : (base : ℕ) (y : Entry) → treatment_of one (tag_of y) ≡ treatment_of other (tag_of y)
      → root_of e (with_keep x one) unit base y ≡ root_of e (with_keep x other) unit base y
  unfolding root_of test_of values_of_entry
  root-same base y q = ap (λ (n : ℕ). treated n (test_of e x unit base y)) q

  rows_alike : (items : List Item) (k : ℕ) (stack : List ℕ) (rb lb : ℕ) (rows : List EntryRow)
      → ((n : ℕ) (y : Entry) → EntryAt y n items → treatment_of one (tag_of y) ≡ treatment_of other (tag_of y))
      → RowsOf e (with_keep x one) unit k stack rb lb items rows → RowsOf e (with_keep x other) unit k stack rb lb items rows
  unfolding RowsOf base_of names_of values_of_entry
  rows_alike [] k stack rb lb rows same q = q
  rows_alike (terminator a b ∷ rest) k stack rb lb rows same q =
      rows_alike rest k (closed stack) rb lb rows (λ n y at. same n y (behind_terminator at)) q
  rows_alike (entry y ∷ rest) k stack rb lb [] same q = q
  rows_alike (entry y ∷ rest) k stack rb lb (r ∷ rows) same q = (
    record {
      offset_is = q.0.offset_is;
      parent_is = q.0.parent_is;
      root_is = subst (λ (v : Result Verdict ℕ). Tested v r.root) (root-same _ y (same 0 y next)) q.0.root_is;
      names_are = q.0.names_are;
    },
    rows_alike rest _ _ _ _ rows (λ n z at. same (suc n) z (behind_entry at)) q.1,
  )

none_beside : (others : List EntryRow) → SameEntries [] others → others ≡ []
none_beside [] no_entries = refl
none_beside (_ ∷ _) m = elim m [ ]

-- ---- the answer

module _ (x : Sections) (one other : KeepList) (taken : keep_refusal one ≡ 0) (too : keep_refusal other ≡ 0) (section : List ℕ)
    (alike : TreatAlike x section one other) where
  rows_same : (room : Rooms) (rows others : List EntryRow) → analysis_of (with_keep x one) section room ≡ analysed rows
      → analysis_of (with_keep x other) section room ≡ analysed others → SameEntries rows others → others ≡ rows
  rows_same room rows others a b same =
      ⊎_elim
      (λ z. none_beside others (subst (λ (l : List EntryRow). SameEntries l others) z.1 same) ∙ sym z.1)
      (λ u. same_rows u.header.encoding (with_keep x other) (take u.header.end section) 0 []
      (list_base u.header.encoding) (list_base u.header.encoding)
      (unit_items x section u.header u.declared).0 others rows
      (items-rows (with_keep x other) section room u.header u.declared others u.header_is u.declared_is b)
      (rows_alike u.header.encoding x one other (take u.header.end section) _ _ _ _ _ rows
      (λ n y at. alike u.header u.declared u.header_is u.declared_is n y at) u.each))
      (unit-survivors (with_keep x one) section room rows a).unit

  by-analysis : (room : Rooms) (a : Analysed) → analysis_of (with_keep x one) section room ≡ a → analysis_of (with_keep x other) section room ≡ a
  by-analysis room (analysed rows) q =
      let s = (same-refusals-law x one other taken too section room).entries rows q in
      s.is ∙ ap (λ (l : List EntryRow). analysed l) (rows_same room rows s.others q s.is s.same)
  by-analysis room (not_analysed n) q = (same-refusals-law x one other taken too section room).refusals n q

  -- THE answer by two lists that treat the entries of a unit alike
  pub treat-alike-law : (room : Room) (type_units : Bool)
      → collect_of (with_keep x one) room type_units section ≡ collect_of (with_keep x other) room type_units section
  treat-alike-law room type_units =
      same-collected (with_keep x one) x.locations x.ranges x.addresses x.debug_ranges other room type_units section
      (sym (by-analysis room.tables (analysis_of (with_keep x one) section room.tables) refl))
      (header-taken (with_keep x one) section taken ∙ sym (header-taken (with_keep x other) section too))

-- the empty list is taken, and treats no tag
none-taken : keep_refusal no_list ≡ 0
unfolding keep_refusal each_treats ascends pick ◌and◌
none-taken = refl

none-treats : (tag : ℕ) → treatment_of no_list tag ≡ 0
unfolding treatment_in
none-treats tag = refl

-- THE answer by a list that has none of a unit's tags is that without a list
pub unlisted-law : (x : Sections) (keep : KeepList) → keep_refusal keep ≡ 0 → (section : List ℕ) → ListsNone x section keep → (room : Room)
    (type_units : Bool) → collect_of (with_keep x keep) room type_units section ≡ collect_of (with_keep x no_list) room type_units section
unlisted-law x keep taken section none room type_units =
    treat-alike-law x keep no_list taken none-taken section
    (λ h ds q d k y at. untreated-tag keep (tag_of y) (none h ds q d k y at) ∙ sym (none-treats (tag_of y))) room type_units
