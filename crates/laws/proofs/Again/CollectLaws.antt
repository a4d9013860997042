-- What an answer of collect says of its unit, for every input: the parts of the law of thinned units (ThinnedLaw.antt). Each assumes that the answer is a rewritten unit, or an
-- untouched one, and nothing else.
use mathlib.Core.Path.{◌≡◌, ap, ap₂, sym, ◌∙◌, subst}
use Prim.Native.Nat.{ℕ, zero, suc, ◌+◌, ◌-◌, ◌<◌}
use native.Mathlib.Omega.{arith}
use mathlib.Core.Bool.{Bool}
use mathlib.Core.List.{List, [], ◌++◌, append_assoc}
use Rattle.std.specs.Prelude.{None, Ok, Option, Some}
use mathlib.Core.Logic.{◌↔◌}
use lib.ListN.{length, take, drop}
use lib.Dec.{T}
use Rattle.readers.specs.Choice.{pick}
use Rattle.readers.proofs.Choice.{pick-either}
use Rattle.readers.specs.Numbers.{fixed_bytes}
use Rattle.readers.specs.Abbreviations.{Placed, declared_in, abbreviations_of}
use Rattle.readers.specs.Header.{length_size, header_of, with_end}
use Rattle.readers.specs.Stream.{Item, Items}
use Rattle.readers.specs.declared.header.UnitHeader.{UnitHeader}
use Rattle.marking.specs.Below.{Number}
use Rattle.marking.specs.Survivors.{Survivor}
use Rattle.marking.specs.Marks.{is_kept, kept_count}
use Rattle.marking.specs.Analysis.{Sections, EntryRow, analysed, analysis_of}
use Rattle.marking.specs.Resolution.{graph_of, marks_in}
use Rattle.rewriting.specs.Places.{NestedItem, Place, places_from, size_from, old_offsets}
use Rattle.rewriting.specs.Indices.{insert_all, rank_in}
use Rattle.marking.specs.Members.{Member}
use Rattle.rewriting.specs.Ascending.{Ascending}
use Rattle.laws.specs.LeftOut.{survivors_in, left_from}
use Rattle.laws.specs.Inner.Moved.{moved_from}
use Rattle.laws.specs.Ancestors.{ancestors_from}
use Rattle.laws.specs.Inner.Ancestors.{kept_ancestors, AllMapTo}
use Rattle.rewriting.specs.Emission.{header_bytes}
use Rattle.rewriting.specs.Rewriting.{Unit as Unit', items_in, Lists, indices_from, list_of, lists_of, list_at, bytes_from, unit_bytes, Room, Rewrite, untouched, rewritten, collect_of, unit_of}
use Rattle.rewriting.proofs.ListPass.Sorted.{sorted-ascending, sorted-member}
use Rattle.laws.proofs.Again.Ranks.{rank-inside, rank-place, Ranked}
use Rattle.laws.proofs.Again.Maps.{places-length, kept-sized, news-ascending}
use Rattle.rewriting.proofs.MapPass.Ascending.{items-ascending, olds-ascending}
use Rattle.laws.proofs.Again.Sizes.{kept-and-left, items-sized}
use Rattle.rewriting.proofs.KeptPass.ItemDepths.{Every, Readable}
use Rattle.laws.proofs.Again.ReadsAgain.{with_bytes}
use Rattle.laws.proofs.Again.UnitAgain.{ReadAgain, unit-again}
use Rattle.readers.proofs.HeaderLaws.{HeaderLaw}
use Rattle.marking.proofs.UnitMarkings.{marks-each}
use Rattle.rewriting.proofs.Whole.AcceptedUnits.{Accepted}
use Rattle.laws.proofs.Again.Accepted.{accepted-whole, accepted-header, accepted-wide, WasRewritten, WasUntouched, was-rewritten, was-untouched, was-empty}
use Rattle.laws.proofs.Survivors.ClosedMarks.{accepted-kept, accepted-count, accepted-marks, accepted-closed}
use Rattle.rewriting.proofs.KeptPass.ReadableItems.{accepted-readable}
use Rattle.laws.proofs.Again.AncestorsAgain.{ancestors_again}
use Rattle.laws.proofs.Again.IndexMembers.{IndexKept, index-members}
use Rattle.laws.proofs.Again.Counting.{some-without, all-with}
use Rattle.laws.specs.Thinned.{Without, DeadEntry, new_offsets}

-- ---- index lists, of a unit rewritten or not

-- ascending, without repeats; exactly the index operands of that kind in what is kept; and each by its place
pub record ListLaw (x : Sections) (u : Unit') (kept : List NestedItem) (k : ℕ) (xs : List ℕ) : Type 0 where
  pub ascending : Ascending xs
  pub members : (v : ℕ) → Member v xs ↔ IndexKept x u k v kept
  pub ranks : (v : ℕ) → Member v xs → Ranked xs v (rank_in xs v)

module _ (x : Sections) (u : Unit') (type_units : Bool) (kept : List NestedItem) (xs : List ℕ) where
  list-present : (absent : Bool) (k : ℕ) → list_of x u absent k kept ≡ Some xs → insert_all (indices_from x u k kept) [] ≡ xs
  unfolding list_of
  list-present absent k =
      pick-either (λ (o : Option (List ℕ)). o ≡ Some xs → insert_all (indices_from x u k kept) [] ≡ xs) absent None (Some (insert_all (indices_from x u k kept) []))
      (λ _ q. let z : ◌≡◌ {A = ℕ} 0 1 = cc in absurd (omega arith))
      (λ _ q. cc)

  list-is : (k : ℕ) → k < 3 → list_at (lists_of x u type_units kept) k ≡ Some xs → insert_all (indices_from x u k kept) [] ≡ xs
  unfolding list_at lists_of pick
  list-is zero h q = list-present _ 0 q
  list-is (suc zero) h q = list-present _ 1 q
  list-is (suc (suc zero)) h q = list-present _ 2 q
  list-is (suc (suc (suc k))) h q = absurd (omega arith)

  sorted-law : (k : ℕ) → insert_all (indices_from x u k kept) [] ≡ xs → ListLaw x u kept k xs
  sorted-law k q =
      subst (ListLaw x u kept k) q
      (record {
        ascending = sorted-ascending (indices_from x u k kept);
        members = (λ v. (
          λ m. (index-members k v x u kept).0 ((sorted-member v (indices_from x u k kept)).0 m),
          λ i. (sorted-member v (indices_from x u k kept)).1 ((index-members k v x u kept).1 i),
        ));
        ranks = (λ v m. record {
          inside = rank-inside (insert_all (indices_from x u k kept) []) v (sorted-ascending (indices_from x u k kept)) m;
          placed = rank-place (insert_all (indices_from x u k kept) []) v (sorted-ascending (indices_from x u k kept)) m;
        });
      })

  pub listed-law : (lists : Lists) → lists ≡ lists_of x u type_units kept → (k : ℕ) → k < 3 → list_at lists k ≡ Some xs → ListLaw x u kept k xs
  listed-law lists q k h p = sorted-law k (list-is k h (sym (ap (λ (z : Lists). list_at z k) q) ∙ p))

-- ---- a rewritten unit

module _ (x : Sections) (room : Room) (type_units : Bool) (section : List ℕ) (w : Rewrite) (answer : collect_of x room type_units section ≡ rewritten w) where
  -- its header, its declarations and the rows of its entries, as they are read; what it is, and what is kept of it
  pub it : WasRewritten x room type_units section w
  it = was-rewritten x room type_units section w answer

  abbrev pub unit : Unit'
  unit = unit_of it.header section it.declared

  abbrev pub marks : List ℕ
  marks = marks_in it.rows

  abbrev pub kept : List NestedItem
  kept = survivors_in x unit it.rows

  abbrev pub start : ℕ
  start = it.header.first.0

  -- the unit with the new bytes, read by the same header and declarations
  abbrev pub again : Unit'
  again = with_bytes unit w.output

  pub accepted : Accepted x room section it.header it.declared it.rows
  accepted = it.accepted

  header-law : HeaderLaw x.setting.big_endian unit.bytes it.header
  header-law = accepted-header x room section it.header it.declared it.rows accepted

  -- "The kept count is the number of survivors."
  pub count_law : Number (Survivor (graph_of it.rows)) w.entries w.kept
  count_law =
      subst (λ (n : ℕ). Number (Survivor (graph_of it.rows)) w.entries n) (sym it.count-is)
      (subst (λ (n : ℕ). Number (Survivor (graph_of it.rows)) n (kept_count marks)) (sym (it.entries-is ∙ accepted-marks x room section it.header it.declared it.rows accepted))
      (accepted-count x room section it.header it.declared it.rows accepted))

  -- the survivors are what is kept
  pub kept-law : (i : ℕ) → T (is_kept marks i) ↔ Survivor (graph_of it.rows) i
  kept-law = accepted-kept x room section it.header it.declared it.rows accepted

  -- "An accepted unit is rewritten exactly when it has a dead entry."
  pub dead-law : Without (Survivor (graph_of it.rows)) w.entries
  dead-law = some-without (Survivor (graph_of it.rows)) w.entries w.kept count_law (omega (arith, it.dead, it.entries-is, it.count-is))

  -- "Read again, a rewritten unit is the old tree less its dead entries, with order, nesting and, as document 01 has it, values kept.": its items are those kept, one
  -- after the other up to its end, at the places and depths of the map, and each is read as it was, patched
  pub again-law : ReadAgain x unit w.lists w.map kept w.output
  again-law =
      subst (ReadAgain x unit w.lists w.map kept) (sym it.output-is)
      (unit-again x unit w.lists w.map (accepted-wide x room section it.header it.declared it.rows accepted)
      (omega (arith, header-law.after)) header-law.inside marks
      (accepted-closed x room section it.header it.declared it.rows accepted)
      (accepted-readable x room section it.header it.declared it.rows accepted marks)
      it.none-refused)

  -- what is read of a kept item is never nothing: each could be read, its expressions operation by operation
  pub readable-law : Every (Readable x unit) kept
  readable-law = accepted-readable x room section it.header it.declared it.rows accepted marks

  items-are : items_in x again ≡ moved_from start kept
  unfolding items_in
  items-are = ap (λ (z : Items). z.0) again-law.items

  -- "The rewritten unit's old bytes, counted, equal its new bytes plus those of the entries and terminators left out."
  pub bytes-law : length unit.bytes ≡ length w.output + size_from (left_from marks 0 [] (items_in x unit))
  unfolding items_in
  bytes-law =
      sym (kept-and-left it.header.encoding x.abbreviations (declared_in it.declared) unit.bytes marks 0 [] start
      (accepted-whole x room section it.header it.declared it.rows accepted) header-law.inside)
      ∙ ap (λ (n : ℕ). n + size_from (left_from marks 0 [] (items_in x unit))) (sym again-law.size)

  -- how many bytes an offset has, and how many the length field
  abbrev offset : ℕ
  offset = it.header.encoding.offset_size

  abbrev front : ℕ
  front = length_size it.header.encoding

  header_again : header_of x.setting.big_endian w.output ≡ Ok (Some (with_end it.header (length w.output)))
  unfolding unit_bytes header_bytes
  header_again =
      let a : List ℕ = take (front - offset) unit.bytes in
      let f : ℕ → List ℕ = (λ n. fixed_bytes it.header.encoding.big_endian offset n) in
      let m : List ℕ = drop front (take start unit.bytes) in
      let b : List ℕ = bytes_from x unit w.lists w.map kept in
      header-law.again w.output b (omega (arith, bytes-law))
      (it.output-is
      ∙ append_assoc (a ++ f (start + size_from kept - front)) m b
      ∙ append_assoc a (f (start + size_from kept - front)) (m ++ b)
      ∙ ap₂ (λ (o : Bool) (n : ℕ). a ++ (fixed_bytes o offset n ++ (m ++ b)))
      header-law.known.order_is (let q : start + size_from kept - front ≡ length w.output - front = omega (arith, again-law.size) in q))

  same-header : (h : UnitHeader) → header_of x.setting.big_endian section ≡ Ok (Some h) → it.header ≡ h
  same-header h q = let z : Ok (Some it.header) ≡ Ok (Some h) = sym accepted.header ∙ q in cc

  -- what holds of the header, the declarations and the rows above holds of any that are read
  pub of-read : (P : UnitHeader → List Placed → List EntryRow → Type 0) → P it.header it.declared it.rows
      → (h : UnitHeader) (ds : List Placed) (rows : List EntryRow) → header_of x.setting.big_endian section ≡ Ok (Some h)
      → abbreviations_of x.abbreviations h.abbreviations ≡ Some ds → analysis_of x section room.tables ≡ analysed rows → P h ds rows
  of-read P p h ds rows q d a =
      let f : it.header ≡ h = same-header h q in
      let z : Some it.declared ≡ Some ds = sym accepted.declared ∙ ap (λ (g : UnitHeader). abbreviations_of x.abbreviations g.abbreviations) f ∙ d in
      let e : it.declared ≡ ds = cc in
      let y : analysed it.rows ≡ analysed rows = sym accepted.analysis ∙ a in
      let r : it.rows ≡ rows = cc in
      subst (λ (g : UnitHeader). P g ds rows) f (subst (λ (l : List Placed). P it.header l rows) e (subst (P it.header it.declared) r p))

  -- its header is the old one, but for where the unit ends
  pub again-header : (h : UnitHeader) → header_of x.setting.big_endian section ≡ Ok (Some h) → header_of x.setting.big_endian w.output ≡ Ok (Some (with_end h (length w.output)))
  again-header h q = subst (λ (g : UnitHeader). header_of x.setting.big_endian w.output ≡ Ok (Some (with_end g (length w.output)))) (same-header h q) header_again

  -- ---- the map

  olds-law : Ascending (old_offsets (places_from start kept))
  unfolding items_in
  olds-law =
      olds-ascending marks 0 start [] (items_in x unit)
      (items-ascending it.header.encoding x.abbreviations (declared_in it.declared) unit.bytes start)

  news-law : Ascending (new_offsets (places_from start kept))
  unfolding items_in
  news-law =
      news-ascending start kept (kept-sized marks 0 [] (items_in x unit)
      (items-sized it.header.encoding x.abbreviations (declared_in it.declared) unit.bytes start))

  -- the map is in ascending order, by old offsets and by new ones; it has as many places as there are kept items
  pub record MapLaw : Type 0 where
    pub olds : Ascending (old_offsets w.map)
    pub news : Ascending (new_offsets w.map)
    pub each : length w.map ≡ length kept

  pub map-law : MapLaw
  map-law =
      record {
        olds = subst (λ (z : List Place). Ascending (old_offsets z)) (sym it.map_is) olds-law;
        news = subst (λ (z : List Place). Ascending (new_offsets z)) (sym it.map_is) news-law;
        each = ap length it.map_is ∙ places-length start kept;
      }

  -- ---- nesting

  -- "Read again, a rewritten unit is the old tree less its dead entries, with order, nesting ..": around each kept item the same entries are open as before, at their new
  -- places; the innermost is its parent
  pub nesting-law : AllMapTo w.map (kept_ancestors marks 0 [] [] (items_in x unit)) (ancestors_from [] (items_in x again))
  nesting-law =
      subst (λ (z : List Item). AllMapTo w.map (kept_ancestors marks 0 [] [] (items_in x unit)) (ancestors_from [] z)) (sym items-are)
      (subst (λ (z : List Place). AllMapTo z (kept_ancestors marks 0 [] [] (items_in x unit)) (ancestors_from [] (moved_from start kept))) (sym it.map_is)
      (ancestors_again marks (items_in x unit) (accepted-closed x room section it.header it.declared it.rows accepted) start olds-law))

  -- ---- index lists

  -- each list that is present: ascending, without repeats, exactly the indices of what is kept
  pub list_law : (k : ℕ) → k < 3 → (xs : List ℕ) → list_at w.lists k ≡ Some xs → ListLaw x unit kept k xs
  list_law k h xs q = listed-law x unit type_units kept xs w.lists it.lists-is k h q

-- ---- an untouched unit

module _ (x : Sections) (room : Room) (type_units : Bool) (section : List ℕ) (n : ℕ) (lists : Lists) (answer : collect_of x room type_units section ≡ untouched n lists) (some-entry : 0 < n) where
  pub whole : WasUntouched x room type_units section n lists
  whole = was-untouched x room type_units section n lists answer some-entry

  -- "An accepted unit is rewritten exactly when it has a dead entry."
  pub alive-law : (i : ℕ) → i < n → Survivor (graph_of whole.rows) i
  alive-law =
      let a : Accepted x room section whole.header whole.declared whole.rows = whole.accepted in
      all-with (Survivor (graph_of whole.rows)) n (kept_count (marks_in whole.rows))
      (subst (λ (k : ℕ). Number (Survivor (graph_of whole.rows)) k (kept_count (marks_in whole.rows)))
      (sym (whole.entries-is ∙ accepted-marks x room section whole.header whole.declared whole.rows a))
      (accepted-count x room section whole.header whole.declared whole.rows a))
      (whole.none-dead ∙ sym whole.entries-is)

  pub whole-list-law : (k : ℕ) → k < 3 → (xs : List ℕ) → list_at lists k ≡ Some xs
      → ListLaw x (unit_of whole.header section whole.declared) (survivors_in x (unit_of whole.header section whole.declared) whole.rows) k xs
  whole-list-law k h xs q =
      listed-law x (unit_of whole.header section whole.declared) type_units (survivors_in x (unit_of whole.header section whole.declared) whole.rows) xs lists
      whole.lists-is k h q

-- ---- rewritten or untouched

module _ (x : Sections) (room : Room) (type_units : Bool) (section : List ℕ) where
  same_rows : (a b : List EntryRow) → analysis_of x section room.tables ≡ analysed a → analysis_of x section room.tables ≡ analysed b → a ≡ b
  same_rows a b p q = let z : analysed a ≡ analysed b = sym p ∙ q in cc

  -- "An accepted unit is rewritten exactly when it has a dead entry.": a rewritten one has
  pub rewritten-dead : (w : Rewrite) → collect_of x room type_units section ≡ rewritten w → DeadEntry x room section
  rewritten-dead w q =
      let o : WasRewritten x room type_units section w = it x room type_units section w q in
      record {
        rows = o.rows;
        analysis = o.accepted.analysis;
        dead = subst (Without (Survivor (graph_of o.rows))) (o.entries-is ∙ marks-each o.rows) (dead-law x room type_units section w q);
      }

  none-dead : (n : ℕ) (l : Lists) → collect_of x room type_units section ≡ untouched n l → 0 < n → DeadEntry x room section → ⊥
  none-dead n l q h d =
      let o : WasUntouched x room type_units section n l = whole x room type_units section n l q h in
      let e : o.rows ≡ d.rows = same_rows o.rows d.rows o.accepted.analysis d.analysis in
      d.dead.not_there
      (subst (λ (z : List EntryRow). Survivor (graph_of z) d.dead.at) e
      (alive-law x room type_units section n l q h d.dead.at (omega (arith, d.dead.inside, o.entries-is, marks-each o.rows, ap length e))))

  -- and an untouched one has none
  pub untouched-none : (n : ℕ) (l : Lists) → collect_of x room type_units section ≡ untouched n l → DeadEntry x room section → ⊥
  untouched-none zero l q d =
      let e : d.rows ≡ [] = same_rows d.rows [] d.analysis (was-empty x room type_units section l q).0 in
      omega (arith, d.dead.inside, ap length e)
  untouched-none (suc n) l q d = none-dead (suc n) l q (omega arith) d
