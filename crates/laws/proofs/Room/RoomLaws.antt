-- THE LAWS OF ROOM: a larger room never changes an accepted answer; with enough room 10 to 14 never come; with less than what is
-- needed exactly that number does. Assumes nothing but the answer named.
use mathlib.Core.Path.{◌≡◌, refl, ap, sym, ◌∙◌, subst}
use Prim.Native.Nat.{ℕ, zero, suc, ◌+◌, ◌≤◌, ◌<◌}
use native.Mathlib.Omega.{arith}
use mathlib.Core.Bool.{Bool, true, false, not}
use mathlib.Core.List.{List, [], ◌∷◌}
use mathlib.Core.Logic.{◌⊎◌, inl, inr, ⊎_elim}
use Rattle.std.specs.Prelude.{Err, None, Ok, Option, Result, Some}
use lib.ListN.{length, take, length-append}
use lib.Seq.{take_all}
use lib.Dec.{T, leb, ltb, eqb}
use mir.Facts.{leb_yes, leb_no, yes_leb, no_leb, yes_eqb, no_eqb}
use Rattle.readers.specs.Choice.{pick, ◌and◌, ◌or◌}
use Rattle.readers.proofs.Choice.{pick-either, pick_yes, pick_no, either}
use Rattle.laws.specs.RefusalNumbers.{input_numbers, roomy_numbers, RoomyRefusal, list_numbers, header_numbers}
use Rattle.readers.specs.Abbreviations.{Placed, abbreviations_of}
use Rattle.readers.specs.Header.{header_of}
use Rattle.readers.specs.Stream.{Item, entry, terminator}
use Rattle.readers.specs.declared.header.UnitHeader.{UnitHeader}
use Rattle.readers.specs.Nesting.{opened, closed}
use Rattle.laws.proofs.Refusals.ReaderRefusals.{is_one_of, are_of, one_of, wider, are_apart, apart, header-refusal, list-refusal}
use Rattle.marking.specs.Analysis.{Sections, Rooms, EntryRow, Analysed, analysed, refused as not_analysed, on_declared, unit_analysed, header_analysed, analysis_of, header_by}
use Rattle.marking.specs.Columns.{names_in}
use Rattle.marking.specs.Marks.{is_kept, kept_count}
use Rattle.marking.specs.Resolution.{marks_in}
use Rattle.laws.specs.TableRoom.{TablesWithin, tables_for, TableLaw, enough_tables}
use Rattle.laws.proofs.Room.TableRoom.{table-law, first-most, tables-lent, enough-tables}
use Rattle.rewriting.specs.Places.{NestedItem, kept_from, innermost, with_if, offset_of, Place, places_from, size_from}
use Rattle.rewriting.specs.Indices.{insert, insert_all, read_indices, count_of}
use Rattle.rewriting.specs.Rewriting.{Unit as Unit', items_in, reads_at, Lists, no_lists, indices_from, any_declares, list_of, lists_of, refusal_from, unit_bytes, Room, Rewrite, Collected, untouched, rewritten, refused, lists_fit, or_refused, rewrite_of, marks_collected, rows_collected, analysed_collected, declared_collected, header_collected, collect_of, unit_of}
use Rattle.laws.specs.RoomLaws.{ListsWithin, Within, ListShort, room_for, need_of, IsAccepted, RoomLaw, Needs, TooShort, index_count, unit_room, declared_room, header_room, enough_room}
use Rattle.laws.proofs.Again.Maps.{places-length}
use Rattle.laws.proofs.Again.Sizes.{sizes-divided}
use Rattle.laws.specs.LeftOut.{survivors_in}
use Rattle.laws.proofs.Again.Accepted.{WasRewritten, WasUntouched, was-untouched, was-empty}
use Rattle.marking.proofs.UnitMarkings.{marks-each}
use Rattle.laws.proofs.Again.CollectLaws.{it, again-law}
use Rattle.laws.proofs.Refusals.CollectRefusals.{values-late, late-value}
use Rattle.marking.proofs.ListedHeaders.{by-list, analysed-listed}

-- ---- tests

not-both : (b : Bool) → T b → T (not b) → ⊥
not-both true t f = f
not-both false t f = t

all_three : (a b c : Bool) → T a → T b → T c → T (a and b and c)
unfolding ◌and◌
all_three true true true p q r = tt
all_three true true false p q r = r
all_three true false c p q r = q
all_three false b c p q r = p

of_three : (a b c : Bool) → T (a and b and c) → T a × T b × T c
unfolding ◌and◌
of_three true true true t = (tt, tt, tt)
of_three true true false t = absurd t
of_three true false c t = absurd t
of_three false b c t = absurd t

one-not : (a b c : Bool) → T (not a) ⊎ T (not b) ⊎ T (not c) → T (not (a and b and c))
unfolding ◌and◌
one-not false b c h = tt
one-not true false c h = tt
one-not true true false h = tt
one-not true true true (inl f) = f
one-not true true true (inr (inl f)) = f
one-not true true true (inr (inr f)) = f

-- ---- lists

module _ (lent : Room) (l : Lists) (entries references places bytes : ℕ) where
  abbrev need : Room
  need = room_for entries references l places bytes

  lists-fit : ListsWithin need lent → T (lists_fit lent l)
  unfolding lists_fit
  lists-fit w = all_three _ _ _ (yes_leb w.ranges) (yes_leb w.locations) (yes_leb w.strings)

  lists-lent : T (lists_fit lent l) → ListsWithin need lent
  unfolding lists_fit
  lists-lent t =
      let s = of_three (leb (count_of l.ranges) lent.ranges) (leb (count_of l.locations) lent.locations) (leb (count_of l.strings) lent.strings) t in
      record { ranges = leb_yes s.0; locations = leb_yes s.1; strings = leb_yes s.2 }

  lists-short : ListShort need lent → T (not (lists_fit lent l))
  unfolding lists_fit
  lists-short h =
      one-not (leb (count_of l.ranges) lent.ranges) (leb (count_of l.locations) lent.locations) (leb (count_of l.strings) lent.strings)
      (⊎_elim (λ s. inl (no_leb s)) (λ o. ⊎_elim (λ s. inr (inl (no_leb s))) (λ s. inr (inr (no_leb s))) o) h)

-- ---- a unit with entries, by the room

rows-marked : (x : Sections) (lent : Room) (type_units : Bool) (u : Unit') (rows : List EntryRow) → 0 < length rows
    → rows_collected x lent type_units u rows ≡ marks_collected x lent type_units u (marks_in rows) (survivors_in x u rows)
unfolding rows_collected
rows-marked x lent type_units u [] h = absurd (omega arith)
rows-marked x lent type_units u (r ∷ rows) h = refl

module _ (x : Sections) (type_units : Bool) (section : List ℕ) (h : UnitHeader) (ds : List Placed) (header : header_of x.setting.big_endian section ≡ Ok (Some h))
    (declared : abbreviations_of x.abbreviations h.abbreviations ≡ Some ds) (rows : List EntryRow) (some-row : 0 < length rows) (tables : TableLaw x section rows) where
  abbrev unit : Unit'
  unit = unit_of h section ds

  abbrev marks : List ℕ
  marks = marks_in rows

  abbrev kept : List NestedItem
  kept = survivors_in x unit rows

  abbrev lists : Lists
  lists = lists_of x unit type_units kept

  abbrev places : List Place
  places = places_from h.first.0 kept

  abbrev size : ℕ
  size = h.first.0 + size_from kept

  abbrev refusal : ℕ
  refusal = refusal_from x unit lists places kept

  abbrev thinned : Rewrite
  thinned = record { entries = length marks; kept = kept_count marks; lists = lists; map = places; output = unit_bytes x unit lists places kept }

  -- what is answered where there is room
  abbrev finished : Collected
  finished = pick (eqb refusal 0) (rewritten thinned) (refused refusal)

  abbrev needed : ℕ → ℕ → Room
  needed p b = room_for (length rows) (length (names_in rows)) lists p b

  -- its tables say that its entries are analysed, so the keep list is taken
  listed : header_by x section ≡ header_of x.setting.big_endian section
  listed = analysed-listed x section (tables_for rows) rows (tables.enough (tables_for rows) (record { entries = omega arith; references = omega arith }))

  by-analysis : (lent : Room) → collect_of x lent type_units section ≡ analysed_collected x lent type_units unit (analysis_of x section lent.tables)
  unfolding collect_of header_collected declared_collected
  by-analysis lent = ap (header_collected x lent type_units section) (listed ∙ header) ∙ ap (declared_collected x lent type_units section h) declared

  by-refusal : (lent : Room) (n : ℕ) → analysis_of x section lent.tables ≡ not_analysed n → collect_of x lent type_units section ≡ refused n
  unfolding analysed_collected
  by-refusal lent n q = by-analysis lent ∙ ap (analysed_collected x lent type_units unit) q

  by-marks : (lent : Room) → TablesWithin (tables_for rows) lent.tables → collect_of x lent type_units section ≡ marks_collected x lent type_units unit marks kept
  unfolding analysed_collected
  by-marks lent t =
      by-analysis lent ∙ ap (analysed_collected x lent type_units unit) (tables.enough lent.tables t) ∙ rows-marked x lent type_units unit rows some-row

  by-short : (lent : Room) → TablesWithin (tables_for rows) lent.tables → T (not (lists_fit lent lists)) → collect_of x lent type_units section ≡ refused 12
  unfolding marks_collected
  by-short lent t f = by-marks lent t ∙ pick_no _ _ _ f

  -- nothing is dead
  module _ (whole : kept_count marks ≡ length marks) where
    by_whole : (lent : Room) → TablesWithin (tables_for rows) lent.tables → T (lists_fit lent lists) → collect_of x lent type_units section ≡ untouched (length marks) lists
    unfolding marks_collected
    by_whole lent t l = by-marks lent t ∙ pick_yes _ _ _ l ∙ pick_yes _ _ _ (yes_eqb whole)

    whole-law : RoomLaw x type_units section (untouched (length marks) lists) rows (needed 0 0)
    whole-law =
        record {
          enough = λ lent w. by_whole lent w.tables (lists-fit lent lists _ _ _ _ w.lists);
          full_entries = λ lent e r. by-refusal lent 10 (tables.full_entries lent.tables e r);
          full_references = λ lent r. by-refusal lent 11 (tables.full_references lent.tables r);
          short_list = λ lent t s. by-short lent t (lists-short lent lists 0 0 0 0 s);
          short_map = λ lent t l p. absurd (omega arith);
          short_output = λ lent t l p b. absurd (omega arith);
        }

  -- something is
  module _ (dead : kept_count marks < length marks) where
    by-dead : (lent : Room) → TablesWithin (tables_for rows) lent.tables → T (lists_fit lent lists)
        → collect_of x lent type_units section ≡ pick (leb (length kept) lent.places) (pick (leb size lent.bytes) finished (refused 14)) (refused 13)
    unfolding marks_collected rewrite_of or_refused
    by-dead lent t l =
        by-marks lent t ∙ pick_yes _ _ _ l
        ∙ pick_no _ _ _ (no_eqb (λ e. let z : kept_count marks ≡ length marks = e in absurd (omega arith)))

    dead-law : (c : Collected) → finished ≡ c → RoomLaw x type_units section c rows (needed (length kept) size)
    dead-law c q =
        record {
          enough = λ lent w.
              by-dead lent w.tables (lists-fit lent lists _ _ _ _ w.lists) ∙ pick_yes _ _ _ (yes_leb w.places) ∙ pick_yes _ _ _ (yes_leb w.bytes) ∙ q;
          full_entries = λ lent e r. by-refusal lent 10 (tables.full_entries lent.tables e r);
          full_references = λ lent r. by-refusal lent 11 (tables.full_references lent.tables r);
          short_list = λ lent t s. by-short lent t (lists-short lent lists 0 0 0 0 s);
          short_map = λ lent t l p. by-dead lent t (lists-fit lent lists _ _ _ _ l) ∙ pick_no _ _ _ (no_leb p);
          short_output = λ lent t l p b. by-dead lent t (lists-fit lent lists _ _ _ _ l) ∙ pick_yes _ _ _ (yes_leb p) ∙ pick_no _ _ _ (no_leb b);
        }

  -- ---- what was lent where it was accepted

  unfoldable Lent : Room → Collected → Type 0
  Lent lent (untouched n l) = T (lists_fit lent lists)
  Lent lent (rewritten w) = T (lists_fit lent lists) × (length kept ≤ lent.places) × (size ≤ lent.bytes) × (finished ≡ rewritten w)
  Lent lent (refused n) = Unit {0}

  finished-lent : (lent : Room) → T (lists_fit lent lists) → length kept ≤ lent.places → size ≤ lent.bytes → Lent lent finished
  unfolding Lent
  finished-lent lent l p b = pick-either (Lent lent) (eqb refusal 0) (rewritten thinned) (refused refusal) (λ t. (l, p, b, pick_yes _ _ _ t)) (λ _. tt)

  marks-lent : (lent : Room) → Lent lent (marks_collected x lent type_units unit marks kept)
  unfolding marks_collected rewrite_of or_refused Lent
  marks-lent lent =
      pick-either (Lent lent) (lists_fit lent lists) _ (refused 12)
      (λ l. pick-either (Lent lent) (eqb (kept_count marks) (length marks)) (untouched (length marks) lists) _ (λ _. l)
      (λ _. pick-either (Lent lent) (leb (length kept) lent.places) _ (refused 13)
      (λ p. pick-either (Lent lent) (leb size lent.bytes) finished (refused 14) (λ b. finished-lent lent l (leb_yes p) (leb_yes b)) (λ _. tt))
      (λ _. tt)))
      (λ _. tt)

  collected-lent : (lent : Room) (c : Collected) → TablesWithin (tables_for rows) lent.tables → collect_of x lent type_units section ≡ c → Lent lent c
  collected-lent lent c t q = subst (Lent lent) (sym (by-marks lent t) ∙ q) (marks-lent lent)

-- ---- a unit without entries

module _ (x : Sections) (type_units : Bool) (section : List ℕ) (lent : Room) where
  declared-empty : (h : UnitHeader) (o : Option (List Placed)) → abbreviations_of x.abbreviations h.abbreviations ≡ o → header_by x section ≡ Ok (Some h)
      → analysis_of x section lent.tables ≡ analysed [] → declared_collected x lent type_units section h o ≡ untouched 0 no_lists
  unfolding declared_collected analysed_collected rows_collected analysis_of header_analysed unit_analysed on_declared
  declared-empty h None d q a =
      let r : on_declared (abbreviations_of x.abbreviations h.abbreviations) _ ≡ analysed [] = sym (ap (header_analysed x section lent.tables) q) ∙ a in
      let z : ◌≡◌ {A = ℕ} 0 1 = cc in absurd (omega arith)
  declared-empty h (Some ds) d q a = ap (analysed_collected x lent type_units (unit_of h section ds)) a

  header-empty : (o : Result (Option UnitHeader) ℕ) → header_by x section ≡ o → analysis_of x section lent.tables ≡ analysed [] → header_collected x lent type_units section o ≡ untouched 0 no_lists
  unfolding header_collected analysis_of header_analysed
  header-empty (Ok None) q a = refl
  header-empty (Err n) q a =
      let r : not_analysed n ≡ analysed [] = sym (ap (header_analysed x section lent.tables) q) ∙ a in
      let z : ◌≡◌ {A = ℕ} 0 1 = cc in absurd (omega arith)
  header-empty (Ok (Some h)) q a = declared-empty h (abbreviations_of x.abbreviations h.abbreviations) refl q a

  collected-empty : analysis_of x section lent.tables ≡ analysed [] → collect_of x lent type_units section ≡ untouched 0 no_lists
  unfolding collect_of
  collected-empty a = header-empty (header_by x section) refl a

no_names : (n m : ℕ) → m < length (names_in (take n [])) → ⊥
unfolding names_in
no_names zero m h = absurd (omega arith)
no_names (suc n) m h = absurd (omega arith)

empty-law : (x : Sections) (type_units : Bool) (section : List ℕ) → TableLaw x section []
    → RoomLaw x type_units section (untouched 0 no_lists) [] (need_of 0 (untouched 0 no_lists))
unfolding need_of count_of names_in
empty-law x type_units section t =
    record {
      enough = λ lent w. collected-empty x type_units section lent (t.enough lent.tables w.tables);
      full_entries = λ lent e r. absurd (omega arith);
      full_references = λ lent r. absurd (no_names lent.tables.entries lent.tables.references r);
      short_list = λ lent w s. absurd (⊎_elim (λ z. omega arith) (λ o. ⊎_elim (λ z. omega arith) (λ z. omega arith) o) s);
      short_map = λ lent w l p. absurd (omega arith);
      short_output = λ lent w l p b. absurd (omega arith);
    }

-- ---- an accepted answer

room-same : (e e' references : ℕ) (l l' : Lists) (p p' b b' : ℕ) → e ≡ e' → l ≡ l' → p ≡ p' → b ≡ b' → room_for e references l p b ≡ room_for e' references l' p' b'
room-same e e' references l l' p p' b b' q r s t =
    ap (λ (n : ℕ). room_for n references l p b) q
    ∙ ap (λ (m : Lists). room_for e' references m p b) r
    ∙ ap (λ (n : ℕ). room_for e' references l' n b) s
    ∙ ap (λ (n : ℕ). room_for e' references l' p' n) t

module _ (x : Sections) (room : Room) (type_units : Bool) (section : List ℕ) where
  -- rewritten
  module _ (w : Rewrite) (answer : collect_of x room type_units section ≡ rewritten w) where
    abbrev was : WasRewritten x room type_units section w
    was = it x room type_units section w answer

    some-row-in : 0 < length was.rows
    some-row-in = omega (arith, was.dead, marks-each was.rows)

    its-tables : TableLaw x section was.rows
    its-tables = table-law x room.tables section was.rows was.accepted.analysis

    its-lent : TablesWithin (tables_for was.rows) room.tables
    its-lent = tables-lent x room.tables section was.rows was.accepted.analysis

    abbrev its_kept : List NestedItem
    its_kept = survivors_in x (unit_of was.header section was.declared) was.rows

    abbrev its_need : Room
    its_need =
        room_for (length was.rows) (length (names_in was.rows)) (lists_of x (unit_of was.header section was.declared) type_units its_kept)
        (length its_kept) (was.header.first.0 + size_from its_kept)

    output-size : length w.output ≡ was.header.first.0 + size_from its_kept
    output-size = (again-law x room type_units section w answer).size

    need-is : its_need ≡ need_of (length (names_in was.rows)) (rewritten w)
    unfolding need_of
    need-is =
        sym (room-same _ _ _ _ _ _ _ _ _ (was.entries-is ∙ marks-each was.rows) was.lists-is
        (ap length was.map_is ∙ places-length was.header.first.0 its_kept) output-size)

    lent-parts : Lent x type_units section was.header was.declared was.accepted.header was.accepted.declared was.rows some-row-in its-tables room (rewritten w)
    lent-parts =
        collected-lent x type_units section was.header was.declared was.accepted.header was.accepted.declared was.rows some-row-in its-tables room (rewritten w) its-lent answer

    needs-rewritten : Needs x room type_units section (rewritten w)
    unfolding Lent need_of
    needs-rewritten =
        let p = lent-parts in
        record {
          rows = was.rows;
          rows_are = was.accepted.analysis;
          counted = was.entries-is ∙ marks-each was.rows;
          lent =
              subst (λ (n : Room). Within n room) need-is
              (record { tables = its-lent; lists = lists-lent room _ _ _ _ _ p.0; places = p.1; bytes = p.2 });
          law =
              subst (RoomLaw x type_units section (rewritten w) was.rows) need-is
              (dead-law x type_units section was.header was.declared was.accepted.header was.accepted.declared was.rows some-row-in its-tables
              was.dead (rewritten w) p.3);
        }

  -- untouched, with entries
  module _ (n : ℕ) (l : Lists) (answer : collect_of x room type_units section ≡ untouched n l) (u : WasUntouched x room type_units section n l) (h : 0 < n) where
    abbrev whole_unit : Unit'
    whole_unit = unit_of u.header section u.declared

    abbrev whole_lists : Lists
    whole_lists = lists_of x whole_unit type_units (survivors_in x whole_unit u.rows)

    whole_row : 0 < length u.rows
    whole_row = omega (arith, u.entries-is, marks-each u.rows)

    whole-tables : TableLaw x section u.rows
    whole-tables = table-law x room.tables section u.rows u.accepted.analysis

    whole-lent : TablesWithin (tables_for u.rows) room.tables
    whole-lent = tables-lent x room.tables section u.rows u.accepted.analysis

    whole-answer : untouched (length (marks_in u.rows)) whole_lists ≡ untouched n l
    whole-answer = ap (λ (k : ℕ). untouched k whole_lists) (sym u.entries-is) ∙ ap (untouched n) (sym u.lists-is)

    whole-need : room_for (length u.rows) (length (names_in u.rows)) whole_lists 0 0 ≡ need_of (length (names_in u.rows)) (untouched n l)
    unfolding need_of
    whole-need =
        sym (room-same n (length u.rows) (length (names_in u.rows)) l whole_lists 0 0 0 0 (u.entries-is ∙ marks-each u.rows) u.lists-is refl refl)

    whole-fit : T (lists_fit room whole_lists)
    unfolding Lent
    whole-fit =
        collected-lent x type_units section u.header u.declared u.accepted.header u.accepted.declared u.rows whole_row whole-tables
        room (untouched n l) whole-lent answer

    needs-whole : Needs x room type_units section (untouched n l)
    unfolding need_of
    needs-whole =
        record {
          rows = u.rows;
          rows_are = u.accepted.analysis;
          counted = u.entries-is ∙ marks-each u.rows;
          lent =
              subst (λ (m : Room). Within m room) whole-need
              (record { tables = whole-lent; lists = lists-lent room whole_lists _ _ _ _ whole-fit; places = omega arith; bytes = omega arith });
          law =
              subst (RoomLaw x type_units section (untouched n l) u.rows) whole-need
              (subst (λ (c : Collected). RoomLaw x type_units section c u.rows (room_for (length u.rows) (length (names_in u.rows)) whole_lists 0 0)) whole-answer
              (whole-law x type_units section u.header u.declared u.accepted.header u.accepted.declared u.rows whole_row whole-tables u.none-dead));
        }

  -- untouched, without
  lists-of : Collected → Lists
  lists-of (untouched n l) = l
  lists-of (rewritten w) = w.lists
  lists-of (refused n) = no_lists

  needs-empty : (l : Lists) → collect_of x room type_units section ≡ untouched 0 l → Needs x room type_units section (untouched 0 l)
  unfolding lists-of need_of count_of names_in
  needs-empty l answer =
      let a : analysis_of x section room.tables ≡ analysed [] = (was-empty x room type_units section l answer).0 in
      let e : no_lists ≡ l = ap lists-of (sym (collected-empty x type_units section room a) ∙ answer) in
      subst (λ (m : Lists). Needs x room type_units section (untouched 0 m)) e
      (record {
        rows = [];
        rows_are = a;
        counted = refl;
        lent = record {
          tables = record { entries = omega arith; references = omega arith };
          lists = record { ranges = omega arith; locations = omega arith; strings = omega arith };
          places = omega arith;
          bytes = omega arith;
        };
        law = empty-law x type_units section (table-law x room.tables section [] a);
      })

  -- THE law: an accepted answer was lent what it needs; with that it is the same, and with less the number of what is too short
  pub needs-law : (c : Collected) → collect_of x room type_units section ≡ c → IsAccepted c → Needs x room type_units section c
  unfolding IsAccepted
  needs-law (untouched zero l) q a = needs-empty l q
  needs-law (untouched (suc n) l) q a = needs-whole (suc n) l q (was-untouched x room type_units section (suc n) l q (omega arith)) (omega arith)
  needs-law (rewritten w) q a = needs-rewritten w q
  needs-law (refused n) q a = absurd a

-- too few entries alone are 10, too few references alone 11
module _ (x : Sections) (type_units : Bool) (section : List ℕ) (c : Collected) (rows : List EntryRow) (need lent : Room) (law : RoomLaw x type_units section c rows need) where
  pub few-entries : lent.tables.entries < need.tables.entries → length (names_in rows) ≤ lent.tables.references → collect_of x lent type_units section ≡ refused 10
  few-entries h k = law.full_entries lent h (omega (arith, first-most lent.tables.entries rows))

  pub few-references : length rows ≤ lent.tables.entries → lent.tables.references < length (names_in rows) → collect_of x lent type_units section ≡ refused 11
  few-references h k =
      law.full_references lent (subst (λ (l : List EntryRow). lent.tables.references < length (names_in l)) (sym (take_all lent.tables.entries rows h)) k)

-- ---- a larger room

pub within_more : (a b c : Room) → Within a b → Within b c → Within a c
within_more a b c p q =
    record {
      tables = record { entries = omega (arith, p.tables.entries, q.tables.entries); references = omega (arith, p.tables.references, q.tables.references) };
      lists = record {
        ranges = omega (arith, p.lists.ranges, q.lists.ranges);
        locations = omega (arith, p.lists.locations, q.lists.locations);
        strings = omega (arith, p.lists.strings, q.lists.strings);
      };
      places = omega (arith, p.places, q.places);
      bytes = omega (arith, p.bytes, q.bytes);
    }

-- "a larger room never changes an accepted answer"
pub larger-law : (x : Sections) (room : Room) (type_units : Bool) (section : List ℕ) (c : Collected) → collect_of x room type_units section ≡ c → IsAccepted c
    → (lent : Room) → Within room lent → collect_of x lent type_units section ≡ c
larger-law x room type_units section c q a lent w =
    let n : Needs x room type_units section c = needs-law x room type_units section c q a in
    n.law.enough lent (within_more _ room lent n.lent w)

-- ---- room enough: what is kept is at most what there is

with-length : (b : Bool) (s : NestedItem) (xs : List NestedItem) (n : ℕ) → length xs ≤ n → length (with_if b s xs) ≤ suc n
unfolding with_if
with-length true s xs n h = omega arith
with-length false s xs n h = omega arith

kept-length : (marks : List ℕ) (k : ℕ) (stack : List Bool) (items : List Item) → length (kept_from marks k stack items) ≤ length items
unfolding kept_from
kept-length marks k stack [] = omega arith
kept-length marks k stack (entry y ∷ rest) = with-length (is_kept marks k) _ _ (length rest) (kept-length marks (suc k) (opened y.declaration.children (is_kept marks k) stack) rest)
kept-length marks k stack (terminator a b ∷ rest) = with-length (innermost stack) _ _ (length rest) (kept-length marks k (closed stack) rest)

module _ (x : Sections) (u : Unit') (j : ℕ) where
  with-indices : (b : Bool) (s : NestedItem) (xs : List NestedItem) (n : ℕ) → length (indices_from x u j xs) ≤ n
      → length (indices_from x u j (with_if b s xs)) ≤ length (read_indices j (reads_at x u (offset_of s.item))) + n
  unfolding with_if indices_from
  with-indices true s xs n h = omega (arith, length-append (read_indices j (reads_at x u (offset_of s.item))) (indices_from x u j xs))
  with-indices false s xs n h = omega arith

  kept-indices : (marks : List ℕ) (k : ℕ) (stack : List Bool) (items : List Item) → length (indices_from x u j (kept_from marks k stack items)) ≤ index_count x u j items
  unfolding kept_from index_count indices_from
  kept-indices marks k stack [] = omega arith
  kept-indices marks k stack (entry y ∷ rest) =
      with-indices (is_kept marks k) (record { item = entry y; depth = length stack }) _ _
      (kept-indices marks (suc k) (opened y.declaration.children (is_kept marks k) stack) rest)
  kept-indices marks k stack (terminator a b ∷ rest) =
      with-indices (innermost stack) (record { item = terminator a b; depth = length stack }) _ _ (kept-indices marks k (closed stack) rest)

insert-length : (v : ℕ) (xs : List ℕ) → length (insert v xs) ≤ suc (length xs)
unfolding insert
insert-length v [] = omega arith
insert-length v (y ∷ xs) =
    pick-either (λ (l : List ℕ). length l ≤ suc (suc (length xs))) (ltb v y) (v ∷ y ∷ xs) _ (λ _. omega arith)
    (λ _. pick-either (λ (l : List ℕ). length l ≤ suc (suc (length xs))) (eqb v y) (y ∷ xs) (y ∷ insert v xs) (λ _. omega arith)
    (λ _. let h : length (insert v xs) ≤ suc (length xs) = insert-length v xs in omega arith))

insert-all-length : (vs xs : List ℕ) → length (insert_all vs xs) ≤ length vs + length xs
unfolding insert_all
insert-all-length [] xs = omega arith
insert-all-length (v ∷ vs) xs = omega (arith, insert-length v xs, insert-all-length vs (insert v xs))

list_count_lem : (x : Sections) (u : Unit') (absent : Bool) (k : ℕ) (kept : List NestedItem) → count_of (list_of x u absent k kept) ≤ length (indices_from x u k kept)
unfolding list_of count_of
list_count_lem x u absent k kept =
    pick-either (λ (o : Option (List ℕ)). count_of o ≤ length (indices_from x u k kept)) absent None (Some (insert_all (indices_from x u k kept) [])) (λ _. omega arith)
    (λ _. omega (arith, insert-all-length (indices_from x u k kept) []))

-- ---- with it, neither 10 to 14

unfoldable Roomy : Collected → Type 0
Roomy (untouched n l) = Unit {0}
Roomy (rewritten w) = Unit {0}
Roomy (refused n) = RoomyRefusal n

module _ (x : Sections) (lent : Room) (type_units : Bool) (section : List ℕ) where
  module _ (u : Unit') (tables : Rooms) (w : Within (unit_room x u tables) lent) (marks : List ℕ) where
    abbrev all : List Item
    all = items_in x u

    abbrev some-kept : List NestedItem
    some-kept = kept_from marks 0 [] all

    lists-room : ListsWithin (room_for 0 0 (lists_of x u type_units some-kept) 0 0) lent
    unfolding unit_room lists_of
    lists-room =
        record {
          ranges = omega (arith, list_count_lem x u (type_units or any_declares x u 0x55 all) 0 some-kept, kept-indices x u 0 marks 0 [] all, w.lists.ranges);
          locations = omega (arith, list_count_lem x u (type_units or any_declares x u 0x02 all) 1 some-kept, kept-indices x u 1 marks 0 [] all, w.lists.locations);
          strings = omega (arith, list_count_lem x u type_units 2 some-kept, kept-indices x u 2 marks 0 [] all, w.lists.strings);
        }

    rewrite-roomy : (n k : ℕ) (l : Lists) → Roomy (rewrite_of x lent u n k l some-kept)
    unfolding rewrite_of or_refused unit_room Roomy are_of is_one_of ◌or◌ ◌and◌
    rewrite-roomy n k l =
        pick-either Roomy (leb (length some-kept) lent.places) _ (refused 13)
        (λ _. pick-either Roomy (leb (u.header.first.0 + size_from some-kept) lent.bytes) _ (refused 14)
        (λ _. pick-either Roomy (eqb (refusal_from x u l (places_from u.header.first.0 some-kept) some-kept) 0) _ _ (λ _. tt)
        (λ t. wider (8 ∷ 9 ∷ []) roomy_numbers _ tt (late-value _ (values-late x u l (places_from u.header.first.0 some-kept) some-kept) t)))
        (λ f. absurd (omega (arith, leb_no {a = u.header.first.0 + size_from some-kept} {b = lent.bytes} f, w.bytes, sizes-divided marks 0 [] all))))
        (λ f. absurd (omega (arith, leb_no {a = length some-kept} {b = lent.places} f, w.places, kept-length marks 0 [] all)))

    marks-roomy : Roomy (marks_collected x lent type_units u marks some-kept)
    unfolding marks_collected Roomy
    marks-roomy =
        pick-either Roomy (lists_fit lent (lists_of x u type_units some-kept)) _ (refused 12)
        (λ _. pick-either Roomy (eqb (kept_count marks) (length marks)) (untouched (length marks) (lists_of x u type_units some-kept)) _ (λ _. tt) (λ _. rewrite-roomy _ _ _))
        (λ f. absurd (not-both (lists_fit lent (lists_of x u type_units some-kept)) (lists-fit lent (lists_of x u type_units some-kept) 0 0 0 0 lists-room) f))

  rows-roomy : (u : Unit') (tables : Rooms) → Within (unit_room x u tables) lent → (rows : List EntryRow) → Roomy (rows_collected x lent type_units u rows)
  unfolding rows_collected Roomy
  rows-roomy u tables w [] = tt
  rows-roomy u tables w (r ∷ rows) = marks-roomy u tables w (marks_in (r ∷ rows))

  analysed-roomy : (u : Unit') → Within (unit_room x u (enough_tables x section)) lent → (o : Analysed) → analysis_of x section lent.tables ≡ o → Roomy (analysed_collected x lent type_units u o)
  unfolding analysed_collected Roomy unit_room are_of is_one_of ◌or◌ ◌and◌
  analysed-roomy u w (analysed rows) a = rows-roomy u (enough_tables x section) w rows
  analysed-roomy u w (not_analysed n) a = wider input_numbers roomy_numbers n tt (enough-tables x section lent.tables w.tables n a)

  declared-roomy : (h : UnitHeader) (o : Option (List Placed)) → Within (declared_room x section h o) lent → Roomy (declared_collected x lent type_units section h o)
  unfolding declared_collected declared_room Roomy is_one_of ◌or◌
  declared-roomy h None w = one_of roomy_numbers 3 tt
  declared-roomy h (Some ds) w = analysed-roomy (unit_of h section ds) w (analysis_of x section lent.tables) refl

  header-roomy : (o : Result (Option UnitHeader) ℕ) → header_of x.setting.big_endian section ≡ o → Within (header_room x section o) lent → Roomy (header_collected x lent type_units section o)
  unfolding header_collected header_room Roomy are_of is_one_of ◌or◌ ◌and◌
  header-roomy (Ok None) q w = tt
  header-roomy (Err n) q w = wider header_numbers roomy_numbers n tt (header-refusal x.setting.big_endian section n q)
  header-roomy (Ok (Some h)) q w = declared-roomy h (abbreviations_of x.abbreviations h.abbreviations) w

  list-roomy : Within (enough_room x section) lent → Roomy (header_collected x lent type_units section (header_by x section))
  unfolding header_collected enough_room Roomy are_of is_one_of ◌or◌ ◌and◌
  list-roomy w =
      by-list x section (λ (o : Result (Option UnitHeader) ℕ). Roomy (header_collected x lent type_units section o))
      (λ _. header-roomy (header_of x.setting.big_endian section) refl w) (λ n. wider list_numbers roomy_numbers _ tt (list-refusal x.keep n))

  -- "with enough room 10 to 14 never come"
  pub enough-law : Within (enough_room x section) lent → (n : ℕ) → collect_of x lent type_units section ≡ refused n → RoomyRefusal n
  unfolding collect_of Roomy
  enough-law w n q = subst Roomy q (list-roomy w)

-- ---- every room: an accepted answer stays, or something is too short

module _ (x : Sections) (type_units : Bool) (section : List ℕ) (c : Collected) (rows : List EntryRow) (need lent : Room) (law : RoomLaw x type_units section c rows need)
    (entries_are : need.tables.entries ≡ length rows) (references-are : need.tables.references ≡ length (names_in rows)) where
  abbrev Either : Type 0
  Either = (collect_of x lent type_units section ≡ c) ⊎ TooShort x lent type_units section

  short-by : (n : ℕ) → T (is_one_of (10 ∷ 11 ∷ 12 ∷ 13 ∷ 14 ∷ []) n) → collect_of x lent type_units section ≡ refused n → Either
  short-by n t q = inr (record { number = n; one = one_of (10 ∷ 11 ∷ 12 ∷ 13 ∷ 14 ∷ []) n t; answer = q })

  by_bytes : TablesWithin need.tables lent.tables → ListsWithin need lent → need.places ≤ lent.places → Either
  unfolding is_one_of ◌or◌
  by_bytes t l p =
      ⊎_elim (λ b. inl (law.enough lent (record { tables = t; lists = l; places = p; bytes = leb_yes b })))
      (λ b. short-by 14 tt (law.short_output lent t l p (leb_no b))) (either (leb need.bytes lent.bytes))

  by-places : TablesWithin need.tables lent.tables → ListsWithin need lent → Either
  unfolding is_one_of ◌or◌
  by-places t l =
      ⊎_elim (λ p. by_bytes t l (leb_yes p)) (λ p. short-by 13 tt (law.short_map lent t l (leb_no p))) (either (leb need.places lent.places))

  by-lists : TablesWithin need.tables lent.tables → Either
  unfolding is_one_of ◌or◌
  by-lists t =
      ⊎_elim
      (λ a. ⊎_elim
      (λ b. ⊎_elim (λ s. by-places t (record { ranges = leb_yes a; locations = leb_yes b; strings = leb_yes s }))
      (λ s. short-by 12 tt (law.short_list lent t (inr (inr (leb_no s))))) (either (leb need.strings lent.strings)))
      (λ b. short-by 12 tt (law.short_list lent t (inr (inl (leb_no b))))) (either (leb need.locations lent.locations)))
      (λ a. short-by 12 tt (law.short_list lent t (inl (leb_no a)))) (either (leb need.ranges lent.ranges))

  by-tables : Either
  unfolding is_one_of ◌or◌
  by-tables =
      ⊎_elim
      (λ r. ⊎_elim
      (λ e. by-lists (record {
        entries = omega (arith, leb_yes {a = length rows} {b = lent.tables.entries} e);
        references =
            omega (
              arith,
              leb_yes {a = length (names_in (take lent.tables.entries rows))} {b = lent.tables.references} r,
              ap (λ (l : List EntryRow). length (names_in l)) (take_all lent.tables.entries rows (leb_yes e)),
            );
      }))
      (λ e. short-by 10 tt (law.full_entries lent (omega (arith, leb_no {a = length rows} {b = lent.tables.entries} e)) (leb_yes r)))
      (either (leb (length rows) lent.tables.entries)))
      (λ r. short-by 11 tt (law.full_references lent (leb_no r)))
      (either (leb (length (names_in (take lent.tables.entries rows))) lent.tables.references))

references-needed : (n : ℕ) (c : Collected) → IsAccepted c → (need_of n c).tables.references ≡ n
unfolding need_of IsAccepted
references-needed n (untouched k l) a = refl
references-needed n (rewritten w) a = refl
references-needed n (refused k) a = absurd a

module _ (x : Sections) (room : Room) (type_units : Bool) (section : List ℕ) (c : Collected) (answer : collect_of x room type_units section ≡ c) (accepted : IsAccepted c) where
  -- what is accepted with some room is accepted with any other, and the same, or that is too short
  pub every-room-law : (lent : Room) → (collect_of x lent type_units section ≡ c) ⊎ TooShort x lent type_units section
  every-room-law lent =
      let n : Needs x room type_units section c = needs-law x room type_units section c answer accepted in
      by-tables x type_units section c n.rows (need_of (length (names_in n.rows)) c) lent n.law n.counted
      (references-needed (length (names_in n.rows)) c accepted)

  -- it is accepted, and the same, with room that is enough for the input
  pub enough-same : (lent : Room) → Within (enough_room x section) lent → collect_of x lent type_units section ≡ c
  unfolding is_one_of are_apart ◌or◌ ◌and◌
  enough-same lent w =
      ⊎_elim (λ q. q)
      (λ s. absurd (apart roomy_numbers (10 ∷ 11 ∷ 12 ∷ 13 ∷ 14 ∷ []) s.number tt (enough-law x lent type_units section w s.number s.answer) s.one))
      (every-room-law lent)
