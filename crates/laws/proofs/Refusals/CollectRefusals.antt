-- "A refusal carries a number of document 01": where each refusal of collect comes from, and with which number; a padded number is
-- refused with 15. Assumes nothing.
use mathlib.Core.Path.{◌≡◌, refl, sym, ap, ◌∙◌, subst}
use Prim.Native.Nat.{ℕ, ◌+◌, ◌≤◌, ◌<◌}
use native.Mathlib.Omega.{arith}
use mathlib.Core.Bool.{Bool, true, false, not, false≢true}
use mathlib.Core.List.{List, [], ◌∷◌}
use mathlib.Core.Logic.{◌⊎◌, inl, inr, ⊎_elim}
use Rattle.std.specs.Prelude.{Err, None, Ok, Option, Result, Some}
use lib.ListN.{length, take}
use lib.Dec.{T, leb, eqb}
use mir.Facts.{eqb_no, leb_yes, leb_no, no_eqb, yes_leb, no_leb}
use Rattle.readers.specs.Choice.{◌and◌, ◌or◌}
use Rattle.readers.proofs.Choice.{pick-either, pick_no, pick_yes}
use Rattle.laws.specs.RefusalNumbers.{OneOf, entries_numbers, CollectRefusal, PaddedRefusal, list_numbers, header_numbers, ListRefusal, read_numbers}
use Rattle.readers.specs.Abbreviations.{Placed, abbreviations_of}
use Rattle.readers.specs.Header.{header_of}
use Rattle.readers.specs.Layout.{Piece, verbatim, patchable, Read}
use Rattle.readers.specs.declared.header.UnitHeader.{UnitHeader}
use Rattle.laws.proofs.Refusals.ReaderRefusals.{is_one_of, are_of, one_of, wider, are_apart, apart, header-refusal, list-refusal, not-one-of}
use Rattle.marking.specs.Analysis.{Sections, EntryRow, Analysed, analysed, refused as not_analysed, analysis_of, header_by, header_analysed, unit_analysed, on_declared}
use Rattle.marking.specs.Marks.{kept_count}
use Rattle.marking.specs.Resolution.{marks_in}
use Rattle.laws.proofs.Refusals.MarkingRefusals.{entries-refusal}
use Rattle.rewriting.specs.Places.{NestedItem, Place, places_from, size_from}
use Rattle.rewriting.specs.Rewriting.{Unit as Unit', Lists, Room, Rewrite, Collected, untouched, rewritten, refused, piece_refusal, or_next, pieces_refusal, reads_refusal, refusal_from, lists_fit, or_refused, rewrite_of, marks_collected, rows_collected, analysed_collected, declared_collected, header_collected, collect_of}
use Rattle.laws.specs.ValueRefusals.{Unplaced, TooWide}
use Rattle.rewriting.specs.Written.{groups_fit, padded_answer}
use Rattle.laws.specs.RefusalStages.{UnitRead, unit_read, kept_in, lists_in, Thinnable, RefusedNumber, RefusedAt, at_header, at_abbreviations, at_entries, at_lists, at_map, at_output, at_place, at_width, at_list}
use Rattle.laws.proofs.Again.Accepted.{kept-most}
use Rattle.laws.proofs.Refusals.ValueRefusals.{eight-means, nine-means, refused-number}
use Rattle.laws.proofs.Refusals.Accepting.{marks-on, dead-on, room-on}
use Rattle.marking.specs.KeepList.{keep_refusal}
use Rattle.marking.proofs.ListedHeaders.{by-list, header-taken}

-- ---- 8 and 9: 0 where nothing is refused

abbrev pub Late : ℕ → Type 0
Late n = OneOf (0 ∷ 8 ∷ 9 ∷ []) n

none-late : Late 0
unfolding is_one_of ◌or◌
none-late = one_of _ 0 tt

eight-late : Late 8
unfolding is_one_of ◌or◌
eight-late = one_of _ 8 tt

nine-late : Late 9
unfolding is_one_of ◌or◌
nine-late = one_of _ 9 tt

next-late : (n m : ℕ) → Late n → Late m → Late (or_next n m)
unfolding or_next
next-late n m p q = pick-either Late (eqb n 0) m n (λ _. q) (λ _. p)

module _ (lists : Lists) (map : List Place) (depth : ℕ) where
  piece-late : (p : Piece) → Late (piece_refusal lists map depth p)
  unfolding piece_refusal
  piece-late (verbatim l) = none-late
  piece-late (patchable e r v) = pick-either Late _ _ _ (λ _. pick-either Late _ _ _ (λ _. none-late) (λ _. nine-late)) (λ _. eight-late)

  pieces-late : (ps : List Piece) → Late (pieces_refusal lists map depth ps)
  unfolding pieces_refusal
  pieces-late [] = none-late
  pieces-late (p ∷ ps) = next-late _ _ (piece-late p) (pieces-late ps)

  reads-late : (rs : List Read) → Late (reads_refusal lists map depth rs)
  unfolding reads_refusal
  reads-late [] = none-late
  reads-late (r ∷ rs) = next-late _ _ (pieces-late r.pieces) (reads-late rs)

pub values-late : (x : Sections) (u : Unit') (lists : Lists) (map : List Place) (kept : List NestedItem) → Late (refusal_from x u lists map kept)
unfolding refusal_from
values-late x u lists map [] = none-late
values-late x u lists map (s ∷ kept) = next-late _ _ (reads-late lists map s.depth _) (values-late x u lists map kept)

-- a refusal of a value is 8 or 9
pub late-value : (n : ℕ) → Late n → T (not (eqb n 0)) → OneOf (8 ∷ 9 ∷ []) n
unfolding OneOf
late-value n (inl e) t = absurd (eqb_no {a = n} {b = 0} t e)
late-value n (inr o) t = o

-- ---- collect

is_true : (b : Bool) → T b → b ≡ true
is_true true t = refl
is_true false t = absurd t

is_false : (b : Bool) → T (not b) → b ≡ false
is_false true t = absurd t
is_false false t = refl

module _ (x : Sections) (room : Room) (type_units : Bool) (section : List ℕ) where
  unfoldable Staged : Collected → Type 0
  Staged (untouched n l) = Unit {0}
  Staged (rewritten w) = Unit {0}
  Staged (refused n) = RefusedAt x room type_units section n

  staged-untouched : (n : ℕ) (l : Lists) → Staged (untouched n l)
  unfolding Staged
  staged-untouched n l = tt

  staged-refused : (n : ℕ) → RefusedAt x room type_units section n → Staged (refused n)
  unfolding Staged
  staged-refused n r = r

  module _ (u : UnitRead x room section) where
    abbrev unit : Unit'
    unit = unit_read x room type_units section u

    abbrev kept : List NestedItem
    kept = kept_in x room type_units section u

    abbrev lists : Lists
    lists = lists_in x room type_units section u

    abbrev places : List Place
    places = places_from u.header.first.0 kept

    value-at : Thinnable x room type_units section u → length kept ≤ room.places → u.header.first.0 + size_from kept ≤ room.bytes → (n : ℕ)
        → refusal_from x unit lists places kept ≡ n → OneOf (8 ∷ 9 ∷ []) n → RefusedAt x room type_units section n
    unfolding OneOf
    value-at d p b n q (inl e) =
        subst (RefusedAt x room type_units section) (sym e) (at_place u d p b ((eight-means x unit lists u.header.first.0 kept).0 (q ∙ e)))
    value-at d p b n q (inr (inl e)) =
        subst (RefusedAt x room type_units section) (sym e) (at_width u d p b ((nine-means x unit lists u.header.first.0 kept).0 (q ∙ e)))
    value-at d p b n q (inr (inr z)) = absurd z

    values-staged : Thinnable x room type_units section u → length kept ≤ room.places → u.header.first.0 + size_from kept ≤ room.bytes → (w : Rewrite)
        → Staged (or_refused x room (refusal_from x unit lists places kept) (rewritten w))
    unfolding or_refused Staged
    values-staged d p b w =
        pick-either Staged (eqb (refusal_from x unit lists places kept) 0) (rewritten w) (refused (refusal_from x unit lists places kept)) (λ _. tt)
        (λ t. value-at d p b _ refl (late-value _ (values-late x unit lists places kept) t))

    rewrite-staged : Thinnable x room type_units section u → Staged (rewrite_of x room unit (length (marks_in u.rows)) (kept_count (marks_in u.rows)) lists kept)
    unfolding rewrite_of
    rewrite-staged d =
        pick-either Staged (leb (length kept) room.places) _ (refused 13)
        (λ p. pick-either Staged (leb (u.header.first.0 + size_from kept) room.bytes) _ (refused 14)
        (λ b. values-staged d (leb_yes p) (leb_yes b) _)
        (λ b. staged-refused 14 (at_output u d (leb_yes p) (leb_no b))))
        (λ p. staged-refused 13 (at_map u d (leb_no p)))

    marks-staged : 0 < length u.rows → Staged (marks_collected x room type_units unit (marks_in u.rows) kept)
    unfolding marks_collected
    marks-staged m =
        pick-either Staged (lists_fit room lists) _ (refused 12)
        (λ l. pick-either Staged (eqb (kept_count (marks_in u.rows)) (length (marks_in u.rows))) (untouched _ _) _
        (λ _. staged-untouched _ _)
        (λ d. rewrite-staged (record {
          dead = omega (arith, kept-most (marks_in u.rows), eqb_no {a = kept_count (marks_in u.rows)} {b = length (marks_in u.rows)} d);
          listed = is_true _ l;
        })))
        (λ l. staged-refused 12 (at_lists u m (is_false _ l)))

  abbrev as_read : UnitHeader → List Placed → Unit'
  as_read h ds = record { header = h; bytes = take h.end section; declared = ds }

  module _ (taken : keep_refusal x.keep ≡ 0) (h : UnitHeader) (header : header_of x.setting.big_endian section ≡ Ok (Some h)) where
    rows-staged : (ds : List Placed) → abbreviations_of x.abbreviations h.abbreviations ≡ Some ds → (rows : List EntryRow) → analysis_of x section room.tables ≡ analysed rows
        → Staged (rows_collected x room type_units (as_read h ds) rows)
    unfolding rows_collected
    rows-staged ds d [] a = staged-untouched _ _
    rows-staged ds d (r ∷ rows) a = marks-staged (record { header = h; declared = ds; rows = r ∷ rows; header_is = header; declared_are = d; rows_are = a }) (omega arith)

    analysed-staged : (ds : List Placed) → abbreviations_of x.abbreviations h.abbreviations ≡ Some ds → (o : Analysed) → analysis_of x section room.tables ≡ o
        → Staged (analysed_collected x room type_units (as_read h ds) o)
    unfolding analysed_collected
    analysed-staged ds d (analysed rows) a = rows-staged ds d rows a
    analysed-staged ds d (not_analysed n) a = staged-refused n (at_entries taken header d a (entries-refusal x section room.tables h ds n taken header d a))

    declared-staged : (o : Option (List Placed)) → abbreviations_of x.abbreviations h.abbreviations ≡ o → Staged (declared_collected x room type_units section h o)
    unfolding declared_collected
    declared-staged None d = staged-refused 3 (at_abbreviations taken header d)
    declared-staged (Some ds) d = analysed-staged ds d (analysis_of x section room.tables) refl

  header-staged : keep_refusal x.keep ≡ 0 → (o : Result (Option UnitHeader) ℕ) → header_of x.setting.big_endian section ≡ o
      → Staged (header_collected x room type_units section o)
  unfolding header_collected
  header-staged z (Ok None) q = staged-untouched _ _
  header-staged z (Err n) q = staged-refused n (at_header z q (header-refusal x.setting.big_endian section n q))
  header-staged z (Ok (Some h)) q = declared-staged z h q (abbreviations_of x.abbreviations h.abbreviations) refl

  list-staged : Staged (header_collected x room type_units section (header_by x section))
  unfolding header_collected
  list-staged =
      by-list x section (λ (o : Result (Option UnitHeader) ℕ). Staged (header_collected x room type_units section o))
      (λ z. header-staged z (header_of x.setting.big_endian section) refl)
      (λ n. staged-refused _ (at_list refl (list-refusal x.keep n)))

  -- THE refusals of collect, by where they come from
  pub refusal-law : (n : ℕ) → collect_of x room type_units section ≡ refused n → RefusedAt x room type_units section n
  unfolding collect_of Staged
  refusal-law n q = subst Staged q list-staged

  not_so : (b : Bool) → b ≡ false → T (not b)
  not_so true q = absurd (false≢true (sym q))
  not_so false q = tt

  value-refused : (u : UnitRead x room section) → Thinnable x room type_units section u → length (kept u) ≤ room.places
      → u.header.first.0 + size_from (kept u) ≤ room.bytes → (n : ℕ) → 0 < n → refusal_from x (unit u) (lists u) (places u) (kept u) ≡ n
      → collect_of x room type_units section ≡ refused n
  unfolding or_refused
  value-refused u d p b n h q =
      room-on x room type_units section u d.dead d.listed p b
      ∙ pick_no (eqb (refusal_from x (unit u) (lists u) (places u) (kept u)) 0) _ _
      (no_eqb {a = refusal_from x (unit u) (lists u) (places u) (kept u)} {b = 0} (λ z. let y : n ≡ 0 = sym q ∙ z in omega arith))
      ∙ ap refused q

  -- and each of them is answered so
  pub refused-law : (n : ℕ) → RefusedAt x room type_units section n → collect_of x room type_units section ≡ refused n
  unfolding collect_of header_collected declared_collected analysed_collected marks_collected rewrite_of is_one_of ◌or◌
  refused-law n (at_list q r) = ap (header_collected x room type_units section) (by-list x section (λ (o : Result (Option UnitHeader) ℕ). o ≡ Err n)
      (λ z. absurd (not-one-of list_numbers n 0 (sym q ∙ z) tt r)) (λ _. ap Err q))
  refused-law n (at_header z q r) = ap (header_collected x room type_units section) (header-taken x section z ∙ q)
  refused-law n (at_abbreviations {h} z q d) =
      ap (header_collected x room type_units section) (header-taken x section z ∙ q) ∙ ap (declared_collected x room type_units section h) d
  refused-law n (at_entries {h} {ds} z q d a r) =
      ap (header_collected x room type_units section) (header-taken x section z ∙ q) ∙ ap (declared_collected x room type_units section h) d
      ∙ ap (analysed_collected x room type_units (as_read h ds)) a
  refused-law n (at_lists u m l) = marks-on x room type_units section u m ∙ pick_no (lists_fit room (lists u)) _ _ (not_so _ l)
  refused-law n (at_map u d p) =
      dead-on x room type_units section u d.dead d.listed
      ∙ pick_no (leb (length (kept u)) room.places) _ _ (no_leb {a = length (kept u)} {b = room.places} (omega arith))
  refused-law n (at_output u d p b) =
      dead-on x room type_units section u d.dead d.listed
      ∙ pick_yes (leb (length (kept u)) room.places) _ _ (yes_leb {a = length (kept u)} {b = room.places} p)
      ∙ pick_no (leb (u.header.first.0 + size_from (kept u)) room.bytes) _ _
      (no_leb {a = u.header.first.0 + size_from (kept u)} {b = room.bytes} (omega arith))
  refused-law n (at_place u d p b f) = value-refused u d p b 8 (omega arith) ((eight-means x (unit u) (lists u) u.header.first.0 (kept u)).1 f)
  refused-law n (at_width u d p b f) = value-refused u d p b 9 (omega arith) ((nine-means x (unit u) (lists u) u.header.first.0 (kept u)).1 f)

  -- a refusal by its number: the list's, the analysis's, that of a slice which is too short, 8 or 9
  pub data StageOf (n : ℕ) : Type 0 where
    of-list : keep_refusal x.keep ≡ n → ListRefusal n → StageOf n
    of-reading : analysis_of x section room.tables ≡ not_analysed n → OneOf read_numbers n → StageOf n
    of_room : OneOf (12 ∷ 13 ∷ 14 ∷ []) n → StageOf n
    of-place : n ≡ 8 → RefusedNumber x room type_units section Unplaced → StageOf n
    of_width : n ≡ 9 → RefusedNumber x room type_units section TooWide → StageOf n

  pub stage-of : (n : ℕ) → RefusedAt x room type_units section n → StageOf n
  unfolding is_one_of are_of ◌or◌ ◌and◌ analysis_of header_analysed unit_analysed on_declared
  stage-of n (at_list q r) = of-list q r
  stage-of n (at_header z q r) =
      of-reading (ap (header_analysed x section room.tables) (header-taken x section z ∙ q)) (wider header_numbers read_numbers n tt r)
  stage-of n (at_abbreviations {h} z q d) =
      let three : header_analysed x section room.tables (Ok (Some h)) ≡ not_analysed 3 = rw d in
      of-reading (ap (header_analysed x section room.tables) (header-taken x section z ∙ q) ∙ three) (one_of read_numbers 3 tt)
  stage-of n (at_entries z q d a r) = of-reading a (wider entries_numbers read_numbers n tt r)
  stage-of n (at_lists u m l) = of_room (one_of _ 12 tt)
  stage-of n (at_map u d p) = of_room (one_of _ 13 tt)
  stage-of n (at_output u d p b) = of_room (one_of _ 14 tt)
  stage-of n (at_place u d p b f) =
      of-place refl (record { u = u; thinnable = d; number = refused-number x (unit u) (lists u) u.header.first.0 (kept u) _ f })
  stage-of n (at_width u d p b f) =
      of_width refl (record { u = u; thinnable = d; number = refused-number x (unit u) (lists u) u.header.first.0 (kept u) _ f })

  -- 8 and 9
  late-stage : (n : ℕ) → OneOf (8 ∷ 9 ∷ []) n → StageOf n
      → ((n ≡ 8) × RefusedNumber x room type_units section Unplaced) ⊎ ((n ≡ 9) × RefusedNumber x room type_units section TooWide)
  unfolding is_one_of are_apart ◌or◌ ◌and◌
  late-stage n o (of-list q r) = absurd (apart (8 ∷ 9 ∷ []) list_numbers n tt o r)
  late-stage n o (of-reading a r) = absurd (apart (8 ∷ 9 ∷ []) read_numbers n tt o r)
  late-stage n o (of_room r) = absurd (apart (8 ∷ 9 ∷ []) (12 ∷ 13 ∷ 14 ∷ []) n tt o r)
  late-stage n o (of-place e r) = inl (e, r)
  late-stage n o (of_width e r) = inr (e, r)

  -- 8 only where a number of a kept item has no place
  pub eight-law : collect_of x room type_units section ≡ refused 8 → RefusedNumber x room type_units section Unplaced
  unfolding is_one_of ◌or◌
  eight-law q =
      ⊎_elim (λ l. l.1) (λ r. absurd (let e : ◌≡◌ {A = ℕ} 8 9 = r.0 in omega arith)) (late-stage 8 (one_of _ 8 tt) (stage-of 8 (refusal-law 8 q)))

  -- 9 only where one has a place, and its new value does not fit
  pub nine-law : collect_of x room type_units section ≡ refused 9 → RefusedNumber x room type_units section TooWide
  unfolding is_one_of ◌or◌
  nine-law q =
      ⊎_elim (λ l. absurd (let e : ◌≡◌ {A = ℕ} 9 8 = l.0 in omega arith)) (λ r. r.1) (late-stage 9 (one_of _ 9 tt) (stage-of 9 (refusal-law 9 q)))

  number_at : (n : ℕ) → StageOf n → CollectRefusal n
  unfolding is_one_of are_of ◌or◌ ◌and◌
  number_at n (of-list q r) = wider list_numbers _ n tt r
  number_at n (of-reading a r) = wider read_numbers _ n tt r
  number_at n (of_room r) = wider (12 ∷ 13 ∷ 14 ∷ []) _ n tt r
  number_at n (of-place e r) = subst CollectRefusal (sym e) (one_of _ 8 tt)
  number_at n (of_width e r) = subst CollectRefusal (sym e) (one_of _ 9 tt)

  -- "A refusal carries a number of document 01", or of 02: 1 to 14, 17, 19 or 20
  pub collect-refusal : (n : ℕ) → collect_of x room type_units section ≡ refused n → CollectRefusal n
  collect-refusal n q = number_at n (stage-of n (refusal-law n q))

-- ---- a padded number: 15

unfoldable PaddedNumbered : Result (Unit {0}) ℕ → Type 0
PaddedNumbered (Ok tt) = Unit {0}
PaddedNumbered (Err n) = PaddedRefusal n

pub padded-refusal : (value width n k : ℕ) → padded_answer value width n ≡ Err k → PaddedRefusal k
unfolding padded_answer PaddedNumbered is_one_of ◌or◌
padded-refusal value width n k q =
    subst PaddedNumbered q (pick-either PaddedNumbered (groups_fit value width n) (Ok tt) (Err 15) (λ _. tt) (λ _. one_of _ 15 tt))
