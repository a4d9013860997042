-- An accepted unit: its header and rows, and the answer of collect, taken apart. Assumes nothing.
use mathlib.Core.Path.{◌≡◌, refl, ap, ◌∙◌, subst}
use Prim.Native.Nat.{ℕ, zero, suc, ◌+◌, ◌≤◌, ◌<◌}
use mathlib.Core.Bool.{true, Bool}
use mathlib.Core.List.{List, [], ◌∷◌}
use lib.ListN.{take, length}
use Rattle.readers.specs.Abbreviations.{Placed, declared_in, abbreviations_of}
use Rattle.readers.specs.Stream.{items_from}
use Rattle.readers.specs.declared.header.UnitHeader.{UnitHeader}
use Rattle.marking.specs.Analysis.{Sections, EntryRow, Analysed, analysed, refused as not_analysed, header_analysed, analysis_of, header_by}
use Rattle.marking.proofs.EachRow.{items-whole}
use Rattle.rewriting.specs.Rewriting.{Room, unit_of, Unit as Unit', Lists, no_lists, lists_of, refusal_from, unit_bytes, Rewrite, Collected, untouched, rewritten, refused, lists_fit, or_refused, rewrite_of, marks_collected, rows_collected, analysed_collected, declared_collected, header_collected, collect_of}
use Rattle.readers.proofs.HeaderLaws.{HeaderLaw, header-laws}
use Rattle.rewriting.proofs.Whole.AcceptedUnits.{Accepted}
use Rattle.std.specs.Prelude.{Err, None, Ok, Option, Result, Some}
use native.Mathlib.Omega.{arith}
use lib.Dec.{leb, eqb}
use mir.Facts.{eqb_yes, eqb_no}
use Rattle.readers.specs.Choice.{pick}
use Rattle.readers.proofs.Choice.{pick-either}
use Rattle.readers.specs.Header.{length_size, header_of}
use Rattle.rewriting.proofs.WritePass.HeaderEmits.{length-wide}
use Rattle.marking.specs.Below.{count}
use Rattle.marking.specs.Marks.{is_kept, kept_count}
use Rattle.marking.specs.Resolution.{marks_in}
use Rattle.marking.proofs.UnitMarkings.{marks-each}
use Rattle.rewriting.specs.Places.{NestedItem, Place, places_from, size_from}
use Rattle.laws.specs.LeftOut.{survivors_in}
use Rattle.marking.proofs.ListedHeaders.{unit-listed}

module _ (x : Sections) (room : Room) (section : List ℕ) (h : UnitHeader) (ds : List Placed) (rows : List EntryRow) (a : Accepted x room section h ds rows) where
  -- the items end at the unit's end
  pub accepted-whole : (items_from h.encoding x.abbreviations (declared_in ds) (take h.end section) h.first.0).1 ≡ true
  accepted-whole = items-whole x section room.tables h ds rows a.header a.declared a.analysis

  -- its header, and how its rows stand
  pub accepted-header : HeaderLaw x.setting.big_endian (take h.end section) h
  accepted-header = header-laws x.setting.big_endian section h a.header

  -- the number of the length is no wider than the length field
  pub accepted-wide : h.encoding.offset_size ≤ length_size h.encoding
  accepted-wide =
      length-wide h.encoding.offset_size accepted-header.known.offset_is

-- ---- at most as many are kept as there are

count_most : (n : ℕ) (f : ℕ → Bool) → count n f ≤ n
unfolding count
count_most zero f = omega arith
count_most (suc n) f = let l : pick (f n) 1 0 ≤ 1 = pick-either (λ (k : ℕ). k ≤ 1) (f n) 1 0 (λ _. omega arith) (λ _. omega arith) in omega (arith, count_most n f)

pub kept-most : (marks : List ℕ) → kept_count marks ≤ length marks
unfolding kept_count
kept-most marks = count_most (length marks) (is_kept marks)

-- ---- what is accepted

module _ (x : Sections) (room : Room) (type_units : Bool) (section : List ℕ) where
  -- rewritten: an entry is dead
  pub record WasRewritten (w : Rewrite) : Type 0 where
    pub header : UnitHeader
    pub declared : List Placed
    pub rows : List EntryRow
    pub accepted : Accepted x room section header declared rows
    pub dead : kept_count (marks_in rows) < length (marks_in rows)
    pub entries-is : w.entries ≡ length (marks_in rows)
    pub count-is : w.kept ≡ kept_count (marks_in rows)
    pub lists-is : w.lists ≡ lists_of x (unit_of header section declared) type_units (survivors_in x (unit_of header section declared) rows)
    pub map_is : w.map ≡ places_from header.first.0 (survivors_in x (unit_of header section declared) rows)
    pub none-refused : refusal_from x (unit_of header section declared) w.lists w.map (survivors_in x (unit_of header section declared) rows) ≡ 0
    pub output-is : w.output ≡ unit_bytes x (unit_of header section declared) w.lists w.map (survivors_in x (unit_of header section declared) rows)

  -- untouched: none is
  pub record WasUntouched (n : ℕ) (l : Lists) : Type 0 where
    pub header : UnitHeader
    pub declared : List Placed
    pub rows : List EntryRow
    pub accepted : Accepted x room section header declared rows
    pub none-dead : kept_count (marks_in rows) ≡ length (marks_in rows)
    pub entries-is : n ≡ length (marks_in rows)
    pub lists-is : l ≡ lists_of x (unit_of header section declared) type_units (survivors_in x (unit_of header section declared) rows)

  unfoldable Told : Collected → Type 0
  Told (untouched n l) = (0 < n → WasUntouched n l) × (n ≡ 0 → (analysis_of x section room.tables ≡ analysed []) × (l ≡ no_lists))
  Told (rewritten w) = WasRewritten w
  Told (refused n) = Unit {0}

  module _ (h : UnitHeader) (ds : List Placed) (rows : List EntryRow) (a : Accepted x room section h ds rows) where
    abbrev unit : Unit'
    unit = unit_of h section ds

    abbrev marks : List ℕ
    marks = marks_in rows

    abbrev kept : List NestedItem
    kept = survivors_in x unit rows

    abbrev lists : Lists
    lists = lists_of x unit type_units kept

    abbrev places : List Place
    places = places_from h.first.0 kept

    or_refused-told : kept_count marks < length marks → (n : ℕ) → refusal_from x unit lists places kept ≡ n
        → Told (or_refused x room n (rewritten (record { entries = length marks; kept = kept_count marks; lists = lists; map = places; output = unit_bytes x unit lists places kept })))
    unfolding or_refused Told
    or_refused-told d n r =
        pick-either Told (eqb n 0) _ (refused n)
        (λ t. record {
          header = h;
          declared = ds;
          rows = rows;
          accepted = a;
          dead = d;
          entries-is = refl;
          count-is = refl;
          lists-is = refl;
          map_is = refl;
          none-refused = r ∙ eqb_yes {a = n} {b = 0} t;
          output-is = refl;
        })
        (λ t. tt)

    rewrite-told : kept_count marks < length marks → Told (rewrite_of x room unit (length marks) (kept_count marks) lists kept)
    unfolding rewrite_of Told
    rewrite-told d =
        pick-either Told (leb (length kept) room.places) _ (refused 13)
        (λ _. pick-either Told (leb (h.first.0 + size_from kept) room.bytes) _ (refused 14)
        (λ _. or_refused-told d (refusal_from x unit lists places kept) refl)
        (λ _. tt))
        (λ _. tt)

    marks-told : 0 < length marks → Told (marks_collected x room type_units unit marks kept)
    unfolding marks_collected Told
    marks-told m =
        pick-either Told (lists_fit room lists) _ (refused 12)
        (λ _. pick-either Told (eqb (kept_count marks) (length marks)) (untouched (length marks) lists) (rewrite_of x room unit (length marks) (kept_count marks) lists kept)
        (λ t. (
          λ _. record {
            header = h;
            declared = ds;
            rows = rows;
            accepted = a;
            none-dead = eqb_yes {a = kept_count marks} {b = length marks} t;
            entries-is = refl;
            lists-is = refl;
          },
          λ z. absurd (omega arith),
        ))
        (λ t. rewrite-told (omega (arith, kept-most marks, eqb_no {a = kept_count marks} {b = length marks} t))))
        (λ _. tt)

  rows_told : (h : UnitHeader) (ds : List Placed) (rows : List EntryRow) → Accepted x room section h ds rows → Told (rows_collected x room type_units (unit_of h section ds) rows)
  unfolding rows_collected Told
  rows_told h ds [] a = (λ n. absurd (omega arith), λ z. (a.analysis, refl))
  rows_told h ds (r ∷ rows) a = marks-told h ds (r ∷ rows) a (omega (arith, marks-each (r ∷ rows)))

  analysed-told : (h : UnitHeader) (ds : List Placed) → header_of x.setting.big_endian section ≡ Ok (Some h) → abbreviations_of x.abbreviations h.abbreviations ≡ Some ds
      → (o : Analysed) → analysis_of x section room.tables ≡ o → Told (analysed_collected x room type_units (unit_of h section ds) o)
  unfolding analysed_collected Told
  analysed-told h ds q d (analysed rows) r = rows_told h ds rows (record { header = q; declared = d; analysis = r })
  analysed-told h ds q d (not_analysed n) r = tt

  declared-told : (h : UnitHeader) → header_of x.setting.big_endian section ≡ Ok (Some h) → (o : Option (List Placed)) → abbreviations_of x.abbreviations h.abbreviations ≡ o
      → Told (declared_collected x room type_units section h o)
  unfolding declared_collected Told
  declared-told h q None d = tt
  declared-told h q (Some ds) d = analysed-told h ds q d (analysis_of x section room.tables) refl

  header-told : (o : Result (Option UnitHeader) ℕ) → header_by x section ≡ o → Told (header_collected x room type_units section o)
  unfolding header_collected Told analysis_of header_analysed
  header-told (Ok None) q = (λ n. absurd (omega arith), λ z. (ap (header_analysed x section room.tables) q, refl))
  header-told (Err n) q = tt
  header-told (Ok (Some h)) q = declared-told h (unit-listed x section h q).0 (abbreviations_of x.abbreviations h.abbreviations) refl

  told : Told (collect_of x room type_units section)
  unfolding collect_of
  told = header-told (header_by x section) refl

  -- "An accepted unit is rewritten exactly when it has a dead entry."
  pub was-rewritten : (w : Rewrite) → collect_of x room type_units section ≡ rewritten w → WasRewritten w
  unfolding Told
  was-rewritten w q = subst Told q told

  pub was-untouched : (n : ℕ) (l : Lists) → collect_of x room type_units section ≡ untouched n l → 0 < n → WasUntouched n l
  unfolding Told
  was-untouched n l q = (subst Told q told).0

  -- untouched without entries: the unit has none
  pub was-empty : (l : Lists) → collect_of x room type_units section ≡ untouched 0 l → (analysis_of x section room.tables ≡ analysed []) × (l ≡ no_lists)
  unfolding Told
  was-empty l q = (subst Told q told).1 refl
