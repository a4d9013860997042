-- The answers of collect and of its parts: what follows of a refusal, of nothing to do, of an accepted answer. Assumes nothing.
use Rattle.readers.proofs.Refusing.{same_ok}
use mathlib.Core.Path.{◌≡◌, refl, ap, ap₂, sym, ◌∙◌, subst}
use Prim.Native.Nat.{ℕ, ◌≤◌, ◌<◌}
use native.Mathlib.Omega.{arith}
use mathlib.Core.Bool.{Bool, true, false}
use mathlib.Core.List.{List, [], ◌∷◌}
use Rattle.std.specs.Prelude.{Err, None, Ok, Option, Result, Some, is_err}
use lib.ListN.{length}
use lib.Dec.{leb, eqb}
use mir.Facts.{leb_yes, leb_no, eqb_yes, eqb_no, yes_eqb, no_eqb}
use Rattle.readers.specs.Choice.{zeros}
use Rattle.readers.proofs.Choice.{pick_yes, pick_no, pick-either}
use Rattle.readers.specs.Abbreviations.{Placed, abbreviations_of}
use Rattle.readers.specs.declared.header.UnitHeader.{UnitHeader}
use Rattle.marking.specs.Analysis.{Sections, Rooms, EntryRow, Analysed, analysed, refused as not_analysed, on_declared, unit_analysed, header_by, header_analysed, analysis_of}
use Rattle.marking.specs.Columns.{column, parents_in, index_after, least, rooms_of, unit_rooms}
use Rattle.marking.specs.Marks.{kept_count}
use Rattle.marking.specs.Resolution.{marks_in, unit_marks}
use Rattle.marking.specs.declared.units.UnitMarks.{UnitMarks}
use Rattle.marking.specs.Resolution.{unit_marked}
use Rattle.rewriting.specs.Rewriting.{Room, unit_of, Collected, untouched, rewritten, refused, no_lists, rows_collected, analysed_collected, declared_collected, header_collected, collect_of}
use Rattle.rewriting.specs.Outputs.{Answer, room_by, answer_for, map_for, output_for, list_or, list_for, ranges_in, locations_in, strings_in}
use Rattle.rewriting.specs.Inner.Leaving.{Accepts, Answers, left_by, header_task, task_of, MarkedTables, Tabled, Blank, marked_of}
use Rattle.rewriting.specs.declared.collect.Collected.TheVariants.{Untouched, Rewritten}
use Rattle.rewriting.specs.declared.collect.Task.{Task}
use Rattle.marking.proofs.ListedHeaders.{unit-listed}
use Rattle.marking.proofs.UnitMarkings.{marks-each}

-- ---- slices that were cleared

pub cleared : (n m : ℕ) (s : List ℕ) → s ≡ zeros n → n ≡ m → s ≡ zeros m
cleared n m s p q = p ∙ ap (λ (k : ℕ). zeros k) q

module _ (r : Answer) where
  pub left-accepted : is_err r ≡ false → (s : List ℕ) → s ≡ left_by r s
  unfolding left_by
  left-accepted q s = of r q
    where
      of : (y : Answer) → is_err y ≡ false → s ≡ left_by y s
      of (Ok (Untouched k)) p = refl
      of (Ok (Rewritten k)) p = refl
      of (Err k) p = let z : ◌≡◌ {A = ℕ} 0 1 = cc in absurd (omega arith)

  pub left-refused : is_err r ≡ true → (s s' : List ℕ) → s' ≡ zeros (length s) → s' ≡ left_by r s
  unfolding left_by
  left-refused q s s' z = z ∙ of r q
    where
      of : (y : Answer) → is_err y ≡ true → zeros (length s) ≡ left_by y s
      of (Ok a) p = let z : ◌≡◌ {A = ℕ} 0 1 = cc in absurd (omega arith)
      of (Err k) p = refl

-- a slice that holds what is said of an accepted answer, and is zeros after a refusal
left_as : (f : Collected → List ℕ) (n : ℕ) → ((k : ℕ) → f (refused k) ≡ zeros n) → (c : Collected) (r : Answer) → r ≡ answer_for c
    → (s : List ℕ) → length s ≡ n → (Accepts c → s ≡ f c) → left_by r s ≡ f c
unfolding left_by answer_for Accepts
left_as f n z (untouched k l) r p s q a = ap (λ (y : Answer). left_by y s) p ∙ a tt
left_as f n z (rewritten w) r p s q a = ap (λ (y : Answer). left_by y s) p ∙ a tt
left_as f n z (refused k) r p s q a = ap (λ (y : Answer). left_by y s) p ∙ ap (λ (y : ℕ). zeros y) q ∙ sym (z k)

pub outputs-left : (c : Collected) (r : Answer) (m rs ls ss o : ℕ) (map ranges locations strings out : List ℕ)
    → Answers c r m rs ls ss o map ranges locations strings out
    → length map ≡ m → length ranges ≡ rs → length locations ≡ ls → length strings ≡ ss → length out ≡ o
    → (left_by r map ≡ map_for m c) × (left_by r ranges ≡ list_for ranges_in rs c) × (left_by r locations ≡ list_for locations_in ls c)
    × (left_by r strings ≡ list_for strings_in ss c) × (left_by r out ≡ output_for o c)
unfolding map_for list_for output_for
outputs-left c r m rs ls ss o map ranges locations strings out a em er el es eo = (
  left_as (map_for m) m (λ k. refl) c r a.told map em a.map_left,
  left_as (list_for ranges_in rs) rs (λ k. refl) c r a.told ranges er a.ranges_left,
  left_as (list_for locations_in ls) ls (λ k. refl) c r a.told locations el a.locations_left,
  left_as (list_for strings_in ss) ss (λ k. refl) c r a.told strings es a.strings_left,
  left_as (output_for o) o (λ k. refl) c r a.told out eo a.out_left,
)

-- ---- the parts

module _ (c : Collected) (r : Answer) (map ranges locations strings out : ℕ) (map' ranges' locations' strings' out' : List ℕ) where
  pub refused-answers : (k : ℕ) → c ≡ refused k → r ≡ Err k → Answers c r map ranges locations strings out map' ranges' locations' strings' out'
  unfolding answer_for Accepts
  refused-answers k h p =
      let no : Accepts c → ⊥ = (λ a. subst Accepts h a) in
      record {
        told = p ∙ sym (ap answer_for h);
        map_left = λ a. absurd (no a);
        ranges_left = λ a. absurd (no a);
        locations_left = λ a. absurd (no a);
        strings_left = λ a. absurd (no a);
        out_left = λ a. absurd (no a);
      }

  pub nothing-answers : c ≡ untouched 0 no_lists → r ≡ answer_for (untouched 0 no_lists) → map' ≡ zeros map → ranges' ≡ zeros ranges → locations' ≡ zeros locations → strings' ≡ zeros strings → out' ≡ zeros out
      → Answers c r map ranges locations strings out map' ranges' locations' strings' out'
  unfolding map_for list_for list_or output_for
  nothing-answers h p m rs ls ss o =
      record {
        told = p ∙ sym (ap answer_for h);
        map_left = λ a. m ∙ sym (ap (map_for map) h);
        ranges_left = λ a. rs ∙ sym (ap (list_for ranges_in ranges) h);
        locations_left = λ a. ls ∙ sym (ap (list_for locations_in locations) h);
        strings_left = λ a. ss ∙ sym (ap (list_for strings_in strings) h);
        out_left = λ a. o ∙ sym (ap (output_for out) h);
      }

-- ---- the answer by the analysis

marks-refused : (a : Analysed) (k : ℕ) → unit_marks a ≡ Err k → a ≡ not_analysed k
unfolding unit_marks
marks-refused (analysed rows) k q = let z : ◌≡◌ {A = ℕ} 0 1 = cc in absurd (omega arith)
marks-refused (not_analysed n) k q = let z : n ≡ k = cc in ap (λ (m : ℕ). not_analysed m) z

record Counted (a : Analysed) (entries kept : ℕ) : Type 0 where
  pub rows : List EntryRow
  pub is : a ≡ analysed rows
  pub entries_are : entries ≡ length rows
  pub kept_are : kept ≡ kept_count (marks_in rows)

marks-counted : (a : Analysed) (entries kept : ℕ) → unit_marks a ≡ unit_marked entries kept → Counted a entries kept
unfolding unit_marks
marks-counted (analysed rows) entries kept q =
    let e = same_ok _ _ (sym q) in
    record { rows = rows; is = refl; entries_are = ap (λ m. m.entries) e; kept_are = ap (λ m. m.kept) e }
marks-counted (not_analysed n) entries kept q = let z : ◌≡◌ {A = ℕ} 0 1 = cc in absurd (omega arith)

no_rows : (rows : List EntryRow) → 0 ≡ length rows → rows ≡ []
no_rows [] q = refl
no_rows (r ∷ rows) q = absurd (omega arith)

analysed-none : (rows : List EntryRow) (k : ℕ) → analysed rows ≡ not_analysed k → ⊥
analysed-none rows k q = let z : ◌≡◌ {A = ℕ} 0 1 = cc in absurd (omega arith)

none-analysed : (rows : List EntryRow) (k : ℕ) → not_analysed k ≡ analysed rows → ⊥
none-analysed rows k q = let z : ◌≡◌ {A = ℕ} 0 1 = cc in absurd (omega arith)

undeclared : (o : Option (List Placed)) (k : List Placed → Analysed) → o ≡ None → on_declared o k ≡ not_analysed 3
unfolding on_declared
undeclared o k q = ap (λ (z : Option (List Placed)). on_declared z k) q

module _ (x : Sections) (room : Room) (t : Bool) (section : List ℕ) where
  abbrev tables : Rooms
  tables = room.tables

  analysis-undeclared : (h : UnitHeader) → header_by x section ≡ Ok (Some h) → abbreviations_of x.abbreviations h.abbreviations ≡ None → analysis_of x section tables ≡ not_analysed 3
  unfolding analysis_of header_analysed unit_analysed
  analysis-undeclared h q d = ap (header_analysed x section tables) q ∙ undeclared (abbreviations_of x.abbreviations h.abbreviations) _ d

  -- by its header
  pub collected-empty : header_by x section ≡ Ok None → collect_of x room t section ≡ untouched 0 no_lists
  unfolding collect_of header_collected
  collected-empty q = ap (header_collected x room t section) q

  pub collected-no : (k : ℕ) → header_by x section ≡ Err k → collect_of x room t section ≡ refused k
  unfolding collect_of header_collected
  collected-no k q = ap (header_collected x room t section) q

  -- by its analysis
  by-declared : (h : UnitHeader) → header_by x section ≡ Ok (Some h) → (o : Option (List Placed)) → abbreviations_of x.abbreviations h.abbreviations ≡ o
      → ((k : ℕ) → analysis_of x section tables ≡ not_analysed k → declared_collected x room t section h o ≡ refused k)
      × (analysis_of x section tables ≡ analysed [] → declared_collected x room t section h o ≡ untouched 0 no_lists)
  unfolding declared_collected analysed_collected rows_collected
  by-declared h q None d =
      let a : analysis_of x section tables ≡ not_analysed 3 = analysis-undeclared h q d in
      (λ k e. let z : not_analysed 3 ≡ not_analysed k = sym a ∙ e in let w : 3 ≡ k = cc in ap (λ (m : ℕ). refused m) w, λ e. absurd (none-analysed [] 3 (sym a ∙ e)))
  by-declared h q (Some ds) d =
      (λ k e. ap (analysed_collected x room t (unit_of h section ds)) e, λ e. ap (analysed_collected x room t (unit_of h section ds)) e)

  by-header : (o : Result (Option UnitHeader) ℕ) → header_by x section ≡ o
      → ((k : ℕ) → analysis_of x section tables ≡ not_analysed k → header_collected x room t section o ≡ refused k)
      × (analysis_of x section tables ≡ analysed [] → header_collected x room t section o ≡ untouched 0 no_lists)
  unfolding header_collected analysis_of header_analysed
  by-header (Ok None) q =
      let a : analysis_of x section tables ≡ analysed [] = ap (header_analysed x section tables) q in
      (λ k e. absurd (analysed-none [] k (sym a ∙ e)), λ e. refl)
  by-header (Err n) q =
      let a : analysis_of x section tables ≡ not_analysed n = ap (header_analysed x section tables) q in
      (λ k e. let z : not_analysed n ≡ not_analysed k = sym a ∙ e in let w : n ≡ k = cc in ap (λ (m : ℕ). refused m) w, λ e. absurd (none-analysed [] n (sym a ∙ e)))
  by-header (Ok (Some h)) q = by-declared h q (abbreviations_of x.abbreviations h.abbreviations) refl

  pub collected-refused : (k : ℕ) → unit_marks (analysis_of x section tables) ≡ Err k → collect_of x room t section ≡ refused k
  unfolding collect_of
  collected-refused k q = (by-header (header_by x section) refl).0 k (marks-refused (analysis_of x section tables) k q)

  pub collected-none : (entries kept : ℕ) → unit_marks (analysis_of x section tables) ≡ unit_marked entries kept → entries ≡ 0 → collect_of x room t section ≡ untouched 0 no_lists
  unfolding collect_of
  collected-none entries kept q z =
      let w : Counted (analysis_of x section tables) entries kept = marks-counted (analysis_of x section tables) entries kept q in
      (by-header (header_by x section) refl).1 (w.is ∙ ap (λ (rows : List EntryRow). analysed rows) (no_rows w.rows (sym z ∙ w.entries_are)))

  -- a unit that has entries
  pub record Marking (h : UnitHeader) (entries kept : ℕ) : Type 0 where
    pub declared : List Placed
    pub rows : List EntryRow
    pub declared_are : abbreviations_of x.abbreviations h.abbreviations ≡ Some declared
    pub analysis_is : analysis_of x section tables ≡ analysed rows
    pub entries_are : entries ≡ length (marks_in rows)
    pub kept_are : kept ≡ kept_count (marks_in rows)
    pub collected : collect_of x room t section ≡ marked_of x room t (unit_of h section declared) rows

  of-rows : (h : UnitHeader) (ds : List Placed) (rows : List EntryRow) → (0 ≡ length rows → ⊥) → rows_collected x room t (unit_of h section ds) rows ≡ marked_of x room t (unit_of h section ds) rows
  unfolding rows_collected
  of-rows h ds [] e = absurd (e refl)
  of-rows h ds (r ∷ rows) e = refl

  marking-declared : (h : UnitHeader) → header_by x section ≡ Ok (Some h) → (entries kept : ℕ) → Counted (analysis_of x section tables) entries kept → (entries ≡ 0 → ⊥)
      → (o : Option (List Placed)) → abbreviations_of x.abbreviations h.abbreviations ≡ o → Marking h entries kept
  unfolding collect_of header_collected declared_collected analysed_collected
  marking-declared h q entries kept w n None d =
      absurd (none-analysed w.rows 3 (sym (analysis-undeclared h q d) ∙ w.is))
  marking-declared h q entries kept w n (Some ds) d =
      record {
        declared = ds;
        rows = w.rows;
        declared_are = d;
        analysis_is = w.is;
        entries_are = w.entries_are ∙ sym (marks-each w.rows);
        kept_are = w.kept_are;
        collected =
            ap (header_collected x room t section) q
            ∙ ap (λ (o : Option (List Placed)). declared_collected x room t section h o) d
            ∙ ap (analysed_collected x room t (unit_of h section ds)) w.is
            ∙ of-rows h ds w.rows (λ e. n (w.entries_are ∙ sym e));
      }

  pub marking : (h : UnitHeader) → header_by x section ≡ Ok (Some h) → (entries kept : ℕ) → unit_marks (analysis_of x section tables) ≡ unit_marked entries kept → (entries ≡ 0 → ⊥) → Marking h entries kept
  marking h q entries kept m n =
      marking-declared h q entries kept (marks-counted (analysis_of x section tables) entries kept m) n (abbreviations_of x.abbreviations h.abbreviations) refl

-- there is room for no more entries than a column has numbers
least-two : (a b : ℕ) → (least a b ≤ a) × (least a b ≤ b)
unfolding least
least-two a b =
    pick-either (λ (z : ℕ). (z ≤ a) × (z ≤ b)) (leb a b) a b (λ t. (let y : a ≤ a = omega arith in y, leb_yes {a = a} {b = b} t))
    (λ t. (let z : b < a = leb_no {a = a} {b = b} t in let y : b ≤ a = omega arith in y, let y : b ≤ b = omega arith in y))

pub ends-enough : (marks pairs offsets parents roots ends targets : ℕ) → (unit_rooms marks pairs offsets parents roots ends targets).entries ≤ ends
unfolding unit_rooms rooms_of
ends-enough marks pairs offsets parents roots ends targets =
    let h : least marks (least (least offsets parents) (least roots ends)) ≤ least (least offsets parents) (least roots ends) = (least-two marks (least (least offsets parents) (least roots ends))).1 in
    let k : least (least offsets parents) (least roots ends) ≤ least roots ends = (least-two (least offsets parents) (least roots ends)).1 in
    let l : least roots ends ≤ ends = (least-two roots ends).1 in
    let z : least marks (least (least offsets parents) (least roots ends)) ≤ ends = omega arith in
    z

-- ---- by the tables that marking leaves

-- what is to be done, by the marks and the header
pub task-refused : (o : Result (Option UnitHeader) ℕ) (m : Result UnitMarks ℕ) (k : ℕ) (t : Result (Option Task) ℕ) → m ≡ Err k → t ≡ Err k → t ≡ task_of o m
unfolding task_of
task-refused o m k t q e = e ∙ sym (ap (task_of o) q)

pub task-none : (o : Result (Option UnitHeader) ℕ) (m : Result UnitMarks ℕ) (n k : ℕ) → m ≡ unit_marked n k → n ≡ 0 → Ok None ≡ task_of o m
unfolding task_of
task-none o m n k q z = sym (ap (task_of o) q ∙ pick_yes (eqb n 0) _ _ (yes_eqb {a = n} {b = 0} z))

pub task-some : (o : Result (Option UnitHeader) ℕ) (m : Result UnitMarks ℕ) (n k : ℕ) (t : Result (Option Task) ℕ) → m ≡ unit_marked n k → (n ≡ 0 → ⊥) → t ≡ header_task o n k → t ≡ task_of o m
unfolding task_of
task-some o m n k t q z e = e ∙ sym (ap (task_of o) q ∙ pick_no (eqb n 0) _ _ (no_eqb {a = n} {b = 0} z))

pub task-no-header : (o : Result (Option UnitHeader) ℕ) (n k j : ℕ) (t : Result (Option Task) ℕ) → o ≡ Err j → t ≡ Err j → t ≡ header_task o n k
unfolding header_task
task-no-header o n k j t q e = e ∙ sym (ap (λ (h : Result (Option UnitHeader) ℕ). header_task h n k) q)

pub task-empty : (o : Result (Option UnitHeader) ℕ) (n k : ℕ) → o ≡ Ok None → Ok None ≡ header_task o n k
unfolding header_task
task-empty o n k q = sym (ap (λ (h : Result (Option UnitHeader) ℕ). header_task h n k) q)

pub task-header : (o : Result (Option UnitHeader) ℕ) (n k : ℕ) (h : UnitHeader) → o ≡ Ok (Some h) → Ok (Some (record { header = h; entries = n; kept = k })) ≡ header_task o n k
unfolding header_task
task-header o n k h q = sym (ap (λ (h : Result (Option UnitHeader) ℕ). header_task h n k) q)

module _ (x : Sections) (tables : Rooms) (t : Bool) (section : List ℕ) (task : Result (Option Task) ℕ) (s index parents ends marks : List ℕ) (w : MarkedTables x tables section task s index parents ends marks)
    (map ranges locations strings out : List ℕ) (b : Blank map ranges locations strings out) where
  abbrev room : Room
  room = room_by tables (length map) (length ranges) (length locations) (length strings) (length out)

  abbrev Answered : Answer → List ℕ → List ℕ → List ℕ → List ℕ → List ℕ → Type 0
  Answered a map' ranges' locations' strings' out' =
      Answers (collect_of x room t section) a (length map) (length ranges) (length locations) (length strings) (length out) map' ranges' locations' strings' out'

  -- what a task says of the whole answer
  unfoldable Says : Result (Option Task) ℕ → Type 0
  Says (Err k) = collect_of x room t section ≡ refused k
  Says (Ok None) = collect_of x room t section ≡ untouched 0 no_lists
  Says (Ok (Some u)) = (header_by x section ≡ Ok (Some u.header)) × (unit_marks (analysis_of x section tables) ≡ unit_marked u.entries u.kept) × (u.entries ≡ 0 → ⊥)

  by-task : (m : Result UnitMarks ℕ) → unit_marks (analysis_of x section tables) ≡ m → (o : Result (Option UnitHeader) ℕ) → header_by x section ≡ o → Says (task_of o m)
  unfolding Says task_of header_task
  by-task (Err k) u o q = collected-refused x room t section k u
  by-task (Ok m) u o q =
      pick-either Says (eqb m.entries 0) _ _ (λ y. collected-none x room t section m.entries m.kept u (eqb_yes {a = m.entries} {b = 0} y))
      (λ y. by-header-task o q (λ e. eqb_no {a = m.entries} {b = 0} y e))
    where
      by-header-task : (o : Result (Option UnitHeader) ℕ) → header_by x section ≡ o → (m.entries ≡ 0 → ⊥) → Says (header_task o m.entries m.kept)
      by-header-task (Ok None) q n = collected-empty x room t section q
      by-header-task (Err j) q n = collected-no x room t section j q
      by-header-task (Ok (Some h)) q n = (q, u, n)

  said : (v : Result (Option Task) ℕ) → task ≡ v → Says v
  said v e = subst Says (sym w.task_is ∙ e) (by-task (unit_marks (analysis_of x section tables)) refl (header_by x section) refl)

  -- nothing more is to be done
  refusal-answers : (k : ℕ) → task ≡ Err k → (a : Answer) → a ≡ Err k → Answered a map ranges locations strings out
  unfolding Says
  refusal-answers k e a h = refused-answers _ _ _ _ _ _ _ _ _ _ _ _ k (said (Err k) e) h

  done-answers : task ≡ Ok None → (a : Answer) → a ≡ answer_for (untouched 0 no_lists) → Answered a map ranges locations strings out
  unfolding Says
  done-answers e a h = nothing-answers _ _ _ _ _ _ _ _ _ _ _ _ (said (Ok None) e) h b.map_blank b.ranges_blank b.locations_blank b.strings_blank b.out_blank

  -- a unit that has entries
  module _ (h : UnitHeader) (entries kept : ℕ) (e : task ≡ Ok (Some (record { header = h; entries = entries; kept = kept }))) where
    task-parts : (header_by x section ≡ Ok (Some h)) × (unit_marks (analysis_of x section tables) ≡ unit_marked entries kept) × (entries ≡ 0 → ⊥)
    unfolding Says
    task-parts = said (Ok (Some (record { header = h; entries = entries; kept = kept }))) e

    marked : Marking x room t section h entries kept
    marked = marking x room t section h task-parts.0 entries kept task-parts.1 task-parts.2

    tabled : Tabled x tables section h marked.declared marked.rows s index parents ends marks entries kept
    unfolding index_after column
    tabled =
        record {
          abbreviations_are = w.abbreviations_are;
          header_is = (unit-listed x section h task-parts.0).0;
          declared_are = marked.declared_are;
          analysis_is = marked.analysis_is;
          index_is = w.index_is ∙ ap (λ (o : Result (Option UnitHeader) ℕ). index_after x.abbreviations o (length index)) task-parts.0;
          parents_are = w.parents_are ∙ ap (column parents_in (length parents)) marked.analysis_is;
          marks_are = w.marks_are ∙ ap (column marks_in (length marks)) marked.analysis_is;
          ends_room = w.ends_room;
          entries_are = marked.entries_are;
          kept_are = marked.kept_are;
        }

    rewrite-answers : (a : Answer) (map' ranges' locations' strings' out' : List ℕ)
        → ((x' : Sections) (tables' : Rooms) (ds : List Placed) (rows : List EntryRow) → Tabled x' tables' section h ds rows s index parents ends marks entries kept → Blank map ranges locations strings out
        → Answers (marked_of x' (room_by tables' (length map) (length ranges) (length locations) (length strings) (length out)) t (unit_of h section ds) rows) a (length map) (length ranges) (length locations) (length strings) (length out) map' ranges' locations' strings' out')
        → Answered a map' ranges' locations' strings' out'
    rewrite-answers a map' ranges' locations' strings' out' f =
        subst (λ (z : Collected). Answers z a (length map) (length ranges) (length locations) (length strings) (length out) map' ranges' locations' strings' out') (sym marked.collected)
        (f x tables marked.declared marked.rows tabled b)

-- what `collect_marked` answers for such tables
module _ (t : Bool) (section : List ℕ) (task : Result (Option Task) ℕ) (s index parents ends marks map ranges locations strings out : List ℕ) where
  abbrev Wanted : Answer → List ℕ → List ℕ → List ℕ → List ℕ → List ℕ → Type 0
  Wanted a map' ranges' locations' strings' out' =
      (x : Sections) (tables : Rooms) → MarkedTables x tables section task s index parents ends marks → Blank map ranges locations strings out
      → Answers (collect_of x (room_by tables (length map) (length ranges) (length locations) (length strings) (length out)) t section) a (length map) (length ranges) (length locations) (length strings) (length out) map' ranges' locations' strings' out'

  pub marked-refused : (k : ℕ) (a : Answer) → task ≡ Err k → a ≡ Err k → Wanted a map ranges locations strings out
  marked-refused k a e h x tables w b = refusal-answers x tables t section task s index parents ends marks w map ranges locations strings out b k e a h

  pub marked-done : (a : Answer) → task ≡ Ok None → a ≡ answer_for (untouched 0 no_lists) → Wanted a map ranges locations strings out
  marked-done a e h x tables w b = done-answers x tables t section task s index parents ends marks w map ranges locations strings out b e a h

  pub marked-rewrite : (h : UnitHeader) (entries kept : ℕ) → task ≡ Ok (Some (record { header = h; entries = entries; kept = kept })) → (a : Answer) (map' ranges' locations' strings' out' : List ℕ)
      → ((x : Sections) (tables : Rooms) (ds : List Placed) (rows : List EntryRow) → Tabled x tables section h ds rows s index parents ends marks entries kept → Blank map ranges locations strings out
      → Answers (marked_of x (room_by tables (length map) (length ranges) (length locations) (length strings) (length out)) t (unit_of h section ds) rows) a (length map) (length ranges) (length locations) (length strings) (length out) map' ranges' locations' strings' out')
      → Wanted a map' ranges' locations' strings' out'
  marked-rewrite h entries kept e a map' ranges' locations' strings' out' f x tables w b =
      rewrite-answers x tables t section task s index parents ends marks w map ranges locations strings out b h entries kept e a map' ranges' locations' strings' out' f

-- ---- the tables and outputs of a call

-- a slice made by its own length
by-own : (f : ℕ → List ℕ) (n : ℕ) (s : List ℕ) → s ≡ f n → length s ≡ n → s ≡ f (length s)
by-own f n s p q = p ∙ ap f (sym q)

-- the same answer by the lengths before
by_lengths : (f : ℕ → ℕ → ℕ → ℕ → ℕ → Collected) (a : Answer) (map' ranges' locations' strings' out' : List ℕ) (m m₀ r r₀ l l₀ s s₀ o o₀ : ℕ)
    → m ≡ m₀ → r ≡ r₀ → l ≡ l₀ → s ≡ s₀ → o ≡ o₀
    → Answers (f m r l s o) a m r l s o map' ranges' locations' strings' out' → Answers (f m₀ r₀ l₀ s₀ o₀) a m₀ r₀ l₀ s₀ o₀ map' ranges' locations' strings' out'
by_lengths f a map' ranges' locations' strings' out' m m₀ r r₀ l l₀ s s₀ o o₀ em er el es eo h =
    subst (λ (z : ℕ). Answers (f m₀ r₀ l₀ s₀ z) a m₀ r₀ l₀ s₀ z map' ranges' locations' strings' out') eo
    (subst (λ (z : ℕ). Answers (f m₀ r₀ l₀ z o) a m₀ r₀ l₀ z o map' ranges' locations' strings' out') es
    (subst (λ (z : ℕ). Answers (f m₀ r₀ z s o) a m₀ r₀ z s o map' ranges' locations' strings' out') el
    (subst (λ (z : ℕ). Answers (f m₀ z l s o) a m₀ z l s o map' ranges' locations' strings' out') er
    (subst (λ (z : ℕ). Answers (f z r l s o) a z r l s o map' ranges' locations' strings' out') em h))))

-- the answer for marked tables and cleared outputs
pub unit-answers : (x : Sections) (tables : Rooms) (t : Bool) (section : List ℕ) (task : Result (Option Task) ℕ) (h : Result (Option UnitHeader) ℕ) (u : Result UnitMarks ℕ) (n p e k m r l s o : ℕ)
    (index parents ends marks map ranges locations strings out map' ranges' locations' strings' out' : List ℕ) (a : Answer)
    → task ≡ task_of h u → h ≡ header_by x section → u ≡ unit_marks (analysis_of x section tables)
    → index ≡ index_after x.abbreviations (header_by x section) n → length index ≡ n
    → parents ≡ column parents_in p (analysis_of x section tables) → length parents ≡ p
    → length ends ≡ e → tables.entries ≤ e
    → marks ≡ column marks_in k (analysis_of x section tables) → length marks ≡ k
    → map ≡ zeros m → length map ≡ m → ranges ≡ zeros r → length ranges ≡ r → locations ≡ zeros l → length locations ≡ l
    → strings ≡ zeros s → length strings ≡ s → out ≡ zeros o → length out ≡ o
    → ((x' : Sections) (tables' : Rooms) → MarkedTables x' tables' section task x.abbreviations index parents ends marks → Blank map ranges locations strings out
    → Answers (collect_of x' (room_by tables' (length map) (length ranges) (length locations) (length strings) (length out)) t section) a (length map) (length ranges) (length locations) (length strings) (length out) map' ranges' locations' strings' out')
    → Answers (collect_of x (room_by tables m r l s o) t section) a m r l s o map' ranges' locations' strings' out'
unit-answers x tables t section task h u n p e k m r l s o index parents ends marks map ranges locations strings out map' ranges' locations' strings' out' a q hq uq i il ps pl le en ms ml z₁ l₁ z₂ l₂ z₃ l₃ z₄ l₄ z₅ l₅ f =
    by_lengths (λ m r l s o. collect_of x (room_by tables m r l s o) t section) a map' ranges' locations' strings' out'
    (length map) m (length ranges) r (length locations) l (length strings) s (length out) o l₁ l₂ l₃ l₄ l₅
    (f x tables
    (record {
      abbreviations_are = refl;
      task_is = q ∙ ap₂ task_of hq uq;
      index_is = by-own (index_after x.abbreviations (header_by x section)) n index i il;
      parents_are = by-own (λ (z : ℕ). column parents_in z (analysis_of x section tables)) p parents ps pl;
      marks_are = by-own (λ (z : ℕ). column marks_in z (analysis_of x section tables)) k marks ms ml;
      ends_room = let g : tables.entries ≤ length ends = omega (arith, en) in g;
    })
    (record {
      map_blank = by-own zeros m map z₁ l₁;
      ranges_blank = by-own zeros r ranges z₂ l₂;
      locations_blank = by-own zeros l locations z₃ l₃;
      strings_blank = by-own zeros s strings z₄ l₄;
      out_blank = by-own zeros o out z₅ l₅;
    }))
