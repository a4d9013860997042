-- The unit of marked tables: what its parts ask for holds, and what they answer is the answer for it. Assumes nothing.
use Rattle.std.proofs.lemmas.Option.{same_Some}
use mathlib.Core.Path.{◌≡◌, refl, ap, sym, ◌∙◌, subst}
use Prim.Native.Nat.{ℕ, zero, suc, ◌+◌, ◌-◌, ◌^◌, ◌≤◌, ◌<◌}
use native.Mathlib.Omega.{arith}
use mathlib.Core.Bool.{Bool, true, false, false≢true}
use mathlib.Core.List.{List, [], ◌∷◌, ◌++◌}
use Rattle.std.specs.Prelude.{Option, Err, None, Ok}
use lib.ListN.{length, take, get_or}
use lib.Dec.{leb}
use borrow.Author.Tests.{eq-eqb, ne_eqb}
use Rattle.readers.specs.Choice.{pick, zeros}
use Rattle.readers.proofs.Choice.{pick-either}
use Rattle.readers.specs.Abbreviations.{Placed, abbreviations_of, index_of, find_at}
use Rattle.readers.specs.Stream.{Item, entry, terminator}
use Rattle.readers.specs.declared.header.UnitHeader.{UnitHeader}
use Rattle.readers.proofs.Declarations.{find-plain}
use Rattle.marking.specs.Analysis.{Sections, Rooms, EntryRow, analysed, unit_analysed, header_analysed, analysis_of}
use Rattle.marking.specs.Columns.{pad_to, parents_in}
use Rattle.marking.proofs.Rows.{unit-rows}
use Rattle.marking.proofs.ListedHeaders.{analysed-listed}
use Rattle.marking.specs.Marks.{is_kept, kept_count}
use Rattle.marking.specs.Resolution.{marks_in}
use Rattle.rewriting.specs.Places.{NestedItem, with_if, innermost, kept_from}
use Rattle.readers.specs.Stream.{entry_count}
use Rattle.readers.specs.Nesting.{opened, closed}
use Rattle.rewriting.specs.Inner.Parents.{parents_from, HoldsFrom}
use Rattle.rewriting.specs.Inner.Ends.{EndsHeld}
use Rattle.rewriting.specs.Inner.NextKept.{items_by}
use Rattle.rewriting.specs.Rewriting.{Unit as Unit', unit_of, Lists, Room, Collected, untouched, refused, items_in, lists_of, lists_fit, or_refused, rewrite_of, marks_collected}
use Rattle.rewriting.specs.Inner.IndexLists.{ReadAs, TablesFound, PassInput}
use Rattle.rewriting.specs.Inner.Emission.{ListsLent}
use Rattle.rewriting.specs.Outputs.{Answer, room_by, list_count, answer_for, map_for, output_for, list_or, list_for, ranges_in, locations_in, strings_in}
use Rattle.rewriting.specs.Inner.Leaving.{Accepts, Answers, Tabled, Blank, marked_of, list_room, ListsAnswer, Writable, WriteAnswer}
use Rattle.rewriting.specs.declared.kept_items.Reading.{Reading}
use Rattle.rewriting.specs.Refusals.{lists_counted}
use Rattle.rewriting.specs.declared.collect.Listed.{Listed}
use Rattle.rewriting.specs.declared.collect.Collected.TheVariants.{Untouched}
use Rattle.readers.specs.Header.{length_size}
use Rattle.readers.proofs.HeaderLaws.{HeaderLaw, header-laws}
use Rattle.rewriting.proofs.Whole.AcceptedUnits.{Accepted}
use Rattle.rewriting.proofs.KeptPass.ReadableItems.{accepted-readable}
use Rattle.rewriting.proofs.KeptPass.ParentsOf.{parents-held, parents-of}
use Rattle.rewriting.proofs.KeptPass.UnitKept.{reading, items-read}
use Rattle.rewriting.proofs.ListPass.ListAnswers.{items-are, passable}
use Rattle.rewriting.proofs.Whole.Answering.{refused-answers}

-- ---- marks with zeros after them

get-zeros : (n i : ℕ) → get_or (zeros n) i 0 ≡ 0
get-zeros zero i = refl
get-zeros (suc n) zero = refl
get-zeros (suc n) (suc i) = get-zeros n i

get-padded : (xs : List ℕ) (n i : ℕ) → get_or (xs ++ zeros n) i 0 ≡ get_or xs i 0
get-padded [] n i = get-zeros n i
get-padded (x ∷ xs) n zero = refl
get-padded (x ∷ xs) n (suc i) = get-padded xs n i

kept-padded : (n : ℕ) (marks : List ℕ) (i : ℕ) → is_kept (pad_to n marks) i ≡ is_kept marks i
unfolding is_kept pad_to
kept-padded n marks i = ap (leb 2) (get-padded marks (n - length marks) i)

same_kept : (a b : List ℕ) → ((i : ℕ) → is_kept a i ≡ is_kept b i) → (k : ℕ) (stack : List Bool) (items : List Item) → kept_from a k stack items ≡ kept_from b k stack items
unfolding kept_from
same_kept a b f k stack [] = refl
same_kept a b f k stack (entry x ∷ rest) =
    let s : NestedItem = record { item = entry x; depth = length stack } in
    ap (λ (z : Bool). with_if z s (kept_from a (suc k) (opened x.declaration.children z stack) rest)) (f k)
    ∙ ap (with_if (is_kept b k) s) (same_kept a b f (suc k) (opened x.declaration.children (is_kept b k) stack) rest)
same_kept a b f k stack (terminator p q ∷ rest) =
    ap (with_if (innermost stack) (record { item = terminator p q; depth = length stack })) (same_kept a b f k (closed stack) rest)

-- ---- tests

pub pick_is : {A : Type 0} (b : Bool) (y z : A) → b ≡ true → pick b y z ≡ y
unfolding pick
pick_is true y z q = refl
pick_is false y z q = absurd (false≢true q)

pub pick-else : {A : Type 0} (b : Bool) (y z : A) → b ≡ false → pick b y z ≡ z
unfolding pick
pick-else true y z q = absurd (false≢true (sym q))
pick-else false y z q = refl

true-or-false : (b : Bool) (P : Type 0) → (b ≡ true → P) → (b ≡ false → P) → P
true-or-false true P f g = f refl
true-or-false false P f g = g refl

-- ---- what is asked for

module _ (x : Sections) (tables : Rooms) (section : List ℕ) (h : UnitHeader) (ds : List Placed) (rows : List EntryRow) (s index parents ends marks : List ℕ) (entries kept : ℕ)
    (w : Tabled x tables section h ds rows s index parents ends marks entries kept) (unit : List ℕ) (is : unit ≡ take h.end section) where
  abbrev own : Unit'
  own = unit_of h section ds

  abbrev how : Reading
  how = reading h.abbreviations h.encoding

  law : HeaderLaw x.setting.big_endian (take h.end section) h
  law = header-laws x.setting.big_endian section h w.header_is

  read_as : ReadAs x own how s unit
  read_as =
      record {
        abbreviations_are = w.abbreviations_are;
        bytes_are = sym is;
        encoding_is = refl;
        declared_are = ap (λ (l : List ℕ). abbreviations_of l h.abbreviations) (sym w.abbreviations_are) ∙ w.declared_are;
      }

  found : TablesFound own how s index
  found code =
      ap (λ (i : List ℕ). find_at s h.abbreviations i code) w.index_is
      ∙ ap (λ (z : List ℕ). find_at z h.abbreviations (index_of x.abbreviations h.abbreviations (length index)) code) (sym w.abbreviations_are)
      ∙ find-plain x.abbreviations h.abbreviations (length index) ds w.declared_are code

  unit-analysed : unit_analysed h.encoding x (take h.end section) tables h.abbreviations h.first.0 ≡ analysed rows
  unfolding analysis_of header_analysed
  unit-analysed =
      sym (ap (header_analysed x section tables) (analysed-listed x section tables rows w.analysis_is ∙ w.header_is)) ∙ w.analysis_is

  parents-there : HoldsFrom parents 0 (parents_from 0 [] (items_in x own))
  unfolding items_in
  parents-there =
      subst (λ (p : List ℕ). HoldsFrom p 0 (parents_from 0 [] (items_in x own))) (sym w.parents_are)
      (subst (λ (i : List Item). HoldsFrom (pad_to (length parents) (parents_in rows)) 0 (parents_from 0 [] i))
      (items-read h.abbreviations h.encoding x.abbreviations (take h.end section) (length index) ds w.declared_are h.first.0)
      (parents-held h.encoding x (take h.end section) tables h.abbreviations h.first.0 rows unit-analysed (length index) (length parents)))

  -- any room with these tables
  accepted : (room : Room) → room.tables ≡ tables → Accepted x room section h ds rows
  accepted room q = record { header = w.header_is; declared = w.declared_are; analysis = ap (analysis_of x section) q ∙ w.analysis_is }

  length-unit : length unit ≡ length (take h.end section)
  length-unit = ap length is

  -- the column of ends has room for all entries
  entries_fit : entry_count (items_by how s index unit h.first.0) ≤ length ends
  unfolding items_in
  entries_fit =
      let many : length rows ≡ entry_count (items_in x own) =
      (parents-of h.encoding x (take h.end section) tables h.abbreviations h.first.0 rows unit-analysed ds w.declared_are).many in
      let few : length rows ≤ tables.entries = (unit-rows h.encoding x (take h.end section) tables h.abbreviations h.first.0 rows unit-analysed).entries in
      let same : entry_count (items_by how s index unit h.first.0) ≡ entry_count (items_in x own) = ap entry_count (items-are x own how s index unit read_as found) in
      omega (arith, w.ends_room)

  abbrev pub FilledBy : List ℕ → Type 0
  FilledBy ends' = entry_count (items_by how s index unit h.first.0) ≤ length ends → EndsHeld ends' 0 (items_by how s index unit h.first.0)

  pub unit-passes : (ends' : List ℕ) → FilledBy ends' → PassInput x own how s index unit parents ends' marks h.first.0
  unit-passes ends' fe =
      passable x own how s index unit read_as found parents ends' marks parents-there
      (subst (EndsHeld ends' 0) (items-are x own how s index unit read_as found) (fe entries_fit))
      (accepted-readable x (room_by tables 0 0 0 0 0) section h ds rows (accepted (room_by tables 0 0 0 0 0) refl) marks)

  pub unit-writable : (map ranges locations strings out : List ℕ) → Blank map ranges locations strings out
      → Writable own (room_by tables (length map) (length ranges) (length locations) (length strings) (length out)) unit h.first.0 map out
  unit-writable map ranges locations strings out b =
      record {
        first_is = refl;
        after = law.after;
        inside = let l : h.first.0 ≤ length (take h.end section) = law.inside in omega (arith, length-unit);
        wide = law.known.offset_is;
        short =
            subst (λ (n : ℕ). n < length_size h.encoding + 256 ^ h.encoding.offset_size) (sym length-unit) law.short;
        places_are = refl;
        bytes_are = refl;
        map_blank = b.map_blank;
        out_blank = b.out_blank;
      }

  -- what is kept, by the marks alone
  pub kept_here : kept_from marks 0 [] (items_in x own) ≡ kept_from (marks_in rows) 0 [] (items_in x own)
  kept_here = ap (λ (m : List ℕ). kept_from m 0 [] (items_in x own)) w.marks_are ∙ same_kept (pad_to (length marks) (marks_in rows)) (marks_in rows) (kept-padded (length marks) (marks_in rows)) 0 [] (items_in x own)

-- ---- the lists of a rewritten unit

rewrite-lists : (x : Sections) (room : Room) (u : Unit') (entries kept : ℕ) (l : Lists) (items : List NestedItem) (f : Lists → Option (List ℕ)) (n : ℕ)
    → Accepts (rewrite_of x room u entries kept l items) → list_or n (f l) ≡ list_for f n (rewrite_of x room u entries kept l items)
unfolding rewrite_of or_refused Accepts list_for
rewrite-lists x room u entries kept l items f n =
    let P : Collected → Type 0 = (λ c. Accepts c → list_or n (f l) ≡ list_for f n c) in
    pick-either P _ _ _ (λ _. pick-either P _ _ _ (λ _. pick-either P _ _ _ (λ _ _. refl) (λ _ a. absurd a)) (λ _ a. absurd a)) (λ _ a. absurd a)

-- ---- the answers

module _ (t : Bool) (section : List ℕ) (h : UnitHeader) (s index parents ends marks : List ℕ) (entries kept : ℕ) (map ranges locations strings out unit : List ℕ) (is : unit ≡ take h.end section)
    (ends' : List ℕ)
    (fe : entry_count (items_by (reading h.abbreviations h.encoding) s index unit h.first.0) ≤ length ends → EndsHeld ends' 0 (items_by (reading h.abbreviations h.encoding) s index unit h.first.0))
    (listed : Option Listed) (ranges' locations' strings' : List ℕ)
    (il : (x : Sections) (u : Unit') → PassInput x u (reading h.abbreviations h.encoding) s index unit parents ends' marks h.first.0 → h.first.0 ≡ u.header.first.0
    → ranges ≡ zeros (length ranges) → locations ≡ zeros (length locations) → strings ≡ zeros (length strings)
    → ListsAnswer (lists_of x u t (kept_from marks 0 [] (items_in x u))) (length ranges) (length locations) (length strings) listed ranges' locations' strings') where
  abbrev Goal : Answer → List ℕ → List ℕ → Type 0
  Goal a map' out' = (x : Sections) (tables : Rooms) (ds : List Placed) (rows : List EntryRow) → Tabled x tables section h ds rows s index parents ends marks entries kept → Blank map ranges locations strings out
      → Answers (marked_of x (room_by tables (length map) (length ranges) (length locations) (length strings) (length out)) t (unit_of h section ds) rows) a
      (length map) (length ranges) (length locations) (length strings) (length out) map' ranges' locations' strings' out'

  module _ (x : Sections) (tables : Rooms) (ds : List Placed) (rows : List EntryRow) (w : Tabled x tables section h ds rows s index parents ends marks entries kept) (b : Blank map ranges locations strings out) where
    abbrev room : Room
    room = room_by tables (length map) (length ranges) (length locations) (length strings) (length out)

    abbrev u : Unit'
    u = unit_of h section ds

    abbrev items : List NestedItem
    items = kept_from (marks_in rows) 0 [] (items_in x u)

    abbrev l : Lists
    l = lists_of x u t items

    those : ListsAnswer l (length ranges) (length locations) (length strings) listed ranges' locations' strings'
    those =
        subst (λ (k : List NestedItem). ListsAnswer (lists_of x u t k) (length ranges) (length locations) (length strings) listed ranges' locations' strings')
        (kept_here x tables section h ds rows s index parents ends marks entries kept w unit is)
        (il x u (unit-passes x tables section h ds rows s index parents ends marks entries kept w unit is ends' fe) refl b.ranges_blank b.locations_blank b.strings_blank)

    abbrev fit : Bool
    fit = lists_fit (list_room (length ranges) (length locations) (length strings)) l

    fits-made : (p q r : Option ℕ) → listed ≡ lists_counted p q r → fit ≡ true
    fits-made p q r e =
        true-or-false fit (fit ≡ true) (λ y. y) (λ n. let z : None ≡ lists_counted p q r = sym (those.short n) ∙ e in let k : ◌≡◌ {A = ℕ} 0 1 = cc in absurd (omega arith))

    fits-short : listed ≡ None → fit ≡ false
    fits-short e =
        true-or-false fit (fit ≡ false) (λ y. let z : lists_counted (list_count l.ranges) (list_count l.locations) (list_count l.strings) ≡ None = sym (those.made y) ∙ e in let k : ◌≡◌ {A = ℕ} 0 1 = cc in absurd (omega arith)) (λ n. n)

    is-short-of : fit ≡ false → marked_of x room t u rows ≡ refused 12
    unfolding marks_collected lists_fit
    is-short-of q = pick-else _ _ _ q

    is-untouched : fit ≡ true → kept_count (marks_in rows) ≡ length (marks_in rows) → marked_of x room t u rows ≡ untouched (length (marks_in rows)) l
    unfolding marks_collected lists_fit
    is-untouched q e = pick_is _ _ _ q ∙ pick_is _ _ _ (eq-eqb _ _ e)

    is-written : fit ≡ true → (kept_count (marks_in rows) ≡ length (marks_in rows) → ⊥) → marked_of x room t u rows ≡ rewrite_of x room u (length (marks_in rows)) (kept_count (marks_in rows)) l items
    unfolding marks_collected lists_fit
    is-written q e = pick_is _ _ _ q ∙ pick-else _ _ _ (ne_eqb _ _ e)

    counts : (p q r : Option ℕ) → listed ≡ lists_counted p q r → (p ≡ list_count l.ranges) × (q ≡ list_count l.locations) × (r ≡ list_count l.strings)
    counts p q r e =
        let z = same_Some _ _ (sym e ∙ those.made (fits-made p q r e)) in
        (ap (λ c. c.ranges) z, ap (λ c. c.locations) z, ap (λ c. c.strings) z)

    short-one : listed ≡ None → Answers (marked_of x room t u rows) (Err 12) (length map) (length ranges) (length locations) (length strings) (length out) map ranges' locations' strings' out
    short-one e = refused-answers (marked_of x room t u rows) (Err 12) (length map) (length ranges) (length locations) (length strings) (length out) map ranges' locations' strings' out 12 (is-short-of (fits-short e)) refl

    untouched-one : (p q r : Option ℕ) → listed ≡ lists_counted p q r → kept ≡ entries
        → Answers (marked_of x room t u rows) (Ok (Untouched (record { entries = entries; kept = kept; places = 0; bytes = 0; ranges = p; locations = q; strings = r })))
        (length map) (length ranges) (length locations) (length strings) (length out) map ranges' locations' strings' out
    unfolding answer_for map_for list_for output_for
    untouched-one p q r e k =
        let y : fit ≡ true = fits-made p q r e in
        let n : ℕ = length (marks_in rows) in
        let c : marked_of x room t u rows ≡ untouched n l = is-untouched y (sym w.kept_are ∙ k ∙ w.entries_are) in
        let z = counts p q r e in
        let ek : kept ≡ n = k ∙ w.entries_are in
        record {
          told =
              ap (λ (v : ℕ). Ok (Untouched (record { entries = v; kept = kept; places = 0; bytes = 0; ranges = p; locations = q; strings = r }))) w.entries_are
              ∙ ap (λ (v : ℕ). Ok (Untouched (record { entries = n; kept = v; places = 0; bytes = 0; ranges = p; locations = q; strings = r }))) ek
              ∙ ap (λ (v : Option ℕ). Ok (Untouched (record { entries = n; kept = n; places = 0; bytes = 0; ranges = v; locations = q; strings = r }))) z.0
              ∙ ap (λ (v : Option ℕ). Ok (Untouched (record { entries = n; kept = n; places = 0; bytes = 0; ranges = list_count l.ranges; locations = v; strings = r }))) z.1
              ∙ ap (λ (v : Option ℕ). Ok (Untouched (record { entries = n; kept = n; places = 0; bytes = 0; ranges = list_count l.ranges; locations = list_count l.locations; strings = v }))) z.2
              ∙ sym (ap answer_for c);
          map_left = λ _. b.map_blank ∙ sym (ap (map_for (length map)) c);
          ranges_left = λ _. those.ranges_left y ∙ sym (ap (list_for ranges_in (length ranges)) c);
          locations_left = λ _. those.locations_left y ∙ sym (ap (list_for locations_in (length locations)) c);
          strings_left = λ _. those.strings_left y ∙ sym (ap (list_for strings_in (length strings)) c);
          out_left = λ _. b.out_blank ∙ sym (ap (output_for (length out)) c);
        }

    module _ (p q r : Option ℕ) (e : listed ≡ lists_counted p q r) (dead : kept ≡ entries → ⊥) (a : Answer) (map' out' : List ℕ)
        (k : (x : Sections) (u : Unit') (lists : Lists) (room : Room) → PassInput x u (reading h.abbreviations h.encoding) s index unit parents ends' marks h.first.0
        → ListsLent lists ranges' p locations' q strings' r → Writable u room unit h.first.0 map out
        → WriteAnswer (rewrite_of x room u entries kept lists (kept_from marks 0 [] (items_in x u))) a (length map) (length out) map' out') where
      abbrev wanted : Collected
      wanted = rewrite_of x room u (length (marks_in rows)) (kept_count (marks_in rows)) l items

      lent-here : ListsLent l ranges' p locations' q strings' r
      lent-here =
          let z = counts p q r e in
          subst (λ (v : Option ℕ). ListsLent l ranges' v locations' q strings' r) (sym z.0)
          (subst (λ (v : Option ℕ). ListsLent l ranges' (list_count l.ranges) locations' v strings' r) (sym z.1)
          (subst (λ (v : Option ℕ). ListsLent l ranges' (list_count l.ranges) locations' (list_count l.locations) strings' v) (sym z.2) (those.lent (fits-made p q r e))))

      wrote : WriteAnswer wanted a (length map) (length out) map' out'
      wrote =
          subst (λ (v : ℕ). WriteAnswer (rewrite_of x room u v (kept_count (marks_in rows)) l items) a (length map) (length out) map' out') w.entries_are
          (subst (λ (v : ℕ). WriteAnswer (rewrite_of x room u entries v l items) a (length map) (length out) map' out') w.kept_are
          (subst (λ (v : List NestedItem). WriteAnswer (rewrite_of x room u entries kept l v) a (length map) (length out) map' out')
          (kept_here x tables section h ds rows s index parents ends marks entries kept w unit is)
          (k x u l room (unit-passes x tables section h ds rows s index parents ends marks entries kept w unit is ends' fe) lent-here
          (unit-writable x tables section h ds rows s index parents ends marks entries kept w unit is map ranges locations strings out b))))

      written_one : Answers (marked_of x room t u rows) a (length map) (length ranges) (length locations) (length strings) (length out) map' ranges' locations' strings' out'
      written_one =
          let y : fit ≡ true = fits-made p q r e in
          let c : marked_of x room t u rows ≡ wanted = is-written y (λ z. dead (w.kept_are ∙ z ∙ sym w.entries_are)) in
          subst (λ (v : Collected). Answers v a (length map) (length ranges) (length locations) (length strings) (length out) map' ranges' locations' strings' out') (sym c)
          (record {
            told = wrote.told;
            map_left = wrote.map_left;
            ranges_left = λ z. those.ranges_left y ∙ rewrite-lists x room u (length (marks_in rows)) (kept_count (marks_in rows)) l items ranges_in (length ranges) z;
            locations_left = λ z. those.locations_left y ∙ rewrite-lists x room u (length (marks_in rows)) (kept_count (marks_in rows)) l items locations_in (length locations) z;
            strings_left = λ z. those.strings_left y ∙ rewrite-lists x room u (length (marks_in rows)) (kept_count (marks_in rows)) l items strings_in (length strings) z;
            out_left = wrote.out_left;
          })

  pub short-unit : listed ≡ None → Goal (Err 12) map out
  short-unit e x tables ds rows w b = short-one x tables ds rows w b e

  pub untouched-unit : (p q r : Option ℕ) → listed ≡ lists_counted p q r → kept ≡ entries
      → Goal (Ok (Untouched (record { entries = entries; kept = kept; places = 0; bytes = 0; ranges = p; locations = q; strings = r }))) map out
  untouched-unit p q r e k x tables ds rows w b = untouched-one x tables ds rows w b p q r e k

  pub written-unit : (p q r : Option ℕ) → listed ≡ lists_counted p q r → (kept ≡ entries → ⊥) → (a : Answer) (map' out' : List ℕ)
      → ((x : Sections) (u : Unit') (lists : Lists) (room : Room) → PassInput x u (reading h.abbreviations h.encoding) s index unit parents ends' marks h.first.0
      → ListsLent lists ranges' p locations' q strings' r → Writable u room unit h.first.0 map out
      → WriteAnswer (rewrite_of x room u entries kept lists (kept_from marks 0 [] (items_in x u))) a (length map) (length out) map' out')
      → Goal a map' out'
  written-unit p q r e dead a map' out' k x tables ds rows w b = written_one x tables ds rows w b p q r e dead a map' out' k
