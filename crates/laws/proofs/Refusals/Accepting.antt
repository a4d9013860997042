-- A unit that is read and has no cause of a refusal is accepted. Assumes nothing.
use Prim.Native.Nat.{ℕ, ◌+◌, ◌≤◌, ◌<◌}
use mathlib.Core.Path.{◌≡◌, refl, ap, ◌∙◌}
use mathlib.Core.Bool.{Bool, true, false, false≢true}
use mathlib.Core.List.{List, [], ◌∷◌}
use native.Mathlib.Omega.{arith}
use lib.ListN.{length}
use lib.Dec.{T, leb, eqb}
use mir.Facts.{yes_eqb, no_eqb, yes_leb}
use Rattle.readers.proofs.Choice.{pick_yes, pick_no}
use Rattle.marking.specs.Analysis.{Sections, EntryRow}
use Rattle.marking.specs.Marks.{kept_count}
use Rattle.marking.specs.Resolution.{marks_in}
use Rattle.marking.proofs.UnitMarkings.{marks-each}
use Rattle.rewriting.specs.Places.{NestedItem, kept_from, Place, places_from, size_from}
use Rattle.rewriting.specs.Rewriting.{Unit as Unit', items_in, Lists, no_lists, refusal_from, Room, untouched, rewritten, lists_fit, or_refused, rewrite_of, marks_collected, rows_collected, analysed_collected, declared_collected, header_collected, collect_of}
use Rattle.laws.specs.RefusalStages.{UnitRead, unit_read, kept_in, lists_in, Acceptable, rewrite_in, AcceptedAs}
use Rattle.laws.proofs.Refusals.ValueRefusals.{none-means}
use Rattle.marking.proofs.ListedHeaders.{analysed-listed}

so : (b : Bool) → b ≡ true → T b
so true q = tt
so false q = absurd (false≢true q)

module _ (x : Sections) (room : Room) (type_units : Bool) where
  rows_on : (u : Unit') (rows : List EntryRow) → 0 < length rows
      → rows_collected x room type_units u rows ≡ marks_collected x room type_units u (marks_in rows) (kept_from (marks_in rows) 0 [] (items_in x u))
  unfolding rows_collected
  rows_on u [] h = absurd (omega arith)
  rows_on u (r ∷ rows) h = refl

  rows_none : (u : Unit') (rows : List EntryRow) → length rows ≡ 0 → rows_collected x room type_units u rows ≡ untouched 0 no_lists
  unfolding rows_collected
  rows_none u [] h = refl
  rows_none u (r ∷ rows) h = absurd (omega arith)

module _ (x : Sections) (room : Room) (type_units : Bool) (section : List ℕ) (u : UnitRead x room section) where
  abbrev unit : Unit'
  unit = unit_read x room type_units section u

  abbrev marks : List ℕ
  marks = marks_in u.rows

  abbrev kept : List NestedItem
  kept = kept_in x room type_units section u

  abbrev lists : Lists
  lists = lists_in x room type_units section u

  abbrev places : List Place
  places = places_from u.header.first.0 kept

  -- the answer, by the rows
  pub read-on : collect_of x room type_units section ≡ rows_collected x room type_units unit u.rows
  unfolding collect_of header_collected declared_collected analysed_collected
  read-on =
      ap (header_collected x room type_units section) (analysed-listed x section room.tables u.rows u.rows_are ∙ u.header_is) ∙ ap (declared_collected x room type_units section u.header) u.declared_are
      ∙ ap (analysed_collected x room type_units unit) u.rows_are

  pub marks-on : 0 < length u.rows → collect_of x room type_units section ≡ marks_collected x room type_units unit marks kept
  marks-on h = read-on ∙ rows_on x room type_units unit u.rows h

  -- something is dead, and the lists fit
  pub dead-on : kept_count marks < length marks → lists_fit room lists ≡ true
      → collect_of x room type_units section ≡ rewrite_of x room unit (length marks) (kept_count marks) lists kept
  unfolding marks_collected
  dead-on d l =
      marks-on (omega (arith, marks-each u.rows)) ∙ pick_yes (lists_fit room lists) _ _ (so _ l)
      ∙ pick_no (eqb (kept_count marks) (length marks)) _ _ (no_eqb {a = kept_count marks} {b = length marks} (omega arith))

  -- and map and output
  pub room-on : kept_count marks < length marks → lists_fit room lists ≡ true → length kept ≤ room.places → u.header.first.0 + size_from kept ≤ room.bytes
      → collect_of x room type_units section ≡ or_refused x room (refusal_from x unit lists places kept) (rewritten (rewrite_in x room type_units section u))
  unfolding rewrite_of
  room-on d l p b =
      dead-on d l ∙ pick_yes (leb (length kept) room.places) _ _ (yes_leb {a = length kept} {b = room.places} p)
      ∙ pick_yes (leb (u.header.first.0 + size_from kept) room.bytes) _ _ (yes_leb {a = u.header.first.0 + size_from kept} {b = room.bytes} b)

  accepted-thinned : Acceptable x room type_units section u → kept_count marks < length marks
      → collect_of x room type_units section ≡ rewritten (rewrite_in x room type_units section u)
  unfolding or_refused
  accepted-thinned a d =
      let r = a.rewritable d in
      room-on d a.listed r.mapped r.written
      ∙ pick_yes (eqb (refusal_from x unit lists places kept) 0) _ _
      (yes_eqb {a = refusal_from x unit lists places kept} {b = 0} ((none-means x unit lists u.header.first.0 kept).1 r.fine))

  accepted-whole : Acceptable x room type_units section u → 0 < length u.rows → kept_count marks ≡ length marks
      → collect_of x room type_units section ≡ untouched (length u.rows) lists
  unfolding marks_collected
  accepted-whole a h q =
      marks-on h ∙ pick_yes (lists_fit room lists) _ _ (so _ a.listed)
      ∙ pick_yes (eqb (kept_count marks) (length marks)) _ _ (yes_eqb {a = kept_count marks} {b = length marks} q)
      ∙ ap (λ (n : ℕ). untouched n lists) (marks-each u.rows)

  -- THE acceptance: every unit that is read and has no cause of a refusal
  pub accepted-law : Acceptable x room type_units section u → AcceptedAs x room type_units section u
  accepted-law a =
      record {
        thinned = accepted-thinned a;
        whole = accepted-whole a;
        empty = λ z. read-on ∙ rows_none x room type_units unit u.rows z;
      }
