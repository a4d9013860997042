-- The marks of an accepted unit keep exactly the survivors, and with each entry its parent: the innermost open entry around it. Assumes nothing.
use mathlib.Core.Path.{◌≡◌, refl, ap, ◌∙◌, subst}
use Prim.Native.Nat.{ℕ, suc, ◌+◌, ◌≤◌, ◌<◌}
use native.Mathlib.Omega.{arith}
use mathlib.Core.Bool.{Bool, true, false}
use mathlib.Core.List.{List, [], ◌∷◌, map}
use mathlib.Core.Logic.{◌↔◌}
use lib.ListN.{length, get_or, take}
use lib.Dec.{T}
use Rattle.readers.specs.Lists.{list_base}
use Rattle.readers.specs.Nesting.{no_parent, opened, closed, top}
use Rattle.readers.specs.Abbreviations.{Placed}
use Rattle.readers.specs.Stream.{Item, entry, terminator}
use Rattle.readers.specs.declared.cursor.Encoding.{Encoding}
use Rattle.readers.specs.declared.header.UnitHeader.{UnitHeader}
use Rattle.marking.specs.Below.{Number}
use Rattle.marking.specs.Graph.{Graph, size, is_parent, well_formed}
use Rattle.marking.specs.Survivors.{Survivor, parent}
use Rattle.marking.specs.Marks.{marks_of, is_kept, kept_count}
use Rattle.marking.specs.Analysis.{Sections, EntryRow, base_of}
use Rattle.marking.specs.Columns.{parents_in}
use Rattle.marking.specs.Resolution.{graph_of, marks_in}
use Rattle.laws.specs.UnitSurvivors.{SurvivorsOf}
use Rattle.marking.specs.EntryRows.{RowsOf}
use Rattle.marking.proofs.Graphs.{WellFormed, well-formed, parent_in}
use Rattle.laws.proofs.Survivors.KeptMarks.{marked-kept, kept-marked}
use Rattle.laws.proofs.Survivors.UnitLaws.{formed, unit-survivors}
use Rattle.marking.proofs.UnitMarkings.{graph-size, marks-each}
use Rattle.rewriting.specs.Places.{innermost}
use Rattle.laws.specs.Inner.Moved.{ParentsKept}
use Rattle.rewriting.specs.Rewriting.{Room, items_in, unit_of}
use Rattle.rewriting.proofs.Whole.AcceptedUnits.{accepted-follow, Accepted}

-- ---- whether the open entries are kept

module _ (f : ℕ → Bool) where
  open-same : (children : Bool) (k : ℕ) (stack : List ℕ) → map f (opened children k stack) ≡ opened children (f k) (map f stack)
  unfolding opened
  open-same true k stack = refl
  open-same false k stack = refl

  close-same : (stack : List ℕ) → map f (closed stack) ≡ closed (map f stack)
  unfolding closed
  close-same [] = refl
  close-same (k ∷ stack) = refl

-- an open entry came before
unfoldable Before : ℕ → List ℕ → Type 0
Before k [] = Unit {0}
Before k (i ∷ stack) = (i < k) × Before k stack

before_more : (k : ℕ) (stack : List ℕ) → Before k stack → Before (suc k) stack
unfolding Before
before_more k [] b = tt
before_more k (i ∷ stack) b = (let l : i < k = b.0 in omega arith, before_more k stack b.1)

before-open : (children : Bool) (k : ℕ) (stack : List ℕ) → Before k stack → Before (suc k) (opened children k stack)
unfolding Before opened
before-open true k stack b = (omega arith, before_more k stack b)
before-open false k stack b = before_more k stack b

before-close : (k : ℕ) (stack : List ℕ) → Before k stack → Before k (closed stack)
unfolding Before closed
before-close k [] b = tt
before-close k (i ∷ stack) b = b.1

-- ---- a kept entry's parent is kept

module _ (g : Graph) (w : WellFormed g) (few : size g ≤ no_parent) where
  abbrev marks : List ℕ
  marks = marks_of g

  parent-kept : (k : ℕ) (stack : List ℕ) → Before k stack → k < size g → get_or g.parents k 0 ≡ top stack
      → T (is_kept marks k) → 0 < length (map (is_kept marks) stack) → T (innermost (map (is_kept marks) stack))
  unfolding Before top innermost
  parent-kept k [] b h q t l = absurd (omega arith)
  parent-kept k (i ∷ stack) b h q t l =
      let p : is_parent g (get_or g.parents k 0) k ≡ true = parent_in g k h (λ z. let o : i < k = b.0 in absurd (omega arith)) in
      kept-marked g w i (subst (Survivor g) q (parent p (marked-kept g w k t)))

  module _ (e : Encoding) (x : Sections) (unit : List ℕ) where
    abbrev Tail : ℕ → List EntryRow → Type 0
    Tail k rows = (j : ℕ) → j < length rows → get_or g.parents (k + j) 0 ≡ get_or (parents_in rows) j 0

    tail-first : (k : ℕ) (r : EntryRow) (rows : List EntryRow) → Tail k (r ∷ rows) → get_or g.parents k 0 ≡ r.parent
    unfolding parents_in
    tail-first k r rows t = ap (λ (n : ℕ). get_or g.parents n 0) (let q : k ≡ k + 0 = omega arith in q) ∙ t 0 (omega arith)

    tail-next : (k : ℕ) (r : EntryRow) (rows : List EntryRow) → Tail k (r ∷ rows) → Tail (suc k) rows
    unfolding parents_in
    tail-next k r rows t j l = ap (λ (n : ℕ). get_or g.parents n 0) (let q : suc k + j ≡ k + suc j = omega arith in q) ∙ t (suc j) (omega arith)

    closed-from : (k : ℕ) (stack : List ℕ) (rb lb : ℕ) (items : List Item) (rows : List EntryRow) → RowsOf e x unit k stack rb lb items rows → Before k stack
        → k + length rows ≤ size g → Tail k rows → ParentsKept marks k (map (is_kept marks) stack) items
    unfolding RowsOf ParentsKept
    closed-from k stack rb lb [] rows f b l t = tt
    closed-from k stack rb lb (terminator a c ∷ rest) rows f b l t =
        subst (λ (bs : List Bool). ParentsKept marks k bs rest) (close-same (is_kept marks) stack) (closed-from k (closed stack) rb lb rest rows f (before-close k stack b) l t)
    closed-from k stack rb lb (entry y ∷ rest) [] f b l t = absurd f
    closed-from k stack rb lb (entry y ∷ rest) (r ∷ rows) f b l t = (
      parent-kept k stack b (omega arith) (tail-first k r rows t ∙ f.0.parent_is),
      subst (λ (bs : List Bool). ParentsKept marks (suc k) bs rest) (open-same (is_kept marks) y.declaration.children k stack)
          (closed-from (suc k) (opened y.declaration.children k stack) (base_of e x unit 0x74 rb y) (base_of e x unit 0x8c lb y) rest rows f.1 (before-open y.declaration.children k stack b) (omega arith) (tail-next k r rows t)),
    )

-- ---- of an accepted unit

module _ (x : Sections) (room : Room) (section : List ℕ) (h : UnitHeader) (ds : List Placed) (rows : List EntryRow) (a : Accepted x room section h ds rows) where
  -- what is so of every unit that is analysed
  pub accepted-survivors : SurvivorsOf x section rows
  accepted-survivors = unit-survivors x section room.tables rows a.analysis

  -- its graph is one that marking takes, with an entry and a mark for each row
  pub accepted-formed : well_formed (graph_of rows) ≡ true
  accepted-formed = formed x section room.tables rows a.analysis

  pub accepted-size : size (graph_of rows) ≡ length rows
  accepted-size = graph-size rows

  pub accepted-marks : length (marks_in rows) ≡ length rows
  accepted-marks = marks-each rows

  -- it keeps exactly the survivors
  pub accepted-kept : (i : ℕ) → T (is_kept (marks_in rows) i) ↔ Survivor (graph_of rows) i
  accepted-kept = accepted-survivors.kept

  pub accepted-count : Number (Survivor (graph_of rows)) (length rows) (kept_count (marks_in rows))
  accepted-count = accepted-survivors.count

  few-entries : size (graph_of rows) ≤ no_parent
  few-entries = omega (arith, accepted-size, accepted-survivors.few)

  -- and with each entry its parent
  pub accepted-closed : ParentsKept (marks_in rows) 0 [] (items_in x (unit_of h section ds))
  unfolding marks_in graph_of Before
  accepted-closed =
      closed-from (graph_of rows) (well-formed (graph_of rows) accepted-formed) few-entries h.encoding x (take h.end section) 0 [] (list_base h.encoding) (list_base h.encoding) (items_in x (unit_of h section ds)) rows
      (accepted-follow x room section h ds rows a) tt (omega (arith, accepted-size)) (λ j l. ap (λ (n : ℕ). get_or (parents_in rows) n 0) (let q : 0 + j ≡ j = omega arith in q))
