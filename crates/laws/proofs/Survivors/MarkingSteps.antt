-- What a single marking accepts and what it changes. Assumes nothing but what is promised of every unit that is analysed.
use mathlib.Core.Path.{◌≡◌, refl, ap, sym, ◌∙◌, subst}
use Prim.Native.Nat.{ℕ, zero, suc, ◌+◌, ◌<◌}
use native.Mathlib.Omega.{arith}
use mathlib.Core.Bool.{Bool, true, false, not, false≢true}
use mathlib.Core.List.{List, [], ◌∷◌}
use mathlib.Core.Logic.{◌⊎◌, inl, inr, ⊎_elim, ◌↔◌}
use lib.ListN.{length, get_or, take}
use lib.Dec.{eqb, ltb}
use borrow.Author.Tests.{ltb-true, eqb-true, not-true, lt-ltb, eq-eqb}
use Rattle.readers.specs.Lists.{list_base}
use Rattle.readers.specs.Choice.{pick, ◌and◌, ◌or◌}
use Rattle.readers.specs.Nesting.{no_parent, opened, closed, top}
use Rattle.readers.specs.Stream.{Item, entry, terminator}
use Rattle.readers.specs.declared.cursor.Encoding.{Encoding}
use Rattle.marking.specs.Below.{every}
use Rattle.marking.specs.Graph.{Graph, size, is_parent, references, holder, target, names, parent_fits, pair_fits}
use Rattle.marking.specs.Members.{Nth, now, later}
use Rattle.marking.specs.Survivors.{Descendant, child as child', deeper as deeper'}
use Rattle.laws.specs.Markings.{accepts, step}
use Rattle.marking.specs.Analysis.{Sections, EntryRow, base_of}
use Rattle.marking.specs.Resolution.{graph_of}
use Rattle.laws.specs.UnitSurvivors.{ParentIn, NamesIn, Below, child, deeper, FirstUnit, GraphSays, SurvivorsOf}
use Rattle.marking.specs.EntryRows.{RowsOf, unit_items}
use Rattle.marking.proofs.Graphs.{WellFormed}
use Rattle.marking.proofs.Tests.{and-out, and_in, or-out, or_inl, or_inr, any-in, either}
use Rattle.marking.proofs.Markings.{Reason, is_first as first', by_root as root', by_parent as parent', is_named as named', is_under_root as under-root', is_under_named as under-named', reason-in, reason-out}
use Rattle.marking.proofs.Rows.{length-parents, length-roots}
use Rattle.laws.specs.MarkingSteps.{ReasonIn, is_first, by_root, by_parent, is_named, is_under_root, is_under_named, MarkingSays}

-- ---- what a marking changes, in any graph

after-by : (m : ℕ → Bool) (i j : ℕ) (b : Bool) → (pick b (λ k. eqb k i or m k) m j ≡ true) ↔ ((m j ≡ true) ⊎ ((j ≡ i) × (b ≡ true)))
unfolding pick
after-by m i j true = (
  λ e. ⊎_elim (λ q. inr (eqb-true j i q, refl)) (λ q. inl q) (or-out (eqb j i) (m j) e),
  λ c. ⊎_elim (λ (q : m j ≡ true). or_inr (eqb j i) q) (λ (q : (j ≡ i) × (true ≡ true)). or_inl (m j) (eq-eqb j i q.0)) c,
)
after-by m i j false = (
  λ e. inl e,
  λ c. ⊎_elim (λ (q : m j ≡ true). q) (λ (q : (j ≡ i) × (false ≡ true)). absurd (false≢true q.1)) c,
)

pub step-law : (g : Graph) (m : ℕ → Bool) (i j : ℕ) → (step g m i j ≡ true) ↔ ((m j ≡ true) ⊎ ((j ≡ i) × (accepts g m i ≡ true)))
unfolding step
step-law g m i j = after-by m i j (accepts g m i)

-- ---- what a marking accepts, by the graph

accepts-law : (g : Graph) → WellFormed g → (m : ℕ → Bool) (i : ℕ) → (accepts g m i ≡ true) ↔ ((i < size g) × (m i ≡ false) × Reason g m i)
unfolding accepts ◌and◌
accepts-law g v m i = (
  λ e.
      let a = and-out _ _ e in
      let b = and-out _ _ a.1 in
      (ltb-true i (size g) a.0, not-true (m i) b.0, reason-out g m i b.1),
  λ c. rw (lt-ltb i (size g) c.0, c.1, reason-in g v m i c.2),
)

-- ---- the same reasons by the rows

module _ (rows : List EntryRow) (g : Graph) (says : GraphSays rows g) where
  pub below_out : {r d : ℕ} → Descendant g r d → Below rows r d
  below_out (child' {r = r} {d = d} q) = child ((says.parents r d).0 q)
  below_out (deeper' {p = p} {d = d} u q) = deeper (below_out u) ((says.parents p d).0 q)

  below_in : {r d : ℕ} → Below rows r d → Descendant g r d
  below_in (child {r = r} {d = d} q) = child' ((says.parents r d).1 q)
  below_in (deeper {p = p} {d = d} u q) = deeper' (below_in u) ((says.parents p d).1 q)

  module _ (m : ℕ → Bool) where
    rows-reason : {i : ℕ} → Reason g m i → ReasonIn rows m i
    rows-reason first' = is_first
    rows-reason (root' {i = i} e) = by_root ((says.roots i).0 e)
    rows-reason (parent' {p = p} {i = i} e h) = by_parent ((says.parents p i).0 e) h
    rows-reason (named' {s = s} {t = t} e h) = is_named ((says.references s t).0 e) h
    rows-reason (under-root' {r = r} e u) = is_under_root ((says.roots r).0 e) (below_out u)
    rows-reason (under-named' {s = s} {t = t} e h u) = is_under_named ((says.references s t).0 e) h (below_out u)

    graph-reason : {i : ℕ} → ReasonIn rows m i → Reason g m i
    graph-reason is_first = first'
    graph-reason (by_root {i = i} e) = root' ((says.roots i).1 e)
    graph-reason (by_parent {p = p} {i = i} e h) = parent' ((says.parents p i).1 e) h
    graph-reason (is_named {s = s} {t = t} e h) = named' ((says.references s t).1 e) h
    graph-reason (is_under_root {r = r} e u) = under-root' ((says.roots r).1 e) (below_in u)
    graph-reason (is_under_named {s = s} {t = t} e h u) = under-named' ((says.references s t).1 e) h (below_in u)

    rows-accept : WellFormed g → (i : ℕ) → (accepts g m i ≡ true) ↔ ((i < length rows) × (m i ≡ false) × ReasonIn rows m i)
    rows-accept v i =
        let n : size g ≡ length rows = says.entries in (
          λ e. let a = (accepts-law g v m i).0 e in (subst (λ (k : ℕ). i < k) n a.0, a.1, rows-reason a.2),
          λ c. (accepts-law g v m i).1 (subst (λ (k : ℕ). i < k) (sym n) c.0, c.1, graph-reason c.2),
        )

-- ---- a parent is before its children

unfoldable Before : ℕ → List ℕ → Type 0
Before k [] = Unit {0}
Before k (p ∷ stack) = (p < k) × Before k stack

before_more : (k : ℕ) (stack : List ℕ) → Before k stack → Before (suc k) stack
unfolding Before
before_more k [] h = tt
before_more k (p ∷ stack) h = ((let l : p < k = h.0 in omega arith), before_more k stack h.1)

before-open : (b : Bool) (k : ℕ) (stack : List ℕ) → Before k stack → Before (suc k) (opened b k stack)
unfolding Before opened
before-open true k stack h = (omega arith, before_more k stack h)
before-open false k stack h = before_more k stack h

before-close : (k : ℕ) (stack : List ℕ) → Before k stack → Before k (closed stack)
unfolding Before closed
before-close k [] h = tt
before-close k (p ∷ stack) h = h.1

top-before : (k : ℕ) (stack : List ℕ) → Before k stack → (top stack ≡ no_parent → ⊥) → top stack < k
unfolding Before top
top-before k [] h n = absurd (n refl)
top-before k (p ∷ stack) h n = h.0

nth_inside : {A : Type 0} (a : A) (n : ℕ) (xs : List A) → Nth a n xs → n < length xs
nth_inside a n [] m = elim m [ ]
nth_inside a n (x ∷ xs) (now q) = omega arith
nth_inside a n (x ∷ xs) (later {n = k} h) = omega (arith, nth_inside a k xs h)

module _ (e : Encoding) (x : Sections) (unit : List ℕ) where
  row_before : (k : ℕ) (stack : List ℕ) (rb lb : ℕ) (items : List Item) (rows : List EntryRow) → Before k stack → RowsOf e x unit k stack rb lb items rows
      → (i : ℕ) (r : EntryRow) → Nth r i rows → (r.parent ≡ no_parent → ⊥) → r.parent < k + i
  unfolding RowsOf
  row_before k stack rb lb [] rows b h i r n o = let l : length rows ≡ 0 = ap length h in absurd (omega (arith, nth_inside r i rows n))
  row_before k stack rb lb (terminator p q ∷ items) rows b h i r n o = row_before k (closed stack) rb lb items rows (before-close k stack b) h i r n o
  row_before k stack rb lb (entry y ∷ items) [] b h i r n o = absurd h
  row_before k stack rb lb (entry y ∷ items) (s ∷ rows) b h i r (now q) o =
      let z : r.parent ≡ top stack = ap (λ (t : EntryRow). t.parent) q ∙ h.0.parent_is in
      omega (arith, top-before k stack b (λ t. o (z ∙ t)))
  row_before k stack rb lb (entry y ∷ items) (s ∷ rows) b h i r (later {n = j} n) o =
      let l : r.parent < suc k + j =
      row_before (suc k) (opened y.declaration.children k stack) (base_of e x unit 0x74 rb y) (base_of e x unit 0x8c lb y) items rows
      (before-open y.declaration.children k stack b) h.1 j r n o in
      omega arith

module _ (x : Sections) (section : List ℕ) (rows : List EntryRow) (s : SurvivorsOf x section rows) where
  abbrev g : Graph
  g = graph_of rows

  parent-first : (p i : ℕ) → ParentIn rows p i → p < i
  unfolding Before
  parent-first p i q =
      ⊎_elim
      (λ (e : (section ≡ []) × (rows ≡ [])). let l : length rows ≡ 0 = ap length e.1 in absurd (omega (arith, nth_inside q.row i rows q.at)))
      (λ (u : FirstUnit x section rows).
      let l : q.row.parent < 0 + i =
      row_before u.header.encoding x (take u.header.end section) 0 [] (list_base u.header.encoding) (list_base u.header.encoding) (unit_items x section u.header u.declared).0 rows tt u.each
      i q.row q.at (λ t. q.some_parent (sym q.is ∙ t)) in
      omega (arith, q.is))
      s.unit

  every_in : (n : ℕ) (f : ℕ → Bool) → ((k : ℕ) → k < n → f k ≡ true) → every n f ≡ true
  unfolding every
  every_in zero f h = refl
  every_in (suc n) f h = and_in (h n (omega arith)) (every_in n f (λ k l. h k (omega arith)))

  fits-parent : (i : ℕ) → i < size g → parent_fits g.parents i ≡ true
  unfolding parent_fits is_parent
  fits-parent i h =
      let p : ℕ = get_or g.parents i 0 in
      ⊎_elim (λ (e : eqb p no_parent ≡ true). or_inl (ltb p i) e)
      (λ (e : eqb p no_parent ≡ false). or_inr (eqb p no_parent) (lt-ltb p i (parent-first p i ((s.graph.parents p i).0
      (and_in (lt-ltb i (size g) h) (and_in (eq-eqb p p refl) (ap not e)))))))
      (either (eqb p no_parent))

  fits-pair : (j : ℕ) → j < references g → pair_fits g.pairs (size g) j ≡ true
  unfolding pair_fits names
  fits-pair j h =
      let n : NamesIn rows (holder g j) (target g j) =
      (s.graph.references (holder g j) (target g j)).0
      (any-in (references g) (λ k. eqb (holder g k) (holder g j) and eqb (target g k) (target g j)) j h
      (and_in (eq-eqb (holder g j) (holder g j) refl) (eq-eqb (target g j) (target g j) refl))) in
      and_in
      (lt-ltb (holder g j) (size g) (subst (λ (k : ℕ). holder g j < k) (sym s.graph.entries) (nth_inside n.row (holder g j) rows n.at)))
      (lt-ltb (target g j) (size g) (subst (λ (k : ℕ). target g j < k) (sym s.graph.entries) (nth_inside n.named (target g j) rows n.named_at)))

  same-lengths : length g.roots ≡ size g
  unfolding graph_of
  same-lengths = length-roots rows ∙ sym (length-parents rows)

  well : WellFormed g
  well =
      record {
        same-roots = same-lengths;
        parents-fit = every_in (size g) (parent_fits g.parents) fits-parent;
        pairs-fit = every_in (references g) (pair_fits g.pairs (size g)) fits-pair;
      }

  -- THE LAW OF SINGLE MARKINGS
  pub marking-law : (m : ℕ → Bool) (i : ℕ) → MarkingSays rows m i
  marking-law m i = record { accepted = rows-accept rows g s.graph m well i; after = step-law g m i }
