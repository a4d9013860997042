-- The analysis entry by entry: the rows so far stand in the columns, and the rest is analysed from here on. Assumes nothing.
use mathlib.Core.Path.{◌≡◌, refl, ap, ap₂, sym, ◌∙◌, subst}
use Prim.Native.Nat.{ℕ, suc, ◌+◌, ◌*◌, ◌-◌, ◌^◌, ◌≤◌, ◌<◌}
use mathlib.Core.Bool.{Bool, true, false}
use Rattle.std.specs.Prelude.{None, Option, Some, Err, Ok, Result}
use Rattle.readers.specs.declared.abbreviations.Declaration.{Declaration}
use Rattle.readers.specs.declared.entries.Step.{Step}
use mathlib.Core.List.{List, [], ◌∷◌, ◌++◌, append-nil, append_assoc}
use native.Mathlib.Omega.{arith}
use lib.ListN.{length, set, length-append, length-replicate, length-set}
use lib.Seq.{set_at, append_snoc, get_or-set_same, get_or-set_other}
use lib.Dec.{ltb, leb}
use mir.Facts.{yes_ltb, no_ltb, yes_leb, no_leb}
use Rattle.readers.specs.Choice.{pick, zeros}
use Rattle.readers.proofs.Choice.{pick_yes, pick_no}
use Rattle.readers.specs.Abbreviations.{Placed, declared_in, abbreviations_of, as_checked, checked_of, index_of, find_at}
use Rattle.readers.specs.Entries.{step_at}
use Rattle.readers.specs.Inner.Entries.{entry_of, entry_to}
use Rattle.readers.specs.Lists.{list_base}
use Rattle.readers.specs.Nesting.{no_parent, opened, closed, top, nesting_of, nesting_opened, nesting_closed}
use Rattle.readers.specs.declared.cursor.Cursor.{Cursor}
use Rattle.readers.specs.declared.cursor.Encoding.{Encoding}
use Rattle.readers.specs.declared.entries.Entry.{Entry}
use Rattle.readers.specs.declared.entries.EntryHead.{EntryHead}
use Rattle.readers.specs.declared.entries.Nesting.{Nesting}
use Rattle.readers.specs.declared.entries.Step.TheVariants.{Entry as Entry', Terminator, End}
use Rattle.readers.proofs.Declarations.{find-plain}
use Rattle.readers.proofs.Nesting.{opened-is, closed_is, chain-closed, length-opened, length-closed}
use Rattle.readers.specs.Inner.Nesting.{Chain}
use Rattle.marking.specs.ReferenceTable.{written}
use Rattle.readers.specs.Stream.{Items, push, on_step, items_from}
use Rattle.marking.specs.Analysis.{Sections, Rooms, EntryRow, Analysed, analysed, refused, onto, on_verdict, on_found, Reached, reached, start_of, values_of_entry, test_of, root_of, names_of, base_of, analyse_items, on_declared, unit_analysed}
use Rattle.marking.specs.Columns.{offsets_in, parents_in, roots_in, names_in, ends_in, pad_to, answer_of}
use Rattle.marking.specs.Inner.Columns.{Left, Outcome, AnalysisInput, headed, refusal_of, entry_answer, entry_table}
use Rattle.marking.specs.declared.analysis.Analysis.{Analysis}
use Rattle.marking.specs.declared.analysis.EntryAnalysis.{EntryAnalysis}
use Rattle.marking.specs.Columns.{entries_counted}
use Rattle.marking.specs.Inner.Columns.{row_found}
use Rattle.marking.proofs.Places.{placed-fits, fits-placed, not-placed, written-onto}
use Rattle.marking.proofs.EntryAnswers.{length-entry-table, entry-refused, RowOf, entry_found_lem, answered-end, unread-four}
use Rattle.readers.proofs.Streams.{EntryInside, step-inside, terminator-inside, items-step, items-look}

-- ---- rows in front of an analysis

unfoldable pub onto_all : List EntryRow → Analysed → Analysed
onto_all [] a = a
onto_all (r ∷ rs) a = onto r (onto_all rs a)

onto-more : (rs : List EntryRow) (r : EntryRow) (a : Analysed) → onto_all rs (onto r a) ≡ onto_all (rs ++ (r ∷ [])) a
unfolding onto_all
onto-more [] r a = refl
onto-more (q ∷ rs) r a = ap (onto q) (onto-more rs r a)

onto-refused : (rs : List EntryRow) (n : ℕ) → onto_all rs (refused n) ≡ refused n
unfolding onto_all onto
onto-refused [] n = refl
onto-refused (r ∷ rs) n = ap (onto r) (onto-refused rs n)

onto-done : (rs : List EntryRow) → onto_all rs (analysed []) ≡ analysed rs
unfolding onto_all onto
onto-done [] = refl
onto-done (r ∷ rs) = ap (onto r) (onto-done rs)

-- ---- one row more in the columns

-- a column with one number for each row
record Each (f : List EntryRow → List ℕ) (g : EntryRow → ℕ) : Type 0 where
  none_yet : f [] ≡ []
  one_more : (r : EntryRow) (rs : List EntryRow) → f (r ∷ rs) ≡ g r ∷ f rs

offsets-each : Each offsets_in (λ r. r.offset)
unfolding offsets_in
offsets-each = record { none_yet = refl; one_more = λ r rs. refl }

parents-each : Each parents_in (λ r. r.parent)
unfolding parents_in
parents-each = record { none_yet = refl; one_more = λ r rs. refl }

roots-each : Each roots_in (λ r. r.root)
unfolding roots_in
roots-each = record { none_yet = refl; one_more = λ r rs. refl }

each_more : (f : List EntryRow → List ℕ) (g : EntryRow → ℕ) → Each f g → (rs : List EntryRow) (r : EntryRow) → f (rs ++ (r ∷ [])) ≡ f rs ++ (g r ∷ [])
each_more f g h [] r = h.one_more r [] ∙ ap (λ (l : List ℕ). g r ∷ l) h.none_yet ∙ ap (λ (l : List ℕ). l ++ (g r ∷ [])) (sym h.none_yet)
each_more f g h (q ∷ rs) r =
    h.one_more q (rs ++ (r ∷ [])) ∙ ap (λ (l : List ℕ). g q ∷ l) (each_more f g h rs r) ∙ ap (λ (l : List ℕ). l ++ (g r ∷ [])) (sym (h.one_more q rs))

each-length : (f : List EntryRow → List ℕ) (g : EntryRow → ℕ) → Each f g → (rs : List EntryRow) → length (f rs) ≡ length rs
each-length f g h [] = ap length h.none_yet
each-length f g h (q ∷ rs) = ap length (h.one_more q rs) ∙ ap suc (each-length f g h rs)

names_more : (rs : List EntryRow) (r : EntryRow) → names_in (rs ++ (r ∷ [])) ≡ names_in rs ++ r.names
unfolding names_in
names_more [] r = append-nil r.names
names_more (q ∷ rs) r = ap (λ (l : List ℕ). q.names ++ l) (names_more rs r) ∙ sym (append_assoc q.names (names_in rs) r.names)

ends_more : (m : ℕ) (rs : List EntryRow) (r : EntryRow) → ends_in m (rs ++ (r ∷ [])) ≡ ends_in m rs ++ ((m + length (names_in rs) + length r.names) ∷ [])
unfolding ends_in names_in
ends_more m [] r = ap (λ (n : ℕ). n ∷ []) (let e : m + length r.names ≡ m + 0 + length r.names = omega arith in e)
ends_more m (q ∷ rs) r =
    let l : length (q.names ++ names_in rs) ≡ length q.names + length (names_in rs) = length-append q.names (names_in rs) in
    let n : m + length q.names + length (names_in rs) + length r.names ≡ m + length (q.names ++ names_in rs) + length r.names = omega arith in
    ap (λ (l : List ℕ). (m + length q.names) ∷ l)
    (ends_more (m + length q.names) rs r ∙ ap (λ (k : ℕ). ends_in (m + length q.names) rs ++ (k ∷ [])) n)

length-ends : (m : ℕ) (rs : List EntryRow) → length (ends_in m rs) ≡ length rs
unfolding ends_in
length-ends m [] = refl
length-ends m (r ∷ rs) = ap suc (length-ends (m + length r.names) rs)

-- a column of a length, with numbers and then zeros
pub record Filled (n : ℕ) (xs col : List ℕ) : Type 0 where
  pub size : length col ≡ n
  pub is : col ≡ pad_to n xs

filled_none : (col : List ℕ) → col ≡ zeros (length col) → Filled (length col) [] col
unfolding pad_to
filled_none col h = record { size = refl; is = h ∙ ap zeros (let e : length col ≡ length col - 0 = omega arith in e) }

filled_more : (n : ℕ) (xs col : List ℕ) (i v : ℕ) (ys : List ℕ) → Filled n xs col → length xs ≡ i → i < n → ys ≡ xs ++ (v ∷ []) → Filled n ys (set col i v)
unfolding pad_to
filled_more n xs col i v ys f l h e =
    let k : ℕ = n - suc i in
    let m : n - length xs ≡ suc k = omega arith in
    let w : n - length (xs ++ (v ∷ [])) ≡ k = (let q : length (xs ++ (v ∷ [])) ≡ length xs + 1 = length-append xs (v ∷ []) in omega arith) in
    record {
      size = length-set col i v ∙ f.size;
      is =
          ap (λ (t : List ℕ). set t i v) (f.is ∙ ap (λ (j : ℕ). xs ++ zeros j) m)
          ∙ set_at xs 0 (zeros k) v i l
          ∙ sym (append_snoc xs v (zeros k))
          ∙ ap (λ (j : ℕ). (xs ++ (v ∷ [])) ++ zeros j) (sym w)
          ∙ ap (λ (t : List ℕ). t ++ zeros (n - length t)) (sym e);
    }

filled-each : (n : ℕ) (f : List EntryRow → List ℕ) (g : EntryRow → ℕ) → Each f g → (rs : List EntryRow) (r : EntryRow) (col : List ℕ) (i v : ℕ) → Filled n (f rs) col → i ≡ length rs → i < n → v ≡ g r
    → Filled n (f (rs ++ (r ∷ []))) (set col i v)
filled-each n f g h rs r col i v c l k e =
    filled_more n (f rs) col i v _ c (each-length f g h rs ∙ sym l) k (each_more f g h rs r ∙ ap (λ (w : ℕ). f rs ++ (w ∷ [])) (sym e))

filled-written : (n : ℕ) (xs col : List ℕ) (at : ℕ) (names ys : List ℕ) → Filled n xs col → length xs ≡ at → at + length names ≤ n → ys ≡ xs ++ names
    → Filled n ys (written col at names)
unfolding pad_to
filled-written n xs col at names ys f l h e =
    let w : n - length xs - length names ≡ n - length (xs ++ names) = (let q : length (xs ++ names) ≡ length xs + length names = length-append xs names in omega arith) in
    let i : written col at names ≡ (xs ++ names) ++ zeros (n - length xs - length names) =
    ap (λ (t : List ℕ). written t at names) f.is ∙ written-onto xs names (n - length xs) at l (omega arith) in
    let s : length (written col at names) ≡ n =
    ap length i ∙ length-append (xs ++ names) (zeros (n - length xs - length names))
    ∙ (let a : length (xs ++ names) ≡ length xs + length names = length-append xs names in
    let b : length (zeros (n - length xs - length names)) ≡ n - length xs - length names = length-replicate _ 0 in omega arith) in
    record { size = s; is = i ∙ ap (λ (j : ℕ). (xs ++ names) ++ zeros j) w ∙ ap (λ (t : List ℕ). t ++ zeros (n - length t)) (sym e) }

-- ---- open entries

-- all of them are below a count
unfoldable pub Below : ℕ → List ℕ → Type 0
Below n [] = Unit {0}
Below n (k ∷ stack) = (k < n) × Below n stack

below_more : (n : ℕ) (stack : List ℕ) → Below n stack → Below (n + 1) stack
unfolding Below
below_more n [] h = tt
below_more n (k ∷ stack) h = (let q : k < n = h.0 in omega arith, below_more n stack h.1)

below-open : (children : Bool) (n : ℕ) (stack : List ℕ) → Below n stack → Below (n + 1) (opened children n stack)
unfolding Below opened
below-open true n stack h = (omega arith, below_more n stack h)
below-open false n stack h = below_more n stack h

below-close : (n : ℕ) (stack : List ℕ) → Below n stack → Below n (closed stack)
unfolding Below closed
below-close n [] h = tt
below-close n (k ∷ stack) h = h.1

chain-stays : (parents : List ℕ) (n v : ℕ) (stack : List ℕ) → Below n stack → Chain parents stack → Chain (set parents n v) stack
unfolding Below Chain
chain-stays parents n v [] b h = tt
chain-stays parents n v (k ∷ stack) b h =
    let l : k < n = b.0 in
    (get_or-set_other parents n k v no_parent (λ q. absurd (omega (arith, q))) ∙ h.0, chain-stays parents n v stack b.1 h.1)

chain-open : (children : Bool) (parents : List ℕ) (n : ℕ) (stack : List ℕ) → n < length parents → Below n stack → Chain parents stack
    → Chain (set parents n (top stack)) (opened children n stack)
unfolding opened Chain
chain-open true parents n stack l b h = (get_or-set_same parents n (top stack) no_parent l, chain-stays parents n (top stack) stack b h)
chain-open false parents n stack l b h = chain-stays parents n (top stack) stack b h

parent_of : (n : Nesting) (stack : List ℕ) → n ≡ nesting_of stack → n.parent.0 ≡ top stack
unfolding nesting_of
parent_of n stack e = ap (λ (m : Nesting). m.parent.0) e

-- ---- where the loop stands

pub record Stage
    (e : Encoding) (x : Sections) (unit : List ℕ) (room : Rooms) (look : ℕ → Option Declaration) (whole : Analysed)
    (offsets₀ parents₀ roots₀ ends₀ targets₀ offsets parents roots ends targets : List ℕ) (at count to : ℕ) (nesting : Nesting) (rb lb : ℕ) : Type 0 where
  pub done : List EntryRow
  pub stack : List ℕ
  pub whole_is : whole ≡ onto_all done (analyse_items e x unit room (reached count to stack rb lb) (items_from e x.abbreviations look unit at).0 (items_from e x.abbreviations look unit at).1)
  pub offsets_are : Filled (length offsets₀) (offsets_in done) offsets
  pub parents_are : Filled (length parents₀) (parents_in done) parents
  pub roots-are : Filled (length roots₀) (roots_in done) roots
  pub ends-are : Filled (length ends₀) (ends_in 0 done) ends
  pub targets-are : Filled (length targets₀) (names_in done) targets
  pub count-is : count ≡ length done
  pub to_is : to ≡ length (names_in done)
  pub to-most : to ≤ room.references
  pub nesting-is : nesting ≡ nesting_of stack
  pub chain : Chain parents stack
  pub below : Below count stack
  pub deep : length stack ≤ count
  pub ahead : count ≤ at
  pub few : room.entries < 2 ^ 60
  pub offsets_room : room.entries ≤ length offsets₀
  pub parents_room : room.entries ≤ length parents₀
  pub roots_room : room.entries ≤ length roots₀
  pub ends_room : room.entries ≤ length ends₀
  pub targets_room : room.references ≤ length targets₀

left-refused : (f : List EntryRow → List ℕ) (n : ℕ) (whole : Analysed) (k : ℕ) (col : List ℕ) → whole ≡ refused k → length col ≡ n → Left f n whole col
unfolding Left
left-refused f n whole k col e l = rw e l

left-done : (f : List EntryRow → List ℕ) (n : ℕ) (whole : Analysed) (rs : List EntryRow) (col : List ℕ) → whole ≡ analysed rs → Filled n (f rs) col → Left f n whole col
unfolding Left
left-done f n whole rs col e h = rw e h.is

-- what is analysed from here on, by the step
module _ (e : Encoding) (x : Sections) (unit : List ℕ) (room : Rooms) (look : ℕ → Option Declaration) (p : Reached) (at : ℕ) where
  abbrev from_here : ℕ → Reached → Analysed
  from_here n q = analyse_items e x unit room q (items_from e x.abbreviations look unit n).0 (items_from e x.abbreviations look unit n).1

  turned : (r : Option Step) → r ≡ step_at e x.abbreviations look unit at → items_from e x.abbreviations look unit at ≡ on_step at r (items_from e x.abbreviations look unit)
  turned r s = items-step e x.abbreviations look unit at ∙ ap (λ (w : Option Step). on_step at w (items_from e x.abbreviations look unit)) (sym s)

  by-items : (i : Items) → items_from e x.abbreviations look unit at ≡ i → from_here at p ≡ analyse_items e x unit room p i.0 i.1
  by-items i q = ap (λ (w : Items). analyse_items e x unit room p w.0 w.1) q

  from_end : Some End ≡ step_at e x.abbreviations look unit at → from_here at p ≡ analysed []
  unfolding on_step analyse_items
  from_end s = by-items _ (turned (Some End) s)

  from-unreadable : None ≡ step_at e x.abbreviations look unit at → from_here at p ≡ refused 4
  unfolding on_step analyse_items
  from-unreadable s = by-items _ (turned None s)

  from-terminator : (c : Cursor) → Some (Terminator c) ≡ step_at e x.abbreviations look unit at
      → from_here at p ≡ from_here c.at (reached p.count p.references (closed p.stack) p.rnglists_base p.loclists_base)
  unfolding on_step push analyse_items
  from-terminator c s = by-items _ (turned (Some (Terminator c)) s)

  module _ (y : Entry) where
    -- by the list bases after the entry, and the row that is found
    abbrev row_by : ℕ → ℕ → ℕ → List ℕ → Analysed
    row_by rb lb root names =
        pick (leb (p.references + length names) room.references)
        (onto (record { offset = y.offset.0; parent = top p.stack; root = root; names = names })
        (from_here y.next.at (reached (suc p.count) (p.references + length names) (opened y.declaration.children p.count p.stack) rb lb)))
        (refused 11)

    abbrev entry_by : ℕ → ℕ → Analysed
    entry_by rb lb =
        pick (ltb p.count room.entries)
        (on_verdict (root_of e x unit rb y) (λ root. on_found (names_of e x unit lb y) (row_by rb lb root)))
        (refused 10)

    from-entry : Some (Entry' y) ≡ step_at e x.abbreviations look unit at
        → (rb lb : ℕ) → rb ≡ base_of e x unit 0x74 p.rnglists_base y → lb ≡ base_of e x unit 0x8c p.loclists_base y → from_here at p ≡ entry_by rb lb
    unfolding on_step push analyse_items
    from-entry s rb lb r l = by-items _ (turned (Some (Entry' y)) s) ∙ ap₂ entry_by (sym r) (sym l)

-- ---- the arms

module _ {e : Encoding} {x : Sections} {unit : List ℕ} {room : Rooms} {look : ℕ → Option Declaration} {whole : Analysed}
    {offsets₀ parents₀ roots₀ ends₀ targets₀ offsets parents roots ends targets : List ℕ} {at count to : ℕ} {nesting : Nesting} {rb lb : ℕ}
    (h : Stage e x unit room look whole offsets₀ parents₀ roots₀ ends₀ targets₀ offsets parents roots ends targets at count to nesting rb lb) where
  abbrev here : Reached
  here = reached count to h.stack rb lb

  -- an answer with the columns, of which the last may be another
  abbrev Ends : Result Analysis ℕ → List ℕ → Type 0
  Ends r last = (r ≡ answer_of whole) × Outcome whole offsets₀ parents₀ roots₀ ends₀ targets₀ offsets parents roots ends last

  refuses : (n : ℕ) → from_here e x unit room look here at at here ≡ refused n → (last : List ℕ) → length last ≡ length targets → Ends (Err n) last
  unfolding answer_of
  refuses n q last l =
      let w : whole ≡ refused n = h.whole_is ∙ ap (onto_all h.done) q ∙ onto-refused h.done n in (
        sym (ap answer_of w),
        record {
          offsets_left = left-refused offsets_in _ whole n _ w h.offsets_are.size;
          parents_left = left-refused parents_in _ whole n _ w h.parents_are.size;
          roots_left = left-refused roots_in _ whole n _ w h.roots-are.size;
          ends_left = left-refused (ends_in 0) _ whole n _ w h.ends-are.size;
          targets_left = left-refused names_in _ whole n _ w (l ∙ h.targets-are.size);
        },
      )

  pub stage-unreadable : None ≡ step_at e x.abbreviations look unit at → Ends (Err 4) targets
  stage-unreadable s = refuses 4 (from-unreadable e x unit room look here at s) targets refl

  pub stage-end : Some End ≡ step_at e x.abbreviations look unit at → Ends (entries_counted count to) targets
  unfolding answer_of
  stage-end s =
      let w : whole ≡ analysed h.done = h.whole_is ∙ ap (onto_all h.done) (from_end e x unit room look here at s) ∙ onto-done h.done in (
        ap₂ entries_counted h.count-is h.to_is ∙ sym (ap answer_of w),
        record {
          offsets_left = left-done offsets_in _ whole h.done offsets w h.offsets_are;
          parents_left = left-done parents_in _ whole h.done parents w h.parents_are;
          roots_left = left-done roots_in _ whole h.done roots w h.roots-are;
          ends_left = left-done (ends_in 0) _ whole h.done ends w h.ends-are;
          targets_left = left-done names_in _ whole h.done targets w h.targets-are;
        },
      )

  pub stage-terminator : (c : Cursor) → Some (Terminator c) ≡ step_at e x.abbreviations look unit at → (nesting' : Nesting) → nesting' ≡ nesting_closed parents nesting
      → Stage e x unit room look whole offsets₀ parents₀ roots₀ ends₀ targets₀ offsets parents roots ends targets c.at count to nesting' rb lb
  stage-terminator c s nesting' n =
      let i = terminator-inside e x.abbreviations look unit at c (sym s) in
      let a : count ≤ at = h.ahead in
      let d : length h.stack ≤ count = h.deep in
      record {
        done = h.done;
        stack = closed h.stack;
        whole_is = h.whole_is ∙ ap (onto_all h.done) (from-terminator e x unit room look here at c s);
        offsets_are = h.offsets_are;
        parents_are = h.parents_are;
        roots-are = h.roots-are;
        ends-are = h.ends-are;
        targets-are = h.targets-are;
        count-is = h.count-is;
        to_is = h.to_is;
        to-most = h.to-most;
        nesting-is = n ∙ ap (nesting_closed parents) h.nesting-is ∙ closed_is parents h.stack h.chain;
        chain = chain-closed parents h.stack h.chain;
        below = below-close count h.stack h.below;
        deep = omega (arith, length-closed h.stack);
        ahead = omega (arith, i.0);
        few = h.few;
        offsets_room = h.offsets_room;
        parents_room = h.parents_room;
        roots_room = h.roots_room;
        ends_room = h.ends_room;
        targets_room = h.targets_room;
      }

  module _ (y : Entry) (s : Some (Entry' y) ≡ step_at e x.abbreviations look unit at) where
    -- how far an entry comes
    pub stage-ahead : (at < y.next.at) × (y.next.at ≤ length unit)
    stage-ahead =
        let i : EntryInside unit at y = step-inside e x.abbreviations look unit at y (sym s) in
        let a : at < y.values.at = i.coded in
        let b : y.values.at ≤ y.next.at = i.ahead in
        let c : y.next.at ≤ length unit = i.within in
        (omega arith, c)

    pub stage-full : room.entries ≤ count → Ends (Err 10) targets
    stage-full f =
        refuses 10 (from-entry e x unit room look here at y s _ _ refl refl ∙ pick_no _ _ _ (no_ltb {a = count} {b = room.entries} f)) targets refl

    module _ (l : count < room.entries) (rb' lb' : ℕ) (r : rb' ≡ base_of e x unit 0x74 rb y) (b : lb' ≡ base_of e x unit 0x8c lb y)
        (targets' : List ℕ) (t : targets' ≡ entry_table targets to (root_of e x unit rb' y) (names_of e x unit lb' y)) where
      from_row : from_here e x unit room look here at at here
          ≡ on_verdict (root_of e x unit rb' y) (λ root. on_found (names_of e x unit lb' y) (row_by e x unit room look here at y rb' lb' root))
      from_row = from-entry e x unit room look here at y s rb' lb' r b ∙ pick_yes _ _ _ (yes_ltb {a = count} {b = room.entries} l)

      pub targets-size : length targets' ≡ length targets
      targets-size = ap length t ∙ length-entry-table targets to (root_of e x unit rb' y) (names_of e x unit lb' y)

      pub stage-refused : (n : ℕ) → Err n ≡ entry_answer (length targets) to (Some y.next) (root_of e x unit rb' y) (names_of e x unit lb' y) → Ends (Err n) targets'
      stage-refused n q = refuses n (from_row ∙ entry-refused (length targets) to n y.next _ _ (row_by e x unit room look here at y rb' lb') q) targets' targets-size

      module _ (root place : ℕ) (q : row_found root place y.next ≡ entry_answer (length targets) to (Some y.next) (root_of e x unit rb' y) (names_of e x unit lb' y)) where
        row : RowOf targets to (root_of e x unit rb' y) (names_of e x unit lb' y) root place
        row = entry_found_lem targets to root place y.next _ _ q

        pub stage-over : room.references < place → Ends (Err 11) targets'
        stage-over o =
            let z : length targets ≡ length targets₀ = h.targets-are.size in
            let m : room.references ≤ length targets₀ = h.targets_room in
            let over : room.references < to + length row.names = not-placed (length targets) to place room.references row.names row.place (omega arith) o in
            refuses 11
            (from_row ∙ row.goes (row_by e x unit room look here at y rb' lb') ∙ pick_no _ _ _ (no_leb {a = to + length row.names} {b = room.references} over))
            targets' targets-size

        pub stage-entry : place ≤ room.references → (nesting' : Nesting) → nesting' ≡ nesting_opened y.declaration.children count nesting
            → Stage e x unit room look whole offsets₀ parents₀ roots₀ ends₀ targets₀ (set offsets count y.offset.0) (set parents count nesting.parent.0) (set roots count root) (set ends count place) targets' y.next.at (count + 1) place nesting' rb' lb'
        stage-entry f nesting' n =
            let z : length targets ≡ length targets₀ = h.targets-are.size in
            let m : room.references ≤ length targets₀ = h.targets_room in
            let names : List ℕ = row.names in
            let fit : to + length names ≤ length targets = fits-placed (length targets) to place names row.place (omega arith) in
            let place_is : place ≡ to + length names = row.place ∙ placed-fits (length targets) to names fit in
            let one : EntryRow = record { offset = y.offset.0; parent = top h.stack; root = root; names = names } in
            let up : nesting.parent.0 ≡ top h.stack = parent_of nesting h.stack h.nesting-is in
            let cd : count ≡ length h.done = h.count-is in
            let td : to ≡ length (names_in h.done) = h.to_is in
            let ro : room.entries ≤ length offsets₀ = h.offsets_room in
            let rp : room.entries ≤ length parents₀ = h.parents_room in
            let rr : room.entries ≤ length roots₀ = h.roots_room in
            let re : room.entries ≤ length ends₀ = h.ends_room in
            let sp : length parents ≡ length parents₀ = h.parents_are.size in
            let deep : length h.stack ≤ count = h.deep in
            let a0 : at < y.next.at = stage-ahead.0 in
            let ahead : count ≤ at = h.ahead in
            let sc : suc count ≡ count + 1 = omega arith in
            let goes : from_here e x unit room look here at at here
            ≡ onto one (from_here e x unit room look here at y.next.at (reached (suc count) (to + length names) (opened y.declaration.children count h.stack) rb' lb')) =
            from_row ∙ row.goes (row_by e x unit room look here at y rb' lb') ∙ pick_yes _ _ _ (yes_leb {a = to + length names} {b = room.references} (omega arith)) in
            record {
              done = h.done ++ (one ∷ []);
              stack = opened y.declaration.children count h.stack;
              whole_is =
                  h.whole_is ∙ ap (onto_all h.done) goes ∙ onto-more h.done one _
                  ∙ ap₂ (λ (i j : ℕ). onto_all (h.done ++ (one ∷ [])) (from_here e x unit room look here at y.next.at (reached i j (opened y.declaration.children count h.stack) rb' lb')))
                  sc (sym place_is);
              offsets_are = filled-each _ offsets_in _ offsets-each h.done one offsets count _ h.offsets_are cd (omega arith) refl;
              parents_are = filled-each _ parents_in _ parents-each h.done one parents count _ h.parents_are cd (omega arith) up;
              roots-are = filled-each _ roots_in _ roots-each h.done one roots count _ h.roots-are cd (omega arith) refl;
              ends-are =
                  filled_more _ _ ends count place _ h.ends-are (length-ends 0 h.done ∙ sym cd) (omega arith)
                  (ends_more 0 h.done one ∙ ap (λ (v : ℕ). ends_in 0 h.done ++ (v ∷ [])) (let g : 0 + length (names_in h.done) + length names ≡ place = omega arith in g));
              targets-are =
                  subst (Filled (length targets₀) (names_in (h.done ++ (one ∷ [])))) (sym (t ∙ row.left))
                  (filled-written _ _ targets to names _ h.targets-are (sym td) (omega arith) (names_more h.done one));
              count-is = sym (length-append h.done (one ∷ []) ∙ ap (λ (k : ℕ). k + 1) (sym cd));
              to_is = place_is ∙ ap (λ (k : ℕ). k + length names) td ∙ sym (ap length (names_more h.done one) ∙ length-append (names_in h.done) names);
              to-most = f;
              nesting-is = n ∙ ap (nesting_opened y.declaration.children count) h.nesting-is ∙ opened-is y.declaration.children count h.stack (omega (arith, h.deep, h.few));
              chain = rw up (chain-open y.declaration.children parents count h.stack (omega arith) h.below h.chain);
              below = below-open y.declaration.children count h.stack h.below;
              deep = omega (arith, length-opened y.declaration.children count h.stack);
              ahead = omega arith;
              few = h.few;
              offsets_room = ro;
              parents_room = rp;
              roots_room = rr;
              ends_room = re;
              targets_room = m;
            }

  -- an entry by its head and where its values end
  module _ (g : EntryHead) (end : Option Cursor) (s : entry_to g end ≡ step_at e x.abbreviations look unit at) where
    pub head-full : (n : ℕ) → n ≡ refusal_of end 10 → room.entries ≤ count → Ends (Err n) targets
    unfolding entry_to refusal_of
    head-full n q f = of end s q
      where
        of : (end' : Option Cursor) → entry_to g end' ≡ step_at e x.abbreviations look unit at → n ≡ refusal_of end' 10 → Ends (Err n) targets
        of (Some next) s' q' = subst (λ (k : ℕ). Ends (Err k) targets) (sym q') (stage-full (entry_of g next) s' f)
        of None s' q' = subst (λ (k : ℕ). Ends (Err k) targets) (sym q') (stage-unreadable s')

    module _ (l : count < room.entries) (rb' lb' : ℕ) (r : rb' ≡ base_of e x unit 0x74 rb (headed g)) (b : lb' ≡ base_of e x unit 0x8c lb (headed g))
        (targets' : List ℕ) (t : targets' ≡ entry_table targets to (root_of e x unit rb' (headed g)) (names_of e x unit lb' (headed g))) where
      abbrev answer_to : Option Cursor → Result EntryAnalysis ℕ
      answer_to m = entry_answer (length targets) to m (root_of e x unit rb' (headed g)) (names_of e x unit lb' (headed g))

      pub head-size : length targets' ≡ length targets
      head-size = ap length t ∙ length-entry-table targets to (root_of e x unit rb' (headed g)) (names_of e x unit lb' (headed g))

      pub head-refused : (n : ℕ) → Err n ≡ answer_to end → Ends (Err n) targets'
      unfolding entry_to values_of_entry test_of root_of names_of base_of
      head-refused n q = of end s q
        where
          of : (end' : Option Cursor) → entry_to g end' ≡ step_at e x.abbreviations look unit at → Err n ≡ answer_to end' → Ends (Err n) targets'
          of (Some next) s' q' = stage-refused (entry_of g next) s' l rb' lb' r b targets' t n q'
          of None s' q' =
              subst (λ (k : ℕ). Ends (Err k) targets')
              (sym (unread-four (length targets) to n (root_of e x unit rb' (headed g)) (names_of e x unit lb' (headed g)) q'))
              (refuses 4 (from-unreadable e x unit room look here at s') targets' head-size)

      module _ (root place : ℕ) (next : Cursor) (q : row_found root place next ≡ answer_to end) where
        there : end ≡ Some next
        there = answered-end (length targets) to root place next end (root_of e x unit rb' (headed g)) (names_of e x unit lb' (headed g)) q

        entered : Some (Entry' (entry_of g next)) ≡ step_at e x.abbreviations look unit at
        unfolding entry_to
        entered = sym (ap (entry_to g) there) ∙ s

        pub head-ahead : (at < next.at) × (next.at ≤ length unit)
        head-ahead = stage-ahead (entry_of g next) entered

        pub head-over : room.references < place → Ends (Err 11) targets'
        unfolding values_of_entry test_of root_of names_of base_of
        head-over o = stage-over (entry_of g next) entered l rb' lb' r b targets' t root place (q ∙ ap answer_to there) o

        pub head-entry : place ≤ room.references → (nesting' : Nesting) → nesting' ≡ nesting_opened g.declaration.children count nesting
            → Stage e x unit room look whole offsets₀ parents₀ roots₀ ends₀ targets₀ (set offsets count g.offset.0) (set parents count nesting.parent.0) (set roots count root) (set ends count place) targets' next.at (count + 1) place nesting' rb' lb'
        unfolding values_of_entry test_of root_of names_of base_of
        head-entry f nesting' n = stage-entry (entry_of g next) entered l rb' lb' r b targets' t root place (q ∙ ap answer_to there) f nesting' n

-- ---- the start

module _ (e : Encoding) (x : Sections) (unit : List ℕ) (room : Rooms) (from first : ℕ) (index : List ℕ) where
  look-same : (ds : List Placed) → abbreviations_of x.abbreviations from ≡ Some ds → index ≡ index_of x.abbreviations from (length index)
      → (code : ℕ) → declared_in ds code ≡ find_at x.abbreviations from index code
  look-same ds q i code = sym (ap (λ (l : List ℕ). find_at x.abbreviations from l code) i ∙ find-plain x.abbreviations from (length index) ds q code)

  declared-start : (o : Option (List Placed)) → abbreviations_of x.abbreviations from ≡ o → as_checked o ≡ Ok tt → index ≡ index_of x.abbreviations from (length index)
      → unit_analysed e x unit room from first ≡ from_here e x unit room (find_at x.abbreviations from index) (start_of e) first first (start_of e)
  unfolding as_checked unit_analysed on_declared
  declared-start None q a i = let z : ◌≡◌ {A = ℕ} 0 1 = cc in absurd (omega arith)
  declared-start (Some ds) q a i =
      ap (λ (o : Option (List Placed)). on_declared o (λ ds. analyse_items e x unit room (start_of e) (items_from e x.abbreviations (declared_in ds) unit first).0 (items_from e x.abbreviations (declared_in ds) unit first).1)) q
      ∙ ap (λ (w : Items). analyse_items e x unit room (start_of e) w.0 w.1)
      (items-look e x.abbreviations (declared_in ds) (find_at x.abbreviations from index) (look-same ds q i) unit first)

  pub stage-start : (offsets parents roots ends targets : List ℕ) (nesting : Nesting) (rb lb : ℕ) → nesting ≡ nesting_of [] → rb ≡ list_base e → lb ≡ list_base e
      → length offsets * 8 < 2 ^ 63
      → AnalysisInput x.abbreviations index from unit room.entries room.references offsets parents roots ends targets x.keep
      → Stage e x unit room (find_at x.abbreviations from index) (unit_analysed e x unit room from first)
      offsets parents roots ends targets offsets parents roots ends targets first 0 0 nesting rb lb
  unfolding checked_of onto_all offsets_in parents_in roots_in names_in ends_in Chain Below
  stage-start offsets parents roots ends targets nesting rb lb n r l many h =
      record {
        done = [];
        stack = [];
        whole_is =
            declared-start (abbreviations_of x.abbreviations from) refl h.accepted h.indexed
            ∙ ap₂ (λ (i j : ℕ). from_here e x unit room (find_at x.abbreviations from index) (start_of e) first first (reached 0 0 [] i j)) (sym r) (sym l);
        offsets_are = filled_none offsets h.offsets_clear;
        parents_are = filled_none parents h.parents_clear;
        roots-are = filled_none roots h.roots_clear;
        ends-are = filled_none ends h.ends_clear;
        targets-are = filled_none targets h.targets_clear;
        count-is = refl;
        to_is = refl;
        to-most = omega arith;
        nesting-is = n;
        chain = tt;
        below = tt;
        deep = omega arith;
        ahead = omega arith;
        few = omega (arith, h.offsets_room);
        offsets_room = h.offsets_room;
        parents_room = h.parents_room;
        roots_room = h.roots_room;
        ends_room = h.ends_room;
        targets_room = h.targets_room;
      }
