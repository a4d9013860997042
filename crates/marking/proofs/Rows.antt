-- The rows of a unit: their offsets ascend inside it, each parent is before its child, roots are 0 or 1, they fit the tables; and their graph is one that marking takes.
-- Assumes nothing.
use mathlib.Core.Path.{◌≡◌, refl, ap, sym, ◌∙◌, subst}
use Prim.Native.Nat.{ℕ, zero, suc, ◌+◌, ◌*◌, ◌/◌, ◌≤◌, ◌<◌}
use native.Mathlib.Omega.{arith}
use mathlib.Core.Bool.{Bool, true, false}
use mathlib.Core.List.{List, [], ◌∷◌, ◌++◌}
use Rattle.std.specs.Prelude.{Err, None, Ok, Option, Result, Some}
use Rattle.readers.specs.declared.abbreviations.Declaration.{Declaration}
use Rattle.readers.specs.declared.entries.Step.{Step}
use Rattle.readers.specs.declared.header.UnitHeader.{UnitHeader}
use mathlib.Core.Logic.{◌⊎◌, inl, inr, ⊎_elim}
use lib.ListN.{length, get_or, take, drop, length-append, take-append-drop}
use lib.Dec.{ltb, leb, eqb}
use borrow.Author.Tests.{lt-ltb, le-leb, eq-eqb}
use mir.Facts.{ltb_yes, leb_yes}
use Rattle.readers.proofs.Choice.{pick-either, All, all-some, all_none, all-pick, all_map}
use Rattle.readers.specs.Nesting.{no_parent, opened, closed, top}
use Rattle.readers.specs.Abbreviations.{Placed, declared_in, abbreviations_of}
use Rattle.readers.specs.Entries.{step_at}
use Rattle.readers.specs.declared.cursor.Encoding.{Encoding}
use Rattle.readers.specs.declared.entries.Step.TheVariants.{Entry as Entry', Terminator, End}
use Rattle.marking.specs.Below.{every}
use Rattle.marking.specs.Graph.{references, parent_fits, pair_fits, root_fits, well_formed, takes}
use Rattle.marking.specs.EntryReferences.{ReferencesFound, found, refused as refused_after}
use Rattle.marking.specs.declared.addresses.Verdict.{Verdict}
use Rattle.marking.specs.declared.addresses.Verdict.TheVariants.{Live, Dead}
use Rattle.marking.proofs.Tests.{every_in, and_in, or_inl, or_inr}
use Rattle.readers.specs.Stream.{Item, entry, terminator, Items, push, on_step, items_within, items_from}
use Rattle.marking.specs.Analysis.{Sections, Rooms, EntryRow, Analysed, analysed, refused, onto, on_verdict, on_found, Reached, reached, start_of, analyse_items, on_declared, unit_analysed, header_by, header_analysed, analysis_of, root_of, names_of, base_of}
use Rattle.marking.specs.Columns.{offsets_in, parents_in, roots_in, names_in}
use Rattle.marking.specs.Resolution.{entry_from, pair_for, pairs_of_entry, pairs_from, pairs_in, graph_of, Ascending}
use Rattle.readers.proofs.Streams.{EntryInside, step-inside, terminator-inside}

-- ---- where items stand

-- items from a place on, up to `high`
unfoldable ItemsIn : ℕ → ℕ → List Item → Type 0
ItemsIn high low [] = Unit {0}
ItemsIn high low (entry y ∷ rest) = (y.offset.0 ≡ low) × (low < y.next.at) × (y.next.at ≤ high) × ItemsIn high y.next.at rest
ItemsIn high low (terminator a b ∷ rest) = (low < b) × (b ≤ high) × ItemsIn high b rest

module _ (e : Encoding) (abbreviations : List ℕ) (look : ℕ → Option Declaration) (unit : List ℕ) where
  turn_in : (at : ℕ) (r : Option Step) → step_at e abbreviations look unit at ≡ r → (k : ℕ → Items) → ((n : ℕ) → ItemsIn (length unit) n (k n).0)
      → ItemsIn (length unit) at (on_step at r k).0
  unfolding on_step push ItemsIn
  turn_in at (Some (Entry' x)) q k h =
      let i : EntryInside unit at x = step-inside e abbreviations look unit at x q in
      (i.here, omega (arith, i.coded, i.ahead), i.within, h x.next.at)
  turn_in at (Some (Terminator c)) q k h =
      let i = terminator-inside e abbreviations look unit at c q in
      (i.0, i.1, h c.at)
  turn_in at (Some End) q k h = tt
  turn_in at None q k h = tt

  within_in : (n at : ℕ) → ItemsIn (length unit) at (items_within e abbreviations look unit n at).0
  unfolding items_within ItemsIn
  within_in zero at = tt
  within_in (suc n) at = turn_in at (step_at e abbreviations look unit at) refl (λ next. items_within e abbreviations look unit n next) (λ next. within_in n next)

  items-in : (at : ℕ) → ItemsIn (length unit) at (items_from e abbreviations look unit at).0
  unfolding items_from
  items-in at = within_in _ at

-- ---- numbers below a bound

unfoldable pub Under : ℕ → List ℕ → Type 0
Under n [] = Unit {0}
Under n (x ∷ xs) = (x < n) × Under n xs

under_more : (n m : ℕ) → n ≤ m → (xs : List ℕ) → Under n xs → Under m xs
unfolding Under
under_more n m h [] u = tt
under_more n m h (x ∷ xs) u = (let l : x < n = u.0 in omega arith, under_more n m h xs u.1)

under-append : (n : ℕ) (xs ys : List ℕ) → Under n xs → Under n ys → Under n (xs ++ ys)
unfolding Under
under-append n [] ys u v = v
under-append n (x ∷ xs) ys u v = (u.0, under-append n xs ys u.1 v)

pub under_at : (n : ℕ) (xs : List ℕ) → Under n xs → (i : ℕ) → i < length xs → get_or xs i 0 < n
unfolding Under
under_at n [] u i h = absurd (omega arith)
under_at n (x ∷ xs) u zero h = u.0
under_at n (x ∷ xs) u (suc i) h = under_at n xs u.1 i (omega arith)

under-close : (n : ℕ) (stack : List ℕ) → Under n stack → Under n (closed stack)
unfolding Under closed
under-close n [] u = tt
under-close n (k ∷ stack) u = u.1

under-open : (n : ℕ) (b : Bool) (stack : List ℕ) → Under n stack → Under (suc n) (opened b n stack)
unfolding Under opened
under-open n true stack u = (omega arith, under_more n (suc n) (omega arith) stack u)
under-open n false stack u = under_more n (suc n) (omega arith) stack u

under_top : (n : ℕ) (stack : List ℕ) → Under n stack → (top stack ≡ no_parent) ⊎ (top stack < n)
unfolding Under top
under_top n [] u = inl refl
under_top n (k ∷ stack) u = inr u.0

-- ---- what rows have

-- rows from entry k on: their offsets from `low` on and below `high`
unfoldable pub Rowed : ℕ → ℕ → ℕ → List EntryRow → Type 0
Rowed high low k [] = Unit {0}
Rowed high low k (r ∷ rs) =
    (low ≤ r.offset) × (r.offset < high) × ((r.parent ≡ no_parent) ⊎ (r.parent < k)) × (r.root ≤ 1) × Rowed high (suc r.offset) (suc k) rs

pub rowed-from : (high low low' k : ℕ) (rows : List EntryRow) → low ≤ low' → Rowed high low' k rows → Rowed high low k rows
unfolding Rowed
rowed-from high low low' k [] h r = tt
rowed-from high low low' k (x ∷ xs) h r = (let l : low' ≤ x.offset = r.0 in omega arith, r.1, r.2, r.3, r.4)

rowed-to : (high high' low k : ℕ) (rows : List EntryRow) → high ≤ high' → Rowed high low k rows → Rowed high' low k rows
unfolding Rowed
rowed-to high high' low k [] h r = tt
rowed-to high high' low k (x ∷ xs) h r =
    (r.0, let l : x.offset < high = r.1 in omega arith, r.2, r.3, rowed-to high high' (suc x.offset) (suc k) xs h r.4)

pub rows_fit : (high low k : ℕ) (rows : List EntryRow) → Rowed high low k rows → low ≤ high → low + length rows ≤ high
unfolding Rowed
rows_fit high low k [] r h = omega arith
rows_fit high low k (x ∷ xs) r h =
    let l : low ≤ x.offset = r.0 in
    let l' : x.offset < high = r.1 in
    omega (arith, rows_fit high (suc x.offset) (suc k) xs r.4 (omega arith))

pub rows_few : (high low k : ℕ) (rows : List EntryRow) → Rowed high low k rows → length rows ≤ high
unfolding Rowed
rows_few high low k [] r = omega arith
rows_few high low k (x ∷ xs) r =
    let l' : x.offset < high = r.1 in
    omega (arith, rows_fit high (suc x.offset) (suc k) xs r.4 (omega arith))

pub offsets-ascend : (high low k : ℕ) (rows : List EntryRow) → Rowed high low k rows → Ascending low (offsets_in rows)
unfolding Rowed Ascending offsets_in
offsets-ascend high low k [] r = tt
offsets-ascend high low k (x ∷ xs) r = (r.0, offsets-ascend high (suc x.offset) (suc k) xs r.4)

pub roots-under : (high low k : ℕ) (rows : List EntryRow) → Rowed high low k rows → Under 2 (roots_in rows)
unfolding Rowed Under roots_in
roots-under high low k [] r = tt
roots-under high low k (x ∷ xs) r = (let l : x.root ≤ 1 = r.3 in omega arith, roots-under high (suc x.offset) (suc k) xs r.4)

pub parent-before : (high low k : ℕ) (rows : List EntryRow) → Rowed high low k rows → (i : ℕ) → i < length rows
    → (get_or (parents_in rows) i 0 ≡ no_parent) ⊎ (get_or (parents_in rows) i 0 < k + i)
unfolding Rowed parents_in
parent-before high low k [] r i h = absurd (omega arith)
parent-before high low k (x ∷ xs) r zero h = ⊎_elim (λ p. inl p) (λ p. inr (omega arith)) r.2
parent-before high low k (x ∷ xs) r (suc i) h =
    ⊎_elim (λ p. inl p) (λ p. inr (omega arith)) (parent-before high (suc x.offset) (suc k) xs r.4 i (omega arith))

-- two of ascending offsets
pub ascending-from : (low : ℕ) (os : List ℕ) → Ascending low os → (i : ℕ) → i < length os → low ≤ get_or os i 0
unfolding Ascending
ascending-from low [] a i h = absurd (omega arith)
ascending-from low (o ∷ os) a zero h = a.0
ascending-from low (o ∷ os) a (suc i) h =
    let l : low ≤ o = a.0 in
    omega (arith, ascending-from (suc o) os a.1 i (omega arith))

pub ascending-at : (low : ℕ) (os : List ℕ) → Ascending low os → (i j : ℕ) → i < j → j < length os → get_or os i 0 < get_or os j 0
unfolding Ascending
ascending-at low [] a i j h l = absurd (omega arith)
ascending-at low (o ∷ os) a i zero h l = absurd (omega arith)
ascending-at low (o ∷ os) a zero (suc j) h l = ascending-from (suc o) os a.1 j (omega arith)
ascending-at low (o ∷ os) a (suc i) (suc j) h l = ascending-at (suc o) os a.1 i j (omega arith) (omega arith)

-- ---- what an analysis gives

unfoldable pub Gives : (List EntryRow → Type 0) → Analysed → Type 0
Gives P (analysed rows) = P rows
Gives P (refused n) = Unit {0}

pub gives_of : (P : List EntryRow → Type 0) (a : Analysed) (rows : List EntryRow) → Gives P a → a ≡ analysed rows → P rows
unfolding Gives
gives_of P a rows g q = subst (Gives P) q g

pub gives-verdict : (P : List EntryRow → Type 0) (v : Result Verdict ℕ) (k : ℕ → Analysed) → ((root : ℕ) → root ≤ 1 → Gives P (k root)) → Gives P (on_verdict v k)
unfolding Gives on_verdict
gives-verdict P (Ok Live) k h = h 1 (omega arith)
gives-verdict P (Ok Dead) k h = h 0 (omega arith)
gives-verdict P (Err n) k h = tt

pub gives_found : (P : List EntryRow → Type 0) (f : ReferencesFound) (k : List ℕ → Analysed) → ((names : List ℕ) → Gives P (k names)) → Gives P (on_found f k)
unfolding Gives on_found
gives_found P (found xs) k h = h xs
gives_found P (refused_after xs n) k h = tt

pub gives-onto : (P Q : List EntryRow → Type 0) (r : EntryRow) (a : Analysed) → ((rows : List EntryRow) → Q rows → P (r ∷ rows)) → Gives Q a → Gives P (onto r a)
unfolding Gives onto
gives-onto P Q r (analysed rows) f g = f rows g
gives-onto P Q r (refused n) f g = tt

pub gives-map : (P Q : List EntryRow → Type 0) (a : Analysed) → ((rows : List EntryRow) → P rows → Q rows) → Gives P a → Gives Q a
unfolding Gives
gives-map P Q (analysed rows) f g = f rows g
gives-map P Q (refused n) f g = tt

pub gives-refused : (P : List EntryRow → Type 0) (n : ℕ) → Gives P (refused n)
unfolding Gives
gives-refused P n = tt

-- rows from a place on, after what was reached
record Laws (high low : ℕ) (room : Rooms) (n m : ℕ) (rows : List EntryRow) : Type 0 where
  pub rowed : Rowed high low n rows
  pub entries : n ≤ room.entries → n + length rows ≤ room.entries
  pub references : m ≤ room.references → m + length (names_in rows) ≤ room.references

laws-end : (high low : ℕ) (room : Rooms) (n m : ℕ) → Gives (Laws high low room n m) (analysed [])
unfolding Gives Rowed names_in
laws-end high low room n m = record { rowed = tt; entries = λ h. omega arith; references = λ h. omega arith }

laws-from : (high low low' : ℕ) (room : Rooms) (n m : ℕ) (rows : List EntryRow) → low ≤ low' → Laws high low' room n m rows → Laws high low room n m rows
laws-from high low low' room n m rows h l = record { rowed = rowed-from high low low' n rows h l.rowed; entries = l.entries; references = l.references }

laws-onto : (high low next : ℕ) (room : Rooms) (n m : ℕ) (r : EntryRow) (rows : List EntryRow)
    → r.offset ≡ low → low < next → next ≤ high → (r.parent ≡ no_parent) ⊎ (r.parent < n) → r.root ≤ 1
    → n < room.entries → m + length r.names ≤ room.references
    → Laws high next room (suc n) (m + length r.names) rows → Laws high low room n m (r ∷ rows)
unfolding Rowed names_in
laws-onto high low next room n m r rows o a b p t h k l = record {
  rowed = (omega arith, omega arith, p, t, rowed-from high (suc r.offset) next (suc n) rows (omega arith) l.rowed);
  entries = λ _. omega (arith, l.entries (omega arith));
  references = λ _. omega (arith, length-append r.names (names_in rows), l.references k);
}

module _ (e : Encoding) (x : Sections) (unit : List ℕ) (room : Rooms) (high : ℕ) where
  items-laws : (low : ℕ) (p : Reached) (items : List Item) (whole : Bool) → ItemsIn high low items → Under p.count p.stack
      → Gives (Laws high low room p.count p.references) (analyse_items e x unit room p items whole)
  unfolding analyse_items ItemsIn
  items-laws low p [] true i u = laws-end high low room p.count p.references
  items-laws low p [] false i u = gives-refused _ 4
  items-laws low p (terminator a b ∷ rest) whole i u =
      let l : low < b = i.0 in
      gives-map (Laws high b room p.count p.references) (Laws high low room p.count p.references) _
      (λ rows q. laws-from high low b room p.count p.references rows (omega arith) q)
      (items-laws b (reached p.count p.references (closed p.stack) p.rnglists_base p.loclists_base) rest whole i.2 (under-close p.count p.stack u))
  items-laws low p (entry y ∷ rest) whole i u =
      pick-either (Gives (Laws high low room p.count p.references)) (ltb p.count room.entries) _ _
      (λ few. gives-verdict _ (root_of e x unit (base_of e x unit 0x74 p.rnglists_base y) y) _
      (λ root small. gives_found _ (names_of e x unit (base_of e x unit 0x8c p.loclists_base y) y) _
      (λ names. pick-either (Gives (Laws high low room p.count p.references)) (leb (p.references + length names) room.references) _ _
      (λ less. gives-onto _ (Laws high y.next.at room (suc p.count) (p.references + length names)) _ _
      (λ rows q. laws-onto high low y.next.at room p.count p.references
      (record { offset = y.offset.0; parent = top p.stack; root = root; names = names }) rows
      i.0 i.1 i.2 (under_top p.count p.stack u) small (ltb_yes few) (leb_yes less) q)
      (items-laws y.next.at
      (reached (suc p.count) (p.references + length names) (opened y.declaration.children p.count p.stack) (base_of e x unit 0x74 p.rnglists_base y) (base_of e x unit 0x8c p.loclists_base y))
      rest whole i.3 (under-open p.count y.declaration.children p.stack u)))
      (λ _. gives-refused _ 11))))
      (λ _. gives-refused _ 10)

-- ---- the rows of a unit

pub record UnitRows (unit : List ℕ) (room : Rooms) (first : ℕ) (rows : List EntryRow) : Type 0 where
  pub rowed : Rowed (length unit) first 0 rows
  pub entries : length rows ≤ room.entries
  pub references : length (names_in rows) ≤ room.references
  pub few : length rows ≤ length unit

module _ (e : Encoding) (x : Sections) (unit : List ℕ) (room : Rooms) (from first : ℕ) where
  declared-laws : (o : Option (List Placed))
      → Gives (Laws (length unit) first room 0 0)
      (on_declared o (λ ds. analyse_items e x unit room (start_of e) (items_from e x.abbreviations (declared_in ds) unit first).0 (items_from e x.abbreviations (declared_in ds) unit first).1))
  unfolding on_declared Gives Under
  declared-laws None = tt
  declared-laws (Some ds) = items-laws e x unit room (length unit) first (start_of e) _ _ (items-in e x.abbreviations (declared_in ds) unit first) tt

  pub unit-rows : (rows : List EntryRow) → unit_analysed e x unit room from first ≡ analysed rows → UnitRows unit room first rows
  unfolding unit_analysed
  unit-rows rows q =
      let l : Laws (length unit) first room 0 0 rows = gives_of _ _ rows (declared-laws (abbreviations_of x.abbreviations from)) q in
      record {
        rowed = l.rowed;
        entries = omega (arith, l.entries (omega arith));
        references = omega (arith, l.references (omega arith));
        few = rows_few (length unit) first 0 rows l.rowed;
      }

take-few : (n : ℕ) (xs : List ℕ) → length (take n xs) ≤ length xs
take-few n xs = omega (arith, length-append (take n xs) (drop n xs), ap length (take-append-drop n xs))

-- those of the first unit of a section
module _ (x : Sections) (section : List ℕ) (room : Rooms) (rows : List EntryRow) where
  pub no_rows : UnitRows section room 0 []
  unfolding Rowed names_in
  no_rows = record { rowed = tt; entries = omega arith; references = omega arith; few = omega arith }

  header-rows : (h : Result (Option UnitHeader) ℕ) → header_analysed x section room h ≡ analysed rows → UnitRows section room 0 rows
  unfolding header_analysed
  header-rows (Ok None) q = let z : [] ≡ rows = cc in subst (UnitRows section room 0) z no_rows
  header-rows (Err n) q = let z : ◌≡◌ {A = ℕ} 0 1 = cc in absurd (omega arith)
  header-rows (Ok (Some h)) q =
      let u : UnitRows (take h.end section) room h.first.0 rows =
      unit-rows h.encoding x (take h.end section) room h.abbreviations h.first.0 rows q in
      let l : length (take h.end section) ≤ length section = omega (arith, take-few h.end section) in
      record {
        rowed =
            rowed-to (length (take h.end section)) (length section) 0 0 rows l
            (rowed-from (length (take h.end section)) 0 h.first.0 0 rows (omega arith) u.rowed);
        entries = u.entries;
        references = u.references;
        few = omega (arith, u.few);
      }

  pub analysis-rows : analysis_of x section room ≡ analysed rows → UnitRows section room 0 rows
  unfolding analysis_of
  analysis-rows q = header-rows (header_by x section) q

-- ---- their graph

pub length-parents : (rows : List EntryRow) → length (parents_in rows) ≡ length rows
unfolding parents_in
length-parents [] = refl
length-parents (r ∷ rs) = ap suc (length-parents rs)

pub length-roots : (rows : List EntryRow) → length (roots_in rows) ≡ length rows
unfolding roots_in
length-roots [] = refl
length-roots (r ∷ rs) = ap suc (length-roots rs)

pub length-offsets : (rows : List EntryRow) → length (offsets_in rows) ≡ length rows
unfolding offsets_in
length-offsets [] = refl
length-offsets (r ∷ rs) = ap suc (length-offsets rs)

-- an entry that is found is one of them
pub entry-below : (k : ℕ) (os : List ℕ) (t : ℕ) → All (λ i. i < k + length os) (entry_from k os t)
unfolding entry_from
entry-below k [] t = all_none _
entry-below k (o ∷ os) t =
    all-pick _ (eqb o t) (Some k) (entry_from (suc k) os t)
    (λ _. all-some (λ (i : ℕ). i < k + length (o ∷ os)) (omega arith))
    (λ _. all_map _ _ (entry_from (suc k) os t) (λ i h. omega arith) (entry-below (suc k) os t))

pair_under : (n i : ℕ) → i < n → (o : Option ℕ) → All (λ (t : ℕ). t < n) o → Under n (pair_for i o)
unfolding pair_for Under All
pair_under n i h None a = tt
pair_under n i h (Some t) a = (h, (a, tt))

entry-pairs-under : (n : ℕ) (os : List ℕ) → length os ≡ n → (i : ℕ) → i < n → (ts : List ℕ) → Under n (pairs_of_entry os i ts)
unfolding pairs_of_entry Under
entry-pairs-under n os l i h [] = tt
entry-pairs-under n os l i h (t ∷ ts) =
    under-append n (pair_for i (entry_from 0 os t)) (pairs_of_entry os i ts)
    (pair_under n i h (entry_from 0 os t) (all_map _ _ (entry_from 0 os t) (λ k q. omega arith) (entry-below 0 os t)))
    (entry-pairs-under n os l i h ts)

pairs-under : (n : ℕ) (os : List ℕ) → length os ≡ n → (i : ℕ) (rows : List EntryRow) → i + length rows ≤ n → Under n (pairs_from os i rows)
unfolding pairs_from Under
pairs-under n os l i [] h = tt
pairs-under n os l i (r ∷ rs) h =
    under-append n (pairs_of_entry os i r.names) (pairs_from os (suc i) rs)
    (entry-pairs-under n os l i (omega arith) r.names)
    (pairs-under n os l (suc i) rs (omega arith))

module _ (high low : ℕ) (rows : List EntryRow) (r : Rowed high low 0 rows) where
  parents-take : every (length (parents_in rows)) (parent_fits (parents_in rows)) ≡ true
  unfolding parent_fits
  parents-take =
      every_in _ _ (λ i h. ⊎_elim
      (λ p. or_inl (ltb (get_or (parents_in rows) i 0) i) (eq-eqb (get_or (parents_in rows) i 0) no_parent p))
      (λ p. or_inr (eqb (get_or (parents_in rows) i 0) no_parent) (lt-ltb (get_or (parents_in rows) i 0) i (omega arith)))
      (parent-before high low 0 rows r i (omega (arith, length-parents rows))))

  pairs-take : every (length (pairs_in rows) / 2) (pair_fits (pairs_in rows) (length (parents_in rows))) ≡ true
  unfolding pair_fits pairs_in
  pairs-take =
      let u : Under (length (parents_in rows)) (pairs_from (offsets_in rows) 0 rows) =
      pairs-under (length (parents_in rows)) (offsets_in rows) (length-offsets rows ∙ sym (length-parents rows)) 0 rows (omega (arith, length-parents rows)) in
      every_in _ _ (λ j h.
      and_in
      (lt-ltb _ _ (under_at _ (pairs_from (offsets_in rows) 0 rows) u (2 * j) (omega arith)))
      (lt-ltb _ _ (under_at _ (pairs_from (offsets_in rows) 0 rows) u (2 * j + 1) (omega arith))))

  roots-take : every (length (parents_in rows)) (root_fits (roots_in rows)) ≡ true
  unfolding root_fits
  roots-take =
      every_in _ _ (λ i h.
      let l : get_or (roots_in rows) i 0 < 2 = under_at 2 (roots_in rows) (roots-under high low 0 rows r) i (omega (arith, length-parents rows, length-roots rows)) in
      le-leb (get_or (roots_in rows) i 0) 1 (omega arith))

  -- marking takes it
  pub graph-takes : takes (graph_of rows) (length rows) ≡ true
  unfolding takes graph_of well_formed references
  graph-takes =
      and_in (eq-eqb (length rows) (length (parents_in rows)) (sym (length-parents rows)))
      (and_in (eq-eqb (length (roots_in rows)) (length (parents_in rows)) (length-roots rows ∙ sym (length-parents rows)))
      (and_in parents-take (and_in pairs-take roots-take)))
