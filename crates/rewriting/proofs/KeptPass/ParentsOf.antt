-- The rows of a unit's analysis hold the parents of its entries, a row each; and a column that starts with them holds them from 0 on. Assumes nothing.
use mathlib.Core.Path.{◌≡◌, refl, ap, ap₂, sym, ◌∙◌, subst}
use Prim.Native.Nat.{ℕ, suc, ◌+◌}
use native.Mathlib.Omega.{arith}
use mathlib.Core.Bool.{Bool, true, false}
use mathlib.Core.List.{List, [], ◌∷◌, ◌++◌, append_assoc}
use Rattle.std.specs.Prelude.{Result, None, Option, Some, Err, Ok}
use lib.ListN.{length, get_or, length-append}
use lib.Dec.{ltb, leb}
use Rattle.readers.proofs.Choice.{pick-either}
use Rattle.readers.specs.Abbreviations.{Placed, declared_in, abbreviations_of, index_of, find_at}
use Rattle.readers.specs.Nesting.{no_parent, opened, closed, top}
use Rattle.readers.specs.Stream.{Item, entry, terminator, Items, items_from}
use Rattle.readers.specs.declared.cursor.Encoding.{Encoding}
use Rattle.readers.proofs.Declarations.{find-plain}
use Rattle.readers.proofs.Streams.{items-look}
use Rattle.marking.specs.EntryReferences.{ReferencesFound, found, refused as refused_after}
use Rattle.marking.specs.declared.addresses.Verdict.{Verdict}
use Rattle.marking.specs.declared.addresses.Verdict.TheVariants.{Live, Dead}
use Rattle.marking.specs.Analysis.{Sections, Rooms, EntryRow, Analysed, analysed, refused, onto, on_verdict, on_found, Reached, reached, start_of, root_of, names_of, base_of, analyse_items, on_declared, unit_analysed}
use Rattle.marking.specs.Columns.{parents_in, pad_to}
use Rattle.readers.specs.Stream.{entry_count}
use Rattle.rewriting.specs.Inner.Parents.{parents_from, HoldsFrom}

-- ---- what holds of the rows of an analysis, if it has any

unfoldable Rows : (List EntryRow → Type 0) → Analysed → Type 0
Rows P (analysed rows) = P rows
Rows P (refused n) = Unit {0}

rows-verdict : (P : List EntryRow → Type 0) (v : Result Verdict ℕ) (k : ℕ → Analysed) → ((n : ℕ) → Rows P (k n)) → Rows P (on_verdict v k)
unfolding Rows on_verdict
rows-verdict P (Ok Live) k h = h 1
rows-verdict P (Ok Dead) k h = h 0
rows-verdict P (Err n) k h = tt

rows-found : (P : List EntryRow → Type 0) (f : ReferencesFound) (k : List ℕ → Analysed) → ((names : List ℕ) → Rows P (k names)) → Rows P (on_found f k)
unfolding Rows on_found
rows-found P (found xs) k h = h xs
rows-found P (refused_after xs n) k h = tt

rows-onto : (P Q : List EntryRow → Type 0) (r : EntryRow) (a : Analysed) → ((rows : List EntryRow) → Q rows → P (r ∷ rows)) → Rows Q a → Rows P (onto r a)
unfolding Rows onto
rows-onto P Q r (analysed rows) h q = h rows q
rows-onto P Q r (refused n) h q = tt

rows-map : (P Q : List EntryRow → Type 0) (a : Analysed) → ((rows : List EntryRow) → P rows → Q rows) → Rows P a → Rows Q a
unfolding Rows
rows-map P Q (analysed rows) h q = h rows q
rows-map P Q (refused n) h q = tt

-- ---- item by item

-- the rows of items from entry k on
pub record RowsOf (k : ℕ) (stack : List ℕ) (items : List Item) (rows : List EntryRow) : Type 0 where
  pub parents : parents_in rows ≡ parents_from k stack items
  pub many : length rows ≡ entry_count items

module _ (e : Encoding) (x : Sections) (unit : List ℕ) (room : Rooms) where
  rows_of : (p : Reached) (items : List Item) (whole : Bool) → Rows (RowsOf p.count p.stack items) (analyse_items e x unit room p items whole)
  unfolding Rows analyse_items parents_in parents_from entry_count
  rows_of p [] true = record { parents = refl; many = refl }
  rows_of p [] false = tt
  rows_of p (terminator a b ∷ rest) whole =
      let next = reached p.count p.references (closed p.stack) p.rnglists_base p.loclists_base in
      rows-map (RowsOf p.count (closed p.stack) rest) _ (analyse_items e x unit room next rest whole)
      (λ rows q. record { parents = q.parents; many = q.many }) (rows_of next rest whole)
  rows_of p (entry y ∷ rest) whole =
      let P = RowsOf p.count p.stack (entry y ∷ rest) in
      pick-either (Rows P) (ltb p.count room.entries) _ _
      (λ t. rows-verdict P (root_of e x unit (base_of e x unit 0x74 p.rnglists_base y) y) _ (λ root.
      rows-found P (names_of e x unit (base_of e x unit 0x8c p.loclists_base y) y) _ (λ names.
      pick-either (Rows P) (leb (p.references + length names) room.references) _ _
      (λ t. rows-onto P (RowsOf (suc p.count) (opened y.declaration.children p.count p.stack) rest) _ _
      (λ rows q. record { parents = ap (λ (l : List ℕ). top p.stack ∷ l) q.parents; many = ap suc q.many })
      (rows_of
      (reached (suc p.count) (p.references + length names) (opened y.declaration.children p.count p.stack) (base_of e x unit 0x74 p.rnglists_base y) (base_of e x unit 0x8c p.loclists_base y))
      rest whole))
      (λ t. tt))))
      (λ t. tt)

-- ---- a unit

rows_at : (P : List EntryRow → Type 0) (a : Analysed) (rows : List EntryRow) → a ≡ analysed rows → Rows P a → P rows
unfolding Rows
rows_at P a rows q h = subst (Rows P) q h

-- the declarations of a unit, and its rows by the items that they give
pub record UnitRows (e : Encoding) (x : Sections) (unit : List ℕ) (from first : ℕ) (rows : List EntryRow) : Type 0 where
  pub declarations : List Placed
  pub declared : abbreviations_of x.abbreviations from ≡ Some declarations
  pub are : RowsOf 0 [] (items_from e x.abbreviations (declared_in declarations) unit first).0 rows

module _ (e : Encoding) (x : Sections) (unit : List ℕ) (room : Rooms) (from first : ℕ) where
  by-declared : (o : Option (List Placed)) → abbreviations_of x.abbreviations from ≡ o
      → Rows (UnitRows e x unit from first)
      (on_declared o (λ ds. analyse_items e x unit room (start_of e) (items_from e x.abbreviations (declared_in ds) unit first).0 (items_from e x.abbreviations (declared_in ds) unit first).1))
  unfolding Rows on_declared
  by-declared None q = tt
  by-declared (Some ds) q =
      let items : Items = items_from e x.abbreviations (declared_in ds) unit first in
      rows-map (RowsOf 0 [] items.0) (UnitRows e x unit from first) (analyse_items e x unit room (start_of e) items.0 items.1)
      (λ rows h. record { declarations = ds; declared = q; are = h }) (rows_of e x unit room (start_of e) items.0 items.1)

  -- THE rows of a unit
  pub unit-rows : (rows : List EntryRow) → unit_analysed e x unit room from first ≡ analysed rows → UnitRows e x unit from first rows
  unfolding unit_analysed
  unit-rows rows q = rows_at (UnitRows e x unit from first) _ rows q (by-declared (abbreviations_of x.abbreviations from) refl)

  -- by the declarations
  pub parents-of : (rows : List EntryRow) → unit_analysed e x unit room from first ≡ analysed rows → (ds : List Placed) → abbreviations_of x.abbreviations from ≡ Some ds
      → RowsOf 0 [] (items_from e x.abbreviations (declared_in ds) unit first).0 rows
  parents-of rows q ds h =
      let u : UnitRows e x unit from first rows = unit-rows rows q in
      subst (λ (ds : List Placed). RowsOf 0 [] (items_from e x.abbreviations (declared_in ds) unit first).0 rows) (some_same (sym u.declared ∙ h)) u.are
    where
      some_same : {a b : List Placed} → Some a ≡ Some b → a ≡ b
      some_same q = cc

  -- as the code finds them, through an index
  pub parents-found : (rows : List EntryRow) → unit_analysed e x unit room from first ≡ analysed rows → (n : ℕ)
      → RowsOf 0 [] (items_from e x.abbreviations (find_at x.abbreviations from (index_of x.abbreviations from n)) unit first).0 rows
  parents-found rows q n =
      let u : UnitRows e x unit from first rows = unit-rows rows q in
      subst (λ (i : Items). RowsOf 0 [] i.0 rows)
      (items-look e x.abbreviations (declared_in u.declarations) (find_at x.abbreviations from (index_of x.abbreviations from n))
      (λ code. sym (find-plain x.abbreviations from n u.declarations u.declared code)) unit first)
      u.are

-- ---- the column

get_after : (before : List ℕ) (y : ℕ) (after : List ℕ) (d : ℕ) → get_or (before ++ (y ∷ after)) (length before) d ≡ y
get_after [] y after d = refl
get_after (b ∷ before) y after d = get_after before y after d

holds_after : (before xs after : List ℕ) (column : List ℕ) (k : ℕ) → column ≡ before ++ (xs ++ after) → k ≡ length before → HoldsFrom column k xs
unfolding HoldsFrom
holds_after before [] after column k q l = tt
holds_after before (x ∷ xs) after column k q l = (
  ap₂ (λ (c : List ℕ) (j : ℕ). get_or c j no_parent) q l ∙ get_after before x (xs ++ after) no_parent,
  holds_after (before ++ (x ∷ [])) xs after column (suc k)
      (q ∙ sym (append_assoc before (x ∷ []) (xs ++ after)))
      (let z : length (before ++ (x ∷ [])) ≡ length before + 1 = length-append before (x ∷ []) in omega arith),
)

-- what stands at the start of a column
pub holds-first : (xs after : List ℕ) → HoldsFrom (xs ++ after) 0 xs
holds-first xs after = holds_after [] xs after (xs ++ after) 0 refl refl

-- THE parents column of an analysed unit
pub parents-held : (e : Encoding) (x : Sections) (unit : List ℕ) (room : Rooms) (from first : ℕ) (rows : List EntryRow) → unit_analysed e x unit room from first ≡ analysed rows → (n m : ℕ)
    → HoldsFrom (pad_to m (parents_in rows)) 0
    (parents_from 0 [] (items_from e x.abbreviations (find_at x.abbreviations from (index_of x.abbreviations from n)) unit first).0)
unfolding pad_to
parents-held e x unit room from first rows q n m =
    subst (HoldsFrom (pad_to m (parents_in rows)) 0) (parents-found e x unit room from first rows q n).parents (holds-first (parents_in rows) _)
