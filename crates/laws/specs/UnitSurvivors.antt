-- The survivors of a unit, as demand 3 has them: the least set by the rows of its entries, what the rows say of the
-- entries, the marks, their count, and single markings.
use Rattle.std.specs.Prelude.{◌≡◌, ℕ, suc, ◌<◌, true, List, [], ◌∷◌, ◌⊎◌, ◌↔◌, length, get_or, take, T, Ok, Some}
use Rattle.readers.specs.Lists.{list_base}
use Rattle.readers.specs.Abbreviations.{Placed, abbreviations_of}
use Rattle.readers.specs.Header.{header_of, Known}
use Rattle.readers.specs.Stream.{Item, entry, terminator}
use Rattle.readers.specs.declared.entries.Entry.{Entry}
use Rattle.readers.specs.declared.header.UnitHeader.{UnitHeader}
use Rattle.marking.specs.Members.{Member, Nth}
use Rattle.marking.specs.Below.{Number}
use Rattle.readers.specs.Nesting.{no_parent}
use Rattle.marking.specs.Graph.{Graph, size, is_parent, is_root, names}
use Rattle.marking.specs.Survivors.{Survivor, ClosedBy, LeastBy}
use Rattle.laws.specs.Markings.{run, nothing, MarksSurvivors}
use Rattle.marking.specs.Marks.{is_kept, kept_count}
use Rattle.laws.specs.Marks.{Says}
use Rattle.marking.specs.Analysis.{Sections, Rooms, EntryRow, analysed, analysis_of}
use Rattle.marking.specs.Resolution.{graph_of, marks_in}
use Rattle.marking.specs.EntryRows.{RowsOf, unit_items}

-- ---- the least set, by the rows

-- p is the parent of entry i
pub record ParentIn (rows : List EntryRow) (p i : ℕ) : Type 0 where
  pub row : EntryRow
  pub at : Nth row i rows
  pub is : row.parent ≡ p
  pub some_parent : p ≡ no_parent → ⊥

pub record RootIn (rows : List EntryRow) (i : ℕ) : Type 0 where
  pub row : EntryRow
  pub at : Nth row i rows
  pub is : row.root ≡ 1

-- a reference of entry s names entry t: it is t's offset
pub record NamesIn (rows : List EntryRow) (s t : ℕ) : Type 0 where
  pub row : EntryRow
  pub at : Nth row s rows
  pub named : EntryRow
  pub named_at : Nth named t rows
  pub among : Member named.offset row.names

-- d is a descendant of r
pub data Below (rows : List EntryRow) : ℕ → ℕ → Type 0 where
  child : {r d : ℕ} → ParentIn rows r d → Below rows r d
  deeper : {r p d : ℕ} → Below rows r p → ParentIn rows p d → Below rows r d

-- S holds all that survivors must
abbrev pub ClosedRows : List EntryRow → (ℕ → Type 0) → Type 0
ClosedRows rows S = ClosedBy (length rows) (RootIn rows) (ParentIn rows) (Below rows) (NamesIn rows) S

abbrev pub LeastRows : List EntryRow → (ℕ → Type 0) → Type 1
LeastRows rows S = LeastBy (length rows) (RootIn rows) (ParentIn rows) (Below rows) (NamesIn rows) S

-- ---- what the rows say of the entries

-- the first unit of a section, by the header and the declarations that are found: its items are read to its end, and
-- the rows are those of its entries. At first no entry is open and the list bases are the format's. Its encoding is one
-- of those that are read, in the byte order that was told.
pub record FirstUnit (x : Sections) (section : List ℕ) (rows : List EntryRow) : Type 0 where
  pub header : UnitHeader
  pub declared : List Placed
  pub header_is : header_of x.setting.big_endian section ≡ Ok (Some header)
  pub known : Known x.setting.big_endian header.encoding
  pub declared_is : abbreviations_of x.abbreviations header.abbreviations ≡ Some declared
  pub whole : (unit_items x section header declared).1 ≡ true
  pub each : RowsOf header.encoding x (take header.end section) 0 [] (list_base header.encoding) (list_base header.encoding)
      (unit_items x section header declared).0 rows

-- an entry of a unit's items, and how many entries stand before it
pub data EntryAt (y : Entry) : ℕ → List Item → Type 0 where
  next : {rest : List Item} → EntryAt y 0 (entry y ∷ rest)
  behind_entry : {k : ℕ} {z : Entry} {rest : List Item} → EntryAt y k rest → EntryAt y (suc k) (entry z ∷ rest)
  behind_terminator : {k a b : ℕ} {rest : List Item} → EntryAt y k rest → EntryAt y k (terminator a b ∷ rest)

-- the graph that is marked says what the rows say
pub record GraphSays (rows : List EntryRow) (g : Graph) : Type 0 where
  pub entries : size g ≡ length rows
  pub parents : (p i : ℕ) → (is_parent g p i ≡ true) ↔ ParentIn rows p i
  pub roots : (i : ℕ) → (is_root g i ≡ true) ↔ RootIn rows i
  pub references : (s t : ℕ) → (names g s t ≡ true) ↔ NamesIn rows s t

-- ---- what is promised of every unit that is analysed

pub record SurvivorsOf (x : Sections) (section : List ℕ) (rows : List EntryRow) : Type 1 where
  -- "survivors are the least set holding the first entry and all roots, the parent of each survivor, every entry a
  -- survivor's non-sibling reference names (document 01 lists which references count), and all descendants of roots
  -- and of entries so named; every other set like that contains it"
  pub least : LeastRows rows (Survivor (graph_of rows))
  -- the rows say what the entries do: an empty section has none, else they are those of its first unit
  pub unit : ((section ≡ []) × (rows ≡ [])) ⊎ FirstUnit x section rows
  -- what stands for no parent is the number of no entry
  pub few : length rows < no_parent
  pub graph : GraphSays rows (graph_of rows)
  -- a mark for each entry: it keeps exactly the survivors, and says which are live, retained or dead
  pub marks : length (marks_in rows) ≡ length rows
  pub kept : (i : ℕ) → T (is_kept (marks_in rows) i) ↔ Survivor (graph_of rows) i
  pub says : (i : ℕ) → i < length rows → Says (graph_of rows) i (get_or (marks_in rows) i 0)
  -- "The kept count is the number of survivors."
  pub count : Number (Survivor (graph_of rows)) (length rows) (kept_count (marks_in rows))
  -- "For every list of single markings, refused ones included, in any order from nothing marked: after it only
  -- survivors are marked, and all of them exactly when every further marking would be refused."
  pub markings : (is : List ℕ) → MarksSurvivors (graph_of rows) (run (graph_of rows) nothing is)

-- where marking the first unit of a section answers n entries, k of them kept
pub record MarkedUnit (x : Sections) (section : List ℕ) (room : Rooms) (n k : ℕ) : Type 1 where
  pub rows : List EntryRow
  pub analysis : analysis_of x section room ≡ analysed rows
  pub survivors : SurvivorsOf x section rows
  pub entries : n ≡ length rows
  pub kept : Number (Survivor (graph_of rows)) n k
