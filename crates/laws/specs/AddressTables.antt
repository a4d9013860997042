-- Other address tables for one unit (document 02, Points 2 and 5), and the choice of fixed addresses (Point 7): the words
-- of `all-live-law`, `no-failure-law`, `none-lost-law`, `failure-law`, `answer-law` (proofs/tables) and `more-kept-law`
-- (proofs/fixed).
use Rattle.std.specs.Prelude.{ℕ, zero, suc, ◌≤◌, ◌<◌, ◌≡◌, Bool, List, [], ◌∷◌, length, get_or, T}
use Rattle.marking.specs.Addresses.{lookup_at}
use Rattle.marking.specs.Members.{Member}
use Rattle.marking.specs.Survivors.{Survivor}
use Rattle.marking.specs.Analysis.{Sections, sections, Rooms, EntryRow, analysed, analysis_of}
use Rattle.marking.specs.Columns.{offsets_in}
use Rattle.marking.specs.Resolution.{graph_of, marks_in}
use Rattle.marking.specs.Marks.{is_kept}

-- the same sections with another address table
abbrev pub with_table : Sections → List ℕ → Sections
with_table x table = sections x.abbreviations x.locations x.ranges table x.debug_ranges x.keep x.setting

-- the same sections where fixed addresses count, or do not (Point 7)
abbrev pub with_fixed : Sections → Bool → Sections
with_fixed x fixed =
    sections x.abbreviations x.locations x.ranges x.addresses x.debug_ranges x.keep
    (record { ranges_base = x.setting.ranges_base; big_endian = x.setting.big_endian; fixed_addresses = fixed })

-- a table of n indices, each of them live
unfoldable pub ones : ℕ → List ℕ
ones zero = []
ones (suc n) = 1 ∷ ones n

-- from some number on, P holds for every one
pub record Eventually (P : ℕ → Type 0) : Type 0 where
  pub from : ℕ
  pub holds : (n : ℕ) → from ≤ n → P n

-- by these sections the entries of a unit that has these rows by others are accepted too, and each survivor survives
pub record NoneLost (x : Sections) (section : List ℕ) (room : Rooms) (rows : List EntryRow) : Type 0 where
  pub all : List EntryRow
  pub accepted : analysis_of x section room ≡ analysed all
  pub same_entries : offsets_in all ≡ offsets_in rows
  pub kept : (i : ℕ) → Survivor (graph_of rows) i → Survivor (graph_of all) i
  -- so say the marks, of which R and L are kept
  pub marked : (i : ℕ) → T (is_kept (marks_in rows) i) → T (is_kept (marks_in all) i)

-- how a table fails at an index: "6 .. for a byte above 1", "17, index past the end of a table that isn't empty"
pub data Failure (table : List ℕ) (index : ℕ) : ℕ → Type 0 where
  byte_above : index < length table → 1 < get_or table index 0 → Failure table index 6
  past_end : 0 < length table → length table ≤ index → Failure table index 17

-- a table fails at none of some indices
abbrev pub NoneFails : List ℕ → List ℕ → Type 0
NoneFails table asked = (index n : ℕ) → Member index asked → Failure table index n → ⊥

-- another table says what this one says of each of some indices, whatever it says of others
abbrev pub SameAt : List ℕ → List ℕ → List ℕ → Type 0
SameAt table other asked = (index : ℕ) → Member index asked → lookup_at other index ≡ lookup_at table index

-- A refusal with n that the table is the cause of. It fails so at an index, and at none of some others; and each table
-- that says the same of those and fails at this one, in either way, is refused with the number of its own failure.
pub record FailedBy {X : Type 0} (answer : List ℕ → X) (refuse : ℕ → X) (table : List ℕ) (n : ℕ) : Type 0 where
  pub asked : List ℕ
  pub fine : NoneFails table asked
  pub index : ℕ
  pub failure : Failure table index n
  pub decides : (other : List ℕ) (m : ℕ) → SameAt table other asked → Failure other index m → answer other ≡ refuse m

-- Any other answer: the table fails at none of the indices that it goes by.
pub record AnsweredBy {X : Type 0} (answer : List ℕ → X) (table : List ℕ) : Type 0 where
  pub asked : List ℕ
  pub fine : NoneFails table asked
  pub decides : (other : List ℕ) → SameAt table other asked → answer other ≡ answer table
