-- Keep lists (document 02, Point 10): the words of the laws in proofs/keep.
use Rattle.std.specs.Prelude.{◌≡◌, ℕ, suc, ◌≤◌, ◌<◌, List, [], ◌∷◌, length, get_or, Ok, Some, Err, Result}
use Rattle.readers.specs.Abbreviations.{Placed, abbreviations_of}
use Rattle.readers.specs.Header.{header_of}
use Rattle.readers.specs.declared.entries.Entry.{Entry}
use Rattle.readers.specs.declared.header.UnitHeader.{UnitHeader}
use Rattle.marking.specs.EntryRows.{unit_items}
use Rattle.marking.specs.KeepList.{KeepList, always_root, never_root, treatment_of}
use Rattle.marking.specs.Analysis.{Sections, sections, EntryRow, tag_of, Analysed, analysed, refused as not_analysed}
use Rattle.laws.specs.UnitSurvivors.{ParentIn, RootIn, NamesIn, Below, EntryAt}
use Rattle.marking.specs.declared.addresses.Verdict.{Verdict}
use Rattle.marking.specs.declared.addresses.Verdict.TheVariants.{Live, Dead}

-- the same sections with another keep list
abbrev pub with_keep : Sections → KeepList → Sections
with_keep x keep = sections x.abbreviations x.locations x.ranges x.addresses x.debug_ranges keep x.setting

-- the empty list
abbrev pub no_list : KeepList
no_list = record { tags = []; treatments = [] }

-- ---- which lists are refused

-- "19, a treatment other than 1 or 2, or not one for each tag"
pub data Untreated (keep : KeepList) : Type 0 where
  not_each : (length keep.treatments ≡ length keep.tags → ⊥) → Untreated keep
  another : (i : ℕ) → i < length keep.treatments → (get_or keep.treatments i 0 ≡ always_root → ⊥)
      → (get_or keep.treatments i 0 ≡ never_root → ⊥) → Untreated keep

-- "20, a tag not above the one before it"
pub record Unordered (keep : KeepList) : Type 0 where
  pub before : ℕ
  pub inside : suc before < length keep.tags
  pub not_above : get_or keep.tags (suc before) 0 ≤ get_or keep.tags before 0

-- ---- what a treatment does to an entry

-- a list has a tag with treatment k
pub record Treats (keep : KeepList) (tag k : ℕ) : Type 0 where
  pub at : ℕ
  pub inside : at < length keep.tags
  pub tag_is : get_or keep.tags at 0 ≡ tag
  pub treatment_is : get_or keep.treatments at 0 ≡ k

-- a verdict that is no refusal
abbrev pub Decided : Result Verdict ℕ → Type 0
Decided v = (n : ℕ) → v ≡ Err n → ⊥

-- What an entry's tag does to the verdict of its root test, by a list that is taken.
pub record TreatedBy (keep : KeepList) (tag : ℕ) (test root : Result Verdict ℕ) : Type 0 where
  -- "1 always a root"
  pub always : Treats keep tag always_root → Decided test → root ≡ Ok Live
  -- "2 never a root"
  pub never : Treats keep tag never_root → Decided test → root ≡ Ok Dead
  -- "Tags not listed are judged as before"
  pub unlisted : ((k : ℕ) → Treats keep tag k → ⊥) → root ≡ test
  -- "Every entry still goes through the root test, so malformed ones are refused under every treatment": and no others
  pub refused : (n : ℕ) → test ≡ Err n → root ≡ Err n
  pub no_other : (n : ℕ) → root ≡ Err n → test ≡ Err n

-- How an entry that is no root survives: "Treatment 2 doesn't stop an entry from being kept through a reference or its
-- family". S are the survivors.
pub data KeptThrough (rows : List EntryRow) (S : ℕ → Type 0) : ℕ → Type 0 where
  as_first : 0 < length rows → KeptThrough rows S 0
  as_parent : {p i : ℕ} → ParentIn rows p i → S i → KeptThrough rows S p
  by_reference : {s t : ℕ} → NamesIn rows s t → S s → KeptThrough rows S t
  below_root : {r d : ℕ} → RootIn rows r → Below rows r d → KeptThrough rows S d
  below_named : {s t d : ℕ} → NamesIn rows s t → S s → Below rows t d → KeptThrough rows S d

-- ---- two lists

-- the same entry, but perhaps for whether it is a root
pub record SameEntry (r s : EntryRow) : Type 0 where
  pub offset_is : r.offset ≡ s.offset
  pub parent_is : r.parent ≡ s.parent
  pub names_are : r.names ≡ s.names

pub data SameEntries : List EntryRow → List EntryRow → Type 0 where
  no_entries : SameEntries [] []
  entry_and : {r s : EntryRow} {rs ss : List EntryRow} → SameEntry r s → SameEntries rs ss → SameEntries (r ∷ rs) (s ∷ ss)

-- an analysis is accepted, with the same entries
pub record AlsoAnalysed (rows : List EntryRow) (a : Analysed) : Type 0 where
  pub others : List EntryRow
  pub is : a ≡ analysed others
  pub same : SameEntries rows others

-- What one analysis is refused with the other is, and where the one is accepted so is the other: they differ in roots alone.
pub record SameButRoots (a b : Analysed) : Type 0 where
  pub refusals : (n : ℕ) → a ≡ not_analysed n → b ≡ not_analysed n
  pub entries : (rows : List EntryRow) → a ≡ analysed rows → AlsoAnalysed rows b

-- what holds of each entry of a section's first unit
abbrev pub EachEntry : Sections → List ℕ → (Entry → Type 0) → Type 0
EachEntry x section P =
    (h : UnitHeader) (ds : List Placed) → header_of x.setting.big_endian section ≡ Ok (Some h)
    → abbreviations_of x.abbreviations h.abbreviations ≡ Some ds → (k : ℕ) (y : Entry)
    → EntryAt y k (unit_items x section h ds).0 → P y

-- two lists have the same treatment for the tag of each of them, and a list has the tag of none
abbrev pub TreatAlike : Sections → List ℕ → KeepList → KeepList → Type 0
TreatAlike x section one other = EachEntry x section (λ y. treatment_of one (tag_of y) ≡ treatment_of other (tag_of y))

abbrev pub ListsNone : Sections → List ℕ → KeepList → Type 0
ListsNone x section keep = EachEntry x section (λ y. (k : ℕ) → Treats keep (tag_of y) k → ⊥)
