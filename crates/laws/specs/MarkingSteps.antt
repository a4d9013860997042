-- What a single marking accepts, by the rows of a unit's entries, and what it changes (document 01, "Marking"). What is marked is a test on entries.
-- That it is so of every unit that is analysed, whatever is marked, is the theorem `marking-law` (proofs/survivors/MarkingSteps.antt).
use Rattle.std.specs.Prelude.{ℕ, ◌<◌, ◌≡◌, Bool, true, false, List, ◌⊎◌, ◌↔◌, length}
use Rattle.marking.specs.Analysis.{EntryRow}
use Rattle.laws.specs.Markings.{accepts, step}
use Rattle.marking.specs.Resolution.{graph_of}
use Rattle.laws.specs.UnitSurvivors.{ParentIn, RootIn, NamesIn, Below}

-- "the first entry, a root, a marked one's parent, named by a marked one's reference, or a descendant of a root or of an entry so named"
pub data ReasonIn (rows : List EntryRow) (m : ℕ → Bool) : ℕ → Type 0 where
  is_first : ReasonIn rows m 0
  by_root : {i : ℕ} → RootIn rows i → ReasonIn rows m i
  by_parent : {p i : ℕ} → ParentIn rows p i → m i ≡ true → ReasonIn rows m p
  is_named : {s t : ℕ} → NamesIn rows s t → m s ≡ true → ReasonIn rows m t
  is_under_root : {r d : ℕ} → RootIn rows r → Below rows r d → ReasonIn rows m d
  is_under_named : {s t d : ℕ} → NamesIn rows s t → m s ≡ true → Below rows t d → ReasonIn rows m d

-- the marking of entry i, where m tells what is marked before it
pub record MarkingSays (rows : List EntryRow) (m : ℕ → Bool) (i : ℕ) : Type 0 where
  -- "Where that is unmarked and is .. it becomes marked"; "else the marking is refused"
  pub accepted : (accepts (graph_of rows) m i ≡ true) ↔ ((i < length rows) × (m i ≡ false) × ReasonIn rows m i)
  -- what is marked after it: "it becomes marked and the others stay as they were; else .. nothing changes"
  pub after : (j : ℕ) → (step (graph_of rows) m i j ≡ true) ↔ ((m j ≡ true) ⊎ ((j ≡ i) × (accepts (graph_of rows) m i ≡ true)))
