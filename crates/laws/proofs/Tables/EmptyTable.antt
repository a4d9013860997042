-- "A table of length 0 means that no address is known, and each one counts as live" (document 02, Point 2): the answer by the empty
-- table is that by every table of ones that is long enough. Assumes nothing.
use mathlib.Core.Path.{◌≡◌, refl}
use Prim.Native.Nat.{ℕ}
use mathlib.Core.Bool.{Bool}
use mathlib.Core.List.{List, []}
use Rattle.marking.specs.Analysis.{Sections, Rooms, header_by, analysis_of}
use Rattle.marking.specs.Columns.{column}
use Rattle.marking.specs.Resolution.{marks_in}
use Rattle.rewriting.specs.Rewriting.{Room, collect_of}
use Rattle.laws.specs.AddressTables.{with_table, ones, Eventually}
use Rattle.laws.proofs.Tables.SameRewriting.{same-collected}
use Rattle.laws.proofs.Tables.FromLookups.{analysis-told}
use Rattle.laws.proofs.Tables.AllLive.{soon-ap, all_live}

module _ (x : Sections) where
  -- the rows of a unit
  pub all-live-analysis : (section : List ℕ) (room : Rooms)
      → Eventually (λ n. analysis_of (with_table x (ones n)) section room ≡ analysis_of (with_table x []) section room)
  unfolding ones
  all-live-analysis section room = (analysis-told (all_live _) (λ n o. o) x section room).soon

  -- the marks of a unit, in a column of k numbers
  pub all-live-marks : (section : List ℕ) (room : Rooms) (k : ℕ)
      → Eventually (λ n. column marks_in k (analysis_of (with_table x (ones n)) section room) ≡ column marks_in k (analysis_of (with_table x []) section room))
  all-live-marks section room k = soon-ap (column marks_in k) _ _ (all-live-analysis section room)

-- THE answer by the empty table: that by every table of ones that is long enough
pub all-live-law : (x : Sections) (room : Room) (type_units : Bool) (section : List ℕ)
    → Eventually (λ n. collect_of (with_table x (ones n)) room type_units section ≡ collect_of (with_table x []) room type_units section)
unfolding header_by
all-live-law x room type_units section =
    let a = all-live-analysis x section room.tables in
    record {
      from = a.from;
      holds = λ n l.
          same-collected (with_table x (ones n)) x.locations x.ranges [] x.debug_ranges x.keep room type_units section (a.holds n l) refl;
    }
