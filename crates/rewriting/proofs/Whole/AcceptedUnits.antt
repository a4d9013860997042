-- An accepted unit, and the rows of its items. Assumes nothing.
use mathlib.Core.Path.{◌≡◌}
use Prim.Native.Nat.{ℕ}
use mathlib.Core.List.{List, []}
use lib.ListN.{take}
use Rattle.readers.specs.Lists.{list_base}
use Rattle.readers.specs.Abbreviations.{Placed, abbreviations_of}
use Rattle.readers.specs.declared.header.UnitHeader.{UnitHeader}
use Rattle.marking.specs.Analysis.{Sections, EntryRow, analysed, analysis_of}
use Rattle.marking.specs.EntryRows.{RowsOf}
use Rattle.marking.proofs.EachRow.{items-rows}
use Rattle.rewriting.specs.Rewriting.{Room, items_in, unit_of}
use Rattle.std.specs.Prelude.{Ok, Some}
use Rattle.readers.specs.Header.{header_of}

pub record Accepted (x : Sections) (room : Room) (section : List ℕ) (h : UnitHeader) (ds : List Placed) (rows : List EntryRow) : Type 0 where
  pub header : header_of x.setting.big_endian section ≡ Ok (Some h)
  pub declared : abbreviations_of x.abbreviations h.abbreviations ≡ Some ds
  pub analysis : analysis_of x section room.tables ≡ analysed rows

module _ (x : Sections) (room : Room) (section : List ℕ) (h : UnitHeader) (ds : List Placed) (rows : List EntryRow) (a : Accepted x room section h ds rows) where
  -- each row is that of its entry
  pub accepted-follow : RowsOf h.encoding x (take h.end section) 0 [] (list_base h.encoding) (list_base h.encoding) (items_in x (unit_of h section ds)) rows
  unfolding items_in
  accepted-follow = items-rows x section room.tables h ds rows a.header a.declared a.analysis
