-- The byte order of a unit (document 02, Point 12): it is the one that was told, and told the other one the unit is
-- refused. Assumes nothing but that the header is read.
use mathlib.Core.Path.{◌≡◌, ap, ◌∙◌}
use Prim.Native.Nat.{ℕ}
use mathlib.Core.Logic.{◌⊎◌, inl, inr, ⊎_elim}
use mathlib.Core.Bool.{Bool, not}
use mathlib.Core.List.{List}
use Rattle.readers.specs.Header.{header_of, Known}
use Rattle.readers.specs.declared.header.UnitHeader.{UnitHeader}
use Rattle.std.specs.Prelude.{Err, Ok, Option, Result, Some}
use Rattle.readers.proofs.HeaderLaws.{header-laws, told-wrongly}
use Rattle.marking.specs.Analysis.{Sections, Rooms, refused as not_analysed, header_analysed, analysis_of, header_by}
use Rattle.rewriting.specs.Rewriting.{Room, refused, header_collected, collect_of}
use Rattle.laws.specs.ByteOrders.{other_order}
use Rattle.marking.specs.KeepList.{keep_refusal}
use Rattle.marking.proofs.ListedHeaders.{header-taken}

module _ (x : Sections) (section : List ℕ) (h : UnitHeader) (header : header_of x.setting.big_endian section ≡ Ok (Some h)) where
  -- the encoding of a unit that is read: the domain of document 01, in the byte order that was told
  pub known-law : Known x.setting.big_endian h.encoding
  known-law = (header-laws x.setting.big_endian section h header).known

  -- told the other order, what goes by the header goes by 1, or by 2
  by-refusal : keep_refusal x.keep ≡ 0 → {A : Type 0} (f : Result (Option UnitHeader) ℕ → A)
      → (f (header_by (other_order x) section) ≡ f (Err 1)) ⊎ (f (header_by (other_order x) section) ≡ f (Err 2))
  by-refusal z f =
      let t : header_by (other_order x) section ≡ header_of (not x.setting.big_endian) section = header-taken (other_order x) section z in
      ⊎_elim (λ q. inl (ap f (t ∙ q))) (λ q. inr (ap f (t ∙ q))) (told-wrongly x.setting.big_endian section h header)

  -- so the same section is refused with 1 or 2, whatever is lent but for a keep list that is refused before: no section is read in both orders
  pub wrong-order-analysis : keep_refusal x.keep ≡ 0 → (room : Rooms)
      → (analysis_of (other_order x) section room ≡ not_analysed 1) ⊎ (analysis_of (other_order x) section room ≡ not_analysed 2)
  unfolding analysis_of header_analysed
  wrong-order-analysis z room = by-refusal z (header_analysed (other_order x) section room)

  pub wrong-order-law : keep_refusal x.keep ≡ 0 → (room : Room) (type_units : Bool)
      → (collect_of (other_order x) room type_units section ≡ refused 1) ⊎ (collect_of (other_order x) room type_units section ≡ refused 2)
  unfolding collect_of header_collected
  wrong-order-law z room type_units = by-refusal z (header_collected (other_order x) room type_units section)
