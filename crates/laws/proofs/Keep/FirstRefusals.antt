-- A keep list that is not taken is refused before anything else, and 19 and 20 come from nowhere else (document 02, Point 10). Assumes nothing.
use mathlib.Core.Path.{◌≡◌, ap, sym, ◌∙◌, subst}
use Prim.Native.Nat.{ℕ}
use mathlib.Core.Bool.{Bool}
use mathlib.Core.List.{List, [], ◌∷◌}
use Rattle.readers.specs.Choice.{◌and◌, ◌or◌}
use Rattle.std.specs.Prelude.{Option, Result}
use Rattle.readers.specs.declared.header.UnitHeader.{UnitHeader}
use Rattle.marking.specs.KeepList.{keep_refusal}
use Rattle.marking.specs.Analysis.{Sections, Rooms, refused as not_analysed, header_analysed, analysis_of}
use Rattle.marking.proofs.ListedHeaders.{by-list}
use Rattle.rewriting.specs.Rewriting.{Room, refused, collect_of}
use Rattle.laws.specs.RefusalNumbers.{list_numbers, ListRefusal, read_numbers}
use Rattle.laws.specs.RefusalStages.{at_list}
use Rattle.laws.proofs.Refusals.ReaderRefusals.{is_one_of, are_apart, apart, not-one-of, list-refusal}
use Rattle.laws.proofs.Refusals.CollectRefusals.{refusal-law, refused-law, StageOf, of-list, of-reading, of_room, of-place, of_width, stage-of}

module _ (x : Sections) (n : ℕ) (q : keep_refusal x.keep ≡ n) (some : n ≡ 0 → ⊥) where
  -- "both before 1": whatever section, room and type units are told
  pub list-first-law : (room : Room) (type_units : Bool) (section : List ℕ) → collect_of x room type_units section ≡ refused n
  list-first-law room type_units section =
      refused-law x room type_units section n (at_list q (subst ListRefusal q (list-refusal x.keep (λ z. some (sym q ∙ z)))))

  pub list-first-analysis : (section : List ℕ) (room : Rooms) → analysis_of x section room ≡ not_analysed n
  unfolding analysis_of header_analysed
  list-first-analysis section room =
      by-list x section (λ (o : Result (Option UnitHeader) ℕ). header_analysed x section room o ≡ not_analysed n) (λ z. absurd (some (sym q ∙ z))) (λ _. ap not_analysed q)

module _ (x : Sections) (room : Room) (type_units : Bool) (section : List ℕ) where
  at-list-alone : (n : ℕ) → ListRefusal n → StageOf x room type_units section n → keep_refusal x.keep ≡ n
  unfolding is_one_of are_apart ◌or◌ ◌and◌
  at-list-alone n o (of-list q r) = q
  at-list-alone n o (of-reading a r) = absurd (apart list_numbers read_numbers n tt o r)
  at-list-alone n o (of_room r) = absurd (apart list_numbers (12 ∷ 13 ∷ 14 ∷ []) n tt o r)
  at-list-alone n o (of-place e r) = absurd (not-one-of list_numbers n 8 e tt o)
  at-list-alone n o (of_width e r) = absurd (not-one-of list_numbers n 9 e tt o)

  -- 19 and 20 are the list's
  pub only-list-law : (n : ℕ) → ListRefusal n → collect_of x room type_units section ≡ refused n → keep_refusal x.keep ≡ n
  only-list-law n o q = at-list-alone n o (stage-of x room type_units section n (refusal-law x room type_units section n q))
