-- `analyse_unit` answers as `analyse_entries` does, and clears the columns after a refusal. Assumes nothing.
use mathlib.Core.Path.{◌≡◌, ap, ◌∙◌}
use Prim.Native.Nat.{ℕ}
use mathlib.Core.List.{List}
use Rattle.readers.specs.declared.header.UnitHeader.{UnitHeader}
use Rattle.marking.specs.declared.setting.Setting.{Setting}
use Rattle.marking.specs.KeepList.{KeepList}
use Rattle.marking.specs.Inner.Lent.{keep_of}
use Rattle.marking.specs.Analysis.{sections, ranges_for, rooms, Analysed, unit_analysed}
use Rattle.marking.proofs.RangeSections.{unit-same}
use Rattle.marking.proofs.UnitAnalyses.{ready-in, unit_left}
use Rattle.marking.proofs.analysis.analyse_unit.Goals as goal

module _ (h : UnitHeader) (abbreviations locations ranges addresses debug_ranges : List ℕ) (keep : KeepList) (setting : Setting) (entries references : ℕ) where
  -- the analysis, of what is taken for the unit
  abbrev of : List ℕ → Analysed
  of unit =
      unit_analysed h.encoding (sections abbreviations locations ranges addresses debug_ranges keep setting)
      unit (rooms entries references) h.abbreviations h.first.0

  -- the same with one section of range lists
  abbrev within : List ℕ → List ℕ → Analysed
  within lists unit =
      unit_analysed h.encoding (sections abbreviations locations lists addresses lists keep setting)
      unit (rooms entries references) h.abbreviations h.first.0

  chosen : (lists unit rest : List ℕ) → lists ≡ ranges_for h.encoding ranges debug_ranges → unit ≡ rest → within lists unit ≡ of rest
  chosen lists unit rest q p =
      ap (λ (z : List ℕ). within z unit) q
      ∙ unit-same h.encoding _ _ _ _ _ _ _ _ _ _ _
      ∙ ap of p

pub analyse_entries-answer-requires : goal.analyse_entries-answer-requires
analyse_entries-answer-requires c = ready-in c.unit_part.ensures c.requires

pub returns : goal.returns
returns c =
    unit_left (chosen c.args.h _ _ _ _ _ (keep_of c.args.lent) c.args.lent.setting c.args.entry_room c.args.reference_room _ _ _ c.ranges_for-lists.ensures c.unit_part.ensures)
    c.analyse_entries-answer.ensures.1 _ c.analyse_entries-answer.ensures.0 _ _ _ _ _ _ c.clear_refused.ensures
