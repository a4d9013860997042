-- `check_abbreviations` meets its contract. Assumes nothing.
use mathlib.Core.Path.{ap, sym, ◌∙◌}
use lib.ListN.{length}
use Rattle.readers.specs.Choice.{zeros}
use Rattle.readers.proofs.Declarations.{zeros-length, refused-index}
use Rattle.readers.proofs.abbreviations.check_abbreviations.Goals as goal

pub returns-in-Err : goal.returns-in-Err
returns-in-Err c = record {
  answer = sym c.in-Err.is ∙ c.fill_index.ensures.answer;
  filled = c.clear-in-Err.ensures ∙ ap zeros {y = length c.args.index.now} (c.fill_index.auto.index ∙ zeros-length _ _ c.clear.ensures) ∙ refused-index _ _ _ _ (sym c.fill_index.ensures.answer ∙ c.in-Err.is);
}
