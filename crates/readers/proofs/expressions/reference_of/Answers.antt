-- `reference_of` meets its contract: the rows that hold a reference. Assumes nothing.
use mathlib.Core.Logic.{⊎_elim}
use native.Mathlib.Omega.{arith}
use Rattle.readers.proofs.OwnReferences.{early, entry, first-type, second_type, const-type, late}
use Rattle.readers.proofs.expressions.reference_of.Goals as goal

pub returns-then-row-lt-ROW_REFERENCE2 : goal.returns-then-row-lt-ROW_REFERENCE2
returns-then-row-lt-ROW_REFERENCE2 c = early _ c.if-row-lt-ROW_REFERENCE2.true

pub returns-in-12 : goal.returns-in-12
returns-in-12 c = entry _ (omega arith) _ (omega arith) c.named.ensures

pub returns-in-14 : goal.returns-in-14
returns-in-14 c =
    ⊎_elim
    (λ e. first-type _ (omega arith) (omega arith) _ e c.named_type.ensures)
    (λ e. const-type _ (omega arith) (omega arith) (λ h. omega arith) (omega arith) _ e c.named_type.ensures)
    c.in-14.is

pub returns-in-15 : goal.returns-in-15
returns-in-15 c = grind (arith, second_type, c.named_type-in-15.ensures)

pub returns-in_default : goal.returns-in_default
returns-in_default c = grind (arith, early, late)

pub returns-in_default-2 : goal.returns-in_default-2
returns-in_default-2 c = grind (arith, early, late)
