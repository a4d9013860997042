-- `is_absent` meets its contract. Assumes nothing.
use mathlib.Core.Path.{ap, sym, ◌∙◌}
use mathlib.Core.Bool.{not}
use Rattle.std.proofs.lemmas.Bool.{false≢true}
use borrow.Author.Tests.{eq-eqb}
use Rattle.rewriting.proofs.ListPass.IndexTurns.{absent-plain, absent-named}
use Rattle.rewriting.proofs.ListPass.Declaring.{absent_none}
use Rattle.rewriting.proofs.indices.is_absent.Goals as goal
use Rattle.rewriting.proofs.indices.is_absent.Goals.{then-name-ne0, else-name-ne0}

pub returns-then-table_declares : goal.returns-then-table_declares
returns-then-table_declares c = λ x u w v. c.any_declares.ensures x u w ∙ sym (absent-named x u _ _ (elim c.if-name-ne0.branch [
  | then-name-ne0 b ↦ b.if-name-ne0.true
  | else-name-ne0 b ↦ absurd (false≢true (sym (ap not (eq-eqb c.args.name 0 b.if-name-ne0.false)) ∙ sym b.value-is ∙ c.if-table_declares.true))
]))

pub returns-else-table_declares : goal.returns-else-table_declares
returns-else-table_declares c = λ x u w v. c.if-table_declares.false ∙ (elim c.if-name-ne0.branch [
  | then-name-ne0 b ↦ absent_none x u _ _ _ _ w v _ (sym (b.table_declares.ensures u.declared w.declared_are) ∙ sym b.value-is ∙ c.if-table_declares.false) b.if-name-ne0.true _
  | else-name-ne0 b ↦ sym (absent-plain x u _ _ b.if-name-ne0.false)
])
