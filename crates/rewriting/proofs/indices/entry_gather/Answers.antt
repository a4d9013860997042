-- `entry_gather`: each list has the entry's indices so far, and is to get those from here on. Assumes nothing.
use mathlib.Core.Path.{◌∙◌}
use Rattle.rewriting.proofs.ListPass.IndexTurns.{attributes-less, indices-end, indices-more}
use Rattle.readers.proofs.FormKinds.{form-list}
use Rattle.rewriting.proofs.ListPass.Holdings.{onward-more, onward-end}
use Rattle.rewriting.proofs.indices.entry_gather.Goals as goal

pub returns-in_default : goal.returns-in_default
returns-in_default c = (
  onward-end _ _ _ _ _ _ c.loop-a.invariant.0.1 (indices-end 0 _ _ _ _ _ _ c.next_attribute.ensures c.in_default.is),
  (
    onward-end _ _ _ _ _ _ c.loop-a.invariant.1.1 (indices-end 1 _ _ _ _ _ _ c.next_attribute.ensures c.in_default.is),
    onward-end _ _ _ _ _ _ c.loop-a.invariant.2.1 (indices-end 2 _ _ _ _ _ _ c.next_attribute.ensures c.in_default.is),
  ),
)

pub loop-a-smaller : goal.loop-a-smaller
loop-a-smaller c = search attributes-less

pub loop-a-preserved : goal.loop-a-preserved
loop-a-preserved c = (
  (
    c.put_by_kind-g.auto.range_list ∙ c.loop-a.invariant.0.0,
    onward-more _ _ _ _ _ _ c.loop-a.invariant.0.1 _ _ (indices-more 0 _ _ _ _ _ _ c.next_attribute.ensures c.in-Some.a c.in-Some.is _ (λ name. c.list_of.ensures ∙ form-list name _)) _ _ c.put_by_kind-g.ensures.0,
  ),
  (
    c.put_by_kind-g.auto.location_list ∙ c.loop-a.invariant.1.0,
    onward-more _ _ _ _ _ _ c.loop-a.invariant.1.1 _ _ (indices-more 1 _ _ _ _ _ _ c.next_attribute.ensures c.in-Some.a c.in-Some.is _ (λ name. c.list_of.ensures ∙ form-list name _)) _ _ c.put_by_kind-g.ensures.1.0,
  ),
  (
    c.put_by_kind-g.auto.string_list ∙ c.loop-a.invariant.2.0,
    onward-more _ _ _ _ _ _ c.loop-a.invariant.2.1 _ _ (indices-more 2 _ _ _ _ _ _ c.next_attribute.ensures c.in-Some.a c.in-Some.is _ (λ name. c.list_of.ensures ∙ form-list name _)) _ _ c.put_by_kind-g.ensures.1.1,
  ),
)
