use Prim.Native.Nat.{◌≤◌}
use mathlib.Core.Path.{refl, ◌∙◌}
use native.Mathlib.Omega.{arith}
use borrow.Author.Rules.{rules}
use Rattle.marking.proofs.Columned.{turning-start, turning-end, turning-at, turning-forward, turning-inside, turning-ready, turning-more, ends-inside}
use Rattle.marking.proofs.Indexes.{index-front, index-end}
use Rattle.marking.proofs.units.resolve.Goals as goal

pub loop-i-init : goal.loop-i-init
loop-i-init c = (search rules, search rules, search rules, λ rows h. turning-at (search rules) (turning-start _ _ _ _ _ rows h))

pub bounds-reference_ends-i : goal.bounds-reference_ends-i
bounds-reference_ends-i c =
    let f = index-front _ (λ x y p q h. search rules) _ _ _ _ c.in-Some.is c.next.ensures.steps in
    omega (arith, f.inside, c.loop-i.invariant.2, ends-inside _ _ _ _ _ _ c.requires.held)

pub offset_bounds-targets-from : goal.offset_bounds-targets-from
offset_bounds-targets-from c =
    let k = c.requires in
    let f = index-front _ (λ x y p q h. search rules) _ _ _ _ c.in-Some.is c.next.ensures.steps in
    let t = turning-at f.is (c.loop-i.invariant.3 k.rows k.held) in
    let l = f.within c.loop-i.invariant.2 in
    omega (arith, turning-forward _ _ _ _ _ _ k.held _ _ _ _ t l, turning-inside _ _ _ _ _ _ k.held _ _ _ _ t l)

pub slice_bounds-names-count : goal.slice_bounds-names-count
slice_bounds-names-count c =
    let k = c.requires in
    let f = index-front _ (λ x y p q h. search rules) _ _ _ _ c.in-Some.is c.next.ensures.steps in
    turning-forward _ _ _ _ _ _ k.held _ _ _ _ (turning-at f.is (c.loop-i.invariant.3 k.rows k.held)) (f.within c.loop-i.invariant.2)

pub slice_bounds-names-start : goal.slice_bounds-names-start
slice_bounds-names-start c =
    let k = c.requires in
    let f = index-front _ (λ x y p q h. search rules) _ _ _ _ c.in-Some.is c.next.ensures.steps in
    turning-forward _ _ _ _ _ _ k.held _ _ _ _ (turning-at f.is (c.loop-i.invariant.3 k.rows k.held)) (f.within c.loop-i.invariant.2)

pub slice_bounds-names-end : goal.slice_bounds-names-end
slice_bounds-names-end c =
    let k = c.requires in
    let f = index-front _ (λ x y p q h. search rules) _ _ _ _ c.in-Some.is c.next.ensures.steps in
    turning-inside _ _ _ _ _ _ k.held _ _ _ _ (turning-at f.is (c.loop-i.invariant.3 k.rows k.held)) (f.within c.loop-i.invariant.2)

pub resolve_entry-place-requires : goal.resolve_entry-place-requires
resolve_entry-place-requires c =
    let k = c.requires in
    let f = index-front _ (λ x y p q h. search rules) _ _ _ _ c.in-Some.is c.next.ensures.steps in
    turning-ready _ _ _ _ _ _ k.held _ _ _ _ (turning-at f.is (c.loop-i.invariant.3 k.rows k.held)) (f.within c.loop-i.invariant.2) _ _ refl refl

pub loop-i-preserved : goal.loop-i-preserved
loop-i-preserved c =
    let f = index-front _ (λ x y p q h. search rules) _ _ _ _ c.in-Some.is c.next.ensures.steps in
    (search rules, search rules, f.stays ∙ c.loop-i.invariant.2, λ rows h. turning-at f.next (turning-more _ _ _ _ _ rows h _ _ _ _ (turning-at f.is (c.loop-i.invariant.3 rows h)) (f.within c.loop-i.invariant.2) _ _ c.resolve_entry-place.ensures.0 c.resolve_entry-place.ensures.1))

pub returns : goal.returns
returns c =
    let e : c.args.entries ≤ c.loop-i.i-iterator.iter.start = omega (arith, c.loop-i.invariant.2, index-end _ _ _ _ c.in-None.is c.next.ensures.steps) in
    record {
      answer = λ rows h. (turning-end _ _ _ _ _ rows h _ _ _ _ (c.loop-i.invariant.3 rows h) e).0;
      filled = λ rows h. (turning-end _ _ _ _ _ rows h _ _ _ _ (c.loop-i.invariant.3 rows h) e).1;
    }
