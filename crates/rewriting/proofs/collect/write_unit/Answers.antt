-- `write_unit` measures and fills the map, then its bounds, and writes header and items. Assumes nothing.
use Rattle.readers.proofs.Refusing.{passed-on}
use native.Mathlib.Omega.{arith}
use Rattle.rewriting.proofs.WritePass.Emissions.{inside, emits-on, onward-to, onward-no}
use Rattle.rewriting.proofs.WritePass.HeaderEmits.{header-inside, header-there}
use Rattle.rewriting.proofs.WritePass.UnitWritten.{map-short, out-short, unit-written, unit-refused}
use Rattle.rewriting.proofs.collect.write_unit.Goals as goal

pub returns-then-size-map : goal.returns-then-size-map
returns-then-size-map c = map-short _ _ _ _ _ _ _ _ _ _ _ _ _ _ _ _ _ _ _ c.place_items-size.ensures.0 _ c.place_items-size.ensures.1 c.place_items-size.auto.map c.if-size-map.true

pub returns-then-size-out : goal.returns-then-size-out
returns-then-size-out c = out-short _ _ _ _ _ _ _ _ _ _ _ _ _ _ _ _ _ _ _ c.place_items-size.ensures.0 _ c.place_items-size.ensures.1 c.place_items-size.auto.map c.if-size-map.false c.if-size-out.true

pub slice_bounds-emit_dies-count : goal.slice_bounds-emit_dies-count
slice_bounds-emit_dies-count c = omega (arith, inside _ _ _ (header-inside _ _ _ _ _ _ _ c.emit_header-at.ensures.count c.emit_header-at.ensures.part))

pub slice_bounds-emit_dies-start : goal.slice_bounds-emit_dies-start
slice_bounds-emit_dies-start c = omega (arith, inside _ _ _ (header-inside _ _ _ _ _ _ _ c.emit_header-at.ensures.count c.emit_header-at.ensures.part))

pub returns : goal.returns
returns c = unit-written _ _ _ _ _ _ _ _ _ _ _ _ _ _ _ _ _ _ _ c.place_items-size.ensures.0 _ c.place_items-size.ensures.1 c.place_items-size.auto.map c.if-size-map.false c.if-size-out.false _ _ _ c.fill_work.ensures c.emit_header-at.auto.out _ (λ f. header-there _ _ _ _ _ f _ _ c.emit_header-at.ensures.count c.emit_header-at.ensures.part) _ (λ x u lists ps p q m n b g. emits-on _ _ _ (header-inside _ _ _ _ _ _ _ c.emit_header-at.ensures.count c.emit_header-at.ensures.part) (c.emit_dies.ensures.bytes x u lists ps p q m n b g)) _ (onward-to _ _ _ c.in_ok-emit_dies.was)

pub returns-in_err-emit_dies : goal.returns-in_err-emit_dies
returns-in_err-emit_dies c = rw (passed-on _ _ c.from_residual.ensures.1) (unit-refused _ _ _ _ _ _ _ _ _ _ _ _ _ _ _ _ _ _ _ c.place_items-size.ensures.0 _ c.place_items-size.ensures.1 c.place_items-size.auto.map c.if-size-map.false c.if-size-out.false _ _ _ c.fill_work.ensures c.emit_header-at.auto.out _ (λ f. header-there _ _ _ _ _ f _ _ c.emit_header-at.ensures.count c.emit_header-at.ensures.part) _ (λ x u lists ps p q m n b g. emits-on _ _ _ (header-inside _ _ _ _ _ _ _ c.emit_header-at.ensures.count c.emit_header-at.ensures.part) (c.emit_dies.ensures.bytes x u lists ps p q m n b g)) _ (onward-no _ _ _ c.in_err-emit_dies.was))
