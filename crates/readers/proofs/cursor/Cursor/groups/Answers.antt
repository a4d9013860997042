-- `Cursor::groups` meets its contract: the loop's invariant is `Reading`. Assumes nothing.
use Prim.Native.Nat.{◌+◌, ◌-◌}
use native.Mathlib.Omega.{arith}
use lib.ListN.{get_or}
use Rattle.readers.proofs.Lebs.{begins, room, more, ends-short, ends-well, ends-tenth, ends-long}
use Rattle.readers.proofs.cursor.Cursor.groups.Goals as goal

pub loop-k-init : goal.loop-k-init
loop-k-init c = begins _ _

pub returns-then-k-size : goal.returns-then-k-size
returns-then-k-size c = ends-short _ _ _ _ _ c.loop-k.invariant (omega arith)

pub overflow_mul-result : goal.overflow_mul-result
overflow_mul-result c = omega (arith, room _ _ _ _ _ c.loop-k.invariant (omega arith) (get_or c.args.s.now (c.args.self.at + c.loop-k.k) 0) (omega arith))

pub overflow_add-result : goal.overflow_add-result
overflow_add-result c = omega (arith, room _ _ _ _ _ c.loop-k.invariant (omega arith) (get_or c.args.s.now (c.args.self.at + c.loop-k.k) 0) (omega arith))

pub returns-then-b-lt128 : goal.returns-then-b-lt128
returns-then-b-lt128 c = ends-well _ _ _ _ _ c.loop-k.invariant (omega arith) (omega arith) (omega arith)

pub overflow_mul-low : goal.overflow_mul-low
overflow_mul-low c = omega (arith, room _ _ _ _ _ c.loop-k.invariant (omega arith) (get_or c.args.s.now (c.args.self.at + c.loop-k.k) 0 - 128) (omega (arith, c.type_inv.s (c.args.self.at + c.loop-k.k))))

pub overflow_add-low : goal.overflow_add-low
overflow_add-low c = omega (arith, room _ _ _ _ _ c.loop-k.invariant (omega arith) (get_or c.args.s.now (c.args.self.at + c.loop-k.k) 0 - 128) (omega (arith, c.type_inv.s (c.args.self.at + c.loop-k.k))))

pub overflow_mul-weight : goal.overflow_mul-weight
overflow_mul-weight c = omega (arith, room _ _ _ _ _ c.loop-k.invariant (omega arith) (127) (omega arith))

pub loop-k-preserved : goal.loop-k-preserved
loop-k-preserved c = more _ _ _ _ _ c.loop-k.invariant (omega arith) (omega arith) (omega arith) (omega (arith, c.type_inv.s (c.args.self.at + c.loop-k.k)))

pub returns-then-size-le9 : goal.returns-then-size-le9
returns-then-size-le9 c = ends-short _ _ _ _ _ c.loop-k.invariant (omega arith)

pub returns-then-b-lt128-2 : goal.returns-then-b-lt128-2
returns-then-b-lt128-2 c = ends-tenth _ _ _ _ _ c.loop-k.invariant (omega arith) (omega arith) (omega arith)

pub returns : goal.returns
returns c = ends-long _ _ _ _ _ c.loop-k.invariant (omega arith) (omega arith) (omega arith)
