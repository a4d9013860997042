-- `Cursor::short` meets its contract: by its bytes, one after the other. Assumes nothing.
use Prim.Native.Nat.{◌+◌}
use mathlib.Core.Path.{refl}
use native.Mathlib.Omega.{arith}
use Rattle.readers.proofs.Lebs.{short-one, short-end, short-cut, short-two, short-cut-2, short-three, short-over}
use Rattle.readers.proofs.cursor.Cursor.short.Goals as goal

pub returns-then-at-s : goal.returns-then-at-s
returns-then-at-s c = short-end _ _ (omega arith)

pub returns-then-first-lt128 : goal.returns-then-first-lt128
returns-then-first-lt128 c = search short-one

pub returns-then-at-s-2 : goal.returns-then-at-s-2
returns-then-at-s-2 c = short-cut _ _ (omega arith) (omega arith) (omega (arith, c.type_inv.s c.args.self.at)) _ refl (omega arith)

pub returns-then-second-lt128 : goal.returns-then-second-lt128
returns-then-second-lt128 c = short-two _ _ (omega arith) (omega arith) (omega (arith, c.type_inv.s c.args.self.at)) _ refl (omega arith) (omega arith)

pub returns-then-at-s-3 : goal.returns-then-at-s-3
returns-then-at-s-3 c = short-cut-2 _ _ (omega arith) (omega arith) (omega (arith, c.type_inv.s c.args.self.at)) _ refl (omega arith) (omega arith) (omega (arith, c.type_inv.s (c.args.self.at + 1))) (c.args.self.at + 2) (omega arith) (omega arith)

pub returns-then-third-lt4 : goal.returns-then-third-lt4
returns-then-third-lt4 c = short-three _ _ (omega arith) (omega arith) (omega (arith, c.type_inv.s c.args.self.at)) _ refl (omega arith) (omega arith) (omega (arith, c.type_inv.s (c.args.self.at + 1))) (c.args.self.at + 2) (omega arith) (omega arith) (omega arith)

pub returns-else-third-lt4 : goal.returns-else-third-lt4
returns-else-third-lt4 c = short-over _ _ (omega arith) (omega arith) (omega (arith, c.type_inv.s c.args.self.at)) _ refl (omega arith) (omega arith) (omega (arith, c.type_inv.s (c.args.self.at + 1))) (c.args.self.at + 2) (omega arith) (omega arith) (omega arith)
