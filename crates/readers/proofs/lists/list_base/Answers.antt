-- `list_base` meets its contract. Assumes nothing.
use Prim.Native.Nat.{ℕ, ◌+◌}
use mathlib.Core.Path.{ap}
use native.Mathlib.Omega.{arith}
use Rattle.readers.specs.Lists.{list_base}
use Rattle.readers.proofs.Headers.{bytes_most}
use Rattle.readers.proofs.lists.list_base.Goals as goal

pub overflow_add-result : goal.overflow_add-result
overflow_add-result c = let z : _ = bytes_most _ _ c.length_bytes.ensures in omega arith

pub returns : goal.returns
unfolding list_base
returns c = ap (λ (n : ℕ). n + 8) c.length_bytes.ensures
