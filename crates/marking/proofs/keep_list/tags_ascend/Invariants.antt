-- `tags_ascend` asks for each tag: what is left decides. Assumes nothing.
use mathlib.Core.Path.{◌≡◌}
use lib.ListN.{drop}
use Rattle.marking.specs.KeepList.{tags_in, ascends}
use Rattle.marking.proofs.keep_list.tags_ascend.Given as goal

abbrev pub invariant-loop-bytes : goal.invariant-loop-bytes
invariant-loop-bytes l = ascends 0 (tags_in l.tags) ≡ ascends l.least (drop l.bytes-index (tags_in l.tags))
