-- The definition's marks are the survivors with their letters.
use Prim.Native.Nat.{ℕ}
use mathlib.Core.Path.{◌≡◌}
use mathlib.Core.Bool.{true}
use lib.ListN.{length}
use Rattle.marking.specs.Graph.{Graph, size}
use Rattle.marking.specs.Survivors.{Live, live_root, live_named, live_under_root, live_under_named}
use Rattle.marking.specs.Markings.{is_live}
use Rattle.marking.specs.Marks.{has, kept_of, mark_of, marks_of}
use Rattle.marking.proofs.Tables.{length-tab}
use Rattle.marking.proofs.Graphs.{WellFormed}
use Rattle.marking.proofs.Markings.{live_out, live-root-in, live-named-in, live-under-root-in, live-under-named-in}
use Rattle.marking.proofs.Rounds.{kept_out, kept_in_lem}

pub length-marks : (g : Graph) → length (marks_of g) ≡ size g
unfolding marks_of
length-marks g = length-tab (size g) (mark_of g (kept_of g))

module _ (g : Graph) (v : WellFormed g) where
  pub live-is : (i : ℕ) → is_live g (has (kept_of g)) i ≡ true → Live g i
  live-is i e =
      live_out g (has (kept_of g)) i (Live g i) (λ q. live_root q) (λ a q h. live_named q (kept_out g a h)) (λ r q u. live_under_root q u) (λ a t q h u. live_under_named q (kept_out g a h) u) e

  pub is_live_lem : (i : ℕ) → Live g i → is_live g (has (kept_of g)) i ≡ true
  is_live_lem i (live_root e) = live-root-in g v (has (kept_of g)) i e
  is_live_lem i (live_named {s = a} e k) = live-named-in g v (has (kept_of g)) a i e (kept_in_lem g v a k)
  is_live_lem i (live_under_root {r = r} e u) = live-under-root-in g v (has (kept_of g)) r i e u
  is_live_lem i (live_under_named {s = a} {t = t} e k u) = live-under-named-in g v (has (kept_of g)) a t i e (kept_in_lem g v a k) u
