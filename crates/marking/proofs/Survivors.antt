-- The survivors are the least closed set, and they are entries; live ones among them.
use Prim.Native.Nat.{ℕ, ◌<◌}
use mathlib.Core.Path.{◌≡◌}
use mathlib.Core.Bool.{true}
use Rattle.marking.specs.Graph.{Graph, size, is_parent}
use Rattle.marking.specs.Survivors.{child, deeper, Survivor, first, root, parent, named, under_root, under_named, Live, live_root, live_named, live_under_root, live_under_named}
use Rattle.marking.specs.Inner.Survivors.{Closed}
use Rattle.marking.proofs.Graphs.{WellFormed, root-out, parent-inside, target-inside, under-inside}

pub kept-closed : (g : Graph) → Closed g (Survivor g)
kept-closed g = record {
  has_first = λ h. first h;
  has_roots = λ i e. root e;
  has_parents = λ p i e k. parent e k;
  has_named = λ s t e k. named e k;
  has_under_roots = λ r d e u. under_root e u;
  has_under_named = λ s t d e k u. under_named e k u;
}

pub kept-least : (g : Graph) (S : ℕ → Type 0) → Closed g S → (i : ℕ) → Survivor g i → S i
kept-least g S c i (first h) = c.has_first h
kept-least g S c i (root e) = c.has_roots i e
kept-least g S c i (parent {i = j} e k) = c.has_parents i j e (kept-least g S c j k)
kept-least g S c i (named {s = s} e k) = c.has_named s i e (kept-least g S c s k)
kept-least g S c i (under_root {r = r} e u) = c.has_under_roots r i e u
kept-least g S c i (under_named {s = s} {t = t} e k u) = c.has_under_named s t i e (kept-least g S c s k) u

pub live-kept : {g : Graph} {i : ℕ} → Live g i → Survivor g i
live-kept (live_root e) = root e
live-kept (live_named e k) = named e k
live-kept (live_under_root e u) = under_root e u
live-kept (live_under_named e k u) = under_named e k u

-- a child of a live entry is live
pub live-down : {g : Graph} {p i : ℕ} → Live g p → is_parent g p i ≡ true → Live g i
live-down (live_root e) q = live_under_root e (child q)
live-down (live_named e k) q = live_under_named e k (child q)
live-down (live_under_root e u) q = live_under_root e (deeper u q)
live-down (live_under_named e k u) q = live_under_named e k (deeper u q)

pub kept-inside : (g : Graph) → WellFormed g → (i : ℕ) → Survivor g i → i < size g
kept-inside g v i (first h) = h
kept-inside g v i (root e) = (root-out g i e).0
kept-inside g v i (parent {i = j} e k) = parent-inside g v i j e
kept-inside g v i (named {s = s} e k) = target-inside g v s i e
kept-inside g v i (under_root e u) = under-inside u
kept-inside g v i (under_named e k u) = under-inside u
