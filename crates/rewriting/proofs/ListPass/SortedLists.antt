-- Lists that are gathered and finished. Assumes nothing.
use mathlib.Core.Path.{◌≡◌}
use Prim.Native.Nat.{ℕ}
use lib.ListN.{length}
use mathlib.Core.List.{List}
use Rattle.rewriting.specs.Inner.Gathering.{Finishes}
use Rattle.rewriting.specs.Inner.IndexLists.{Puts, Listing}
use Rattle.rewriting.specs.declared.kept_items.Reading.{Reading}
use Rattle.rewriting.proofs.ListPass.Holdings.{filled-along}

-- the list of a kind
pub listed : (k : ℕ) (r : Reading) (s table unit parents ends marks : List ℕ) (first : ℕ) (list : List ℕ) (n : ℕ) (list₁ : List ℕ)
    → length list₁ ≡ length list → Puts k r s table unit parents ends marks first list n list₁ → (m : ℕ) (after : List ℕ) → Finishes n list₁ m after
    → Listing k r s table unit parents ends marks first list m after
listed k r s table unit parents ends marks first list n list₁ l g m after f x u p h = filled-along _ list₁ list m after (f _ (g x u p h)) l
