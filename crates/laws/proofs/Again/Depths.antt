-- The kept items are as deep in the new stream as they were: where every open entry of a kept item is kept, none of them is missing there. Assumes nothing.
use mathlib.Core.Path.{◌≡◌, refl, ap, ap₂, sym, ◌∙◌}
use Prim.Native.Nat.{ℕ, suc, ◌+◌, ◌<◌}
use mathlib.Core.Bool.{Bool, true, false}
use mathlib.Core.List.{List, [], ◌∷◌, map}
use native.Mathlib.Omega.{arith}
use lib.ListN.{length}
use lib.Dec.{T}
use Rattle.readers.specs.Nesting.{opened, closed}
use Rattle.readers.specs.declared.entries.Entry.{Entry}
use Rattle.marking.specs.Marks.{is_kept}
use Rattle.readers.specs.Stream.{Item, entry, terminator}
use Rattle.rewriting.specs.Places.{NestedItem, innermost, with_if, kept_from, size_of, Place, places_from}
use Rattle.laws.specs.Moved.{moved_entry, moved_item, depths_from}
use Rattle.laws.specs.Inner.Moved.{moved_from, ParentsKept}

-- ---- open entries: how many are kept

unfoldable pub kept_open : List Bool → ℕ
kept_open [] = 0
kept_open (true ∷ stack) = suc (kept_open stack)
kept_open (false ∷ stack) = kept_open stack

unfoldable pub AllKept : List Bool → Type 0
AllKept [] = Unit {0}
AllKept (b ∷ stack) = T b × AllKept stack

-- around a kept entry all are
unfoldable pub Nested : List Bool → Type 0
Nested [] = Unit {0}
Nested (b ∷ stack) = (T b → AllKept stack) × Nested stack

all-open : (stack : List Bool) → AllKept stack → kept_open stack ≡ length stack
unfolding kept_open AllKept
all-open [] h = refl
all-open (true ∷ stack) h = ap suc (all-open stack h.1)
all-open (false ∷ stack) h = absurd h.0

pub all-by : (stack : List Bool) → Nested stack → (0 < length stack → T (innermost stack)) → AllKept stack
unfolding Nested AllKept innermost
all-by [] n h = tt
all-by (b ∷ stack) n h = let t : T b = h (let z : 0 < suc (length stack) = omega arith in z) in (t, n.0 t)

pub nested-open : (children b : Bool) (stack : List Bool) → Nested stack → (T b → AllKept stack) → Nested (opened children b stack)
unfolding opened Nested
nested-open true b stack n h = (h, n)
nested-open false b stack n h = n

pub nested-close : (stack : List Bool) → Nested stack → Nested (closed stack)
unfolding closed Nested
nested-close [] n = tt
nested-close (b ∷ stack) n = n.1

open_kept_lem : (children : Bool) (k : ℕ) (st : List ℕ) (stack : List Bool) → length st ≡ kept_open stack → length (opened children k st) ≡ kept_open (opened children true stack)
unfolding opened kept_open
open_kept_lem true k st stack l = ap suc l
open_kept_lem false k st stack l = l

open-left : (children : Bool) (stack : List Bool) → kept_open (opened children false stack) ≡ kept_open stack
unfolding opened kept_open
open-left true stack = refl
open-left false stack = refl

close-kept : (st : List ℕ) (n : ℕ) → length st ≡ suc n → length (closed st) ≡ n
unfolding closed
close-kept [] n l = let h : 0 ≡ suc n = l in absurd (omega arith)
close-kept (k ∷ st) n l = let h : suc (length st) ≡ suc n = l in omega arith

-- ---- item by item

abbrev pub depths_of : List NestedItem → List ℕ
depths_of kept = map (λ (s : NestedItem). s.depth) kept

-- with j entries before them and st open, the kept ones have their own depths
abbrev Deep : List Bool → List NestedItem → Type 0
Deep stack kept = (n j : ℕ) (st : List ℕ) → length st ≡ kept_open stack → depths_from j st (moved_from n kept) ≡ depths_of kept

entry-deep : (x : Entry) (b : Bool) (stack : List Bool) (kept : List NestedItem) → (T b → AllKept stack)
    → Deep (opened x.declaration.children b stack) kept → Deep stack (with_if b (record { item = entry x; depth = length stack }) kept)
unfolding with_if moved_from moved_item moved_entry depths_from
entry-deep x true stack kept all ih n j st l =
    ap₂ (λ (d : ℕ) (ds : List ℕ). d ∷ ds) (l ∙ all-open stack (all tt))
    (ih (n + size_of (entry x)) (suc j) (opened x.declaration.children j st) (open_kept_lem x.declaration.children j st stack l))
entry-deep x false stack kept all ih n j st l = ih n j st (l ∙ sym (open-left x.declaration.children stack))

terminator-deep : (a b : ℕ) (stack : List Bool) (kept : List NestedItem) → Nested stack → Deep (closed stack) kept
    → Deep stack (with_if (innermost stack) (record { item = terminator a b; depth = length stack }) kept)
unfolding with_if innermost closed kept_open Nested moved_from moved_item depths_from
terminator-deep a b [] kept h ih n j st l = ih n j st l
terminator-deep a b (true ∷ stack) kept h ih n j st l =
    ap₂ (λ (d : ℕ) (ds : List ℕ). d ∷ ds) (l ∙ ap suc (all-open stack (h.0 tt)))
    (ih (n + size_of (terminator a b)) j (closed st) (close-kept st (kept_open stack) l))
terminator-deep a b (false ∷ stack) kept h ih n j st l = ih n j st l

-- of the items of a stretch, given the open entries
pub depths-from : (marks : List ℕ) (k : ℕ) (stack : List Bool) (items : List Item) → Nested stack → ParentsKept marks k stack items → Deep stack (kept_from marks k stack items)
unfolding kept_from ParentsKept moved_from depths_from
depths-from marks k stack [] h c = λ n j st l. refl
depths-from marks k stack (entry x ∷ rest) h c =
    let all : T (is_kept marks k) → AllKept stack = (λ t. all-by stack h (c.0 t)) in
    entry-deep x (is_kept marks k) stack _ all
    (depths-from marks (suc k) (opened x.declaration.children (is_kept marks k) stack) rest (nested-open x.declaration.children (is_kept marks k) stack h all) c.1)
depths-from marks k stack (terminator a b ∷ rest) h c = terminator-deep a b stack _ h (depths-from marks k (closed stack) rest (nested-close stack h) c)

-- THE depths of a unit's kept items, by the nesting of the moved items alone
pub depths-again : (marks : List ℕ) (k : ℕ) (items : List Item) → ParentsKept marks k [] items → (n j : ℕ)
    → depths_from j [] (moved_from n (kept_from marks k [] items)) ≡ depths_of (kept_from marks k [] items)
unfolding Nested kept_open
depths-again marks k items c n j = depths-from marks k [] items tt c n j [] refl

-- and those of the map
pub depths-placed : (n : ℕ) (kept : List NestedItem) → map (λ (p : Place). p.depth) (places_from n kept) ≡ depths_of kept
unfolding places_from
depths-placed n [] = refl
depths-placed n (s ∷ kept) = ap (λ (l : List ℕ). s.depth ∷ l) (depths-placed (n + size_of s.item) kept)
