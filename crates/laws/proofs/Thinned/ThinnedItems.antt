-- Kept items by their positions: the m-th kept item, the m-th place of the map and the m-th item of the new stream; which items are kept; what is open around each.
-- Assumes nothing.
use mathlib.Core.Path.{◌≡◌, refl, ap, sym, subst}
use Prim.Native.Nat.{ℕ, suc, ◌+◌, ◌≤◌, ◌<◌}
use native.Mathlib.Omega.{arith}
use mathlib.Core.Bool.{Bool, true, false, not}
use mathlib.Core.List.{List, [], ◌∷◌, map}
use mathlib.Core.Logic.{◌↔◌}
use Rattle.std.specs.Prelude.{Option, Some}
use lib.ListN.{length, drop}
use lib.Dec.{T, eqb, leb}
use mir.Facts.{eqb_yes, leb_yes, leb_no, yes_leb}
use Rattle.readers.specs.Choice.{pick, ◌and◌}
use Rattle.readers.proofs.Choice.{pick-either, and_both}
use Rattle.readers.specs.Nesting.{opened, closed}
use Rattle.readers.specs.Stream.{Item, entry, terminator}
use Rattle.readers.specs.declared.entries.Entry.{Entry}
use Rattle.marking.specs.Analysis.{Sections}
use Rattle.marking.specs.Marks.{is_kept}
use Rattle.rewriting.specs.Places.{NestedItem, innermost, with_if, kept_from, offset_of, size_of, Place, places_from, new_of, first_from}
use Rattle.laws.specs.LeftOut.{left_from}
use Rattle.marking.specs.Members.{Member, here, there, Nth, now, later}
use Rattle.laws.specs.Moved.{moved_entry, moved_item}
use Rattle.laws.specs.Inner.Moved.{moved_from}
use Rattle.laws.specs.Ancestors.{ancestors_from}
use Rattle.laws.specs.Inner.Ancestors.{kept_ancestors, MapTo, AllMapTo}
use Rattle.rewriting.specs.Rewriting.{Unit as Unit', Lists}
use Rattle.laws.specs.Thinned.{inside, Parted, ended, kept_entry, left_entry, kept_terminator, left_terminator, surplus}
use Rattle.rewriting.proofs.KeptPass.ItemDepths.{deep_at}
use Rattle.laws.proofs.Again.ReadsAgain.{with_bytes, patched, PatchedFrom}

-- ---- lists by position

module _ {A B : Type 0} (f : A → B) where
  pub nth-map : (a : A) (m : ℕ) (xs : List A) → Nth a m xs → Nth (f a) m (map f xs)
  nth-map a m [] n = elim n [ ]
  nth-map a m (x ∷ xs) (now e) = now (ap f e)
  nth-map a m (x ∷ xs) (later n) = later (nth-map a _ xs n)

pub nth-member : {A : Type 0} (a : A) (n : ℕ) (xs : List A) → Nth a n xs → Member a xs
nth-member a n [] m = elim m [ ]
nth-member a n (x ∷ xs) (now e) = here e
nth-member a n (x ∷ xs) (later m) = there (nth-member a _ xs m)

length-map : {A B : Type 0} (f : A → B) (xs : List A) → length (map f xs) ≡ length xs
length-map f [] = refl
length-map f (x ∷ xs) = ap suc (length-map f xs)

-- ---- what is kept and what is left out

module _ (S : ℕ → Type 0) where
  entry-parted : (k : ℕ) (stack : List ℕ) (y : Entry) (rest : List Item) (kept left : List NestedItem) (b : Bool) → (T b ↔ S k)
      → Parted S (suc k) (opened y.declaration.children k stack) rest kept left
      → Parted S k stack (entry y ∷ rest) (with_if b (inside stack (entry y)) kept) (with_if (not b) (inside stack (entry y)) left)
  unfolding with_if
  entry-parted k stack y rest kept left true h p = kept_entry (h.0 tt) p
  entry-parted k stack y rest kept left false h p = left_entry (λ s. h.1 s) p

  closing-parted : (k p : ℕ) (stack : List ℕ) (a c : ℕ) (rest : List Item) (kept left : List NestedItem) (b : Bool) → (T b ↔ S p) → Parted S k stack rest kept left
      → Parted S k (p ∷ stack) (terminator a c ∷ rest) (with_if b (inside (p ∷ stack) (terminator a c)) kept) (with_if (not b) (inside (p ∷ stack) (terminator a c)) left)
  unfolding with_if
  closing-parted k p stack a c rest kept left true h q = kept_terminator (h.0 tt) q
  closing-parted k p stack a c rest kept left false h q = left_terminator (λ s. h.1 s) q

  module _ (marks : List ℕ) (same : (i : ℕ) → T (is_kept marks i) ↔ S i) where
    abbrev f : ℕ → Bool
    f = is_kept marks

    open-same : (children : Bool) (k : ℕ) (stack : List ℕ) → map f (opened children k stack) ≡ opened children (f k) (map f stack)
    unfolding opened
    open-same true k stack = refl
    open-same false k stack = refl

    abbrev At : ℕ → List ℕ → Item → List Item → ℕ → Bool → List NestedItem → List NestedItem → Type 0
    At k stack i rest n b kept left =
        Parted S k stack (i ∷ rest) (with_if b (record { item = i; depth = n }) kept) (with_if (not b) (record { item = i; depth = n }) left)

    pub parted : (k : ℕ) (stack : List ℕ) (items : List Item) → Parted S k stack items (kept_from marks k (map f stack) items) (left_from marks k (map f stack) items)
    unfolding kept_from left_from innermost closed with_if
    parted k stack [] = ended
    parted k stack (entry y ∷ rest) =
        let p = parted (suc k) (opened y.declaration.children k stack) rest in
        let q : Parted S (suc k) (opened y.declaration.children k stack) rest
        (kept_from marks (suc k) (opened y.declaration.children (f k) (map f stack)) rest) (left_from marks (suc k) (opened y.declaration.children (f k) (map f stack)) rest) =
        subst (λ (bs : List Bool). Parted S (suc k) (opened y.declaration.children k stack) rest (kept_from marks (suc k) bs rest) (left_from marks (suc k) bs rest))
        (open-same y.declaration.children k stack) p in
        subst (λ (n : ℕ). At k stack (entry y) rest n (f k) (kept_from marks (suc k) (opened y.declaration.children (f k) (map f stack)) rest)
        (left_from marks (suc k) (opened y.declaration.children (f k) (map f stack)) rest)) (sym (length-map f stack)) (entry-parted k stack y rest _ _ (f k) (same k) q)
    parted k [] (terminator a b ∷ rest) = surplus (parted k [] rest)
    parted k (p ∷ stack) (terminator a b ∷ rest) =
        subst (λ (n : ℕ). At k (p ∷ stack) (terminator a b) rest (suc n) (f p) (kept_from marks k (map f stack) rest) (left_from marks k (map f stack) rest)) (sym (length-map f stack))
        (closing-parted k p stack a b rest _ _ (f p) (same p) (parted k stack rest))

-- ---- positions

-- where an item is moved to
pub moved-offset : (n : ℕ) (i : Item) → offset_of (moved_item n i) ≡ n
unfolding offset_of moved_item moved_entry
moved-offset n (entry x) = refl
moved-offset n (terminator a b) = refl

abbrev pub place_of : ℕ → NestedItem → Place
place_of n s = record { old = offset_of s.item; new = n; depth = s.depth }

-- the m-th kept item, and its place and itself where it is moved to
pub record Stands (first : ℕ) (kept : List NestedItem) (m : ℕ) (s : NestedItem) : Type 0 where
  pub new : ℕ
  pub kept_there : Nth s m kept
  pub place : Nth (place_of new s) m (places_from first kept)
  pub moved : Nth (moved_item new s.item) m (moved_from first kept)

stands_on : (first : ℕ) (kept : List NestedItem) (m : ℕ) (t s : NestedItem) → Stands (first + size_of t.item) kept m s → Stands first (t ∷ kept) (suc m) s
unfolding places_from moved_from
stands_on first kept m t s r = record { new = r.new; kept_there = later r.kept_there; place = later r.place; moved = later r.moved }

stands_here : (first : ℕ) (kept : List NestedItem) (t s : NestedItem) → s ≡ t → Stands first (t ∷ kept) 0 s
unfolding places_from moved_from
stands_here first kept t s q =
    record { new = first; kept_there = now q; place = now (ap (place_of first) q); moved = now (ap (λ (z : NestedItem). moved_item first z.item) q) }

pub stands : (first : ℕ) (kept : List NestedItem) (m : ℕ) (s : NestedItem) → Nth s m kept → Stands first kept m s
stands first [] m s n = elim n [ ]
stands first (t ∷ kept) m s (now q) = stands_here first kept t s q
stands first (t ∷ kept) m s (later n) = stands_on first kept _ t s (stands (first + size_of t.item) kept _ s n)

-- what is read at the new place
module _ (x : Sections) (u : Unit') (lists : Lists) (places : List Place) (unit : List ℕ) where
  pub deep-at : (first : ℕ) (kept : List NestedItem) (m : ℕ) (s : NestedItem) → PatchedFrom x u lists places unit first kept → (n : Nth s m kept)
      → deep_at x (with_bytes u unit) (stands first kept m s n).new ≡ Some (patched x u lists places s, drop ((stands first kept m s n).new + size_of s.item) unit)
  unfolding PatchedFrom stands size_of stands_here stands_on
  deep-at first [] m s h n = elim n [ ]
  deep-at first (t ∷ kept) m s h (now q) =
      subst (λ (z : NestedItem). deep_at x (with_bytes u unit) first ≡ Some (patched x u lists places z, drop (first + size_of z.item) unit)) (sym q) h.0
  deep-at first (t ∷ kept) m s h (later n) = deep-at (first + size_of t.item) kept _ s h.1 n

-- the kept item that an old offset is mapped by, and its new place
pub record ItemFound (first : ℕ) (kept : List NestedItem) (v n : ℕ) : Type 0 where
  pub m : ℕ
  pub s : NestedItem
  pub there : Stands first kept m s
  pub named : offset_of s.item ≡ v
  pub new_is : there.new ≡ n

found-on : (first : ℕ) (kept : List NestedItem) (t : NestedItem) (v n : ℕ) → ItemFound (first + size_of t.item) kept v n → ItemFound first (t ∷ kept) v n
unfolding stands_on
found-on first kept t v n r =
    record { m = suc r.m; s = r.s; there = stands_on first kept r.m t r.s r.there; named = r.named; new_is = r.new_is }

pub found-by : (first : ℕ) (kept : List NestedItem) (v n : ℕ) → new_of (places_from first kept) v ≡ Some n → ItemFound first kept v n
unfolding places_from new_of stands_here
found-by first [] v n = λ e. let z : ◌≡◌ {A = ℕ} 0 1 = cc in absurd (omega arith)
found-by first (t ∷ kept) v n =
    pick-either (λ (o : Option ℕ). o ≡ Some n → ItemFound first (t ∷ kept) v n) (eqb (offset_of t.item) v) (Some first) (new_of (places_from (first + size_of t.item) kept) v)
    (λ y e. record { m = 0; s = t; there = stands_here first kept t t refl; named = eqb_yes {a = offset_of t.item} {b = v} y; new_is = cc })
    (λ y e. found-on first kept t v n (found-by (first + size_of t.item) kept v n e))

-- the first kept item at or after an old offset that is no deeper than so, and its new place
pub record FirstFound (first : ℕ) (kept : List NestedItem) (depth v n : ℕ) : Type 0 where
  pub m : ℕ
  pub s : NestedItem
  pub there : Stands first kept m s
  pub after : v ≤ offset_of s.item
  pub no_deeper : s.depth ≤ depth
  pub new_is : there.new ≡ n
  pub first_one : (j : ℕ) (t : NestedItem) → j < m → Nth t j kept → v ≤ offset_of t.item → depth < t.depth

-- a test of two that fails, and one that holds
not-and : (a b : Bool) → T (not (a and b)) → T a → T (not b)
unfolding ◌and◌
not-and true b h t = h
not-and false b h t = absurd t

-- before v, or deeper
not-both : (v o d depth : ℕ) → T (not (leb v o and leb d depth)) → v ≤ o → depth < d
not-both v o d depth h l = leb_no {a = d} {b = depth} (not-and (leb v o) (leb d depth) h (yes_leb {a = v} {b = o} l))

earlier : (kept : List NestedItem) (t : NestedItem) (depth v m : ℕ) → T (not (leb v (offset_of t.item) and leb t.depth depth))
    → ((j : ℕ) (z : NestedItem) → j < m → Nth z j kept → v ≤ offset_of z.item → depth < z.depth)
    → (j : ℕ) (z : NestedItem) → j < suc m → Nth z j (t ∷ kept) → v ≤ offset_of z.item → depth < z.depth
earlier kept t depth v m h all j z l (now q) a =
    subst (λ (y : NestedItem). depth < y.depth) (sym q) (not-both v (offset_of t.item) t.depth depth h (subst (λ (y : NestedItem). v ≤ offset_of y.item) q a))
earlier kept t depth v m h all j z l (later n) a = all _ z (omega arith) n a

first_on : (first : ℕ) (kept : List NestedItem) (t : NestedItem) (depth v n : ℕ) → T (not (leb v (offset_of t.item) and leb t.depth depth))
    → FirstFound (first + size_of t.item) kept depth v n → FirstFound first (t ∷ kept) depth v n
unfolding stands_on
first_on first kept t depth v n h r =
    record {
      m = suc r.m;
      s = r.s;
      there = stands_on first kept r.m t r.s r.there;
      after = r.after;
      no_deeper = r.no_deeper;
      new_is = r.new_is;
      first_one = earlier kept t depth v r.m h r.first_one;
    }

pub first_by : (first : ℕ) (kept : List NestedItem) (depth v n : ℕ) → first_from (places_from first kept) depth v ≡ Some n → FirstFound first kept depth v n
unfolding places_from first_from stands_here
first_by first [] depth v n = λ e. let z : ◌≡◌ {A = ℕ} 0 1 = cc in absurd (omega arith)
first_by first (t ∷ kept) depth v n =
    pick-either (λ (o : Option ℕ). o ≡ Some n → FirstFound first (t ∷ kept) depth v n) (leb v (offset_of t.item) and leb t.depth depth) (Some first)
    (first_from (places_from (first + size_of t.item) kept) depth v)
    (λ y e.
    let b = and_both (leb v (offset_of t.item)) (leb t.depth depth) y in
    record {
      m = 0;
      s = t;
      there = stands_here first kept t t refl;
      after = leb_yes {a = v} {b = offset_of t.item} b.0;
      no_deeper = leb_yes {a = t.depth} {b = depth} b.1;
      new_is = cc;
      first_one = (λ j z l. absurd (omega arith));
    })
    (λ y e. first_on first kept t depth v n y (first_by (first + size_of t.item) kept depth v n e))

-- ---- what is open around a kept item

-- it is one of the items, and these are open around it there
pub record AncestorsOf (items : List Item) (stack : List ℕ) (ancestors : List (List ℕ)) (m : ℕ) (s : NestedItem) : Type 0 where
  pub at : ℕ
  pub opens : List ℕ
  pub was_at : Nth s.item at items
  pub were_open : Nth opens at (ancestors_from stack items)
  pub listed : Nth opens m ancestors

ancestors-entry : (y : Entry) (rest : List Item) (stack : List ℕ) (ancestors : List (List ℕ)) (m : ℕ) (s : NestedItem)
    → AncestorsOf rest (opened y.declaration.children y.offset.0 stack) ancestors m s → AncestorsOf (entry y ∷ rest) stack ancestors m s
unfolding ancestors_from
ancestors-entry y rest stack ancestors m s r =
    record { at = suc r.at; opens = r.opens; was_at = later r.was_at; were_open = later r.were_open; listed = r.listed }

ancestors-close : (a b : ℕ) (rest : List Item) (stack : List ℕ) (ancestors : List (List ℕ)) (m : ℕ) (s : NestedItem)
    → AncestorsOf rest (closed stack) ancestors m s → AncestorsOf (terminator a b ∷ rest) stack ancestors m s
unfolding ancestors_from
ancestors-close a b rest stack ancestors m s r =
    record { at = suc r.at; opens = r.opens; was_at = later r.was_at; were_open = later r.were_open; listed = r.listed }

ancestors-more : (items : List Item) (stack opens : List ℕ) (ancestors : List (List ℕ)) (m : ℕ) (s : NestedItem) → AncestorsOf items stack ancestors m s → AncestorsOf items stack (opens ∷ ancestors) (suc m) s
ancestors-more items stack opens ancestors m s r = record { at = r.at; opens = r.opens; was_at = r.was_at; were_open = r.were_open; listed = later r.listed }

ancestors-first : (i : Item) (d : ℕ) (rest : List Item) (stack : List ℕ) (ancestors : List (List ℕ)) (s : NestedItem) → s ≡ record { item = i; depth = d }
    → Nth stack 0 (ancestors_from stack (i ∷ rest)) → AncestorsOf (i ∷ rest) stack (stack ∷ ancestors) 0 s
ancestors-first i d rest stack ancestors s q n = record { at = 0; opens = stack; was_at = now (ap (λ (z : NestedItem). z.item) q); were_open = n; listed = now refl }

open-here : (i : Item) (rest : List Item) (stack : List ℕ) → Nth stack 0 (ancestors_from stack (i ∷ rest))
unfolding ancestors_from
open-here (entry y) rest stack = now refl
open-here (terminator a b) rest stack = now refl

-- one item, kept or not
ancestors-one : (i : Item) (d : ℕ) (rest : List Item) (stack : List ℕ) (kept : List NestedItem) (ancestors : List (List ℕ)) (b : Bool)
    → ((m : ℕ) (s : NestedItem) → Nth s m kept → AncestorsOf (i ∷ rest) stack ancestors m s)
    → (m : ℕ) (s : NestedItem) → Nth s m (with_if b (record { item = i; depth = d }) kept) → AncestorsOf (i ∷ rest) stack (pick b (stack ∷ ancestors) ancestors) m s
unfolding with_if pick
ancestors-one i d rest stack kept ancestors true h m s (now q) = ancestors-first i d rest stack ancestors s q (open-here i rest stack)
ancestors-one i d rest stack kept ancestors true h m s (later n) = ancestors-more (i ∷ rest) stack stack ancestors _ s (h _ s n)
ancestors-one i d rest stack kept ancestors false h m s n = h m s n

pub ancestors-by : (marks : List ℕ) (k : ℕ) (bs : List Bool) (stack : List ℕ) (items : List Item) (m : ℕ) (s : NestedItem) → Nth s m (kept_from marks k bs items)
    → AncestorsOf items stack (kept_ancestors marks k bs stack items) m s
unfolding kept_from kept_ancestors
ancestors-by marks k bs stack [] m s n = elim n [ ]
ancestors-by marks k bs stack (entry y ∷ rest) m s n =
    ancestors-one (entry y) (length bs) rest stack _ _ (is_kept marks k)
    (λ j z q. ancestors-entry y rest stack _ j z
    (ancestors-by marks (suc k) (opened y.declaration.children (is_kept marks k) bs) (opened y.declaration.children y.offset.0 stack) rest j z q))
    m s n
ancestors-by marks k bs stack (terminator a b ∷ rest) m s n =
    ancestors-one (terminator a b) (length bs) rest stack _ _ (innermost bs)
    (λ j z q. ancestors-close a b rest stack _ j z (ancestors-by marks k (closed bs) (closed stack) rest j z q))
    m s n

-- the m-th of both sides
pub record Led (map : List Place) (opens : List ℕ) (m : ℕ) (news : List (List ℕ)) : Type 0 where
  pub opens-again : List ℕ
  pub there : Nth opens-again m news
  pub leading : MapTo map opens opens-again

pub led : (map : List Place) (olds news : List (List ℕ)) → AllMapTo map olds news → (opens : List ℕ) (m : ℕ) → Nth opens m olds → Led map opens m news
unfolding AllMapTo
led map [] news h opens m n = elim n [ ]
led map (o ∷ olds) [] h opens m n = absurd h
led map (o ∷ olds) (w ∷ news) h opens m (now q) = record { opens-again = w; there = now refl; leading = subst (λ (z : List ℕ). MapTo map z w) (sym q) h.0 }
led map (o ∷ olds) (w ∷ news) h opens m (later n) =
    let r : Led map opens _ news = led map olds news h.1 opens _ n in
    record { opens-again = r.opens-again; there = later r.there; leading = r.leading }
