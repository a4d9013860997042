-- WHAT IS CLAIMED of a unit that collect accepted (demand 3), on one page: definitions and no proofs. That every rewritten unit is
-- `Thinned` and every untouched one `Untouched` are the theorems `thinned-law` and `untouched-law` (proofs/thinned/ThinnedLaw.antt); they
-- assume nothing but the answer. Places in lists count from 0, and `Nth a m xs` says that a is the m-th of xs.
use Rattle.std.specs.Prelude.{ℕ, suc, ◌+◌, ◌≤◌, ◌<◌, ◌≡◌, Bool, true, List, [], ◌∷◌, ◌⊎◌, ◌↔◌, length, take, drop, None, Ok, Option, Some}
use Rattle.readers.specs.Layout.{Encoded, Role, reference, type_reference, sibling, index, absolute, Piece, verbatim, patchable, Read, RunOf, read_in}
use Rattle.readers.specs.Expression.{expression_in}
use Rattle.readers.specs.Abbreviations.{Placed, declared_in, abbreviations_of}
use Rattle.readers.specs.Entries.{entry_layout}
use Rattle.readers.specs.Header.{header_of, with_end}
use Rattle.readers.specs.Nesting.{opened}
use Rattle.readers.specs.Stream.{Item, entry, terminator, items_from}
use Rattle.readers.specs.declared.entries.Entry.{Entry}
use Rattle.readers.specs.declared.header.UnitHeader.{UnitHeader}
use Rattle.marking.specs.Analysis.{Sections, EntryRow, analysed, analysis_of}
use Rattle.marking.specs.Below.{Number}
use Rattle.marking.specs.Resolution.{graph_of}
use Rattle.marking.specs.Survivors.{Survivor}
use Rattle.laws.specs.UnitSurvivors.{SurvivorsOf}
use Rattle.rewriting.specs.Places.{NestedItem, offset_of, Place, size_from, old_offsets}
use Rattle.rewriting.specs.Ascending.{Ascending}
use Rattle.marking.specs.Members.{Member, Nth}
use Rattle.laws.specs.Ancestors.{ancestors_from}
use Rattle.laws.specs.Moved.{moved_item, depths_from}
use Rattle.rewriting.specs.Rewriting.{Unit as Unit', unit_of, items_in, Lists, lists_of, no_lists, list_at, Rewrite, Room}
use Rattle.laws.specs.AbsentLists.{DeclaresOffset}
use Rattle.laws.specs.HeaderBytes.{HeaderBytes}
use Rattle.laws.specs.SameReferences.{UnitReferences}
use Rattle.laws.specs.SameRoles.{UnitRoles}

unfoldable pub new_offsets : List Place → List ℕ
new_offsets [] = []
new_offsets (p ∷ ps) = p.new ∷ new_offsets ps

-- two lists, one by one
unfoldable pub Pairwise : {A B : Type 0} → (A → B → Type 0) → List A → List B → Type 0
Pairwise R [] [] = Unit {0}
Pairwise R [] (y ∷ ys) = ⊥
Pairwise R (x ∷ xs) [] = ⊥
Pairwise R (x ∷ xs) (y ∷ ys) = R x y × Pairwise R xs ys

-- ---- what is kept and what is left out

-- an item inside these open entries
abbrev pub inside : List ℕ → Item → NestedItem
inside stack i = record { item = i; depth = length stack }

-- The items of a unit, from entry number k on and inside these open entries, each either kept or left out, in order: an entry is
-- kept where it is in S, a terminator where the entry whose children it closes is; one that closes none is left out.
module _ (S : ℕ → Type 0) where
  pub data Parted : ℕ → List ℕ → List Item → List NestedItem → List NestedItem → Type 0 where
    ended : {k : ℕ} {stack : List ℕ} → Parted k stack [] [] []
    kept_entry : {k : ℕ} {stack : List ℕ} {y : Entry} {rest : List Item} {kept left : List NestedItem} → S k
        → Parted (suc k) (opened y.declaration.children k stack) rest kept left
        → Parted k stack (entry y ∷ rest) (inside stack (entry y) ∷ kept) left
    left_entry : {k : ℕ} {stack : List ℕ} {y : Entry} {rest : List Item} {kept left : List NestedItem} → (S k → ⊥)
        → Parted (suc k) (opened y.declaration.children k stack) rest kept left
        → Parted k stack (entry y ∷ rest) kept (inside stack (entry y) ∷ left)
    kept_terminator : {k p a b : ℕ} {stack : List ℕ} {rest : List Item} {kept left : List NestedItem} → S p
        → Parted k stack rest kept left
        → Parted k (p ∷ stack) (terminator a b ∷ rest) (inside (p ∷ stack) (terminator a b) ∷ kept) left
    left_terminator : {k p a b : ℕ} {stack : List ℕ} {rest : List Item} {kept left : List NestedItem} → (S p → ⊥)
        → Parted k stack rest kept left
        → Parted k (p ∷ stack) (terminator a b ∷ rest) kept (inside (p ∷ stack) (terminator a b) ∷ left)
    surplus : {k a b : ℕ} {rest : List Item} {kept left : List NestedItem}
        → Parted k [] rest kept left → Parted k [] (terminator a b ∷ rest) kept (inside [] (terminator a b) ∷ left)

-- ---- what is read of a unit

module _ (x : Sections) (u : Unit') where
  -- an entry or terminator at an offset: the values that it has, expressions operation by operation, and the bytes behind them
  abbrev pub read_at : ℕ → Option RunOf
  read_at at =
      read_in u.header.encoding.big_endian (expression_in u.header.encoding)
      (entry_layout u.header.encoding x.abbreviations (declared_in u.declared)) (drop at u.bytes)

  module _ (kept : List NestedItem) where
    -- v is an index of list k that a kept item holds
    pub record IndexKept (k v : ℕ) : Type 0 where
      pub s : NestedItem
      pub e : Encoded
      pub r : Read
      pub run : RunOf
      pub in_kept : Member s kept
      pub reads : read_at (offset_of s.item) ≡ Some run
      pub among : Member r run.0
      pub operand : Member (patchable e (index k) v) r.pieces

    -- an index list: ascending, without repeats, exactly the indices of what is kept
    pub record IndexList (k : ℕ) (xs : List ℕ) : Type 0 where
      pub ascending : Ascending xs
      pub members : (v : ℕ) → Member v xs ↔ IndexKept k v

-- ---- the old unit u and the new one, read by the same abbreviations

module _ (x : Sections) (u new : Unit') (lists : Lists) (map : List Place) (kept : List NestedItem) where
  -- the m-th kept item, the m-th place of the map and the m-th item of the new unit
  pub record Beside (m : ℕ) (s : NestedItem) (p : Place) (i : Item) : Type 0 where
    pub kept_there : Nth s m kept
    pub mapped : Nth p m map
    pub again_there : Nth i m (items_in x new)
    pub old_is : p.old ≡ offset_of s.item
    pub new_is : p.new ≡ offset_of i

  -- "lands on the new place of the entry or terminator it named": v is the old offset of a kept item, n the new offset of the same one
  pub record LandsOn (v n : ℕ) : Type 0 where
    pub m : ℕ
    pub s : NestedItem
    pub p : Place
    pub i : Item
    pub beside : Beside m s p i
    pub named : offset_of s.item ≡ v
    pub lands : offset_of i ≡ n

  -- "the first mapped place at or after it that is no deeper than the sibling's owner", and no item at v is kept
  pub record FirstFrom (depth v n : ℕ) : Type 0 where
    pub m : ℕ
    pub s : NestedItem
    pub p : Place
    pub i : Item
    pub beside : Beside m s p i
    pub after : v ≤ offset_of s.item
    pub no_deeper : s.depth ≤ depth
    pub lands : offset_of i ≡ n
    pub unmapped : (t : NestedItem) → Member t kept → offset_of t.item ≡ v → ⊥
    pub first : (j : ℕ) (t : NestedItem) → j < m → Nth t j kept → v ≤ offset_of t.item → depth < t.depth

  -- what a number of an item at a depth becomes, by what it stands for (document 01, "Rewriting")
  unfoldable pub Becomes : ℕ → Role → ℕ → ℕ → Type 0
  Becomes depth reference v n = LandsOn v n
  Becomes depth type_reference v n = (v ≡ 0 → n ≡ 0) × ((v ≡ 0 → ⊥) → LandsOn v n)
  Becomes depth sibling v n = LandsOn v n ⊎ FirstFrom depth v n
  Becomes depth (index k) v n = (list_at lists k ≡ None → n ≡ v) × ((xs : List ℕ) → list_at lists k ≡ Some xs → Nth v n xs)
  Becomes depth absolute v n = n ≡ v

  -- what was read and what is read again: bytes are the same; a number is written in the same way and stands for the same
  unfoldable pub PieceAgain : ℕ → Piece → Piece → Type 0
  PieceAgain depth (verbatim l) (verbatim r) = l ≡ r
  PieceAgain depth (verbatim l) (patchable e role n) = ⊥
  PieceAgain depth (patchable e role v) (verbatim r) = ⊥
  PieceAgain depth (patchable e role v) (patchable e' role' n) = (e ≡ e') × (role ≡ role') × Becomes depth role v n

  pub record ReadAgain (depth : ℕ) (r again : Read) : Type 0 where
    pub seen_is : r.seen ≡ again.seen
    pub start_is : r.start ≡ again.start
    pub pieces_are : Pairwise (PieceAgain depth) r.pieces again.pieces

  -- the m-th kept item, side by side with what stands for it in the new unit
  pub record SideBySide (m : ℕ) (s : NestedItem) : Type 0 where
    pub place : Place
    pub item : Item
    pub beside : Beside m s place item
    pub same : item ≡ moved_item (offset_of item) s.item  -- an entry of the same declaration, or a terminator; as long as it was
    pub depth_is : place.depth ≡ s.depth
    pub depth_again : Nth s.depth m (depths_from 0 [] (items_in x new))
    -- the values
    pub values : RunOf
    pub values_again : RunOf
    pub were : read_at x u (offset_of s.item) ≡ Some values
    pub are : read_at x new (offset_of item) ≡ Some values_again
    pub again : Pairwise (ReadAgain s.depth) values.0 values_again.0
    -- the entries open around it, the innermost first, which is its parent
    pub at : ℕ
    pub was_at : Nth s.item at (items_in x u)
    pub ancestors : List ℕ
    pub ancestors_again : List ℕ
    pub were_open : Nth ancestors at (ancestors_from [] (items_in x u))
    pub are_open : Nth ancestors_again m (ancestors_from [] (items_in x new))
    pub same_open : Pairwise LandsOn ancestors ancestors_again

-- ---- the thinned unit

-- bytes that are a unit of their own, by that header
abbrev pub thinned_of : UnitHeader → List ℕ → List Placed → Unit'
thinned_of h bytes ds = record { header = with_end h (length bytes); bytes = bytes; declared = ds }

-- an entry below n that is not in S
pub record Without (S : ℕ → Type 0) (n : ℕ) : Type 0 where
  pub at : ℕ
  pub inside : at < n
  pub not_there : S at → ⊥

pub record Thinned (x : Sections) (type_units : Bool) (section : List ℕ) (w : Rewrite) : Type 1 where
  -- the unit as it was read, the rows of its entries, and its items, each kept or left out
  pub header : UnitHeader
  pub declared : List Placed
  pub rows : List EntryRow
  pub kept : List NestedItem
  pub left : List NestedItem
  pub header_is : header_of x.setting.big_endian section ≡ Ok (Some header)
  pub declared_are : abbreviations_of x.abbreviations header.abbreviations ≡ Some declared
  -- the least set (specs/UnitSurvivors.antt), by the references that are patched below
  -- (specs/SameReferences.antt); which numbers are patched, by their forms (specs/SameRoles.antt)
  pub survivors : SurvivorsOf x section rows
  pub references : UnitReferences x section rows
  pub roles : UnitRoles x section
  pub parted : Parted (Survivor (graph_of rows)) 0 [] (items_in x (unit_of header section declared)) kept left
  -- "The kept count is the number of survivors." "An accepted unit is rewritten exactly when it has a dead entry."
  pub entries_are : w.entries ≡ length rows
  pub count : Number (Survivor (graph_of rows)) w.entries w.kept
  pub dead : Without (Survivor (graph_of rows)) w.entries
  -- "Read again": by its own header, which is the old one but for the unit's length, and the same abbreviations, up to its end
  pub header_again : header_of x.setting.big_endian w.output ≡ Ok (Some (with_end header (length w.output)))
  pub header_written : HeaderBytes header (take header.end section) w.output
  pub whole : (items_from header.encoding x.abbreviations (declared_in declared) w.output header.first.0).1 ≡ true
  -- "a rewritten unit is the old tree less its dead entries, with order, nesting and, as document 01 has it, values kept"; "lands on the new place"
  pub as_many : length (items_in x (thinned_of header w.output declared)) ≡ length kept
  pub places : length w.map ≡ length kept
  pub olds : Ascending (old_offsets w.map)
  pub news : Ascending (new_offsets w.map)
  pub each : (m : ℕ) (s : NestedItem) → Nth s m kept
      → SideBySide x (unit_of header section declared) (thinned_of header w.output declared) w.lists w.map kept m s
  -- "The rewritten unit's old bytes, counted, equal its new bytes plus those of the entries and terminators left out."
  pub bytes : header.end ≡ length w.output + size_from left
  pub lists_are : w.lists ≡ lists_of x (unit_of header section declared) type_units kept
  -- which are absent (specs/AbsentLists.antt), and what is in the others
  pub absent : (k : ℕ) → k < 3 → (list_at w.lists k ≡ None) ↔ ((type_units ≡ true) ⊎ DeclaresOffset x (unit_of header section declared) k)
  pub lists : (k : ℕ) → k < 3 → (xs : List ℕ) → list_at w.lists k ≡ Some xs
      → IndexList x (unit_of header section declared) kept k xs

-- where a number of it lands
module _ (x : Sections) (type_units : Bool) (section : List ℕ) (w : Rewrite) (t : Thinned x type_units section w) where
  abbrev pub Lands : ℕ → ℕ → Type 0
  Lands = LandsOn x (unit_of t.header section t.declared) (thinned_of t.header w.output t.declared) w.lists w.map t.kept

-- ---- an untouched unit

-- the lists of a unit with entries
pub record UntouchedLists (x : Sections) (type_units : Bool) (section : List ℕ) (rows : List EntryRow) (lists : Lists) : Type 0 where
  pub header : UnitHeader
  pub declared : List Placed
  pub kept : List NestedItem
  pub left : List NestedItem
  pub header_is : header_of x.setting.big_endian section ≡ Ok (Some header)
  pub declared_are : abbreviations_of x.abbreviations header.abbreviations ≡ Some declared
  pub parted : Parted (Survivor (graph_of rows)) 0 [] (items_in x (unit_of header section declared)) kept left
  pub lists_are : lists ≡ lists_of x (unit_of header section declared) type_units kept
  pub absent : (k : ℕ) → k < 3 → (list_at lists k ≡ None) ↔ ((type_units ≡ true) ⊎ DeclaresOffset x (unit_of header section declared) k)
  pub each : (k : ℕ) → k < 3 → (xs : List ℕ) → list_at lists k ≡ Some xs → IndexList x (unit_of header section declared) kept k xs

-- "An accepted unit is rewritten exactly when it has a dead entry.": every entry of an untouched one is a survivor; "without entries the lists are absent too"
pub record Untouched (x : Sections) (type_units : Bool) (section : List ℕ) (n : ℕ) (lists : Lists) : Type 1 where
  pub rows : List EntryRow
  pub survivors : SurvivorsOf x section rows
  pub entries_are : n ≡ length rows
  pub alive : (i : ℕ) → i < n → Survivor (graph_of rows) i
  pub without_lists : n ≡ 0 → lists ≡ no_lists
  pub with_lists : 0 < n → UntouchedLists x type_units section rows lists

-- an entry of the unit is no survivor
pub record DeadEntry (x : Sections) (room : Room) (section : List ℕ) : Type 0 where
  pub rows : List EntryRow
  pub analysis : analysis_of x section room.tables ≡ analysed rows
  pub dead : Without (Survivor (graph_of rows)) (length rows)
