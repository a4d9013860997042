-- What the refusals 8 and 9 of collect mean (document 01, "Rewriting"), by the kept items of a unit: `eight-means`, `nine-means` and,
-- of nothing refused, `none-means` (proofs/refusals/ValueRefusals.antt) say that they come exactly so.
use Rattle.std.specs.Prelude.{ℕ, ◌+◌, ◌≤◌, ◌<◌, ◌≡◌, List, ◌∷◌, ◌++◌, ◌⊎◌, None, Some}
use Rattle.readers.specs.Layout.{Role, reference, type_reference, sibling, index, absolute, Piece, verbatim, patchable, Read, Fit}
use Rattle.marking.specs.Analysis.{Sections}
use Rattle.marking.specs.Members.{Member, Nth}
use Rattle.rewriting.specs.Places.{NestedItem, offset_of, places_from, size_from}
use Rattle.rewriting.specs.Ascending.{Ascending}
use Rattle.rewriting.specs.Rewriting.{Unit as Unit', reads_at, Lists, list_at, new_value}

-- what stands before a member and after it
pub record Split (xs : List NestedItem) (x : NestedItem) : Type 0 where
  pub before : List NestedItem
  pub after : List NestedItem
  pub whole : xs ≡ before ++ (x ∷ after)

-- ---- lists

abbrev pub Each : {A : Type 0} → (A → Type 0) → List A → Type 0
Each {A} P xs = (a : A) → Member a xs → P a

module _ {A : Type 0} (Fine Bad : A → Type 0) where
  -- one of a list is bad, and all before it are fine
  pub data First : List A → Type 0 where
    this : {a : A} {rest : List A} → Bad a → First (a ∷ rest)
    next : {a : A} {rest : List A} → Fine a → First rest → First (a ∷ rest)

-- ---- places

module _ (kept : List NestedItem) where
  -- the item at this offset is kept
  pub record KeptAt (v : ℕ) : Type 0 where
    pub s : NestedItem
    pub in_kept : Member s kept
    pub named : offset_of s.item ≡ v

  -- an item at this offset or after it is kept that is no deeper than so
  pub record KeptAfter (depth v : ℕ) : Type 0 where
    pub s : NestedItem
    pub in_kept : Member s kept
    pub after : v ≤ offset_of s.item
    pub no_deeper : s.depth ≤ depth

  -- whether a number of an item at a depth has a place, by what it stands for
  unfoldable pub HasPlace : ℕ → Role → ℕ → Type 0
  HasPlace depth reference v = KeptAt v
  HasPlace depth type_reference v = (v ≡ 0) ⊎ KeptAt v
  HasPlace depth sibling v = KeptAt v ⊎ KeptAfter depth v
  HasPlace depth (index k) v = Unit {0}
  HasPlace depth absolute v = Unit {0}

  unfoldable pub NoPlace : ℕ → Role → ℕ → Type 0
  NoPlace depth reference v = KeptAt v → ⊥
  NoPlace depth type_reference v = (v ≡ 0 → ⊥) × (KeptAt v → ⊥)
  NoPlace depth sibling v = (KeptAt v → ⊥) × (KeptAfter depth v → ⊥)
  NoPlace depth (index k) v = ⊥
  NoPlace depth absolute v = ⊥

-- ---- new values

-- where a kept item comes to stand: behind the kept items before it
module _ (first : ℕ) (kept : List NestedItem) where
  -- n is the new offset of the kept item at v
  pub record NewAt (v n : ℕ) : Type 0 where
    pub s : NestedItem
    pub split : Split kept s
    pub named : offset_of s.item ≡ v
    pub new_is : n ≡ first + size_from split.before

  -- n is the new offset of the first kept item at v or after it that is no deeper than so
  pub record NewAfter (depth v n : ℕ) : Type 0 where
    pub s : NestedItem
    pub split : Split kept s
    pub after : v ≤ offset_of s.item
    pub no_deeper : s.depth ≤ depth
    pub new_is : n ≡ first + size_from split.before
    pub first_one : (t : NestedItem) → Member t split.before → v ≤ offset_of t.item → depth < t.depth

  -- n is the new value of a number with a place; `new_value` is so (proofs/refusals/NewValues.antt, `new-value-law`), in refused units too
  unfoldable pub IsNew : Lists → ℕ → Role → ℕ → ℕ → Type 0
  IsNew lists depth reference v n = NewAt v n
  IsNew lists depth type_reference v n = (v ≡ 0 → n ≡ 0) × ((v ≡ 0 → ⊥) → NewAt v n)
  IsNew lists depth sibling v n = NewAt v n ⊎ ((KeptAt kept v → ⊥) × NewAfter depth v n)
  IsNew lists depth (index k) v n =
      (list_at lists k ≡ None → n ≡ v) × ((xs : List ℕ) → list_at lists k ≡ Some xs → Ascending xs → Member v xs → Nth v n xs)
  IsNew lists depth absolute v n = n ≡ v

-- ---- the numbers of kept items

module _ (lists : Lists) (first : ℕ) (kept : List NestedItem) (depth : ℕ) where
  -- it has a place, and its new value can be written as the old one was
  unfoldable pub Fine : Piece → Type 0
  Fine (verbatim l) = Unit {0}
  Fine (patchable e role v) = HasPlace kept depth role v × Fit e (new_value lists (places_from first kept) depth role v)

  -- 8: "non-sibling target isn't mapped, or no sibling place found"
  unfoldable pub Unplaced : Piece → Type 0
  Unplaced (verbatim l) = ⊥
  Unplaced (patchable e role v) = NoPlace kept depth role v

  -- 9: "value doesn't fit"
  unfoldable pub TooWide : Piece → Type 0
  TooWide (verbatim l) = ⊥
  TooWide (patchable e role v) = HasPlace kept depth role v × (Fit e (new_value lists (places_from first kept) depth role v) → ⊥)

module _ (x : Sections) (u : Unit') (lists : Lists) (first : ℕ) (kept : List NestedItem) where
  abbrev pub FineRead : ℕ → Read → Type 0
  FineRead depth r = Each (Fine lists first kept depth) r.pieces

  -- every number of an item
  abbrev pub FineItem : NestedItem → Type 0
  FineItem s = Each (FineRead s.depth) (reads_at x u (offset_of s.item))

  module _ (Bad : ℕ → Piece → Type 0) where
    abbrev pub BadRead : ℕ → Read → Type 0
    BadRead depth r = First (Fine lists first kept depth) (Bad depth) r.pieces

    -- a number of an item is bad, and all before it are fine
    abbrev pub BadItem : NestedItem → Type 0
    BadItem s = First (FineRead s.depth) (BadRead s.depth) (reads_at x u (offset_of s.item))

  -- every number of every kept item has a place and fits
  abbrev pub AllFine : Type 0
  AllFine = Each FineItem kept

  -- in stream order the first number that is not so has no place
  abbrev pub FirstUnplaced : Type 0
  FirstUnplaced = First FineItem (BadItem (Unplaced lists first kept)) kept

  -- or has one, and its new value does not fit
  abbrev pub FirstTooWide : Type 0
  FirstTooWide = First FineItem (BadItem (TooWide lists first kept)) kept

  -- a number of a kept item that is so
  pub record NumberOf (Bad : ℕ → Piece → Type 0) : Type 0 where
    pub s : NestedItem
    pub r : Read
    pub p : Piece
    pub in_kept : Member s kept
    pub among : Member r (reads_at x u (offset_of s.item))
    pub operand : Member p r.pieces
    pub bad : Bad s.depth p
