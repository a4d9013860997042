-- What a scan finds, as the code answers it and as the table holds it: of nothing, of an expression, of a location list's entry. Assumes nothing.
use mathlib.Core.Path.{◌≡◌, refl, ap, sym, ◌∙◌}
use Prim.Native.Nat.{ℕ}
use native.Mathlib.Omega.{arith}
use mathlib.Core.Bool.{Bool, true, false}
use mathlib.Core.List.{List, [], ◌∷◌, ◌++◌, append_assoc}
use lib.ListN.{length}
use borrow.Author.Tests.{eq-eqb, ne_eqb}
use Rattle.readers.specs.Choice.{pick, ◌or◌}
use Rattle.readers.specs.References.{Named, walk_of, flat_from}
use Rattle.readers.proofs.Answers.{walked-flat}
use Rattle.readers.specs.declared.cursor.Encoding.{Encoding}
use Rattle.std.specs.Prelude.{None, Option, Some, Err, Ok, Result}
use Rattle.readers.specs.declared.operations.ListEntry.{ListEntry}
use Rattle.marking.specs.EntryReferences.{ReferencesFound, found, refused, after, targets, walk_found, expression_found, part_of, location_found}
use Rattle.marking.specs.ReferenceTable.{placed, written, scanned_to, table_after}
use Rattle.marking.proofs.Placing.{Put, put-none, put-more, written-size}

-- an answer, and a table that is left
abbrev pub Scans : List ℕ → ℕ → ReferencesFound → Result ℕ ℕ → List ℕ → Type 0
Scans table at f w table' = (w ≡ scanned_to (length table) at f) × (table' ≡ table_after table at f)

module _ (table : List ℕ) (at : ℕ) (f : ReferencesFound) where
  pub scans-same : (g : ReferencesFound) → f ≡ g → (w : Result ℕ ℕ) (table' : List ℕ) → Scans table at g w table' → Scans table at f w table'
  scans-same g k w table' h = (h.0 ∙ sym (ap (scanned_to (length table) at) k), h.1 ∙ sym (ap (table_after table at) k))

  pub scans-put : (xs table' : List ℕ) (to : ℕ) → f ≡ found xs → Put table at xs table' to → Scans table at f (Ok to) table'
  unfolding scanned_to table_after
  scans-put xs table' to k h = scans-same (found xs) k (Ok to) table' (ap Ok h.place, h.numbers)

  pub scans-none : f ≡ found [] → Scans table at f (Ok at) table
  scans-none k = scans-put [] table at k (put-none table at)

  pub scans-refused : (xs table' : List ℕ) (n : ℕ) → f ≡ refused xs n → table' ≡ written table at xs → Scans table at f (Err n) table'
  unfolding scanned_to table_after
  scans-refused xs table' n k h = scans-same (refused xs n) k (Err n) table' (refl, h)

  pub scans-no : (n : ℕ) → f ≡ refused [] n → Scans table at f (Err n) table
  scans-no n k = scans-refused [] table n k (put-none table at).numbers

pub scans-size : (table : List ℕ) (at : ℕ) (f : ReferencesFound) (w : Result ℕ ℕ) (table' : List ℕ) → Scans table at f w table' → length table' ≡ length table
unfolding table_after
scans-size table at (found xs) w table' h = written-size table at xs table' h.1
scans-size table at (refused xs n) w table' h = written-size table at xs table' h.1

-- ---- one thing is scanned after what is in the table already

unfoldable pub Onto : List ℕ → ℕ → List ℕ → List ℕ → ℕ → ReferencesFound → Type 0
Onto table₀ at xs table' to f = (ys : List ℕ) × (f ≡ found ys) × Put table₀ at (xs ++ ys) table' to

unfoldable pub Broken : List ℕ → ℕ → List ℕ → List ℕ → ℕ → ReferencesFound → Type 0
Broken table₀ at xs table' n f = (ys : List ℕ) × (f ≡ refused ys n) × (table' ≡ written table₀ at (xs ++ ys))

module _ (table₀ : List ℕ) (at : ℕ) (xs table : List ℕ) (to : ℕ) (h : Put table₀ at xs table to) (w : Result ℕ ℕ) (table' : List ℕ) where
  pub onto : (f : ReferencesFound) → Scans table to f w table' → (to' : ℕ) → w ≡ Ok to' → Onto table₀ at xs table' to' f
  unfolding scanned_to table_after Onto
  onto (found ys) k to' q =
      let z : to' ≡ placed (length table) to ys = (let y : Ok to' ≡ Ok (placed (length table) to ys) = sym q ∙ k.0 in cc) in
      (ys, refl, put-more table₀ at xs table to h ys table' to' z k.1)
  onto (refused ys n) k to' q = let y : Ok to' ≡ Err n = sym q ∙ k.0 in let z : ◌≡◌ {A = ℕ} 0 1 = cc in absurd (omega arith)

  pub broken : (f : ReferencesFound) → Scans table to f w table' → (n : ℕ) → w ≡ Err n → Broken table₀ at xs table' n f
  unfolding scanned_to table_after Broken
  broken (found ys) k n q = let y : Err n ≡ Ok (placed (length table) to ys) = sym q ∙ k.0 in let z : ◌≡◌ {A = ℕ} 0 1 = cc in absurd (omega arith)
  broken (refused ys m) k n q =
      let z : m ≡ n = (let y : Err n ≡ Err m = sym q ∙ k.0 in cc) in
      (ys, ap (refused ys) z, (put-more table₀ at xs table to h ys table' (placed (length table) to ys) refl k.1).numbers)

pub after_none : (f : ReferencesFound) → after [] f ≡ f
unfolding after
after_none (found ys) = refl
after_none (refused ys n) = refl

pub after-after : (xs ys : List ℕ) (f : ReferencesFound) → after xs (after ys f) ≡ after (xs ++ ys) f
unfolding after
after-after xs ys (found zs) = ap found (sym (append_assoc xs ys zs))
after-after xs ys (refused zs n) = ap (λ l. refused l n) (sym (append_assoc xs ys zs))

-- ---- an expression

no_names : (l : List Named) → length l ≡ 0 → l ≡ []
no_names [] z = refl
no_names (x ∷ l) z = absurd (omega arith)

module _ (e : Encoding) (s table : List ℕ) (at : ℕ) (w : Option (ℕ × Bool)) (q : w ≡ walk_of e s) where
  pub expression-none : w ≡ None → Scans table at (expression_found e s) (Err 5) table
  unfolding expression_found walk_found
  expression-none p = scans-no table at (expression_found e s) 5 (ap (walk_found _) (sym q ∙ p))

  module _ (n : ℕ) (b : Bool) (p : w ≡ Some (n, b)) where
    pub expression-absolute : b ≡ true → Scans table at (expression_found e s) (Err 7) table
    unfolding expression_found walk_found
    expression-absolute k = scans-no table at (expression_found e s) 7 (ap (walk_found _) (sym q ∙ p ∙ ap (λ c. Some (n, c)) k))

    -- one that names nothing
    pub expression-empty : b ≡ false → n ≡ 0 → Scans table at (expression_found e s) (Ok at) table
    unfolding expression_found walk_found targets
    expression-empty k z =
        let f = walked-flat e s n b (sym q ∙ p) in
        scans-none table at (expression_found e s)
        (ap (walk_found _) (sym q ∙ p ∙ ap (λ c. Some (n, c)) k) ∙ ap (λ l. found (targets l)) (sym f.0 ∙ no_names (flat_from e s 0) (f.1 ∙ z)))

    pub expression-put : b ≡ false → (to : ℕ) (table' : List ℕ)
        → (to ≡ placed (length table) at (targets (flat_from e s 0))) × (table' ≡ written table at (targets (flat_from e s 0)))
        → Scans table at (expression_found e s) (Ok to) table'
    unfolding expression_found walk_found
    expression-put k to table' h =
        scans-put table at (expression_found e s) (targets (flat_from e s 0)) table' to
        (ap (walk_found _) (sym q ∙ p ∙ ap (λ c. Some (n, c)) k) ∙ ap (λ l. found (targets l)) (sym (walked-flat e s n b (sym q ∙ p)).0))
        (record { place = h.0; numbers = h.1 })

-- ---- an entry of a location list

module _ (e : Encoding) (s : List ℕ) (x : ListEntry) (table : List ℕ) (at : ℕ) where
  pub location-base : x.kind ≡ 1 → Scans table at (location_found e s x) (Ok at) table
  unfolding location_found pick ◌or◌
  location-base k = scans-none table at (location_found e s x) (rw (eq-eqb x.kind 1 k))

  module _ (k : x.kind ≡ 1 → ⊥) where
    pub location-address : x.kind ≡ 6 → Scans table at (location_found e s x) (Ok at) table
    unfolding location_found pick ◌or◌
    location-address l = scans-none table at (location_found e s x) (rw (ne_eqb x.kind 1 k, eq-eqb x.kind 6 l))

    module _ (l : x.kind ≡ 6 → ⊥) (part : List ℕ) (w : Result ℕ ℕ) (table' : List ℕ) (h : Scans table at (expression_found e part) w table') where
      pub location-default : x.kind ≡ 5 → part ≡ part_of s x.first → Scans table at (location_found e s x) w table'
      unfolding location_found pick ◌or◌
      location-default m p =
          scans-same table at (location_found e s x) (expression_found e part)
          (let i : location_found e s x ≡ expression_found e (part_of s x.first) = rw (ne_eqb x.kind 1 k, ne_eqb x.kind 6 l, eq-eqb x.kind 5 m) in
          i ∙ ap (expression_found e) (sym p)) w table' h

      pub location-other : (x.kind ≡ 5 → ⊥) → part ≡ part_of s x.third → Scans table at (location_found e s x) w table'
      unfolding location_found pick ◌or◌
      location-other m p =
          scans-same table at (location_found e s x) (expression_found e part)
          (let i : location_found e s x ≡ expression_found e (part_of s x.third) = rw (ne_eqb x.kind 1 k, ne_eqb x.kind 6 l, ne_eqb x.kind 5 m) in
          i ∙ ap (expression_found e) (sym p)) w table' h
