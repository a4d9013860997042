-- An index list is absent exactly with type units and where an entry declares its attribute as sec_offset. Assumes nothing.
use mathlib.Core.Path.{◌≡◌, refl, ap, sym, ◌∙◌, subst}
use Prim.Native.Nat.{ℕ, zero, suc, ◌<◌}
use native.Mathlib.Omega.{arith}
use mathlib.Core.Bool.{Bool, true, false, false≢true}
use mathlib.Core.List.{List, [], ◌∷◌}
use Rattle.std.specs.Prelude.{None}
use mathlib.Core.Logic.{◌⊎◌, inl, inr, ⊎_elim, ◌↔◌}
use lib.Dec.{eqb}
use borrow.Author.Tests.{eqb-true, eq-eqb}
use Rattle.readers.specs.Choice.{pick, ◌and◌, ◌or◌}
use Rattle.readers.specs.Stream.{Item, entry, terminator}
use Rattle.readers.specs.declared.entries.Entry.{Entry}
use Rattle.marking.specs.Analysis.{Sections, values_of_entry}
use Rattle.readers.specs.EntryAttributes.{Valued}
use Rattle.marking.specs.Members.{Member, here, there}
use Rattle.marking.proofs.Members.{nothing-in}
use Rattle.marking.proofs.Tests.{and-out, and_in, or-out, or_inl, or_inr}
use Rattle.rewriting.specs.Places.{NestedItem}
use Rattle.rewriting.specs.Indices.{declares}
use Rattle.rewriting.specs.Rewriting.{Unit as Unit', items_in, item_declares, any_declares, Lists, list_of, lists_of, list_at}
use Rattle.laws.specs.AbsentLists.{ListAttribute, DeclaresOffset}

-- ---- among attributes

record Declared (name : ℕ) (vs : List Valued) : Type 0 where
  a : Valued
  among : Member a vs
  named : a.name ≡ name
  offset : a.declared ≡ 0x17

declares-out : (name : ℕ) (vs : List Valued) → declares name vs ≡ true → Declared name vs
unfolding declares
declares-out name [] e = absurd (false≢true e)
declares-out name (v ∷ vs) e =
    ⊎_elim
    (λ p. let b = and-out _ _ p in record { a = v; among = here refl; named = eqb-true v.name name b.0; offset = eqb-true v.declared 0x17 b.1 })
    (λ p. let d = declares-out name vs p in record { a = d.a; among = there d.among; named = d.named; offset = d.offset })
    (or-out (eqb v.name name and eqb v.declared 0x17) (declares name vs) e)

declares-in : (name : ℕ) (vs : List Valued) (a : Valued) → Member a vs → a.name ≡ name → a.declared ≡ 0x17 → declares name vs ≡ true
unfolding declares
declares-in name [] a m n o = absurd (nothing-in a m)
declares-in name (v ∷ vs) a (here q) n o =
    or_inl (declares name vs)
    (and_in (eq-eqb v.name name (ap (λ (z : Valued). z.name) (sym q) ∙ n)) (eq-eqb v.declared 0x17 (ap (λ (z : Valued). z.declared) (sym q) ∙ o)))
declares-in name (v ∷ vs) a (there m) n o = or_inr _ (declares-in name vs a m n o)

-- ---- among items

module _ (x : Sections) (u : Unit') where
  abbrev values : Entry → List Valued
  values = values_of_entry u.header.encoding x u.bytes

  record Declaring (name : ℕ) (items : List Item) : Type 0 where
    y : Entry
    among : Member (entry y) items
    declared : Declared name (values y)

  item_out : (name : ℕ) (i : Item) (items : List Item) → item_declares x u name i ≡ true → Declaring name (i ∷ items)
  unfolding item_declares
  item_out name (entry y) items e = record { y = y; among = here refl; declared = declares-out name (values y) e }
  item_out name (terminator a b) items e = absurd (false≢true e)

  any-declares-out : (name : ℕ) (items : List Item) → any_declares x u name items ≡ true → Declaring name items
  unfolding any_declares
  any-declares-out name [] e = absurd (false≢true e)
  any-declares-out name (i ∷ items) e =
      ⊎_elim (λ p. item_out name i items p)
      (λ p. let d = any-declares-out name items p in record { y = d.y; among = there d.among; declared = d.declared })
      (or-out (item_declares x u name i) (any_declares x u name items) e)

  item_in : (name : ℕ) (y : Entry) → Declared name (values y) → item_declares x u name (entry y) ≡ true
  unfolding item_declares
  item_in name y d = declares-in name (values y) d.a d.among d.named d.offset

  any-declares-in : (name : ℕ) (items : List Item) (y : Entry) → Member (entry y) items → Declared name (values y) → any_declares x u name items ≡ true
  unfolding any_declares
  any-declares-in name [] y m d = absurd (nothing-in (entry y) m)
  any-declares-in name (i ∷ items) y (here q) d = or_inl _ (subst (λ (z : Item). item_declares x u name z ≡ true) q (item_in name y d))
  any-declares-in name (i ∷ items) y (there m) d = or_inr _ (any-declares-in name items y m d)

  -- ---- the lists

  module _ (type_units : Bool) (kept : List NestedItem) where
    list-absent : (absent : Bool) (k : ℕ) → (list_of x u absent k kept ≡ None) ↔ (absent ≡ true)
    unfolding list_of pick
    list-absent true k = (λ _. refl, λ _. refl)
    list-absent false k = (λ q. (let z : ◌≡◌ {A = ℕ} 0 1 = cc in absurd (omega arith)), λ q. absurd (false≢true q))

    -- a list with an attribute
    with-attribute : (k name : ℕ) → ListAttribute k name → ((n : ℕ) → ListAttribute k n → n ≡ name)
        → (list_of x u (type_units or any_declares x u name (items_in x u)) k kept ≡ None) ↔ ((type_units ≡ true) ⊎ DeclaresOffset x u k)
    with-attribute k name h only = (
      λ q. ⊎_elim (λ t. inl t)
          (λ e. let d = any-declares-out name (items_in x u) e in
          inr (record {
            y = d.y;
            a = d.declared.a;
            in_unit = d.among;
            of_entry = d.declared.among;
            attribute = subst (ListAttribute k) (sym d.declared.named) h;
            offset = d.declared.offset;
          }))
          (or-out type_units (any_declares x u name (items_in x u)) ((list-absent _ k).0 q)),
      λ c. (list-absent _ k).1 (⊎_elim (λ (t : type_units ≡ true). or_inl _ t)
          (λ (d : DeclaresOffset x u k). or_inr type_units
          (any-declares-in name (items_in x u) d.y d.in_unit
          (record { a = d.a; among = d.of_entry; named = only d.a.name d.attribute; offset = d.offset }))) c),
    )

    -- the strings list has none
    no-attribute : (n : ℕ) → ListAttribute 2 n → ⊥
    no-attribute n =
        ⊎_elim (λ (p : (2 ≡ 0) × (n ≡ 0x55)). let q : 2 ≡ 0 = p.0 in omega arith)
        (λ (p : (2 ≡ 1) × (n ≡ 0x02)). let q : 2 ≡ 1 = p.0 in omega arith)

    strings-absent : (list_of x u type_units 2 kept ≡ None) ↔ ((type_units ≡ true) ⊎ DeclaresOffset x u 2)
    strings-absent = (
      λ q. inl ((list-absent type_units 2).0 q),
      λ c. (list-absent type_units 2).1
          (⊎_elim (λ (t : type_units ≡ true). t) (λ (d : DeclaresOffset x u 2). absurd (no-attribute d.a.name d.attribute)) c),
    )

    only-ranges : (n : ℕ) → ListAttribute 0 n → n ≡ 0x55
    only-ranges n = ⊎_elim (λ (p : (0 ≡ 0) × (n ≡ 0x55)). p.1) (λ (p : (0 ≡ 1) × (n ≡ 0x02)). let q : 0 ≡ 1 = p.0 in absurd (omega arith))

    only-locations : (n : ℕ) → ListAttribute 1 n → n ≡ 0x02
    only-locations n = ⊎_elim (λ (p : (1 ≡ 0) × (n ≡ 0x55)). let q : 1 ≡ 0 = p.0 in absurd (omega arith)) (λ (p : (1 ≡ 1) × (n ≡ 0x02)). p.1)

    absent-at : (k : ℕ) → k < 3 → (list_at (lists_of x u type_units kept) k ≡ None) ↔ ((type_units ≡ true) ⊎ DeclaresOffset x u k)
    unfolding list_at lists_of pick
    absent-at zero h = with-attribute 0 0x55 (inl (refl, refl)) only-ranges
    absent-at (suc zero) h = with-attribute 1 0x02 (inr (refl, refl)) only-locations
    absent-at (suc (suc zero)) h = strings-absent
    absent-at (suc (suc (suc k))) h = absurd (omega arith)

    -- THE LAW OF ABSENT LISTS
    pub absent-law : (lists : Lists) → lists ≡ lists_of x u type_units kept
        → (k : ℕ) → k < 3 → (list_at lists k ≡ None) ↔ ((type_units ≡ true) ⊎ DeclaresOffset x u k)
    absent-law lists q k h = (
      λ p. (absent-at k h).0 (sym (ap (λ (z : Lists). list_at z k) q) ∙ p),
      λ c. ap (λ (z : Lists). list_at z k) q ∙ (absent-at k h).1 c,
    )
