-- In a thinned unit an old offset has one new offset, and a new offset one old one: what a reference becomes names what it named and
-- no other kept item, of the same shape or not. Assumes nothing but that the unit is thinned.
use mathlib.Core.Path.{◌≡◌, ap, sym, ◌∙◌}
use Prim.Native.Nat.{ℕ, suc, ◌≤◌}
use native.Mathlib.Omega.{arith}
use mathlib.Core.Bool.{Bool}
use mathlib.Core.List.{List, [], ◌∷◌}
use Rattle.marking.specs.Analysis.{Sections}
use Rattle.marking.specs.Members.{Member, here, there}
use Rattle.marking.specs.Resolution.{Ascending as From}
use Rattle.marking.proofs.Members.{nothing-in, from_member}
use Rattle.rewriting.specs.Places.{NestedItem, Place}
use Rattle.laws.specs.Inner.Maps.{MappedTo}
use Rattle.rewriting.specs.Rewriting.{Unit as Unit', unit_of, Lists, or_self, Rewrite}
use Rattle.laws.specs.Thinned.{LandsOn, Lands, thinned_of, Thinned, new_offsets}
use Rattle.laws.proofs.Again.Maps.{mapped_in}
use Rattle.laws.proofs.Thinned.ThinnedItems.{nth-member}

-- ---- places with one new offset

new-member : (p : Place) (map : List Place) → Member p map → Member p.new (new_offsets map)
unfolding new_offsets
new-member p [] m = absurd (nothing-in p m)
new-member p (q ∷ map) (here e) = here (ap (λ (z : Place). z.new) e)
new-member p (q ∷ map) (there m) = there (new-member p map m)

one_place : (low : ℕ) (map : List Place) (p q : Place) → From low (new_offsets map) → Member p map → Member q map → p.new ≡ q.new → p ≡ q
unfolding new_offsets From
one_place low [] p q f m k h = absurd (nothing-in p m)
one_place low (r ∷ map) p q f (here e) (here g) h = e ∙ sym g
one_place low (r ∷ map) p q f (here e) (there k) h =
    let a : p.new ≡ r.new = ap (λ (z : Place). z.new) e in
    let b : suc r.new ≤ q.new = from_member (suc r.new) q.new (new_offsets map) f.1 (new-member q map k) in absurd (omega arith)
one_place low (r ∷ map) p q f (there m) (here g) h =
    let a : q.new ≡ r.new = ap (λ (z : Place). z.new) g in
    let b : suc r.new ≤ p.new = from_member (suc r.new) p.new (new_offsets map) f.1 (new-member p map m) in absurd (omega arith)
one_place low (r ∷ map) p q f (there m) (there k) h = one_place (suc r.new) map p q f.1 m k h

-- ---- where a number lands is where the map leads

module _ (x : Sections) (u new : Unit') (lists : Lists) (map : List Place) (kept : List NestedItem) where
  pub lands-leads : (v n : ℕ) → LandsOn x u new lists map kept v n → MappedTo map v n
  lands-leads v n l =
      record {
        place = l.p;
        within = nth-member l.p l.m map l.beside.mapped;
        old = l.beside.old_is ∙ l.named;
        new = l.beside.new_is ∙ l.lands;
      }

module _ (x : Sections) (type_units : Bool) (section : List ℕ) (w : Rewrite) (t : Thinned x type_units section w) where
  leads : (v n : ℕ) → Lands x type_units section w t v n → MappedTo w.map v n
  leads = lands-leads x (unit_of t.header section t.declared) (thinned_of t.header w.output t.declared) w.lists w.map t.kept

  -- a reference lands on one place
  pub lands-once : (v n m : ℕ) → Lands x type_units section w t v n → Lands x type_units section w t v m → n ≡ m
  unfolding or_self
  lands-once v n m a b =
      ap (or_self 0) (sym (mapped_in w.map v n t.olds (leads v n a)) ∙ mapped_in w.map v m t.olds (leads v m b))

  -- references to two items land on two places
  pub lands-apart : (v v' n : ℕ) → Lands x type_units section w t v n → Lands x type_units section w t v' n → v ≡ v'
  lands-apart v v' n a b =
      let p : MappedTo w.map v n = leads v n a in
      let q : MappedTo w.map v' n = leads v' n b in
      sym p.old
      ∙ ap (λ (z : Place). z.old) (one_place 0 w.map p.place q.place t.news p.within q.within (p.new ∙ sym q.new))
      ∙ q.old
