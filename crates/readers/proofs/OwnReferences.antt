-- What an operation names by itself, return by return (specs/References.antt: named_type, reference_of, own_walk).
use mathlib.Core.Path.{◌≡◌, refl, ap, sym, ◌∙◌}
use Prim.Native.Nat.{ℕ, ◌-◌, ◌≤◌, ◌<◌}
use mathlib.Core.Bool.{Bool, true, false, not, ◌||◌}
use lib.Dec.{T, leb, ltb, eqb}
use mir.Facts.{yes_ltb, no_ltb, yes_leb, no_leb, yes_eqb, no_eqb}
use Rattle.readers.specs.Choice.{◌or◌}
use Rattle.readers.proofs.Choice.{pick_yes, pick_no}
use Rattle.readers.specs.References.{named, named_type, reference_of}
use Rattle.readers.specs.Inner.References.{counted, own_walk}
use Rattle.readers.specs.declared.cursor.Cursor.{Cursor}
use Rattle.readers.specs.declared.fields.Field.{Field}
use Rattle.readers.specs.declared.operations.Operation.{Operation}
use Rattle.std.specs.Prelude.{None, Option, Some}
use Rattle.readers.specs.declared.expressions.Reference.{Reference}

pub or-is : (a b : Bool) → (a || b) ≡ (a or b)
unfolding ◌or◌
or-is true b = refl
or-is false b = refl

pub left : (a b : Bool) → T a → T (a or b)
unfolding ◌or◌
left true b t = tt
left false b t = absurd t

pub right : (a b : Bool) → T b → T (a or b)
unfolding ◌or◌
right true b t = tt
right false b t = t

pub neither : (a b : Bool) → T (not a) → T (not b) → T (not (a or b))
unfolding ◌or◌
neither true b s t = absurd s
neither false b s t = t

pub named-is : (f : Field) (b : Bool) (c : Cursor) (w : ℕ) → w ≡ f.end - f.start
    → Some (record { place = f.start; target = record { 0 = f.value }; leb = b; width = w; next = c }) ≡ named f b c
unfolding named
named-is f b c w q = ap (λ n. Some (record { place = f.start; target = record { 0 = f.value }; leb = b; width = n; next = c })) q

pub type-none : (f : Field) (c : Cursor) → f.value ≡ 0 → None ≡ named_type f c
unfolding named_type
type-none f c t = sym (pick_yes _ _ _ (yes_eqb {a = f.value} {b = 0} t))

pub type-some : (f : Field) (c : Cursor) (y : Option Reference) → (f.value ≡ 0 → ⊥) → y ≡ named f true c → y ≡ named_type f c
unfolding named_type
type-some f c y t q = q ∙ sym (pick_no _ _ _ (no_eqb {a = f.value} {b = 0} t))

module _ (op : Operation) where
  pub early : op.row < 12 → None ≡ reference_of op
  unfolding reference_of
  early t = sym (pick_yes _ _ _ (yes_ltb {a = op.row} {b = 12} t))

  module _ (lo : 12 ≤ op.row) where
    abbrev a : T (not (ltb op.row 12))
    a = no_ltb {a = op.row} {b = 12} lo

    pub entry : (y : Option Reference) → op.row ≤ 13 → y ≡ named op.first false op.next → y ≡ reference_of op
    unfolding reference_of
    entry y t q = q ∙ sym (pick_no _ _ _ a ∙ pick_yes _ _ _ (yes_leb {a = op.row} {b = 13} t))

    module _ (hi : 13 < op.row) where
      abbrev b : T (not (leb op.row 13))
      b = no_leb {a = op.row} {b = 13} hi

      pub first-type : (y : Option Reference) → op.row ≡ 14 → y ≡ named_type op.first op.next → y ≡ reference_of op
      unfolding reference_of
      first-type y t q = q ∙ sym (pick_no _ _ _ a ∙ pick_no _ _ _ b ∙ pick_yes _ _ _ (yes_eqb {a = op.row} {b = 14} t))

      module _ (other : op.row ≡ 14 → ⊥) where
        abbrev c : T (not (eqb op.row 14))
        c = no_eqb {a = op.row} {b = 14} other

        pub second_type : (y : Option Reference) → op.row ≤ 16 → y ≡ named_type op.second op.next → y ≡ reference_of op
        unfolding reference_of
        second_type y t q = q ∙ sym (pick_no _ _ _ a ∙ pick_no _ _ _ b ∙ pick_no _ _ _ c ∙ pick_yes _ _ _ (yes_leb {a = op.row} {b = 16} t))

        module _ (more : 16 < op.row) where
          abbrev d : T (not (leb op.row 16))
          d = no_leb {a = op.row} {b = 16} more

          pub const-type : (y : Option Reference) → op.row ≡ 17 → y ≡ named_type op.first op.next → y ≡ reference_of op
          unfolding reference_of
          const-type y t q = q ∙ sym (pick_no _ _ _ a ∙ pick_no _ _ _ b ∙ pick_no _ _ _ c ∙ pick_no _ _ _ d ∙ pick_yes _ _ _ (yes_eqb {a = op.row} {b = 17} t))

          pub late : (op.row ≡ 17 → ⊥) → None ≡ reference_of op
          unfolding reference_of
          late t = sym (pick_no _ _ _ a ∙ pick_no _ _ _ b ∙ pick_no _ _ _ c ∙ pick_no _ _ _ d ∙ pick_no _ _ _ (no_eqb {a = op.row} {b = 17} t))

  abbrev sections : Bool
  sections = eqb op.row 20 or eqb op.row 21

  section : T sections → Some (0, true) ≡ own_walk op
  unfolding own_walk
  section t = sym (pick_yes _ _ _ t)

  pub section-20 : op.row ≡ 20 → Some (0, true) ≡ own_walk op
  section-20 t = section (left (eqb op.row 20) (eqb op.row 21) (yes_eqb {a = op.row} {b = 20} t))

  pub section-21 : op.row ≡ 21 → Some (0, true) ≡ own_walk op
  section-21 t = section (right (eqb op.row 20) (eqb op.row 21) (yes_eqb {a = op.row} {b = 21} t))

  module _ (x : op.row ≡ 20 → ⊥) (y : op.row ≡ 21 → ⊥) (z : Option Reference) (is : z ≡ reference_of op) where
    own : Some (counted z, false) ≡ own_walk op
    unfolding own_walk
    own = ap (λ u. Some (counted u, false)) is ∙ sym (pick_no _ _ _ (neither (eqb op.row 20) (eqb op.row 21) (no_eqb {a = op.row} {b = 20} x) (no_eqb {a = op.row} {b = 21} y)))

    pub own-one : (r : Reference) → z ≡ Some r → Some (1, false) ≡ own_walk op
    unfolding counted
    own-one r q = ap (λ u. Some (counted u, false)) (sym q) ∙ own

    pub own-none : z ≡ None → Some (0, false) ≡ own_walk op
    unfolding counted
    own-none q = ap (λ u. Some (counted u, false)) (sym q) ∙ own
