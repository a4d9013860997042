-- The forms of indices, by what they are compared with. Assumes nothing.
use mathlib.Core.Path.{◌≡◌, refl, ap, sym, ◌∙◌}
use Prim.Native.Nat.{ℕ, ◌≤◌, ◌<◌}
use native.Mathlib.Omega.{arith}
use mathlib.Core.Bool.{Bool, true, false, true≢false}
use lib.Dec.{T, eqb, leb}
use mir.Facts.{leb_yes, eqb_yes}
use borrow.Author.Tests.{ne_eqb, le-leb, lt-leb}
use Rattle.std.specs.Prelude.{Option, Some, None}
use Rattle.std.specs.Option.{is_some}
use Rattle.readers.specs.declared.attributes.IndexKind.{IndexKind}
use Rattle.readers.specs.Choice.{pick, ◌and◌, ◌or◌}
use Rattle.readers.specs.Layout.{reference, sibling, index, absolute}
use Rattle.readers.specs.Tokens.{plain, as'}
use Rattle.readers.specs.Forms.{use_of, list_form}
use Rattle.readers.specs.IndexNumber.{list_number}
use Rattle.readers.specs.Inner.Forms.{role_list, use_list}

module _ (f : ℕ) where
  pub list-ranges : f ≡ 0x23 → 0 ≡ list_form f
  unfolding list_form pick
  list-ranges h = rw h

  pub list-locations : f ≡ 0x22 → 1 ≡ list_form f
  unfolding list_form pick
  list-locations h = rw h

  pub list-strings : f ≡ 0x1a → 2 ≡ list_form f
  unfolding list_form pick ◌or◌
  list-strings h = rw h

  pub list-gnu : f ≡ 0x1f02 → 2 ≡ list_form f
  unfolding list_form pick ◌or◌ ◌and◌
  list-gnu h = rw h

  pub list-fixed : 0x25 ≤ f → f ≤ 0x28 → 2 ≡ list_form f
  unfolding list_form pick ◌or◌ ◌and◌
  list-fixed lo hi =
      rw (
        ne_eqb f 0x23 (λ h. absurd (omega arith)),
        ne_eqb f 0x22 (λ h. absurd (omega arith)),
        ne_eqb f 0x1a (λ h. absurd (omega arith)),
        le-leb 0x25 f lo,
        le-leb f 0x28 hi,
      )

  pub list-low : f < 0x25 → (f ≡ 0x23 → ⊥) → (f ≡ 0x22 → ⊥) → (f ≡ 0x1a → ⊥) → 3 ≡ list_form f
  unfolding list_form pick ◌or◌ ◌and◌
  list-low lo a b c = rw (ne_eqb f 0x23 a, ne_eqb f 0x22 b, ne_eqb f 0x1a c, lt-leb 0x25 f lo, ne_eqb f 0x1f02 (λ h. absurd (omega arith)))

  pub list-high : 0x28 < f → (f ≡ 0x1f02 → ⊥) → 3 ≡ list_form f
  unfolding list_form pick ◌or◌ ◌and◌
  list-high hi d =
      rw (
        ne_eqb f 0x23 (λ h. absurd (omega arith)),
        ne_eqb f 0x22 (λ h. absurd (omega arith)),
        ne_eqb f 0x1a (λ h. absurd (omega arith)),
        le-leb 0x25 f (let h : 0x25 ≤ f = omega arith in h),
        lt-leb f 0x28 hi,
        ne_eqb f 0x1f02 d,
      )

-- ---- the number of a list, by its kind

module _ (n : ℕ) (o : Option IndexKind) (is : list_number o ≡ n) where
  pub number-some : (k kind : IndexKind) → o ≡ Some k → k ≡ kind → n ≡ list_number (Some kind)
  number-some k kind p q = sym is ∙ ap list_number (p ∙ ap Some q)

  pub number-none : o ≡ None → n ≡ 3
  number-none p = sym is ∙ ap list_number p

pub is-none : (o : Option IndexKind) → is_some o ≡ false → o ≡ None
is-none (Some k) h = absurd (true≢false h)
is-none None h = refl

-- ---- the list of a use

-- by the tests of `list_form`
abbrev list_by : Bool → Bool → Bool → ℕ
list_by ranges locations strings = pick ranges 0 (pick locations 1 (pick strings 2 3))

by-use : (own first section ranges locations strings : Bool)
    → (T own → list_by ranges locations strings ≡ 3) → (T section → list_by ranges locations strings ≡ 3)
    → list_by ranges locations strings
    ≡ use_list (pick own (as' (pick first sibling reference)) (pick section (as' absolute)
    (pick ranges (as' (index 0)) (pick locations (as' (index 1)) (pick strings (as' (index 2)) plain)))))
unfolding use_list role_list pick
by-use true true section ranges locations strings h k = h tt
by-use true false section ranges locations strings h k = h tt
by-use false first true ranges locations strings h k = k tt
by-use false first false true locations strings h k = refl
by-use false first false false true strings h k = refl
by-use false first false false false true h k = refl
by-use false first false false false false h k = refl

both : (a b : Bool) → T (a and b) → T a × T b
unfolding ◌and◌
both true b t = (tt, t)
both false b t = absurd t

no-list : (f : ℕ) → f < 0x1a → list_form f ≡ 3
no-list f h = sym (list-low f (omega arith) (λ q. omega arith) (λ q. omega arith) (λ q. omega arith))

-- the list of a form is that of its use, under any name
pub form-list : (name f : ℕ) → list_form f ≡ use_list (use_of name f)
unfolding list_form use_of
form-list name f =
    by-use (leb 0x11 f and leb f 0x15) (eqb name 0x01) (eqb f 0x10) (eqb f 0x23) (eqb f 0x22) _
    (λ t. let h : f ≤ 0x15 = leb_yes {a = f} {b = 0x15} (both (leb 0x11 f) (leb f 0x15) t).1 in no-list f (omega arith))
    (λ t. let h : f ≡ 0x10 = eqb_yes {a = f} {b = 0x10} t in no-list f (omega arith))
