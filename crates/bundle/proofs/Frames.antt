-- Whether a bundle's frame is right, by what was tested of it.
use mathlib.Core.Path.{◌≡◌, refl, sym, ◌∙◌}
use Prim.Native.Nat.{ℕ, ◌-◌, ◌≤◌, ◌<◌}
use mathlib.Core.Bool.{Bool, true, false}
use mathlib.Core.List.{List}
use lib.ListN.{length}
use lib.Dec.{leb, eqb}
use borrow.Author.Tests.{lt-leb, le-leb, eq-eqb, ne_eqb}
use Rattle.readers.specs.Choice.{◌and◌, ◌or◌}
use Rattle.readers.specs.Cursors.{fixed_at}
use Rattle.readers.specs.declared.cursor.Cursor.{Cursor}
use Rattle.std.specs.Prelude.{None, Option, Some}
use Rattle.bundle.specs.Bundle.{version_of, frame_of, number_is}

and-false : (a b : Bool) → b ≡ false → (a and b) ≡ false
unfolding ◌and◌
and-false true b e = e
and-false false b e = refl

module _ (s : List ℕ) where
  pub too_long : 65536 < length s → false ≡ frame_of s
  unfolding frame_of ◌and◌
  too_long h = rw (lt-leb (length s) 65536 h)

  pub too_short : length s < 5 → false ≡ frame_of s
  unfolding frame_of ◌and◌
  too_short h =
      sym (rw (lt-leb 5 (length s) h) (and-false (leb (length s) 65536) _ (and-false (number_is (fixed_at true 4 s 0) (length s - 4)) _ refl)))

  module _ (n : Option (ℕ × Cursor)) (e : n ≡ fixed_at true 4 s 0) where
    pub no_length : n ≡ None → false ≡ frame_of s
    unfolding frame_of number_is ◌and◌
    no_length k = sym (rw (← e, k) (and-false (leb (length s) 65536) _ refl))

    pub wrong-length : (v : ℕ) (c : Cursor) → n ≡ Some (v, c) → (v ≡ length s - 4 → ⊥) → eqb v (length s - 4) ≡ frame_of s
    unfolding frame_of number_is ◌and◌
    wrong-length v c k h = ne_eqb v (length s - 4) h ∙ sym (rw (← e, k, ne_eqb v (length s - 4) h) (and-false (leb (length s) 65536) _ refl))

    module _ (v : ℕ) (c : Cursor) (k : n ≡ Some (v, c)) (l : length s ≤ 65536) (h : v ≡ length s - 4) (m : 5 ≤ length s) (b : ℕ) (q : b ≡ version_of s) where
      pub version-one : b ≡ 1 → eqb b 1 ≡ frame_of s
      unfolding frame_of number_is ◌and◌ ◌or◌
      version-one z = eq-eqb b 1 z ∙ sym (rw (← e, k, le-leb (length s) 65536 l, eq-eqb v (length s - 4) h, le-leb 5 (length s) m, sym q ∙ z))

      pub by-version : (b ≡ 1 → ⊥) → eqb b 2 ≡ frame_of s
      unfolding frame_of number_is ◌and◌ ◌or◌
      by-version z = sym (rw (← e, k, le-leb (length s) 65536 l, eq-eqb v (length s - 4) h, le-leb 5 (length s) m, sym q, ne_eqb b 1 z))
