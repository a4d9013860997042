-- What `read_bundle` answers, by the sections that were read.
use mathlib.Core.Path.{◌≡◌, refl, ap, sym, ◌∙◌}
use Prim.Native.Nat.{ℕ}
use mathlib.Core.Bool.{Bool, true, false}
use mathlib.Core.List.{List}
use lib.ListN.{length}
use lib.Dec.{eqb}
use borrow.Author.Tests.{eq-eqb, ne_eqb}
use Rattle.readers.specs.Choice.{pick}
use Rattle.readers.specs.declared.fields.Field.{Field}
use Rattle.std.specs.Prelude.{None, Option, Some}
use Rattle.bundle.specs.Bundle.{frame_of, version_of, part, debug_ranges_part, on_part, sections_of, bundle_of}
use Rattle.bundle.specs.declared.Bundle.{Bundle}

pub framed : (s : List ℕ) (b : Bool) (r : Option Bundle) → b ≡ frame_of s → b ≡ true → r ≡ sections_of s → r ≡ bundle_of s
unfolding bundle_of pick
framed s b r e k q = rw (← e, k) q

pub unframed : (s : List ℕ) (b : Bool) → b ≡ frame_of s → b ≡ false → None ≡ bundle_of s
unfolding bundle_of pick
unframed s b e k = rw (← e, k)

on_read : (x r : Option Field) (f : Field) (k : Field → Option Bundle) → x ≡ r → x ≡ Some f → on_part r k ≡ k f
unfolding on_part
on_read x r f k e t = ap (λ z. on_part z k) (sym e ∙ t)

on_none : (x r : Option Field) (k : Field → Option Bundle) → x ≡ r → x ≡ None → on_part r k ≡ None
unfolding on_part
on_none x r k e t = ap (λ z. on_part z k) (sym e ∙ t)

-- what is left to read, from each section on
module _ (s : List ℕ) where
  abbrev at-end : Field → Field → Field → Field → Field → Field → Option Bundle
  at-end u a l r d o =
      pick (eqb o.end (length s)) (Some (record { unit = u; abbreviations = a; locations = l; ranges = r; addresses = d; debug_ranges = o })) None

  abbrev from-addresses : Field → Field → Field → Field → Field → Option Bundle
  from-addresses u a l r d = on_part (debug_ranges_part s d.end) (at-end u a l r d)

  abbrev from-ranges : Field → Field → Field → Field → Option Bundle
  from-ranges u a l r = on_part (part s r.end) (from-addresses u a l r)

  abbrev from-locations : Field → Field → Field → Option Bundle
  from-locations u a l = on_part (part s l.end) (from-ranges u a l)

  abbrev from-abbreviations : Field → Field → Option Bundle
  from-abbreviations u a = on_part (part s a.end) (from-locations u a)

  abbrev from-unit : Field → Option Bundle
  from-unit u = on_part (part s u.end) (from-abbreviations u)

  sections : sections_of s ≡ on_part (part s 5) from-unit
  unfolding sections_of
  sections = refl

  module _ (x1 : Option Field) (e1 : x1 ≡ part s 5) where
    pub no-unit : x1 ≡ None → None ≡ sections_of s
    no-unit t = sym (sections ∙ on_none x1 _ _ e1 t)

    module _ (u : Field) (t1 : x1 ≡ Some u) (x2 : Option Field) (e2 : x2 ≡ part s u.end) where
      to-2 : sections_of s ≡ from-unit u
      to-2 = sections ∙ on_read x1 _ u _ e1 t1

      pub no-abbreviations : x2 ≡ None → None ≡ sections_of s
      no-abbreviations t = sym (to-2 ∙ on_none x2 _ _ e2 t)

      module _ (a : Field) (t2 : x2 ≡ Some a) (x3 : Option Field) (e3 : x3 ≡ part s a.end) where
        to-3 : sections_of s ≡ from-abbreviations u a
        to-3 = to-2 ∙ on_read x2 _ a _ e2 t2

        pub no-locations : x3 ≡ None → None ≡ sections_of s
        no-locations t = sym (to-3 ∙ on_none x3 _ _ e3 t)

        module _ (l : Field) (t3 : x3 ≡ Some l) (x4 : Option Field) (e4 : x4 ≡ part s l.end) where
          to-4 : sections_of s ≡ from-locations u a l
          to-4 = to-3 ∙ on_read x3 _ l _ e3 t3

          pub no-ranges : x4 ≡ None → None ≡ sections_of s
          no-ranges t = sym (to-4 ∙ on_none x4 _ _ e4 t)

          module _ (r : Field) (t4 : x4 ≡ Some r) (x5 : Option Field) (e5 : x5 ≡ part s r.end) where
            to-5 : sections_of s ≡ from-ranges u a l r
            to-5 = to-4 ∙ on_read x4 _ r _ e4 t4

            pub no-addresses : x5 ≡ None → None ≡ sections_of s
            no-addresses t = sym (to-5 ∙ on_none x5 _ _ e5 t)

            module _ (d : Field) (t5 : x5 ≡ Some d) (x6 : Option Field) (e6 : x6 ≡ debug_ranges_part s d.end) where
              to-6 : sections_of s ≡ from-addresses u a l r d
              to-6 = to-5 ∙ on_read x5 _ d _ e5 t5

              pub no-debug-ranges : x6 ≡ None → None ≡ sections_of s
              no-debug-ranges t = sym (to-6 ∙ on_none x6 _ _ e6 t)

              module _ (o : Field) (t6 : x6 ≡ Some o) where
                abbrev ended : Bool → Option Bundle
                ended z = pick z (Some (record { unit = u; abbreviations = a; locations = l; ranges = r; addresses = d; debug_ranges = o })) None

                to-7 : sections_of s ≡ at-end u a l r d o
                to-7 = to-6 ∙ on_read x6 _ o _ e6 t6

                pub more_bytes : (o.end ≡ length s → ⊥) → None ≡ sections_of s
                unfolding pick
                more_bytes h = sym (to-7 ∙ ap ended (ne_eqb o.end (length s) h))

                pub whole : o.end ≡ length s
                    → Some (record { unit = u; abbreviations = a; locations = l; ranges = r; addresses = d; debug_ranges = o }) ≡ sections_of s
                unfolding pick
                whole h = sym (to-7 ∙ ap ended (eq-eqb o.end (length s) h))

-- ---- .debug_ranges, by the version byte

module _ (s : List ℕ) (at b : ℕ) (q : b ≡ version_of s) where
  pub section-there : b ≡ 2 → (r : Option Field) → r ≡ part s at → r ≡ debug_ranges_part s at
  unfolding debug_ranges_part pick
  section-there z r p = p ∙ rw (sym q ∙ z)

  pub section-empty : (b ≡ 2 → ⊥) → Some (record { value = 0; start = at; end = at }) ≡ debug_ranges_part s at
  unfolding debug_ranges_part pick
  section-empty z = rw (← q, ne_eqb b 2 z)
