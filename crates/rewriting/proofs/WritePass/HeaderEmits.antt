-- The header of a unit with its new length. Assumes nothing.
use mathlib.Core.Path.{◌≡◌, refl, ap, ap₂, sym, ◌∙◌, subst}
use Prim.Native.Nat.{ℕ, ◌+◌, ◌-◌, ◌^◌, ◌≤◌, ◌<◌}
use native.Mathlib.Omega.{arith}
use mathlib.Core.Bool.{Bool, true, false}
use mathlib.Core.List.{List, ◌++◌, append_assoc}
use mathlib.Core.Logic.{◌⊎◌, ⊎_elim}
use lib.ListN.{length, take, drop, length-append, length-drop}
use lib.Seq.{length-take-le, take-append-le, drop-append-le, take-take}
use lib.Dec.{ltb, leb, eqb}
use mir.Facts.{eqb_yes, leb_yes, leb_no, yes_leb}
use borrow.Author.Tests.{lt-ltb, le-leb, lt-leb, leb-true}
use Rattle.readers.specs.Choice.{pick, ◌and◌, put}
use Rattle.readers.proofs.Choice.{pick-either, either}
use Rattle.readers.specs.Numbers.{fixed_bytes}
use Rattle.readers.proofs.Numbers.{length-fixed}
use Rattle.readers.specs.declared.cursor.Encoding.{Encoding}
use Rattle.rewriting.specs.Written.{over}
use Rattle.rewriting.specs.Inner.Written.{bytes_fit, Put}
use Rattle.readers.specs.Header.{length_bytes}
use Rattle.rewriting.specs.Emission.{header_bytes, header_fits, header_count, header_over}
use Rattle.rewriting.specs.Inner.Emission.{Within}
use Rattle.std.specs.Prelude.{Ok}
use Rattle.rewriting.proofs.WritePass.Emissions.{and-true, put-home, part_length, within-to}
use Rattle.rewriting.proofs.WritePass.Putting.{and_first, and_second, true-first, true-second, bytes-room, bytes_low, bytes-else, over-room}

-- ---- the length

-- a number that is no wider than the length is at most eight bytes wide
length_most : (w : ℕ) → w ≤ length_bytes w → w ≤ 8
unfolding length_bytes
length_most w = pick-either (λ (n : ℕ). w ≤ n → w ≤ 8) (eqb w 8) 12 4 (λ t _. let e : w ≡ 8 = eqb_yes {a = w} {b = 8} t in omega arith) (λ _ h. omega arith)

-- the number of either format is
pub length-wide : (w : ℕ) → (w ≡ 4) ⊎ (w ≡ 8) → w ≤ length_bytes w
unfolding length_bytes pick
length-wide w =
    ⊎_elim (λ e. subst (λ (n : ℕ). n ≤ length_bytes n) (sym e) (let h : 4 ≤ 4 = omega arith in h))
    (λ e. subst (λ (n : ℕ). n ≤ length_bytes n) (sym e) (let h : 8 ≤ 12 = omega arith in h))

length-fits : (w v : ℕ) → bytes_fit v w (length_bytes w) ≡ (leb w (length_bytes w) and ltb v (256 ^ w))
unfolding bytes_fit
length-fits w v =
    ⊎_elim
    (λ t. and-true (leb w 8) _ (yes_leb {a = w} {b = 8} (length_most w (leb_yes {a = w} {b = length_bytes w} t))))
    (λ t. let e : leb w (length_bytes w) ≡ false = lt-leb w (length_bytes w) (leb_no {a = w} {b = length_bytes w} t) in
    and_second (leb w 8) _ (and_first _ _ e) ∙ sym (and_first _ _ e))
    (either (leb w (length_bytes w)))

pub header-taken : (unit : List ℕ) (first : ℕ) → first ≤ length unit → first ≡ length (take first unit)
header-taken unit first h = sym (length-take-le first unit h)

-- ---- the header

module _ (e : Encoding) (unit : List ℕ) (first bytes : ℕ) where
  abbrev w : ℕ
  w = e.offset_size

  abbrev l : ℕ
  l = length_bytes w

  pub length-header : l ≤ first → first ≤ length unit → w ≤ l → length (header_bytes e unit first bytes) ≡ first
  unfolding header_bytes
  length-header h1 h2 h3 =
      let a : List ℕ = take (l - w) unit in
      let n : List ℕ = fixed_bytes e.big_endian w (bytes - l) in
      let m : List ℕ = drop l (take first unit) in
      omega (
        arith,
        length-append (a ++ n) m,
        length-append a n,
        length-take-le (l - w) unit (let h : l - w ≤ length unit = omega arith in h),
        length-fixed e.big_endian w (bytes - l),
        length-drop l (take first unit),
        length-take-le first unit h2,
      )

  module _ (out : List ℕ) where
    abbrev Written : ℕ → List ℕ → Type 0
    Written at out' = (at ≡ header_count e unit first bytes out) × (out' ≡ header_over e unit first bytes out)

    pub header-fits : l ≤ first → first ≤ length unit → first ≤ length out → l ≤ bytes → w ≤ l → bytes - l < 256 ^ w
        → header_fits e unit first bytes out ≡ true
    unfolding header_fits ◌and◌
    header-fits h1 h2 h3 h4 h5 h6 =
        rw (le-leb l first h1, le-leb first (length unit) h2, le-leb first (length out) h3, le-leb l bytes h4, le-leb w l h5, lt-ltb (bytes - l) (256 ^ w) h6)

    -- nothing is written
    header-none : header_fits e unit first bytes out ≡ false → Written 0 out
    unfolding header_count header_over pick
    header-none f = (
      sym (ap (λ (b : Bool). pick b first 0) f),
      sym (ap (λ (b : Bool). pick b (header_bytes e unit first bytes ++ drop first out) out) f),
    )

    -- a header that fits
    header-some : header_fits e unit first bytes out ≡ true → (out' : List ℕ) → out' ≡ header_bytes e unit first bytes ++ drop first out → Written first out'
    unfolding header_count header_over pick
    header-some f out' q = (
      sym (ap (λ (b : Bool). pick b first 0) f),
      q ∙ sym (ap (λ (b : Bool). pick b (header_bytes e unit first bytes ++ drop first out) out) f),
    )

    record Fitting : Type 0 where
      pub length-inside : l ≤ first
      pub in_unit : first ≤ length unit
      pub in-out : first ≤ length out
      pub narrow : w ≤ l

    fitting : header_fits e unit first bytes out ≡ true → Fitting
    unfolding header_fits
    fitting f =
        let f2 = true-second (leb l first) _ f in
        let f3 = true-second (leb first (length unit)) _ f2 in
        let f5 = true-second (leb l bytes) _ (true-second (leb first (length out)) _ f3) in
        record {
          length-inside = leb-true l first (true-first _ _ f);
          in_unit = leb-true first (length unit) (true-first _ _ f2);
          in-out = leb-true first (length out) (true-first _ _ f3);
          narrow = leb-true w l (true-first _ _ f5);
        }

    header-long : Fitting → length (header_bytes e unit first bytes) ≡ first
    header-long k = length-header k.length-inside k.in_unit k.narrow

    pub header-there : header_fits e unit first bytes out ≡ true → (at : ℕ) (out₁ : List ℕ) → at ≡ header_count e unit first bytes out → out₁ ≡ header_over e unit first bytes out
        → (at ≡ first) × (out₁ ≡ put out 0 (header_bytes e unit first bytes))
    unfolding header_count header_over put pick
    header-there f at out₁ p q = (
      p ∙ ap (λ (b : Bool). pick b first 0) f,
      q ∙ ap (λ (b : Bool). pick b (header_bytes e unit first bytes ++ drop first out) out) f
          ∙ ap (λ (m : ℕ). header_bytes e unit first bytes ++ drop m out)
          (let h : first ≡ 0 + length (header_bytes e unit first bytes) = omega (arith, header-long (fitting f)) in h),
    )

    -- never beyond the part
    pub header-inside : (at : ℕ) (out₁ : List ℕ) → at ≡ header_count e unit first bytes out → out₁ ≡ header_over e unit first bytes out → Within out (Ok at) out₁
    unfolding header_count header_over pick
    header-inside at out₁ p q = by-fit (header_fits e unit first bytes out) refl p q
      where
        by-fit : (b : Bool) → header_fits e unit first bytes out ≡ b → at ≡ pick b first 0 → out₁ ≡ pick b (header_bytes e unit first bytes ++ drop first out) out → Within out (Ok at) out₁
        by-fit true f p q =
            let k : Fitting = fitting f in
            let h : first ≤ length out = k.in-out in
            let s : length (header_bytes e unit first bytes ++ drop first out) ≡ length out =
            omega (arith, length-append (header_bytes e unit first bytes) (drop first out), header-long k, length-drop first out) in
            within-to out at out₁ (ap length q ∙ s) (let j : at ≤ length out = omega arith in j)
        by-fit false f p q = within-to out at out₁ (ap length q) (let j : at ≤ length out = omega arith in j)

    pub header-past : length unit < first → Written 0 out
    unfolding header_fits
    header-past h = header-none (and_second (leb l first) _ (and_first _ _ (lt-leb first (length unit) h)))

    pub header-short : length out < first → Written 0 out
    unfolding header_fits
    header-short h = header-none (and_second (leb l first) _ (and_second (leb first (length unit)) _ (and_first _ _ (lt-leb first (length out) h))))

    -- the bytes of the length as they are told
    module _ (n : ℕ) (is : n ≡ l) where
      pub header-low : first < n → Written 0 out
      unfolding header_fits
      header-low h = header-none (and_first _ _ (lt-leb l first (omega arith)))

      pub header-few : bytes < n → Written 0 out
      unfolding header_fits
      header-few h =
          header-none
          (and_second (leb l first) _ (and_second (leb first (length unit)) _ (and_second (leb first (length out)) _ (and_first _ _ (lt-leb l bytes (omega arith))))))

      pub header-large : bytes_fit (bytes - n) w n ≡ false → Written 0 out
      unfolding header_fits
      header-large h =
          header-none
          (and_second (leb l first) _ (and_second (leb first (length unit)) _ (and_second (leb first (length out)) _ (and_second (leb l bytes) _
          (sym (length-fits w (bytes - l)) ∙ ap (λ (m : ℕ). bytes_fit (bytes - m) w m) (sym is) ∙ h)))))

      module _ (h1 : n ≤ first) (h2 : first ≤ length unit) (h3 : first ≤ length out) (h4 : n ≤ bytes) (fit : bytes_fit (bytes - n) w n ≡ true) where
        abbrev number : List ℕ
        number = fixed_bytes e.big_endian w (bytes - n)

        number-inside : w ≤ n
        number-inside = bytes-room (bytes - n) w n fit

        there : header_fits e unit first bytes out ≡ true
        there =
            header-fits (omega arith) h2 h3 (omega arith) (omega (arith, number-inside))
            (subst (λ (m : ℕ). bytes - m < 256 ^ w) is (bytes_low (bytes - n) w n fit))

        module _ (out₁ : List ℕ) (f : out₁ ≡ over (take first unit) out) where
          copied : out₁ ≡ take first unit ++ drop first out
          copied =
              let la : length (take first unit) ≡ first = length-take-le first unit h2 in
              over-room (take first unit) out out₁ f (omega arith) ∙ ap (λ (m : ℕ). take first unit ++ drop m out) la

          long : first ≤ length out₁
          long = omega (arith, ap length copied, length-append (take first unit) (drop first out), length-take-le first unit h2)

          -- the number over the old one
          over-it : put out₁ (n - w) number ≡ (take (n - w) unit ++ number ++ drop n (take first unit)) ++ drop first out
          unfolding put
          over-it =
              let a : List ℕ = take first unit in
              let d : List ℕ = drop first out in
              let la : length a ≡ first = length-take-le first unit h2 in
              let k : n - w + length number ≡ n = omega (arith, length-fixed e.big_endian w (bytes - n), number-inside) in
              ap₂ (λ (z : List ℕ) (m : ℕ). take (n - w) z ++ (number ++ drop m z)) copied k
              ∙ ap₂ (λ (x y : List ℕ). x ++ (number ++ y)) (take-append-le (n - w) a d (omega arith) ∙ take-take (n - w) first unit (omega arith)) (drop-append-le n a d (omega arith))
              ∙ sym (append_assoc (take (n - w) unit ++ number) (drop n a) d ∙ append_assoc (take (n - w) unit) number (drop n a ++ d))

          abbrev part : List ℕ
          part = take (length out₁ - (n - w)) (drop (n - w) out₁)

          -- the header copied, then its length written over
          pub header-put : (answer : Bool) (x : List ℕ) → Put (bytes_fit (bytes - n) w (length part)) number w part part answer x
              → Written first (take (n - w) out₁ ++ (x ++ drop (length out₁ - (n - w)) (drop (n - w) out₁)))
          unfolding header_bytes pick
          header-put answer x did =
              let ln : length number ≡ w = length-fixed e.big_endian w (bytes - n) in
              let room : w ≤ length part = omega (arith, part_length out₁ (n - w), long, number-inside) in
              let q : x ≡ number ++ drop (length number) part =
              did.left ∙ ap (λ (b : Bool). pick b (number ++ drop w part) part) (bytes-else (bytes - n) w n (length part) room fit)
              ∙ ap (λ (m : ℕ). number ++ drop m part) (sym ln) in
              header-some there _
              (put-home out₁ x number (n - w) q ∙ over-it
              ∙ ap (λ (m : ℕ). (take (m - w) unit ++ fixed_bytes e.big_endian w (bytes - m) ++ drop m (take first unit)) ++ drop first out) is)
