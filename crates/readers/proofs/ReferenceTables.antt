-- Tables of numbers: cleared, and filled with references.
use mathlib.Core.Path.{◌≡◌, refl, ap, sym, ◌∙◌}
use Prim.Native.Nat.{ℕ, suc, ◌+◌, ◌*◌, ◌-◌, ◌≤◌, ◌<◌}
use mathlib.Core.List.{List, [], ◌∷◌, ◌++◌, append_assoc}
use native.Mathlib.Omega.{arith}
use lib.ListN.{length, set, length-append, length-set}
use lib.Seq.{set_at, append_snoc}
use Rattle.readers.specs.Choice.{zeros}
use Rattle.readers.specs.Layout.{width}
use Rattle.readers.specs.References.{Named, encoded_by, numbers_of, flat_from, next_reference}
use Rattle.readers.specs.Inner.References.{Room}
use Rattle.readers.specs.declared.cursor.Encoding.{Encoding}
use Rattle.readers.specs.declared.expressions.Reference.{Reference}
use Rattle.std.specs.Prelude.{None, Option, Some}
use Rattle.readers.proofs.Yields.{flat_by, flat-next, next-wide}

-- ---- filling: the references that are written, and those from here on

length-numbers : (rs : List Named) → length (numbers_of rs) ≡ 3 * length rs
unfolding numbers_of
length-numbers [] = refl
length-numbers (r ∷ rs) = let h : length (numbers_of rs) ≡ 3 * length rs = length-numbers rs in let g : suc (suc (suc (length (numbers_of rs)))) ≡ 3 * suc (length rs) = omega arith in g

numbers-append : (rs qs : List Named) → numbers_of (rs ++ qs) ≡ numbers_of rs ++ numbers_of qs
unfolding numbers_of
numbers-append [] qs = refl
numbers-append (r ∷ rs) qs = ap (λ (l : List ℕ). r.0 ∷ r.1 ∷ width r.2 ∷ l) (numbers-append rs qs)

-- three numbers in a row, over three others
three : (p zs : List ℕ) (x y z a b c n : ℕ) → length p ≡ n → set (set (set (p ++ x ∷ y ∷ z ∷ zs) n a) (n + 1) b) (n + 2) c ≡ p ++ a ∷ b ∷ c ∷ zs
three p zs x y z a b c n h =
    let p1 : List ℕ = p ++ (a ∷ []) in
    let p2 : List ℕ = p1 ++ (b ∷ []) in
    let l1 : length p1 ≡ n + 1 = length-append p (a ∷ []) ∙ ap (λ m. m + 1) h in
    let l2 : length p2 ≡ n + 2 = length-append p1 (b ∷ []) ∙ (let g : length p1 + 1 ≡ n + 2 = omega arith in g) in
    ap (λ l. set (set l (n + 1) b) (n + 2) c) (set_at p x (y ∷ z ∷ zs) a n h ∙ sym (append_snoc p a (y ∷ z ∷ zs)))
    ∙ ap (λ l. set l (n + 2) c) (set_at p1 y (z ∷ zs) b (n + 1) l1 ∙ sym (append_snoc p1 b (z ∷ zs)))
    ∙ set_at p2 z zs c (n + 2) l2
    ∙ append_snoc p1 b (c ∷ zs)
    ∙ append_snoc p a (b ∷ c ∷ zs)

pub record Filling (e : Encoding) (s table₀ : List ℕ) (count : ℕ) (table : List ℕ) (at i : ℕ) : Type 0 where
  pub written : List Named
  pub amount : length written ≡ i
  pub most : i ≤ count
  pub size : length table ≡ length table₀
  pub fits : 3 * count ≤ length table
  pub sum : length (flat_from e s 0) ≡ count
  pub whole : flat_from e s 0 ≡ written ++ flat_from e s at
  pub table_is : table ≡ numbers_of written ++ zeros (length table₀ - 3 * i)

module _ (e : Encoding) (s table₀ : List ℕ) (count : ℕ) where
  pub fill_start : Room (flat_from e s 0) table₀ count → Filling e s table₀ count table₀ 0 0
  unfolding numbers_of
  fill_start h =
      record {
        written = [];
        amount = refl;
        most = omega arith;
        size = refl;
        fits = h.fits;
        sum = h.count;
        whole = refl;
        table_is = h.cleared ∙ ap zeros (let k : length table₀ ≡ length table₀ - 3 * 0 = omega arith in k);
      }

  module _ (table : List ℕ) (at i : ℕ) (f : Filling e s table₀ count table at i) where
    left_over : length (flat_from e s at) ≡ count - i
    left_over =
        let k : length (flat_from e s 0) ≡ length f.written + length (flat_from e s at) = ap length f.whole ∙ length-append f.written (flat_from e s at) in
        let a : length f.written ≡ i = f.amount in
        let b : length (flat_from e s 0) ≡ count = f.sum in
        omega arith

    -- before that there is one more
    pub fill-never : i < count → (y : Option Reference) → y ≡ next_reference e s at → y ≡ None → ⊥
    unfolding flat_by
    fill-never l y q p =
        let none_left : flat_from e s at ≡ [] = flat-next e s at ∙ ap (flat_by e s) (sym q ∙ p) in
        let z : length (flat_from e s at) ≡ 0 = ap length none_left in
        omega (arith, left_over)

    pub fill_more : i < count → (y : Option Reference) (r : Reference) → y ≡ next_reference e s at → y ≡ Some r
        → Filling e s table₀ count (set (set (set table (3 * i) r.place) (3 * i + 1) r.target.0) (3 * i + 2) r.width) r.next.at (i + 1)
    unfolding flat_by numbers_of
    fill_more l y r q p =
        let a : length f.written ≡ i = f.amount in
        let t : length table ≡ length table₀ = f.size in
        let fit : 3 * count ≤ length table = f.fits in
        let one : Named = (r.place, r.target.0, encoded_by r.leb r.width) in
        let wide : width (encoded_by r.leb r.width) ≡ r.width = next-wide e s at r (sym q ∙ p) in
        let k : ℕ = length table₀ - 3 * (i + 1) in
        let z : length table₀ - 3 * i ≡ suc (suc (suc k)) = omega arith in
        let parts : table ≡ numbers_of f.written ++ (0 ∷ 0 ∷ 0 ∷ zeros k) = f.table_is ∙ ap (λ m. numbers_of f.written ++ zeros m) z in
        let ln : length (numbers_of f.written) ≡ 3 * i = length-numbers f.written ∙ ap (λ m. 3 * m) a in
        let same : length (set (set (set table (3 * i) r.place) (3 * i + 1) r.target.0) (3 * i + 2) r.width) ≡ length table = simp length-set in
        record {
          written = f.written ++ (one ∷ []);
          amount = length-append f.written (one ∷ []) ∙ ap (λ m. m + 1) a;
          most = omega arith;
          size = same ∙ t;
          fits = omega arith;
          sum = f.sum;
          whole = f.whole ∙ ap (λ x. f.written ++ x) (flat-next e s at ∙ ap (flat_by e s) (sym q ∙ p)) ∙ sym (append_snoc f.written one (flat_from e s r.next.at));
          table_is =
              ap (λ x. set (set (set x (3 * i) r.place) (3 * i + 1) r.target.0) (3 * i + 2) r.width) parts
              ∙ three (numbers_of f.written) (zeros k) 0 0 0 r.place r.target.0 r.width (3 * i) ln
              ∙ ap (λ n. numbers_of f.written ++ (r.place ∷ r.target.0 ∷ n ∷ zeros k)) (sym wide)
              ∙ sym (ap (λ x. x ++ zeros k) (numbers-append f.written (one ∷ [])) ∙ append_assoc (numbers_of f.written) (r.place ∷ r.target.0 ∷ width (encoded_by r.leb r.width) ∷ []) (zeros k));
        }
