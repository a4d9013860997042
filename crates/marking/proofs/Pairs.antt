-- The pairs of references, as they are written one after the other. Assumes nothing.
use mathlib.Core.Path.{◌≡◌, refl, ap, sym, ◌∙◌, subst}
use Prim.Native.Nat.{ℕ, suc, ◌+◌, ◌*◌, ◌≤◌, ◌<◌}
use native.Mathlib.Omega.{arith}
use mathlib.Core.List.{List, [], ◌∷◌, ◌++◌, append_assoc, append-nil}
use Rattle.std.specs.Prelude.{None, Option, Some}
use lib.ListN.{length, get_or, take, drop, set, length-append, length-drop, length-set, take-append-drop}
use lib.Seq.{length-take-le, take-length, take-suc, drop-cons, set_at, append_snoc}
use Rattle.readers.specs.declared.offsets.EntryIndex.{EntryIndex}
use Rattle.readers.specs.Choice.{put}
use Rattle.marking.specs.Resolution.{entry_from, pair_for, pairs_of_entry}
use Rattle.marking.specs.Inner.Resolution.{as_entry, ResolveInput}

-- ---- numbers put in place of others

module _ (xs : List ℕ) (n : ℕ) where
  pub put-nil : put xs n [] ≡ xs
  unfolding put
  put-nil = ap (λ (k : ℕ). take n xs ++ drop k xs) (let z : n + 0 ≡ n = omega arith in z) ∙ take-append-drop n xs

  pub length-put : (ys : List ℕ) → n + length ys ≤ length xs → length (put xs n ys) ≡ length xs
  unfolding put
  length-put ys h =
      let a = length-append (take n xs) (ys ++ drop (n + length ys) xs) in
      let b = length-append ys (drop (n + length ys) xs) in
      let c = length-take-le n xs (omega arith) in
      let d = length-drop (n + length ys) xs in
      omega (arith, a, b, c, d)

  -- two more
  pub put_two : (ys : List ℕ) (a b m : ℕ) → m ≡ n + length ys → m + 2 ≤ length xs
      → set (set (put xs n ys) m a) (m + 1) b ≡ put xs n (ys ++ (a ∷ b ∷ []))
  unfolding put
  put_two ys a b m e l =
      let p : List ℕ = take n xs ++ ys in
      let x : ℕ = get_or xs m 0 in
      let y : ℕ = get_or xs (suc m) 0 in
      let zs : List ℕ = drop (suc (suc m)) xs in
      let t : length (take n xs) ≡ n = length-take-le n xs (omega arith) in
      let lp : length p ≡ m = omega (arith, length-append (take n xs) ys) in
      let lp1 : length (p ++ (a ∷ [])) ≡ m + 1 = length-append p (a ∷ []) ∙ ap (λ (k : ℕ). k + 1) lp in
      let d : drop (n + length ys) xs ≡ x ∷ y ∷ zs =
      ap (λ (k : ℕ). drop k xs) (sym e) ∙ drop-cons xs m 0 (omega arith) ∙ ap (λ (r : List ℕ). x ∷ r) (drop-cons xs (suc m) 0 (omega arith)) in
      let z : suc (suc m) ≡ n + length (ys ++ (a ∷ b ∷ [])) = (let g : length (ys ++ (a ∷ b ∷ [])) ≡ length ys + 2 = length-append ys (a ∷ b ∷ []) in omega arith) in
      ap (λ (r : List ℕ). set (set (take n xs ++ (ys ++ r)) m a) (m + 1) b) d
      ∙ ap (λ (r : List ℕ). set (set r m a) (m + 1) b) (sym (append_assoc (take n xs) ys (x ∷ y ∷ zs)))
      ∙ ap (λ (r : List ℕ). set r (m + 1) b) (set_at p x (y ∷ zs) a m lp ∙ sym (append_snoc p a (y ∷ zs)))
      ∙ set_at (p ++ (a ∷ [])) y zs b (m + 1) lp1
      ∙ append_snoc p a (b ∷ zs)
      ∙ append_assoc (take n xs) ys (a ∷ b ∷ zs)
      ∙ ap (λ (r : List ℕ). take n xs ++ r) (sym (append_assoc ys (a ∷ b ∷ []) zs))
      ∙ ap (λ (k : ℕ). take n xs ++ ((ys ++ (a ∷ b ∷ [])) ++ drop k xs)) z

-- ---- the pairs of one entry

pairs-append : (os : List ℕ) (i : ℕ) (xs ys : List ℕ) → pairs_of_entry os i (xs ++ ys) ≡ pairs_of_entry os i xs ++ pairs_of_entry os i ys
unfolding pairs_of_entry
pairs-append os i [] ys = refl
pairs-append os i (x ∷ xs) ys =
    ap (λ (l : List ℕ). pair_for i (entry_from 0 os x) ++ l) (pairs-append os i xs ys)
    ∙ sym (append_assoc (pair_for i (entry_from 0 os x)) (pairs_of_entry os i xs) (pairs_of_entry os i ys))

one-pair : (os : List ℕ) (i t : ℕ) → pairs_of_entry os i (t ∷ []) ≡ pair_for i (entry_from 0 os t)
unfolding pairs_of_entry
one-pair os i t = append-nil (pair_for i (entry_from 0 os t))

pair-few : (i : ℕ) (o : Option ℕ) → length (pair_for i o) ≤ 2
unfolding pair_for
pair-few i None = omega arith
pair-few i (Some t) = omega arith

pub pairs-few : (os : List ℕ) (i : ℕ) (ts : List ℕ) → length (pairs_of_entry os i ts) ≤ 2 * length ts
unfolding pairs_of_entry
pairs-few os i [] = omega arith
pairs-few os i (t ∷ ts) =
    let a = length-append (pair_for i (entry_from 0 os t)) (pairs_of_entry os i ts) in
    omega (arith, a, pair-few i (entry_from 0 os t), pairs-few os i ts)

entry-is : (o : Option ℕ) (x : EntryIndex) → Some x ≡ as_entry o → o ≡ Some x.0
unfolding as_entry
entry-is None x q = let z : ◌≡◌ {A = ℕ} 0 1 = cc in absurd (omega arith)
entry-is (Some t) x q = let z : x ≡ record { 0 = t } = cc in ap (λ (y : EntryIndex). Some y.0) (sym z)

none_is : (o : Option ℕ) → None ≡ as_entry o → o ≡ None
unfolding as_entry
none_is None q = refl
none_is (Some t) q = let z : ◌≡◌ {A = ℕ} 0 1 = cc in absurd (omega arith)

module _ (offsets names : List ℕ) (holder : ℕ) (pairs₀ : List ℕ) (at : ℕ) where
  -- those of the references before j
  abbrev made : ℕ → List ℕ
  made j = pairs_of_entry offsets holder (take j names)

  pub record Pairing (pairs : List ℕ) (place j : ℕ) : Type 0 where
    pub ready : ResolveInput offsets (length offsets) names 0 (length names) pairs₀ at
    pub most : place ≤ at + j
    pub count : 2 * place ≡ 2 * at + length (made j)
    pub filled : pairs ≡ put pairs₀ (2 * at) (made j)
    pub size : length pairs ≡ length pairs₀

  made_none : made 0 ≡ []
  unfolding pairs_of_entry
  made_none = refl

  made_more : (j : ℕ) → j < length names → made (j + 1) ≡ made j ++ pair_for holder (entry_from 0 offsets (get_or names j 0))
  made_more j h =
      ap (λ (m : ℕ). pairs_of_entry offsets holder (take m names)) (let z : j + 1 ≡ suc j = omega arith in z)
      ∙ ap (pairs_of_entry offsets holder) (take-suc names j 0 h)
      ∙ pairs-append offsets holder (take j names) (get_or names j 0 ∷ [])
      ∙ ap (λ (r : List ℕ). made j ++ r) (one-pair offsets holder (get_or names j 0))

  pub pairing-start : ResolveInput offsets (length offsets) names 0 (length names) pairs₀ at → Pairing pairs₀ at 0
  pairing-start r = record {
    ready = r;
    most = omega arith;
    count = (let l : length (made 0) ≡ 0 = ap length made_none in omega arith);
    filled = sym (ap (put pairs₀ (2 * at)) made_none ∙ put-nil pairs₀ (2 * at));
    size = refl;
  }

  pub pairing-as : (pairs pairs' : List ℕ) (place place' j : ℕ) → pairs ≡ pairs' → place ≡ place' → Pairing pairs' place' j → Pairing pairs place j
  pairing-as pairs pairs' place place' j e e' p =
      subst (λ (l : List ℕ). Pairing l place j) (sym e) (subst (λ (k : ℕ). Pairing pairs' k j) (sym e') p)

  module _ (pairs : List ℕ) (place j : ℕ) (p : Pairing pairs place j) where
    pub pairing-end : j ≤ length names → length names ≤ j
        → (2 * place ≡ 2 * at + length (pairs_of_entry offsets holder names)) × (pairs ≡ put pairs₀ (2 * at) (pairs_of_entry offsets holder names))
    pairing-end h l =
        let e : made j ≡ pairs_of_entry offsets holder names =
        ap (λ (k : ℕ). pairs_of_entry offsets holder (take k names)) (let z : j ≡ length names = omega arith in z)
        ∙ ap (pairs_of_entry offsets holder) (take-length names) in
        (p.count ∙ ap (λ (m : List ℕ). 2 * at + length m) e, p.filled ∙ ap (put pairs₀ (2 * at)) e)

    -- room for one more
    pub pairing-room : j < length names → 2 * place + 2 ≤ length pairs
    pairing-room h = omega (arith, p.most, p.size, p.ready.room)

    module _ (h : j < length names) (r : Option EntryIndex) (q : r ≡ as_entry (entry_from 0 offsets (get_or names j 0))) where
      pub pairing-none : r ≡ None → Pairing pairs place (j + 1)
      unfolding pair_for
      pairing-none k =
          let same : made (j + 1) ≡ made j =
          made_more j h ∙ ap (λ (o : Option ℕ). made j ++ pair_for holder o) (none_is _ (sym k ∙ q)) ∙ append-nil (made j) in
          record {
            ready = p.ready;
            most = omega (arith, p.most);
            count = p.count ∙ ap (λ (l : List ℕ). 2 * at + length l) (sym same);
            filled = p.filled ∙ ap (put pairs₀ (2 * at)) (sym same);
            size = p.size;
          }

      pub pairing-more : (x : EntryIndex) → r ≡ Some x → Pairing (set (set pairs (2 * place) holder) (2 * place + 1) x.0) (place + 1) (j + 1)
      unfolding pair_for
      pairing-more x k =
          let more : made (j + 1) ≡ made j ++ (holder ∷ x.0 ∷ []) =
          made_more j h ∙ ap (λ (o : Option ℕ). made j ++ pair_for holder o) (entry-is _ x (sym k ∙ q)) in
          let l : length (made (j + 1)) ≡ length (made j) + 2 = ap length more ∙ length-append (made j) (holder ∷ x.0 ∷ []) in
          let fits : 2 * place + 2 ≤ length pairs₀ = omega (arith, pairing-room h, p.size) in
          record {
            ready = p.ready;
            most = omega (arith, p.most);
            count = omega (arith, p.count);
            filled =
                ap (λ (s : List ℕ). set (set s (2 * place) holder) (2 * place + 1) x.0) p.filled
                ∙ put_two pairs₀ (2 * at) (made j) holder x.0 (2 * place) p.count fits
                ∙ ap (put pairs₀ (2 * at)) (sym more);
            size = length-set (set pairs (2 * place) holder) (2 * place + 1) x.0 ∙ length-set pairs (2 * place) holder ∙ p.size;
          }
