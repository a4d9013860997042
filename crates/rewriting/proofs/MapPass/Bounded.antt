-- The search for a sibling's place by a table of bounds, and how the table is filled. Assumes nothing.
use Prim.Native.Nat.{ℕ, zero, suc, ◌+◌, ◌-◌, ◌*◌, ◌/◌, ◌≤◌, ◌<◌}
use mathlib.Core.Path.{◌≡◌, ap, sym, ◌∙◌, subst}
use mathlib.Core.List.{List}
use mathlib.Core.Logic.{⊎_elim}
use Rattle.std.specs.Prelude.{None, Some}
use native.Mathlib.Omega.{arith}
use lib.ListN.{length, get_or, drop, drop_of_length-le}
use lib.Dec.{ltb}
use mir.Facts.{ltb_yes, ltb_no}
use Rattle.readers.proofs.Choice.{either}
use Rattle.rewriting.specs.Ascending.{Ascending}
use Rattle.rewriting.specs.Indices.{rank_in}
use Rattle.rewriting.specs.Places.{Place, new_of, first_from, or_else, sibling_of, old_offsets}
use Rattle.rewriting.specs.Written.{number_size, place_size, number_at}
use Rattle.rewriting.specs.Inner.Written.{MapHeld, as_mapped}
use Rattle.rewriting.specs.Inner.Bounds.{AsDeep, BoundsFrom, Bounds}
use Rattle.readers.specs.declared.offsets.UnitOffset.{UnitOffset}
use Rattle.rewriting.proofs.ListPass.Ranks.{rank-above}
use Rattle.rewriting.proofs.MapPass.Places.{nowhere, length-olds, old_of, depth-held, new-held, first-skip, first-here, first_on}

-- ---- a block that is deeper than so

-- ---- from a place on

module _ (ps : List Place) (depth v : ℕ) (f : Ascending (old_offsets ps)) (i : ℕ) (r : rank_in (old_offsets ps) v ≤ i) where
  at_or_after : (j : ℕ) → i ≤ j → j < length ps → v ≤ (get_or ps j nowhere).old
  at_or_after j a l =
      ⊎_elim
      (λ t. let b : j < rank_in (old_offsets ps) v = rank-above (old_offsets ps) v j f (omega (arith, length-olds ps)) (omega (arith, old_of ps j, ltb_yes {a = (get_or ps j nowhere).old} {b = v} t)) in
      absurd (omega arith))
      (λ t. ltb_no {a = (get_or ps j nowhere).old} {b = v} t)
      (either (ltb (get_or ps j nowhere).old v))

  first_past : (n : ℕ) → AsDeep ps (depth + 1) i (i + n) → first_from (drop i ps) depth v ≡ first_from (drop (i + n) ps) depth v
  first_past zero d = ap (λ m. first_from (drop m ps) depth v) (let e : i ≡ i + 0 = omega arith in e)
  first_past (suc n) d =
      first_past n (record { deep = λ j a b l. d.deep j a (omega arith) l })
      ∙ ⊎_elim
      (λ t. let l : i + n < length ps = ltb_yes {a = i + n} {b = length ps} t in
      let k : depth + 1 ≤ (get_or ps (i + n) nowhere).depth = d.deep (i + n) (omega arith) (omega arith) l in
      first_on ps depth v (i + n) l (at_or_after (i + n) (omega arith) l) (omega arith)
      ∙ ap (λ m. first_from (drop m ps) depth v) (let e : i + n + 1 ≡ i + suc n = omega arith in e))
      (λ t. let l : length ps ≤ i + n = ltb_no {a = i + n} {b = length ps} t in
      ap (λ x. first_from x depth v) (drop_of_length-le ps {i = i + n} l ∙ sym (drop_of_length-le ps {i = i + suc n} (omega arith))))
      (either (ltb (i + n) (length ps)))

-- ---- the search: what the answer is, from a place on

pub record Seeking (map : List ℕ) (places : ℕ) (bounds : List ℕ) (old depth i : ℕ) : Type 0 where
  pub seek : (ps : List Place) → MapHeld ps map → places ≡ length ps → Bounds ps bounds → (sibling_of ps depth old ≡ first_from (drop i ps) depth old) × (rank_in (old_offsets ps) old ≤ i)

-- no place has the old offset, and these many are before it
abbrev pub Unfound : List ℕ → ℕ → ℕ → ℕ → Type 0
Unfound map places old i = (ps : List Place) → MapHeld ps map → places ≡ length ps → (new_of ps old ≡ None) × (i ≡ rank_in (old_offsets ps) old)

pub seeking-start : (map : List ℕ) (places : ℕ) (bounds : List ℕ) (old depth i : ℕ) → Unfound map places old i → Seeking map places bounds old depth i
unfolding sibling_of or_else
seeking-start map places bounds old depth i f =
    record {
      seek = λ ps h e b.
          let q : new_of ps old ≡ None = (f ps h e).0 in
          let r : i ≡ rank_in (old_offsets ps) old = (f ps h e).1 in
          (rw (q, r) (first-skip ps depth old), omega arith);
    }

module _ (map : List ℕ) (places : ℕ) (bounds : List ℕ) (old depth i : ℕ) (p : Seeking map places bounds old depth i) where
  -- over a block
  pub seeking-skip : (past : ℕ) → ((ps : List Place) → Bounds ps bounds → AsDeep ps (depth + 1) i past) → i < past → Seeking map places bounds old depth past
  seeking-skip past d l =
      record {
        seek = λ ps h e b.
            let r : rank_in (old_offsets ps) old ≤ i = (p.seek ps h e b).1 in
            let q : i + (past - i) ≡ past = omega arith in (
              (p.seek ps h e b).0
                  ∙ first_past ps depth old h.ascending i r (past - i) (subst (AsDeep ps (depth + 1) i) (sym q) (d ps b))
                  ∙ ap (λ n. first_from (drop n ps) depth old) q,
              omega arith,
            );
      }

  module _ (d : ℕ) (l : i < places) (is-depth : i < length map / place_size → d ≡ number_at number_size map (place_size * i + 2 * number_size)) where
    pub seeking-here : (n : UnitOffset) → d ≤ depth → (i < length map / place_size → n.0 ≡ number_at number_size map (place_size * i + number_size)) → (ps : List Place) → MapHeld ps map → places ≡ length ps → Bounds ps bounds
        → Some n ≡ as_mapped (sibling_of ps depth old)
    unfolding as_mapped
    seeking-here n b f ps h e w =
        let k : d ≡ (get_or ps i nowhere).depth = depth-held ps map h i (omega arith) d is-depth in
        let q : sibling_of ps depth old ≡ Some n.0 =
        (p.seek ps h e w).0 ∙ first-here ps depth old i (omega arith) (at_or_after ps depth old h.ascending i (p.seek ps h e w).1 i (omega arith) (omega arith)) (omega arith)
        ∙ ap (λ x. Some x) (sym (new-held ps map h i (omega arith) n.0 f)) in
        rw q

    pub seeking-more : depth < d → Seeking map places bounds old depth (i + 1)
    seeking-more b =
        record {
          seek = λ ps h e w.
              let k : d ≡ (get_or ps i nowhere).depth = depth-held ps map h i (omega arith) d is-depth in
              let r : rank_in (old_offsets ps) old ≤ i = (p.seek ps h e w).1 in
              ((p.seek ps h e w).0 ∙ first_on ps depth old i (omega arith) (at_or_after ps depth old h.ascending i r i (omega arith) (omega arith)) (omega arith), omega arith);
        }

  pub seeking-done : places ≤ i → (ps : List Place) → MapHeld ps map → places ≡ length ps → Bounds ps bounds → None ≡ as_mapped (sibling_of ps depth old)
  unfolding as_mapped first_from
  seeking-done l ps h e w =
      let q : sibling_of ps depth old ≡ None = (p.seek ps h e w).0 ∙ ap (λ x. first_from x depth old) (drop_of_length-le ps {i = i} (omega arith)) in rw q

-- ---- the least depth of some places

pub record Least (map : List ℕ) (places from i least : ℕ) : Type 0 where
  pub fits : least < 4294967296
  pub deep : (ps : List Place) → MapHeld ps map → places ≡ length ps → AsDeep ps least from i

pub least_more : (map : List ℕ) (places from i least d r : ℕ) → Least map places from i least → i < places → (i < length map / place_size → d ≡ number_at number_size map (place_size * i + 2 * number_size)) → r ≤ least → r ≤ d
    → Least map places from (i + 1) r
least_more map places from i least d r p l is-depth a b =
    record {
      fits = let f : least < 4294967296 = p.fits in omega arith;
      deep = λ ps h e.
          record {
            deep = λ j from-j to_j within.
                ⊎_elim
                (λ t. let o : least ≤ (get_or ps j nowhere).depth = (p.deep ps h e).deep j from-j (ltb_yes {a = j} {b = i} t) within in omega arith)
                (λ t.
                let o : i ≤ j = ltb_no {a = j} {b = i} t in
                let s : i ≡ j = omega arith in
                let k : d ≡ (get_or ps i nowhere).depth = depth-held ps map h i (omega arith) d is-depth in
                let y : d ≡ (get_or ps j nowhere).depth = k ∙ ap (λ n. (get_or ps n nowhere).depth) s in omega arith)
                (either (ltb j i));
          };
    }

-- ---- the loop that fills the table

pub record Filling (map : List ℕ) (places : ℕ) (bounds₀ bounds : List ℕ) (k : ℕ) : Type 0 where
  pub size : length bounds ≡ length bounds₀
  pub room : k ≤ length bounds₀ / 2
  pub blocks : (ps : List Place) → MapHeld ps map → places ≡ length ps → BoundsFrom k ps bounds
