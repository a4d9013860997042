-- The map is filled while the items are measured: the places that are put, and those from here on, are all of them. Assumes nothing.
use mathlib.Core.Path.{◌≡◌, refl, ap, ap₂, sym, ◌∙◌, subst}
use Prim.Native.Nat.{ℕ, suc, ◌+◌, ◌*◌, ◌-◌, ◌/◌, ◌≤◌, ◌<◌}
use native.Mathlib.Omega.{arith}
use mathlib.Core.List.{List, [], ◌∷◌, ◌++◌, append_assoc, append-nil}
use lib.ListN.{length, length-append}
use Rattle.readers.specs.Choice.{zeros}
use Rattle.readers.specs.Nesting.{nesting_of}
use Rattle.readers.specs.Stream.{Item}
use Rattle.readers.specs.declared.entries.Nesting.{Nesting}
use Rattle.rewriting.specs.Places.{NestedItem, Place, size_of, places_from}
use Rattle.rewriting.specs.Written.{number_size, place_size, run_bytes, columns, map_bytes}
use Rattle.rewriting.specs.Inner.Written.{NumbersHeld, place, with_place}
use Rattle.rewriting.proofs.MapPass.Places.{length-columns}
use Rattle.rewriting.specs.Inner.NextKept.{Stood, kept_at, Answers}
use Rattle.rewriting.specs.Inner.Measures.{ColumnsHeld, kept_of_unit}
use Rattle.rewriting.specs.Inner.MapFilled.{Fills}
use Rattle.rewriting.specs.declared.kept_items.PassPosition.{PassPosition}
use Rattle.rewriting.specs.declared.kept_items.KeptItem.{KeptItem}
use Rattle.std.specs.Prelude.{None, Option, Some}
use Rattle.marking.proofs.Members.{nothing-in}
use Rattle.rewriting.proofs.KeptPass.KeptSteps.{stand}
use Rattle.rewriting.proofs.KeptPass.KeptPasses.{shown-size, shown-offset, next-forward, next-item, next-end, stood-start, kept-start, Measuring, measuring-start, measuring-more}

-- ---- places and their columns

pub length-places : (n : ℕ) (kept : List NestedItem) → length (places_from n kept) ≡ length kept
unfolding places_from
length-places n [] = refl
length-places n (s ∷ kept) = ap suc (length-places (n + size_of s.item) kept)

held_none : (bytes : List ℕ) → bytes ≡ zeros (length bytes) → NumbersHeld number_size (columns []) bytes
unfolding columns run_bytes
held_none bytes h =
    record {
      are = h ∙ ap zeros (let z : length bytes ≡ length bytes - number_size * 0 = omega arith in z);
      room = (let z : number_size * 0 ≤ length bytes = omega arith in z);
      small = λ v m. absurd (nothing-in v m);
    }

held_bytes : (ps : List Place) (n : ℕ) (bytes : List ℕ) → NumbersHeld number_size (columns ps) bytes → length ps ≡ n → bytes ≡ map_bytes ps ++ zeros (length bytes - place_size * n)
unfolding map_bytes
held_bytes ps n bytes h l =
    let c : length (columns ps) ≡ 3 * length ps = length-columns ps in
    h.are ∙ ap (λ (k : ℕ). run_bytes number_size (columns ps) ++ zeros k) (let z : length bytes - number_size * length (columns ps) ≡ length bytes - place_size * n = omega arith in z)

-- ---- the loop

-- what a place more does to a map
abbrev pub Puts : List ℕ → ℕ → ℕ → ℕ → ℕ → List ℕ → Type 0
Puts map i old new depth map' =
    (ps : List Place) → NumbersHeld number_size (columns ps) map → i ≡ length ps → i < length map / place_size
    → NumbersHeld number_size (columns (with_place ps (place old new depth))) map'

module _ (items : ℕ → List Item) (parents ends marks unit : List ℕ) (first : ℕ) (map₀ : List ℕ) where
  pub record Filled (map : List ℕ) (s : PassPosition) (i new : ℕ) : Type 0 where
    pub stack : List ℕ
    pub stood : Stood items parents ends s stack
    pub done : List Place
    pub held : NumbersHeld number_size (columns done) map
    pub counted : i ≡ length done
    pub many : length (kept_of_unit items marks first) ≡ i + length (kept_at items parents ends marks s stack)
    pub whole : places_from first (kept_of_unit items marks first) ≡ done ++ places_from new (kept_at items parents ends marks s stack)

  -- measured up to here, and filled so far
  pub record Placing (map : List ℕ) (s : PassPosition) (i new : ℕ) : Type 0 where
    pub measuring : Measuring items parents ends marks unit first s i new
    pub same : length map ≡ length map₀
    pub filled : ColumnsHeld items parents ends first → place_size * length (kept_of_unit items marks first) ≤ length map₀ → map₀ ≡ zeros (length map₀)
        → Filled map s i new

  pub placing-start : (n : Nesting) → n ≡ nesting_of [] → Placing map₀ (stand first 0 n) 0 first
  placing-start n m =
      record {
        measuring = measuring-start items parents ends marks unit first n m;
        same = refl;
        filled = λ h r z.
            let k : kept_of_unit items marks first ≡ kept_at items parents ends marks (stand first 0 n) [] = kept-start items parents ends marks unit first n in
            let l : length (kept_of_unit items marks first) ≡ length (kept_at items parents ends marks (stand first 0 n) []) = ap length k in
            record {
              stack = [];
              stood = stood-start items parents ends marks unit first n m h;
              done = [];
              held = held_none map₀ z;
              counted = refl;
              many = omega arith;
              whole = ap (places_from first) k;
            };
      }

  module _ (map : List ℕ) (s : PassPosition) (i new : ℕ) (f : Placing map s i new) where
    module _ (r : Option KeptItem) (a : Answers items parents ends marks unit s r) where
      end-held : r ≡ None → ColumnsHeld items parents ends first → place_size * length (kept_of_unit items marks first) ≤ length map₀ → map₀ ≡ zeros (length map₀)
          → NumbersHeld number_size (columns (places_from first (kept_of_unit items marks first))) map
      unfolding places_from
      end-held q h m z =
          let d = f.filled h m z in
          let e : kept_at items parents ends marks s d.stack ≡ [] = next-end items parents ends marks unit s r a q d.stack d.stood in
          subst (λ (ps : List Place). NumbersHeld number_size (columns ps) map)
          (sym (d.whole ∙ ap (λ (k : List NestedItem). d.done ++ places_from new k) e ∙ append-nil d.done))
          d.held

      pub placing-end : r ≡ None → Fills items unit parents ends marks first map₀ map
      placing-end q =
          record {
            holds = λ h m z. end-held q h m z;
            bytes = λ h m z.
                held_bytes _ _ map (end-held q h m z) (length-places first (kept_of_unit items marks first))
                ∙ ap (λ (n : ℕ). map_bytes (places_from first (kept_of_unit items marks first)) ++ zeros (n - place_size * length (kept_of_unit items marks first))) f.same;
          }

      module _ (x : KeptItem) (q : r ≡ Some x) where
        pub placing-more : (map' : List ℕ) → length map' ≡ length map → Puts map i x.start.0 new x.depth map' → Placing map' x.next (i + 1) (new + (x.end.at - x.start.0))
        unfolding places_from
        placing-more map' l p =
            let g = next-forward items parents ends marks unit s r a x q in
            let g0 : s.at.at ≤ x.start.0 = g.0 in
            let g1 : x.start.0 < x.end.at = g.1 in
            let g2 : x.end.at ≤ length unit = g.2 in
            let g3 : x.next.at.at ≡ x.end.at = g.3 in
            record {
              measuring = measuring-more items parents ends marks unit first s i new f.measuring r a x q;
              same = l ∙ f.same;
              filled = λ h m z.
                  let d = f.filled h m z in
                  let y = next-item items parents ends marks unit s r a x q d.stack d.stood in
                  let k : length (kept_at items parents ends marks s d.stack) ≡ suc (length (kept_at items parents ends marks x.next y.after)) = ap length y.whole in
                  let w : i < length map / place_size = omega (arith, d.many, f.same) in
                  record {
                    stack = y.after;
                    stood = y.stood;
                    done = with_place d.done (place x.start.0 new x.depth);
                    held = p d.done d.held d.counted w;
                    counted = (let e : length (d.done ++ (place x.start.0 new x.depth ∷ [])) ≡ length d.done + 1 = length-append d.done (place x.start.0 new x.depth ∷ []) in omega (arith, d.counted));
                    many = omega (arith, d.many);
                    whole =
                        d.whole
                        ∙ ap (λ (k : List NestedItem). d.done ++ places_from new k) y.whole
                        ∙ ap₂ (λ (p : Place) (n : ℕ). d.done ++ (p ∷ places_from n (kept_at items parents ends marks x.next y.after)))
                        (ap₂ (λ (o v : ℕ). place o new v) (shown-offset x y.standing.item y.shows) (sym y.deep))
                        (ap (λ (n : ℕ). new + n) (shown-size x y.standing.item y.shows))
                        ∙ sym (append_assoc d.done (place x.start.0 new x.depth ∷ []) (places_from (new + (x.end.at - x.start.0)) (kept_at items parents ends marks x.next y.after)));
                  };
            }
