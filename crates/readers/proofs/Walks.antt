-- The walk of a whole expression, step by step (specs/References.antt, walk_of).
use mathlib.Core.Path.{◌≡◌, refl, ap, ap₂, sym, ◌∙◌, subst}
use Prim.Native.Nat.{ℕ, zero, suc, ◌+◌, ◌-◌, ◌≤◌, ◌<◌}
use mathlib.Core.Bool.{Bool, true, false, not}
use mathlib.Core.Logic.{⊎_elim}
use Rattle.std.specs.Prelude.{None, Option, Some}
use Rattle.std.proofs.lemmas.Option.{some_pair_parts}
use Rattle.readers.specs.declared.expressions.Reference.{Reference}
use mathlib.Core.List.{List, [], ◌∷◌, ◌++◌}
use native.Mathlib.Omega.{arith}
use lib.ListN.{length, take, drop, length-append, length-drop, drop_of_length-le}
use lib.Seq.{drop-drop, length-take-le}
use lib.Dec.{T, eqb}
use mir.Facts.{eqb_yes, yes_eqb, no_ltb, no_leb, no_eqb}
use Rattle.readers.specs.Choice.{pick, bind, ◌or◌}
use Rattle.readers.proofs.Choice.{pick_no, either, bind-none, All, all-some, all_none, all-bind, took-length}
use Rattle.readers.specs.Layout.{Piece, bytes_of}
use Rattle.readers.specs.Operations.{operation}
use Rattle.readers.specs.Expression.{expression_in}
use Rattle.readers.proofs.Expression.{expression-none, expression-more}
use Rattle.readers.specs.Fields.{part_of}
use Rattle.readers.specs.Steps.{operation_at}
use Rattle.readers.specs.References.{names_in, any_absolute, as_walk, walk_of, reference_of, names_of}
use Rattle.readers.specs.Inner.References.{own_walk, counted}
use Rattle.readers.specs.declared.cursor.Encoding.{Encoding}
use Rattle.readers.specs.declared.operations.Operation.{Operation}
use Rattle.readers.proofs.OperationReads.{OperationHeld, Cases, cases, span, rest-is, past, held-inside, operation-held, operation-none, operation-inside}
use Rattle.readers.proofs.OperationPieces.{names-append, same_count, absolute-append, or_assoc}
use Rattle.readers.proofs.Deep.{own, own-names, own-absolute, deep-plain, lead, inner, deep-entry, lead-names, lead-absolute, inner-size, inner-is, unreadable}

-- what a walk found: so many references, and whether one names something by an offset in the section
abbrev pub walked : ℕ → Bool → Option (ℕ × Bool)
walked n b = Some (n, b)

-- two walks in a row
unfoldable pub join : Option (ℕ × Bool) → Option (ℕ × Bool) → Option (ℕ × Bool)
join None w = None
join (Some (m, a)) None = None
join (Some (m, a)) (Some (n, b)) = Some (m + n, a or b)

pub join-assoc : (u v w : Option (ℕ × Bool)) → join (join u v) w ≡ join u (join v w)
unfolding join
join-assoc None v w = refl
join-assoc (Some (m, a)) None w = refl
join-assoc (Some (m, a)) (Some (n, b)) None = refl
join-assoc (Some (m, a)) (Some (n, b)) (Some (k, c)) = ap₂ walked (let h : m + n + k ≡ m + (n + k) = omega arith in h) (sym (or_assoc a b c))

join-none : (w : Option (ℕ × Bool)) → join (Some (0, false)) w ≡ w
unfolding join ◌or◌
join-none None = refl
join-none (Some (n, b)) = ap (λ m. Some (m, b)) (let h : 0 + n ≡ n = omega arith in h)

or-false : (b : Bool) → (b or false) ≡ b
unfolding ◌or◌
or-false true = refl
or-false false = refl

-- ---- what an operation holds by itself

pub late-none : (op : Operation) → 18 ≤ op.row → reference_of op ≡ None
unfolding reference_of
late-none op h =
    pick_no _ _ _ (no_ltb {a = op.row} {b = 12} (omega arith))
    ∙ pick_no _ _ _ (no_leb {a = op.row} {b = 13} (omega arith))
    ∙ pick_no _ _ _ (no_eqb {a = op.row} {b = 14} (λ q. omega arith))
    ∙ pick_no _ _ _ (no_leb {a = op.row} {b = 16} (omega arith))
    ∙ pick_no _ _ _ (no_eqb {a = op.row} {b = 17} (λ q. omega arith))

or-second : (a b : Bool) → T (a or b) → T (not a) → T b
unfolding ◌or◌
or-second true b h n = absurd n
or-second false b h n = h

or-late : (l : ℕ) → T (eqb l 20 or eqb l 21) → 18 ≤ l
or-late l h = ⊎_elim (λ q. let w : l ≡ 20 = eqb_yes q in omega arith) (λ q. let w : l ≡ 21 = eqb_yes (or-second _ _ h q) in omega arith) (either (eqb l 20))

pub count-names : (y : Option Reference) → length (names_of y) ≡ counted y
unfolding names_of counted
count-names (Some r) = refl
count-names None = refl

pub count_most : (y : Option Reference) → counted y ≤ 1
unfolding counted
count_most (Some r) = omega arith
count_most None = omega arith

own-case : (b : Bool) (n : ℕ) → (T b → n ≡ 0) → walked n b ≡ pick b (walked 0 true) (walked n false)
unfolding pick
own-case true n h = ap (λ m. Some (m, true)) (h tt)
own-case false n h = refl

own-few : (b : Bool) (y : Option Reference) (m : ℕ) (a : Bool) → pick b (walked 0 true) (walked (counted y) false) ≡ walked m a → m ≤ 1
unfolding pick
own-few true y m a q = let h : 0 ≡ m = (some_pair_parts _ _ _ _ q).0 in omega arith
own-few false y m a q = let h : counted y ≡ m = (some_pair_parts _ _ _ _ q).0 in omega (arith, count_most y)

pub own-most : (op : Operation) (m : ℕ) (a : Bool) → own_walk op ≡ Some (m, a) → m ≤ 1
unfolding own_walk
own-most op m a q = own-few _ (reference_of op) m a q

module _ (e : Encoding) where
  abbrev big : Bool
  big = e.big_endian

  -- the walk of what stands from a place on
  abbrev pub walk_from : List ℕ → ℕ → Option (ℕ × Bool)
  walk_from s at = as_walk big (expression_in e (drop at s))

  own-walk : (x : List ℕ) (at : ℕ) (op : Operation) (h : OperationHeld e x at op) → Some (length (names_in big 0 (own e x at op h)), any_absolute (own e x at op h)) ≡ own_walk op
  unfolding own_walk counted
  own-walk x at op h =
      ap₂ walked (same_count big 0 at (own e x at op h) ∙ ap length (own-names e x at op h) ∙ count-names (reference_of op)) (own-absolute e x at op h)
      ∙ own-case (eqb op.row 20 or eqb op.row 21) (counted (reference_of op)) (λ t. ap counted (late-none op (or-late op.row t)))

  -- pieces, and then others
  as-join : (ps : List Piece) (o : Option (List Piece)) → as_walk big (bind o (λ qs. Some (ps ++ qs))) ≡ join (Some (length (names_in big 0 ps), any_absolute ps)) (as_walk big o)
  unfolding as_walk bind join
  as-join ps None = refl
  as-join ps (Some qs) =
      ap₂ walked (ap length (names-append big 0 ps qs) ∙ length-append (names_in big 0 ps) _ ∙ ap (λ n. length (names_in big 0 ps) + n) (same_count big _ 0 qs)) (absolute-append ps qs)

  as-join-entry : (ls : List Piece) → ((k : ℕ) → names_in big k ls ≡ []) → any_absolute ls ≡ false → (o p : Option (List Piece))
      → as_walk big (bind o (λ ps. bind p (λ qs. Some ((ls ++ ps) ++ qs)))) ≡ join (as_walk big o) (as_walk big p)
  unfolding as_walk bind join ◌or◌
  as-join-entry ls n a None p = refl
  as-join-entry ls n a (Some ps) p =
      as-join (ls ++ ps) p
      ∙ ap (λ w. join w (as_walk big p)) (ap₂ walked (ap length (names-append big 0 ls ps ∙ ap (λ l. l ++ names_in big (0 + length (bytes_of big ls)) ps) (n 0)) ∙ same_count big _ 0 ps) (absolute-append ls ps ∙ ap (λ b. b or any_absolute ps) a))

  module _ (s : List ℕ) (at : ℕ) where
    pub walk_end : length s ≤ at → walk_from s at ≡ Some (0, false)
    unfolding as_walk names_in any_absolute
    walk_end h = ap (λ x. as_walk big (expression_in e x)) (drop_of_length-le s h) ∙ ap (as_walk big) (expression-none e)

    pub walk_none : at < length s → operation_at e s at ≡ None → walk_from s at ≡ None
    unfolding as_walk
    walk_none l q =
        ap (as_walk big) (expression-more e (drop at s) (omega (arith, length-drop at s))
        ∙ bind-none _ (unreadable big (expression_in e) (operation e) (drop at s) (operation-none e s at q)))

    module _ (op : Operation) (q : operation_at e s at ≡ Some op) where
      abbrev held : OperationHeld e (drop at s) at op
      held = operation-held e s at op q

      rest_at : held.rest ≡ drop op.next.at s
      rest_at = (rest-is e (drop at s) at op held).1 ∙ drop-drop (span e (drop at s) at op held) at s ∙ ap (λ n. drop n s) (sym (past e (drop at s) at op held))

      -- an operation that is no entry value, and then the rest
      pub walk-plain : T (not (eqb op.row 19)) → walk_from s at ≡ join (own_walk op) (walk_from s op.next.at)
      walk-plain t =
          ap (as_walk big) (deep-plain e (drop at s) at op held t)
          ∙ as-join (own e (drop at s) at op held) (expression_in e held.rest)
          ∙ ap₂ (λ u x. join u (as_walk big (expression_in e x))) (own-walk (drop at s) at op held) rest_at

      -- an entry value: the walk of its expression, and then the rest
      pub walk-entry : T (eqb op.row 19) → walk_from s at ≡ join (walk_of e (take (op.first.end - op.first.start) (drop op.first.start s))) (walk_from s op.next.at)
      unfolding walk_of
      walk-entry t =
          let i : (at < op.next.at) × (op.next.at ≤ length s) × (at < op.first.start) × (op.first.start ≤ op.first.end) × (op.first.end ≤ op.next.at) = operation-inside e s at op q in
          let k : at + (op.first.start - at) ≡ op.first.start = omega arith in
          let p : inner e (drop at s) at op held t ≡ take (op.first.end - op.first.start) (drop op.first.start s) =
          inner-is e (drop at s) at op held t ∙ ap (take (op.first.end - op.first.start)) (drop-drop (op.first.start - at) at s ∙ ap (λ n. drop n s) k) in
          ap (as_walk big) (deep-entry e (drop at s) at op held t)
          ∙ as-join-entry (lead e (drop at s) at op held t) (lead-names e (drop at s) at op held t) (lead-absolute e (drop at s) at op held t) _ _
          ∙ ap₂ (λ x y. join (as_walk big (expression_in e x)) (as_walk big (expression_in e y))) p rest_at

  -- ---- there are no more references than bytes

  abbrev Few : List ℕ → List Piece → Type 0
  Few x ps = length (names_in big 0 ps) ≤ length x

  few-case : (x : List ℕ) → 0 < length x → ((y : List ℕ) → length y < length x → All (Few y) (expression_in e y)) → (o : Option Operation) → Cases e x 0 o → All (Few x) (expression_in e x)
  unfolding Cases
  few-case x l ih None q = subst (All (Few x)) (sym (expression-more e x l ∙ bind-none _ (unreadable big (expression_in e) (operation e) x q))) (all_none _)
  few-case x l ih (Some op) h =
      let i : (0 < op.next.at) × (op.next.at ≤ 0 + length x) × (0 < op.first.start) × (op.first.start ≤ op.first.end) × (op.first.end ≤ op.next.at) = held-inside e x 0 op h in
      let m : length x ≡ span e x 0 op h + length h.rest = took-length x _ h.rest (rest-is e x 0 op h) in
      let n : op.next.at ≡ 0 + span e x 0 op h = past e x 0 op h in
      ⊎_elim
      (λ t. subst (All (Few x)) (sym (deep-entry e x 0 op h t))
      (all-bind (Few (inner e x 0 op h t)) _ _ _ (ih (inner e x 0 op h t) (omega (arith, inner-size e x 0 op h t)))
      (λ ps a u. all-bind (Few h.rest) _ _ _ (ih h.rest (omega arith))
      (λ qs b v. all-some (Few x)
      (let ls : List Piece = lead e x 0 op h t in
      let one : length (names_in big 0 ((ls ++ ps) ++ qs)) ≡ length (names_in big 0 (ls ++ ps)) + length (names_in big 0 qs) = ap length (names-append big 0 (ls ++ ps) qs) ∙ length-append (names_in big 0 (ls ++ ps)) _ ∙ ap (λ n. length (names_in big 0 (ls ++ ps)) + n) (same_count big _ 0 qs) in
      let two : length (names_in big 0 (ls ++ ps)) ≡ length (names_in big 0 ps) = ap length (names-append big 0 ls ps ∙ ap (λ l. l ++ names_in big (0 + length (bytes_of big ls)) ps) (lead-names e x 0 op h t 0)) ∙ same_count big _ 0 ps in
      omega (arith, one, two, inner-size e x 0 op h t, u, v))))))
      (λ t. subst (All (Few x)) (sym (deep-plain e x 0 op h t))
      (all-bind (Few h.rest) _ _ _ (ih h.rest (omega arith))
      (λ qs b v. all-some (Few x)
      (let ps : List Piece = own e x 0 op h in
      let one : length (names_in big 0 (ps ++ qs)) ≡ length (names_in big 0 ps) + length (names_in big 0 qs) = ap length (names-append big 0 ps qs) ∙ length-append (names_in big 0 ps) _ ∙ ap (λ n. length (names_in big 0 ps) + n) (same_count big _ 0 qs) in
      let two : length (names_in big 0 ps) ≡ counted (reference_of op) = ap length (own-names e x 0 op h) ∙ count-names (reference_of op) in
      omega (arith, one, two, count_most (reference_of op), v)))))
      (either (eqb op.row 19))

  few-none : All (Few []) (expression_in e [])
  unfolding names_in
  few-none = subst (All (Few [])) (sym (expression-none e)) (all-some (Few []) (omega arith))

  few : (k : ℕ) (x : List ℕ) → length x ≤ k → All (Few x) (expression_in e x)
  few zero [] h = few-none
  few zero (b ∷ x) h = absurd (let g : suc (length x) ≤ 0 = h in omega arith)
  few (suc k) [] h = few-none
  few (suc k) (b ∷ x) h =
      few-case (b ∷ x) (let g : 0 < suc (length x) = omega arith in g) (λ y l. few k y (let g : suc (length x) ≤ suc k = h in let g' : suc (length y) ≤ suc (length x) = l in omega arith)) _ (cases e (b ∷ x) 0)

  pub walk-few : (x : List ℕ) (n : ℕ) (b : Bool) → walk_of e x ≡ Some (n, b) → n ≤ length x
  unfolding walk_of as_walk All
  walk-few x n b q = few-walked (expression_in e x) (few (length x) x (omega arith)) q
    where
      few-walked : (o : Option (List Piece)) → All (Few x) o → as_walk big o ≡ Some (n, b) → n ≤ length x
      few-walked None a q = let z : ◌≡◌ {A = ℕ} 0 1 = cc in absurd (omega arith)
      few-walked (Some ps) a q = let z : length (names_in big 0 ps) ≡ n = (some_pair_parts _ _ _ _ q).0 in omega arith

-- ---- the walk's loop: what it found so far, joined with the walk of what is left

pub record Walking (e : Encoding) (s : List ℕ) (at n : ℕ) (b : Bool) : Type 0 where
  pub inside : at ≤ length s
  pub few : n ≤ at
  pub whole : walk_of e s ≡ join (Some (n, b)) (walk_from e s at)

module _ (e : Encoding) (s : List ℕ) where
  pub walking_start : Walking e s 0 0 false
  unfolding walk_of
  walking_start = record { inside = omega arith; few = omega arith; whole = sym (join-none (walk_from e s 0)) }

  module _ (at n : ℕ) (b : Bool) (w : Walking e s at n b) where
    pub walking-end : length s ≤ at → Some (n, b) ≡ walk_of e s
    unfolding join
    walking-end l =
        ap₂ walked (let h : n ≡ n + 0 = omega arith in h) (sym (or-false b)) ∙ ap (join (Some (n, b))) (sym (walk_end e s at l)) ∙ sym w.whole

    module _ (l : at < length s) (o : Option Operation) (is : o ≡ operation_at e s at) where
      pub walking-none : o ≡ None → None ≡ walk_of e s
      unfolding join
      walking-none q = ap (join (Some (n, b))) (sym (walk_none e s at l (sym is ∙ q))) ∙ sym w.whole

      module _ (op : Operation) (q : o ≡ Some op) where
        abbrev there : operation_at e s at ≡ Some op
        there = sym is ∙ q

        pub within : (at < op.next.at) × (op.next.at ≤ length s) × (at < op.first.start) × (op.first.start ≤ op.first.end) × (op.first.end ≤ op.next.at)
        within = operation-inside e s at op there

        -- one more walk u, and the rest
        module _ (u v : Option (ℕ × Bool)) (p : walk_from e s at ≡ join v (walk_from e s op.next.at)) (same : u ≡ v) where
          step : (m : ℕ) (a c : Bool) → u ≡ Some (m, a) → c ≡ (b or a) → m ≤ op.next.at - at → Walking e s op.next.at (n + m) c
          unfolding join
          step m a c r k few =
              let i : op.next.at ≤ length s = within.1 in
              let i0 : at < op.next.at = within.0 in
              let f : n ≤ at = w.few in
              record {
                inside = i;
                few = omega arith;
                whole =
                    w.whole ∙ ap (join (Some (n, b))) p ∙ sym (join-assoc (Some (n, b)) v (walk_from e s op.next.at))
                    ∙ ap (λ x. join (join (Some (n, b)) x) (walk_from e s op.next.at)) (sym same ∙ r)
                    ∙ ap (λ d. join (Some (n + m, d)) (walk_from e s op.next.at)) (sym k);
              }

          fall : u ≡ None → None ≡ walk_of e s
          unfolding join
          fall r = ap (λ x. join (Some (n, b)) (join x (walk_from e s op.next.at))) (sym r ∙ same) ∙ ap (join (Some (n, b))) (sym p) ∙ sym w.whole

        module _ (t : op.row ≡ 19 → ⊥) (u : Option (ℕ × Bool)) (same : u ≡ own_walk op) where
          abbrev by-own : walk_from e s at ≡ join (own_walk op) (walk_from e s op.next.at)
          by-own = walk-plain e s at op there (no_eqb {a = op.row} {b = 19} t)

          pub walking-own : (m : ℕ) (a c : Bool) → u ≡ Some (m, a) → c ≡ (b or a) → Walking e s op.next.at (n + m) c
          walking-own m a c r k =
              let i : at < op.next.at = within.0 in
              let few : m ≤ 1 = own-most op m a (sym same ∙ r) in
              step u (own_walk op) by-own same m a c r k (omega arith)

          pub own-fall : u ≡ None → None ≡ walk_of e s
          own-fall r = fall u (own_walk op) by-own same r

        abbrev part : List ℕ
        part = take (op.first.end - op.first.start) (drop op.first.start s)

        part-size : length part ≡ op.first.end - op.first.start
        part-size =
            let i : op.next.at ≤ length s = within.1 in
            let j : op.first.end ≤ op.next.at = within.4 in
            length-take-le (op.first.end - op.first.start) (drop op.first.start s) (omega (arith, length-drop op.first.start s))

        -- the expression of an entry value is shorter
        pub part-less : (x : List ℕ) → x ≡ part_of s op.first → length x < length s
        unfolding part_of
        part-less x p =
            let i : (at < op.next.at) × (op.next.at ≤ length s) × (at < op.first.start) × (op.first.start ≤ op.first.end) × (op.first.end ≤ op.next.at) = within in
            let j : length x ≡ length part = ap length p in
            omega (arith, part-size)

        module _ (t : op.row ≡ 19) (x : List ℕ) (p : x ≡ part_of s op.first) (u : Option (ℕ × Bool)) (read : u ≡ walk_of e x) where
          same : u ≡ walk_of e part
          unfolding part_of
          same = read ∙ ap (walk_of e) p

          abbrev by-entry : walk_from e s at ≡ join (walk_of e part) (walk_from e s op.next.at)
          by-entry = walk-entry e s at op there (yes_eqb {a = op.row} {b = 19} t)

          pub walking-entry : (m : ℕ) (a c : Bool) → u ≡ Some (m, a) → c ≡ (b or a) → Walking e s op.next.at (n + m) c
          walking-entry m a c r k =
              let j : op.first.end ≤ op.next.at = within.4 in
              let i : at < op.first.start = within.2 in
              let few : m ≤ length part = walk-few e part m a (sym same ∙ r) in
              step u (walk_of e part) by-entry same m a c r k (omega (arith, part-size))

          pub entry-fall : u ≡ None → None ≡ walk_of e s
          entry-fall r = fall u (walk_of e part) by-entry same r
