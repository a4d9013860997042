-- A range list of version 4, one pair at a time: the answer from a place on, by what is read there. Assumes nothing.
use Rattle.std.proofs.lemmas.Option.{some_pair_parts}
use mathlib.Core.Path.{◌≡◌, refl, ap, sym, ◌∙◌}
use mathlib.Core.Logic.{◌⊎◌, inl, inr, ⊎_elim}
use Prim.Native.Nat.{ℕ, ◌+◌, ◌-◌, ◌≤◌, ◌<◌}
use native.Mathlib.Omega.{arith}
use mathlib.Core.Bool.{Bool, true, false, not}
use mathlib.Core.List.{List}
use lib.ListN.{length, take, drop}
use lib.Dec.{ltb, eqb}
use mir.Facts.{ltb_yes, eqb_yes, eqb_no}
use borrow.Author.Tests.{lt-ltb, le-ltb, eq-eqb}
use Rattle.readers.specs.Choice.{pick, ◌and◌, ◌or◌}
use Rattle.readers.proofs.Choice.{pick-either, either}
use Rattle.readers.specs.Numbers.{fixed_value, ordered, little_value}
use Rattle.readers.specs.Cursors.{cursor, fixed_at}
use Rattle.readers.specs.Operations.{row_of, rows, unreadable_row}
use Rattle.readers.specs.Fields.{field_at, row_at}
use Rattle.readers.specs.Inner.Fields.{number_field}
use Rattle.readers.proofs.Tokens.{Fields, row-fields, Inside, row_inside, inside-slice, field-number, number-address}
use Rattle.readers.proofs.Widths.{fixed-is, fixed-inside}
use Rattle.readers.specs.declared.cursor.Cursor.{Cursor}
use Rattle.readers.specs.declared.cursor.Encoding.{Encoding}
use Rattle.std.specs.Prelude.{None, Option, Some, Err, Ok, Result}
use Rattle.readers.specs.declared.fields.Field.{Field}
use Rattle.readers.specs.declared.fields.Operands.{Operands}
use Rattle.marking.specs.Addresses.{is_tombstone}
use Rattle.marking.specs.Walking.{go, stop, on_next, walk}
use Rattle.marking.proofs.Walking.{Forward, walk_step}
use Rattle.marking.proofs.Lists.{Heads, on-turn, decided-turn, refused-turn}
use Rattle.marking.specs.Roots.{Flagged, place, RootTurn, past_pair, turn_of, range_pair, pair_step, pairs_live}
use Rattle.marking.specs.declared.root_test.RangeTurn.{RangeTurn}
use Rattle.marking.specs.declared.root_test.RangeTurn.TheVariants.{On, Decided}
use Rattle.marking.specs.declared.addresses.Verdict.{Verdict}
use Rattle.marking.specs.declared.addresses.Verdict.TheVariants.{Live as is_live, Dead as is_dead}

-- ---- where a pair ends

-- an address has as many bytes as its size; of no bytes it is 0
module _ (e : Encoding) (s : List ℕ) (at : ℕ) (f : Field) where
  abbrev number : Option (ℕ × Cursor)
  number = fixed_at e.big_endian e.address_size s at

  of_number : (n : Option (ℕ × Cursor)) → number ≡ n → number_field at n ≡ Some f → (f.end ≡ at + e.address_size) × (e.address_size ≡ 0 → f.value ≡ 0)
  unfolding number_field fixed_value ordered little_value
  of_number (Some (v, c)) q x =
      let i : c.at ≡ at + e.address_size = (fixed-inside e.big_endian e.address_size s at v c q).0 in
      let end_is : c.at ≡ f.end = cc in
      let value-is : v ≡ f.value = cc in (
        omega (arith, i, end_is),
        (λ z.
            let w : 0 ≡ v = (some_pair_parts _ _ _ _ (sym (fixed-is e.big_endian 0 s at (omega arith) (omega arith) ∙ none e.big_endian) ∙ ap (λ (n : ℕ). fixed_at e.big_endian n s at) (sym z) ∙ q)).0 in sym value-is ∙ sym w),
      )
    where
      none : (big : Bool) → ◌≡◌ {A = Option (ℕ × Cursor)} (Some (fixed_value big (take 0 (drop at s)), cursor (at + 0))) (Some (0, cursor (at + 0)))
      none true = refl
      none false = refl
  of_number None q x = let z : ◌≡◌ {A = ℕ} 0 1 = cc in absurd (omega arith)

  address-field : field_at e s at 9 ≡ Some f → (f.end ≡ at + e.address_size) × (e.address_size ≡ 0 → f.value ≡ 0)
  address-field x = of_number number refl (ap (number_field at) (sym (number-address e s at 9 refl)) ∙ sym (field-number e s at 9 (omega arith) (omega arith)) ∙ x)

-- a pair is past its place, or both of its numbers are 0
module _ (e : Encoding) (s : List ℕ) (at : ℕ) (r : Operands) (x : row_at e s at 23 ≡ Some r) where
  pair-past : (at < r.third.end) ⊎ ((r.first.value ≡ 0) × (r.second.value ≡ 0))
  unfolding row_of rows unreadable_row
  pair-past =
      let q : Fields e s at 23 r = row-fields e s at 23 r x in
      let a = address-field e s at r.first q.first in
      let b = address-field e s r.first.end r.second q.second in
      let i : Inside s r.second.end r.third = (row_inside e s at 23 r x).2 in
      ⊎_elim
      (λ z. let none : e.address_size ≡ 0 = eqb_yes {a = e.address_size} {b = 0} z in inr (a.1 none, b.1 none))
      (λ z. inl (let some : e.address_size ≡ 0 → ⊥ = eqb_no {a = e.address_size} {b = 0} z in omega (arith, some, a.0, b.0, i.after, i.forward)))
      (either (eqb e.address_size 0))

  pair_inside : at < length s → r.third.end ≤ length s
  pair_inside h =
      let i = row_inside e s at 23 r x in
      inside-slice s r.second.end r.third i.2
      (inside-slice s r.first.end r.second i.1 (inside-slice s at r.first i.0 (omega arith)))

-- ---- one pair

module _ (e : Encoding) (dead : Bool) (r : Operands) where
  abbrev begin : ℕ
  begin = r.first.value

  abbrev end : ℕ
  end = r.second.value

  pub pair_end : begin ≡ 0 → end ≡ 0 → Ok (Decided is_dead) ≡ turn_of (range_pair e dead r)
  unfolding range_pair turn_of pick ◌and◌
  pair_end a b = rw (eq-eqb begin 0 a, eq-eqb end 0 b)

  pair-heads : Heads r.third.end (range_pair e dead r)
  unfolding range_pair Heads
  pair-heads =
      pick-either (Heads r.third.end) (eqb begin 0 and eqb end 0) (stop (Ok is_dead)) _ (λ t. tt)
      (λ t. pick-either (Heads r.third.end) (is_tombstone begin e.address_size and not (eqb begin 0)) (past_pair r _) _ (λ t. refl)
      (λ t. pick-either (Heads r.third.end) (dead or is_tombstone begin e.address_size) (past_pair r dead) (stop (Ok is_live)) (λ t. refl) (λ t. tt)))

  -- where it goes on, its numbers are not both 0
  pair-some : (b : Bool) → Ok (On b) ≡ turn_of (range_pair e dead r) → (begin ≡ 0) × (end ≡ 0) → ⊥
  pair-some b q z = let y : ◌≡◌ {A = Result RangeTurn ℕ} (Ok (On b)) (Ok (Decided is_dead)) = q ∙ sym (pair_end z.0 z.1) in let z : ◌≡◌ {A = ℕ} 0 1 = cc in omega (arith, z)

-- ---- a list

module _ (e : Encoding) (s : List ℕ) where
  abbrev pair_turn : Flagged → RootTurn
  pair_turn p = pick (ltb p.at (length s)) (pair_step e p.flag (row_at e s p.at 23)) (stop (Ok is_dead))

  -- the answer from a place on, where the latest base was dead or not
  unfoldable pub pairs_from : ℕ → Bool → Result Verdict ℕ
  pairs_from at dead = walk place (length s) pair_turn (Ok is_dead) (record { at = at; flag = dead })

  pub pairs_start : (c : Cursor) → pairs_live e s (Some c) ≡ pairs_from c.at false
  unfolding pairs_live pairs_from
  pairs_start c = refl

  turn-forward : (p : Flagged) (r : Operands) → row_at e s p.at 23 ≡ Some r → p.at < length s
      → (t : RootTurn) → range_pair e p.flag r ≡ t → Heads r.third.end t → Forward place (length s) p t
  unfolding Heads Forward turn_of
  turn-forward p r q h (go u) x n =
      ⊎_elim
      (λ lo. (omega (arith, lo, n), omega (arith, n, pair_inside e s p.at r q h)))
      (λ z. absurd (pair-some e p.flag r u.flag (sym (ap turn_of x)) z))
      (pair-past e s p.at r q)
  turn-forward p r q h (stop v) x n = tt

  row-forward : (p : Flagged) (o : Option Operands) → row_at e s p.at 23 ≡ o → p.at < length s → Forward place (length s) p (pair_step e p.flag o)
  unfolding pair_step Forward
  row-forward p (Some r) q h = turn-forward p r q h (range_pair e p.flag r) refl (pair-heads e p.flag r)
  row-forward p None q h = tt

  pair-forward : (p : Flagged) → Forward place (length s) p (pair_turn p)
  unfolding Forward
  pair-forward p =
      pick-either (Forward place (length s) p) (ltb p.at (length s)) _ _
      (λ t. row-forward p (row_at e s p.at 23) refl (ltb_yes {a = p.at} {b = length s} t)) (λ t. tt)

  module _ (c : Cursor) (at : ℕ) (dead : Bool) (h : pairs_live e s (Some c) ≡ pairs_from at dead) where
    pairs-turn : pairs_live e s (Some c) ≡ on_next (pair_turn (record { at = at; flag = dead })) (walk place (length s) pair_turn (Ok is_dead))
    unfolding pairs_from
    pairs-turn = h ∙ walk_step place (length s) pair_turn (Ok is_dead) pair-forward (record { at = at; flag = dead })

    pub pairs_end : length s ≤ at → Ok is_dead ≡ pairs_live e s (Some c)
    unfolding on_next pick
    pairs_end n = sym (pairs-turn ∙ rw (le-ltb at (length s) n))

    module _ (b : at < length s) (o : Option Operands) (q : o ≡ row_at e s at 23) where
      row-turn : pairs_live e s (Some c) ≡ on_next (pair_step e dead o) (walk place (length s) pair_turn (Ok is_dead))
      unfolding pick
      row-turn = pairs-turn ∙ rw (lt-ltb at (length s) b, q)

      pub pairs-none : o ≡ None → Err 5 ≡ pairs_live e s (Some c)
      unfolding on_next pair_step
      pairs-none r = sym (row-turn ∙ rw r)

      module _ (r : Operands) (k : o ≡ Some r) (w : Result RangeTurn ℕ) (l : w ≡ turn_of (range_pair e dead r)) where
        pair_turn_lem : (t : RootTurn) → range_pair e dead r ≡ t → pairs_live e s (Some c) ≡ on_next t (walk place (length s) pair_turn (Ok is_dead))
        unfolding pair_step
        pair_turn_lem t x = row-turn ∙ rw (k, x)

        -- from the cursor past the pair
        module _ (f : Bool) (x : w ≡ Ok (On f)) (d : Cursor) (n : d ≡ cursor r.third.end) where
          pub pairs-on : pairs_live e s (Some c) ≡ pairs_from d.at f
          unfolding on_next pairs_from
          pairs-on =
              pair_turn_lem (past_pair r f) (on-turn r.third.end (range_pair e dead r) (pair-heads e dead r) f (sym x ∙ l))
              ∙ ap (λ (z : Cursor). pairs_from z.at f) (sym n)

          pub pairs-less : length s - d.at < length s - at
          pairs-less =
              let is : d.at ≡ r.third.end = ap (λ (z : Cursor). z.at) n in
              ⊎_elim
              (λ lo. omega (arith, is, lo, b, pair_inside e s at r (sym q ∙ k) b))
              (λ z. absurd (pair-some e dead r f (sym x ∙ l) z))
              (pair-past e s at r (sym q ∙ k))

        pub pairs-decided : (v : Verdict) → w ≡ Ok (Decided v) → Ok v ≡ pairs_live e s (Some c)
        unfolding on_next
        pairs-decided v x = sym (pair_turn_lem (stop (Ok v)) (decided-turn (range_pair e dead r) v (sym x ∙ l)))

        pub pairs-refused : (n : ℕ) → w ≡ Err n → Err n ≡ pairs_live e s (Some c)
        unfolding on_next
        pairs-refused n x = sym (pair_turn_lem (stop (Err n)) (refused-turn (range_pair e dead r) n (sym x ∙ l)))
