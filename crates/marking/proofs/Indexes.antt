-- The indices of entries, one after the other from the front or from the back: the numbers of a range, each made an
-- index. Assumes nothing.
use Prim.Native.Nat.{ℕ, ◌+◌, ◌-◌, ◌≤◌, ◌<◌}
use mathlib.Core.Path.{◌≡◌, subst}
use native.Mathlib.Omega.{arith}
use denote.Param.Members.{Mut}
use Rattle.std.specs.Fn.{Called}
use Rattle.std.specs.Prelude.{Option, Some, None}
use Rattle.std.specs.Range.{range_steps, range_steps_back}
use Rattle.std.specs.Iterator.Adapters.{map_steps, rev_steps}
use Rattle.readers.specs.declared.offsets.EntryIndex.{EntryIndex}

-- the next of the indices that a range from a number to another has left, and what is left then
pub record Front (start end start' end' i : ℕ) : Type 0 where
  pub is : i ≡ start
  pub inside : i < end
  pub next : start' ≡ i + 1
  pub stays : end' ≡ end
  pub within : {n : ℕ} → end ≡ n → i < n

module _ {F : Type 0} (g : Mut F (ℕ × Unit {0}) EntryIndex) where
  pub index-front : ((x : ℕ) (y : EntryIndex) (p q : F) → Called g p (x, tt) y q → y.0 ≡ x)
      → (s t : _) (r : Option EntryIndex) (y : EntryIndex) → r ≡ Some y
      → map_steps (range_steps (λ (a b : ℕ). b - a) (λ (a b : ℕ). b ≡ a + 1)) g s r t
      → Front s.iter.start s.iter.end t.iter.start t.iter.end y.0
  index-front made s t r y e h =
      let k = subst (λ o. map_steps (range_steps (λ (a b : ℕ). b - a) (λ (a b : ℕ). b ≡ a + 1)) g s o t) e h in
      let m = made k.0 y s.f t.f k.2 in
      let l : y.0 < s.iter.end = omega (arith, m, k.1.1.0, k.1.1.1) in
      record { is = omega (arith, m, k.1.1.1); inside = l; next = omega (arith, m, k.1.1.1, k.1.1.2); stays = k.1.0; within = λ q. omega (arith, l, q) }

  -- none is left
  pub index-end : (s t : _) (r : Option EntryIndex) → r ≡ None
      → map_steps (range_steps (λ (a b : ℕ). b - a) (λ (a b : ℕ). b ≡ a + 1)) g s r t → s.iter.end ≤ s.iter.start
  index-end s t r e h = omega (arith, (subst (λ o. map_steps (range_steps (λ (a b : ℕ). b - a) (λ (a b : ℕ). b ≡ a + 1)) g s o t) e h).0.1.0)

  -- from the back
  pub index-back : ((x : ℕ) (y : EntryIndex) (p q : F) → Called g p (x, tt) y q → y.0 ≡ x)
      → (s t : _) (r : Option EntryIndex) (y : EntryIndex) → r ≡ Some y
      → map_steps (rev_steps (range_steps_back (λ (a b : ℕ). b - a) (λ (a b : ℕ). b ≡ a + 1))) g s r t
      → (y.0 < s.iter.iter.end) × (t.iter.iter.end ≤ s.iter.iter.end)
  index-back made s t r y e h =
      let k = subst (λ o. map_steps (rev_steps (range_steps_back (λ (a b : ℕ). b - a) (λ (a b : ℕ). b ≡ a + 1))) g s o t) e h in
      let m = made k.0 y s.f t.f k.2 in
      (omega (arith, m, k.1.1.0, k.1.1.1, k.1.1.2), omega (arith, k.1.1.2))
