-- The references of an expression, one after the other, into a table. Assumes nothing.
use mathlib.Core.Path.{◌≡◌, refl, ap, sym, ◌∙◌, subst}
use Prim.Native.Nat.{ℕ, zero, suc, ◌-◌, ◌≤◌, ◌<◌}
use native.Mathlib.Omega.{arith}
use mathlib.Core.Bool.{not}
use mathlib.Core.Logic.{⊎_elim}
use mathlib.Core.List.{List, [], ◌∷◌, ◌++◌, append-nil}
use lib.ListN.{length, set}
use lib.Seq.{append_snoc}
use lib.Dec.{T, ltb, eqb}
use mir.Facts.{ltb_yes, ltb_no}
use Rattle.readers.proofs.Choice.{pick-either, either}
use Rattle.readers.specs.Steps.{operation_at}
use Rattle.readers.specs.References.{named, named_type, reference_of, next_reference, flat_from}
use Rattle.readers.proofs.OperationReads.{operation-inside}
use Rattle.readers.proofs.Yields.{GoesOn, flat_by, flat-next, next-end, next-none, next-entry, next-own, next-pass}
use Rattle.readers.specs.declared.cursor.Encoding.{Encoding}
use Rattle.readers.specs.declared.cursor.Cursor.{Cursor}
use Rattle.readers.specs.declared.fields.Field.{Field}
use Rattle.readers.specs.declared.operations.Operation.{Operation}
use Rattle.std.specs.Prelude.{None, Option, Some}
use Rattle.readers.specs.declared.expressions.Reference.{Reference}
use Rattle.marking.specs.EntryReferences.{targets}
use Rattle.marking.specs.ReferenceTable.{next_place, placed, written}
use Rattle.marking.proofs.Placing.{Put, put-none, put_one, put-size}

-- ---- the next reference goes on ahead, inside the slice

type-goes : (f : Field) (c : Cursor) → GoesOn c (named_type f c)
unfolding named_type named GoesOn
type-goes f c = pick-either (GoesOn c) _ _ _ (λ _. tt) (λ _. refl)

reference-goes : (op : Operation) → GoesOn op.next (reference_of op)
unfolding reference_of named GoesOn
reference-goes op =
    pick-either (GoesOn op.next) _ _ _ (λ _. tt) (λ _.
    pick-either (GoesOn op.next) _ _ _ (λ _. refl) (λ _.
    pick-either (GoesOn op.next) _ _ _ (λ _. type-goes op.first op.next) (λ _.
    pick-either (GoesOn op.next) _ _ _ (λ _. type-goes op.second op.next) (λ _.
    pick-either (GoesOn op.next) _ _ _ (λ _. type-goes op.first op.next) (λ _. tt)))))

module _ (e : Encoding) (s : List ℕ) where
  unfoldable Ahead : ℕ → Option Reference → Type 0
  Ahead at (Some r) = (at < r.next.at) × (r.next.at ≤ length s)
  Ahead at None = Unit {0}

  ahead-from : (at n : ℕ) (y : Option Reference) → at ≤ n → Ahead n y → Ahead at y
  unfolding Ahead
  ahead-from at n (Some r) h a = (omega (arith, a.0), a.1)
  ahead-from at n None h a = tt

  ahead_own : (at : ℕ) (c : Cursor) (r : Reference) → at < c.at → c.at ≤ length s → GoesOn c (Some r) → Ahead at (Some r)
  unfolding Ahead GoesOn
  ahead_own at c r lo hi g = let k : r.next.at ≡ c.at = ap (λ (d : Cursor). d.at) g in (omega arith, omega arith)

  module _ (at : ℕ) (l : at < length s) (ih : (n : ℕ) → at < n → Ahead n (next_reference e s n)) where
    ahead-plain : (op : Operation) → operation_at e s at ≡ Some op → T (not (eqb op.row 19)) → (y : Option Reference) → reference_of op ≡ y → Ahead at (next_reference e s at)
    ahead-plain op q t (Some r) p =
        subst (Ahead at) (sym (next-own e s at l op q t r p))
        (ahead_own at op.next r (operation-inside e s at op q).0 (operation-inside e s at op q).1 (subst (GoesOn op.next) p (reference-goes op)))
    ahead-plain op q t None p =
        let i : at < op.next.at = (operation-inside e s at op q).0 in
        subst (Ahead at) (sym (next-pass e s at l op q t p)) (ahead-from at op.next.at _ (omega arith) (ih op.next.at i))

    ahead-operation : (o : Option Operation) → operation_at e s at ≡ o → Ahead at (next_reference e s at)
    unfolding Ahead
    ahead-operation None q = subst (Ahead at) (sym (next-none e s at l q)) tt
    ahead-operation (Some op) q =
        ⊎_elim
        (λ t. let i : at < op.first.start = (operation-inside e s at op q).2 in
        subst (Ahead at) (sym (next-entry e s at l op q t)) (ahead-from at op.first.start (next_reference e s op.first.start) (omega arith) (ih op.first.start i)))
        (λ t. ahead-plain op q t (reference_of op) refl)
        (either (eqb op.row 19))

  ahead_within : (k at : ℕ) → length s - at ≤ k → Ahead at (next_reference e s at)
  unfolding Ahead
  ahead_within zero at h = subst (Ahead at) (sym (next-end e s at (omega arith))) tt
  ahead_within (suc k) at h =
      ⊎_elim
      (λ t. let l : at < length s = ltb_yes t in ahead-operation at l (λ n lo. ahead_within k n (omega arith)) (operation_at e s at) refl)
      (λ t. let l : length s ≤ at = ltb_no t in subst (Ahead at) (sym (next-end e s at l)) tt)
      (either (ltb at (length s)))

  module _ (from : ℕ) (y : Option Reference) (q : y ≡ next_reference e s from) where
    pub next-less : (r : Reference) → y ≡ Some r → length s - r.next.at < length s - from
    unfolding Ahead
    next-less r p =
        let a : (from < r.next.at) × (r.next.at ≤ length s) = subst (Ahead from) (sym q ∙ p) (ahead_within (length s - from) from (omega arith)) in
        omega arith

    targets-more : (r : Reference) → y ≡ Some r → targets (flat_from e s from) ≡ r.target.0 ∷ targets (flat_from e s r.next.at)
    unfolding targets flat_by
    targets-more r p = ap targets (flat-next e s from ∙ ap (flat_by e s) (sym q ∙ p))

    targets-end : y ≡ None → targets (flat_from e s from) ≡ []
    unfolding targets flat_by
    targets-end p = ap targets (flat-next e s from ∙ ap (flat_by e s) (sym q ∙ p))

-- ---- the loop: what is put, and what is named from here on

pub record Putting (e : Encoding) (s table₀ : List ℕ) (at : ℕ) (table : List ℕ) (from to : ℕ) : Type 0 where
  pub done : List ℕ
  pub put : Put table₀ at done table to
  pub whole : targets (flat_from e s 0) ≡ done ++ targets (flat_from e s from)

module _ (e : Encoding) (s table₀ : List ℕ) (at : ℕ) where
  pub putting-start : Putting e s table₀ at table₀ 0 at
  putting-start = record { done = []; put = put-none table₀ at; whole = refl }

  module _ (table : List ℕ) (from to : ℕ) (h : Putting e s table₀ at table from to) where
    pub putting-size : length table ≡ length table₀
    putting-size = put-size table₀ at h.done table to h.put

    module _ (y : Option Reference) (q : y ≡ next_reference e s from) where
      pub putting-end : y ≡ None
          → (to ≡ placed (length table₀) at (targets (flat_from e s 0))) × (table ≡ written table₀ at (targets (flat_from e s 0)))
      putting-end p =
          let k : h.done ≡ targets (flat_from e s 0) = sym (h.whole ∙ ap (λ l. h.done ++ l) (targets-end e s from y q p) ∙ append-nil h.done) in
          (h.put.place ∙ ap (placed (length table₀) at) k, h.put.numbers ∙ ap (written table₀ at) k)

      pub putting-more : (r : Reference) → y ≡ Some r → (table' : List ℕ) (to' : ℕ) → to' ≡ next_place (length table) to → table' ≡ set table to r.target.0
          → Putting e s table₀ at table' r.next.at to'
      putting-more r p table' to' a b =
          record {
            done = h.done ++ (r.target.0 ∷ []);
            put = put_one table₀ at h.done table to h.put r.target.0 table' to' a b;
            whole =
                h.whole
                ∙ ap (λ l. h.done ++ l) (targets-more e s from y q r p)
                ∙ sym (append_snoc h.done r.target.0 (targets (flat_from e s r.next.at)));
          }
