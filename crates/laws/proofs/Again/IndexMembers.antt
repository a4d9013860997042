-- The indices of kept items are the index operands that are read of them. Assumes nothing.
use mathlib.Core.Path.{◌≡◌, refl, ap, sym, ◌∙◌, subst}
use Prim.Native.Nat.{ℕ}
use mathlib.Core.List.{List, [], ◌∷◌}
use mathlib.Core.Logic.{⊎_elim, ◌↔◌}
use lib.Dec.{T, eqb}
use mir.Facts.{eqb_yes, yes_eqb}
use Rattle.readers.proofs.Choice.{pick_yes, pick-either}
use Rattle.readers.specs.Layout.{Encoded, reference, type_reference, sibling, index, absolute, Piece, verbatim, patchable, Read}
use Rattle.marking.specs.Analysis.{Sections}
use Rattle.rewriting.specs.Places.{NestedItem, offset_of}
use Rattle.marking.specs.Members.{Member, here, there}
use Rattle.rewriting.specs.Indices.{index_in, indices_in, read_indices}
use Rattle.rewriting.specs.Rewriting.{Unit as Unit', reads_at, indices_from}
use Rattle.marking.proofs.Members.{nothing-in, in_either, in_left, in_right}

-- ---- pieces, reads, items

-- an index operand of kind k and value v
pub record IndexIn (k v : ℕ) (ps : List Piece) : Type 0 where
  pub encoded : Encoded
  pub within : Member (patchable encoded (index k) v) ps

pub record IndexRead (k v : ℕ) (rs : List Read) : Type 0 where
  pub read : Read
  pub among : Member read rs
  pub operand : IndexIn k v read.pieces

pub record IndexKept (x : Sections) (u : Unit') (k v : ℕ) (kept : List NestedItem) : Type 0 where
  pub standing : NestedItem
  pub among : Member standing kept
  pub operand : IndexRead k v (reads_at x u (offset_of standing.item))

module _ (k v : ℕ) where
  same_index : (e : Encoded) (j w : ℕ) → T (eqb j k) → Member v (w ∷ []) → patchable e (index k) v ≡ patchable e (index j) w
  same_index e j w t (here q) = ap (λ (z : ℕ). patchable e (index k) z) q ∙ ap (λ (z : ℕ). patchable e (index z) w) (sym (eqb_yes {a = j} {b = k} t))
  same_index e j w t (there m) = absurd (nothing-in v m)

  one_out : (p : Piece) (ps : List Piece) → Member v (index_in k p) → IndexIn k v (p ∷ ps)
  unfolding index_in
  one_out (verbatim l) ps m = absurd (nothing-in v m)
  one_out (patchable e reference w) ps m = absurd (nothing-in v m)
  one_out (patchable e type_reference w) ps m = absurd (nothing-in v m)
  one_out (patchable e sibling w) ps m = absurd (nothing-in v m)
  one_out (patchable e (index j) w) ps m =
      pick-either (λ (l : List ℕ). Member v l → IndexIn k v (patchable e (index j) w ∷ ps)) (eqb j k) (w ∷ []) []
      (λ t n. record { encoded = e; within = here (same_index e j w t n) })
      (λ t n. absurd (nothing-in v n)) m
  one_out (patchable e absolute w) ps m = absurd (nothing-in v m)

  pieces-out : (ps : List Piece) → Member v (indices_in k ps) → IndexIn k v ps
  unfolding indices_in
  pieces-out [] m = absurd (nothing-in v m)
  pieces-out (p ∷ ps) m =
      ⊎_elim
      (λ n. one_out p ps n)
      (λ n. let r : IndexIn k v ps = pieces-out ps n in record { encoded = r.encoded; within = there r.within })
      (in_either v (index_in k p) (indices_in k ps) m)

  own-index : (e : Encoded) → Member v (index_in k (patchable e (index k) v))
  unfolding index_in
  own-index e = subst (Member v) (sym (pick_yes _ _ _ (yes_eqb {a = k} {b = k} refl))) (here refl)

  pieces-in : (ps : List Piece) (e : Encoded) → Member (patchable e (index k) v) ps → Member v (indices_in k ps)
  unfolding indices_in
  pieces-in [] e m = absurd (nothing-in (patchable e (index k) v) m)
  pieces-in (p ∷ ps) e (here q) = in_left v (index_in k p) (indices_in k ps) (subst (λ (z : Piece). Member v (index_in k z)) q (own-index e))
  pieces-in (p ∷ ps) e (there m) = in_right v (index_in k p) (indices_in k ps) (pieces-in ps e m)

  reads-out : (rs : List Read) → Member v (read_indices k rs) → IndexRead k v rs
  unfolding read_indices
  reads-out [] m = absurd (nothing-in v m)
  reads-out (r ∷ rs) m =
      ⊎_elim
      (λ n. record { read = r; among = here refl; operand = pieces-out r.pieces n })
      (λ n. let q : IndexRead k v rs = reads-out rs n in record { read = q.read; among = there q.among; operand = q.operand })
      (in_either v (indices_in k r.pieces) (read_indices k rs) m)

  reads_in_lem : (rs : List Read) (r : Read) → Member r rs → Member v (indices_in k r.pieces) → Member v (read_indices k rs)
  unfolding read_indices
  reads_in_lem [] r m n = absurd (nothing-in r m)
  reads_in_lem (q ∷ rs) r (here e) n = in_left v (indices_in k q.pieces) (read_indices k rs) (subst (λ (z : Read). Member v (indices_in k z.pieces)) e n)
  reads_in_lem (q ∷ rs) r (there m) n = in_right v (indices_in k q.pieces) (read_indices k rs) (reads_in_lem rs r m n)

  -- the indices of reads are their index operands
  pub read-members : (rs : List Read) → Member v (read_indices k rs) ↔ IndexRead k v rs
  read-members rs = (
    reads-out rs,
    λ q. reads_in_lem rs q.read q.among (pieces-in q.read.pieces q.operand.encoded q.operand.within),
  )

  module _ (x : Sections) (u : Unit') where
    abbrev own : NestedItem → List ℕ
    own s = read_indices k (reads_at x u (offset_of s.item))

    kept_out : (kept : List NestedItem) → Member v (indices_from x u k kept) → IndexKept x u k v kept
    unfolding indices_from
    kept_out [] m = absurd (nothing-in v m)
    kept_out (s ∷ kept) m =
        ⊎_elim
        (λ n. record { standing = s; among = here refl; operand = reads-out (reads_at x u (offset_of s.item)) n })
        (λ n. let q : IndexKept x u k v kept = kept_out kept n in record { standing = q.standing; among = there q.among; operand = q.operand })
        (in_either v (own s) (indices_from x u k kept) m)

    kept_in_lem : (kept : List NestedItem) (s : NestedItem) → Member s kept → Member v (own s) → Member v (indices_from x u k kept)
    unfolding indices_from
    kept_in_lem [] s m n = absurd (nothing-in s m)
    kept_in_lem (t ∷ kept) s (here e) n = in_left v (own t) (indices_from x u k kept) (subst (λ (z : NestedItem). Member v (own z)) e n)
    kept_in_lem (t ∷ kept) s (there m) n = in_right v (own t) (indices_from x u k kept) (kept_in_lem kept s m n)

    -- the indices of kept items are their index operands
    pub index-members : (kept : List NestedItem) → Member v (indices_from x u k kept) ↔ IndexKept x u k v kept
    index-members kept = (
      kept_out kept,
      λ q. kept_in_lem kept q.standing q.among
          (reads_in_lem (reads_at x u (offset_of q.standing.item)) q.operand.read q.operand.among (pieces-in q.operand.read.pieces q.operand.operand.encoded q.operand.operand.within)),
    )
