-- Where no item is refused, every new value fits its width. Assumes nothing.
use mathlib.Core.Path.{◌≡◌}
use Prim.Native.Nat.{ℕ, ◌<◌}
use mathlib.Core.Bool.{Bool, true, false}
use mathlib.Core.List.{List, [], ◌∷◌}
use native.Mathlib.Omega.{arith}
use lib.Dec.{T, eqb}
use mir.Facts.{eqb_yes, eqb_no}
use Rattle.readers.specs.Choice.{pick}
use Rattle.readers.proofs.Choice.{pick-either}
use Rattle.readers.specs.Layout.{Encoded, Role, Piece, verbatim, patchable, Read, fits, Fit}
use Rattle.readers.proofs.LayoutLaws.{FitPiece, FitPieces, FitAll}
use Rattle.marking.specs.Analysis.{Sections}
use Rattle.rewriting.specs.Places.{NestedItem, offset_of, Place}
use Rattle.rewriting.specs.Rewriting.{Unit as Unit', reads_at, Lists, new_value, has_place, piece_refusal, or_next, pieces_refusal, reads_refusal, refusal_from}
use Rattle.rewriting.proofs.KeptPass.ItemDepths.{Every}
use Rattle.laws.proofs.Again.Rereading.{Fits}

-- the two numbers of a choice that came to 0
picked_none : (b : Bool) (n m : ℕ) → (0 < m) → pick b n m ≡ 0 → T b × (n ≡ 0)
unfolding pick
picked_none true n m h q = (tt, q)
picked_none false n m h q = absurd (let z : m ≡ 0 = q in omega arith)

pub next-none : (n m : ℕ) → or_next n m ≡ 0 → (n ≡ 0) × (m ≡ 0)
unfolding or_next
next-none n m =
    pick-either (λ (z : ℕ). z ≡ 0 → (n ≡ 0) × (m ≡ 0)) (eqb n 0) m n (λ t e. (eqb_yes {a = n} {b = 0} t, e)) (λ t e. absurd (eqb_no {a = n} {b = 0} t e))

module _ (lists : Lists) (places : List Place) (depth : ℕ) where
  -- a number that is not refused has a place and fits
  pub link_fits : (e : Encoded) (r : Role) (v : ℕ) → piece_refusal lists places depth (patchable e r v) ≡ 0
      → T (has_place lists places depth r v) × Fit e (new_value lists places depth r v)
  unfolding piece_refusal
  link_fits e r v q =
      let h = picked_none (has_place lists places depth r v) (pick (fits e (new_value lists places depth r v)) 0 9) 8 (omega arith) q in
      (h.0, (picked_none (fits e (new_value lists places depth r v)) 0 9 (omega arith) h.1).0)

  piece-fits : (p : Piece) → piece_refusal lists places depth p ≡ 0 → FitPiece (new_value lists places depth) p
  unfolding FitPiece
  piece-fits (verbatim l) q = tt
  piece-fits (patchable e r v) q = (link_fits e r v q).1

  pieces-fit : (ps : List Piece) → pieces_refusal lists places depth ps ≡ 0 → FitPieces (new_value lists places depth) ps
  unfolding pieces_refusal FitPieces
  pieces-fit [] q = tt
  pieces-fit (p ∷ ps) q = let h = next-none (piece_refusal lists places depth p) (pieces_refusal lists places depth ps) q in (piece-fits p h.0, pieces-fit ps h.1)

  reads_fit : (rs : List Read) → reads_refusal lists places depth rs ≡ 0 → FitAll (new_value lists places depth) rs
  unfolding reads_refusal FitAll
  reads_fit [] q = tt
  reads_fit (r ∷ rs) q =
      let h = next-none (pieces_refusal lists places depth r.pieces) (reads_refusal lists places depth rs) q in (pieces-fit r.pieces h.0, reads_fit rs h.1)

pub none-refused : (x : Sections) (u : Unit') (lists : Lists) (places : List Place) (kept : List NestedItem) → refusal_from x u lists places kept ≡ 0
    → Every (Fits x u lists places) kept
unfolding refusal_from Every
none-refused x u lists places [] q = tt
none-refused x u lists places (s ∷ kept) q =
    let h = next-none (reads_refusal lists places s.depth (reads_at x u (offset_of s.item))) (refusal_from x u lists places kept) q in
    (reads_fit lists places s.depth (reads_at x u (offset_of s.item)) h.0, none-refused x u lists places kept h.1)
