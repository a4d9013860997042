-- What is kept of a unit is its survivors, by its rows. Assumes nothing but that the offsets of the rows ascend.
use Prim.Native.Nat.{ℕ}
use native.Mathlib.Omega.{arith}
use mathlib.Core.List.{List}
use Rattle.marking.specs.Survivors.{Descendant, child as child', deeper as deeper', Survivor, Least}
use Rattle.marking.specs.Inner.Survivors.{Closed}
use Rattle.laws.proofs.Survivors.MarkLaws.{survivors-law}
use Rattle.marking.specs.Analysis.{EntryRow}
use Rattle.marking.specs.Columns.{offsets_in}
use Rattle.marking.specs.Resolution.{graph_of, Ascending}
use Rattle.laws.specs.UnitSurvivors.{Below, child, deeper, ClosedRows, LeastRows}
use Rattle.marking.proofs.Rows.{length-parents}
use Rattle.laws.proofs.Survivors.GraphLaws.{parent-law, root-law, names-law}

module _ (rows : List EntryRow) (low : ℕ) (ascending : Ascending low (offsets_in rows)) where
  below_out : {r d : ℕ} → Descendant (graph_of rows) r d → Below rows r d
  below_out (child' {r = r} {d = d} q) = child ((parent-law rows r d).0 q)
  below_out (deeper' {p = p} {d = d} u q) = deeper (below_out u) ((parent-law rows p d).0 q)

  below_in : {r d : ℕ} → Below rows r d → Descendant (graph_of rows) r d
  below_in (child {r = r} {d = d} q) = child' ((parent-law rows r d).1 q)
  below_in (deeper {p = p} {d = d} u q) = deeper' (below_in u) ((parent-law rows p d).1 q)

  -- closed by the graph, closed by the rows
  to-rows : (S : ℕ → Type 0) → Closed (graph_of rows) S → ClosedRows rows S
  unfolding graph_of
  to-rows S c =
      record {
        has_first = (λ h. c.has_first (omega (arith, length-parents rows)));
        has_roots = (λ i q. c.has_roots i ((root-law rows i).1 q));
        has_parents = (λ p i q. c.has_parents p i ((parent-law rows p i).1 q));
        has_named = (λ s t q. c.has_named s t ((names-law rows low ascending s t).1 q));
        has_under_roots = (λ r d q u. c.has_under_roots r d ((root-law rows r).1 q) (below_in u));
        has_under_named = (λ s t d q k u. c.has_under_named s t d ((names-law rows low ascending s t).1 q) k (below_in u));
      }

  to-graph : (S : ℕ → Type 0) → ClosedRows rows S → Closed (graph_of rows) S
  unfolding graph_of
  to-graph S c =
      record {
        has_first = (λ h. c.has_first (omega (arith, length-parents rows)));
        has_roots = (λ i q. c.has_roots i ((root-law rows i).0 q));
        has_parents = (λ p i q. c.has_parents p i ((parent-law rows p i).0 q));
        has_named = (λ s t q. c.has_named s t ((names-law rows low ascending s t).0 q));
        has_under_roots = (λ r d q u. c.has_under_roots r d ((root-law rows r).0 q) (below_out u));
        has_under_named = (λ s t d q k u. c.has_under_named s t d ((names-law rows low ascending s t).0 q) k (below_out u));
      }

  -- THE survivors of a unit
  pub rows-least : LeastRows rows (Survivor (graph_of rows))
  rows-least =
      let l : Least (graph_of rows) (Survivor (graph_of rows)) = survivors-law (graph_of rows) in
      record { closed = to-rows (Survivor (graph_of rows)) l.closed; least = (λ R c. l.least R (to-graph R c)) }
