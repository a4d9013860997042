-- The row of an entry, by how many entries stand before it, and what it says of the entry's verdict. Assumes nothing.
use mathlib.Core.Path.{◌≡◌, refl, sym, ◌∙◌}
use Prim.Native.Nat.{ℕ, suc}
use native.Mathlib.Omega.{arith}
use mathlib.Core.List.{List, [], ◌∷◌}
use mathlib.Core.Logic.{inl, inr}
use Rattle.readers.specs.Stream.{Item, entry, terminator}
use Rattle.readers.specs.declared.cursor.Encoding.{Encoding}
use Rattle.readers.specs.declared.entries.Entry.{Entry}
use Rattle.marking.specs.Members.{Nth, now, later}
use Rattle.marking.specs.Analysis.{Sections, EntryRow}
use Rattle.marking.specs.EntryRows.{Tested, RowOf, RowsOf}
use Rattle.std.specs.Prelude.{Ok, Result}
use Rattle.marking.specs.declared.addresses.Verdict.{Verdict}
use Rattle.marking.specs.declared.addresses.Verdict.TheVariants.{Live, Dead}
use Rattle.laws.specs.KeepLists.{Decided}
use Rattle.laws.specs.UnitSurvivors.{EntryAt, next, behind_entry, behind_terminator}
use Rattle.laws.proofs.Keep.Treatments.{live-decided, dead-decided}

module _ (e : Encoding) (x : Sections) (unit : List ℕ) where
  -- the row of an entry
  pub record RowAt (y : Entry) (k : ℕ) (rows : List EntryRow) : Type 0 where
    pub row : EntryRow
    pub at : Nth row k rows
    pub stack : List ℕ
    pub rnglists_base : ℕ
    pub loclists_base : ℕ
    pub of : RowOf e x unit stack rnglists_base loclists_base y row

  further : {y : Entry} {k : ℕ} {r : EntryRow} {rows : List EntryRow} → RowAt y k rows → RowAt y (suc k) (r ∷ rows)
  further w =
      record { row = w.row; at = later w.at; stack = w.stack; rnglists_base = w.rnglists_base; loclists_base = w.loclists_base; of = w.of }

  pub row_at : (y : Entry) (k n : ℕ) (stack : List ℕ) (rb lb : ℕ) (items : List Item) (rows : List EntryRow) → EntryAt y k items
      → RowsOf e x unit n stack rb lb items rows → RowAt y k rows
  unfolding RowsOf
  row_at y k n stack rb lb [] rows at q = elim at [ ]
  row_at y k n stack rb lb (entry z ∷ rest) [] at q = absurd q
  row_at y k n stack rb lb (entry z ∷ rest) (r ∷ rows) next q =
      record { row = r; at = now refl; stack = stack; rnglists_base = rb; loclists_base = lb; of = q.0 }
  row_at y _ n stack rb lb (entry z ∷ rest) (r ∷ rows) (behind_entry {k = k'} at) q = further (row_at y k' _ _ _ _ rest rows at q.1)
  row_at y k n stack rb lb (terminator a b ∷ rest) rows (behind_terminator at) q = row_at y k n _ rb lb rest rows at q

-- ---- the verdict of a row

pub live-not-dead : ◌≡◌ {A = Result Verdict ℕ} (Ok Live) (Ok Dead) → ⊥
live-not-dead q = let z : ◌≡◌ {A = ℕ} 0 1 = cc in omega arith

pub not-dead-root : (v : Result Verdict ℕ) (root : ℕ) → Tested v root → (v ≡ Ok Dead → ⊥) → root ≡ 1
not-dead-root v root (inl q) n = q.1
not-dead-root v root (inr q) n = absurd (n q.0)

pub dead-no-root : (v : Result Verdict ℕ) (root : ℕ) → Tested v root → v ≡ Ok Dead → root ≡ 0
dead-no-root v root (inl q) d = absurd (live-not-dead (sym q.0 ∙ d))
dead-no-root v root (inr q) d = q.1

pub tested-decided : (v : Result Verdict ℕ) (root : ℕ) → Tested v root → Decided v
tested-decided v root (inl q) n r = live-decided n (sym q.0 ∙ r)
tested-decided v root (inr q) n r = dead-decided n (sym q.0 ∙ r)
