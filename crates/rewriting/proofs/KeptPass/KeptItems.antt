-- What stands where a kept item starts: the entry that the answer shows, or a terminator. Assumes nothing.
use mathlib.Core.Path.{◌≡◌, refl, ap, ap₂, sym, ◌∙◌, subst}
use Prim.Native.Nat.{ℕ}
use native.Mathlib.Omega.{arith}
use mathlib.Core.Bool.{true, false}
use mathlib.Core.List.{List}
use Rattle.readers.specs.Cursors.{cursor}
use Rattle.readers.specs.Entries.{step_at}
use Rattle.readers.specs.Stream.{Item, entry, terminator}
use Rattle.readers.specs.declared.cursor.Encoding.{Encoding}
use Rattle.std.specs.Prelude.{Option, Some}
use Rattle.readers.specs.declared.abbreviations.Declaration.{Declaration}
use Rattle.readers.specs.declared.entries.Entry.{Entry}
use Rattle.readers.specs.declared.entries.Step.TheVariants.{Entry as Entry', Terminator}
use Rattle.rewriting.specs.Inner.NextKept.{open_kept, ShowsItem, NextItem}
use Rattle.rewriting.specs.declared.kept_items.PassPosition.{PassPosition}
use Rattle.rewriting.specs.declared.kept_items.KeptItem.{KeptItem}
use Rattle.rewriting.proofs.KeptPass.ItemDepths.{Every, Stands, kept-stand}
use Rattle.rewriting.proofs.KeptPass.KeptSteps.{items}

module _ (e : Encoding) (abbreviations : List ℕ) (look : ℕ → Option Declaration) (unit : List ℕ) where
  -- the item of an answer is the entry at its start
  pub record EntryShown (x : KeptItem) (i : Item) : Type 0 where
    pub it : Entry
    pub item : i ≡ entry it
    pub here : step_at e abbreviations look unit x.start.0 ≡ Some (Entry' it)
    pub end : x.end.at ≡ it.next.at
    pub specs : x.specs ≡ it.declaration.attributes
    pub values : x.values ≡ it.values

  pub record TerminatorShown (x : KeptItem) (i : Item) : Type 0 where
    pub item : i ≡ terminator x.start.0 x.end.at
    pub here : step_at e abbreviations look unit x.start.0 ≡ Some (Terminator (cursor x.end.at))

  entry_of : (x : KeptItem) (i : Item) → ShowsItem x i → Stands e abbreviations look unit i → x.is_entry ≡ true → EntryShown x i
  unfolding ShowsItem Stands
  entry_of x (entry y) h s q =
      record { it = y; item = refl; here = ap (step_at e abbreviations look unit) h.1 ∙ s; end = h.2; specs = h.3; values = h.4 }
  entry_of x (terminator a b) h s q = absurd (let z : true ≡ false = sym q ∙ h.0 in let n : ◌≡◌ {A = ℕ} 0 1 = cc in omega arith)

  terminator-of : (x : KeptItem) (i : Item) → ShowsItem x i → Stands e abbreviations look unit i → x.is_entry ≡ false → TerminatorShown x i
  unfolding ShowsItem Stands
  terminator-of x (entry y) h s q = absurd (let z : true ≡ false = sym h.0 ∙ q in let n : ◌≡◌ {A = ℕ} 0 1 = cc in omega arith)
  terminator-of x (terminator a b) h s q =
      record {
        item = ap₂ (λ (m n : ℕ). terminator m n) (sym h.1) (sym h.2);
        here = ap (step_at e abbreviations look unit) h.1 ∙ s ∙ ap (λ (n : ℕ). Some (Terminator (cursor n))) (sym h.2);
      }

  module _ (parents ends marks : List ℕ) (s : PassPosition) (stack : List ℕ) (x : KeptItem) (y : NextItem (items e abbreviations look unit) parents ends marks s stack x) where
    pub next-stands : Stands e abbreviations look unit y.standing.item
    unfolding Every
    next-stands = (subst (Every (λ t. Stands e abbreviations look unit t.item)) y.whole (kept-stand e abbreviations look unit marks s.count.0 (open_kept marks stack) s.at.at)).0

    pub next-entry : x.is_entry ≡ true → EntryShown x y.standing.item
    next-entry q = entry_of x y.standing.item y.shows next-stands q

    pub next-terminator : x.is_entry ≡ false → TerminatorShown x y.standing.item
    next-terminator q = terminator-of x y.standing.item y.shows next-stands q
