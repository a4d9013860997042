-- What is read deep at the new places: what was read at the old ones, patched. Assumes nothing.
use mathlib.Core.Path.{◌≡◌, ap, ap₂, sym, ◌∙◌}
use Prim.Native.Nat.{ℕ, ◌+◌}
use Rattle.std.specs.Prelude.{Some}
use mathlib.Core.List.{List, [], ◌∷◌, ◌++◌, append_assoc}
use lib.ListN.{length, drop, length-append}
use lib.Seq.{drop_at}
use Rattle.readers.specs.Layout.{Read, patch_all, write_all}
use Rattle.readers.specs.Expression.{expression_in}
use Rattle.readers.proofs.Expression.{expression-law}
use Rattle.readers.specs.Abbreviations.{declared_in}
use Rattle.marking.specs.Analysis.{Sections}
use Rattle.rewriting.specs.Places.{NestedItem, offset_of, size_of, Place}
use Rattle.rewriting.specs.Rewriting.{Unit as Unit', reads_at, Lists, new_value, bytes_from}
use Rattle.laws.proofs.Again.Again.{deep-again}
use Rattle.rewriting.proofs.KeptPass.ItemDepths.{Every, deep_at}
use Rattle.laws.proofs.Again.Rereading.{Rewritable, deep-read, length-written}

-- a unit with other bytes
abbrev pub with_bytes : Unit' → List ℕ → Unit'
with_bytes u bytes = record { header = u.header; bytes = bytes; declared = u.declared }

module _ (x : Sections) (u : Unit') (lists : Lists) (places : List Place) where
  abbrev pub patched : NestedItem → List Read
  patched s = patch_all (new_value lists places s.depth) (reads_at x u (offset_of s.item))

  module _ (unit : List ℕ) where
    -- at each new place stands what was read, patched, and the next place follows
    unfoldable pub PatchedFrom : ℕ → List NestedItem → Type 0
    PatchedFrom n [] = Unit {0}
    PatchedFrom n (s ∷ kept) = (deep_at x (with_bytes u unit) n ≡ Some (patched s, drop (n + size_of s.item) unit)) × PatchedFrom (n + size_of s.item) kept

    pub reads-again : (kept : List NestedItem) → Every (Rewritable x u lists places) kept → (front : List ℕ) (n : ℕ) → length front ≡ n
        → unit ≡ front ++ bytes_from x u lists places kept → PatchedFrom n kept
    unfolding Every bytes_from PatchedFrom
    reads-again [] h front n l q = tt
    reads-again (s ∷ kept) h front n l q =
        let w : List ℕ = write_all u.header.encoding.big_endian (patched s) in
        let more : List ℕ = bytes_from x u lists places kept in
        let m : length (front ++ w) ≡ n + size_of s.item = length-append front w ∙ ap₂ ◌+◌ l (length-written x u lists places s h.0) in
        let q' : unit ≡ (front ++ w) ++ more = q ∙ sym (append_assoc front w more) in (
          ap (λ z. deep_at x (with_bytes u z) n) q
              ∙ deep-again u.header.encoding x.abbreviations (declared_in u.declared) (expression_in u.header.encoding) (expression-law u.header.encoding) u.bytes
              (offset_of s.item) (reads_at x u (offset_of s.item)) h.0.deep.run.1 (deep-read x u lists places s h.0) (new_value lists places s.depth) h.0.fit front more n l
              ∙ ap (λ (z : List ℕ). Some (patched s, z)) (sym (ap (drop (n + size_of s.item)) q' ∙ drop_at (front ++ w) more (n + size_of s.item) m)),
          reads-again kept h.1 (front ++ w) (n + size_of s.item) m q',
        )
