-- One item written anew: patched at its own widths, wherever it comes to stand and whatever stands around it, it is the same step, moved. Assumes nothing.
use mathlib.Core.Path.{◌≡◌, refl, ap, ap₂, sym, ◌∙◌}
use Prim.Native.Nat.{ℕ, ◌+◌, ◌-◌}
use mathlib.Core.Bool.{Bool}
use Rattle.std.specs.Prelude.{None, Option, Some}
use Rattle.readers.specs.declared.abbreviations.Declaration.{Declaration}
use mathlib.Core.List.{List, [], ◌∷◌, ◌++◌}
use mathlib.Core.Logic.{⊎_elim}
use native.Mathlib.Omega.{arith}
use lib.ListN.{length, drop}
use lib.Seq.{drop_at}
use lib.Dec.{eqb}
use Rattle.readers.proofs.Choice.{pick_yes, pick_no, either, all_of}
use Rattle.readers.specs.Layout.{Read, ExpressionReader, read_in, write_all, Patch, patch_all}
use Rattle.readers.proofs.LayoutLaws.{ExpressionLaw, ReadLaw, read-law, FitAll}
use Rattle.readers.specs.Fields.{size}
use Rattle.readers.specs.Cursors.{cursor}
use Rattle.readers.specs.Entries.{entry_layout, entry_found, step_of_reads, step_at}
use Rattle.readers.specs.declared.cursor.Encoding.{Encoding}
use Rattle.readers.specs.declared.entries.Entry.{Entry}
use Rattle.readers.specs.declared.entries.Step.TheVariants.{Entry as Entry', Terminator}
use Rattle.laws.specs.Moved.{moved_entry}
use Rattle.laws.specs.Inner.Moved.{moved_step}
use Rattle.rewriting.proofs.KeptPass.DeepReads.{like-width, like-patched, like-step, deep_step}

module _ (e : Encoding) (abbreviations : List ℕ) (look : ℕ → Option Declaration) where
  abbrev pub order : Bool
  order = e.big_endian

  -- ---- what was read, at another place

  moved-found : (at n w l : ℕ) (f : Option Declaration)
      → entry_found e abbreviations look n (n + w) (n + w + l) f ≡ moved_step at n (entry_found e abbreviations look at (at + w) (at + w + l) f)
  unfolding entry_found moved_step moved_entry
  moved-found at n w l (Some d) =
      ap₂ (λ (v m : ℕ). Some (Entry' (record { offset = record { 0 = n }; declaration = d; values = cursor v; next = cursor m })))
      (let q : n + w ≡ n + (at + w - at) = omega arith in q) (let q : n + w + l ≡ n + (at + w + l - at) = omega arith in q)
  moved-found at n w l None = refl

  pub moved-reads : (at n : ℕ) (rs : List Read) → step_of_reads e abbreviations look n rs ≡ moved_step at n (step_of_reads e abbreviations look at rs)
  unfolding step_of_reads moved_step
  moved-reads at n [] = refl
  moved-reads at n (c ∷ rs) =
      ⊎_elim
      (λ t. pick_yes _ _ _ t
      ∙ ap (λ (m : ℕ). Some (Terminator (cursor m))) (let q : n + size order c ≡ n + (at + size order c - at) = omega arith in q)
      ∙ sym (ap (moved_step at n) (pick_yes _ _ _ t)))
      (λ t. pick_no _ _ _ t
      ∙ moved-found at n (size order c) (length (write_all order rs)) (look c.seen)
      ∙ sym (ap (moved_step at n) (pick_no _ _ _ t)))
      (either (eqb c.seen 0))

  -- ---- written anew

  module _ (ex : ExpressionReader) (law : ExpressionLaw order ex) (unit : List ℕ) (at : ℕ) (rs : List Read) (rest : List ℕ)
      (deep : read_in order ex (entry_layout e abbreviations look) (drop at unit) ≡ Some (rs, rest))
      (f : Patch) (fit : FitAll f rs) (front back : List ℕ) where
    abbrev pub written : List ℕ
    written = write_all order (patch_all f rs)

    -- as wide as it was
    pub same_width : length written ≡ length (write_all order rs)
    same_width = like-width order (patch_all f rs) rs (like-patched order f rs)

    -- read deep it is what was read, patched
    pub deep-again : (n : ℕ) → length front ≡ n → read_in order ex (entry_layout e abbreviations look) (drop n (front ++ (written ++ back))) ≡ Some (patch_all f rs, back)
    deep-again n l =
        ap (read_in order ex (entry_layout e abbreviations look)) (drop_at front (written ++ back) n l)
        ∙ (all_of (ReadLaw order ex (entry_layout e abbreviations look) (drop at unit)) (read-law order ex law (entry_layout e abbreviations look) (drop at unit)) deep).1 f back fit

    -- THE step again: the same, moved
    pub step-again : (n : ℕ) → length front ≡ n → step_at e abbreviations look (front ++ (written ++ back)) n ≡ moved_step at n (step_at e abbreviations look unit at)
    step-again n l =
        deep_step e abbreviations look ex law (front ++ (written ++ back)) n (patch_all f rs) back (deep-again n l)
        ∙ like-step e abbreviations look n (patch_all f rs) rs (like-patched order f rs)
        ∙ moved-reads at n rs
        ∙ ap (moved_step at n) (sym (deep_step e abbreviations look ex law unit at rs rest deep))

    pub entry-again : (n : ℕ) → length front ≡ n → (x : Entry) → step_at e abbreviations look unit at ≡ Some (Entry' x)
        → step_at e abbreviations look (front ++ (written ++ back)) n ≡ Some (Entry' (moved_entry n x))
    unfolding moved_step
    entry-again n l x q = step-again n l ∙ ap (moved_step at n) q
