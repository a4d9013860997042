-- A list that values are put into, one after the other: none, more, all, and a loop that puts them. Assumes nothing.
use mathlib.Core.Path.{◌≡◌, refl, ap, sym, ◌∙◌, subst}
use Prim.Native.Nat.{ℕ, ◌/◌, ◌<◌}
use native.Mathlib.Omega.{arith}
use mathlib.Core.Bool.{Bool}
use mathlib.Core.List.{List, [], ◌∷◌, ◌++◌, append_assoc, append-nil}
use lib.ListN.{length}
use borrow.Author.Tests.{eq-eqb, ne_eqb}
use Rattle.readers.specs.Choice.{pick}
use Rattle.rewriting.specs.Inner.Gathering.{Gathered, Gathers, Filled}
use Rattle.rewriting.specs.Inner.IndexLists.{kind_index}

-- by another list of its length
pub filled-along : (ys list list₀ : List ℕ) (n : ℕ) (after : List ℕ) → Filled ys list n after → length list ≡ length list₀ → Filled ys list₀ n after
filled-along ys list list₀ n after f l =
    let e : length list / 8 ≡ length list₀ / 8 = ap (λ (i : ℕ). i / 8) l in
    record { counted = λ o. f.counted (omega arith); holds = λ o. f.holds (omega arith); short = λ o. let s : length list / 8 < n = f.short (omega arith) in omega arith }

-- ---- one more

module _ (n : ℕ) (list : List ℕ) where
  pub puts_none : Gathers [] n list n list
  puts_none vs h = subst (λ (l : List ℕ). Gathered l list n) (sym (append-nil vs)) h

  -- by its kind
  module _ (v k i : ℕ) where
    pub puts-kind : i ≡ k → (m : ℕ) (after : List ℕ) → Gathers (v ∷ []) n list m after → Gathers (kind_index k i v) n list m after
    unfolding pick
    puts-kind q m after p vs h = subst (λ (b : Bool). Gathered (vs ++ pick b (v ∷ []) []) after m) (sym (eq-eqb i k q)) (p vs h)

    pub puts-other : (i ≡ k → ⊥) → Gathers (kind_index k i v) n list n list
    unfolding pick
    puts-other q vs h = subst (λ (b : Bool). Gathered (vs ++ pick b (v ∷ []) []) list n) (sym (ne_eqb i k q)) (puts_none vs h)

    pub puts-apart : (j : ℕ) → i ≡ j → (j ≡ k → ⊥) → Gathers (kind_index k i v) n list n list
    puts-apart j e q = puts-other (λ h. q (sym e ∙ h))

-- ---- a loop that puts values

module _ (whole : List ℕ) (n₀ : ℕ) (list₀ : List ℕ) where
  -- these are left
  pub record Onward (rest : List ℕ) (n : ℕ) (list : List ℕ) : Type 0 where
    pub done : List ℕ
    pub all : done ++ rest ≡ whole
    pub puts : Gathers done n₀ list₀ n list

  pub onward-start : Onward whole n₀ list₀
  onward-start = record { done = []; all = refl; puts = puts_none n₀ list₀ }

  module _ (rest : List ℕ) (n : ℕ) (list : List ℕ) (g : Onward rest n list) where
    pub onward-on : (rest' : List ℕ) → rest ≡ rest' → Onward rest' n list
    onward-on rest' e = subst (λ (l : List ℕ). Onward l n list) e g

    pub onward-more : (ws rest' : List ℕ) → rest ≡ ws ++ rest' → (m : ℕ) (after : List ℕ) → Gathers ws n list m after → Onward rest' m after
    onward-more ws rest' e m after p =
        record {
          done = g.done ++ ws;
          all = append_assoc g.done ws rest' ∙ ap (λ (l : List ℕ). g.done ++ l) (sym e) ∙ g.all;
          puts = λ vs h. subst (λ (l : List ℕ). Gathered l after m) (append_assoc vs g.done ws) (p (vs ++ g.done) (g.puts vs h));
        }

    pub onward-end : rest ≡ [] → Gathers whole n₀ list₀ n list
    onward-end e = subst (λ (ws : List ℕ). Gathers ws n₀ list₀ n list) (sym (append-nil g.done) ∙ ap (λ (l : List ℕ). g.done ++ l) (sym e) ∙ g.all) g.puts

  abbrev pub Filling : List ℕ → ℕ → List ℕ → Type 0
  Filling rest n list = (length list ≡ length list₀) × Onward rest n list
