-- The counts of an answer, written.
use Prim.Native.Nat.{ℕ, ◌+◌, ◌*◌, ◌≤◌, ◌<◌}
use mathlib.Core.Path.{◌≡◌, ap, ap₂, sym, ◌∙◌}
use mathlib.Core.Bool.{Bool, true, false}
use mathlib.Core.List.{List, [], ◌∷◌, ◌++◌}
use native.Mathlib.Omega.{arith}
use lib.ListN.{length, length-replicate}
use borrow.Author.Tests.{lt-ltb, le-ltb}
use Rattle.readers.specs.Choice.{pick, zeros, put}
use Rattle.marking.specs.Columns.{pad_to}
use Rattle.rewriting.specs.Outputs.{Answer}
use Rattle.rewriting.specs.Written.{run_bytes}
use Rattle.rewriting.proofs.ListPass.Tables.{length_run, length-put}
use Rattle.rewriting.proofs.WritePass.UnitWritten.{out-is}
use Rattle.rewriting.specs.declared.collect.Counts.{Counts}
use Rattle.std.specs.Prelude.{Err, Ok}
use Rattle.rewriting.specs.declared.collect.Collected.TheVariants.{Untouched, Rewritten}
use Rattle.collector.specs.Call.{count_of, presence_of, numbers_of, presences_of, count_bytes, is_uncounted, accepted_counts, number_for, counts_for}

pub numbers-are : (c : Counts) (a b d : ℕ) → a ≡ count_of c.ranges → b ≡ count_of c.locations → d ≡ count_of c.strings
    → (c.entries ∷ c.kept ∷ c.places ∷ c.bytes ∷ a ∷ b ∷ d ∷ []) ≡ numbers_of c
numbers-are c a b d e f g =
    let at : List ℕ → List ℕ = λ l. c.entries ∷ c.kept ∷ c.places ∷ c.bytes ∷ l in
    ap (λ x. at (x ∷ b ∷ d ∷ [])) e ∙ ap (λ x. at (count_of c.ranges ∷ x ∷ d ∷ [])) f ∙ ap (λ x. at (count_of c.ranges ∷ count_of c.locations ∷ x ∷ [])) g

pub presences-are : (c : Counts) (a b d : ℕ) → a ≡ presence_of c.ranges → b ≡ presence_of c.locations → d ≡ presence_of c.strings → (a ∷ b ∷ d ∷ []) ≡ presences_of c
presences-are c a b d e f g = ap (λ x. x ∷ b ∷ d ∷ []) e ∙ ap (λ x. presence_of c.ranges ∷ x ∷ d ∷ []) f ∙ ap (λ x. presence_of c.ranges ∷ presence_of c.locations ∷ x ∷ []) g

-- two runs into zeros: the numbers, then a byte a list
pub counts-are : (c : Counts) (s s₁ s₂ ns ps : List ℕ) → ns ≡ numbers_of c → ps ≡ presences_of c → 59 ≤ length s → s ≡ zeros (length s)
    → (0 + 8 * length ns ≤ length s → s₁ ≡ put s 0 (run_bytes 8 ns)) → (56 + 1 * length ps ≤ length s₁ → s₂ ≡ put s₁ 56 (run_bytes 1 ps))
    → s₂ ≡ pad_to (length s) (count_bytes c)
unfolding count_bytes
counts-are c s s₁ s₂ ns ps en ep h z f g =
    let a : length ns ≡ 7 = ap length en in
    let b : length ps ≡ 3 = ap length ep in
    let l : length (run_bytes 8 ns) ≡ 56 = length_run 8 ns ∙ ap (λ (n : ℕ). 8 * n) a in
    let e₁ : s₁ ≡ put s 0 (run_bytes 8 ns) = f (omega arith) in
    let m : length s₁ ≡ length s = ap length e₁ ∙ length-put s 0 (run_bytes 8 ns) (omega arith) in
    out-is (run_bytes 8 ns) (run_bytes 1 ps) s s₁ s₂ 56 l z e₁ (g (omega arith))
    ∙ ap₂ (λ (x y : List ℕ). pad_to (length s) (run_bytes 8 x ++ run_bytes 1 y)) en ep

module _ (n : ℕ) where
  none : n < 59 → is_uncounted n ≡ true
  unfolding is_uncounted
  none h = lt-ltb n 59 h

  some : 59 ≤ n → is_uncounted n ≡ false
  unfolding is_uncounted
  some h = le-ltb n 59 h

  pub uncounted-number : (u k : ℕ) → n < 59 → u ≡ pick (is_uncounted n) u k
  unfolding pick
  uncounted-number u k h = sym (ap (λ (b : Bool). pick b u k) (none h))

  pub counted-number : (u k : ℕ) → 59 ≤ n → k ≡ pick (is_uncounted n) u k
  unfolding pick
  counted-number u k h = sym (ap (λ (b : Bool). pick b u k) (some h))

  pub uncounted-counts : (c : Counts) (s : List ℕ) → n < 59 → s ≡ zeros n → s ≡ accepted_counts n c
  unfolding pick accepted_counts
  uncounted-counts c s h e = e ∙ sym (ap (λ (b : Bool). pick b (zeros n) (pad_to n (count_bytes c))) (none h))

  pub counted-counts : (c : Counts) (s : List ℕ) → 59 ≤ n → s ≡ pad_to n (count_bytes c) → s ≡ accepted_counts n c
  unfolding pick accepted_counts
  counted-counts c s h e = e ∙ sym (ap (λ (b : Bool). pick b (zeros n) (pad_to n (count_bytes c))) (some h))

-- the number and the counts of an answer, from those of its case

same-zeros : (s₀ s₁ : List ℕ) → s₁ ≡ zeros (length s₀) → (length s₁ ≡ length s₀) × (s₁ ≡ zeros (length s₁))
same-zeros s₀ s₁ z =
    let l : length s₁ ≡ length s₀ = ap length z ∙ length-replicate (length s₀) 0 in
    (l, z ∙ ap (λ (n : ℕ). zeros n) (sym l))

module _ (answer : Answer) (c : Counts) (s₀ s₁ s₂ : List ℕ) (k : ℕ) where
  pub give-untouched : answer ≡ Ok (Untouched c) → s₁ ≡ zeros (length s₀) → k ≡ pick (is_uncounted (length s₁)) 258 256 → (s₁ ≡ zeros (length s₁) → s₂ ≡ accepted_counts (length s₁) c)
      → (k ≡ number_for (length s₀) answer) × (s₂ ≡ counts_for (length s₀) answer)
  unfolding number_for counts_for
  give-untouched e z f g =
      let l = same-zeros s₀ s₁ z in (
        f ∙ ap (λ (n : ℕ). pick (is_uncounted n) 258 256) l.0 ∙ ap (number_for (length s₀)) (sym e),
        g l.1 ∙ ap (λ (n : ℕ). accepted_counts n c) l.0 ∙ ap (counts_for (length s₀)) (sym e),
      )

  pub give-rewritten : answer ≡ Ok (Rewritten c) → s₁ ≡ zeros (length s₀) → k ≡ pick (is_uncounted (length s₁)) 259 257 → (s₁ ≡ zeros (length s₁) → s₂ ≡ accepted_counts (length s₁) c)
      → (k ≡ number_for (length s₀) answer) × (s₂ ≡ counts_for (length s₀) answer)
  unfolding number_for counts_for
  give-rewritten e z f g =
      let l = same-zeros s₀ s₁ z in (
        f ∙ ap (λ (n : ℕ). pick (is_uncounted n) 259 257) l.0 ∙ ap (number_for (length s₀)) (sym e),
        g l.1 ∙ ap (λ (n : ℕ). accepted_counts n c) l.0 ∙ ap (counts_for (length s₀)) (sym e),
      )

pub give-refused : (answer : Answer) (s₀ s₁ : List ℕ) (k : ℕ) → answer ≡ Err k → s₁ ≡ zeros (length s₀)
    → (k ≡ number_for (length s₀) answer) × (s₁ ≡ counts_for (length s₀) answer)
unfolding number_for counts_for
give-refused answer s₀ s₁ k e z = (ap (number_for (length s₀)) (sym e), z ∙ ap (counts_for (length s₀)) (sym e))
