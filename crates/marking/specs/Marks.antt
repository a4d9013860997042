-- What `mark` answers (document 01, "mark"): 1 dead, 2 retained, 3 live, or 16.
use Rattle.std.specs.Prelude.{ℕ, zero, suc, List, Bool, length, get_or, replicate, eqb, leb, Err, Ok, Result}
use Rattle.readers.specs.Choice.{pick, ◌or◌}
use Rattle.marking.specs.Below.{tab, count}
use Rattle.marking.specs.Graph.{Graph, size, takes}
use Rattle.marking.specs.Markings.{justified, is_live, named_by}

-- what a list of 0 and 1 marks
unfoldable pub has : List ℕ → ℕ → Bool
has M i = eqb (get_or M i 0) 1

-- every marking that is accepted, at once
unfoldable pub round : Graph → List ℕ → List ℕ
round g M = tab (size g) (λ i. pick (has M i or justified g (has M) i) 1 0)

unfoldable pub rounds : Graph → ℕ → List ℕ → List ℕ
rounds g zero M = M
rounds g (suc k) M = rounds g k (round g M)

-- the survivors: each round but the last marks one more at least
unfoldable pub kept_of : Graph → List ℕ
kept_of g = rounds g (suc (size g)) (replicate (size g) 0)

-- "the first entry's mark is R (retained) unless a survivor's reference names it, even if it was a root"
unfoldable pub mark_of : Graph → List ℕ → ℕ → ℕ
mark_of g K i = pick (has K i) (pick (pick (eqb i 0) (named_by g (has K) 0) (is_live g (has K) i)) 3 2) 1

unfoldable pub marks_of : Graph → List ℕ
marks_of g = tab (size g) (mark_of g (kept_of g))

-- how many marks are retained or live
unfoldable pub is_kept : List ℕ → ℕ → Bool
is_kept m i = leb 2 (get_or m i 0)

unfoldable pub kept_count : List ℕ → ℕ
kept_count m = count (length m) (is_kept m)

-- what `mark` answers, and the marks that it leaves, where n are lent
unfoldable pub mark_answer : Graph → ℕ → Result ℕ ℕ
mark_answer g n = pick (takes g n) (Ok (kept_count (marks_of g))) (Err 16)

unfoldable pub end_marks : Graph → ℕ → List ℕ
end_marks g n = pick (takes g n) (marks_of g) (replicate n 0)
