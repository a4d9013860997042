-- Marks computed, by the definitions alone.
use mathlib.Core.Path.{◌≡◌, refl}
use mathlib.Core.List.{List, [], ◌∷◌}
use Prim.Native.Nat.{ℕ}
use Rattle.readers.specs.Choice.{pick, ◌and◌, ◌or◌}
use Rattle.marking.specs.Below.{any, every, tab, count}
use Rattle.readers.specs.Nesting.{no_parent}
use Rattle.marking.specs.Graph.{Graph, graph, is_parent, is_root, references, names, parent_fits, pair_fits}
use Rattle.marking.specs.Graph.{root_fits, well_formed, takes}
use Rattle.marking.specs.Markings.{climbs, is_descendant, named_by, is_top, is_live, justified}
use Rattle.marking.specs.Marks.{has, round, rounds, kept_of, mark_of, marks_of, is_kept, kept_count, mark_answer}
use Rattle.marking.specs.Marks.{end_marks}
use Rattle.std.specs.Prelude.{Err, Ok}

-- ---- the five-entry unit of document 01 under its address tables 01 00, 00 00, 00 01 and 01 01

abbrev five : List ℕ → Graph
five roots = graph (no_parent ∷ 0 ∷ 0 ∷ 0 ∷ 0 ∷ []) (1 ∷ 3 ∷ 4 ∷ 2 ∷ []) roots

five-entries :
    (end_marks (five (0 ∷ 1 ∷ 0 ∷ 0 ∷ 0 ∷ [])) 5 ≡ 2 ∷ 3 ∷ 1 ∷ 3 ∷ 1 ∷ [])
    × (end_marks (five (0 ∷ 0 ∷ 0 ∷ 0 ∷ 0 ∷ [])) 5 ≡ 2 ∷ 1 ∷ 1 ∷ 1 ∷ 1 ∷ [])
    × (end_marks (five (0 ∷ 0 ∷ 0 ∷ 0 ∷ 1 ∷ [])) 5 ≡ 2 ∷ 1 ∷ 3 ∷ 1 ∷ 3 ∷ [])
    × (end_marks (five (0 ∷ 1 ∷ 0 ∷ 0 ∷ 1 ∷ [])) 5 ≡ 2 ∷ 3 ∷ 3 ∷ 3 ∷ 3 ∷ [])
    × (mark_answer (five (0 ∷ 1 ∷ 0 ∷ 0 ∷ 0 ∷ [])) 5 ≡ Ok 3)
unfolding mark_answer kept_count is_kept count end_marks takes well_formed parent_fits pair_fits root_fits every marks_of mark_of
    kept_of rounds round has justified is_live is_top named_by is_descendant climbs names references is_root is_parent any tab
    pick ◌and◌ ◌or◌
five-entries = (refl, refl, refl, refl, refl)

-- ---- the first entry: retained though a root, its child is then live; live where it names itself; a dead entry's
-- reference to it changes nothing. And the reference of a retained entry keeps what it names.

first-entries :
    (end_marks (graph (no_parent ∷ 0 ∷ []) [] (1 ∷ 0 ∷ [])) 2 ≡ 2 ∷ 3 ∷ [])
    × (end_marks (graph (no_parent ∷ []) (0 ∷ 0 ∷ []) (0 ∷ [])) 1 ≡ 3 ∷ [])
    × (end_marks (graph (no_parent ∷ 0 ∷ []) (1 ∷ 0 ∷ []) (0 ∷ 0 ∷ [])) 2 ≡ 2 ∷ 1 ∷ [])
    × (end_marks (graph (no_parent ∷ 0 ∷ 1 ∷ 0 ∷ []) (1 ∷ 3 ∷ []) (0 ∷ 0 ∷ 1 ∷ 0 ∷ [])) 4 ≡ 2 ∷ 2 ∷ 3 ∷ 3 ∷ [])
unfolding end_marks takes well_formed parent_fits pair_fits root_fits every marks_of mark_of kept_of rounds round has justified
    is_live is_top named_by is_descendant climbs names references is_root is_parent any tab pick ◌and◌ ◌or◌
first-entries = (refl, refl, refl, refl)

-- ---- what is refused: a pair without entries, a parent that is its own child, a root of 2, a mark too few; an odd
-- last number is not judged

refusals :
    (mark_answer (graph [] (0 ∷ 0 ∷ []) []) 0 ≡ Err 16)
    × (mark_answer (graph (0 ∷ []) [] (0 ∷ [])) 1 ≡ Err 16)
    × (mark_answer (graph (no_parent ∷ []) [] (2 ∷ [])) 1 ≡ Err 16)
    × (mark_answer (graph (no_parent ∷ []) [] (0 ∷ [])) 0 ≡ Err 16)
    × (mark_answer (graph [] (7 ∷ []) []) 0 ≡ Ok 0)
unfolding mark_answer kept_count is_kept count takes well_formed parent_fits pair_fits root_fits every marks_of mark_of kept_of
    rounds round has justified is_live is_top named_by is_descendant climbs names references is_root is_parent any tab pick
    ◌and◌ ◌or◌
refusals = (refl, refl, refl, refl, refl)
