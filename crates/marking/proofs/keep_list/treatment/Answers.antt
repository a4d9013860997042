-- `treatment`: the tags ascend, so what the search finds is the tag. Assumes nothing.
use borrow.Author.Rules.{rules}
use Rattle.std.proofs.lemmas.List.Sorted.{answers_always}
use Rattle.marking.proofs.KeepLists.{tag_worth, listed-inside, treatment-found, treatment-missing}
use Rattle.marking.proofs.keep_list.treatment.Goals as goal

pub bounds-treatments-i : goal.bounds-treatments-i
bounds-treatments-i c = listed-inside _ _ c.requires _ c.as_chunks.ensures.front c.as_chunks.ensures.front_len _ c.in-Ok.ensures.bound

pub returns-in-Ok : goal.returns-in-Ok
returns-in-Ok c =
    treatment-found _ _ c.requires _ c.as_chunks.ensures.front c.as_chunks.ensures.front_len _ _ c.in-Ok.ensures.bound
    (c.in-Ok.ensures.position tag_worth (answers_always _ _ _ (λ f a r g k. search rules)))

pub returns-in-Err : goal.returns-in-Err
returns-in-Err c =
    treatment-missing _ _ c.requires _ c.as_chunks.ensures.front c.as_chunks.ensures.front_len _ _
    (c.in-Err.ensures.position tag_worth (answers_always _ _ _ (λ f a r g k. search rules)))
