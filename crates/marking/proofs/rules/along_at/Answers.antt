-- `along_at` meets its contract: what the reference names gets the mark that its holder's asks. Assumes nothing.
use Rattle.marking.proofs.Passes.{pair_inside, along-pass}
use Rattle.marking.proofs.rules.along_at.Goals as goal

pub raise-requires : goal.raise-requires
raise-requires c =
    let b = pair_inside c.args.pairs.now c.args.marks.now c.args.j c.requires.pairs_fit c.requires.j_in_bounds in
    record { s_in_bounds = b.0; t_in_bounds = b.1 }

pub returns : goal.returns
returns c = search along-pass
